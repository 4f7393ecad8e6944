-- Whether windows can stand as they were saved: each can, one after another.
use Rattle.std.proofs.Common.{◌≡◌, ◌∙◌, ◌↔◌, ℕ, zero, suc, ◌+◌, Bool, true, false, List, [], ◌∷◌, Option, Some, None, length, refl, sym, ap, subst, arith}
use Rattle.std.specs.Prelude.{IsSome, IsTrue, slice_set}
use Rattle.std.specs.Bool.{OnFalse, OnTrue}
use Rattle.std.specs.List.{slice_get}
use Rattle.std.specs.Option.{option_and_then, option_map}
use Rattle.std.proofs.lemmas.Option.{same_Some}
use Rattle.guest_memory.specs.Memory.{Memory}
use Rattle.mmio_window.specs.Window.{WindowState}
use Rattle.snapshot.specs.declared.saved.SavedDevice.{SavedDevice}
use Rattle.device_list.specs.Device.{DeviceState}
use Rattle.device_list.specs.Saved.{device_window_restored, devices_restored, first_restored, with_window}

-- ---- there are as many devices

set_len : (l : List DeviceState) (n : ℕ) (d : DeviceState) → length (slice_set l n d) ≡ length l
set_len [] n d = refl
set_len (x ∷ l) zero d = refl
set_len (x ∷ l) (suc n) d = ap suc (set_len l n d)

window_len : (n : ℕ) (w : WindowState) (l new : List DeviceState) → with_window n w l ≡ Some new
    → length new ≡ length l
window_len n w l new is = by_found (slice_get l n) is
  where
    by_found : (found : Option DeviceState)
        → option_map (λ (d : DeviceState). slice_set l n (record d { window = w })) found ≡ Some new
        → length new ≡ length l
    by_found None is = absurd (cc is)
    by_found (Some d) is =
        ap (λ (xs : List DeviceState). length xs) (sym (same_Some (slice_set l n (record d { window = w })) new is))
        ∙ set_len l n (record d { window = w })

record Opened {A B : Type 0} (f : A → Option B) (x : Option A) (y : B) : Type 0 where
  inside : A
  there : x ≡ Some inside
  gives : f inside ≡ Some y

opened : {A B : Type 0} (f : A → Option B) (x : Option A) (y : B) → option_and_then f x ≡ Some y → Opened f x y
opened f None y is = absurd (cc is)
opened f (Some a) y is = record { inside = a; there = refl; gives = is }

first_len : (m : Memory) (n : ℕ) (saved : List SavedDevice) (l new : List DeviceState)
    → first_restored m n saved l ≡ Some new → length new ≡ length l
first_len m zero saved l new is = ap (λ (xs : List DeviceState). length xs) (sym (same_Some l new is))
first_len m (suc n) saved l new is =
    let of_device = opened _ (slice_get saved n) new is in
    let device = opened _ (slice_get l n) new of_device.gives in
    let window = opened _ (device_window_restored m of_device.inside device.inside) new device.gives in
    let before = opened (with_window n window.inside) (first_restored m n saved l) new window.gives in
    window_len n window.inside before.inside new before.gives
    ∙ first_len m n saved l before.inside before.there

some_there : (l mid : List DeviceState) (n : ℕ) (d : DeviceState) → length mid ≡ length l → slice_get l n ≡ Some d
    → IsSome (slice_get mid n)
some_there [] mid n d same there = absurd (cc there)
some_there (x ∷ l) [] n d same there = absurd (omega (arith, same))
some_there (x ∷ l) (y ∷ mid) zero d same there = refl
some_there (x ∷ l) (y ∷ mid) (suc n) d same there = some_there l mid n d (omega (arith, same)) there

-- ---- one more

still_some : {A B : Type 0} (f : A → B) (found : Option A) → IsSome found → IsSome (option_map f found)
still_some f None some = absurd (cc some)
still_some f (Some x) some = refl

pub one_stands : (m : Memory) (n : ℕ) (saved : List SavedDevice) (l : List DeviceState) (d : DeviceState)
    (w : WindowState) → IsSome (first_restored m n saved l) → slice_get l n ≡ Some d
    → IsSome (option_and_then (with_window n w) (first_restored m n saved l))
one_stands m n saved l d w some there = by_mid (first_restored m n saved l) refl some
  where
    by_mid : (found : Option (List DeviceState)) → first_restored m n saved l ≡ found → IsSome found
        → IsSome (option_and_then (with_window n w) found)
    by_mid None is some = absurd (cc some)
    by_mid (Some mid) is some =
        still_some (λ (e : DeviceState). slice_set mid n (record e { window = w })) (slice_get mid n)
        (some_there l mid n d (first_len m n saved l mid is) there)

-- ---- all of them

pub judged : (m : Memory) (saved : List SavedDevice) (read devices : List DeviceState) (result : Bool) → read ≡ devices
    → OnTrue result (IsSome (devices_restored m saved read)) → OnFalse result (devices_restored m saved read ≡ None)
    → IsTrue result ↔ IsSome (devices_restored m saved devices)
judged m saved read devices true seen stand fall =
    (λ yes. subst (λ (l : List DeviceState). IsSome (devices_restored m saved l)) seen stand, λ some. refl)
judged m saved read devices false seen stand fall =
    let none = subst (λ (l : List DeviceState). devices_restored m saved l ≡ None) seen fall in (
      λ yes. absurd (cc yes),
      λ some. absurd (let never = subst (λ (r : Option (List DeviceState)). IsSome r) none some in cc never),
    )
