-- Further devices that take up what was saved: each is as it was, but for its window and for what waits in it.
use Rattle.std.proofs.Common.{◌≡◌, ◌∙◌, ℕ, zero, suc, List, [], ◌∷◌, Option, Some, None, length, refl, sym, ap, subst}
use Rattle.std.specs.Prelude.{IsSome, false, slice_set}
use Rattle.std.specs.List.{AllZip, slice_get}
use Rattle.std.specs.Option.{option_and_then, option_map}
use Rattle.std.proofs.lemmas.Option.{same_Some}
use Rattle.guest_memory.specs.Memory.{Memory}
use Rattle.mmio_window.specs.Window.{WindowState}
use Rattle.network_device.specs.Saved.{◌>>=◌, Reader}
use Rattle.snapshot.specs.declared.saved.SavedDevice.{SavedDevice}
use Rattle.device_list.specs.Device.{DeviceState}
use Rattle.device_list.specs.List.{disk_at}
use Rattle.device_list.specs.Model.{Block, Console, Entropy, Image, ModelState, Network, disk_of}
use Rattle.device_list.specs.Saved.{AreOfModels, device_window_restored, devices_restored, first_restored, with_window}
use Rattle.device_list.specs.Waiting.{◌&◌, emptied, made, refilled, refilled_devices, refilled_each, whole}
use Rattle.device_list.proofs.Refilling.{IsRefilled, refilled_are_alike}
use Rattle.board.specs.Backing.{KeepsHost, held_disk}
use Rattle.board.specs.Saved.{devices_taken_up}

-- ---- windows leave the models

same_models : (ds : List DeviceState) → AreOfModels ds ds
same_models [] = tt
same_models (d ∷ ds) = (refl, same_models ds)

then_models : (one mid other : List DeviceState) → AreOfModels one mid → AreOfModels mid other → AreOfModels one other
then_models [] [] [] first second = tt
then_models [] [] (e ∷ other) first second = absurd second
then_models [] (m ∷ mid) other first second = absurd first
then_models (d ∷ one) [] other first second = absurd first
then_models (d ∷ one) (m ∷ mid) [] first second = absurd second
then_models (d ∷ one) (m ∷ mid) (e ∷ other) first second =
    (first.0 ∙ second.0, then_models one mid other first.1 second.1)

put_models : (ds : List DeviceState) (n : ℕ) (d : DeviceState) (w : WindowState) → slice_get ds n ≡ Some d
    → AreOfModels ds (slice_set ds n (record d { window = w }))
put_models [] n d w there = absurd (cc there)
put_models (e ∷ ds) zero d w there =
    (ap (λ (x : DeviceState). x.model) (same_Some e d there), same_models ds)
put_models (e ∷ ds) (suc n) d w there = (refl, put_models ds n d w there)

-- what a step of several gives, if there is one
record Opened {A B : Type 0} (f : A → Option B) (x : Option A) (y : B) : Type 0 where
  inside : A
  there : x ≡ Some inside
  gives : f inside ≡ Some y

opened : {A B : Type 0} (f : A → Option B) (x : Option A) (y : B) → option_and_then f x ≡ Some y → Opened f x y
opened f None y is = absurd (cc is)
opened f (Some a) y is = record { inside = a; there = refl; gives = is }

window_models : (n : ℕ) (w : WindowState) (ds new : List DeviceState) → with_window n w ds ≡ Some new
    → AreOfModels ds new
window_models n w ds new is = looked (slice_get ds n) refl is
  where
    looked : (found : Option DeviceState) → slice_get ds n ≡ found
        → option_map (λ (d : DeviceState). slice_set ds n (record d { window = w })) found ≡ Some new
        → AreOfModels ds new
    looked None there is = absurd (cc is)
    looked (Some d) there is =
        subst (AreOfModels ds) (same_Some (slice_set ds n (record d { window = w })) new is) (put_models ds n d w there)

first_models : (m : Memory) (n : ℕ) (saved : List SavedDevice) (ds new : List DeviceState)
    → first_restored m n saved ds ≡ Some new → AreOfModels ds new
first_models m zero saved ds new is = subst (AreOfModels ds) (same_Some ds new is) (same_models ds)
first_models m (suc n) saved ds new is =
    let of_device = opened _ (slice_get saved n) new is in
    let device = opened _ (slice_get ds n) new of_device.gives in
    let window = opened _ (device_window_restored m of_device.inside device.inside) new device.gives in
    let before = opened (with_window n window.inside) (first_restored m n saved ds) new window.gives in
    then_models ds before.inside new (first_models m n saved ds before.inside before.there)
    (window_models n window.inside before.inside new before.gives)

pub restored_models : (m : Memory) (saved : List SavedDevice) (ds new : List DeviceState)
    → devices_restored m saved ds ≡ Some new → AreOfModels ds new
restored_models m saved ds new is = first_models m (length saved) saved ds new is

-- ---- and have no part in whether bytes can be taken up

-- the bytes that are left
abbrev left_of : {A : Type 0} → Option (A × List ℕ) → Option (List ℕ)
left_of found = option_map (λ x. x.1) found

left_made : {A B : Type 0} (make : A → B) (read : Reader A) (bytes : List ℕ)
    → left_of (made make read bytes) ≡ left_of (read bytes)
left_made {A} {B} make read bytes = by_found (read bytes)
  where
    by_found : (found : Option (A × List ℕ))
        → left_of {A = B} (◌>>=◌ {B = B × List ℕ} found (λ x. Some (make x.0, x.1))) ≡ left_of found
    by_found None = refl
    by_found (Some x) = refl

left_both : {A B : Type 0} (first : Reader A) (second : Reader B) (bytes : List ℕ)
    → left_of ((first & second) bytes) ≡ option_and_then (λ mid. left_of (second mid)) (left_of (first bytes))
left_both {A} {B} first second bytes = by_first (first bytes)
  where
    by_second : (x : A) (found : Option (B × List ℕ))
        → left_of {A = A × B} (◌>>=◌ {B = (A × B) × List ℕ} found (λ y. Some ((x, y.0), y.1))) ≡ left_of found
    by_second x None = refl
    by_second x (Some y) = refl

    by_first : (found : Option (A × List ℕ))
        → left_of {A = A × B} (◌>>=◌ {B = (A × B) × List ℕ} found (λ x.
        ◌>>=◌ {B = (A × B) × List ℕ} (second x.1) (λ y. Some ((x.0, y.0), y.1))))
        ≡ option_and_then (λ mid. left_of (second mid)) (left_of found)
    by_first None = refl
    by_first (Some x) = by_second x.0 (second x.1)

step_alike : (f g : List ℕ → Option (List ℕ)) → ((mid : List ℕ) → f mid ≡ g mid) → (found : Option (List ℕ))
    → option_and_then f found ≡ option_and_then g found
step_alike f g same None = refl
step_alike f g same (Some mid) = same mid

left_step : (d : DeviceState) (ds : List DeviceState) (bytes : List ℕ)
    → left_of (refilled_each (d ∷ ds) bytes)
    ≡ option_and_then (λ mid. left_of (refilled_each ds mid)) (left_of (refilled d.model bytes))
left_step d ds bytes =
    left_made (λ (x : ModelState × List DeviceState). record d { model = x.0 } ∷ x.1) (refilled d.model & refilled_each ds) bytes
    ∙ left_both (refilled d.model) (refilled_each ds) bytes

left_alike : (ds es : List DeviceState) (bytes : List ℕ) → AreOfModels ds es
    → left_of (refilled_each ds bytes) ≡ left_of (refilled_each es bytes)
left_alike [] [] bytes same = refl
left_alike [] (e ∷ es) bytes same = absurd same
left_alike (d ∷ ds) [] bytes same = absurd same
left_alike (d ∷ ds) (e ∷ es) bytes same =
    left_step d ds bytes
    ∙ (step_alike (λ mid. left_of (refilled_each ds mid)) (λ mid. left_of (refilled_each es mid))
    (λ mid. left_alike ds es mid same.1) (left_of (refilled d.model bytes))
    ∙ (ap (λ (model : ModelState). option_and_then (λ mid. left_of (refilled_each es mid)) (left_of (refilled model bytes))) same.0
    ∙ sym (left_step e es bytes)))

whole_alike : {A B : Type 0} (one : Option (A × List ℕ)) (other : Option (B × List ℕ)) → left_of one ≡ left_of other
    → IsSome (whole one) → IsSome (whole other)
whole_alike None other same some = absurd (cc some)
whole_alike (Some (x, (byte ∷ rest))) other same some = absurd (cc some)
whole_alike (Some (x, [])) None same some = absurd (cc same)
whole_alike (Some (x, [])) (Some (y, [])) same some = refl
whole_alike (Some (x, [])) (Some (y, (byte ∷ rest))) same some = absurd (cc same)

pub may_refill : (waiting : Option (List ℕ)) (m : Memory) (saved : List SavedDevice) (old mid : List DeviceState)
    → devices_restored m saved old ≡ Some mid → IsSome (refilled_devices waiting old) → IsSome (refilled_devices waiting mid)
may_refill None m saved old mid is can = refl
may_refill (Some bytes) m saved old mid is can =
    whole_alike (refilled_each old bytes) (refilled_each mid bytes)
    (left_alike old mid bytes (restored_models m saved old mid is)) can

none_refilled : (waiting : Option (List ℕ)) (old mid : List DeviceState) → AreOfModels old mid
    → (IsSome (refilled_devices waiting old) → ⊥) → refilled_devices waiting mid ≡ None
none_refilled None old mid same never = absurd (never refl)
none_refilled (Some bytes) old mid same never = by_whole (whole (refilled_each mid bytes)) refl
  where
    by_whole : (found : Option (List DeviceState)) → whole (refilled_each mid bytes) ≡ found → found ≡ None
    by_whole None is = refl
    by_whole (Some new) is =
        absurd (never (whole_alike (refilled_each mid bytes) (refilled_each old bytes) (sym (left_alike old mid bytes same))
        (rw is refl)))

pub may_not_refill : (waiting : Option (List ℕ)) (m : Memory) (saved : List SavedDevice) (old : List DeviceState)
    → IsSome (devices_restored m saved old) → (IsSome (refilled_devices waiting old) → ⊥)
    → devices_taken_up m saved waiting old ≡ None
may_not_refill waiting m saved old some never = by_mid (devices_restored m saved old) refl some
  where
    by_mid : (found : Option (List DeviceState)) → devices_restored m saved old ≡ found → IsSome found
        → option_and_then (refilled_devices waiting) found ≡ None
    by_mid None is some = absurd (cc some)
    by_mid (Some mid) is some = none_refilled waiting old mid (restored_models m saved old mid is) never

pub taken_up_is : (waiting : Option (List ℕ)) (m : Memory) (saved : List SavedDevice) (old mid new : List DeviceState)
    → devices_restored m saved old ≡ Some mid → refilled_devices waiting mid ≡ Some new
    → devices_taken_up m saved waiting old ≡ Some new
taken_up_is waiting m saved old mid new restored refilled =
    ap (λ (found : Option (List DeviceState)). option_and_then (refilled_devices waiting) found) restored ∙ refilled

-- ---- what waits leaves the disks, but for whether they are on hold

-- each device is the disk that the other is
abbrev pub AreOfHosts : List DeviceState → List DeviceState → Type 0
AreOfHosts devices others = AllZip (λ d e. KeepsHost (disk_of d.model) (disk_of e.model)) devices others

-- of a device that is as it was made the disk is what it was, on hold or not
emptied_host : (model : ModelState) → option_map (held_disk false) (disk_of model) ≡ disk_of (emptied model)
emptied_host (Entropy pool) = refl
emptied_host (Network card) = refl
emptied_host (Block disk) = refl
emptied_host (Console terminal) = refl
emptied_host (Image disk) = refl

same_host : (new old : ModelState) → emptied new ≡ emptied old → KeepsHost (disk_of old) (disk_of new)
same_host new old is = emptied_host new ∙ (ap disk_of is ∙ sym (emptied_host old))

then_hosts : (old mid new : List DeviceState) → AreOfModels old mid → AllZip IsRefilled new mid → AreOfHosts old new
then_hosts [] [] [] first second = tt
then_hosts [] [] (e ∷ new) first second = absurd second
then_hosts [] (m ∷ mid) new first second = absurd first
then_hosts (d ∷ old) [] new first second = absurd first
then_hosts (d ∷ old) (m ∷ mid) [] first second = absurd second
then_hosts (d ∷ old) (m ∷ mid) (e ∷ new) first second = (
  same_host e.model d.model (second.0.alike ∙ ap emptied (sym first.0)),
  then_hosts old mid new first.1 second.1,
)

pub taken_hosts : (m : Memory) (saved : List SavedDevice) (waiting : Option (List ℕ)) (old new : List DeviceState)
    → devices_taken_up m saved waiting old ≡ Some new → AreOfHosts old new
taken_hosts m saved waiting old new is =
    let mid = opened (refilled_devices waiting) (devices_restored m saved old) new is in
    then_hosts old mid.inside new (restored_models m saved old mid.inside mid.there)
    (refilled_are_alike waiting mid.inside new mid.gives)

-- the disk of this number is then as it was, on hold or not
pub host_at : (n : ℕ) (old new : List DeviceState) → AreOfHosts old new → KeepsHost (disk_at n old) (disk_at n new)
host_at n [] [] same = refl
host_at n [] (e ∷ new) same = absurd same
host_at n (d ∷ old) [] same = absurd same
host_at zero (d ∷ old) (e ∷ new) same = same.0
host_at (suc n) (d ∷ old) (e ∷ new) same = host_at n old new same.1
