-- Further devices take up what is saved of others of their description: each then has the other's window, and what waited in it.
use Rattle.std.proofs.Common.{◌≡◌, ◌∙◌, ℕ, zero, suc, ◌<◌, ◌≤◌, List, [], ◌∷◌, Option, Some, None, length, refl, sym, ap, subst, arith}
use Rattle.std.specs.Prelude.{All, slice_set}
use Rattle.std.specs.List.{AllZip, slice_get}
use Rattle.std.specs.Option.{option_and_then}
use Rattle.std.proofs.lemmas.List.Elements.{All-weaker}
use Rattle.guest_memory.specs.Memory.{Memory, SameRange}
use Rattle.mmio_window.specs.declared.device_kind.DeviceKind.{DeviceKind}
use Rattle.mmio_window.specs.DeviceKind.{device_id_of}
use Rattle.mmio_window.specs.Saved.{saved_window, window_restored}
use Rattle.mmio_window.specs.Window.{WindowState}
use Rattle.snapshot.specs.declared.saved.SavedDevice.{SavedDevice}
use Rattle.device_list.specs.Device.{DeviceState, IsSoundDevice}
use Rattle.device_list.specs.List.{AreSoundDevices}
use Rattle.device_list.specs.Model.{ModelState, kind_of}
use Rattle.device_list.specs.Saved.{RestoresEach, SuitDevices, SuitsDevice, device_window_restored, devices_restored, first_restored, identity_of, mac_of, mtu_of, saved_device, saved_devices, sectors_of, with_window}
use Rattle.device_list.specs.Waiting.{AreMadeAlike, AreOfTypes, emptied, refilled_devices, waiting_of}
use Rattle.device_list.proofs.Refilling.{alike, refilled_is}
use Rattle.board.specs.Saved.{IsLikeDevice, IsOffering, IsTakenAgain, as_devices, devices_taken_up, with_windows_of}
use Rattle.board.proofs.SameRange.{window_over}

-- ---- they suit

suits_one : (d e : DeviceState) → IsLikeDevice d e → IsOffering d → IsOffering e → SuitsDevice (saved_device d) e
suits_one d e like here there = record {
  device_id = ap device_id_of (sym like.kind);
  mac = sym like.mac;
  mtu = sym like.mtu;
  sectors = sym like.sectors;
  identity = sym like.identity;
  offered = here ∙ (sym like.features ∙ sym there);
}

pub suit_each : (ds es : List DeviceState) → AllZip IsLikeDevice ds es → All IsOffering ds → All IsOffering es
    → SuitDevices (saved_devices ds) es
suit_each [] [] like here there = tt
suit_each [] (e ∷ es) like here there = absurd like
suit_each (d ∷ ds) [] like here there = absurd like
suit_each (d ∷ ds) (e ∷ es) like here there = (
  suits_one d e like.0 (here 0 d (omega arith)) (there 0 e (omega arith)),
  suit_each ds es like.1 (λ k x lt. here (suc k) x (omega arith)) (λ k x lt. there (suc k) x (omega arith)),
)

pub offering : (m : Memory) (devices : List DeviceState) → AreSoundDevices m devices → All IsOffering devices
offering m devices sound = All-weaker (IsSoundDevice m) IsOffering (λ d is. is.offers) devices sound

-- ---- each then has the other's window

-- the first devices, so many, with the windows of others, and the rest
abbrev mixed : ℕ → List DeviceState → List DeviceState → List DeviceState
mixed zero ds es = es
mixed (suc n) [] es = es
mixed (suc n) (d ∷ ds) [] = []
mixed (suc n) (d ∷ ds) (e ∷ es) = record e { window = d.window } ∷ mixed n ds es

record At (m : Memory) (ds es : List DeviceState) (n : ℕ) : Type 0 where
  d : DeviceState
  e : DeviceState
  saved : slice_get (saved_devices ds) n ≡ Some (saved_device d)
  there : slice_get es n ≡ Some e
  kind : kind_of e.model ≡ kind_of d.model
  back : device_window_restored m (saved_device d) d ≡ Some d.window
  others : slice_get (mixed n ds es) n ≡ Some e
  set : slice_set (mixed n ds es) n (record e { window = d.window }) ≡ mixed (suc n) ds es

at : (m : Memory) (ds es : List DeviceState) (n : ℕ) → AllZip IsLikeDevice ds es → RestoresEach m ds
    → n < length (saved_devices ds) → At m ds es n
at m [] es n like each lt = absurd (omega arith)
at m (d ∷ ds) [] n like each lt = absurd like
at m (d ∷ ds) (e ∷ es) zero like each lt = record {
  d = d;
  e = e;
  saved = refl;
  there = refl;
  kind = like.0.kind;
  back = each.0;
  others = refl;
  set = refl;
}
at m (d ∷ ds) (e ∷ es) (suc n) like each lt =
    let a = at m ds es n like.1 each.1 (omega arith) in record {
      d = a.d;
      e = a.e;
      saved = a.saved;
      there = a.there;
      kind = a.kind;
      back = a.back;
      others = a.others;
      set = ap (λ (xs : List DeviceState). record e { window = d.window } ∷ xs) a.set;
    }

first_is : (m : Memory) (ds es : List DeviceState) (n : ℕ) → AllZip IsLikeDevice ds es → RestoresEach m ds
    → n ≤ length (saved_devices ds) → first_restored m n (saved_devices ds) es ≡ Some (mixed n ds es)
first_is m ds es zero like each le = refl
first_is m ds es (suc n) like each le =
    let a = at m ds es n like each (omega arith) in
    let before = first_is m ds es n like each (omega arith) in
    let back : window_restored (kind_of a.e.model) m (saved_window a.d.window) ≡ Some a.d.window =
    subst (λ (kind : DeviceKind). window_restored kind m (saved_window a.d.window) ≡ Some a.d.window)
    (sym a.kind) a.back in
    rw (a.saved, a.there, back, before, a.others) (ap (λ (l : List DeviceState). Some l) a.set)

all_mixed : (ds es : List DeviceState) → AllZip IsLikeDevice ds es
    → mixed (length (saved_devices ds)) ds es ≡ with_windows_of ds es
all_mixed [] [] like = refl
all_mixed [] (e ∷ es) like = absurd like
all_mixed (d ∷ ds) [] like = absurd like
all_mixed (d ∷ ds) (e ∷ es) like =
    ap (λ (l : List DeviceState). record e { window = d.window } ∷ l) (all_mixed ds es like.1)

pub windows_are : (m : Memory) (ds es : List DeviceState) → RestoresEach m ds → AllZip IsLikeDevice ds es
    → devices_restored m (saved_devices ds) es ≡ Some (with_windows_of ds es)
windows_are m ds es each like =
    first_is m ds es (length (saved_devices ds)) like each (omega arith)
    ∙ ap (λ (l : List DeviceState). Some l) (all_mixed ds es like)

-- ---- and what waited in it

like_types : (ds es : List DeviceState) → AllZip IsLikeDevice ds es → AreOfTypes ds (with_windows_of ds es)
like_types [] [] like = tt
like_types [] (e ∷ es) like = absurd like
like_types (d ∷ ds) [] like = absurd like
like_types (d ∷ ds) (e ∷ es) like = (sym like.0.kind, like_types ds es like.1)

pub devices_are : (m : Memory) (ds es : List DeviceState) → RestoresEach m ds → IsTakenAgain ds
    → AllZip IsLikeDevice ds es
    → devices_taken_up m (saved_devices ds) (waiting_of ds) es ≡ Some (as_devices ds es)
devices_are m ds es each again like =
    ap (λ (found : Option (List DeviceState)). option_and_then (refilled_devices (waiting_of ds)) found)
    (windows_are m ds es each like)
    ∙ again (with_windows_of ds es) (like_types ds es like)

-- without their windows they aren't taken up
pub no_windows : (found : Option (List DeviceState)) (waiting : Option (List ℕ)) (new : List DeviceState)
    → found ≡ None → option_and_then (refilled_devices waiting) found ≡ Some new → ⊥
no_windows None waiting new none is = absurd (cc is)
no_windows (Some mid) waiting new none is = absurd (cc none)

-- ---- where both were made alike, they are then the first

made_like : (d e : DeviceState) → emptied d.model ≡ emptied e.model → IsLikeDevice d e
made_like d e is =
    let same = alike d.model e.model is in record {
      kind = sym same.kind;
      mac = sym same.mac;
      mtu = sym same.mtu;
      sectors = sym same.sectors;
      identity = sym same.identity;
      features = sym same.features;
    }

pub like_made : (ds es : List DeviceState) → AreMadeAlike ds es → AllZip IsLikeDevice ds es
like_made [] [] alike = tt
like_made [] (e ∷ es) alike = absurd alike
like_made (d ∷ ds) [] alike = absurd alike
like_made (d ∷ ds) (e ∷ es) alike = (made_like d e alike.0, like_made ds es alike.1)

abbrev device_of : WindowState → ModelState → DeviceState
device_of window model = record { window = window; model = model }

pub devices_back : (ds es : List DeviceState) → AreMadeAlike ds es → as_devices ds es ≡ ds
devices_back [] [] alike = refl
devices_back [] (e ∷ es) alike = absurd alike
devices_back (d ∷ ds) [] alike = absurd alike
devices_back (d ∷ ds) (e ∷ es) alike =
    ap (λ (model : ModelState). device_of d.window model ∷ as_devices ds es)
    (refilled_is d.model e.model alike.0)
    ∙ ap (λ (l : List DeviceState). d ∷ l) (devices_back ds es alike.1)

-- ---- over another memory of the same range

-- device n has its window as it was saved, behind these first ones
abbrev next_restored : Memory → ℕ → Option (List DeviceState) → Option SavedDevice → Option DeviceState
    → Option (List DeviceState)
next_restored m n before saved device =
    option_and_then (λ of_device.
    option_and_then (λ device.
    option_and_then (λ window. option_and_then (with_window n window) before)
    (device_window_restored m of_device device)) device) saved

next_over : (m n : Memory) (count : ℕ) (before : Option (List DeviceState)) (saved : Option SavedDevice)
    (device : Option DeviceState) → SameRange m n
    → next_restored n count before saved device ≡ next_restored m count before saved device
next_over m n count before None device same = refl
next_over m n count before (Some s) None same = refl
next_over m n count before (Some s) (Some d) same =
    ap (λ (found : Option WindowState). option_and_then (λ window. option_and_then (with_window count window) before) found)
    (window_over (kind_of d.model) m n s.window same)

first_over : (m n : Memory) (count : ℕ) (saved : List SavedDevice) (devices : List DeviceState) → SameRange m n
    → first_restored n count saved devices ≡ first_restored m count saved devices
first_over m n zero saved devices same = refl
first_over m n (suc count) saved devices same =
    ap (λ (before : Option (List DeviceState)). next_restored n count before (slice_get saved count) (slice_get devices count))
    (first_over m n count saved devices same)
    ∙ next_over m n count (first_restored m count saved devices) (slice_get saved count) (slice_get devices count) same

pub devices_over : (m n : Memory) (saved : List SavedDevice) (devices : List DeviceState) → SameRange m n
    → devices_restored n saved devices ≡ devices_restored m saved devices
devices_over m n saved devices same = first_over m n (length saved) saved devices same

pub taken_up_over : (m n : Memory) (saved : List SavedDevice) (waiting : Option (List ℕ)) (devices : List DeviceState)
    → SameRange m n → devices_taken_up n saved waiting devices ≡ devices_taken_up m saved waiting devices
taken_up_over m n saved waiting devices same =
    ap (λ (found : Option (List DeviceState)). option_and_then (refilled_devices waiting) found)
    (devices_over m n saved devices same)
