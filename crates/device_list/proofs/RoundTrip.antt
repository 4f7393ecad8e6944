-- Devices of the same models take up what is saved of devices: they are then those.
use Rattle.std.proofs.Common.{◌≡◌, ◌∙◌, ℕ, zero, suc, ◌<◌, ◌≤◌, List, [], ◌∷◌, Some, length, refl, sym, ap, subst, arith}
use Rattle.std.specs.Prelude.{slice_set}
use Rattle.std.specs.List.{slice_get}
use Rattle.guest_memory.specs.Memory.{Memory}
use Rattle.mmio_window.specs.Saved.{saved_window, window_restored}
use Rattle.device_list.specs.Device.{DeviceState}
use Rattle.device_list.specs.Model.{ModelState, kind_of}
use Rattle.device_list.specs.Saved.{AreOfModels, RestoresEach, device_window_restored, devices_restored, first_restored, saved_device, saved_devices}

-- the first devices of one list, so many, and the others of another
abbrev mixed : ℕ → List DeviceState → List DeviceState → List DeviceState
mixed zero ds es = es
mixed (suc n) (d ∷ ds) (e ∷ es) = d ∷ mixed n ds es
mixed (suc n) ds es = es

record At (m : Memory) (ds es : List DeviceState) (n : ℕ) : Type 0 where
  d : DeviceState
  e : DeviceState
  saved : slice_get (saved_devices ds) n ≡ Some (saved_device d)
  there : slice_get es n ≡ Some e
  model : e.model ≡ d.model
  back : device_window_restored m (saved_device d) d ≡ Some d.window
  others : slice_get (mixed n ds es) n ≡ Some e
  set : slice_set (mixed n ds es) n d ≡ mixed (suc n) ds es

at : (m : Memory) (ds es : List DeviceState) (n : ℕ) → AreOfModels ds es → RestoresEach m ds
    → n < length (saved_devices ds) → At m ds es n
at m [] es n same each lt = absurd (omega arith)
at m (d ∷ ds) [] n same each lt = absurd same
at m (d ∷ ds) (e ∷ es) zero same each lt = record {
  d = d;
  e = e;
  saved = refl;
  there = refl;
  model = sym same.0;
  back = each.0;
  others = refl;
  set = refl;
}
at m (d ∷ ds) (e ∷ es) (suc n) same each lt =
    let a = at m ds es n same.1 each.1 (omega arith) in record {
      d = a.d;
      e = a.e;
      saved = a.saved;
      there = a.there;
      model = a.model;
      back = a.back;
      others = a.others;
      set = ap (λ (xs : List DeviceState). d ∷ xs) a.set;
    }

first_is : (m : Memory) (ds es : List DeviceState) (n : ℕ) → AreOfModels ds es → RestoresEach m ds
    → n ≤ length (saved_devices ds) → first_restored m n (saved_devices ds) es ≡ Some (mixed n ds es)
first_is m ds es zero same each le = refl
first_is m ds es (suc n) same each le =
    let a = at m ds es n same each (omega arith) in
    let before = first_is m ds es n same each (omega arith) in
    let back : window_restored (kind_of a.e.model) m (saved_window a.d.window) ≡ Some a.d.window =
    subst (λ (model : ModelState). window_restored (kind_of model) m (saved_window a.d.window) ≡ Some a.d.window)
    (sym a.model) a.back in
    let is : ◌≡◌ {A = DeviceState} (record { window = a.d.window; model = a.e.model }) a.d =
    ap (λ (model : ModelState). record { window = a.d.window; model = model }) a.model in
    rw (a.saved, a.there, back, before, a.others)
    (ap (λ (d : DeviceState). Some (slice_set (mixed n ds es) n d)) is
    ∙ ap (λ (l : List DeviceState). Some l) a.set)

all_mixed : (ds es : List DeviceState) → AreOfModels ds es → mixed (length (saved_devices ds)) ds es ≡ ds
all_mixed [] [] same = refl
all_mixed [] (e ∷ es) same = absurd same
all_mixed (d ∷ ds) [] same = absurd same
all_mixed (d ∷ ds) (e ∷ es) same = ap (λ (l : List DeviceState). d ∷ l) (all_mixed ds es same.1)

pub round_trip : (m : Memory) (ds es : List DeviceState) → RestoresEach m ds → AreOfModels ds es
    → devices_restored m (saved_devices ds) es ≡ Some ds
round_trip m ds es each same =
    first_is m ds es (length (saved_devices ds)) same each (omega arith)
    ∙ ap (λ (l : List DeviceState). Some l) (all_mixed ds es same)
