-- Devices stay sound where the bytes of the memory change, and where one of them does its part.
use Rattle.std.proofs.Common.{◌≡◌, ℕ, List, refl, sym, ◌∙◌, subst}
use Rattle.std.specs.Prelude.{◌&&◌, ◌||◌, IsSome, ◌<◌, [], ◌∷◌, ◌++◌, Bool, true, false, if◌then◌else◌, get_or, length, slice_set}
use Rattle.std.proofs.lemmas.List.Elements.{All-cons, All-get_or, All-head, All-nil, All-push, All-set, All-tail, All-weaker}
use Rattle.guest_memory.specs.Memory.{Memory, SameRange}
use Rattle.mmio_window.proofs.Soundness.{IsSound-same_range}
use Rattle.mmio_window.proofs.Devices.{KeepsDevice, KeepsDevice-written}
use Rattle.mmio_window.specs.Soundness.{IsSound}
use Rattle.mmio_window.specs.Window.{WindowState}
use Rattle.mmio_window.specs.Writing.{written}
use Rattle.device_list.specs.declared.spec.DeviceSpec.{DeviceSpec}
use Rattle.device_list.specs.Device.{DeviceState, IsSoundDevice, fresh_device}
use Rattle.racing_window.specs.Memory.{window_fits}
use Rattle.racing_window.proofs.Fitting.{sound_again}
use Rattle.device_list.specs.List.{AreSoundDevices, are_at_work, devices_fit}
use Rattle.hosted_disk.specs.Disk.{fresh_disk}
use Rattle.block_device.proofs.Freeing.{none_in_flight}
use Rattle.hosted_disk.proofs.Flights.{idle_held, keeps_all, still_held, written_held}
use Rattle.device_list.specs.declared.spec.DeviceSpec.TheVariants as spec
use Rattle.device_list.specs.Model.{ModelState, Block, Console, Entropy, Image, Network, IsHeld, KeepsModel, features_of, fresh_model, image_of, is_at_work, kind_of, must_wait}

-- a device that was sound is so with this window and this model
pub made_sound : (m m' : Memory) (d : DeviceState) (w : WindowState) (model : ModelState) → IsSoundDevice m d
    → w.kind ≡ d.window.kind → w.negotiation.offered ≡ d.window.negotiation.offered
    → kind_of d.model ≡ kind_of model → features_of d.model ≡ features_of model → IsSound m' w
    → IsHeld m' w model → IsSoundDevice m' (record { window = w; model = model })
made_sound m m' d w model sound kind offered same_kind same_features here held = record {
  kind = kind ∙ sound.kind ∙ same_kind;
  offers = offered ∙ sound.offers ∙ same_features;
  window = here;
  held = held;
}

-- ---- what is in flight of a disk is held

-- wherever the memory lies in the same range
held_over : (m m' : Memory) (w : WindowState) (model : ModelState) → SameRange m m' → IsHeld m w model
    → IsHeld m' w model
held_over m m' w (Block disk) range held = still_held m m' w w disk range (keeps_all w) held
held_over m m' w (Entropy pool) range held = tt
held_over m m' w (Network card) range held = tt
held_over m m' w (Console terminal) range held = tt
held_over m m' w (Image disk) range held = tt

-- and where nothing is in flight
pub held_idle : (m : Memory) (w : WindowState) (model : ModelState) → is_at_work model ≡ false → IsHeld m w model
held_idle m w (Block disk) idle = idle_held m w disk idle
held_idle m w (Entropy pool) idle = tt
held_idle m w (Network card) idle = tt
held_idle m w (Console terminal) idle = tt
held_idle m w (Image disk) idle = tt

-- nothing is in flight of a disk over the image
held_of_image : (m : Memory) (w : WindowState) (model : ModelState) → IsSome (image_of model) → IsHeld m w model
held_of_image m w (Image disk) some = tt
held_of_image m w (Block disk) none = absurd (cc none)
held_of_image m w (Entropy pool) none = tt
held_of_image m w (Network card) none = tt
held_of_image m w (Console terminal) none = tt

-- behind a write that doesn't wait
held_written : (offset width value : ℕ) (m : Memory) (w : WindowState) (model : ModelState)
    → must_wait offset model ≡ false → IsHeld m w model → IsHeld m (written offset width value m w) model
held_written offset width value m w (Block disk) free held = written_held offset width value m w disk free held
held_written offset width value m w (Entropy pool) free held = tt
held_written offset width value m w (Network card) free held = tt
held_written offset width value m w (Console terminal) free held = tt
held_written offset width value m w (Image disk) free held = tt

-- in a window as after a reset
held_fresh : (m : Memory) (w : WindowState) (spec : DeviceSpec) → IsHeld m w (fresh_model spec)
held_fresh m w spec.Entropy = tt
held_fresh m w (spec.Network mac mtu) = tt
held_fresh m w (spec.Block sectors read_only identity depth) =
    idle_held m w (fresh_disk sectors read_only identity depth) (none_in_flight _ depth)
held_fresh m w (spec.Console cols rows) = tt
held_fresh m w (spec.Image extent read_only identity) = tt

pub sound_over : (m m' : Memory) (d : DeviceState) → SameRange m m' → IsSoundDevice m d → IsSoundDevice m' d
sound_over m m' d range sound = record {
  kind = sound.kind;
  offers = sound.offers;
  window = IsSound-same_range m m' d.window range sound.window;
  held = held_over m m' d.window d.model range sound.held;
}

-- a write that doesn't wait leaves a device's window its device's
pub written_sound : (m : Memory) (d : DeviceState) (offset width value : ℕ) (w : WindowState) (model : ModelState)
    → w ≡ written offset width value m d.window → must_wait offset d.model ≡ false → KeepsModel d.model model
    → (IsSound m d.window → IsSound m w) → IsSoundDevice m d
    → IsSoundDevice m (record { window = w; model = model })
written_sound m d offset width value w model is free keeps stays sound =
    let same = subst (λ (v : WindowState). KeepsDevice d.window v) (sym is)
    (KeepsDevice-written offset width value m d.window) in
    made_sound m m d w model sound same.kind same.offered (sym keeps.kind) (sym keeps.features) (stays sound.window)
    (keeps.held m w (rw is (held_written offset width value m d.window d.model free sound.held)))

pub keeps_itself : (model : ModelState) → KeepsModel model model
keeps_itself model = record { kind = refl; features = refl; held = λ m w held. held }

-- a disk over the image stays sound with its window as a service leaves it
pub image_sound : (m m' : Memory) (d : DeviceState) (w w' : WindowState) (model : ModelState)
    → ◌≡◌ {A = DeviceState} (record { window = w; model = model }) d → IsSome (image_of d.model) → IsSoundDevice m d
    → KeepsDevice w w' → IsSound m' w' → IsSoundDevice m' (record { window = w'; model = model })
image_sound m m' d w w' model is some sound same here =
    let was = subst (λ (e : DeviceState). IsSoundDevice m e) (sym is) sound in
    let over = subst (λ (e : DeviceState). IsSome (image_of e.model)) (sym is) some in
    made_sound m m' (record { window = w; model = model }) w' model was same.kind same.offered refl refl here
    (held_of_image m' w' model over)

-- ---- each of them

pub still_sound : (m m' : Memory) (devices : List DeviceState) → SameRange m m' → AreSoundDevices m devices
    → AreSoundDevices m' devices
still_sound m m' devices range sound =
    All-weaker (IsSoundDevice m) (IsSoundDevice m') (λ found was. sound_over m m' found range was) devices sound

pub one_sound : (m : Memory) (devices : List DeviceState) (i : ℕ) (d : DeviceState) → AreSoundDevices m devices
    → i < length devices → d ≡ get_or devices i d → IsSoundDevice m d
one_sound m devices i d sound within is =
    subst (λ (found : DeviceState). IsSoundDevice m found) (sym is) (All-get_or (IsSoundDevice m) devices i d within sound)

-- where one of them changed, and the memory with it
pub all_sound : (m m' : Memory) (devices old : List DeviceState) (i : ℕ) (d : DeviceState) → devices ≡ old
    → SameRange m m' → AreSoundDevices m old → IsSoundDevice m' d → AreSoundDevices m' (slice_set devices i d)
all_sound m m' devices old i d is range sound here =
    rw is (All-set (IsSoundDevice m') old i d here (still_sound m m' old range sound))

-- where it changed alone
pub one_changed : (m : Memory) (devices old : List DeviceState) (i : ℕ) (d e : DeviceState) → devices ≡ old
    → i < length devices → d ≡ get_or devices i d → (IsSoundDevice m d → IsSoundDevice m e) → AreSoundDevices m old
    → AreSoundDevices m (slice_set devices i e)
one_changed m devices old i d e is within found stays sound =
    let was = one_sound m devices i d (rw is sound) within found in
    all_sound m m devices old i e is (record { base = refl; size = refl; gaps = refl }) sound (stays was)

-- over another memory that each of them fits, where nothing is in flight
pub fitting_sound : (new m : Memory) (devices : List DeviceState) → devices_fit new devices ≡ true
    → are_at_work devices ≡ false → AreSoundDevices m devices → AreSoundDevices new devices
fitting_sound new m [] fits idle sound = All-nil (IsSoundDevice new)
fitting_sound new m (d ∷ ds) fits idle sound =
    let each = both (window_fits new d.window) (devices_fit new ds) fits in
    let none = neither (is_at_work d.model) (are_at_work ds) idle in
    let first = All-head (IsSoundDevice m) d ds sound in
    All-cons (IsSoundDevice new) d ds (record {
      kind = first.kind;
      offers = first.offers;
      window = sound_again m new d.window each.0 first.window;
      held = held_idle new d.window d.model none.0;
    }) (fitting_sound new m ds each.1 none.1 (All-tail (IsSoundDevice m) d ds sound))
  where
    both : (one other : Bool) → (one && other) ≡ true → (one ≡ true) × (other ≡ true)
    both true other is = (refl, is)
    both false other is = absurd (cc is)

    neither : (one other : Bool) → (one || other) ≡ false → (one ≡ false) × (other ≡ false)
    neither true other is = absurd (cc is)
    neither false other is = (refl, is)

-- a device as after a reset is sound, wherever its memory is
pub fresh_sound : (m : Memory) (spec : DeviceSpec) → IsSoundDevice m (fresh_device spec)
fresh_sound m spec = record {
  kind = refl;
  offers = refl;
  window = record { queue_0 = tt; queue_1 = tt };
  held = held_fresh m (fresh_device spec).window spec;
}

-- and so is it behind others, if it is added
pub added_sound : (m : Memory) (devices after : List DeviceState) (d : DeviceState) (spec : DeviceSpec) (added : Bool)
    → d ≡ fresh_device spec → after ≡ (if added then devices ++ d ∷ [] else devices) → AreSoundDevices m devices
    → AreSoundDevices m after
added_sound m devices after d spec true fresh is sound =
    rw (is, fresh) (All-push (IsSoundDevice m) devices (fresh_device spec) sound (fresh_sound m spec))
added_sound m devices after d spec false fresh is sound = rw is sound
