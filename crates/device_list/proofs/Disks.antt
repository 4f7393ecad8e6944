-- Whatever is done to a device, each disk over the image stays as it is.
use Rattle.std.proofs.Common.{◌≡◌, ◌∙◌, ℕ, zero, suc, Bool, Option, Some, List, [], ◌∷◌, length, refl, sym, ap}
use Rattle.std.specs.Prelude.{None, slice_set}
use Rattle.std.specs.List.{slice_get}
use Rattle.std.specs.Option.{option_and_then, option_map, option_map_or}
use Rattle.guest_memory.specs.Memory.{Memory}
use Rattle.chain.specs.declared.budget.Budget.{Budget}
use Rattle.chain.specs.declared.budget.Progress.{Progress}
use Rattle.mmio_window.specs.declared.action.Action.{Action}
use Rattle.mmio_window.specs.declared.action.Action.TheVariants as action
use Rattle.mmio_window.specs.declared.stage.Stage.{Stage}
use Rattle.mmio_window.specs.Window.{WindowState}
use Rattle.mmio_window.specs.Writing.{action_of}
use Rattle.sector_cache.specs.Disk.{Disk}
use Rattle.snapshot.specs.declared.saved.SavedDevice.{SavedDevice}
use Rattle.block_device.specs.declared.device.BlockDevice.{BlockDevice}
use Rattle.block_device.specs.declared.operation.HostEvent.{HostEvent}
use Rattle.device_list.specs.Device.{DeviceState, Told, device_written, taking, linked, resized, received, supplied, with_model}
use Rattle.device_list.specs.Image.{DevicesServeImageTo, ServesIfImage, ServesImageTo, placed}
use Rattle.device_list.specs.List.{At, DevicesServeTo, ServesAny, changed_at, image_at}
use Rattle.device_list.specs.Model.{ModelState, Block, Console, Entropy, Image, Network, ModelServesTo, configured, image_of, without_sent}
use Rattle.device_list.specs.Saved.{device_window_restored, devices_restored, first_restored, with_window}

-- the disk that a device is, if it is one
abbrev disk_in : DeviceState → Option BlockDevice
disk_in d = image_of d.model

some_is : {A : Type 0} (x y : A) → Some x ≡ Some y → x ≡ y
some_is x y e = cc

-- ---- one of the list changes

set_keeps : (l : List DeviceState) (n o : ℕ) (d e : DeviceState) → slice_get l n ≡ Some d → disk_in e ≡ disk_in d
    → image_at o (slice_set l n e) ≡ image_at o l
set_keeps [] n o d e there same = refl
set_keeps (x ∷ l) zero zero d e there same = same ∙ ap disk_in (sym (some_is x d there))
set_keeps (x ∷ l) zero (suc o) d e there same = refl
set_keeps (x ∷ l) (suc n) zero d e there same = refl
set_keeps (x ∷ l) (suc n) (suc o) d e there same = set_keeps l n o d e there same

pub at_keeps : (Changes : Memory → Memory → DeviceState → DeviceState → Type 0) (o n : ℕ) (m m' : Memory)
    (old new : List DeviceState) → ((d e : DeviceState) → Changes m m' d e → disk_in e ≡ disk_in d)
    → At Changes n m m' old new → image_at o new ≡ image_at o old
at_keeps Changes o n m m' old new so a =
    ap (λ (l : List DeviceState). image_at o l) a.is
    ∙ set_keeps old n o a.before a.after a.there (so a.before a.after a.changes)

pub changed_keeps : (change : DeviceState → DeviceState) (o n : ℕ) (l : List DeviceState)
    → ((d : DeviceState) → disk_in (change d) ≡ disk_in d) → image_at o (changed_at change n l) ≡ image_at o l
changed_keeps change o n l so = looked (slice_get l n) refl
  where
    looked : (found : Option DeviceState) → slice_get l n ≡ found
        → image_at o (option_map_or (λ d. slice_set l n (change d)) found l) ≡ image_at o l
    looked None is = refl
    looked (Some d) is = set_keeps l n o d (change d) is (so d)

-- ---- what is done to a device

configured_keeps : (offset value : ℕ) (model : ModelState) → image_of (configured offset value model) ≡ image_of model
configured_keeps offset value (Entropy pool) = refl
configured_keeps offset value (Network card) = refl
configured_keeps offset value (Block disk) = refl
configured_keeps offset value (Console terminal) = refl
configured_keeps offset value (Image disk) = refl

taking_keeps : (does : Action) (model : ModelState) → image_of (taking does model) ≡ image_of model
taking_keeps (action.ConfigWrite offset width value) model = configured_keeps offset value model
taking_keeps (action.Notify q) model = refl
taking_keeps action.Reset model = refl
taking_keeps action.None model = refl

pub write_keeps : (o n offset width value : ℕ) (m : Memory) (l : List DeviceState)
    → image_at o (changed_at (device_written offset width value m) n l) ≡ image_at o l
write_keeps o n offset width value m l =
    changed_keeps (device_written offset width value m) o n l
    (λ d. taking_keeps (action_of offset width value d.window) d.model)

module _ (stage : Stage) (budget : Budget) (progress : Progress) (m m' : Memory) where
  model_keeps : (model : ModelState) (q : ℕ) (w w' : WindowState) (model' : ModelState)
      → ModelServesTo stage budget progress model q m m' w w' model' → image_of model' ≡ image_of model
  model_keeps (Entropy pool) zero w w' model' h = ap image_of h.is
  model_keeps (Entropy pool) (suc q) w w' model' h = ap image_of h.1.state
  model_keeps (Network card) q w w' model' h = ap image_of h.is
  model_keeps (Block disk) q w w' model' h = ap image_of h.is
  model_keeps (Console terminal) q w w' model' h = ap image_of h.is
  model_keeps (Image disk) q w w' model' h = ap image_of h.1.state

  served_keeps : (o n q : ℕ) (old new : List DeviceState) (found : Option DeviceState)
      → ServesAny found stage budget progress n q m m' old new → image_at o new ≡ image_at o old
  served_keeps o n q old new None h = ap (λ (l : List DeviceState). image_at o l) h.devices
  served_keeps o n q old new (Some x) h =
      at_keeps _ o n m m' old new (λ d e serves. model_keeps d.model q d.window e.window e.model serves) h

  image_served_keeps : (o n base : ℕ) (old new : List DeviceState) (disk disk' : Disk) (found : Option BlockDevice)
      → ServesIfImage found stage budget progress n base m m' old new disk disk'
      → image_at o new ≡ image_at o old
  image_served_keeps o n base old new disk disk' None h = ap (λ (l : List DeviceState). image_at o l) h.0.devices
  image_served_keeps o n base old new disk disk' (Some image) h =
      at_keeps (ServesImageTo stage budget progress (placed base image) disk disk') o n m m' old new
      (λ d e serves. ap image_of serves.model) h

pub service_keeps : (o n q : ℕ) (stage : Stage) (budget : Budget) (progress : Progress) (m m' : Memory)
    (old new : List DeviceState) → DevicesServeTo stage budget progress n q m m' old new
    → image_at o new ≡ image_at o old
service_keeps o n q stage budget progress m m' old new h =
    served_keeps stage budget progress m m' o n q old new (slice_get old n) h

pub image_keeps : (o n base : ℕ) (stage : Stage) (budget : Budget) (progress : Progress) (m m' : Memory)
    (old new : List DeviceState) (disk disk' : Disk)
    → DevicesServeImageTo stage budget progress n base m m' old new disk disk' → image_at o new ≡ image_at o old
image_keeps o n base stage budget progress m m' old new disk disk' h =
    image_served_keeps stage budget progress m m' o n base old new disk disk' (image_at n old) h

-- ---- what its host does

-- it changes the model so, and leaves the disk that it is
model_changed_keeps : (change : ModelState → ModelState) → ((model : ModelState) → image_of (change model) ≡ image_of model)
    → (o n : ℕ) (l : List DeviceState) → image_at o (changed_at (with_model change) n l) ≡ image_at o l
model_changed_keeps change so o n l = changed_keeps (with_model change) o n l (λ d. so d.model)

pub supply_keeps : (o n : ℕ) (bytes : List ℕ) (l : List DeviceState)
    → image_at o (changed_at (with_model (supplied bytes)) n l) ≡ image_at o l
supply_keeps o n bytes l = model_changed_keeps (supplied bytes) so o n l
  where
    so : (model : ModelState) → image_of (supplied bytes model) ≡ image_of model
    so (Entropy pool) = refl
    so (Network card) = refl
    so (Block disk) = refl
    so (Console terminal) = refl
    so (Image disk) = refl

pub reception_keeps : (o n : ℕ) (frame : List ℕ) (l : List DeviceState)
    → image_at o (changed_at (with_model (received frame)) n l) ≡ image_at o l
reception_keeps o n frame l = model_changed_keeps (received frame) so o n l
  where
    so : (model : ModelState) → image_of (received frame model) ≡ image_of model
    so (Entropy pool) = refl
    so (Network card) = refl
    so (Block disk) = refl
    so (Console terminal) = refl
    so (Image disk) = refl

pub taking_sent_keeps : (o n : ℕ) (l : List DeviceState)
    → image_at o (changed_at (with_model without_sent) n l) ≡ image_at o l
taking_sent_keeps o n l = model_changed_keeps without_sent so o n l
  where
    so : (model : ModelState) → image_of (without_sent model) ≡ image_of model
    so (Entropy pool) = refl
    so (Network card) = refl
    so (Block disk) = refl
    so (Console terminal) = refl
    so (Image disk) = refl

pub link_keeps : (o n : ℕ) (up : Bool) (l : List DeviceState)
    → image_at o (changed_at (linked up) n l) ≡ image_at o l
link_keeps o n up l = changed_keeps (linked up) o n l (λ d. so d.window d.model)
  where
    so : (w : WindowState) (model : ModelState)
        → disk_in (linked up (record { window = w; model = model })) ≡ image_of model
    so w (Entropy pool) = refl
    so w (Network card) = refl
    so w (Block disk) = refl
    so w (Console terminal) = refl
    so w (Image disk) = refl

pub size_keeps : (o n cols rows : ℕ) (l : List DeviceState)
    → image_at o (changed_at (resized cols rows) n l) ≡ image_at o l
size_keeps o n cols rows l = changed_keeps (resized cols rows) o n l (λ d. so d.window d.model)
  where
    so : (w : WindowState) (model : ModelState)
        → disk_in (resized cols rows (record { window = w; model = model })) ≡ image_of model
    so w (Entropy pool) = refl
    so w (Network card) = refl
    so w (Block disk) = refl
    so w (Console terminal) = refl
    so w (Image disk) = refl

pub word_keeps : (o n : ℕ) (said : HostEvent) (m m' : Memory) (old new : List DeviceState)
    → At (Told said) n m m' old new → image_at o new ≡ image_at o old
word_keeps o n said m m' old new =
    at_keeps (Told said) o n m m' old new (λ d e told. ap image_of told.is ∙ ap image_of (sym told.there))

-- ---- what is restored

record Opened {A B : Type 0} (f : A → Option B) (x : Option A) (y : B) : Type 0 where
  inside : A
  there : x ≡ Some inside
  gives : f inside ≡ Some y

opened : {A B : Type 0} (f : A → Option B) (x : Option A) (y : B) → option_and_then f x ≡ Some y → Opened f x y
opened f None y is = absurd (cc (is))
opened f (Some a) y is = record { inside = a; there = refl; gives = is }

window_keeps : (n : ℕ) (w : WindowState) (l new : List DeviceState) (o : ℕ) → with_window n w l ≡ Some new
    → image_at o new ≡ image_at o l
window_keeps n w l new o is = looked (slice_get l n) refl is
  where
    looked : (found : Option DeviceState) → slice_get l n ≡ found
        → option_map (λ (d : DeviceState). slice_set l n (record d { window = w })) found ≡ Some new
        → image_at o new ≡ image_at o l
    looked None at is = absurd (cc (is))
    looked (Some d) at is =
        ap (λ (l : List DeviceState). image_at o l) (sym (some_is _ new is))
        ∙ set_keeps l n o d (record d { window = w }) at refl

first_keeps : (m : Memory) (n : ℕ) (saved : List SavedDevice) (l new : List DeviceState) (o : ℕ)
    → first_restored m n saved l ≡ Some new → image_at o new ≡ image_at o l
first_keeps m zero saved l new o is = ap (λ (l : List DeviceState). image_at o l) (sym (some_is l new is))
first_keeps m (suc n) saved l new o is =
    let of_device = opened _ (slice_get saved n) new is in
    let device = opened _ (slice_get l n) new of_device.gives in
    let window = opened _ (device_window_restored m of_device.inside device.inside) new device.gives in
    let before = opened (with_window n window.inside) (first_restored m n saved l) new window.gives in
    window_keeps n window.inside before.inside new o before.gives
    ∙ first_keeps m n saved l before.inside o before.there

pub restore_keeps : (o : ℕ) (m : Memory) (saved : List SavedDevice) (old new : List DeviceState)
    → devices_restored m saved old ≡ Some new → image_at o new ≡ image_at o old
restore_keeps o m saved old new is = first_keeps m (length saved) saved old new o is
