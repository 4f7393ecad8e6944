-- A device with its window, and what its driver and its host do to it.
use Rattle.std.specs.Prelude.{◌≡◌, ℕ, Bool, if◌then◌else◌, Option, Some, None, is_some, List}
use Rattle.guest_memory.specs.Memory.{Memory}
use Rattle.chain.specs.declared.budget.Budget.{Budget}
use Rattle.chain.specs.declared.budget.Progress.{Progress}
use Rattle.mmio_window.specs.declared.stage.Stage.{Stage}
use Rattle.mmio_window.specs.declared.action.Action.{Action}
use Rattle.mmio_window.specs.declared.action.Action.TheVariants.{ConfigWrite, Notify}
use Rattle.mmio_window.specs.Reading.{read_value}
use Rattle.mmio_window.specs.Soundness.{IsSound}
use Rattle.mmio_window.specs.Window.{WindowState, fresh_window, with_config_changed}
use Rattle.mmio_window.specs.Writing.{action_of, written}
use Rattle.device_list.specs.declared.spec.DeviceSpec.{DeviceSpec}
use Rattle.device_list.specs.Card.{with_frame, with_link}
use Rattle.block_device.specs.declared.operation.HostEvent.{HostEvent}
use Rattle.hosted_disk.specs.Disk.{HostedDisk}
use Rattle.hosted_disk.specs.Told.{DoesAsTold}
use Rattle.racing_service.specs.declared.service.Limits.{Limits}
use Rattle.served_memory.specs.World.{World}
use Rattle.device_list.specs.Model.{ModelState, Block, IsHeld, ModelServesIn, ModelServesTo, Serves, config_of, configured, features_of, fresh_model, kind_of, sent_of, supplied_model, taken_of, with_card, with_terminal, without_sent}
use Rattle.device_list.specs.Terminal.{with_size}

-- a device: its window, and what stands behind it
pub record DeviceState : Type 0 where
  pub window : WindowState
  pub model : ModelState

-- a device as after a reset, for which nothing waits
abbrev pub fresh_device : DeviceSpec → DeviceState
fresh_device spec = record {
  window = fresh_window (kind_of (fresh_model spec)) (features_of (fresh_model spec)) 0;
  model = fresh_model spec;
}

-- The window is that of its device, of its kind and offering what it offers, and sound for the memory: its ready
-- queues lie in it. What is in flight of a disk is held.
pub record IsSoundDevice (m : Memory) (d : DeviceState) : Type 0 where
  pub kind : d.window.kind ≡ kind_of d.model
  pub offers : d.window.negotiation.offered ≡ features_of d.model
  pub window : IsSound m d.window
  pub held : IsHeld m d.window d.model

-- what a read of its window gives (4.2.2)
abbrev pub register_of : ℕ → ℕ → DeviceState → ℕ
register_of offset width d = read_value offset width (config_of d.model) d.window

-- the device serves its queue of this number
abbrev pub ServesDevice : ℕ → Memory → Memory → DeviceState → DeviceState → Type 0
ServesDevice q m m' d d' = Serves d.model q m m' d.window d'.window d'.model

-- or a piece of that
abbrev pub DeviceServesTo : Stage → Budget → Progress → ℕ → Memory → Memory → DeviceState → DeviceState → Type 0
DeviceServesTo stage budget progress q m m' d d' =
    ModelServesTo stage budget progress d.model q m m' d.window d'.window d'.model

-- or one over any memory
abbrev pub DeviceServesIn : (world : World) → Stage → Limits → Progress → ℕ → world.Seen → world.Seen → DeviceState
    → DeviceState → Type 0
DeviceServesIn world stage limits progress q m m' d d' =
    ModelServesIn world stage limits progress d.model q m m' d.window d'.window d'.model

-- the queue that a write of its window notifies, if it does
abbrev pub notified_by : Action → Option ℕ
notified_by (Notify q) = Some q
notified_by action = None

-- what stands behind its window, which takes a write to its configuration
abbrev pub taking : Action → ModelState → ModelState
taking (ConfigWrite offset width value) model = configured offset value model
taking action model = model

-- the device once its registers were written
abbrev pub device_written : ℕ → ℕ → ℕ → Memory → DeviceState → DeviceState
device_written offset width value m d = record {
  window = written offset width value m d.window;
  model = taking (action_of offset width value d.window) d.model;
}

-- a device of which this queue was notified, if one was, serves that
abbrev pub ServesNotified : Option ℕ → Memory → Memory → DeviceState → DeviceState → Type 0
ServesNotified (Some q) m m' d d' = ServesDevice q m m' d d'
ServesNotified None m m' d d' = (m' ≡ m) × (d' ≡ d)

-- A driver writes to the window: its registers are written, and then the device does its part.
abbrev pub Writes : ℕ → ℕ → ℕ → Memory → Memory → DeviceState → DeviceState → Type 0
Writes offset width value m m' d d' =
    ServesNotified (notified_by (action_of offset width value d.window)) m m' (device_written offset width value m d) d'

-- the device where its host changed so what stands behind the window
abbrev pub with_model : (ModelState → ModelState) → DeviceState → DeviceState
with_model change d = record d { model = change d.model }

-- how many of these bytes the device takes, if it takes any
abbrev pub supply_taken : List ℕ → DeviceState → Option ℕ
supply_taken bytes d = taken_of d.model bytes

-- The host changes the model so, and the device then serves its queue of this number.
abbrev pub ServesAfter : (ModelState → ModelState) → ℕ → Memory → Memory → DeviceState → DeviceState → Type 0
ServesAfter change q m m' d d' = ServesDevice q m m' (with_model change d) d'

-- The host supplies these bytes: the device takes those that fit, and then serves its queue 0.
abbrev pub supplied : List ℕ → ModelState → ModelState
supplied bytes model = supplied_model model bytes

abbrev pub Supplies : List ℕ → Memory → Memory → DeviceState → DeviceState → Type 0
Supplies bytes = ServesAfter (supplied bytes) 0

-- The host hands in a frame: it waits in the card, which then serves its receive queue (5.1.2).
abbrev pub received : List ℕ → ModelState → ModelState
received frame = with_card (with_frame frame)

abbrev pub Receives : List ℕ → Memory → Memory → DeviceState → DeviceState → Type 0
Receives frame = ServesAfter (received frame) 0

-- whether more waits behind what the host takes of it
abbrev pub has_more_sent : DeviceState → Bool
has_more_sent d = is_some (sent_of (without_sent d.model))

-- the queue for which there is room once the host took that: the transmit queue, where nothing more waits
abbrev pub freed_by : DeviceState → Option ℕ
freed_by d = if has_more_sent d then None else Some 1

-- The host takes what the driver sent. Where nothing more waits, the device then serves its transmit queue.
abbrev pub TakesSent : Memory → Memory → DeviceState → DeviceState → Type 0
TakesSent m m' d d' = ServesNotified (freed_by d) m m' (with_model without_sent d) d'

-- The link of a card goes up or down: its configuration changed (5.1.4).
abbrev pub linked : Bool → DeviceState → DeviceState
linked up d = record {
  window = with_config_changed d.window;
  model = with_card (with_link up) d.model;
}

-- A console gets another size: its configuration changed (5.3.4).
abbrev pub resized : ℕ → ℕ → DeviceState → DeviceState
resized cols rows d = record {
  window = with_config_changed d.window;
  model = with_terminal (with_size cols rows) d.model;
}

-- The host says this of the disk that it serves: it does as it is told.
pub record Told (said : HostEvent) (m m' : Memory) (d d' : DeviceState) : Type 0 where
  pub before : HostedDisk
  pub after : HostedDisk
  pub there : d.model ≡ Block before
  pub does : DoesAsTold said before m m' d.window d'.window after
  pub is : d'.model ≡ Block after
