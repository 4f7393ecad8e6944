-- A piece of a service leaves what is in flight of each disk that the host serves: other devices keep it, and such a disk
-- looks at its queue.
use Rattle.std.proofs.Common.{◌≡◌, inl, inr, ℕ, zero, suc, ◌==◌, Bool, true, false, get_or, Option, Some, None, List, refl, sym, ◌∙◌, ap}
use Rattle.std.specs.Prelude.{if◌then◌else◌}
use Rattle.std.specs.List.{slice_get}
use Rattle.std.specs.Option.{option_and_then}
use Rattle.guest_memory.specs.Memory.{Memory}
use Rattle.chain.specs.declared.budget.Budget.{Budget}
use Rattle.chain.specs.declared.budget.Progress.{Progress}
use Rattle.chain.specs.declared.budget.Progress.TheVariants as progress
use Rattle.mmio_window.specs.declared.stage.Stage.{Stage}
use Rattle.mmio_window.specs.declared.stage.Stage.TheVariants.{First, Next}
use Rattle.mmio_window.specs.declared.queue.Queue.{Queue}
use Rattle.mmio_window.specs.Window.{WindowState}
use Rattle.mmio_window.specs.Writing.{action_of}
use Rattle.sector_cache.specs.Disk.{Disk}
use Rattle.block_device.specs.declared.device.BlockDevice.{BlockDevice}
use Rattle.block_device.specs.declared.operation.HostEvent.{HostEvent}
use Rattle.block_device.specs.declared.operation.HostEvent.TheVariants.{Drop}
use Rattle.block_device.specs.Flights.{InFlight}
use Rattle.device_list.specs.Card.{with_frame}
use Rattle.device_list.specs.Device.{DeviceState, device_written, received, supplied, with_model}
use Rattle.device_list.specs.List.{DevicesServeTo, ServesAny}
use Rattle.device_list.specs.Model.{Block, Console, Entropy, Image, ModelServesTo, ModelState, Network, disk_of, without_sent}
use Rattle.board.specs.declared.event.DeviceEvent.{DeviceEvent}
use Rattle.board.specs.declared.event.DeviceEvent.TheVariants.{Write, Supply, Receive, TakeSent, DropSent}
use Rattle.board.specs.declared.event.EventKind.{EventKind}
use Rattle.board.specs.declared.event.EventKind.TheVariants as event
use Rattle.board.specs.declared.event.SlotWindow.TheVariants as window
use Rattle.board.specs.declared.pause.Pause.{Pause}
use Rattle.board.specs.declared.pause.Service.{Service}
use Rattle.board.specs.declared.pause.Service.TheVariants as service
use Rattle.board.specs.declared.pause.Turn.{Turn}
use Rattle.board.specs.declared.pause.Turn.TheVariants as turn
use Rattle.board.specs.Devices.{devices_readied}
use Rattle.board.specs.HostedDisks.{LeavesTagOf, said_of}
use Rattle.board.specs.Units.{Further, Own, SlotDisk, in_flight_of}
use Rattle.board.specs.Hosting.{tag_of}
use Rattle.board.specs.Image.{Health}
use Rattle.board.specs.ImageDisks.{ServesImageDisk, device_readied, image_served}
use Rattle.board.specs.Machine.{readied, with_input, with_write}
use Rattle.board.specs.Pausing.{Begins, ComesTo, GoesOn, GoesOnBy, IsPiece, IsPieceAtDevice, TurnsTo, asked, is_hosts}
use Rattle.board.specs.Slot.{SlotState}
use Rattle.board.specs.World.{MayGive}
use Rattle.board.proofs.DiskSteps.{Left, ModelSteps, Stays, StepsTo, at_left, cards_leave, changed_left, comes, further_stays, model_steps, piece_serves, same_model, sent_leaves, supplied_leaves, taking_leaves, unchanged}
use Rattle.board.proofs.Waiting.{outlasts_by}

-- ---- what a piece leaves, as if it were an event of a further device of which the host says nothing

abbrev quiet : {A : Type 0} → ℕ → EventKind A
quiet k = event.Device k TakeSent

quiet_said : (A : Type 0) (disk : SlotDisk) (k : ℕ) → said_of disk (quiet {A = A} k) ≡ None
quiet_said A Own k = refl
quiet_said A (Further n) k = by_same (k == n)
  where
    by_same : (same : Bool) → ◌≡◌ {A = Option HostEvent} (if same then None else None) None
    by_same true = refl
    by_same false = refl

quiet_leaves : (A : Type 0) (disk : SlotDisk) (tag k : ℕ) → LeavesTagOf {A = A} disk tag (quiet k)
quiet_leaves A disk tag k =
    let none = quiet_said A disk k in
    record {
      other = λ is. let never : None ≡ Some tag = sym (ap (option_and_then tag_of) none) ∙ is in absurd (cc (never));
      no_drop = λ is. let never : None ≡ Some Drop = sym none ∙ is in absurd (cc (never));
    }

-- ---- what stands behind the window of a further device

module _ (Says : HostEvent → Type 0) (stage : Stage) (budget : Budget) (came : Progress) where
  piece_steps : (model : ModelState) (q : ℕ) (m m' : Memory) (w w' : WindowState) (other : ModelState)
      → ModelServesTo stage budget came model q m m' w w' other → ModelSteps Says model other
  piece_steps (Entropy pool) zero m m' w w' other h = Stays (ap disk_of h.is)
  piece_steps (Entropy pool) (suc q) m m' w w' other h = same_model Says (Entropy pool) other h.1.state
  piece_steps (Network card) q m m' w w' other h = Stays (ap disk_of h.is)
  piece_steps (Block disk) q m m' w w' other h =
      piece_serves Says stage budget came disk q m m' w w' h.after h.serves other h.is
  piece_steps (Image disk) q m m' w w' other h = same_model Says (Image disk) other h.1.state
  piece_steps (Console terminal) q m m' w w' other h = Stays (ap disk_of h.is)

-- device n, as device k was served
served_left : (A : Type 0) (k q n : ℕ) (stage : Stage) (budget : Budget) (came : Progress) (d : DeviceState)
    (m m' : Memory) (old new : List DeviceState) → slice_get old n ≡ Some d
    → DevicesServeTo stage budget came k q m m' old new → Left {A = A} k TakeSent n d new
served_left A k q n stage budget came d m m' old new there = by_found (slice_get old k)
  where
    by_found : (found : Option DeviceState) → ServesAny found stage budget came k q m m' old new
        → Left {A = A} k TakeSent n d new
    by_found None h = unchanged k TakeSent n d old new there h.devices
    by_found (Some e) h =
        at_left k TakeSent n d old new h.before h.after there h.there h.is (λ same.
        piece_steps _ stage budget came h.before.model q m m' h.before.window h.after.window h.after.model h.changes)

-- as it was readied for what is done to device k
readied_left : {A : Type 0} (k n : ℕ) (what : DeviceEvent A) (d : DeviceState) (m : Memory) (old : List DeviceState)
    → slice_get old n ≡ Some d → Left {A = A} k TakeSent n d (devices_readied k what m old)
readied_left k n (Write offset width value) d m old there =
    changed_left k TakeSent n d (device_written offset width value m) old _ there refl (λ e.
    Stays (taking_leaves (action_of offset width value e.window) e.model))
readied_left k n (Supply bytes) d m old there =
    changed_left k TakeSent n d (with_model (supplied bytes)) old _ there refl (λ e. Stays (supplied_leaves bytes e.model))
readied_left k n (Receive frame) d m old there =
    changed_left k TakeSent n d (with_model (received frame)) old _ there refl (λ e.
    Stays (cards_leave (with_frame frame) e.model))
readied_left k n DropSent d m old there =
    changed_left k TakeSent n d (with_model without_sent) old _ there refl (λ e. Stays (sent_leaves e.model))
readied_left k n what d m old there = unchanged k TakeSent n d old old there refl

-- ---- the slot

module _ (A : Type 0) where
  -- the disk stays where its slot keeps this
  kept : (disk : SlotDisk) (old new wanted : SlotState) → new ≡ wanted → wanted.host ≡ old.host
      → wanted.devices ≡ old.devices → StepsTo {A = A} disk (quiet 0) old new
  kept Own old new wanted is host devices = Stays (ap (λ (s : SlotState). s.host) is ∙ host)
  kept (Further n) old new wanted is host devices =
      further_stays {A = A} n (quiet 0) old new (ap (λ (s : SlotState). s.devices) is ∙ devices)

  -- a further disk, as what is done to device k leaves the devices
  left_steps : (k n : ℕ) (old new : SlotState)
      → ((d : DeviceState) → slice_get old.devices n ≡ Some d → Left {A = A} k TakeSent n d new.devices)
      → StepsTo {A = A} (Further n) (quiet k) old new
  left_steps k n old new leaves = by_found (slice_get old.devices n) refl
    where
      by_found : (found : Option DeviceState) → slice_get old.devices n ≡ found
          → StepsTo {A = A} (Further n) (quiet k) old new
      by_found None none = comes {A = A} n (quiet k) old new none
      by_found (Some d) there = model_steps {A = A} k n TakeSent old new d there (leaves d there)

  -- and as a disk over the image leaves them
  image_steps : {Serves : Option Queue → Memory → Memory → WindowState → WindowState → Disk → Disk → Type 0}
      (disk : SlotDisk) (k : ℕ) (image : BlockDevice) (old new : SlotState) (before after : Health)
      → ServesImageDisk Serves k image old new before after → StepsTo {A = A} disk (quiet k) old new
  image_steps Own k image old new before after h =
      Stays (ap (λ (s : SlotState). s.host) h.is)
  image_steps (Further n) k image old new before after h =
      left_steps k n old new (λ d there.
      at_left k TakeSent n d old.devices new.devices h.device (record h.device { window = h.window }) there h.there
      (ap (λ (s : SlotState). s.devices) h.is) (λ same. same_model _ h.device.model h.device.model refl))

module _ (A : Type 0) (disk : SlotDisk) (tag : ℕ) (here : InFlight) where
  -- where this operation was in flight it still is
  abbrev pub KeepsFlight : SlotState → SlotState → Type 0
  KeepsFlight old new =
      get_or (in_flight_of disk old) tag None ≡ Some here → get_or (in_flight_of disk new) tag None ≡ Some here

  quietly : (k : ℕ) (old new : SlotState) → StepsTo {A = A} disk (quiet k) old new → KeepsFlight old new
  quietly k old new steps taken = outlasts_by disk old tag here (quiet k) new taken (quiet_leaves A disk tag k) steps

  piece_flies : (service : Service) (stage : Stage) (budget : Budget) (came : Progress) (old : SlotState)
      (before after : Health) (new : SlotState) (output : List ℕ)
      → IsPiece service stage budget came old before after new output → KeepsFlight old new
  piece_flies service.Block stage budget came old before after new output (inl h) =
      quietly 0 old new (kept A disk old new _ h.piece.is refl refl)
  piece_flies service.Block stage budget came old before after new output (inr h) =
      quietly 0 old new (kept A disk old new _ h.piece.is refl refl)
  piece_flies service.Receive stage budget came old before after new output h = quietly 0 old new (kept A disk old new _ h.is refl refl)
  piece_flies service.Transmit stage budget came old before after new output h = quietly 0 old new (kept A disk old new _ h.is refl refl)
  piece_flies (service.Further k q) stage budget came old before after new output h =
      quietly k old new (at_device disk (image_served (service.Further k q) old) h)
    where
      at_device : (disk : SlotDisk) (found : Option BlockDevice)
          → IsPieceAtDevice found k q stage budget came old before after new output
          → StepsTo {A = A} disk (quiet k) old new
      at_device Own None h = Stays (ap (λ (s : SlotState). s.host) h.is)
      at_device (Further n) None h =
          left_steps A k n old new (λ d there.
          served_left A k q n stage budget came d old.memory new.memory old.devices new.devices there h.served)
      at_device disk (Some image) (inl h) = image_steps A disk k image old new before after h.0.serves
      at_device disk (Some image) (inr h) = image_steps A disk k image old new before after h.0.serves

  still : (old new : SlotState) → new.host ≡ old.host → new.devices ≡ old.devices → KeepsFlight old new
  still old new host devices = quietly 0 old new (kept A disk old new new refl host devices)

  -- what a turn begins with
  readied_flies : (what : EventKind A) (old : SlotState) → KeepsFlight old (readied what old)
  readied_flies (event.Write window.Block offset width value) old =
      still old (with_write window.Block offset width value old) refl refl
  readied_flies (event.Write window.Console offset width value) old =
      still old (with_write window.Console offset width value old) refl refl
  readied_flies (event.Input bytes) old = still old (with_input bytes old) refl refl
  readied_flies (event.Device k what) old = quietly k old (device_readied k what old) (at_device disk)
    where
      at_device : (disk : SlotDisk) → StepsTo {A = A} disk (quiet k) old (device_readied k what old)
      at_device Own = Stays refl
      at_device (Further n) =
          left_steps A k n old (device_readied k what old) (λ d there.
          readied_left k n what d old.memory old.devices there)
  readied_flies what old = λ taken. taken

  comes_flies : (pause : Pause) (stage : Stage) (budget : Budget) (old : SlotState) (before after : Health)
      (new : SlotState) (output : List ℕ) (t : Turn A) → ComesTo pause stage budget old before after new output t
      → KeepsFlight old new
  comes_flies pause stage budget old before after new output (turn.Answered reply) (inl (done, h)) =
      piece_flies pause.service stage budget progress.Done old before after new output h
  comes_flies pause stage budget old before after new output (turn.Answered reply) (inr (lacks, (is, h))) =
      quietly 0 old new (kept A disk old new _ h.is refl refl)
  comes_flies pause stage budget old before after new output (turn.More next) (is, h) =
      piece_flies pause.service stage budget progress.More old before after new output h

  -- A service that goes on leaves it in flight,
  pub going_on_flies : (pause : Pause) (budget : Budget) (old : SlotState) (before after : Health) (new : SlotState)
      (output : List ℕ) (t : Turn A) → GoesOn pause budget old before after new output t → KeepsFlight old new
  going_on_flies pause budget old before after new output t = by_host (is_hosts old.host pause.service)
    where
      by_host : (hosts : Bool) → GoesOnBy hosts pause budget old before after new output t → KeepsFlight old new
      by_host true h = λ taken. ap (λ (s : SlotState). get_or (in_flight_of disk s) tag None) h.same ∙ taken
      by_host false h = comes_flies pause Next budget old before after new output t h

  -- and so does an event that pauses.
  pub pausing_flies : (what : EventKind A) (budget : Budget) (old : SlotState) (before after : Health)
      (new : SlotState) (output : List ℕ) (pause : Pause)
      → Begins what budget old before after new output (turn.More pause) → KeepsFlight old new
  pausing_flies what budget old before after new output pause = by_asked (asked what old)
    where
      by_asked : (asks : Option Pause)
          → TurnsTo (MayGive old what before after) asks what budget old before after new output (turn.More pause)
          → KeepsFlight old new
      by_asked None h = absurd h
      by_asked (Some asks) h = λ taken.
          comes_flies asks First budget (readied what old) before after new output (turn.More pause) h
          (readied_flies what old taken)
