-- A service in one piece is what an event comes to.
use Rattle.block_device.specs.declared.device.BlockDevice.{BlockDevice}
use Rattle.board.specs.ImageDisks.{image_served}
use Rattle.board.proofs.AtDevice.{served_hosted}
use Rattle.std.proofs.Common.{◌≡◌, ◌≢◌, ◌⊎◌, inl, inr, ℕ, zero, suc, ◌%◌, ◌^◌, Bool, true, false, Option, Some, None, List, [], refl, ap, subst}
use Rattle.std.specs.Prelude.{◌==◌, if◌then◌else◌}
use Rattle.chain.specs.declared.budget.Budget.{Budget}
use Rattle.chain.specs.declared.budget.Progress.TheVariants as progress
use Rattle.chain.specs.Service.{Device, Refused}
use Rattle.mmio_window.specs.declared.stage.Stage.{Stage}
use Rattle.mmio_window.specs.declared.stage.Stage.TheVariants.{First}
use Rattle.sector_cache.specs.Disk.{Disk}
use Rattle.mmio_window.specs.declared.action.Action.{Action}
use Rattle.mmio_window.specs.declared.action.Action.TheVariants.{ConfigWrite, Notify}
use Rattle.board.specs.declared.event.DeviceEvent.{DeviceEvent as FurtherEvent}
use Rattle.board.specs.declared.event.SlotWindow.{SlotWindow}
use Rattle.board.specs.declared.event.SlotWindow.TheVariants.{Block as SlotBlock, Console as SlotConsole}
use Rattle.console_device.specs.Config.{emergency_write}
use Rattle.board.specs.Devices.{device_asks}
use Rattle.board.proofs.FurtherPieces.{asking, further_whole}
use Rattle.mmio_window.specs.Window.{queue_at}
use Rattle.mmio_window.proofs.Pieces.{notified_once}
use Rattle.block_device.specs.Device.{block_device, exact_device}
use Rattle.console_device.specs.Device.{receive, exact_transmit, transmit}
use Rattle.console_device.specs.Input.{fitting}
use Rattle.board.specs.declared.event.EventKind.{EventKind}
use Rattle.board.specs.declared.event.EventKind.TheVariants.{Write, Input, Device as DeviceEvent}
use Rattle.board.specs.declared.pause.Service.TheVariants.{Block, Receive, Transmit, Further}
use Rattle.board.specs.declared.pause.Turn.TheVariants.{Answered}
use Rattle.board.specs.declared.reply.Reply.{Reply}
use Rattle.board.specs.declared.reply.Reply.TheVariants.{Done, Took, NoMemory}
use Rattle.board.specs.Image.{Health, disk_with}
use Rattle.board.specs.Machine.{action_at, readied, task_at, with_input, with_write}
use Rattle.board.specs.Outcome.{Outcome}
use Rattle.hosted_disk.specs.Disk.{HostedDisk}
use Rattle.board.specs.Hosting.{has_part, is_block_task, notifies_block}
use Rattle.board.specs.declared.pause.Pause.{Pause}
use Rattle.board.specs.declared.pause.Service.{Service}
use Rattle.board.specs.Pausing.{Begins, BeginsOverImage, EndsBy, IsBlockPiece, IsFurtherPiece, IsPieceAtDevice, IsReceivePiece, IsTransmitPiece, TurnsTo, asked_by, asked_over_image}
use Rattle.board.specs.Slot.{SlotState}
use Rattle.board.specs.Task.{Task, Nothing, Serve, PutOut, task_of, Finishes, IsBlockService, IsReceiveService, device_of}
use Rattle.board.specs.World.{IsCutShort, MayGive, MayGiveBy, MayGiveOverImage}
use Rattle.board.proofs.OnHost.{passes, ringing_part}
use Rattle.board.proofs.Turns.{task_given}

-- an outcome
abbrev pub came : {A : Type 0} → SlotState → Reply A → List ℕ → Outcome A
came state reply output = record { state = state; reply = reply; output = output }

same_came : {A : Type 0} (s t : SlotState) (r q : Reply A) (x y : List ℕ) → s ≡ t → r ≡ q → x ≡ y
    → came s r x ≡ came t q y
same_came s t r q x y a b c = rw (a, b, c) refl

-- the block device
block_whole : {A : Type 0} (device : Device Disk) (budget : Budget) (old : SlotState) (before after : Health)
    (new : SlotState) (output : List ℕ) (reply : Reply A) → reply ≡ Done
    → IsBlockPiece device First budget progress.Done old before after new output
    → IsBlockService device old before after (came new reply output)
block_whole device budget old before after new output reply done h = record {
  notified = record {
    ending = h.served.ending;
    notified = notified_once device budget 0 (queue_at 0 old.block) h.served.ending old.memory new.memory
        old.block new.block (disk_with old.extent before) (disk_with new.extent after) h.served.notified;
  };
  is = same_came new _ reply Done output [] h.is done h.silent;
}

-- the receive queue
receive_whole : {A : Type 0} (budget : Budget) (old : SlotState) (before after : Health) (new : SlotState)
    (output : List ℕ) (reply wanted : Reply A) → reply ≡ wanted
    → IsReceivePiece First budget progress.Done old before after new output
    → IsReceiveService old wanted before after (came new reply output)
receive_whole budget old before after new output reply wanted done h = record {
  notified = record {
    ending = h.served.ending;
    notified = notified_once receive budget 0 (queue_at 0 old.console) h.served.ending old.memory new.memory
        old.console new.console old.pending new.pending h.served.notified;
  };
  is = same_came new _ reply wanted output [] h.is done h.silent;
  image = h.image;
}

-- what a task comes to whose service ended in one piece
abbrev ServedOrCut : {A : Type 0} → Task → SlotState → Health → Health → Outcome A → Type 0
ServedOrCut task mid before after outcome =
    (Finishes task mid before after outcome
    × ((outcome.reply ≢ NoMemory) × (after.failures ≡ before.failures)))
    ⊎ IsCutShort task mid before after outcome

block_ended : {A : Type 0} (budget : Budget) (mid : SlotState) (before after : Health) (new : SlotState)
    (output : List ℕ) (reply : Reply A)
    → EndsBy (record { service = Block; taken = None }) First budget mid before after new output reply
    → ServedOrCut (Serve Block) mid before after (came new reply output)
block_ended budget mid before after new output reply (inl (done, inl h)) =
    inl (
      block_whole (exact_device (device_of mid)) budget mid before after new output reply done h.piece,
      (λ lacks. cc, h.failures),
    )
block_ended budget mid before after new output reply (inl (done, inr h)) = inr (record {
  service = block_whole (block_device (device_of mid)) budget mid before after new output reply done h.piece;
  failures = h.failures;
})
block_ended budget mid before after new output reply (inr (lacks, (other, h))) = absurd (cc)

receive_ended : {A : Type 0} (budget : Budget) (mid : SlotState) (before after : Health) (new : SlotState)
    (output : List ℕ) (reply : Reply A)
    → EndsBy (record { service = Receive; taken = None }) First budget mid before after new output reply
    → ServedOrCut (Serve Receive) mid before after (came new reply output)
receive_ended budget mid before after new output reply (inl (done, h)) =
    inl (
      receive_whole budget mid before after new output reply Done done h,
      (λ lacks. cc, ap (λ (x : Health). x.failures) h.image),
    )
receive_ended budget mid before after new output reply (inr (lacks, (other, h))) = absurd (cc)

transmit_ended : {A : Type 0} (budget : Budget) (mid : SlotState) (before after : Health) (new : SlotState)
    (output : List ℕ) (reply : Reply A)
    → EndsBy (record { service = Transmit; taken = None }) First budget mid before after new output reply
    → ServedOrCut (Serve Transmit) mid before after (came new reply output)
transmit_ended budget mid before after new output reply (inl (done, h)) = inl (
  record {
    notified = record {
      ending = h.served.ending;
      notified = notified_once exact_transmit budget 1 (queue_at 1 mid.console) h.served.ending mid.memory
          new.memory mid.console new.console [] output h.served.notified;
    };
    is = same_came new _ reply Done output output h.is done refl;
    image = h.image;
  },
  (λ lacks. cc, ap (λ (x : Health). x.failures) h.image),
)
transmit_ended budget mid before after new output reply (inr (lacks, (is, h))) = inr (record {
  notified = notified_once transmit budget 1 (queue_at 1 mid.console) Refused mid.memory new.memory
      mid.console new.console [] output h.refused;
  is = same_came new _ reply NoMemory output output h.is lacks refl;
  image = h.image;
})

-- no write of the slot's own windows leaves a further device's service
pub none_further : (window : SlotWindow) (action : Action) (n q : ℕ) → task_of window action ≡ Serve (Further n q) → ⊥
none_further SlotBlock (Notify zero) n q is = absurd (cc (is))
none_further SlotConsole (Notify zero) n q is = absurd (cc (is))
none_further SlotConsole (Notify (suc zero)) n q is = absurd (cc (is))
none_further SlotConsole (ConfigWrite offset width value) n q is = by_offset (offset == emergency_write) is
  where
    by_offset : (test : Bool) → (if test then PutOut (value % 2 ^ 8) else Nothing) ≡ Serve (Further n q) → ⊥
    by_offset true is = absurd (cc (is))
    by_offset false is = absurd (cc (is))
none_further _ _ n q is = absurd (cc (is))

write_whole : {A : Type 0} (state : SlotState) (window : SlotWindow) (offset width value : ℕ)
    (budget : Budget) (before after : Health) (new : SlotState) (output : List ℕ) (reply : Reply A)
    (task : Task) → task_at window offset width value state ≡ task
    → TurnsTo (λ c. MayGiveOverImage state (Write window offset width value) before after c) (asked_by task)
    (Write window offset width value) budget state before after new output (Answered reply)
    → MayGiveOverImage state (Write window offset width value) before after (came new reply output)
write_whole state window offset width value budget before after new output reply Nothing is h = h
write_whole state window offset width value budget before after new output reply (Serve Block) is h =
    task_given state window (Serve Block) offset width value before after (came new reply output) is
    (block_ended budget (with_write window offset width value state) before after new output reply h)
write_whole state window offset width value budget before after new output reply (Serve Receive) is h =
    task_given state window (Serve Receive) offset width value before after (came new reply output) is
    (receive_ended budget (with_write window offset width value state) before after new output reply h)
write_whole state window offset width value budget before after new output reply (Serve Transmit) is h =
    task_given state window (Serve Transmit) offset width value before after (came new reply output) is
    (transmit_ended budget (with_write window offset width value state) before after new output reply h)
write_whole state window offset width value budget before after new output reply (Serve (Further n q)) is h =
    absurd (none_further window _ n q is)
write_whole state window offset width value budget before after new output reply (PutOut byte) is h = h

input_whole : {A : Type 0} (state : SlotState) (bytes : List ℕ) (budget : Budget) (before after : Health)
    (new : SlotState) (output : List ℕ) (reply : Reply A)
    → EndsBy (record { service = Receive; taken = Some (fitting state.pending bytes) }) First budget
    (with_input bytes state) before after new output reply
    → MayGiveOverImage state (Input bytes) before after (came new reply output)
input_whole state bytes budget before after new output reply (inl (done, h)) = inl (record {
  alike = receive_whole budget (with_input bytes state) before after new output reply
      (Took (fitting state.pending bytes)) done h;
  answered = λ lacks. cc;
  failures = ap (λ (x : Health). x.failures) h.image;
})
input_whole state bytes budget before after new output reply (inr (lacks, (other, h))) = absurd (cc)

-- what is done to a further device, by the service that it asks for
device_whole : {A : Type 0} (n : ℕ) (what : FurtherEvent A) (budget : Budget) (state : SlotState)
    (before after : Health) (new : SlotState) (output : List ℕ) (reply : Reply A) (asks : Option Pause)
    → device_asks n what state ≡ asks
    → TurnsTo (λ c. MayGiveOverImage state (DeviceEvent n what) before after c) asks (DeviceEvent n what) budget state
    before after new output (Answered reply)
    → MayGiveOverImage state (DeviceEvent n what) before after (came new reply output)
device_whole n what budget state before after new output reply None is h = h
device_whole n what budget state before after new output reply (Some pause) is h =
    further_whole n what state pause budget before after new output reply is h

-- An event that is answered in its first turn came to what it may come to: over an image.
pub whole_over_image : {A : Type 0} (what : EventKind A) (budget : Budget) (state : SlotState) (before after : Health)
    (new : SlotState) (output : List ℕ) (reply : Reply A)
    → BeginsOverImage what budget state before after new output (Answered reply)
    → MayGiveOverImage state what before after (came new reply output)
whole_over_image (Write window offset width value) budget state before after new output reply h =
    write_whole state window offset width value budget before after new output reply
    (task_at window offset width value state) refl h
whole_over_image (Input bytes) budget state before after new output reply h =
    input_whole state bytes budget before after new output reply h
whole_over_image (DeviceEvent n what) budget state before after new output reply h =
    device_whole n what budget state before after new output reply (device_asks n what state) refl h
whole_over_image _ budget state before after new output reply h = h

-- ---- whoever has the guest's disk

-- the image has no part in a service of the console
console_image : {A : Type 0} (pause : Pause) (stage : Stage) (budget : Budget) (old : SlotState)
    (before after : Health) (new : SlotState) (output : List ℕ) (reply : Reply A) (which : Service)
    → pause.service ≡ which → which ≢ Block → image_served which old ≡ None
    → EndsBy pause stage budget old before after new output reply → after ≡ before
console_image pause stage budget old before after new output reply Block is other none h = absurd (other refl)
console_image pause stage budget old before after new output reply Receive is other none (inl (done, h)) =
    let piece : IsReceivePiece stage budget progress.Done old before after new output = rw is at h in
    piece.image
console_image pause stage budget old before after new output reply Transmit is other none (inl (done, h)) =
    let piece : IsTransmitPiece stage budget progress.Done old before after new output = rw is at h in
    piece.image
console_image pause stage budget old before after new output reply (Further n q) is other none (inl (done, h)) =
    let piece : IsFurtherPiece n q stage budget progress.Done old before after new output =
    subst (λ (f : Option BlockDevice). IsPieceAtDevice f n q stage budget progress.Done old before after new output) none
    (rw is at h) in
    piece.image
console_image pause stage budget old before after new output reply which is other none (inr (lacks, (puts, h))) =
    h.image

-- what the disk has no part in comes to what it does over an image
by_passing : {A : Type 0} (disk : HostedDisk) (state : SlotState) (what : EventKind A) (before after : Health)
    (outcome : Outcome A) → has_part (Some disk) what state ≡ false → after ≡ before
    → MayGiveOverImage state what before after outcome → MayGiveBy (Some disk) state what before after outcome
by_passing {A} disk state what before after outcome free image h = record {
  gives = passes (λ (o : Outcome A). MayGiveOverImage state what before before o) disk state what outcome free
      (subst (λ (x : Health). MayGiveOverImage state what before x outcome) image h);
  image = image;
}

-- nor one of a disk over the image
pub no_image : (window : SlotWindow) (action : Action) (service : Service) (state : SlotState)
    → task_of window action ≡ Serve service → image_served service state ≡ None
no_image window action Block state is = refl
no_image window action Receive state is = refl
no_image window action Transmit state is = refl
no_image window action (Further n q) state is = absurd (none_further window action n q is)

hosted_write : {A : Type 0} (disk : HostedDisk) (state : SlotState) (window : SlotWindow)
    (offset width value : ℕ) (budget : Budget) (before after : Health) (new : SlotState) (output : List ℕ)
    (reply : Reply A) (task : Task) → task_at window offset width value state ≡ task
    → has_part {A = A} (Some disk) (Write window offset width value) state ≡ false
    → TurnsTo (λ c. MayGiveBy (Some disk) state (Write window offset width value) before after c)
    (asked_by task) (Write window offset width value) budget state before after new output (Answered reply)
    → MayGiveBy (Some disk) state (Write window offset width value) before after (came new reply output)
hosted_write disk state window offset width value budget before after new output reply Nothing is free h = h
hosted_write {A} disk state window offset width value budget before after new output reply (Serve Block) is
    free h =
    let rings : notifies_block {A = A} (Write window offset width value) state ≡ true =
    ap is_block_task is in
    absurd (ringing_part {A = A} disk (Write window offset width value) state rings free)
hosted_write disk state window offset width value budget before after new output reply (Serve service) is
    free h =
    by_passing disk state (Write window offset width value) before after (came new reply output) free
    (console_image (record { service = service; taken = None }) First budget
    (with_write window offset width value state) before after new output reply service refl (λ e. cc)
    (no_image window (action_at window offset width value state) service (with_write window offset width value state) is) h)
    (write_whole state window offset width value budget before after new output reply (Serve service) is h)
hosted_write disk state window offset width value budget before after new output reply (PutOut byte) is free
    h = h

hosted_device : {A : Type 0} (disk : HostedDisk) (n : ℕ) (what : FurtherEvent A) (state : SlotState) (budget : Budget)
    (before after : Health) (new : SlotState) (output : List ℕ) (reply : Reply A)
    → state.host ≡ Some disk → has_part (Some disk) (DeviceEvent n what) state ≡ false → (asks : Option Pause)
    → device_asks n what state ≡ asks
    → TurnsTo (λ c. MayGiveBy (Some disk) state (DeviceEvent n what) before after c) asks (DeviceEvent n what) budget
    state before after new output (Answered reply)
    → MayGiveBy (Some disk) state (DeviceEvent n what) before after (came new reply output)
hosted_device disk n what state budget before after new output reply hosted free None asks h = h
hosted_device disk n what state budget before after new output reply hosted free (Some pause) asks h =
    let a = asking n what state pause asks in
    by_passing disk state (DeviceEvent n what) before after (came new reply output) free
    (console_image pause First budget (readied (DeviceEvent n what) state) before after new output reply
    (Further n a.queue) (ap (λ (p : Pause). p.service) a.is) (λ e. cc)
    (served_hosted n a.queue (readied (DeviceEvent n what) state) disk hosted) h)
    (further_whole n what state pause budget before after new output reply asks h)

hosted_whole : {A : Type 0} (disk : HostedDisk) (what : EventKind A) (budget : Budget) (state : SlotState)
    (before after : Health) (new : SlotState) (output : List ℕ) (reply : Reply A)
    → state.host ≡ Some disk → has_part (Some disk) what state ≡ false
    → TurnsTo (λ c. MayGiveBy (Some disk) state what before after c) (asked_over_image what state) what budget
    state before after new output (Answered reply)
    → MayGiveBy (Some disk) state what before after (came new reply output)
hosted_whole disk (Write window offset width value) budget state before after new output reply hosted free h =
    hosted_write disk state window offset width value budget before after new output reply
    (task_at window offset width value state) refl free h
hosted_whole disk (Input bytes) budget state before after new output reply hosted free h =
    by_passing disk state (Input bytes) before after (came new reply output) free
    (console_image (record { service = Receive; taken = Some (fitting state.pending bytes) }) First budget
    (with_input bytes state) before after new output reply Receive refl (λ e. cc) refl h)
    (input_whole state bytes budget before after new output reply h)
hosted_whole disk (DeviceEvent n what) budget state before after new output reply hosted free h =
    hosted_device disk n what state budget before after new output reply hosted free (device_asks n what state) refl h
hosted_whole disk _ budget state before after new output reply hosted free h = h

whole_by : {A : Type 0} (host : Option HostedDisk) (part : Bool) (what : EventKind A) (budget : Budget)
    (state : SlotState) (before after : Health) (new : SlotState) (output : List ℕ) (reply : Reply A)
    → state.host ≡ host → has_part host what state ≡ part
    → TurnsTo (λ c. MayGiveBy host state what before after c)
    (if part then None else asked_over_image what state) what budget state before after new output
    (Answered reply)
    → MayGiveBy host state what before after (came new reply output)
whole_by host true what budget state before after new output reply same is h = h
whole_by None false what budget state before after new output reply same is h =
    whole_over_image what budget state before after new output reply h
whole_by (Some disk) false what budget state before after new output reply same is h =
    hosted_whole disk what budget state before after new output reply same is h

pub whole : {A : Type 0} (what : EventKind A) (budget : Budget) (state : SlotState) (before after : Health)
    (new : SlotState) (output : List ℕ) (reply : Reply A)
    → Begins what budget state before after new output (Answered reply)
    → MayGive state what before after (came new reply output)
whole what budget state before after new output reply h =
    whole_by state.host (has_part state.host what state) what budget state before after new output reply refl refl h
