-- What is answered to who asks a disk over the image for a service: a write alone does, which is done.
use Rattle.std.proofs.Common.{◌≡◌, ℕ, Bool, true, false, Option, Some, None, refl, sym, ap, ◌∙◌}
use Rattle.std.specs.Prelude.{if◌then◌else◌}
use Rattle.std.specs.List.{slice_get}
use Rattle.std.specs.Option.{option_and_then}
use Rattle.block_device.specs.declared.device.BlockDevice.{BlockDevice}
use Rattle.device_list.specs.Device.{DeviceState}
use Rattle.device_list.specs.List.{waits_at}
use Rattle.board.specs.declared.event.DeviceEvent.{DeviceEvent}
use Rattle.board.specs.declared.event.DeviceEvent.TheVariants.{Write}
use Rattle.board.specs.declared.pause.Pause.{Pause}
use Rattle.board.specs.declared.pause.Service.TheVariants.{Further}
use Rattle.board.specs.declared.reply.Reply.{Reply}
use Rattle.board.specs.declared.reply.Reply.TheVariants.{Busy, Done, Took}
use Rattle.board.specs.Devices.{device_asks, device_reply, reply_at}
use Rattle.board.specs.ImageDisks.{device_readied, image_asked, image_served}
use Rattle.board.specs.Pausing.{reply_by}
use Rattle.board.specs.Slot.{SlotState}
use Rattle.board.proofs.AtDevice.{IsWrite, asked_write, served_readied}
use Rattle.board.proofs.FurtherPieces.{Asking, asking}

-- a write is answered no count
never_took : (A : Type 0) (waits : Bool) (taken : ℕ)
    → ◌≡◌ {A = Option (Reply A)} (Some (if waits then Busy else Done)) (Some (Took taken)) → ⊥
never_took A true taken is = cc (is)
never_took A false taken is = cc (is)

write_took : (A : Type 0) (offset width value : ℕ) (found : Option DeviceState) (taken : ℕ)
    → option_and_then (device_reply {A = A} (Write offset width value)) found ≡ Some (Took taken) → ⊥
write_took A offset width value None taken is = cc (is)
write_took A offset width value (Some d) taken is = never_took A (waits_at offset d) taken is

write_done : {A : Type 0} (n : ℕ) (what : DeviceEvent A) (state : SlotState) (taken : Option ℕ)
    → reply_at n what state ≡ Some (reply_by taken) → IsWrite what → reply_by {A = A} taken ≡ Done
write_done {A} n (Write offset width value) state None answers is = refl
write_done {A} n (Write offset width value) state (Some taken) answers is =
    absurd (write_took A offset width value (slice_get state.devices n) taken answers)
write_done n _ state taken answers is = absurd is

module _ {A : Type 0} (n : ℕ) (what : DeviceEvent A) (state : SlotState) (disk : BlockDevice)
    (asked : image_asked n what state ≡ Some disk) where
  -- nothing was handed in
  pub done_by : (pause : Pause) (a : Asking n what state pause) → reply_by {A = A} a.taken ≡ Done
  done_by pause a = write_done n what state a.taken a.answers (asked_write n what state disk asked)

  done_where : (asks : Option Pause) → device_asks n what state ≡ asks
      → option_and_then (λ pause. image_served pause.service state) asks ≡ Some disk → reply_at n what state ≡ Some Done
  done_where None asks is = absurd (cc (is))
  done_where (Some pause) asks is =
      let a = asking n what state pause asks in
      a.answers ∙ ap (λ (r : Reply A). Some r) (done_by pause a)

  pub image_done : reply_at n what state ≡ Some Done
  image_done = done_where (device_asks n what state) refl asked

-- it is the disk that serves the queue that the event asks for
pub asked_readied : {A : Type 0} (n : ℕ) (what : DeviceEvent A) (state : SlotState) (pause : Pause)
    (a : Asking n what state pause) → device_asks n what state ≡ Some pause
    → image_asked n what state ≡ image_served (Further n a.queue) (device_readied n what state)
asked_readied n what state pause a asks =
    ap (λ (o : Option Pause). option_and_then (λ p. image_served p.service state) o) asks
    ∙ ap (λ (p : Pause). image_served p.service state) a.is ∙ sym (served_readied n a.queue what state)
