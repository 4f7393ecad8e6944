-- Events in which the host of a guest's disk has no part.
use Rattle.std.proofs.Common.{◌≡◌, ℕ, Bool, true, false, Option, Some, None, refl, sym, ◌∙◌, ap}
use Rattle.std.specs.Prelude.{◌&&◌, ◌||◌, if◌then◌else◌}
use Rattle.std.proofs.lemmas.Option.{same_Some}
use Rattle.board.specs.declared.event.EventKind.{EventKind}
use Rattle.board.specs.declared.event.EventKind.TheVariants.{Write, Input, Device}
use Rattle.board.specs.declared.event.SlotWindow.{SlotWindow}
use Rattle.board.specs.declared.event.SlotWindow.TheVariants as slot_window
use Rattle.board.specs.declared.pause.Pause.{Pause}
use Rattle.board.specs.declared.pause.Service.{Service}
use Rattle.board.specs.declared.pause.Service.TheVariants.{Block, Receive, Transmit, Further}
use Rattle.block_device.specs.Tags.{is_any}
use Rattle.hosted_disk.specs.Disk.{HostedDisk}
use Rattle.board.specs.Backing.{tags_in}
use Rattle.board.specs.Hosting.{has_part, is_block_task, must_wait, notifies_block, told_in}
use Rattle.board.specs.Image.{Health}
use Rattle.board.specs.Machine.{readied, task_at, with_write}
use Rattle.board.specs.Outcome.{Outcome}
use Rattle.board.specs.Pausing.{asked, asked_by, asked_over_image, is_hosts}
use Rattle.board.specs.Slot.{SlotState}
use Rattle.board.specs.declared.task.Task.{Task}
use Rattle.board.specs.declared.task.Task.TheVariants.{Nothing, Serve, PutOut}
use Rattle.board.specs.World.{MayGive, MayGiveOverImage}
use Rattle.board.proofs.FurtherPieces.{asking}
use Rattle.board.proofs.OnHost.{passes_by, ringing_part}

-- one that is an own one, waits for nothing, and doesn't notify the block device
no_part : {A : Type 0} (host : Option HostedDisk) (what : EventKind A) (state : SlotState)
    → told_in what ≡ None → must_wait what ≡ false → notifies_block what state ≡ false
    → has_part host what state ≡ false
no_part None what state own free quiet = refl
no_part (Some disk) what state own free quiet = rw (own, free, quiet) (whatever (is_any (tags_in state.host)))
  where
    whatever : (taken : Bool) → ((taken && false) || false) ≡ false
    whatever true = refl
    whatever false = refl

-- so what comes of it over an image that stays as it is comes of it
pub given : {A : Type 0} (state : SlotState) (what : EventKind A) (health : Health) (outcome : Outcome A)
    → told_in what ≡ None → must_wait what ≡ false → notifies_block what state ≡ false
    → MayGiveOverImage state what health health outcome → MayGive state what health health outcome
given state what health outcome own free quiet h =
    passes_by state.host state what health outcome (no_part state.host what state own free quiet) h

-- ---- the service that an event asks for

pub asks_nothing : {A : Type 0} (what : EventKind A) (state : SlotState) → asked_over_image what state ≡ None
    → asked what state ≡ None
asks_nothing {A} what state none = by_part (has_part state.host what state)
  where
    by_part : (part : Bool) → (if part then None else asked_over_image what state) ≡ None
    by_part true = refl
    by_part false = none

-- the host has no part in it, and it is what the event asks for over an image
pub record AsksFreely {A : Type 0} (what : EventKind A) (state : SlotState) (pause : Pause) : Type 0 where
  pub free : has_part state.host what state ≡ false
  pub asks : asked_over_image what state ≡ Some pause

pub asks_freely : {A : Type 0} (what : EventKind A) (state : SlotState) (pause : Pause)
    → asked what state ≡ Some pause → AsksFreely what state pause
asks_freely {A} what state pause asks = by_part (has_part state.host what state) refl asks
  where
    by_part : (part : Bool) → has_part state.host what state ≡ part
        → (if part then None else asked_over_image what state) ≡ Some pause → AsksFreely what state pause
    by_part true is h = absurd (cc (h))
    by_part false is h = record { free = is; asks = h }

-- the block device's service is asked for by its notification
block_task : (task : Task) (pause : Pause) → asked_by task ≡ Some pause → pause.service ≡ Block
    → is_block_task task ≡ true
block_task Nothing pause asks is = absurd (cc (asks))
block_task (Serve Block) pause asks is = refl
block_task (Serve Receive) pause asks is =
    let other : Receive ≡ Block = ap (λ (p : Pause). p.service) (same_Some _ pause asks) ∙ is in
    absurd (cc (other))
block_task (Serve Transmit) pause asks is =
    let other : Transmit ≡ Block = ap (λ (p : Pause). p.service) (same_Some _ pause asks) ∙ is in
    absurd (cc (other))
block_task (Serve (Further n q)) pause asks is =
    let other : Further n q ≡ Block = ap (λ (p : Pause). p.service) (same_Some _ pause asks) ∙ is in
    absurd (cc (other))
block_task (PutOut byte) pause asks is = absurd (cc (asks))

block_rings : {A : Type 0} (what : EventKind A) (state : SlotState) (pause : Pause)
    → asked_over_image what state ≡ Some pause → pause.service ≡ Block → notifies_block what state ≡ true
block_rings (Write window offset width value) state pause asks is =
    block_task (task_at window offset width value state) pause asks is
block_rings (Input bytes) state pause asks is =
    let other : Receive ≡ Block = ap (λ (p : Pause). p.service) (same_Some _ pause asks) ∙ is in
    absurd (cc (other))
block_rings (Device n what) state pause asks is =
    let a = asking n what state pause asks in
    let other : Further n a.queue ≡ Block = sym (ap (λ (p : Pause). p.service) a.is) ∙ is in
    absurd (cc (other))
block_rings what state pause asks is = absurd (cc (asks))

-- so the host has no disk that such a service serves
pub serves_itself : {A : Type 0} (what : EventKind A) (state : SlotState) (pause : Pause)
    → asked what state ≡ Some pause → is_hosts state.host pause.service ≡ false
serves_itself {A} what state pause asks = by_host state.host pause.service refl refl
  where
    by_host : (host : Option HostedDisk) (service : Service) → state.host ≡ host → pause.service ≡ service
        → is_hosts host service ≡ false
    by_host None service is which = refl
    by_host (Some disk) Block is which =
        let freely = asks_freely what state pause asks in
        let free : has_part (Some disk) what state ≡ false =
        ap (λ (host : Option HostedDisk). has_part host what state) (sym is) ∙ freely.free in
        absurd (ringing_part disk what state (block_rings what state pause freely.asks which) free)
    by_host (Some disk) Receive is which = refl
    by_host (Some disk) Transmit is which = refl
    by_host (Some disk) (Further n q) is which = refl

-- ---- and what it finds as it begins

write_host : (window : SlotWindow) (offset width value : ℕ) (state : SlotState)
    → (with_write window offset width value state).host ≡ state.host
write_host slot_window.Block offset width value state = refl
write_host slot_window.Console offset width value state = refl

-- the same has the disk, and has the same in flight of it
pub readied_host : {A : Type 0} (what : EventKind A) (state : SlotState) → (readied what state).host ≡ state.host
readied_host (Write window offset width value) state = write_host window offset width value state
readied_host what state = refl
