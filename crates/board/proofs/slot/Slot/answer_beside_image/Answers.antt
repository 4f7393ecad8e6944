use Rattle.std.proofs.Common.{◌≡◌, ℕ, List, [], false, refl, sym, ap}
use Rattle.board.specs.declared.event.EventKind.{EventKind}
use Rattle.board.specs.declared.event.EventKind.TheVariants.{Input, Restore}
use Rattle.board.specs.Hosting.{must_wait}
use Rattle.board.specs.Slot.{BoardSlot, state_of}
use Rattle.board.proofs.Beside.{keeps_as, keeps_on, range_of}
use Rattle.board.proofs.Blocks.{read_given, told_given}
use Rattle.board.proofs.ImageDisks.{device_asked, device_decides, device_in_range, device_keeps, device_limited, device_memory, device_note, device_notified, device_ready, device_serves, device_silent, device_there}
use Rattle.board.proofs.Turns.{comes_first, silent_answer}
use Rattle.board.proofs.slot.Slot.answer_beside_image.Goals as goal
use Rattle.board.proofs.slot.Slot.answer_beside_image.Goals.{in-Read, in-MemRead, in-MemWrite, in-Resize, in-Restore, in-Host}

-- a restore waits
waits : {A : Type 0} {what : EventKind A} {bytes : List ℕ} → what ≡ Restore bytes → must_wait what ≡ false → ⊥
waits is free = let said = rw is at free in absurd (cc said)

pub returns-in-Input-clause-serves : goal.returns-in-Input-clause-serves
returns-in-Input-clause-serves g c = λ image health filled.
    rw (c.in-Input.is, ← c.as_slice-in-Input.ensures)
    (comes_first (Input _) _ c.args.budget (state_of image c.args.self.now) _ _ _ c.input.result
    (g.O.Outlet.bytes c.args.out.now) refl
    (c.input.ensures.comes image health))

pub returns-in-Input-clause-keeps : goal.returns-in-Input-clause-keeps
returns-in-Input-clause-keeps g c =
    let typed = c.input.ensures in
    rw (c.in-Input.is)
    (keeps_on _ c.args.self.now _ (keeps_as _ _ _ refl refl refl refl (refl, refl))
    (ap (λ (slot : BoardSlot). slot.block) typed.rest) (ap (λ (slot : BoardSlot). slot.host) typed.rest)
    typed.range (
      ap (λ (slot : BoardSlot). slot.extent) typed.rest,
      ap (λ (slot : BoardSlot). slot.spare) typed.rest,
    ))

pub returns-in-Device : goal.returns-in-Device
returns-in-Device g c =
    let n = c.in-Device.device in
    let what = c.in-Device.what in
    let old = c.args.self.now in
    let new = c.device_event.new.self in
    let r = c.device_event.result in
    let out = g.O.Outlet.bytes c.args.out.now in
    let begun = c.device_event.ensures.begins in
    let asks = c.device_event.ensures.asks in
    rw (c.in-Device.is)
    (record {
      notified = λ hosted image. sym (device_notified n what c.args.budget old new r asks hosted);
      asks = device_asked n what c.args.budget old new r asks;
      readied = device_ready n what c.args.budget old new r asks;
      silent = device_silent n what c.args.budget old new r out;
      serves = device_serves n what c.args.budget old new r _ out begun;
      within = device_decides n what c.args.budget old new r (g.O.Outlet.limit c.args.out.now) out begun;
      limited = device_limited n what c.args.budget old new r begun;
      limit = refl;
      keeps = device_keeps n what c.args.budget old new r begun asks;
      disturbed = device_note n what c.args.budget old new r begun asks;
      there = device_there n what c.args.budget old new r begun;
      bad_range = device_in_range n what c.args.budget old new r begun;
      no_memory = device_memory n what c.args.budget old new r begun;
    })

pub returns-clause-serves : goal.returns-clause-serves
returns-clause-serves g c = λ image health filled.
    let slot = c.args.self.now in
    let out = (g.O.Outlet.bytes c.args.out.now) in
    elim c.match-what.branch [
      | in-Read w ↦
          rw (w.self-is, w.reply-is, w.in-Read.is)
          (silent_answer _ c.args.budget _ _ _ _ _ out refl
          (read_given (state_of image slot) w.in-Read.window w.in-Read.offset w.in-Read.width
          w.read_window.result health (w.read_window.ensures image filled)))
      | in-MemRead w ↦ rw (w.self-is, w.reply-is, w.in-MemRead.is)
          (silent_answer _ c.args.budget _ _ _ _ _ out refl (w.read_memory-reply.ensures.given image health))
      | in-MemWrite w ↦ rw (w.self-is, w.reply-is, w.in-MemWrite.is, ← w.as_slice.ensures)
          (silent_answer _ c.args.budget _ _ _ _ _ out refl (w.write_memory-reply.ensures.given image health))
      | in-Resize w ↦ rw (w.self-is, w.reply-is, w.in-Resize.is)
          (silent_answer _ c.args.budget _ _ _ _ _ out refl (w.resize-reply.ensures.given image health))
      | in-Restore w ↦ rw (w.self-is, w.reply-is, w.in-Restore.is, ← w.as_slice-in-Restore.ensures)
          (silent_answer _ c.args.budget _ _ _ _ _ out refl
          (w.answer_restore-reply.ensures.given image health filled))
      | in-Host w ↦ rw (w.self-is, w.reply-is, w.in-Host.is)
          (silent_answer _ c.args.budget _ _ _ _ _ out refl (told_given (state_of image slot) _ health))
    ]

pub returns-clause-keeps : goal.returns-clause-keeps
returns-clause-keeps g c =
    let slot = c.args.self.now in
    elim c.match-what.branch [
      | in-Read w ↦ rw (w.self-is, w.in-Read.is) (keeps_as slot slot _ refl refl refl refl (refl, refl))
      | in-MemRead w ↦ rw (w.self-is, w.in-MemRead.is) (keeps_as slot slot _ refl refl refl refl (refl, refl))
      | in-MemWrite w ↦
          let put = w.write_memory-reply.ensures in
          rw (w.self-is, w.in-MemWrite.is)
          (keeps_on slot slot _ (keeps_as slot slot _ refl refl refl refl (refl, refl))
          (ap (λ (s : BoardSlot). s.block) put.rest) (ap (λ (s : BoardSlot). s.host) put.rest) put.range
          (ap (λ (s : BoardSlot). s.extent) put.rest, ap (λ (s : BoardSlot). s.spare) put.rest))
      | in-Resize w ↦
          let resized = w.resize-reply.ensures in
          rw (w.self-is, w.in-Resize.is)
          (keeps_as slot _ _ (ap (state_of []) resized.rest) refl refl refl
          (ap (λ (s : BoardSlot). s.extent) resized.rest, ap (λ (s : BoardSlot). s.spare) resized.rest))
      | in-Restore w ↦
          let restored = w.answer_restore-reply.ensures in
          rw (w.self-is)
          (record {
            block = λ free. absurd (waits w.in-Restore.is free);
            host = restored.host;
            range = range_of _ _ restored.memory;
            place = restored.place;
          })
      | in-Host w ↦ rw (w.self-is, w.in-Host.is) (keeps_as slot slot _ refl refl refl refl (refl, refl))
    ]
