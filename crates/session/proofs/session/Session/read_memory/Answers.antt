-- A range of a guest's memory is read, or refused.
use Rattle.std.proofs.Common.{◌≡◌, inl, false, true, Ok, refl, length}
use Rattle.std.specs.Prelude.{nat_lt, if◌then◌else◌}
use Rattle.board.specs.declared.event.EventKind.TheVariants.{MemRead}
use Rattle.board.specs.declared.reply.Reply.TheVariants.{BadRange, BadSlot, Bytes}
use Rattle.session.specs.declared.response.Response.TheVariants.{Answered, Busy}
use Rattle.session.specs.Answering.{bytes_response}
use Rattle.session.specs.Session.{IsIdle}
use Rattle.session.proofs.Calls.{refused_range}
use Rattle.session.proofs.Exact.{busy_call, outside_range, refuses, step_call}
use Rattle.session.proofs.Ranges.{not_read, was_read}
use Rattle.session.proofs.session.Session.read_memory.Goals as goal

pub returns-then-is_paused-clause-call : goal.returns-then-is_paused-clause-call
returns-then-is_paused-clause-call g c = record {
  response = Busy;
  call = busy_call c.args.self.now c.args.slot (MemRead c.args.addr (length c.args.into.now))
      (λ idle. let is : true ≡ false = c.if-is_paused.ensures.idle.1 idle in absurd (cc (is)));
  told = inl refl;
}

pub returns-then-read_memory-clause-call : goal.returns-then-read_memory-clause-call
returns-then-read_memory-clause-call g c =
    let told = c.if-read_memory.ensures in
    let read = c.read_memory.new.into in
    record {
      response = Answered (Bytes read);
      call = step_call c.args.self.now c.args.self.now c.args.slot (MemRead c.args.addr (length c.args.into.now))
          (Bytes read) (rw (← c.self.view_is) c.self.invariant.1) (c.if-is_paused.ensures.idle.0 refl)
          (λ state. refl)
          (rw (← c.self.view_is)
          (was_read _ _ c.args.slot c.args.addr (length c.args.into.now) read (told.inside.0 refl) (told.read)));
      told = refl;
    }

pub returns-then-read_memory-clause-bad_slot : goal.returns-then-read_memory-clause-bad_slot
unfolding returns-then-read_memory-clause-call
returns-then-read_memory-clause-bad_slot g c =
    let told = returns-then-read_memory-clause-call g c in
    (refuses c.args.self.now c.args.self.now c.args.slot (MemRead c.args.addr (length c.args.into.now))
    (Answered (Bytes c.read_memory.new.into)) (bytes_response c.read_memory.new.into) (Ok tt) (λ done. refl) refl
    (rw (← c.self.view_is) c.self.invariant.1) told.call).bad_slot

pub returns-clause-call : goal.returns-clause-call
returns-clause-call g c =
    let there = nat_lt c.args.slot (length c.args.self.now.slots) in
    rw (c.of_range.ensures, c.slots.ensures) (record {
      response = Answered (if there then BadRange else BadSlot);
      call = step_call c.args.self.now c.args.self.now c.args.slot
          (MemRead c.args.addr (length c.args.into.now)) (if there then BadRange else BadSlot)
          (rw (← c.self.view_is) c.self.invariant.1) (c.if-is_paused.ensures.idle.0 refl) (λ state. refl)
          (rw (← c.self.view_is)
          (not_read _ _ c.args.slot c.args.addr (length c.args.into.now) (λ inside. let is : false
          ≡ true = c.if-read_memory.ensures.inside.1 (inside) in absurd (cc (is)))));
      told = refused_range _ there;
    })

pub returns-clause-bad_range : goal.returns-clause-bad_range
returns-clause-bad_range g c =
    rw (c.of_range.ensures, c.slots.ensures)
    (outside_range c.args.self.now.slots c.args.slot c.args.addr (length c.args.into.now)
    (IsIdle c.args.slot c.args.self.now) (c.if-is_paused.ensures.idle.0 refl)
    (λ inside. let is : false ≡ true =
    c.if-read_memory.ensures.inside.1 (rw (← c.self.view_is) at inside) in
    absurd (cc (is))))
