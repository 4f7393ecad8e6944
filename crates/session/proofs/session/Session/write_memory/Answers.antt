-- A range of a guest's memory is written, or the write is refused.
use Rattle.std.proofs.Common.{◌≡◌, false, true, Ok, Err, refl, length}
use Rattle.std.specs.Prelude.{nat_lt, if◌then◌else◌, IsSomeAnd}
use Rattle.std.specs.List.{slice_get}
use Rattle.guest_memory.specs.Memory.{Inside}
use Rattle.board.specs.declared.event.EventKind.TheVariants.{MemWrite}
use Rattle.board.specs.declared.reply.Reply.TheVariants.{BadRange, BadSlot, Done}
use Rattle.session.specs.declared.response.Response.TheVariants.{Answered}
use Rattle.session.specs.declared.refusal.Refusal.TheVariants as refusal
use Rattle.session.specs.Answering.{Means, done_response}
use Rattle.session.specs.Pausing.{IsEventCall, IsToldCall}
use Rattle.session.specs.Session.{IsIdle, IsStep, SessionState}
use Rattle.session.proofs.Calls.{refused_range}
use Rattle.session.proofs.Exact.{outside_range, refuses, step_call}
use Rattle.session.proofs.InPlace.{wrote}
use Rattle.session.proofs.Ranges.{not_written}
use Rattle.session.proofs.session.Session.write_memory.Goals as goal

-- the session behind the write
abbrev behind : (g : _) (c : goal.Then-write_memory g) → SessionState
behind g c = record c.args.self.now { slots = c.write_memory.new.self.slots }

called : (g : _) (c : goal.Then-write_memory g)
    → IsEventCall {A = g.row.A.Denot} c.args.self.now c.args.slot (MemWrite c.args.addr c.args.from.now)
    (Answered Done) (behind g c)
called g c =
    let told = c.if-write_memory.ensures in
    let step : IsStep {A = g.row.A.Denot} c.args.self.now
    (record { slot = c.args.slot; what = MemWrite c.args.addr c.args.from.now }) Done (behind g c) =
    wrote _ c.args.self.now c.write_memory.new.self.slots c.args.slot c.args.addr c.args.from.now
    (rw (← c.self.view_is) (told.inside.0 refl)) (rw (← c.self.view_is) told.put) in
    step_call c.args.self.now (behind g c) c.args.slot (MemWrite c.args.addr c.args.from.now) Done
    (rw (← c.self.view_is) c.self.invariant.1) (c.if-is_paused.ensures.idle.0 refl) (λ state. refl) step

pub returns-then-write_memory-clause-call : goal.returns-then-write_memory-clause-call
returns-then-write_memory-clause-call g c = record {
  response = Answered Done;
  call = rw (c.if-write_memory.ensures.image, ← c.self.view_is) (rw (← c.self.view_is) at (called g c));
  told = refl;
}

pub returns-then-write_memory-clause-bad_slot : goal.returns-then-write_memory-clause-bad_slot
returns-then-write_memory-clause-bad_slot g c =
    (refuses c.args.self.now (behind g c) c.args.slot (MemWrite c.args.addr c.args.from.now) (Answered Done)
    done_response (Ok tt) (λ done. refl) refl (rw (← c.self.view_is) c.self.invariant.1) (called g c)).bad_slot

-- where the range isn't inside the memory
outside : (g : _) (c : goal.After-of_range g)
    → IsSomeAnd (slice_get c.args.self.now.slots c.args.slot)
    (λ found. Inside found.memory c.args.addr (length c.args.from.now)) → ⊥
outside g c inside =
    let is : false ≡ true = c.if-write_memory.ensures.inside.1 (rw (← c.self.view_is) at inside) in absurd (cc (is))

refused : (g : _) (c : goal.After-of_range g)
    → IsToldCall {A = g.row.A.Denot} c.args.self.now c.args.slot (MemWrite c.args.addr c.args.from.now)
    (Means done_response (Err (if nat_lt c.args.slot (length c.args.self.now.slots) then refusal.BadRange
    else refusal.BadSlot))) c.args.self.now
refused g c =
    let there = nat_lt c.args.slot (length c.args.self.now.slots) in
    record {
      response = Answered (if there then BadRange else BadSlot);
      call = step_call c.args.self.now c.args.self.now c.args.slot (MemWrite c.args.addr c.args.from.now)
          (if there then BadRange else BadSlot) (rw (← c.self.view_is) c.self.invariant.1)
          (c.if-is_paused.ensures.idle.0 refl) (λ state. refl)
          (not_written _ c.args.self.now c.args.slot c.args.addr c.args.from.now (outside g c));
      told = refused_range _ there;
    }

pub returns-clause-call : goal.returns-clause-call
returns-clause-call g c =
    rw (c.of_range.ensures, c.slots.ensures, c.if-write_memory.ensures.kept, ← c.self.view_is)
    (rw (← c.self.view_is) at (refused g c))

pub returns-clause-bad_range : goal.returns-clause-bad_range
returns-clause-bad_range g c =
    rw (c.of_range.ensures, c.slots.ensures, c.if-write_memory.ensures.kept, ← c.self.view_is)
    (rw (← c.self.view_is) at (outside_range c.args.self.now.slots c.args.slot c.args.addr
    (length c.args.from.now) (IsIdle c.args.slot c.args.self.now) (c.if-is_paused.ensures.idle.0 refl)
    (outside g c)))
