-- A device is plugged in, or refused.
use Rattle.std.proofs.Common.{refl}
use Rattle.board.proofs.Lists.{is_there, not_there, set_same}
use Rattle.board.proofs.Seats.{sound_set}
use Rattle.board.proofs.board.Board.plug.Goals as goal
use Rattle.board.proofs.board.Board.plug.Goals.{in-Ok, in-Err}

pub returns-in_default-clause-refused : goal.returns-in_default-clause-refused
returns-in_default-clause-refused g c =
    rw (← c.self.view_is, not_there c.self.inside.slots.items c.args.slot c.in_default.ensures.item) refl

pub invariant_of-self-2 : goal.invariant_of-self-2
invariant_of-self-2 g c =
    sound_set _ c.self.inside.slots.items c.args.slot c.in-Some.found.now c.plug.new.self c.plug.ensures.place
    (is_there c.self.inside.slots.items c.args.slot c.in-Some.found c.in-Some.ensures.item) c.self.invariant

pub returns-clause-plugged : goal.returns-clause-plugged
returns-clause-plugged g c =
    elim c.match-plug.branch [
      | in-Ok w ↦ rw (w.result-is)
          (let plugged = rw (w.in-Ok.is) at c.plug.ensures.plugged in
          record {
            before = c.in-Some.found.now;
            there = rw (← c.self.view_is) (is_there c.self.inside.slots.items c.args.slot c.in-Some.found c.in-Some.ensures.item);
            next = plugged.0;
            taken = rw (w.in-Ok.is) at c.plug.ensures.taken;
            is = rw (← c.self.view_is, plugged.1) refl;
          })
      | in-Err w ↦ rw (w.result-is) tt
    ]

pub returns-clause-refused : goal.returns-clause-refused
returns-clause-refused g c =
    elim c.match-plug.branch [
      | in-Ok w ↦ rw (w.result-is) tt
      | in-Err w ↦ rw (w.result-is, ← c.self.view_is, is_there c.self.inside.slots.items c.args.slot c.in-Some.found c.in-Some.ensures.item) (rw (w.in-Err.is) at c.plug.ensures.refused)
    ]

pub returns-clause-kept : goal.returns-clause-kept
returns-clause-kept g c =
    elim c.match-plug.branch [
      | in-Ok w ↦ rw (w.result-is) tt
      | in-Err w ↦ rw (
        w.result-is,
        ← c.self.view_is,
        rw (w.in-Err.is) at c.plug.ensures.kept,
        set_same c.self.inside.slots.items c.args.slot c.in-Some.found.now c.in-Some.found.now (is_there c.self.inside.slots.items c.args.slot c.in-Some.found c.in-Some.ensures.item) refl,
      )
          refl
    ]
