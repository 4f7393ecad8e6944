use Rattle.std.proofs.Common.{◌≡◌, ◌<◌, ◌≤◌, ◌⊎◌, inl, inr, length, refl}
use Rattle.std.proofs.lemmas.Bool.{cases_lt}
use Rattle.std.proofs.lemmas.Option.{slice_get_past}
use Rattle.board.specs.declared.reply.Reply.TheVariants.{BadSlot}
use Rattle.board.specs.World.{Handles, world_of}
use Rattle.board.proofs.Seats.{handles_missing}
use Rattle.board.proofs.Answered.{ended_within, handled}
use Rattle.board.proofs.board.Board.handle.Goals as goal

pub unreachable-requires : goal.unreachable-requires
unreachable-requires g c =
    elim (c.turn-turn.ensures.limited c.in-More.field-0 c.in-More.is) [
      | inl limit ↦ limit refl
      | inr limit ↦ limit refl
    ]

pub returns-clause-handles : goal.returns-clause-handles
returns-clause-handles g c tells = either (cases_lt c.args.slot (length c.args.self.now.slots))
  where
    either : (c.args.slot < length c.args.self.now.slots) ⊎ (length c.args.self.now.slots ≤ c.args.slot)
        → Handles (world_of g.I.Image.disk c.args.self.now)
        (record { slot = c.args.slot; what = c.args.what.now }) c.in-Answered.reply
        c.turn-turn.result.block_irq c.turn-turn.result.console_irq (g.O.Outlet.bytes c.args.out.now)
        (g.O.Outlet.bytes c.turn-turn.new.out) (world_of g.I.Image.disk c.turn-turn.new.self)
    either (inl below) = handled (record { slot = c.args.slot; what = c.args.what.now }) _ _ _
        c.in-Answered.reply _ _ _ _ (rw c.in-Answered.is at (c.turn-turn.ensures.takes tells below))
    either (inr past) =
        let kept = c.turn-turn.ensures.missing past in
        let bad : c.in-Answered.reply ≡ BadSlot =
        cc (c.in-Answered.is, c.turn-turn.ensures.bad_slot.1 past) in
        rw (kept.same, kept.silent, kept.block, kept.console, bad)
        (handles_missing c.args.self.now.slots (g.I.Image.disk c.args.self.now.image)
        (record { slot = c.args.slot; what = c.args.what.now }) (g.O.Outlet.bytes c.args.out.now)
        (slice_get_past c.args.self.now.slots c.args.slot past))

pub returns-clause-within : goal.returns-clause-within
returns-clause-within g c limit limited found after here now =
    ended_within limit c.args.what.now _ _ _ _ _ c.in-Answered.reply
    (rw c.in-Answered.is at (c.turn-turn.ensures.within limit limited found after here now))
