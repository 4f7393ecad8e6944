use Rattle.std.proofs.Common.{◌≡◌, ◌<◌, ◌≤◌, ◌⊎◌, inl, inr, [], length, refl}
use Rattle.std.proofs.lemmas.Bool.{cases_lt}
use Rattle.std.proofs.lemmas.Option.{slice_get_past}
use Rattle.board.specs.declared.event.Event.{Event}
use Rattle.board.specs.declared.reply.Reply.TheVariants.{BadSlot}
use Rattle.board.specs.InPlace.{event_in}
use Rattle.board.specs.World.{Answers, world_of}
use Rattle.board.proofs.Answered.{handled}
use Rattle.board.proofs.Runs.{answered}
use Rattle.board.proofs.Seats.{handles_missing}
use Rattle.board.proofs.Silent.{answered_silently}
use Rattle.board.proofs.board.Board.do_in_place.Goals as goal

pub unreachable-requires : goal.unreachable-requires
unreachable-requires g c =
    elim (c.turn-turn.ensures.limited c.in-More.field-0 c.in-More.is) [
      | inl limit ↦ limit refl
      | inr limit ↦ limit refl
    ]

pub returns-clause-step : goal.returns-clause-step
returns-clause-step g c tells = either (cases_lt c.args.slot (length c.args.self.now.slots))
  where
    event : Event g.row.A.Denot
    event = record { slot = c.args.slot; what = event_in c.args.what }

    either : (c.args.slot < length c.args.self.now.slots) ⊎ (length c.args.self.now.slots ≤ c.args.slot)
        → Answers (world_of g.I.Image.disk c.args.self.now) event c.in-Answered.reply [] []
        (world_of g.I.Image.disk c.turn-turn.new.self)
    either (inl below) =
        answered_silently _ event c.in-Answered.reply _ _
        (answered (handled event _ _ _ c.in-Answered.reply _ _ _ _
        (rw (c.in-Answered.is, c.turn-turn.ensures.silent c.args.what refl) at (c.turn-turn.ensures.takes tells below))))
    either (inr past) =
        let kept = c.turn-turn.ensures.missing past in
        let bad : c.in-Answered.reply ≡ BadSlot =
        cc (c.in-Answered.is, c.turn-turn.ensures.bad_slot.1 past) in
        rw (kept.same, bad)
        (answered (handles_missing c.args.self.now.slots (g.I.Image.disk c.args.self.now.image) event []
        (slice_get_past c.args.self.now.slots c.args.slot past)))
