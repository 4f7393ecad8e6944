use Rattle.std.proofs.Common.{refl}
use Rattle.std.proofs.lemmas.Bool.{false≢true}
use Rattle.replay.proofs.Answering.{past_slots, register_read, slot_missing}
use Rattle.replay.proofs.running.read.Goals as goal

pub returns-in-None : goal.returns-in-None
returns-in-None g c =
    slot_missing g.I.Image.disk c.args.board.now c.args.board.now _ refl
    (past_slots c.args.board.now c.args.slot (λ there. false≢true (c.in-None.ensures.there.1 there)))

pub returns-in-Some : goal.returns-in-Some
returns-in-Some g c =
    register_read _ g.I.Image.disk c.args.board.now c.args.slot c.args.window c.args.offset c.args.width
    c.in-Some.value c.in-Some.ensures.value
