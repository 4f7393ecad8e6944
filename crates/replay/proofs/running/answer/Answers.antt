use Rattle.std.proofs.Common.{[], rules, arith}
use Rattle.std.proofs.lemmas.Grind.{common_steps}
use Rattle.board.specs.Image.{Tells}
use Rattle.board.specs.World.{Answers, world_of}
use Rattle.replay.proofs.Answering.{answered_alone, words_told}
use Rattle.replay.proofs.running.answer.Goals as goal

pub returns-in_default-clause-answers : goal.returns-in_default-clause-answers
returns-in_default-clause-answers g c =
    let disk = g.I.Image.disk in
    let told : Tells (disk c.args.board.now.image) → Answers (world_of disk c.args.board.now)
    c.args.parsed.now.event c.handle.result.reply [] c.handle.new.out.items (world_of disk c.handle.new.self)
    = λ tells. answered_alone c.requires.empty (c.handle.ensures.handles tells) in
    first_of (search (rules, told), grind (arith, common_steps, told))

pub returns-in_default-clause-words : goal.returns-in_default-clause-words
returns-in_default-clause-words g c tells =
    words_told g.I.Image.disk c.args.board.now c.handle.new.self _ _ _ _ _ _ (c.handle.ensures.handles tells)
