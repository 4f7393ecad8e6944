use Rattle.std.proofs.Common.{arith}
use Rattle.std.specs.Vec.{vec_items}
use Rattle.racing_session.proofs.Lending.{long}
use Rattle.racing_session.proofs.memory.are_words_of.Goals as goal

pub returns-then-not-is_as_long : goal.returns-then-not-is_as_long
returns-then-not-is_as_long c =
    let run = c.index-words-place.result in (
      λ t. absurd (cc (t)),
      λ are. absurd (cc (
        c.if-not-is_as_long.true,
        c.is_as_long.ensures.1 (omega (
          arith,
          c.len.ensures,
          run.ok.0,
          long vec_items c.args.regions.now c.args.words.now are c.loop-place.place c.loop-place-test.true run
              c.index-words-place.is (record { base = 0; len = 0 }),
        )),
      )),
    )
