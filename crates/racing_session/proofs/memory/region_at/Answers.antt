use Rattle.std.proofs.Common.{◌*◌, length, ap, arith, ◌∙◌}
use Rattle.std.specs.Vec.{vec_items}
use Rattle.racing_session.proofs.Lending.{ends_below, few_bytes, is_at}
use Rattle.racing_session.proofs.memory.region_at.Goals as goal

pub new-requires-2-clause-few : goal.new-requires-2-clause-few
new-requires-2-clause-few c =
    rw c.as_slice.ensures.value
    (few_bytes vec_items c.args.regions.now c.args.words.now c.requires.words c.args.place
    (omega (arith, c.if-place-regions.false)) c.index-words-place.result c.index-words-place.is
    (record { base = 0; len = 0 }) c.requires.good)

pub new-requires-2-clause-fits : goal.new-requires-2-clause-fits
new-requires-2-clause-fits c =
    rw c.as_slice.ensures.value
    (ends_below vec_items c.args.regions.now c.args.words.now c.requires.words c.args.place
    (omega (arith, c.if-place-regions.false)) c.index-words-place.result c.index-words-place.is
    (record { base = 0; len = 0 }) c.requires.good)

pub returns : goal.returns
returns c =
    is_at vec_items c.args.regions.now c.args.words.now c.requires.words c.args.place
    (omega (arith, c.if-place-regions.false)) c.index-words-place.result c.index-words-place.is
    (record { base = 0; len = 0 }) c.new-2.result c.new-2.ensures.base
    (c.new-2.ensures.len ∙ ap (λ run. 8 * length run) c.as_slice.ensures.value)
