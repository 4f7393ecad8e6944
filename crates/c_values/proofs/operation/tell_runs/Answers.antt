use Rattle.std.proofs.Common.{◌<◌, ◌≤◌, inr, ◌∙◌, arith, length}
use Rattle.std.proofs.lemmas.Option.{slice_get-get_or}
use Rattle.c_values.proofs.Runs.{all_told, behind, one_told}
use Rattle.c_values.proofs.operation.tell_runs.Goals as goal

pub returns-then-place-room : goal.returns-then-place-room
returns-then-place-room c =
    let full : length c.args.room.now ≤ c.loop-place.place =
    omega (arith, c.if-place-room.true, c.loop-place.auto.room) in
    c.loop-place.invariant ∙ all_told c.loop-place.place c.args.runs.now c.args.room.now (inr full)

pub loop-place-preserved : goal.loop-place-preserved
loop-place-preserved c =
    let runs = c.args.runs.now in
    let room = c.args.room.now in
    let place = c.loop-place.place in
    let inside : place < length room = omega (arith, c.if-place-room.false, c.loop-place.auto.room) in
    rw (c.loop-place.invariant, c.of.ensures)
    (behind place _ runs room _ (omega arith)
    (one_told place runs room _ inside (slice_get-get_or runs place _ c.loop-place-test.true)))
