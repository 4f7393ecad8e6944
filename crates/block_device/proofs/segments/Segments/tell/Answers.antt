use Rattle.std.proofs.Common.{arith, ap, length, ◌∙◌}
use Rattle.std.proofs.lemmas.List.{take_all}
use Rattle.block_device.specs.Operation.{disk_runs}
use Rattle.block_device.proofs.Telling.{runs_few_before, runs_passed, runs_put}
use Rattle.block_device.proofs.Zeroing.{segment_addressable, segment_few}
use Rattle.block_device.proofs.segments.Segments.tell.Goals as goal
use Rattle.block_device.proofs.segments.Segments.tell.Goals.{then-segment-gt0, else-segment-gt0}

pub run-requires-clause-sector : goal.run-requires-clause-sector
run-requires-clause-sector c =
    segment_addressable c.as_slice-list.result.now c.loop-segment.segment-index _ c.loop-segment-test.true
    c.args.capacity (rw (← c.as_slice-list.ensures) at c.requires.sectors) c.requires.disk

pub run-requires-clause-few : goal.run-requires-clause-few
run-requires-clause-few c =
    segment_few c.as_slice-list.result.now c.loop-segment.segment-index _ c.loop-segment-test.true
    c.args.capacity (rw (← c.as_slice-list.ensures) at c.requires.sectors)

pub push-requires : goal.push-requires
push-requires c =
    let few = runs_few_before c.as_slice-list.result.now c.loop-segment.segment-index c.loop-segment.runs
    (omega (arith, c.loop-segment-test.true)) c.loop-segment.invariant in
    omega (arith, few, c.requires.few, ap length c.as_slice-list.ensures, c.loop-segment-test.true)

pub loop-segment-preserved : goal.loop-segment-preserved
loop-segment-preserved c =
    elim c.if-segment-gt0.branch [
      | then-segment-gt0 w ↦
          runs_put c.as_slice-list.result.now c.loop-segment.segment-index _ c.loop-segment.runs
          c.if-segment-gt0.runs c.loop-segment-test.true c.loop-segment.invariant w.if-segment-gt0.true
          (rw w.runs-is (rw w.run.ensures at w.push.ensures))
      | else-segment-gt0 w ↦
          rw w.runs-is (runs_passed c.as_slice-list.result.now c.loop-segment.segment-index _
          c.loop-segment.runs c.loop-segment-test.true c.loop-segment.invariant w.if-segment-gt0.false)
    ]

pub returns : goal.returns
returns c =
    c.loop-segment.invariant.are
    ∙ ap disk_runs (take_all c.loop-segment.segment-index c.as_slice-list.result.now c.loop-segment-test.false
    ∙ c.as_slice-list.ensures)
