use Rattle.std.proofs.Common.{◌∙◌}
use Rattle.std.proofs.lemmas.List.{take_all}
use Rattle.std.proofs.lemmas.Result.{err_from_is_err_and}
use Rattle.block_device.specs.Touching.{on_image}
use Rattle.block_device.specs.Zeroes.{all_sectors}
use Rattle.block_device.proofs.Zeroing.{segment-listed, segment_within, zeroes_end, zeroes_stopped, zeroing_joins, zeroing_start}
use Rattle.block_device.proofs.Touching.{unwritten, written_nothing, written_part}
use Rattle.block_device.proofs.device.BlockDevice.zero_segments.Goals as goal

pub zero_sectors-requires-clause-sectors : goal.zero_sectors-requires-clause-sectors
zero_sectors-requires-clause-sectors g c =
    segment_within c.as_slice-list.result.now c.loop-segment.segment-index _ c.loop-segment-test.true
    c.args.self.now.extent.count (rw (← c.as_slice-list.ensures) at c.requires.sectors)

pub loop-segment-init : goal.loop-segment-init
loop-segment-init g c = (
  zeroing_start c.args.self.now.extent (g.I.Image.disk c.args.cache.now),
  unwritten (on_image c.args.self.now.extent (all_sectors c.as_slice-list.result.now)),
)

pub loop-segment-preserved : goal.loop-segment-preserved
loop-segment-preserved g c = (
  zeroing_joins c.as_slice-list.result.now c.loop-segment.segment-index _ c.loop-segment-test.true
      c.args.self.now.extent (g.I.Image.disk c.args.cache.now) (g.I.Image.disk c.loop-segment.cache)
      (g.I.Image.disk c.zero_sectors.new.cache) c.loop-segment.invariant.0 c.in_ok-zero_sectors.ensures.ok,
  written_part c.args.self.now.extent (all_sectors c.as_slice-list.result.now) _ c.loop-segment.invariant.1
      (segment-listed c.as_slice-list.result.now c.loop-segment.segment-index _ c.loop-segment-test.true)
      c.zero_sectors.ensures.touches,
)

pub returns-in_err-zero_sectors-clause-written : goal.returns-in_err-zero_sectors-clause-written
returns-in_err-zero_sectors-clause-written g c = λ m buffers are.
    rw ((err_from_is_err_and c.from_residual.result c.from_residual.ensures.1).1, ← c.as_slice-list.ensures)
    (zeroes_stopped c.args.self.now buffers m (g.I.Image.disk c.args.cache.now)
    (g.I.Image.disk c.loop-segment.cache) (g.I.Image.disk c.zero_sectors.new.cache) c.as_slice-list.result.now
    c.loop-segment.segment-index c.loop-segment.invariant.0 (c.as_slice-list.ensures ∙ are) _
    c.loop-segment-test.true
    c.in_err-zero_sectors.ensures.err)

pub returns-in_err-zero_sectors-clause-touches : goal.returns-in_err-zero_sectors-clause-touches
returns-in_err-zero_sectors-clause-touches g c =
    rw (← c.as_slice-list.ensures) (written_part c.args.self.now.extent
    (all_sectors c.as_slice-list.result.now) _ c.loop-segment.invariant.1
    (segment-listed c.as_slice-list.result.now c.loop-segment.segment-index _ c.loop-segment-test.true)
    c.zero_sectors.ensures.touches)

pub returns-clause-written : goal.returns-clause-written
returns-clause-written g c = λ m buffers are.
    rw (← c.as_slice-list.ensures) (zeroes_end c.args.self.now buffers m (g.I.Image.disk c.args.cache.now)
    (g.I.Image.disk c.loop-segment.cache) (g.I.Image.disk c.flush.new.self) c.as_slice-list.result.now
    c.loop-segment.segment-index c.loop-segment.invariant.0 (c.as_slice-list.ensures ∙ are) c.flush.result
    (take_all c.loop-segment.segment-index c.as_slice-list.result.now c.loop-segment-test.false)
    c.flush.ensures.ok c.flush.ensures.err)

pub returns-clause-touches : goal.returns-clause-touches
returns-clause-touches g c =
    rw (← c.as_slice-list.ensures) (written_nothing
    (on_image c.args.self.now.extent (all_sectors c.as_slice-list.result.now))
    c.loop-segment.invariant.1 c.flush.ensures.touches)
