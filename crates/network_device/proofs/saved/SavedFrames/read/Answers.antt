use Rattle.std.proofs.Common.{◌∙◌, arith, sym}
use Rattle.network_device.proofs.Saving.{within}
use Rattle.network_device.proofs.saved.SavedFrames.read.Goals as goal

pub returns-clause-within : goal.returns-clause-within
returns-clause-within c =
    within c.args.limits c.as_chunks.result.0.now c.in_ok-bytes.bytes.now
    (omega (arith, c.as_chunks.ensures.front_len, c.in_ok-lens.ensures.len, c.if-count-limits.false))
    (sym c.total_of-total.ensures ∙ sym c.in_ok-bytes.ensures.len)
    (omega (arith, c.in_ok-bytes.ensures.len, c.if-total-limits.false))
