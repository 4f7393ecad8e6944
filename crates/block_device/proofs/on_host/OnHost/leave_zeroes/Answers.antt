use Rattle.std.proofs.Common.{ap, ◌∙◌}
use Rattle.block_device.specs.Operation.{disk_runs}
use Rattle.block_device.proofs.Judging.{judged_asks, judged_rejected}
use Rattle.block_device.proofs.on_host.OnHost.leave_zeroes.Goals as goal

pub returns-in-Ok-clause-told : goal.returns-in-Ok-clause-told
returns-in-Ok-clause-told g c = rw c.as_slice.ensures (record {
  asked = judged_asks c.args.self.now.device.now c.args.mem.now c.args.chain.now c.args.len c.in-Ok.segments
      c.requires.unread c.in-Ok.ensures.ok;
  zeroes = λ some. c.tell.ensures ∙ ap disk_runs c.in-Ok.ensures.ok.are;
})

pub reject-requires-clause-rejected : goal.reject-requires-clause-rejected
reject-requires-clause-rejected g c =
    judged_rejected c.args.self.now.device.now c.args.mem.now c.args.chain.now c.args.len c.in-Err.status
    c.requires.unread c.in-Err.ensures.err
