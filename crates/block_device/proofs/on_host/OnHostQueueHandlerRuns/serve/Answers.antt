use Rattle.std.proofs.lemmas.Result.{IfOk-weaker}
use Rattle.block_device.proofs.Anywhere.{hosted_does}
use Rattle.block_device.proofs.on_host.OnHostQueueHandlerRuns.serve.Goals as goal

pub returns-in-Answered-clause-does : goal.returns-in-Answered-clause-does
returns-in-Answered-clause-does g c =
    hosted_does c.args.self.now.device.now c.args.mem.now c.begin.new.mem c.args.chain.now c.in-Answered.used.len
    c.in-Answered.used.wrote
    c.in-Answered.ensures.begun

pub returns-in-Zeroes-clause-does : goal.returns-in-Zeroes-clause-does
returns-in-Zeroes-clause-does g c =
    IfOk-weaker c.leave_zeroes.result _ _
    (λ used does. hosted_does c.args.self.now.device.now c.args.mem.now c.leave_zeroes.new.mem c.args.chain.now
    used.len used.wrote (rw c.in-Zeroes.ensures.begun.1 at does)) c.leave_zeroes.ensures.does
