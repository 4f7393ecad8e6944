use Rattle.std.proofs.Common.{arith, length, refl}
use Rattle.chain.specs.Bytes.{readable_of, writable_of}
use Rattle.block_device.specs.declared.request.Request.TheVariants.{Rejected}
use Rattle.block_device.proofs.Answering.{finished_does, done_rejected}
use Rattle.block_device.proofs.Asking.{asks_nothing, unasked_does}
use Rattle.block_device.proofs.device.BlockDevice.reject.Goals as goal

pub returns-clause-does : goal.returns-clause-does
returns-clause-does g c = λ disk.
    let why = c.requires.rejected in
    unasked_does c.args.self.now c.args.mem.now c.finish.new.mem c.args.chain.now disk disk
    c.finish.result.len c.finish.result.wrote
    (asks_nothing c.args.self.now (readable_of c.args.mem.now c.args.chain.now)
    (length (writable_of c.args.chain.now)) why.room (Rejected c.args.status) why.all why.is refl)
    (finished_does c.args.self.now c.args.mem.now c.args.mem.now c.finish.new.mem c.args.chain.now disk disk
    (Rejected c.args.status) why.room 0 c.finish.result.len c.args.status c.finish.result.wrote why.all why.is
    (done_rejected (Rejected c.args.status) c.args.chain.now c.args.mem.now disk c.args.status refl)
    (omega (arith, why.all)) c.finish.ensures.status c.finish.ensures.len c.finish.ensures.wrote)
