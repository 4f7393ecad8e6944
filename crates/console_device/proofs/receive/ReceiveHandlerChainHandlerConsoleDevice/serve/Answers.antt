use Rattle.std.proofs.Common.{◌∙◌, length, ap, arith}
use Rattle.chain.specs.Bytes.{writable_of}
use Rattle.console_device.specs.Console.{Console}
use Rattle.shared_memory.specs.Sightings.{memory}
use Rattle.console_device.proofs.Receiving.{few_received, left_of_input, receive_does}
use Rattle.console_device.proofs.receive.ReceiveHandlerChainHandlerConsoleDevice.serve.Goals as goal

pub overflow_cast-result : goal.overflow_cast-result
overflow_cast-result g c =
    omega (
      arith,
      few_received (memory (g.M.Shared.sightings c.args.mem.now)) c.args.chain.now c.args.console.now.pending
          c.store_input-count.result c.requires.good c.store_input-count.ensures.count,
    )

pub returns-clause-does : goal.returns-clause-does
returns-clause-does g c =
    receive_does g.M.Shared.races (g.M.Shared.sightings c.args.mem.now)
    (g.M.Shared.sightings c.store_input-count.new.mem) c.args.chain.now c.args.console.now.pending
    c.skip_input.new.self.pending c.store_input-count.result c.requires.good c.store_input-count.ensures.count
    c.store_input-count.ensures.stored
    (ap (λ (console : Console). console.pending) c.skip_input.ensures
    ∙ left_of_input c.store_input-count.result (length (writable_of c.args.chain.now)) c.args.console.now.pending
    c.store_input-count.ensures.count)
