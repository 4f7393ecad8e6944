use Rattle.std.proofs.Common.{length}
use Rattle.chain.specs.Bytes.{readable_of, writable_of}
use Rattle.shared_memory.specs.Sightings.{memory}
use Rattle.block_device.specs.Hosting.{hosted_device}
use Rattle.chain_handler.proofs.Seeing.{writes_nothing}
use Rattle.racing_disk.proofs.Telling.{none_given}
use Rattle.racing_disk.proofs.serving.RacingDiskChainHandlerRuns.serve.Goals as goal
use Rattle.std.proofs.Common.{sym, ◌∙◌}

pub returns-then-writable-eq0-clause-does : goal.returns-then-writable-eq0-clause-does
returns-then-writable-eq0-clause-does g c =
    writes_nothing (hosted_device c.args.self.now.device) g.M.Shared.races
    (g.M.Shared.sightings c.args.mem.now) c.args.chain.now tt tt c.requires.good
    (none_given c.args.self.now.device (readable_of (memory (g.M.Shared.sightings c.args.mem.now)) c.args.chain.now)
    (length (writable_of c.args.chain.now)) (sym c.writable_len-writable.ensures ∙ c.if-writable-eq0.true))
