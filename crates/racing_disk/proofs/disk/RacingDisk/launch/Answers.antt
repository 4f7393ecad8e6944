use Rattle.std.proofs.Common.{◌∙◌, true, arith}
use Rattle.chain_handler.proofs.Rows.{few_places}
use Rattle.racing_disk.proofs.Telling.{left_inside, places_left, runs_are}
use Rattle.racing_disk.proofs.disk.RacingDisk.launch.Goals as goal

pub overflow_cast-result : goal.overflow_cast-result
overflow_cast-result g c =
    omega (arith, c.writable_len.ensures, few_places true c.args.chain.now c.buffers.ensures.fits)

pub tell-operation-requires-clause-places : goal.tell-operation-requires-clause-places
tell-operation-requires-clause-places g c =
    places_left c.args.self.now.device c.args.chain.now c.args.request c.args.runs.now c.requires.left c.requires.asks

pub returns-clause-runs : goal.returns-clause-runs
returns-clause-runs g c = λ readable left.
    c.tell-operation.ensures.runs
    ∙ runs_are c.args.self.now.device c.args.chain.now c.args.request c.args.runs.now readable left

pub returns-clause-inside : goal.returns-clause-inside
returns-clause-inside g c = λ m good.
    left_inside c.args.self.now.device m c.args.chain.now c.args.request c.args.stable c.tell-operation.result
    c.args.runs.now c.tell-operation.new.runs good c.requires.left c.requires.asks c.tell-operation.ensures.operation
    c.tell-operation.ensures.runs

pub returns-clause-room : goal.returns-clause-room
returns-clause-room g c = λ m good. c.last_writable.ensures.inside m good.inside
