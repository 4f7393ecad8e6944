use Rattle.std.proofs.Common.{arith}
use Rattle.racing_disk.proofs.Answering.{id_found, none_found}
use Rattle.racing_disk.proofs.disk.RacingDisk.store_found.Goals as goal

pub returns-in-GetId-clause-found : goal.returns-in-GetId-clause-found
returns-in-GetId-clause-found g c =
    id_found c.args.self.now.device _ _ _ c.args.chain.now c.args.request c.args.runs.now c.in-GetId.is (omega arith)
    c.requires.left c.store_in_chain.ensures.stored

pub returns-in-Rejected-clause-found : goal.returns-in-Rejected-clause-found
returns-in-Rejected-clause-found g c =
    none_found c.args.self.now.device _ _ c.args.chain.now c.args.request c.args.runs.now c.in-Rejected.status
    c.in-Rejected.is c.requires.left
