use Rattle.std.proofs.Common.{rules}
use Rattle.shared_memory.specs.Sightings.{memory}
use Rattle.racing_ring.proofs.Tables.{no_packed_table}
use Rattle.racing_ring.proofs.packed.table.append_table.Goals as goal

pub returns-in_err-copy_table-clause-fault : goal.returns-in_err-copy_table-clause-fault
returns-in_err-copy_table-clause-fault g c =
    let faulty = no_packed_table c.args.negotiated (memory (g.M.Shared.sightings c.copy_table.new.mem)) c.args.chain.now
    c.args.descriptor c.in_err-copy_table.field-0.0 c.in_err-copy_table.ensures.fault c.in_err-copy_table.ensures.err in
    search (rules, faulty)
