use Rattle.chain.specs.Bytes.{writable_of}
use Rattle.console_device.proofs.Receiving.{both_stored, count_both}
use Rattle.console_device.proofs.receive.store_input.Goals as goal

pub returns-clause-count : goal.returns-clause-count
returns-clause-count g c =
    count_both c.pending.result.0.now c.pending.result.1.now c.args.console.now.pending (writable_of c.args.chain.now)
    c.writable_len-places.result c.min-from_front.result c.min-from_back.result c.writable_len-places.ensures
    c.pending.ensures c.min-from_front.ensures c.min-from_back.ensures

pub returns-clause-stored : goal.returns-clause-stored
returns-clause-stored g c =
    both_stored c.pending.result.0.now c.pending.result.1.now c.args.console.now.pending (writable_of c.args.chain.now)
    c.writable_len-places.result c.min-from_front.result c.min-from_back.result c.writable_len-places.ensures
    c.pending.ensures c.min-from_front.ensures c.min-from_back.ensures g.M.Shared.races (g.M.Shared.sightings c.args.mem.now)
    (g.M.Shared.sightings c.store_in_chain.new.mem) (g.M.Shared.sightings c.store_behind.new.mem)
    c.store_in_chain.ensures.stored c.store_behind.ensures
