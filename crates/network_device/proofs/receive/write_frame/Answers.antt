use Rattle.std.proofs.Common.{◌+◌, arith, length, refl}
use Rattle.chain.specs.Bytes.{writable_of}
use Rattle.shared_memory.specs.Sightings.{memory}
use Rattle.network_device.specs.Header.{receive_header}
use Rattle.network_device.proofs.Receiving.{small, three_rows}
use Rattle.network_device.proofs.receive.write_frame.Goals as goal

pub overflow_add-result-2 : goal.overflow_add-result-2
overflow_add-result-2 g c =
    let s = small (memory (g.M.Shared.sightings c.args.mem.now)) c.args.chain.now (12 + length c.args.front.now + length c.args.back.now)
    c.requires.good c.requires.fits in omega (arith, s)

pub overflow_cast-result : goal.overflow_cast-result
overflow_cast-result g c =
    let s = small (memory (g.M.Shared.sightings c.args.mem.now)) c.args.chain.now (12 + length c.args.front.now + length c.args.back.now)
    c.requires.good c.requires.fits in omega (arith, s)

pub returns-clause-stored : goal.returns-clause-stored
returns-clause-stored g c =
    three_rows g.M.Shared.races _ _ _ _ (writable_of c.args.chain.now) receive_header c.args.front.now c.args.back.now
    (12 + length c.args.front.now) (12 + length c.args.front.now + length c.args.back.now) refl refl refl
    (rw c.receive_header-header.ensures at c.store_in_chain.ensures.stored)
    c.store_in_chain-2.ensures.stored c.store_in_chain-3.ensures.stored
