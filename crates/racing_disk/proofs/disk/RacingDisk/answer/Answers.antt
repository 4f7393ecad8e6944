use Rattle.std.proofs.Common.{◌∙◌, true, ap, arith}
use Rattle.guest_memory.proofs.Ranges.{same_trans}
use Rattle.shared_memory.specs.Sightings.{memory}
use Rattle.block_device.specs.Asking.{used_by}
use Rattle.chain_handler.proofs.Rows.{byte_at_once, few_places, once_range}
use Rattle.racing_disk.proofs.Answering.{answered}
use Rattle.racing_disk.proofs.disk.RacingDisk.answer.Goals as goal

pub used-used-requires-clause-fits : goal.used-used-requires-clause-fits
used-used-requires-clause-fits g c =
    omega (arith, c.writable_len.ensures, few_places true c.args.chain.now c.buffers.ensures.fits)

pub give-requires-clause-lies : goal.give-requires-clause-lies
give-requires-clause-lies g c =
    let once = byte_at_once _ _ _ c.last_writable.result c.code.result c.code.type_inv c.store_u8.ensures.stores in
    g.met.Q.RacingQueue.lies_in_range (memory (g.M.Shared.sightings c.args.mem.now))
    (memory (g.M.Shared.sightings c.store_u8.new.self)) c.args.queue.now
    (same_trans _ _ _ c.store_found-done.ensures.range (once_range _ _ _ _ _ once)) c.requires.lies

pub returns-clause-answered : goal.returns-clause-answered
returns-clause-answered g c = λ readable left.
    let once = byte_at_once _ _ _ c.last_writable.result c.code.result c.code.type_inv c.store_u8.ensures.stores in record {
      done = g.M.Shared.sightings c.store_u8.new.self;
      answered = answered c.args.self.now.device g.M.Shared.races (g.M.Shared.sightings c.args.mem.now)
          (g.M.Shared.sightings c.store_found-done.new.mem) (g.M.Shared.sightings c.store_u8.new.self) readable c.args.chain.now
          c.args.request c.args.runs.now c.store_found-done.result.len c.last_writable.result c.used-used.result.len
          c.store_found-done.result.status left c.store_found-done.ensures.found c.last_writable.ensures.value
          (rw c.code.ensures at once)
          (c.used-used.ensures.len ∙ ap (used_by c.store_found-done.result.len) c.writable_len.ensures);
      given = rw c.used-used.ensures.wrote at
          c.give.ensures.given;
      past = c.give.ensures.past;
    }
