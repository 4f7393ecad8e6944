use Rattle.std.proofs.Common.{sym, ap, refl, ◌∙◌, not, arith}
use Rattle.chain.specs.Bytes.{readable_of}
use Rattle.chain.proofs.Directions.{length-readable_of}
use Rattle.negotiation.specs.Features.{block_flush}
use Rattle.negotiation.specs.Negotiation.{negotiated_of}
use Rattle.negotiation.specs.Sets.{has}
use Rattle.mmio_window.proofs.Pieces.{queue_stands_open}
use Rattle.block_device.specs.Operation.{operation_of}
use Rattle.block_device.proofs.Telling.{places, told_inside, told_runs}
use Rattle.block_device.proofs.Unasked.{any_disk}
use Rattle.mmio_window.proofs.Soundness.{serving_keeps_sound}
use Rattle.mmio_window.specs.Window.{queue_at, with_ring}
use Rattle.block_device.proofs.Anywhere.{asks_at, asks_within, hosts_to, none_asks}
use Rattle.block_device.proofs.device.BlockDevice.host_piece.Goals as goal

pub tell-operation-requires-clause-places : goal.tell-operation-requires-clause-places
tell-operation-requires-clause-places g c =
    let asked = c.in-Err.ensures.refuses.left.refuses.asked in
    let good = c.in-Err.ensures.refuses.left.good in
    places c.args.self.now (readable_of c.serve_queue.new.mem c.serve_queue.new.chain) asked.room
    c.serve_queue.new.chain c.in-Err.asked.why
    (length-readable_of c.serve_queue.new.mem c.serve_queue.new.chain good.inside) asked.all asked.is asked.servable
    asked.asks

pub of-requires : goal.of-requires
of-requires g c =
    let asked = c.in-Err.ensures.refuses.left.refuses.asked in
    omega (arith, asked.all)

pub launch-requires : goal.launch-requires
launch-requires g c = record {
  taken = (asks_at c.args.self.now c.args.stage c.args.budget.now c.args.mem.now c.serve_queue.new.mem
      c.in-Some.queue.now c.serve_queue.new.queue c.serve_queue.new.chain c.serve_queue.new.backend
      c.in-Err.asked c.in-Err.ensures.refuses any_disk).stops.taken;
}

pub returns-in-Err-clause-served : goal.returns-in-Err-clause-served
returns-in-Err-clause-served g c disk =
    asks_within c.args.self.now c.args.stage c.args.budget.now c.in-Err.asked.left (queue_at 0 c.args.window.now)
    c.args.mem.now c.serve_queue.new.mem c.args.window.now _ c.in-Some.queue.now c.serve_queue.new.queue
    c.serve_queue.new.chain c.serve_queue.new.backend c.tell-operation.new.runs c.in-Err.asked c.of.result disk
    c.in-Some.ensures.value c.in-Err.ensures.refuses c.of.ensures.token
    (ap (with_ring 0 c.args.window.now) c.launch.ensures.launched) c.of.ensures.status
    (c.of.ensures.operation ∙ c.tell-operation.ensures.operation
    ∙ ap (λ flushes. operation_of (not flushes) c.in-Err.asked.why)
    (c.contains-stable.ensures tt ∙ ap (λ bits. has bits block_flush) (c.negotiated-negotiated.ensures.value
    ∙ ap negotiated_of c.negotiation.ensures)))
    (c.tell-operation.ensures.runs
    ∙ told_runs c.args.self.now c.serve_queue.new.mem c.serve_queue.new.chain c.in-Err.asked.why
    c.serve_queue.new.backend c.in-Err.ensures.refuses.left.refuses) refl

pub returns-in-Err-clause-flight : goal.returns-in-Err-clause-flight
returns-in-Err-clause-flight g c =
    let asks = asks_at c.args.self.now c.args.stage c.args.budget.now c.args.mem.now c.serve_queue.new.mem
    c.in-Some.queue.now c.serve_queue.new.queue c.serve_queue.new.chain c.serve_queue.new.backend
    c.in-Err.asked
    c.in-Err.ensures.refuses any_disk in
    record {
      queue = c.launch.new.self;
      ready = queue_stands_open 0 c.args.window.now c.in-Some.queue.now c.launch.new.self
          (sym c.in-Some.ensures.value);
      ahead = rw c.of.ensures.token c.launch.ensures.ahead;
      status = c.of.ensures.inside c.serve_queue.new.mem asks.good.inside;
      some = omega (arith, asks.stops.asked.all, c.of.ensures.status.writable);
    }

pub returns-in-Err-clause-inside : goal.returns-in-Err-clause-inside
returns-in-Err-clause-inside g c =
    let asks = asks_at c.args.self.now c.args.stage c.args.budget.now c.args.mem.now c.serve_queue.new.mem
    c.in-Some.queue.now c.serve_queue.new.queue c.serve_queue.new.chain c.serve_queue.new.backend
    c.in-Err.asked
    c.in-Err.ensures.refuses any_disk in
    let asked = asks.stops.asked in
    rw c.of.ensures.operation (told_inside c.args.self.now c.serve_queue.new.mem c.serve_queue.new.chain
    c.in-Err.asked.why (readable_of c.serve_queue.new.mem c.serve_queue.new.chain) (not c.contains-stable.result)
    asked.room c.tell-operation.result c.tell-operation.new.runs asks.good asked.is asked.servable asked.asks
    c.tell-operation.ensures.operation
    (c.tell-operation.ensures.runs
    ∙ told_runs c.args.self.now c.serve_queue.new.mem c.serve_queue.new.chain c.in-Err.asked.why
    c.serve_queue.new.backend c.in-Err.ensures.refuses.left.refuses))

pub returns-in-Err-clause-sound : goal.returns-in-Err-clause-sound
returns-in-Err-clause-sound g c =
    serving_keeps_sound c.args.mem.now c.serve_queue.new.mem c.args.window.now 0 c.in-Some.queue.now
    c.launch.new.self
    c.requires.sound c.serve_queue.ensures.range (sym c.in-Some.ensures.value)
    (c.launch.ensures.made ∙ c.serve_queue.ensures.made)

pub returns-in-Ok-clause-served : goal.returns-in-Ok-clause-served
returns-in-Ok-clause-served g c disk =
    rw c.by.ensures (hosts_to c.args.self.now c.args.stage c.args.budget.now c.args.budget.now (queue_at 0 c.args.window.now)
    c.in-Some.queue.now c.serve_queue.new.queue c.in-Ok.left c.show.result
    c.args.mem.now c.serve_queue.new.mem c.args.window.now c.show.new.window _ _ disk
    c.in-Some.ensures.value c.show.ensures.progress c.show.ensures.after c.in-Ok.ensures.leaves)

pub returns-in-Ok-clause-flight : goal.returns-in-Ok-clause-flight
returns-in-Ok-clause-flight g c = rw c.by.ensures (none_asks _ c.show.result)

pub returns-in-Ok-clause-inside : goal.returns-in-Ok-clause-inside
returns-in-Ok-clause-inside g c = rw c.by.ensures (none_asks _ c.show.result)

pub returns-in-Ok-clause-sound : goal.returns-in-Ok-clause-sound
returns-in-Ok-clause-sound g c =
    c.show.ensures.sound c.serve_queue.new.mem
    (serving_keeps_sound c.args.mem.now c.serve_queue.new.mem c.args.window.now 0 c.in-Some.queue.now
    c.serve_queue.new.queue
    c.requires.sound c.serve_queue.ensures.range (sym c.in-Some.ensures.value) c.serve_queue.ensures.made)
