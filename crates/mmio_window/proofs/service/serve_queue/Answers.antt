use Rattle.chain.proofs.Budgets.{piece_closes}
use Rattle.mmio_window.proofs.Noting.{met_ending, met_opening, same_fault}
use Rattle.mmio_window.proofs.Keeping.{kept_none}
use Rattle.mmio_window.proofs.Stages.{ends_at, faults_at}
use Rattle.mmio_window.specs.Leaving.{site_at}
use Rattle.mmio_window.specs.Queue.{queue_kind}
use Rattle.mmio_window.specs.Serving.{ending_of}
use Rattle.mmio_window.proofs.service.serve_queue.Goals as goal

pub returns-in-Err-clause-leaves : goal.returns-in-Err-clause-leaves
returns-in-Err-clause-leaves g c =
    rw c.met.ensures (faults_at (g.D.QueueHandler.device (g.D.QueueHandler.setup c.args.device.now c.args.backend.now)) c.args.budget
    c.args.stage c.args.mem.now c.args.queue.now c.open.new.queue
    (g.D.QueueHandler.state c.args.device.now c.args.backend.now) c.open.ensures.opened c.close.new.mem
    c.close.new.self c.in-Err.fault c.close.result
    c.in-Err.ensures.fault c.close.ensures.closed c.close.ensures.shut c.close.ensures.wants)

pub returns-in-Err-clause-tells : goal.returns-in-Err-clause-tells
returns-in-Err-clause-tells g c =
    rw c.met.ensures (met_opening (g.D.QueueHandler.device (g.D.QueueHandler.setup c.args.device.now c.args.backend.now))
    c.args.stage c.args.mem.now c.close.new.mem c.args.queue.now c.open.new.queue c.close.new.self
    (g.D.QueueHandler.state c.args.device.now c.args.backend.now) c.open.ensures.opened c.in-Err.fault
    c.in-Err.ensures.fault c.close.ensures.closed c.close.ensures.shut)

pub returns-in-Err-clause-keeps : goal.returns-in-Err-clause-keeps
returns-in-Err-clause-keeps g c = kept_none g.D.QueueHandler.Keeps c.args.device.now c.args.backend.now

pub returns-in-End-clause-leaves : goal.returns-in-End-clause-leaves
returns-in-End-clause-leaves g c =
    let device = g.D.QueueHandler.device (g.D.QueueHandler.setup c.args.device.now c.args.backend.now) in
    let s = g.D.QueueHandler.state c.args.device.now c.args.backend.now in
    let t = g.D.QueueHandler.state c.serve_chains.new.device c.serve_chains.new.backend in
    rw (c.met_with.ensures, same_fault c.serve_chains.new.mem c.serve_chains.new.queue c.in-End.fault)
    (ends_at device c.args.budget c.args.stage c.args.mem.now c.args.queue.now c.open.new.queue s
    c.open.ensures.opened _ (ending_of c.in-End.fault) c.close-in-End.result c.in_default.ensures.fault
    (piece_closes queue_kind device c.args.budget (site_at c.args.mem.now c.open.new.queue s)
    c.serve_chains.new.mem c.close-in-End.new.mem c.serve_chains.new.queue c.close-in-End.new.self
    t (ending_of c.in-End.fault) c.close-in-End.result
    (rw c.in-End.is at c.in_ok-serve_chains.ensures.stops) c.close-in-End.ensures.closed
    c.close-in-End.ensures.shut c.close-in-End.ensures.wants))

pub returns-in-End-clause-tells : goal.returns-in-End-clause-tells
returns-in-End-clause-tells g c =
    rw c.met_with.ensures (met_ending
    (g.D.QueueHandler.device (g.D.QueueHandler.setup c.args.device.now c.args.backend.now)) c.args.stage c.args.mem.now
    c.close-in-End.new.mem c.args.queue.now c.open.new.queue c.close-in-End.new.self
    (g.D.QueueHandler.state c.args.device.now c.args.backend.now) c.open.ensures.opened c.args.budget
    c.serve_chains.new.mem c.serve_chains.new.queue
    (g.D.QueueHandler.state c.serve_chains.new.device c.serve_chains.new.backend) c.in-End.fault
    c.in_default.ensures.fault (rw c.in-End.is at c.in_ok-serve_chains.ensures.stops)
    c.close-in-End.ensures.closed c.close-in-End.ensures.shut)
