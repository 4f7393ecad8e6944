use Rattle.std.specs.Prelude.{◌≡◌}
use Rattle.mmio_window.specs.Leaving.{IsKept}
use Rattle.mmio_window.specs.Queue.{left_of}
use Rattle.mmio_window.proofs.Courses.{IsInCourse}
use Rattle.mmio_window.proofs.service.serve_chains.Given as goal

abbrev pub invariant-loop-left : goal.invariant-loop-left
invariant-loop-left g l =
    IsInCourse (g.D.QueueHandler.device (g.D.QueueHandler.setup l.fn.device l.fn.backend)) l.fn.budget l.left l.fn.mem
    l.mem l.fn.queue l.queue
    (g.D.QueueHandler.state l.fn.device l.fn.backend) (g.D.QueueHandler.state l.device l.backend)
    × (g.D.QueueHandler.setup l.device l.backend ≡ g.D.QueueHandler.setup l.fn.device l.fn.backend)
    × IsKept g.D.QueueHandler.Keeps l.fn.device l.fn.backend l.device l.backend
    × g.D.QueueHandler.IsReady l.device l.backend

abbrev pub decreases-loop-left : goal.decreases-loop-left
decreases-loop-left g l = left_of l.queue
