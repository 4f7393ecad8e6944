use Rattle.std.proofs.Common.{◌∙◌, sym}
use Rattle.guest_memory.proofs.Ranges.{same_trans}
use Rattle.mmio_window.proofs.Keeping.{kept_none}
use Rattle.mmio_window.proofs.Leaving.{leaves_fitting, refuses_to, serves_to}
use Rattle.mmio_window.proofs.Soundness.{serving_keeps_sound}
use Rattle.mmio_window.specs.Leaving.{site_at}
use Rattle.mmio_window.specs.Pieces.{fitting}
use Rattle.mmio_window.specs.Window.{queue_at}
use Rattle.mmio_window.proofs.piece.serve_piece.Goals as goal

pub returns-in_default-clause-keeps : goal.returns-in_default-clause-keeps
returns-in_default-clause-keeps g c = kept_none g.D.QueueHandler.Keeps c.args.device.now c.args.backend.now

pub returns-in-Ok-clause-serves : goal.returns-in-Ok-clause-serves
returns-in-Ok-clause-serves g c =
    let device = g.D.QueueHandler.device (g.D.QueueHandler.setup c.args.device.now c.args.backend.now) in
    let before = g.D.QueueHandler.state c.args.device.now c.args.backend.now in
    let after = g.D.QueueHandler.state c.serve_queue.new.device c.serve_queue.new.backend in
    serves_to (fitting device) c.args.stage c.args.budget c.args.q (queue_at c.args.q c.args.window.now)
    c.in-Some.queue.now c.serve_queue.new.queue c.in-Ok.left c.show.result c.args.mem.now c.serve_queue.new.mem
    c.args.window.now c.show.new.window before after c.in-Some.ensures.value c.show.ensures.progress
    c.show.ensures.after
    (leaves_fitting device c.args.stage c.args.budget (site_at c.args.mem.now c.in-Some.queue.now before)
    (site_at c.serve_queue.new.mem c.serve_queue.new.queue after) c.in-Ok.left c.in-Ok.ensures.leaves)

pub returns-in-Ok-clause-sound : goal.returns-in-Ok-clause-sound
returns-in-Ok-clause-sound g c =
    c.show.ensures.sound c.serve_queue.new.mem
    (serving_keeps_sound c.args.mem.now c.serve_queue.new.mem c.args.window.now c.args.q c.in-Some.queue.now
    c.serve_queue.new.queue
    c.requires.sound c.serve_queue.ensures.range (sym c.in-Some.ensures.value) c.serve_queue.ensures.made)

pub returns-in-Err-clause-leaves : goal.returns-in-Err-clause-leaves
returns-in-Err-clause-leaves g c =
    let setup = g.D.QueueHandler.setup c.args.device.now c.args.backend.now in
    record {
      memory = c.serve_queue.new.mem;
      buffers = c.serve_queue.new.chain;
      refuses = c.in-Err.ensures.refuses.left.refuses;
      ends = λ lacks. refuses_to (g.D.QueueHandler.device setup) c.args.stage c.args.budget c.args.q
          (g.D.QueueHandler.Refuses setup c.serve_queue.new.backend) (queue_at c.args.q c.args.window.now)
          c.in-Some.queue.now c.serve_queue.new.queue c.close-wanted.new.self c.args.mem.now c.serve_queue.new.mem
          c.close-wanted.new.mem c.args.window.now c.show-in-Err.new.window
          (g.D.QueueHandler.state c.args.device.now c.args.backend.now)
          (g.D.QueueHandler.state c.serve_queue.new.device c.serve_queue.new.backend) c.serve_queue.new.chain
          c.in-Err.refused c.close-wanted.result lacks c.in-Some.ensures.value c.in-Err.ensures.refuses
          c.close-wanted.ensures.closed c.close-wanted.ensures.shut c.close-wanted.ensures.wants
          c.show-in-Err.ensures.after;
    }

pub returns-in-Err-clause-sound : goal.returns-in-Err-clause-sound
returns-in-Err-clause-sound g c =
    c.show-in-Err.ensures.sound c.close-wanted.new.mem
    (serving_keeps_sound c.args.mem.now c.close-wanted.new.mem c.args.window.now c.args.q c.in-Some.queue.now
    c.close-wanted.new.self
    c.requires.sound (same_trans c.args.mem.now c.serve_queue.new.mem c.close-wanted.new.mem
    c.serve_queue.ensures.range c.close-wanted.ensures.range)
    (sym c.in-Some.ensures.value) (c.close-wanted.ensures.made ∙ c.serve_queue.ensures.made))
