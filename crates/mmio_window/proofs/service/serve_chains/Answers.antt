use Rattle.std.proofs.Common.{refl, sym, ◌∙◌}
use Rattle.chain.proofs.Budgets.{some_left}
use Rattle.mmio_window.specs.Queue.{entry_of}
use Rattle.mmio_window.proofs.Courses.{in_course_begins, in_course_goes_on, left_at, stops_by_fault, stops_paused, stops_spent, stops_unwanted}
use Rattle.mmio_window.proofs.Keeping.{kept_more, kept_none}
use Rattle.mmio_window.proofs.service.serve_chains.Goals as goal

pub loop-left-init : goal.loop-left-init
loop-left-init g c = (
  in_course_begins (g.D.QueueHandler.device (g.D.QueueHandler.setup c.args.device.now c.args.backend.now)) c.args.budget
      c.args.mem.now c.args.queue.now
      (g.D.QueueHandler.state c.args.device.now c.args.backend.now) c.requires.queue,
  refl,
  kept_none g.D.QueueHandler.Keeps c.args.device.now c.args.backend.now,
  c.requires.ready,
)

pub loop-left-preserved : goal.loop-left-preserved
loop-left-preserved g c =
    let same = c.loop-left.invariant.1 in (
      in_course_goes_on (g.D.QueueHandler.device (g.D.QueueHandler.setup c.args.device.now c.args.backend.now))
          c.args.budget c.loop-left.left c.spend.new.left
          c.args.mem.now c.loop-left.mem c.serve.new.mem c.give.new.mem c.args.queue.now c.loop-left.queue
          c.take.new.self c.give.new.self
          (g.D.QueueHandler.state c.args.device.now c.args.backend.now)
          (g.D.QueueHandler.state c.loop-left.device c.loop-left.backend)
          (g.D.QueueHandler.state c.serve.new.self c.serve.new.backend)
          c.take.new.chain (entry_of c.in-Ok-Some.token) c.in-Ok.used.len c.in-Ok.used.wrote
          c.loop-left.invariant.0 (some_left c.loop-left.left c.is_spent.result c.is_spent.ensures
          c.if-is_spent.false) c.spend.ensures
          (rw (← same) (sym c.takes.ensures ∙ c.loop-left-test.true))
          (rw c.in-Ok-Some.field-0-is at c.in-Ok-Some.ensures.on_offer)
          (rw c.in-Ok-Some.field-0-is at c.in-Ok-Some.ensures.offered) c.in-Ok-Some.ensures.same
          (rw same at c.in-Ok.ensures.does) c.give.ensures.used c.give.ensures.past
          c.serve.ensures.range c.give.ensures.range c.give.ensures.lies c.give.ensures.made,
      c.serve.ensures.setup ∙ same,
      kept_more g.D.QueueHandler.Keeps c.args.device.now c.loop-left.device c.serve.new.self c.args.backend.now
          c.loop-left.backend c.serve.new.backend
          c.loop-left.invariant.2 c.serve.ensures.keeps,
      c.serve.ensures.ready,
    )

pub returns-then-is_spent-clause-stops : goal.returns-then-is_spent-clause-stops
returns-then-is_spent-clause-stops g c =
    stops_paused c.loop-left.invariant.0 c.take.new.self c.take.new.chain (entry_of c.in-Ok-Some.token)
    (c.is_spent.ensures.0 c.if-is_spent.true)
    (rw (← c.loop-left.invariant.1) (sym c.takes.ensures ∙ c.loop-left-test.true))
    (rw c.in-Ok-Some.field-0-is at c.in-Ok-Some.ensures.on_offer)
    (rw c.in-Ok-Some.field-0-is at c.in-Ok-Some.ensures.offered) c.in-Ok-Some.ensures.same

pub returns-in-Err-serve-clause-refuses : goal.returns-in-Err-serve-clause-refuses
returns-in-Err-serve-clause-refuses g c =
    let same = c.loop-left.invariant.1 in
    left_at c.loop-left.invariant.0
    (g.D.QueueHandler.Refuses (g.D.QueueHandler.setup c.args.device.now c.args.backend.now) c.serve.new.backend)
    c.serve.new.mem c.take.new.self (g.D.QueueHandler.state c.serve.new.self c.serve.new.backend) c.take.new.chain
    c.in-Ok-Some.token c.in-Err-serve.why c.spend.new.left
    (some_left c.loop-left.left c.is_spent.result c.is_spent.ensures c.if-is_spent.false) c.spend.ensures
    (rw (← same) (sym c.takes.ensures ∙ c.loop-left-test.true))
    (rw c.in-Ok-Some.field-0-is at c.in-Ok-Some.ensures.on_offer)
    (rw c.in-Ok-Some.field-0-is at c.in-Ok-Some.ensures.offered)
    (rw c.in-Ok-Some.field-0-is at c.in-Ok-Some.ensures.taken) c.take.ensures.good
    (rw same at c.in-Err-serve.ensures.refuses) c.in-Err-serve.ensures.unwritten c.in-Err-serve.ensures.kept
    c.in-Ok-Some.ensures.same

pub returns-in-Ok-None-clause-stops : goal.returns-in-Ok-None-clause-stops
returns-in-Ok-None-clause-stops g c =
    stops_spent c.loop-left.invariant.0 c.take.new.self
    (rw (← c.loop-left.invariant.1) (sym c.takes.ensures ∙ c.loop-left-test.true))
    (rw c.in-Ok-None.field-0-is at c.in-Ok-None.ensures.on_offer) c.in-Ok-None.ensures.same

pub returns-in-Err-clause-stops : goal.returns-in-Err-clause-stops
returns-in-Err-clause-stops g c =
    stops_by_fault c.loop-left.invariant.0 c.take.new.self c.in-Err.fault
    (rw (← c.loop-left.invariant.1) (sym c.takes.ensures ∙ c.loop-left-test.true))
    c.in-Err.ensures.met c.in-Err.ensures.fault c.in-Err.ensures.stopped

pub returns-clause-stops : goal.returns-clause-stops
returns-clause-stops g c =
    stops_unwanted c.loop-left.invariant.0
    (rw (← c.loop-left.invariant.1) (sym c.takes.ensures ∙ c.loop-left-test.false))

pub returns-in-Err-serve-clause-keeps : goal.returns-in-Err-serve-clause-keeps
returns-in-Err-serve-clause-keeps g c =
    kept_more g.D.QueueHandler.Keeps c.args.device.now c.loop-left.device c.serve.new.self c.args.backend.now
    c.loop-left.backend c.serve.new.backend
    c.loop-left.invariant.2 c.serve.ensures.keeps
