use Rattle.std.proofs.Common.{◌∙◌, sym}
use Rattle.chain.proofs.Budgets.{some_left}
use Rattle.shared_memory.specs.Sightings.{memory}
use Rattle.shared_memory.proofs.Sightings.{loads_range}
use Rattle.chain_handler.proofs.Still.{does_range, good_same}
use Rattle.racing_service.proofs.Coming.{broken, left_there, not_offered, one_more, paused, unwanted}
use Rattle.racing_service.proofs.service.serve_chains.Goals as goal

pub returns-then-is_spent-clause-serves : goal.returns-then-is_spent-clause-serves
returns-then-is_spent-clause-serves g c =
    let same = c.loop-queue.invariant.setup in
    paused _ _ _ _ _ _ _ _ _ c.loop-queue.invariant.round _ _ _ _
    (rw (← same) (sym c.takes.ensures ∙ c.loop-queue-test.true)) (c.is_spent.ensures.0 c.if-is_spent.true)
    c.take.ensures.loads (rw c.in-Ok-Some.field-0-is at c.in-Ok-Some.ensures.told)
    (rw c.in-Ok-Some.field-0-is at c.in-Ok-Some.ensures.offered) c.in-Ok-Some.ensures.same

pub loop-queue-preserved : goal.loop-queue-preserved
loop-queue-preserved g c =
    let same = c.loop-queue.invariant.setup in record {
      round = one_more _ _ _ _ _ _ _ _ _ c.loop-queue.invariant.round _ _ _ _ _ _ _ _ _ _ _
          (rw (← same) (sym c.takes.ensures ∙ c.loop-queue-test.true))
          (some_left c.loop-queue.left c.is_spent.result c.is_spent.ensures c.if-is_spent.false) c.spend.ensures
          c.take.ensures.loads (rw c.in-Ok-Some.field-0-is at c.in-Ok-Some.ensures.told)
          (rw c.in-Ok-Some.field-0-is at c.in-Ok-Some.ensures.offered) c.in-Ok-Some.ensures.same
          (rw same at c.in-Ok.ensures.does) c.give.ensures.given c.give.ensures.past;
      setup = c.serve.ensures.setup ∙ same;
      ready = c.serve.ensures.ready;
      lies = c.give.ensures.lies;
    }

pub give-requires-clause-lies : goal.give-requires-clause-lies
give-requires-clause-lies g c =
    g.met.Q.RacingQueue.lies_in_range (memory (g.M.Shared.sightings c.take.new.mem))
    (memory (g.M.Shared.sightings c.serve.new.mem)) c.take.new.self
    (does_range _ _ _ _ _ _ _ _ _ c.in-Ok.ensures.does) c.take.ensures.lies

pub returns-in-Ok-None-clause-serves : goal.returns-in-Ok-None-clause-serves
returns-in-Ok-None-clause-serves g c =
    not_offered _ _ _ _ _ _ _ _ _ c.loop-queue.invariant.round _ _ _ c.run_out.ensures
    c.take.ensures.loads (rw c.in-Ok-None.field-0-is at c.in-Ok-None.ensures.told) c.in-Ok-None.ensures.same

pub returns-in-Err-clause-serves : goal.returns-in-Err-clause-serves
returns-in-Err-clause-serves g c =
    let same = c.loop-queue.invariant.setup in
    broken _ _ _ _ _ _ _ _ _ c.loop-queue.invariant.round _ _ _
    (rw (← same) (sym c.takes.ensures ∙ c.loop-queue-test.true)) c.take.ensures.loads
    c.in-Err.ensures.faulty c.in-Err.ensures.stopped

pub returns-clause-serves : goal.returns-clause-serves
returns-clause-serves g c =
    let same = c.loop-queue.invariant.setup in
    unwanted _ _ _ _ _ _ _ _ _ c.loop-queue.invariant.round _ c.run_out-2.ensures
    (rw (← same) (sym c.takes.ensures ∙ c.loop-queue-test.false))

pub returns-in-Err-serve-clause-leaves : goal.returns-in-Err-serve-clause-leaves
returns-in-Err-serve-clause-leaves g c =
    let same = c.loop-queue.invariant.setup in
    left_there _ _ _ _ _ _ _ _ _ c.loop-queue.invariant.round _ _ _ _ _ _ _
    (g.D.ChainHandler.Refuses (g.D.ChainHandler.setup c.args.device.now c.args.backend.now) c.serve.new.backend)
    c.in-Err-serve.why
    (rw (← same) (sym c.takes.ensures ∙ c.loop-queue-test.true))
    (some_left c.loop-queue.left c.is_spent.result c.is_spent.ensures c.if-is_spent.false) c.spend.ensures
    c.take.ensures.loads (rw c.in-Ok-Some.field-0-is at c.in-Ok-Some.ensures.told)
    (rw c.in-Ok-Some.field-0-is at c.in-Ok-Some.ensures.offered) c.in-Ok-Some.ensures.same
    (rw same at c.in-Err-serve.ensures.refuses) c.in-Err-serve.ensures.kept

pub returns-in-Err-serve-clause-good : goal.returns-in-Err-serve-clause-good
returns-in-Err-serve-clause-good g c =
    good_same (memory (g.M.Shared.sightings c.take.new.mem)) (memory (g.M.Shared.sightings c.serve.new.mem))
    c.take.new.chain (loads_range _ _ _ c.in-Err-serve.ensures.refuses.reads) c.take.ensures.good
