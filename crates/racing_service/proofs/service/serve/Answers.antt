use Rattle.std.proofs.Common.{◌∙◌, refl, sym, arith}
use Rattle.racing_service.proofs.Coming.{service_ends, service_left, service_goes_on, service_settles, service_stops}
use Rattle.racing_service.proofs.service.serve.Goals as goal
use Rattle.racing_service.proofs.service.serve.Goals.{else-is_again-via-then-is_again+else-is_idle, else-is_again-via-else-is_again}

pub returns-then-is_idle-clause-service : goal.returns-then-is_idle-clause-service
returns-then-is_idle-clause-service g c =
    let v = c.loop.invariant in
    service_settles _ _ _ c.args.stage c.loop.here _ _ c.loop.counter _ v.service c.args.limits.rounds c.in-Ok.stop _ _ _ _ _
    (omega (arith, c.loop-test.true)) (c.is_again.ensures.0 c.if-is_again.true)
    (rw v.setup at c.in-Ok.ensures.runs) (c.is_idle.ensures.0 c.if-is_idle.true) c.shut.ensures.shut

pub returns-in-Some-clause-service : goal.returns-in-Some-clause-service
returns-in-Some-clause-service g c =
    let v = c.loop.invariant in
    service_ends _ _ _ c.args.stage c.loop.here _ _ c.loop.counter _ v.service c.in-Ok.stop _ _ _ _ _ _ _ _
    (rw v.setup at c.in-Ok.ensures.runs)
    c.close-wanted.ensures.closed c.close-wanted.ensures.shut refl c.args.limits.rounds c.in-Some.ending
    (omega (arith, c.loop-test.true)) (rw c.in-Some.is at (sym c.ending_of.ensures))

pub loop-preserved : goal.loop-preserved
loop-preserved g c =
    let v = c.loop.invariant in record {
      service = service_goes_on _ _ _ c.args.stage c.loop.here _ _ c.loop.counter _ v.service c.in-Ok.stop _ _ _ _ _ _ _ _
          (rw v.setup at c.in-Ok.ensures.runs)
          c.close-wanted.ensures.closed c.close-wanted.ensures.shut refl (sym c.ending_of.ensures ∙ c.in_default.is)
          (elim c.else-is_again.branch [
            | else-is_again-via-then-is_again+else-is_idle w ↦ λ again idle.
                let told = w.is_idle.ensures.1 idle in cc (told, w.if-is_idle.false)
            | else-is_again-via-else-is_again w ↦ λ again idle.
                let told = c.is_again.ensures.1 again in cc (told, w.if-is_again.false)
          ]);
      setup = c.run.ensures.setup ∙ v.setup;
      ready = c.run.ensures.ready;
      lies = c.close-wanted.ensures.lies;
    }

pub returns-clause-service : goal.returns-clause-service
returns-clause-service g c =
    service_stops _ _ _ c.args.stage c.loop.here _ _ c.loop.counter _ c.loop.invariant.service c.args.limits.rounds
    (omega (arith, c.loop.auto.counter-end)) (omega (arith, c.loop-test.false))

pub returns-in-Err-clause-refuses : goal.returns-in-Err-clause-refuses
returns-in-Err-clause-refuses g c =
    let v = c.loop.invariant in
    service_left _ _ _ c.args.stage c.loop.here _ _ c.loop.counter _ v.service c.args.limits.rounds _
    (g.D.ChainHandler.Refuses (g.D.ChainHandler.setup c.args.device.now c.args.backend.now) c.run.new.backend) _ _ _
    (omega (arith, c.loop-test.true)) (rw v.setup at c.in-Err.ensures.leaves)
