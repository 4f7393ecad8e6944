use Rattle.std.proofs.Common.{◌∙◌, refl, sym, arith}
use Rattle.guest_memory.proofs.Ranges.{same_trans}
use Rattle.std.specs.Prelude.{◌||◌}
use Rattle.racing_hosted_disk.specs.Looking.{place_at}
use Rattle.shared_memory.specs.Sightings.{memory}
use Rattle.racing_hosted_disk.proofs.Landing.{outlasts}
use Rattle.racing_hosted_disk.proofs.Looks.{looks_full, looks_limited, looks_on, looks_served}
use Rattle.racing_hosted_disk.proofs.disk.RacingHostedDisk.look.Goals as goal

pub returns-in_default-clause-looks : goal.returns-in_default-clause-looks
returns-in_default-clause-looks g c =
    looks_full _ _ _ _ _ _ _ c.args.stage c.loop.here _ _ _ _ _ c.loop.counter c.loop.wanted c.loop.invariant.looking
    (omega (arith, c.loop-test.true)) (sym c.in_default.ensures)

pub returns-in-Ok-clause-looks : goal.returns-in-Ok-clause-looks
returns-in-Ok-clause-looks g c =
    let v = c.loop.invariant in
    looks_served _ _ _ _ _ _ _ c.args.stage c.loop.here _ _ _ _ _ c.loop.counter c.loop.wanted v.looking
    c.in-Some.tag (g.M.Shared.sightings c.look_for.new.mem) c.look_for.new.queue c.in-Ok.outcome.left c.look_for.new.tags
    c.in-Ok.outcome.ending (c.loop.wanted || c.in-Ok.outcome.wanted) c.in-Ok.outcome.wanted
    (omega (arith, c.loop-test.true)) (sym c.in-Some.ensures) (rw v.device at c.in-Ok.ensures.ends)
    c.in-Ok.ensures.idle refl

pub loop-preserved : goal.loop-preserved
loop-preserved g c =
    let v = c.loop.invariant in record {
      looking = looks_on _ _ _ _ _ _ _ c.args.stage c.loop.here _ _
          (place_at (g.M.Shared.sightings c.look_for.new.mem) c.look_for.new.queue c.in-Err.step.left c.look_for.new.tags)
          c.loop.counter c.loop.wanted (c.loop.wanted || c.in-Err.step.wanted) c.in-Err.step.wanted c.in-Err.ensures.finds.0
          v.looking (rw v.device at c.in-Err.ensures.finds.1) refl;
      device = c.look_for.ensures.device ∙ v.device;
      on_hold = v.on_hold;
      each = rw v.device at c.look_for.ensures.each;
      ahead = c.look_for.ensures.ahead;
      range = same_trans _ _ _ v.range c.look_for.ensures.range;
      lies = c.look_for.ensures.lies;
    }

pub returns-clause-looks : goal.returns-clause-looks
returns-clause-looks g c =
    let v = c.loop.invariant in
    looks_limited _ _ _ _ _ _ _ c.args.stage c.loop.here _ _ _ _ _ c.loop.counter c.loop.wanted v.looking
    (g.M.Shared.sightings c.close-asked.new.mem) c.close-asked.new.self (c.loop.wanted || c.close-asked.result)
    c.close-asked.result (omega (arith, c.loop-test.false, c.loop.auto.counter-end))
    (record {
      closed = c.close-asked.ensures.closed;
      ring = c.close-asked.ensures.shut;
      state = refl;
      left = refl;
    }) refl

pub returns-clause-held : goal.returns-clause-held
returns-clause-held g c =
    let v = c.loop.invariant in
    let inside = c.loop.self-inside in
    let lasts = g.met.Q.KeepsFlights.lasts in
    outlasts lasts (memory (g.M.Shared.sightings c.loop.mem))
    (memory (g.M.Shared.sightings c.close-asked.new.mem)) c.loop.queue c.close-asked.new.self
    (record { device = inside.disk.device; tags = inside.tags; on_hold = inside.on_hold })
    (lasts.closed_range _ _ _ _ _ c.close-asked.ensures.closed)
    (rw c.close-asked.ensures.shut (lasts.shut c.loop.queue))
    (record { each = rw v.device v.each; ahead = v.ahead })

pub returns-clause-range : goal.returns-clause-range
returns-clause-range g c =
    same_trans _ _ _ c.loop.invariant.range
    (g.met.Q.KeepsFlights.lasts.closed_range _ _ _ _ _ c.close-asked.ensures.closed)
