use Rattle.std.proofs.Common.{◌≡◌, ◌∙◌, Some, sym, ap, subst, arith}
use Rattle.std.specs.Prelude.{is_some}
use Rattle.block_device.specs.Tags.{free_tag, tokens_of}
use Rattle.racing_service.specs.Service.{standing_at}
use Rattle.racing_service.specs.Flights.{AreAhead}
use Rattle.racing_service.proofs.Flights.{ahead_stays, moves}
use Rattle.racing_service.proofs.Moving.{service_keeps}
use Rattle.block_device.proofs.Freeing.{entry_free, is_free, now_taken, set_free, still_free}
use Rattle.racing_hosted_disk.proofs.Going.{taken_ahead}
use Rattle.block_device.proofs.Holding.{all_set}
use Rattle.racing_hosted_disk.proofs.step.look_for.Goals as goal

pub index_mut-room_of-requires : goal.index_mut-room_of-requires
index_mut-room_of-requires g c =
    let lowest : free_tag c.tags.inside.items.items ≡ Some c.args.tag =
    ap free_tag c.tags.view_is ∙ c.requires.lowest in
    let there = (is_free c.tags.inside.items.items c.args.tag lowest).there in
    omega (arith, there, c.tags.inside.items.ok.0)

pub look_into-requires-clause-free : goal.look_into-requires-clause-free
look_into-requires-clause-free g c =
    entry_free c.tags.inside.items.items c.args.tag c.index_mut-room_of.result.now c.index_mut-room_of.ensures.value
    (ap free_tag c.tags.view_is ∙ c.requires.lowest)

pub invariant_of-tags : goal.invariant_of-tags
invariant_of-tags g c =
    still_free c.tags.inside.taken c.args.tag c.tags.inside.items.items c.look_into.new.tag c.tags.invariant.0
    c.tags.invariant.1 (ap free_tag c.tags.view_is ∙ c.requires.lowest) (ap is_some c.in-Ok.ensures.idle)

pub with_tag-tags-inside-requires : goal.with_tag-tags-inside-requires
with_tag-tags-inside-requires g c =
    let lowest : free_tag c.tags.inside.items.items ≡ Some c.args.tag =
    ap free_tag c.tags.view_is ∙ c.requires.lowest in
    let there = (is_free c.tags.inside.items.items c.args.tag lowest).there in
    omega (arith, there, c.tags.invariant.0)

pub invariant_of-tags-then-step : goal.invariant_of-tags-then-step
invariant_of-tags-then-step g c =
    let items = c.tags.inside.items.items in
    let there = (is_free items c.args.tag (ap free_tag c.tags.view_is ∙ c.requires.lowest)).there in
    now_taken _ c.args.tag items c.look_into.new.tag c.tags.invariant.0
    (sym c.in-Err.ensures.asks ∙ c.if-step.true)
    (λ here. c.with_tag-tags-inside.ensures items here there c.tags.invariant.1)

pub invariant_of-tags-else-step : goal.invariant_of-tags-else-step
invariant_of-tags-else-step g c =
    still_free c.tags.inside.taken c.args.tag c.tags.inside.items.items c.look_into.new.tag c.tags.invariant.0
    c.tags.invariant.1 (ap free_tag c.tags.view_is ∙ c.requires.lowest) (sym c.in-Err.ensures.asks ∙ c.if-step.false)

pub returns-in-Ok-clause-idle : goal.returns-in-Ok-clause-idle
returns-in-Ok-clause-idle g c =
    set_free c.tags.inside.items.items c.args.tag c.look_into.new.tag
    (ap free_tag c.tags.view_is ∙ c.requires.lowest) c.in-Ok.ensures.idle ∙ c.tags.view_is

pub returns-in-Ok-clause-ahead : goal.returns-in-Ok-clause-ahead
returns-in-Ok-clause-ahead g c =
    subst (λ t. AreAhead g.Q.RacingQueue.entry_of g.Q.KeepsFlights.Fits g.Q.KeepsFlights.ahead_of c.look_into.new.queue
    (tokens_of t)) (sym (returns-in-Ok-clause-idle g c))
    (ahead_stays g.met.Q.KeepsFlights.lasts c.args.queue.now c.look_into.new.queue _
    (service_keeps (moves g.met.Q.KeepsFlights.lasts) _ _ _ _ _ _ _ _ c.in-Ok.ensures.ends).stays
    c.requires.ahead)

pub returns-then-step-clause-each : goal.returns-then-step-clause-each
returns-then-step-clause-each g c =
    all_set _ _ _ c.tags.inside.items.items c.args.tag c.look_into.new.tag c.look_into.ensures.range
    (rw (← c.tags.view_is) at c.requires.each) c.look_into.ensures.held

pub returns-then-step-clause-ahead : goal.returns-then-step-clause-ahead
returns-then-step-clause-ahead g c =
    taken_ahead g.met.Q.KeepsFlights.lasts c.args.disk.now.device
    g.M.Shared.races c.args.stage c.args.limits.rounds g.Q.RacingQueue.IsTaken c.args.stable c.look_into.new.tag
    (standing_at (g.M.Shared.sightings c.args.mem.now) c.args.queue.now tt c.args.limits.budget)
    (standing_at (g.M.Shared.sightings c.look_into.new.mem) c.look_into.new.queue tt c.in-Err.step.left)
    c.in-Err.step.wanted c.tags.inside.items.items c.args.tag (ap free_tag c.tags.view_is ∙ c.requires.lowest)
    c.in-Err.ensures.finds c.look_into.ensures.fits (rw (← c.tags.view_is) at c.requires.ahead)

pub returns-else-step-clause-ahead : goal.returns-else-step-clause-ahead
returns-else-step-clause-ahead g c =
    taken_ahead g.met.Q.KeepsFlights.lasts c.args.disk.now.device
    g.M.Shared.races c.args.stage c.args.limits.rounds g.Q.RacingQueue.IsTaken c.args.stable c.look_into.new.tag
    (standing_at (g.M.Shared.sightings c.args.mem.now) c.args.queue.now tt c.args.limits.budget)
    (standing_at (g.M.Shared.sightings c.look_into.new.mem) c.look_into.new.queue tt c.in-Err.step.left)
    c.in-Err.step.wanted c.tags.inside.items.items c.args.tag (ap free_tag c.tags.view_is ∙ c.requires.lowest)
    c.in-Err.ensures.finds c.look_into.ensures.fits (rw (← c.tags.view_is) at c.requires.ahead)
