use Rattle.std.proofs.Common.{◌∙◌, ◌≡◌, Some, sym, ap, subst, arith}
use Rattle.std.specs.Prelude.{All, is_some}
use Rattle.block_device.specs.Tags.{TagIsHeld, free_tag}
use Rattle.block_device.proofs.Freeing.{entry_free, is_free, now_taken, set_free, still_free}
use Rattle.block_device.proofs.Holding.{all_set}
use Rattle.block_device.proofs.device.BlockDevice.look_for.Goals as goal

pub index_mut-free-requires : goal.index_mut-free-requires
index_mut-free-requires g c =
    let lowest : free_tag c.flights.inside.items.items ≡ Some c.args.tag =
    ap free_tag c.flights.view_is ∙ c.requires.lowest in
    let there = (is_free c.flights.inside.items.items c.args.tag lowest).there in
    omega (arith, there, c.flights.inside.items.ok.0)

pub look_into-requires-clause-free : goal.look_into-requires-clause-free
look_into-requires-clause-free g c =
    entry_free c.flights.inside.items.items c.args.tag c.index_mut-free.result.now c.index_mut-free.ensures.value
    (ap free_tag c.flights.view_is ∙ c.requires.lowest)

pub invariant_of-flights : goal.invariant_of-flights
invariant_of-flights g c =
    still_free c.flights.inside.taken c.args.tag c.flights.inside.items.items c.look_into.new.tag c.flights.invariant.0
    c.flights.invariant.1 (ap free_tag c.flights.view_is ∙ c.requires.lowest) (ap is_some c.in-Some.ensures.stops.0)

pub returns-in-Some-clause-stops : goal.returns-in-Some-clause-stops
returns-in-Some-clause-stops g c = record {
  stops = c.in-Some.ensures.stops.1;
  tags = set_free c.flights.inside.items.items c.args.tag c.look_into.new.tag
      (ap free_tag c.flights.view_is ∙ c.requires.lowest) c.in-Some.ensures.stops.0
      ∙ c.flights.view_is;
}

pub with_tag-flights-inside-requires : goal.with_tag-flights-inside-requires
with_tag-flights-inside-requires g c =
    let lowest : free_tag c.flights.inside.items.items ≡ Some c.args.tag =
    ap free_tag c.flights.view_is ∙ c.requires.lowest in
    let there = (is_free c.flights.inside.items.items c.args.tag lowest).there in
    omega (arith, there, c.flights.invariant.0)

pub invariant_of-flights-2 : goal.invariant_of-flights-2
invariant_of-flights-2 g c =
    let items = c.flights.inside.items.items in
    let there = (is_free items c.args.tag (ap free_tag c.flights.view_is ∙ c.requires.lowest)).there in
    now_taken _ c.args.tag items c.look_into.new.tag c.flights.invariant.0
    (ap is_some c.in_default.ensures.asks.2)
    (λ here. c.with_tag-flights-inside.ensures items here there c.flights.invariant.1)

pub returns-clause-each : goal.returns-clause-each
returns-clause-each g c =
    let count = c.args.self.now.extent.count in
    all_set count c.args.mem.now c.look_into.new.mem c.flights.inside.items.items c.args.tag c.look_into.new.tag
    c.look_into.ensures.range
    (subst (λ t. All (TagIsHeld count c.args.mem.now) t) (sym c.flights.view_is) c.requires.each)
    c.look_into.ensures.held
