use Rattle.std.proofs.Common.{◌∙◌, sym}
use Rattle.block_device.proofs.Landing.{held_live, in_flight, lands_dead, lands_live}
use Rattle.block_device.proofs.flights.Tags+Token+u32+A.land.Goals as goal

pub complete-written-requires-clause-flight : goal.complete-written-requires-clause-flight
complete-written-requires-clause-flight g c =
    in_flight c.args.capacity c.args.mem.now c.args.window.now c.args.self.now c.args.tag c.in-Some.flight
    c.in-Some.ensures.found c.requires.held (sym c.may_serve.ensures ∙ c.if-may_serve.true)

pub returns-then-may_serve-clause-lands : goal.returns-then-may_serve-clause-lands
returns-then-may_serve-clause-lands g c =
    lands_live c.args.tag c.in-Some.flight c.args.verdict
    (record { memory = c.args.mem.now; window = c.args.window.now; tags = c.args.self.now })
    (record { memory = c.complete-written.new.mem; window = c.complete-written.new.window; tags = c.count.new.self })
    c.in-Some.ensures.found (sym c.may_serve.ensures ∙ c.if-may_serve.true) c.complete-written.ensures.completes
    (c.count.ensures ∙ c.in-Some.ensures.free)

pub returns-then-may_serve-clause-held : goal.returns-then-may_serve-clause-held
returns-then-may_serve-clause-held g c =
    held_live c.args.capacity c.args.tag c.in-Some.flight c.args.verdict
    (record { memory = c.args.mem.now; window = c.args.window.now; tags = c.args.self.now })
    (record { memory = c.complete-written.new.mem; window = c.complete-written.new.window; tags = c.count.new.self })
    c.in-Some.ensures.found (sym c.may_serve.ensures ∙ c.if-may_serve.true) c.complete-written.ensures.completes
    (c.count.ensures ∙ c.in-Some.ensures.free) c.complete-written.ensures.range c.requires.held

pub returns-else-may_serve-clause-lands : goal.returns-else-may_serve-clause-lands
returns-else-may_serve-clause-lands g c =
    lands_dead c.args.tag c.in-Some.flight c.args.verdict
    (record { memory = c.args.mem.now; window = c.args.window.now; tags = c.args.self.now }) c.take.new.self
    c.in-Some.ensures.found (sym c.may_serve.ensures ∙ c.if-may_serve.false) c.in-Some.ensures.free
