use Rattle.std.proofs.Common.{ap}
use Rattle.hosted_disk.specs.Told.{DoesAsTold}
use Rattle.board.specs.Backing.{OwnDisk}
use Rattle.board.specs.Slot.{BoardSlot}
use Rattle.board.proofs.Belonging.{block_changed}
use Rattle.board.proofs.HostedWindows.{tell_keeps, told_to_own, viewed}
use Rattle.board.proofs.slot.Slot.tell.Goals as goal

pub invariant_of-self : goal.invariant_of-self
invariant_of-self g c =
    let told = c.tell-done in
    rw (ap (λ (own : OwnDisk). own.read_only) c.tell-done.ensures.rest)
    (block_changed _ _ _ _ _ _ _ c.self.invariant
    (tell_keeps told.result c.args.said _ _ _ _ _ _ told.ensures.does told.ensures.kept) told.ensures.sound
    told.ensures.range)

pub returns-then-done-clause-does : goal.returns-then-done-clause-does
returns-then-done-clause-does g c =
    let told = c.tell-done in
    let slot : BoardSlot = viewed c.self.view_is in
    rw (← c.self.view_is)
    (told_to_own (DoesAsTold c.args.said) told.result slot told.new.memory told.new.window told.new.self
    told.ensures.rest told.ensures.does)
