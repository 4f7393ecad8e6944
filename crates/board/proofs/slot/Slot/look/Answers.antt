use Rattle.std.proofs.Common.{ap}
use Rattle.hosted_disk.specs.Disk.{LooksAtQueue}
use Rattle.board.specs.Backing.{OwnDisk}
use Rattle.board.specs.Slot.{BoardSlot}
use Rattle.board.proofs.HostedWindows.{does_to_own, look_keeps, viewed}
use Rattle.board.proofs.Belonging.{block_changed}
use Rattle.board.proofs.slot.Slot.look.Goals as goal

pub invariant_of-self : goal.invariant_of-self
invariant_of-self g c =
    let looked = c.look in
    rw (ap (λ (own : OwnDisk). own.read_only) c.look.ensures.rest)
    (block_changed _ _ _ _ _ _ _ c.self.invariant
    (look_keeps _ _ _ _ _ _ looked.ensures.looks looked.ensures.kept) looked.ensures.sound looked.ensures.range)

pub returns-clause-looks : goal.returns-clause-looks
returns-clause-looks g c = λ some image.
    let slot : BoardSlot = viewed c.self.view_is in
    rw (← c.self.view_is)
    (does_to_own LooksAtQueue image slot c.look.new.memory c.look.new.window c.look.new.self c.look.ensures.rest
    (c.look.ensures.looks (rw (← c.self.view_is) at some)))
