use Rattle.std.proofs.Common.{◌≡◌, ◌≤◌, length}
use Rattle.sector_cache.specs.Stop.{TouchesNothing}
use Rattle.sector_cache.proofs.Filed.{HasFront}
use Rattle.sector_cache.proofs.backing.read_sector.Given as goal

abbrev pub invariant-loop-turn : goal.invariant-loop-turn
invariant-loop-turn g l =
    TouchesNothing g.F.BackingFile.moment g.F.BackingFile.may_leave g.F.BackingFile.left_since
    l.initial.file l.file
    × ((g.F.BackingFile.held l.file ≡ g.F.BackingFile.held l.initial.file)
    × ((g.F.BackingFile.IsSynced l.initial.file → g.F.BackingFile.IsSynced l.file)
    × ((l.done ≤ 512) × ((length l.into ≡ 512)
    × HasFront (g.F.BackingFile.held l.initial.file) l.at l.done l.into))))
