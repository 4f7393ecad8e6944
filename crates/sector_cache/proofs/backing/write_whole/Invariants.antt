use Rattle.std.proofs.Common.{◌≤◌}
use Rattle.sector_cache.specs.Stop.{TouchesSector}
use Rattle.sector_cache.proofs.Filed.{PutsTo}
use Rattle.sector_cache.proofs.backing.write_whole.Given as goal

abbrev pub invariant-loop-turn : goal.invariant-loop-turn
invariant-loop-turn g l =
    (l.done ≤ 512)
    × (PutsTo l.sector l.from l.done (g.F.BackingFile.held l.initial.file) (g.F.BackingFile.held l.file)
    × TouchesSector g.F.BackingFile.moment g.F.BackingFile.may_leave g.F.BackingFile.left_since l.sector
    l.initial.file l.file)
