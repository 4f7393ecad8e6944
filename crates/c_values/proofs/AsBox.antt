-- What parts own is what a box at the same types owns.
use mir.Syntax.{Dict}
use denote.RattleType.{RattleType}
use denote.Param.Laws.{Laws}
use Rattle.std_alloc.proofs.BoxSteps.Form.{Bx}
use Rattle.std.specs.declared.alloc.Allocator.{Ghosts}

-- a box of an item of the first type, under an allocator of the second
abbrev pub box_of : (X : RattleType) → Laws X → (Z : RattleType) → Laws Z → Ghosts Z.Denot → Dict → Dict → Bx
box_of X LX Z LZ g d drops =
    record { row = X; laws = LX; al = record { row = Z; laws = LZ; g = g; d = d; drops = drops } }
