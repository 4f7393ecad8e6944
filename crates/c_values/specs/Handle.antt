-- What a handle holds: a value behind its pointer, or none where that is null.
use base.Fml.{Fml, ftrue, ffalse, fex}
use base.Stored.{Coded}
use denote.RattleType.{RattleType}
use denote.RawPtr.{Ptr, null_ptr, block_ptr}
use Rattle.std.specs.Prelude.{◌≡◌, Option, Some, None}
use Rattle.std.specs.Box.Ownership.{box_owns}
use Rattle.std.specs.Coded.{coded_option}
use Rattle.std.specs.Global.{Global}
use Rattle.std.specs.contracts.impls.GlobalAllocator.TheImpl.{ghosts}

-- what is owned of it: null owns nothing, and any other pointer what a box owns
abbrev pub held : (X : RattleType) → Global → Ptr → Option X.Denot → Fml
held X alloc null_ptr value = fex (value ≡ None) (λ _. ftrue)
held X alloc (block_ptr b o) None = ffalse
held X alloc (block_ptr b o) (Some value) = box_owns (ghosts.dealloc_token alloc) X (block_ptr b o) value

abbrev pub held_coded : (X : RattleType) → Coded (Option X.Denot)
held_coded X = coded_option X.coded
