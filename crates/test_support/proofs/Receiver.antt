-- What the walks of both methods begin with: the type's arguments, and the heap that is called.
use Rattle.std.proofs.Common.{[], ◌∷◌}
use mir.Syntax.{Args, a_type, dnil, dcons}
use denote.Builtin.{RefOf}
use denote.Param.{bounded, param}
use denote.Signature.{Slot, plain}
use Rattle.std.proofs.alloc.Calls.{Al}
use Rattle.test_support.specs.contracts.RefusingHeap as heap

abbrev pub args : Al → Args
args Z = bounded (a_type ∷ []) (Z.row, tt) (dcons Z.d (dcons Z.drops dnil))

abbrev pub self : Al → Slot 2
self Z = RefOf (0 ∷ []) tt (plain (λ _. heap.the_row (param 0 Z.row))) (λ _. tt)
