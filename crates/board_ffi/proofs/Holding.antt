-- A handle holds a session or none.
use mathlib.Core.Path.{refl}
use Rattle.std.specs.contracts.alloc.Global as Heap
use Rattle.std.specs.contracts.impls.GlobalAllocator.TheImpl.{ghosts}
use Rattle.std.proofs.alloc.Global.TheLaws as heap
use Rattle.session.proofs.session.Session.TheLaws as session
use Rattle.c_values.proofs.Holder.{Holder}
use Rattle.board_ffi.specs.Handle.{session_row}
use Rattle.board_ffi.specs.contracts.handle.Handle as handle

abbrev pub holder : Holder
holder = record {
  row = session_row;
  laws = session.the_row_laws Heap.the_row ghosts heap.the_row_laws;
  name = handle.struct.name;
  holder = handle.the_row;
  holds = λ h. (h.at, (h.alloc, h.session));
  make = λ t. record { at = t.0; alloc = t.1.0; session = t.1.1 };
  beta = λ t. refl;
}
