-- A handle may go to another thread.
use denote.Param.Send.{IsSend}
use Rattle.std.proofs.Crossing as heap
use Rattle.std.specs.contracts.alloc.Global as Heap
use Rattle.std.specs.contracts.impls.GlobalAllocator.TheImpl.{ghosts}
use Rattle.std_heap.proofs.Global.TheSendSync as allocator
use Rattle.session.proofs.session.Session.TheSendSync as session
use Rattle.c_values.proofs.Crossing.{sends}
use Rattle.board_ffi.proofs.Holding.{holder}
use Rattle.board_ffi.specs.contracts.handle.Handle.{the_row}

pub send : IsSend the_row
send = sends holder (session.the_send Heap.the_row ghosts allocator.the_send heap.frees)
