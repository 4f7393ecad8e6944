-- A handle may go to another thread.
use denote.Param.Send.{IsSend}
use Rattle.std.proofs.Crossing as heap
use Rattle.std.specs.contracts.alloc.Global as Heap
use Rattle.std.specs.contracts.impls.GlobalAllocator.TheImpl.{ghosts}
use Rattle.std_heap.proofs.Global.TheSendSync as allocator
use Rattle.racing_session.proofs.session.RacingSession.TheSendSync as session
use Rattle.c_values.proofs.Crossing.{sends}
use Rattle.racing_ffi.proofs.Holding.{holder}
use Rattle.racing_ffi.specs.contracts.handle.GuestHandle.{the_row}

pub send : IsSend the_row
send = sends holder (session.the_send Heap.the_row ghosts allocator.the_send heap.frees)
