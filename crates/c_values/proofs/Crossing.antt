-- A holder may go to another thread where what it holds may: it owns what a box of that owns, or nothing.
use mir.Raw.{raw}
use base.Shift.{Keyless}
use denote.Memory.{lone}
use denote.RawPtr.{Ptr, null_ptr, block_ptr}
use denote.Struct.Struct.{exits_of}
use denote.Struct.Owning.{shape, fields, to}
use denote.Param.Send.{IsSend, AllSend, owning_send, struct_send, sendable}
use Rattle.std.specs.Prelude.{Option, Some, None}
use Rattle.std.specs.Global.{Global}
use Rattle.std.proofs.Crossing as heap
use Rattle.std_alloc.proofs.SendSync.{quiet, lies}
use Rattle.std_heap.proofs.Global.TheSendSync as allocator
use Rattle.c_values.specs.Handle.{held}
use Rattle.c_values.proofs.Holder.{Holder, H, X, the_type}

module _ (S : Holder) (crosses : IsSend (X S)) where
  owned : (alloc : Global) (p : Ptr) (value : Option (X S).Denot) → Keyless (held (X S) alloc p value)
  owned alloc null_ptr value = λ _. tt
  owned alloc (block_ptr b o) None = tt
  owned alloc (block_ptr b o) (Some value) =
      (lies (X S) crosses (block_ptr b o) value, heap.frees.frees alloc (raw (lone (X S).mir)) (block_ptr b o))

  pub sends : IsSend (H S)
  sends =
      let all : AllSend (fields (the_type S)) = (search sendable, (allocator.the_field_send, tt)) in
      owning_send (the_type S) all (λ d. owned (S.holds d).1.0 (S.holds d).0 (S.holds d).1.1)
      (λ k. quiet (to (the_type S)) (exits_of k (fields (the_type S))) ((struct_send (shape (the_type S)) all).leaving k))
