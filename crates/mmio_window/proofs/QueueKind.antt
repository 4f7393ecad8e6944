-- What every kind of ready queue has, by cases: one chain or one fault at each place.
use Rattle.std.proofs.Common.{◌≡◌, ◌⊎◌, List}
use Rattle.guest_memory.specs.Memory.{Memory}
use Rattle.chain.specs.declared.segment.Buffer.{Buffer}
use Rattle.chain.specs.declared.fault.Fault.{Fault}
use Rattle.chain.specs.Service.{Entry, HasAtMostOneChain, HasSomeChain}
use Rattle.split_ring.proofs.Outcomes as split
use Rattle.packed_ring.proofs.Outcomes as packed
use Rattle.mmio_window.specs.declared.queue.Queue.{Queue}
use Rattle.mmio_window.specs.declared.queue.Queue.TheVariants.{Split, Packed}
use Rattle.mmio_window.specs.Queue.{HasFault, Offers, queue_kind}

one_list : (m : Memory) (queue : Queue) (b c : List Buffer) (e f : Entry) → Offers m queue b e
    → Offers m queue c f → b ≡ c
one_list m (Split ring) b c e f x y = split.has_at_most_one_chain.buffers m ring b c e f x y
one_list m (Packed ring) b c e f x y = packed.has_at_most_one_chain.buffers m ring b c e f x y

one_entry : (m : Memory) (queue : Queue) (b c : List Buffer) (e f : Entry) → Offers m queue b e
    → Offers m queue c f → e ≡ f
one_entry m (Split ring) b c e f x y = split.has_at_most_one_chain.entry m ring b c e f x y
one_entry m (Packed ring) b c e f x y = packed.has_at_most_one_chain.entry m ring b c e f x y

one_fault_at : (m : Memory) (queue : Queue) (f g : Fault) → HasFault m queue f → HasFault m queue g → f ≡ g
one_fault_at m (Split ring) f g x y = split.has_at_most_one_chain.fault m ring f g x y
one_fault_at m (Packed ring) f g x y = packed.has_at_most_one_chain.fault m ring f g x y

not_both_at : (m : Memory) (queue : Queue) (b : List Buffer) (e : Entry) (f : Fault) → Offers m queue b e
    → HasFault m queue f → ⊥
not_both_at m (Split ring) b e f x y = split.has_at_most_one_chain.not_both m ring b e f x y
not_both_at m (Packed ring) b e f x y = packed.has_at_most_one_chain.not_both m ring b e f x y

-- at most one chain or one fault, and not both
pub has_at_most_one_chain : HasAtMostOneChain queue_kind
has_at_most_one_chain = record {
  buffers = one_list;
  entry = one_entry;
  fault = one_fault_at;
  not_both = not_both_at;
}

some_at : (m : Memory) (queue : Queue)
    → ((buffers : List Buffer) × (entry : Entry) × Offers m queue buffers entry)
    ⊎ ((fault : Fault) × HasFault m queue fault)
some_at m (Split ring) = split.has_some_chain.some m ring
some_at m (Packed ring) = packed.has_some_chain.some m ring

-- and one of them
pub has_some_chain : HasSomeChain queue_kind
has_some_chain = record { some = some_at }
