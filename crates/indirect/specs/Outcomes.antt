-- That an indirect table, and the list of a ring, has one outcome: its buffers or its fault.
use Rattle.std.specs.Prelude.{◌≡◌, ℕ, ◌≤◌, Bool, List, [], length}
use Rattle.guest_memory.specs.Memory.{Memory}
use Rattle.chain.specs.Buffers.{AdmitsAll}
use Rattle.chain.specs.declared.segment.Buffer.{Buffer}
use Rattle.chain.specs.declared.fault.Fault.{Fault}
use Rattle.indirect.specs.declared.descriptor.Descriptor.{Descriptor}
use Rattle.indirect.specs.Walks.{Leads, buffers_of}
use Rattle.indirect.specs.Lists.{TableKind, TableHasOutcome, ListResolves, ListFails, ListHasOutcome}

-- each range has one outcome as a table of this kind
pub record HasOneTable (kind : TableKind) : Type 0 where
  -- at most one list of buffers; at most one fault, with one list of buffers before it; not both; and one of
  -- them
  pub buffers : (m : Memory) (addr len : ℕ) (before a b : List Buffer) → kind.HasBuffers m addr len before a
      → kind.HasBuffers m addr len before b → a ≡ b
  pub fault : (m : Memory) (addr len : ℕ) (before a b : List Buffer) (f g : Fault)
      → kind.HasFault m addr len before f a → kind.HasFault m addr len before g b
      → (f ≡ g) × (a ≡ b)
  pub not_both : (m : Memory) (addr len : ℕ) (before a b : List Buffer) (f : Fault)
      → kind.HasFault m addr len before f a → kind.HasBuffers m addr len before b → ⊥
  pub some : (m : Memory) (addr len : ℕ) (before : List Buffer) → TableHasOutcome kind m addr len before

-- each list of a ring with tables of this kind has one outcome
pub record HasOneList (kind : TableKind) : Type 0 where
  -- at most one number of members, last one and list of buffers; at most one fault; not both; and one of them
  pub list : (negotiated : Bool) (m : Memory) (t : ℕ → Descriptor) (n h c k i j : ℕ) (a b : List Buffer)
      → ListResolves kind negotiated m t n h c i a → ListResolves kind negotiated m t n h k j b
      → record { count : c ≡ k; last : i ≡ j; buffers : a ≡ b }
  pub fault : (negotiated : Bool) (m : Memory) (t : ℕ → Descriptor) (n h : ℕ) (f g : Fault)
      → ListFails kind negotiated m t n h f → ListFails kind negotiated m t n h g → f ≡ g
  pub not_both : (negotiated : Bool) (m : Memory) (t : ℕ → Descriptor) (n h : ℕ) (f : Fault)
      (k j : ℕ) (b : List Buffer)
      → ListFails kind negotiated m t n h f → ListResolves kind negotiated m t n h k j b → ⊥
  pub some : (negotiated : Bool) (m : Memory) (t : ℕ → Descriptor) (n h : ℕ)
      → ListHasOutcome kind negotiated m t n h
  -- and no front with good buffers is longer than the one before a fault
  pub longest : (negotiated : Bool) (m : Memory) (t : ℕ → Descriptor) (n h : ℕ) (f : Fault)
      (found : ListFails kind negotiated m t n h f) (front : List ℕ) (i : ℕ)
      → Leads t n h front i → AdmitsAll m [] (buffers_of t front) → length front ≤ n
      → length front ≤ found.count
