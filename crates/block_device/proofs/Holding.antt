-- What is in flight is held, by all that leaves the memory's range and the chains in flight.
use Rattle.std.proofs.Common.{◌≡◌, ℕ, ◌<◌, false, Option, Some, None, List, [], ◌∷◌, length, get_or, set, subst}
use Rattle.std.specs.Prelude.{All}
use Rattle.std.proofs.lemmas.List.Elements.{All-cons, All-get_or, All-nil, All-set, All-weaker}
use Rattle.guest_memory.specs.Memory.{Memory, SameRange}
use Rattle.guest_memory.proofs.Ranges.{inside_same}
use Rattle.chain.specs.declared.segment.Segment.{Segment}
use Rattle.block_device.specs.declared.operation.Operation.{Operation}
use Rattle.block_device.specs.declared.operation.OperationKind.{OperationKind}
use Rattle.block_device.specs.declared.operation.OperationKind.TheVariants as kind
use Rattle.block_device.specs.Operation.{InMemory, LieBy, LiesInside}
use Rattle.block_device.specs.Tags.{InFlight, IsHeld, TagIsHeld, is_any}

runs_same : (capacity : ℕ) (of : OperationKind) (old new : Memory) (runs : List Segment) → SameRange old new
    → LieBy of capacity old runs → LieBy of capacity new runs
runs_same capacity kind.In old new runs same lie =
    All-weaker (InMemory old) (InMemory new) (λ run inside. inside_same old new run.addr run.len same inside) runs lie
runs_same capacity kind.Out old new runs same lie =
    All-weaker (InMemory old) (InMemory new) (λ run inside. inside_same old new run.addr run.len same inside) runs lie
runs_same capacity kind.Flush old new runs same lie = lie
runs_same capacity kind.Zeroes old new runs same lie = lie

pub told_same : (capacity : ℕ) (old new : Memory) (operation : Operation) (runs : List Segment) → SameRange old new
    → LiesInside capacity old operation runs → LiesInside capacity new operation runs
told_same capacity old new operation runs same lies = record {
  disk = lies.disk;
  lie = runs_same capacity operation.kind old new runs same lies.lie;
  few = lies.few;
}

module _ {T : Type 0} where
  pub held_same : (capacity : ℕ) (old new : Memory) → SameRange old new → (tag : Option (InFlight T))
      → TagIsHeld capacity old tag → TagIsHeld capacity new tag
  held_same capacity old new same None held = tt
  held_same capacity old new same (Some here) held = record {
    status = inside_same old new here.flight.status 1 same held.status;
    some = held.some;
    inside = told_same capacity old new here.flight.operation here.runs same held.inside;
  }

  pub all_same : (capacity : ℕ) (old new : Memory) (tags : List (Option (InFlight T))) → SameRange old new
      → All (TagIsHeld capacity old) tags → All (TagIsHeld capacity new) tags
  all_same capacity old new tags same held =
      All-weaker (TagIsHeld capacity old) (TagIsHeld capacity new) (held_same capacity old new same) tags held

  -- with another entry in a tag
  pub all_set : (capacity : ℕ) (old new : Memory) (tags : List (Option (InFlight T))) (i : ℕ) (tag : Option (InFlight T))
      → SameRange old new → All (TagIsHeld capacity old) tags → TagIsHeld capacity new tag
      → All (TagIsHeld capacity new) (set tags i tag)
  all_set capacity old new tags i tag same held there =
      All-set (TagIsHeld capacity new) tags i tag there (all_same capacity old new tags same held)

  -- of one of them
  pub one_held : (capacity : ℕ) (m : Memory) (tags : List (Option (InFlight T))) (i : ℕ) (here : InFlight T)
      → i < length tags → get_or tags i None ≡ Some here → All (TagIsHeld capacity m) tags → IsHeld capacity m here
  one_held capacity m tags i here within there held =
      subst (λ (o : Option (InFlight T)). TagIsHeld capacity m o) there
      (All-get_or (TagIsHeld capacity m) tags i None within held)

  -- where nothing is in flight
  pub none_held : (capacity : ℕ) (m : Memory) (tags : List (Option (InFlight T))) → is_any tags ≡ false
      → All (TagIsHeld capacity m) tags
  none_held capacity m [] none = All-nil (TagIsHeld capacity m)
  none_held capacity m (None ∷ tags) none =
      All-cons (TagIsHeld capacity m) None tags tt (none_held capacity m tags none)
  none_held capacity m (Some here ∷ tags) none = absurd (cc none)
