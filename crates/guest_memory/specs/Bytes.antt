-- The bytes of a region, whoever holds them. No public clause cites this module.
use Rattle.std.specs.Prelude.{ℕ, List}
use Rattle.std.specs.Vec as vec
use Rattle.guest_memory.specs.declared.bytes.Bytes.{Bytes}
use Rattle.guest_memory.specs.declared.bytes.Bytes.TheVariants.{Own, Lent}

module _ {A : Type 0} where
  abbrev pub bytes_of : Bytes A → List ℕ
  bytes_of (Own bytes) = bytes.items
  bytes_of (Lent bytes) = bytes.items

  -- with bs written over as many bytes from place i on
  abbrev pub with_bytes : Bytes A → ℕ → List ℕ → Bytes A
  with_bytes (Own bytes) i bs = Own (vec.with_items_from bytes i bs)
  with_bytes (Lent bytes) i bs = Lent (vec.with_items_from bytes i bs)
