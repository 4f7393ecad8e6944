-- What goes to a writer through a buffer before it.
use Rattle.std.specs.Prelude.{◌≡◌, ℕ, List, ◌++◌, take, Option, None, Some, if◌then◌else◌}
use Rattle.std.specs.Io.KnownBytes.{Appends, Keeps}
use Rattle.trace.specs.declared.print.buffer.Buffer.{Buffer}

-- known bytes grew by a front of these, which may be none or all of them
pub record AppendsFront (old new : Option (List ℕ)) (bytes : List ℕ) : Type 0 where
  pub count : ℕ
  pub front : Appends old new (take count bytes)

-- what waits in a buffer, unless its writer has failed
abbrev pub waiting : {A : Type 0} → Buffer A → Option (List ℕ)
waiting b = if b.is_broken then None else Some b.bytes

-- the writer took a front of the bytes, and these are left
pub record Passes (old new : Option (List ℕ)) (bytes left : List ℕ) : Type 0 where
  pub gone : List ℕ
  pub took : Appends old new gone
  pub rest : bytes ≡ gone ++ left

-- the writer took a front of the bytes, and failed
pub record Breaks (old new : Option (List ℕ)) (bytes : List ℕ) : Type 0 where
  pub left : List ℕ
  pub front : Passes old new bytes left

-- Bytes are added to those that wait for a writer, which meanwhile takes a front of all these, or fails.
-- After a failure nothing more goes out.
abbrev pub Sends : Option (List ℕ) → Option (List ℕ) → Option (List ℕ) → List ℕ → Option (List ℕ) → Type 0
Sends old new (Some before) bytes (Some after) = Passes old new (before ++ bytes) after
Sends old new (Some before) bytes None = Breaks old new (before ++ bytes)
Sends old new None bytes (Some after) = ⊥
Sends old new None bytes None = Keeps old new
