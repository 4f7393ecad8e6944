-- What reading a text comes to: the trace whose text it is, or its fault.
use Rattle.std.specs.Prelude.{◌≡◌, ◌≢◌, ℕ, ◌≤◌, List}
use Rattle.trace.specs.declared.fault.FaultKind.TheVariants as kind
use Rattle.trace.specs.declared.fault.TraceFault.{TraceFault}
use Rattle.trace.specs.Faults.{IsCleanBefore, IsFault}
use Rattle.trace.specs.Printable.{InRange, IsPrintable}
use Rattle.trace.specs.Text.{Content, text}

-- the input is the text of this trace, and of no other
pub record IsTraceOf {A : Type 0} (input : List ℕ) (trace : Content A) : Type 0 where
  pub found : input ≡ text trace
  pub range : InRange trace
  pub printable : IsPrintable trace
  pub only : (other : Content A) → InRange other → IsPrintable other → input ≡ text other → other ≡ trace

-- The input has this fault, and no trace has that text; where memory was wanting, no line before it has a
-- fault.
pub record IsTraceFault (A : Type 0) (input : List ℕ) (fault : TraceFault) : Type 0 where
  pub named : fault.kind ≢ kind.NoMemory → IsFault input fault.line fault.kind
  pub none : fault.kind ≢ kind.NoMemory → (other : Content A) → InRange other → IsPrintable other
      → input ≢ text other
  pub numbered : 1 ≤ fault.line
  pub clean : IsCleanBefore input fault.line
