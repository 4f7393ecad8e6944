-- The last line for a trace's fault, in its parts.
use Rattle.std.proofs.Common.{◌≡◌, ◌≢◌, ℕ, List, [], ◌∷◌, ◌++◌, refl, ap, append_assoc}
use Rattle.std.specs.Prelude.{codes, decimal}
use Rattle.trace.specs.declared.fault.FaultKind.{FaultKind}
use Rattle.trace.specs.declared.fault.FaultKind.TheVariants as kind
use Rattle.replay.specs.LastLine.{kind_name, trace_ending}
use Rattle.trace.specs.Text.{ended}

parts : (line : ℕ) (name : List ℕ) → ended (codes "fault trace " ++ (decimal line ++ (codes " " ++ name)))
    ≡ codes "fault trace " ++ (decimal line ++ (codes " " ++ ended name))
parts line name = ap (λ (rest : List ℕ). codes "fault trace "
    ++ rest) (append_assoc (decimal line) (codes " " ++ name) (10 ∷ []))

pub line_parts : (line : ℕ) (fault : FaultKind) → fault ≢ kind.NoMemory
    → (trace_ending line fault).line ≡ codes "fault trace "
    ++ (decimal line ++ (codes " " ++ ended (kind_name fault)))
line_parts line kind.NoMemory other = absurd (other refl)
line_parts line fault other = parts line (kind_name fault)
