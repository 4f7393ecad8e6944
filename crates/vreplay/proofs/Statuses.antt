-- Which status a fault has.
use Rattle.std.proofs.Common.{◌≡◌, ℕ, List, Option, Result, Ok, Err, OnOk, IfErr, refl, inl, inr, arith}
use Rattle.replay.specs.declared.fault.ReplayFault.{ReplayFault}
use Rattle.replay.specs.declared.fault.ReplayFault.TheVariants as replay
use Rattle.replay.specs.LastLine.{ending_of}
use Rattle.calls.specs.LastLine.{EndsBy}
use Rattle.calls.specs.declared.fault.Fault.{Fault}
use Rattle.calls.specs.declared.fault.Fault.TheVariants.{Usage, Replay}

replay_status : (fault : ReplayFault) → (ending_of fault).status ≡ 2 → ⊥
replay_status (replay.Trace fault) two = grind (arith, two)
replay_status (replay.Board fault) two = grind (arith, two)
replay_status fault two = omega (arith, two)

replay_not_two : (fault : ReplayFault) (status : ℕ) (old new : Option (List ℕ))
    → EndsBy (Replay fault) status old new → status ≡ 2 → ⊥
replay_not_two fault status old new (inl told) two = replay_status fault (omega (arith, told.own, two))
replay_not_two fault status old new (inr untold) two = omega (arith, untold.failed, two)

-- status 2 is the end of a call whose words were refused, and of no other
pub two_is_usage : (outcome : Result (Unit {0}) Fault) (status : ℕ) (old new : Option (List ℕ))
    → OnOk outcome (status ≡ 0) → IfErr outcome (λ fault. EndsBy fault status old new) → status ≡ 2
    → outcome ≡ Err Usage
two_is_usage (Ok _) status old new done fault two = absurd (omega (arith, done, two))
two_is_usage (Err Usage) status old new done fault two = refl
two_is_usage (Err (Replay why)) status old new done fault two =
    absurd (replay_not_two why status old new fault two)
