-- Whatever its guest writes meanwhile, a service of a queue keeps the range of its memory, and how the queue was made.
use Rattle.std.specs.Prelude.{IfErr, IfOk}
use Rattle.std.proofs.Common.{◌≡◌, ◌∙◌, ℕ, Bool, Result, Ok, Err, List, refl}
use Rattle.guest_memory.specs.Memory.{SameRange}
use Rattle.chain.specs.declared.budget.Budget.{Budget}
use Rattle.chain.specs.declared.segment.Buffer.{Buffer}
use Rattle.chain.specs.Service.{Device, Entry}
use Rattle.mmio_window.specs.declared.queue.Queue.{Queue}
use Rattle.mmio_window.specs.declared.queue.Queue.TheVariants.{Split, Packed}
use Rattle.mmio_window.specs.Queue.{made_as, past}
use Rattle.shared_memory.specs.Sightings.{Sightings, memory}
use Rattle.racing_service.specs.declared.stage.Stage.{Stage}
use Rattle.racing_service.specs.declared.service.Outcome.{Outcome}
use Rattle.racing_service.specs.declared.service.Refused.{Refused}
use Rattle.racing_service.specs.Service.{IsRacingService, IsRefusedService, standing_at}
use Rattle.racing_service.proofs.Moving.{MoveLaws, refused_keeps, service_keeps}
use Rattle.racing_window.specs.Lasting.{queue_lasts}
use Rattle.racing_window.specs.Queue.{racing_queue}

-- ---- how the queue was made

pub made_past : (queue : Queue) (entry : Entry) → made_as (past queue entry) ≡ made_as queue
made_past (Split ring) entry = refl
made_past (Packed ring) entry = refl

pub queue_moves : MoveLaws racing_queue (λ old new. made_as new ≡ made_as old)
queue_moves = record {
  same = λ queue. refl;
  trans = λ a b c first second. second ∙ first;
  opened = λ m. elim [ Split ring ↦ refl | Packed ring ↦ refl ];
  past = made_past;
  stopped = elim [ Split ring ↦ refl | Packed ring ↦ refl ];
  shut = elim [ Split ring ↦ refl | Packed ring ↦ refl ];
  given_range = queue_lasts.given_range;
  closed_range = queue_lasts.closed_range;
}

-- ---- what a call answers

-- the range of the memory stays, and how the queue was made
pub record IsKept (old new : Sightings) (first last : Queue) : Type 0 where
  pub range : SameRange (memory old) (memory new)
  pub made : made_as last ≡ made_as first

pub served_keeps : {State T E : Type 0} (device : Device State) (races : Bool)
    (Refuses : State → List ℕ → List Buffer → E → Type 0) (entry_of : T → Entry) (stage : Stage) (most : ℕ)
    (old new : Sightings)
    (first last : Queue) (s s' : State) (budget : Budget) (buffers : List Buffer) (result : Result Outcome (Refused T E))
    → IfOk result (λ outcome. IsRacingService racing_queue device races stage most (standing_at old first s budget)
    (standing_at new last s' outcome.left) outcome.ending outcome.wanted)
    → IfErr result (λ refused. IsRefusedService racing_queue device races Refuses stage most (standing_at old first s budget)
    (standing_at new last s' refused.left) buffers (entry_of refused.token) refused.why refused.wanted)
    → IsKept old new first last
served_keeps device races Refuses entry_of stage most old new first last s s' budget buffers (Ok outcome) served left =
    let stays = service_keeps queue_moves device races stage most (standing_at old first s budget) (standing_at new last s' outcome.left)
    outcome.ending outcome.wanted served in
    record { range = stays.range; made = stays.stays }
served_keeps device races Refuses entry_of stage most old new first last s s' budget buffers (Err refused) served left =
    let stays = refused_keeps queue_moves device races Refuses stage most (standing_at old first s budget)
    (standing_at new last s' refused.left) buffers (entry_of refused.token) refused.why refused.wanted left in
    record { range = stays.range; made = stays.stays }
