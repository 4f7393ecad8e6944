-- What comes of a text that is a trace's, once there is a board for it.
use Rattle.std.proofs.Common.{◌≡◌, ◌∙◌, ℕ, ◌<◌, Bool, List, Option, Some, Result, Ok, Err, length, map, ap, subst, sym, inl, inr}
use Rattle.std.proofs.KnownBytes.{Keeps-refl}
use Rattle.std.specs.Prelude.{All}
use Rattle.sector_cache.specs.Disk.{Disk}
use Rattle.board.specs.declared.event.Event.{Event}
use Rattle.board.specs.declared.fault.BoardFault.{BoardFault}
use Rattle.board.specs.declared.spec.SlotSpec.{SlotSpec}
use Rattle.board.specs.Fault.{IsAccepted, Refuses}
use Rattle.board.specs.Slot.{opened}
use Rattle.board.specs.World.{BoardState}
use Rattle.trace.specs.Asked.{is_hosted}
use Rattle.trace.specs.Validating.{AreLinesOf, IsValidated, Validation}
use Rattle.replay.specs.declared.fault.ReplayFault.{ReplayFault}
use Rattle.replay.specs.declared.fault.ReplayFault.TheVariants.{Read, Trace, Board, Run, Write, NoMemory}
use Rattle.replay.specs.Limits.{IsSmallMemory, asked_of_board}
use Rattle.trace.specs.declared.format.Format.{Format}
use Rattle.replay.specs.Replay.{AfterRun, HasTooMany, Plays, RefusesBoard, RefusesBoardOf, Replays, front}

replays : {A I : Type 0} (disk : I → Disk) (input old new : Option (List ℕ)) (before after : I)
    (outcome : Result (Unit {0}) ReplayFault) → Plays A disk input old new before after outcome
    → Replays A disk input old new before after outcome
replays disk input old new before after (Ok done) plays = plays
replays disk input old new before after (Err Read) plays = absurd plays.ended
replays disk input old new before after (Err (Trace fault)) plays = absurd plays.ended
replays disk input old new before after (Err (Board fault)) plays = absurd plays.ended
replays disk input old new before after (Err (Run done)) plays = plays
replays disk input old new before after (Err Write) plays = plays
replays disk input old new before after (Err NoMemory) plays = plays

-- The board of the slots that were validated, and what came of the lines of their events.
pub played : {A I : Type 0} (disk : I → Disk) (text : List ℕ) (old new : Option (List ℕ)) (before after : I)
    (outcome : Result (Unit {0}) ReplayFault) (j : Validation) (slots : List SlotSpec)
    (board : BoardState I) (hosted : Bool)
    → IsValidated A text j → slots ≡ j.slots → board ≡ record { slots = map opened slots; image = before }
    → hosted ≡ is_hosted slots
    → (¬ HasTooMany (front A j.format j.cache slots)) → All (IsSmallMemory j.format) slots
    → IsAccepted (disk before).sector_count slots j.cache
    → ((specs : List SlotSpec) (events : List (Event A)) → board.slots ≡ map opened specs
    → hosted ≡ is_hosted specs → AreLinesOf events j.events
    → AfterRun disk specs events board.image after old new outcome)
    → Replays A disk (Some text) old new before after outcome
played {A} {I} disk text old new before after outcome j slots board hosted is same made by few small accepted
    ended =
    let described : slots ≡ is.trace.slots = same ∙ sym is.slots in
    let run = subst (λ (b : BoardState I). AfterRun disk slots is.trace.events b.image after old new
    outcome) made
    (ended slots is.trace.events (ap (λ (b : BoardState I). b.slots) made) by is.lines_of) in
    replays disk (Some text) old new before after outcome (record {
      trace = is.trace;
      read = is.read;
      few = λ many. few (record {
        version = sym is.format ∙ many.version;
        many = subst (λ (s : List SlotSpec). 16 < length s) (sym described) many.many;
      });
      small = subst (λ (v : Format). All (IsSmallMemory v) is.trace.slots) (sym is.format)
          (subst (λ (s : List SlotSpec). All (IsSmallMemory j.format) s) described small);
      accepted = subst (λ (s : List SlotSpec). IsAccepted (disk before).sector_count s is.trace.cache) described
          (subst (λ (n : ℕ). IsAccepted (disk before).sector_count slots n) (sym is.cache) accepted);
      ended = subst (λ (s : List SlotSpec). AfterRun disk s is.trace.events before after old new
          outcome) described run;
    })

-- there is no board for the slots that were validated
pub refused_board : {A I : Type 0} (disk : I → Disk) (text : List ℕ) (old : Option (List ℕ))
    (before after : I) (fault : BoardFault) (j : Validation) (slots : List SlotSpec)
    → IsValidated A text j → slots ≡ j.slots → after ≡ before
    → RefusesBoardOf (disk before).sector_count (front A j.format j.cache slots) fault
    → RefusesBoard A disk (Some text) old old before after fault
refused_board disk text old before after fault j slots is same image refused =
    let described : slots ≡ is.trace.slots = same ∙ sym is.slots in
    let sectors = (disk before).sector_count in
    record {
      untouched = record { output = Keeps-refl old; image = image };
      trace = is.trace;
      read = is.read;
      refused = elim refused [
        | inl many ↦ inl (
          record {
            version = is.format ∙ many.0.version;
            many = subst (λ (s : List SlotSpec). 16 < length s) described many.0.many;
          },
          many.1,
        )
        | inr own ↦ inr (
          λ many. own.0 (record {
            version = sym is.format ∙ many.version;
            many = subst (λ (s : List SlotSpec). 16 < length s) (sym described) many.many;
          }),
          subst (λ (s : List SlotSpec). Refuses sectors (map (asked_of_board is.trace.format) s) is.trace.cache
              fault) described
              (subst (λ (n : ℕ). Refuses sectors (map (asked_of_board is.trace.format) slots) n fault)
              (sym is.cache)
              (subst (λ (v : Format). Refuses sectors (map (asked_of_board v) slots) j.cache fault)
              (sym is.format) own.1)),
        )
      ];
    }
