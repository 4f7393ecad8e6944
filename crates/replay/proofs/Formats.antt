-- Two traces that differ in their format alone are replayed alike.
use Rattle.std.proofs.Common.{◌≡◌, ◌≢◌, ◌∙◌, ℕ, List, map, Option, Some, Result, Ok, Err, refl, sym, subst, arith, inl, inr}
use Rattle.std.specs.Prelude.{All}
use Rattle.sector_cache.specs.Disk.{Disk}
use Rattle.board.specs.declared.event.Event.{Event}
use Rattle.board.specs.declared.fault.BoardFault.{BoardFault}
use Rattle.board.specs.declared.spec.SlotSpec.{SlotSpec}
use Rattle.board.specs.Fault.{IsAccepted, Refuses}
use Rattle.trace.specs.declared.fault.TraceFault.{TraceFault}
use Rattle.replay.specs.declared.fault.ReplayFault.{ReplayFault}
use Rattle.replay.specs.declared.fault.ReplayFault.TheVariants.{Read, Trace, Board, Run, Write, NoMemory}
use Rattle.replay.specs.Limits.{IsSmallMemory, asked_of_board}
use Rattle.replay.specs.Replay.{AfterRun, HasTooMany, Plays, RefusesBoard, RefusesBoardOf, RefusesTrace, Replays}
use Rattle.trace.specs.Reading.{IsTraceOf}
use Rattle.trace.specs.declared.format.Format.{Format}
use Rattle.trace.specs.declared.format.Format.TheVariants.{Plain, Extended}
use Rattle.trace.specs.declared.format.Version.{Version}
use Rattle.trace.specs.declared.format.Version.TheVariants.{One, Two}
use Rattle.trace.specs.Format.{GoesInto}
use Rattle.trace.specs.Text.{Content, as_format, text}
use Rattle.replay.proofs.Limiting.{all_asked}
use Rattle.trace.proofs.Sofar.{Fits}
use Rattle.trace.proofs.Unique.{no_fault, one_trace, text_clean}
use Rattle.trace.proofs.Formats.{first_is_1, fits_format}

-- it has a text, and its format doesn't refuse its slots
pub record MayReplay {A : Type 0} (t : Content A) : Type 0 where
  pub fits : Fits t
  pub few : ¬ HasTooMany t

pub as_format_may : {A : Type 0} (format : Format) (t : Content A) → GoesInto t.format format → MayReplay t
    → MayReplay (as_format format t)
as_format_may format t goes h = record {
  fits = record {
    range = record { cache = h.fits.range.cache; slots = h.fits.range.slots; events = h.fits.range.events };
    printable = fits_format format t goes h.fits.printable;
  };
  few = λ many. h.few (record {
    version = first_is_1 t.format format goes many.version;
    many = many.many;
  });
}

-- ---- what a board is asked for in two formats

-- the same, and memories that are small in the one are small in the other
pub record AsksAlike (old new : Format) (slots : List SlotSpec) : Type 0 where
  pub asked : map (asked_of_board old) slots ≡ map (asked_of_board new) slots
  pub small : All (IsSmallMemory old) slots → All (IsSmallMemory new) slots

-- memories that are small by the limits of both
by_small : (old new : Format) (slots : List SlotSpec) → All (IsSmallMemory old) slots
    → All (IsSmallMemory new) slots → AsksAlike old new slots
by_small old new slots small_old small_new = record {
  asked = all_asked old slots small_old ∙ sym (all_asked new slots small_new);
  small = λ h. small_new;
}

-- a memory that is small in a plain trace is small in an extended one
plain_small : (version : Version) (slots : List SlotSpec) → All (IsSmallMemory (Plain version)) slots
    → All (IsSmallMemory Extended) slots
plain_small version slots h = λ k d lt. omega (arith, h k d lt)

pub asked_alike : (old new : Format) (slots : List SlotSpec) → GoesInto old new
    → (old ≢ Extended → new ≡ Extended → All (IsSmallMemory old) slots)
    → AsksAlike old new slots × AsksAlike new old slots
asked_alike (Plain v) (Plain w) slots goes small =
    (record { asked = refl; small = λ h. h }, record { asked = refl; small = λ h. h })
asked_alike (Plain v) Extended slots goes small =
    let own = small (λ e. absurd cc) refl in
    let wide = plain_small v slots own in
    (by_small (Plain v) Extended slots own wide, by_small Extended (Plain v) slots wide own)
asked_alike Extended (Plain One) slots goes small = absurd cc
asked_alike Extended (Plain Two) slots goes small = absurd (goes refl)
asked_alike Extended Extended slots goes small =
    (record { asked = refl; small = λ h. h }, record { asked = refl; small = λ h. h })

-- ---- what comes of both

is_trace : {A : Type 0} (t : Content A) → Fits t → IsTraceOf (text t) t
is_trace t h = record {
  found = refl;
  range = h.range;
  printable = h.printable;
  only = λ u range printable is. one_trace u t (record { range = range; printable = printable }) h (sym is);
}

-- the trace that was read of a text is the one whose text it is
read_is : {A : Type 0} (t read : Content A) → Fits t → IsTraceOf (text t) read → read ≡ t
read_is t read h is = sym (is.only t h.range h.printable refl)

-- two traces with the same cache, slots and events
module _ {A I : Type 0} (disk : I → Disk) (old new : Option (List ℕ)) (before after : I) (v w : Format)
    (cache : ℕ) (slots : List SlotSpec) (events : List (Event A)) where
  abbrev one : Content A
  one = record { format = v; cache = cache; slots = slots; events = events }

  abbrev other : Content A
  other = record { format = w; cache = cache; slots = slots; events = events }

  plays : MayReplay one → MayReplay other → AsksAlike v w slots → (outcome : Result (Unit {0}) ReplayFault)
      → Plays A disk (Some (text one)) old new before after outcome
      → Plays A disk (Some (text other)) old new before after outcome
  plays first second same outcome p =
      let is = read_is one p.trace first.fits p.read in
      record {
        trace = other;
        read = is_trace other second.fits;
        few = second.few;
        small = same.small (subst (λ (t : Content A). All (IsSmallMemory t.format) t.slots) is p.small);
        accepted = subst (λ (t : Content A). IsAccepted (disk before).sector_count t.slots
            t.cache) is p.accepted;
        ended = subst (λ (t : Content A). AfterRun disk t.slots t.events before after old new
            outcome) is p.ended;
      }

  refused : MayReplay one → MayReplay other → AsksAlike v w slots → (fault : BoardFault)
      → RefusesBoard A disk (Some (text one)) old new before after fault
      → RefusesBoard A disk (Some (text other)) old new before after fault
  refused first second same fault p =
      let is = read_is one p.trace first.fits p.read in
      record {
        untouched = p.untouched;
        trace = other;
        read = is_trace other second.fits;
        refused = elim (subst (λ (t : Content A). RefusesBoardOf (disk before).sector_count t
            fault) is p.refused) [
              | inl many ↦ absurd (first.few many.0)
              | inr own ↦ inr (
                second.few,
                subst (λ (asked : List SlotSpec). Refuses (disk before).sector_count asked cache
                    fault) same.asked own.1,
              )
            ];
      }

  -- only memory may have been wanting
  unread : MayReplay one → MayReplay other → (fault : TraceFault)
      → RefusesTrace A (Some (text one)) old new before after fault
      → RefusesTrace A (Some (text other)) old new before after fault
  unread first second fault p =
      let numbered = p.fault_is.numbered in
      record {
        untouched = p.untouched;
        fault_is = record {
          named = λ known. absurd (no_fault (text one) one fault.line fault.kind first.fits refl
              (p.fault_is.named known));
          none = λ known. absurd (no_fault (text one) one fault.line fault.kind first.fits refl
              (p.fault_is.named known));
          numbered = numbered;
          clean = text_clean other fault.line second.fits;
        };
      }

  pub alike : MayReplay one → MayReplay other → AsksAlike v w slots
      → (outcome : Result (Unit {0}) ReplayFault)
      → Replays A disk (Some (text one)) old new before after outcome
      → Replays A disk (Some (text other)) old new before after outcome
  alike first second same (Ok done) h = plays first second same (Ok done) h
  alike first second same (Err Read) h = h
  alike first second same (Err (Trace fault)) h = unread first second fault h
  alike first second same (Err (Board fault)) h = refused first second same fault h
  alike first second same (Err (Run done)) h = plays first second same (Err (Run done)) h
  alike first second same (Err Write) h = plays first second same (Err Write) h
  alike first second same (Err NoMemory) h = plays first second same (Err NoMemory) h
