-- A guest that was restored goes on as the one that was saved would have.
use Rattle.std.proofs.Common.{◌≡◌, ◌∙◌, inl, inr, ℕ, Bool, true, false, List, [], ◌∷◌, ◌++◌, map, Option, Some, None, refl, sym, ap, subst}
use Rattle.std.specs.Prelude.{drop, take, false, true}
use Rattle.std.specs.List.{slice_get}
use Rattle.std.specs.Option.{option_map}
use Rattle.std.proofs.lemmas.Option.{same_Some}
use Rattle.std.proofs.Math.Seq.{take-append_seam}
use Rattle.snapshot.proofs.OfSlot.{snapshot_once}
use Rattle.board.specs.declared.event.Event.{Event}
use Rattle.board.specs.declared.event.EventKind.{EventKind}
use Rattle.board.specs.declared.event.EventKind.TheVariants.{Restore}
use Rattle.board.specs.declared.reply.Record.{Record}
use Rattle.board.specs.declared.reply.Reply.TheVariants.{Done}
use Rattle.hosted_disk.specs.Disk.{HostedDisk}
use Rattle.board.specs.Backing.{KeepsHost, held_disk, is_held}
use Rattle.board.specs.Hosting.{OwnGives, waits_now}
use Rattle.board.specs.Image.{Health}
use Rattle.board.specs.Line.{IsLine, IsQuiet, Move, events_of, own_events, own_records, records_of}
use Rattle.board.specs.Machine.{IsToldAlone, RunsOnItsOwn}
use Rattle.board.specs.Moving.{HasBytesOf, MovesTo, RanOnBoth, as_of}
use Rattle.board.specs.Outcome.{Outcome}
use Rattle.device_list.specs.List.{are_at_work}
use Rattle.device_list.specs.Waiting.{AreMadeAlike}
use Rattle.board.specs.Restoring.{IsTakenUp, RestoresUnless, slot_in}
use Rattle.board.specs.Saved.{IsAs, IsLike, IsSavedTo, IsSnapshotOf, Suits, SuitsBesideDevices, saved_slot, snapshot_of}
use Rattle.board.specs.Slot.{BoardSlot, SlotState, state_of}
use Rattle.board.specs.World.{MayGiveBy, MayGiveOverImage, SlotStep, Step, World}
use Rattle.board.proofs.Alone.{alone, get_set, slot_step}
use Rattle.board.proofs.SavedDevices.{devices_back, like_made}
use Rattle.board.proofs.Saving.{Said, as_saved, said_in, said_of}
use Rattle.board.proofs.Steps.{answers_join}

-- ---- a restore that is done was taken up

restoring_done : {A : Type 0} (works : Bool) (state : SlotState) (bytes : List ℕ) (outcome : Outcome A)
    → RestoresUnless works state bytes outcome → outcome.reply ≡ Done → IsTakenUp state bytes outcome.state
restoring_done {A} true state bytes outcome h done = let told = ap (λ (o : Outcome A). o.reply) h in absurd (cc)
restoring_done false state bytes outcome (inl taken) done = taken.0
restoring_done {A} false state bytes outcome (inr refused) done =
    let told = ap (λ (o : Outcome A). o.reply) refused.1 in absurd (cc)

done_over_image : {A : Type 0} (state : SlotState) (bytes : List ℕ) (before after : Health) (outcome : Outcome A)
    → MayGiveOverImage state (Restore bytes) before after outcome → outcome.reply ≡ Done
    → IsTakenUp state bytes outcome.state
done_over_image state bytes before after outcome (inl served) done =
    restoring_done (are_at_work state.devices) state bytes outcome served.alike.alike done
done_over_image state bytes before after outcome (inr refused) done = absurd refused

done_beside : {A : Type 0} (waits : Bool) (state : SlotState) (bytes : List ℕ) (health : Health)
    (outcome : Outcome A)
    → OwnGives (λ o. MayGiveOverImage state (Restore bytes) health health o) waits state (Restore bytes) outcome
    → outcome.reply ≡ Done → IsTakenUp state bytes outcome.state
done_beside false state bytes health outcome gives done =
    done_over_image state bytes health health outcome gives done
done_beside {A} true state bytes health outcome gives done =
    let told = ap (λ (o : Outcome A). o.reply) gives in absurd (cc)

done_by : {A : Type 0} (host : Option HostedDisk) (state : SlotState) (bytes : List ℕ) (before after : Health)
    (outcome : Outcome A) → MayGiveBy host state (Restore bytes) before after outcome → outcome.reply ≡ Done
    → IsTakenUp state bytes outcome.state
done_by None state bytes before after outcome given done =
    done_over_image state bytes before after outcome given done
done_by {A} (Some disk) state bytes before after outcome given done =
    done_beside (waits_now {A = A} (Restore bytes) state.host) state bytes before outcome given.gives done

-- ---- and it brings the slot into the state in which it was saved

-- a slot of this description
like_saved : (saved other : BoardSlot) → SuitsBesideDevices (saved_slot saved) other → other.memory ≡ saved.memory
    → AreMadeAlike saved.devices other.devices → IsLike saved other
like_saved saved other suits memory devices = record {
  memory = rw memory (record { base = refl; size = refl; gaps = refl });
  sectors = sym suits.sectors;
  read_only = sym suits.read_only;
  identity = sym suits.identity;
  devices = like_made saved.devices other.devices devices;
  on_hold = suits.on_hold;
}

-- the disk on hold as the saved one was
host_back : (saved host : Option HostedDisk) → KeepsHost saved host → option_map (held_disk (is_held saved)) host ≡ saved
host_back None None is = refl
host_back (Some disk) None is = absurd (cc is)
host_back None (Some disk) is = absurd (cc is)
host_back (Some disk) (Some other) is =
    ap (λ (d : HostedDisk). Some (held_disk disk.on_hold d)) (same_Some (held_disk false other) (held_disk false disk) is)

-- what a guest sees of a slot whose disk has these bytes
abbrev seen_in : List ℕ → List ℕ → BoardSlot → SlotState
seen_in extent spare_bytes slot = record (state_of [] slot) { extent = extent; spare_bytes = spare_bytes }

as_left : (saved : BoardSlot) (bytes : List ℕ) (state new : SlotState) → HasBytesOf saved bytes state
    → IsSnapshotOf (snapshot_of saved) saved → IsTakenUp state (snapshot_of saved) new
    → new ≡ state_of bytes saved
as_left saved bytes state new has text taken =
    let read = taken.restored in
    let same : said_of read.saved read.pending read.waiting ≡ said_in saved =
    snapshot_once _ _ _ _ _ _ _ read.read text.spelled in
    let suits : Suits (saved_slot saved) (slot_in state) =
    subst (λ (x : Said). Suits x.0 (slot_in state)) same read.takes_up.suits in
    let is : IsAs saved (slot_in state) (slot_in new) =
    as_saved saved (slot_in state) (slot_in new) (snapshot_of saved) (said_of read.saved read.pending read.waiting) text
    (like_saved saved (slot_in state) suits.beside has.memory has.devices) same read.takes_up in
    ap (λ (slot : BoardSlot). seen_in new.extent new.spare_bytes slot) is
    ∙ rw (
      taken.extent,
      taken.spare,
      has.memory,
      has.extent,
      has.spare,
      has.spare_bytes,
      host_back saved.host state.host has.host,
      devices_back saved.devices state.devices has.devices,
    ) refl

-- the front of the buffer is the snapshot
front_is : (saved : BoardSlot) (buffer text : List ℕ) (len : ℕ) → IsSavedTo saved buffer text len
    → take len text ≡ snapshot_of saved
front_is saved buffer text len kept =
    ap (take len) kept.text ∙ (ap (λ n. take n (snapshot_of saved ++ drop len buffer)) kept.len_is
    ∙ take-append_seam (snapshot_of saved) (drop len buffer))

pub state_again : {A : Type 0} (h : ℕ) (saved : BoardSlot) (bytes : List ℕ) (old : World) (restore : Move A)
    → MovesTo h saved bytes old restore → slice_get restore.after.slots h ≡ Some (state_of bytes saved)
state_again {A} h saved bytes old restore moves =
    let event : restore.event ≡ record { slot = h; what = Restore (snapshot_of saved) } =
    moves.event_is ∙ ap (λ (front : List ℕ). record { slot = h; what = Restore front })
    (front_is saved moves.buffer moves.text moves.len moves.is_saved) in
    let taken : Step old (record { slot = h; what = Restore (snapshot_of saved) }) restore.written restore.after =
    subst (λ (e : Event A). Step old e restore.written restore.after) event moves.step in
    let step : SlotStep old h moves.state (Restore (snapshot_of saved)) restore.written restore.after =
    slot_step old (record { slot = h; what = Restore (snapshot_of saved) }) restore.written restore.after
    moves.state moves.there taken in
    let done : step.outcome.reply ≡ Done = sym (ap (λ (w : Record A). w.reply) step.recorded) ∙ moves.done in
    let up : IsTakenUp moves.state (snapshot_of saved) step.outcome.state =
    done_by moves.state.host moves.state (snapshot_of saved) old.health restore.after.health step.outcome step.given
    done in
    ap (λ (slots : List SlotState). slice_get slots h) step.slots
    ∙ (get_set old.slots h moves.state step.outcome.state moves.there
    ∙ ap (λ (s : SlotState). Some s)
    (as_left saved bytes moves.state step.outcome.state moves.has moves.is_saved.snapshot up))

-- ---- and from there on it is told what it would be told in a slot of any number

told_as : {A : Type 0} (g h : ℕ) (state last : SlotState) (events : List (EventKind A)) (records : List (Record A))
    → RunsOnItsOwn h state events records last → RunsOnItsOwn g state events (map (as_of g) records) last
told_as g h state last [] [] own = own
told_as g h state last [] (written ∷ records) own = absurd own
told_as g h state last (what ∷ events) [] own = absurd own
told_as {A} g h state last (what ∷ events) (written ∷ records) own =
    let told = own.1 in (
      own.0,
      record {
        outcome = told.outcome;
        is_next = told.is_next;
        recorded = ap (as_of g) told.recorded;
        left = told.left;
      },
      told_as g h own.0 last events records own.2,
    )

pub ran_on_both : {A : Type 0} (g h : ℕ) (state : SlotState) (saved : BoardSlot) (bytes : List ℕ)
    (old new old' new' : World) (restore : Move A) (moves moves' : List (Move A))
    → IsLine old moves new → IsQuiet g old moves → slice_get old.slots g ≡ Some state
    → slice_get new.slots g ≡ Some (state_of bytes saved) → MovesTo h saved bytes old' restore
    → IsLine restore.after moves' new' → IsQuiet h restore.after moves' → RanOnBoth g state moves h moves' new'
ran_on_both {A} g h state saved bytes old new old' new' restore moves moves' line quiet there left over line' quiet' =
    let first = alone g old moves new line quiet state there in
    let second = alone h restore.after moves' new' line' quiet' (state_of bytes saved)
    (state_again h saved bytes old' restore over) in
    let met : Some (state_of bytes saved) ≡ Some first.last = sym left ∙ first.state_after in
    let same : state_of bytes saved ≡ first.last = cc met in
    record {
      last = second.last;
      own = answers_join (IsToldAlone g) state first.last second.last (own_events g (events_of moves))
          (own_events h (events_of moves')) (own_records g (records_of moves))
          (map (as_of g) (own_records h (records_of moves'))) first.own
          (subst (λ (s : SlotState). RunsOnItsOwn g s (own_events h (events_of moves'))
          (map (as_of g) (own_records h (records_of moves'))) second.last) same
          (told_as g h (state_of bytes saved) second.last (own_events h (events_of moves'))
          (own_records h (records_of moves')) second.own));
      state_after = second.state_after;
    }
