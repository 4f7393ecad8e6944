-- A board of one slot is the one-slot machine.
use Rattle.std.proofs.Common.{◌≡◌, ◌≢◌, inl, inr, ℕ, ◌+◌, ◌*◌, true, false, List, [], ◌∷◌, ◌++◌, length, map, take, drop, Option, Some, None, eqb, refl, sym, ◌∙◌, ap, subst, arith, length-drop, take-append-drop}
use Rattle.std.specs.Prelude.{MatchOption}
use Rattle.std.specs.List.{slice_get}
use Rattle.std.proofs.lemmas.Bool.Decides.{eqb_tells, nat_tests}
use Rattle.std.proofs.lemmas.List.{take_all, take-take, drop-drop, drop-take, length-set}
use Rattle.std.proofs.lemmas.Option.{slice_get_cases}
use Rattle.sector_cache.specs.Disk.{Disk}
use Rattle.sector_cache.specs.Sector.{extent_of}
use Rattle.block_device.specs.declared.extent.Extent.{Extent}
use Rattle.board.specs.declared.event.Event.{Event}
use Rattle.board.specs.declared.reply.Record.{Record}
use Rattle.board.specs.declared.spec.SlotSpec.{SlotSpec}
use Rattle.board.specs.Extent.{IsApart, outside_of}
use Rattle.board.specs.Fault.{share}
use Rattle.board.specs.Image.{bytes_of}
use Rattle.board.specs.Line.{HadMemory, IsLine, IsQuiet, IsRun, Move, RunsAlone, events_of, own_events, own_records, records_of}
use Rattle.board.specs.Machine.{RunsOnItsOwn}
use Rattle.board.specs.Slot.{BoardSlot, SlotState, opened, state_of, whole_extent}
use Rattle.board.specs.World.{MissingStep, SlotStep, Step, World, bad_slot, extents_of, seen}
use Rattle.board.proofs.Alone.{recorded_slot}
use Rattle.board.proofs.Outside.{extent_apart}
use Rattle.board.proofs.Runs.{line_outside}
use Rattle.replay.specs.OneSlot.{IsMachine, machine, with_extent, with_missing}

-- ---- the image

-- bytes by their parts: before, in and after an extent
parts : (bytes : List ℕ) (from size : ℕ) → bytes ≡ take from bytes
    ++ (take size (drop from bytes) ++ drop (from + size) bytes)
parts bytes from size =
    sym (take-append-drop from bytes)
    ∙ ap (λ (rest : List ℕ). take from bytes ++ rest) (sym (take-append-drop size (drop from bytes))
    ∙ ap (λ (rest : List ℕ). take size (drop from bytes) ++ rest) (drop-drop size from bytes))

-- an extent has no sector before it, and none after it
none_before : (extent : Extent) → IsApart extent (record { start = 0; count = extent.start })
none_before extent sector = grind (arith, nat_tests)

none_after : (extent : Extent) (count : ℕ)
    → IsApart extent (record { start = extent.start + extent.count; count = count })
none_after extent count sector = grind (arith, nat_tests)

before : (extent : Extent) (old new : List ℕ) → outside_of (extent ∷ []) new ≡ outside_of (extent ∷ []) old
    → take (512 * extent.start) new ≡ take (512 * extent.start) old
before extent old new same =
    extent_apart extent (record { start = 0; count = extent.start }) (none_before extent) new old same

after : (extent : Extent) (old new : List ℕ) → outside_of (extent ∷ []) new ≡ outside_of (extent ∷ []) old
    → drop (512 * (extent.start + extent.count)) new ≡ drop (512 * (extent.start + extent.count)) old
after extent old new same =
    let end : ℕ = extent.start + extent.count in
    let count : ℕ = length new + length old in
    sym (take_all (512 * count) (drop (512 * end) new) (omega (arith, length-drop (512 * end) new)))
    ∙ (extent_apart extent (record { start = end; count = count }) (none_after extent count) new old same
    ∙ take_all (512 * count) (drop (512 * end) old) (omega (arith, length-drop (512 * end) old)))

-- where the bytes outside an extent stay, those before it and after it do
pub around : (extent : Extent) (old new : List ℕ)
    → outside_of (extent ∷ []) new ≡ outside_of (extent ∷ []) old
    → new ≡ with_extent old extent (extent_of new extent.start extent.count)
around extent old new same =
    let from : ℕ = 512 * extent.start in
    let size : ℕ = 512 * extent.count in
    let end : from + size ≡ 512 * (extent.start + extent.count) = omega arith in
    parts new from size
    ∙ ap (λ (front : List ℕ). front ++ (take size (drop from new) ++ drop (from + size) new))
    (before extent old new same)
    ∙ ap (λ k. take from old ++ (take size (drop from new) ++ drop k new)) end
    ∙ ap (λ (back : List ℕ). take from old ++ (take size (drop from new) ++ back)) (after extent old new same)

-- ---- the records

-- a list of one has nothing at another place than the first, also where that was replaced
abbrev IsOne : List SlotState → Type 0
IsOne slots = length slots ≡ 1

nothing_at : (slots : List SlotState) (h : ℕ) → IsOne slots → h ≢ 0 → slice_get slots h ≡ None
nothing_at slots h one other =
    elim (slice_get_cases slots h).1 [
      | inl there ↦ absurd (let lt = there.1 in other (omega arith))
      | inr none ↦ none.1
    ]

-- a step leaves as many slots as there were
as_many_at : {A : Type 0} (old : World) (event : Event A) (written : Record A) (new : World)
    (o : Option SlotState) → MatchOption o (MissingStep old event.slot written new)
    (λ s. SlotStep old event.slot s event.what written new) → length new.slots ≡ length old.slots
as_many_at old event written new None step = ap (λ (w : World). length w.slots) step.same
as_many_at old event written new (Some s) step = ap (λ (slots : List SlotState). length slots) step.slots
    ∙ length-set old.slots event.slot step.outcome.state

-- an event of another slot finds none
missed : {A : Type 0} (old : World) (event : Event A) (written : Record A) (after : World) → IsOne old.slots
    → event.slot ≢ 0 → Step old event written after → written ≡ bad_slot event.slot
missed old event written after one other step =
    let none : slice_get old.slots event.slot ≡ None = nothing_at old.slots event.slot one other in
    let taken : MissingStep old event.slot written after =
    subst (λ (o : Option SlotState). MatchOption o (MissingStep old event.slot written after)
    (λ s. SlotStep old event.slot s event.what written after)) none step in
    taken.recorded

-- the records of a line, by those of slot 0
pub told : {A : Type 0} (old : World) (moves : List (Move A)) (new : World) → IsOne old.slots
    → IsLine old moves new → records_of moves
    ≡ with_missing (events_of moves) (own_records 0 (records_of moves))
told old [] new one line = refl
told old (move ∷ moves) new one line =
    let many : IsOne move.after.slots =
    as_many_at old move.event move.written move.after (slice_get old.slots move.event.slot) line.0
    ∙ one in
    let rest = told move.after moves new many line.1 in
    let same = recorded_slot old move.event move.written move.after line.0 in
    elim (eqb_tells move.event.slot 0) [
      | inl is ↦
          let tested : eqb move.written.slot 0 ≡ true = rw same is.0 in
          rw (is.0, tested) (ap (λ ws. move.written ∷ ws) rest)
      | inr is ↦
          let tested : eqb move.written.slot 0 ≡ false = rw same is.0 in
          rw (is.0, tested) (ap (λ w. w ∷ records_of moves)
          (missed old move.event move.written move.after one is.1 line.0)
          ∙ ap (λ ws. bad_slot move.event.slot ∷ ws) rest)
    ]

-- ---- a run

-- a run of sectors by its first ones and those behind them
in_two : (bytes : List ℕ) (start few more : ℕ)
    → extent_of bytes start (few + more) ≡ extent_of bytes start few ++ extent_of bytes (start + few) more
in_two bytes start few more =
    let rest : List ℕ = drop (512 * start) bytes in
    let all : List ℕ = take (512 * few + 512 * more) rest in
    let size : 512 * (few + more) ≡ 512 * few + 512 * more = omega arith in
    let front : take (512 * few) all ≡ take (512 * few) rest =
    take-take (512 * few) (512 * few + 512 * more) rest (omega arith) in
    let back : drop (512 * few) all ≡ extent_of bytes (start + few) more =
    drop-take (512 * few) (512 * more) rest
    ∙ ap (take (512 * more)) (drop-drop (512 * few) (512 * start) bytes ∙ ap (λ k. drop k bytes) (omega arith)) in
    ap (λ k. take k rest) size ∙ sym (take-append-drop (512 * few) all)
    ∙ ap (λ xs. xs ++ drop (512 * few) all) front ∙ ap (λ xs. take (512 * few) rest ++ xs) back

-- the one slot that is left of a board of one
last_state : (last : List BoardSlot) (bytes : List ℕ) (extent : Extent) (state : SlotState)
    → extents_of last ≡ extent ∷ [] → slice_get (map (state_of bytes) last) 0 ≡ Some state
    → extent_of bytes extent.start extent.count ≡ state.extent ++ state.spare_bytes
last_state [] bytes extent state there is = absurd cc
last_state (slot ∷ slots) bytes extent state there is =
    let place : whole_extent slot ≡ extent = cc there in
    let first : state_of bytes slot ≡ state = cc is in
    ap (λ (e : Extent). extent_of bytes e.start e.count) (sym place)
    ∙ in_two bytes slot.extent.start slot.extent.count slot.spare
    ∙ ap (λ (s : SlotState). s.extent ++ s.spare_bytes) first

pub one_slot : {A : Type 0} (spec : SlotSpec) (old new : Disk) (last : List BoardSlot)
    (events : List (Event A)) (records : List (Record A))
    → IsRun (seen (map opened (spec ∷ [])) old) (seen last new) events [] records
    → extents_of last ≡ share spec ∷ [] → new.failures ≡ old.failures → HadMemory 0 records
    → IsMachine spec (bytes_of old) (bytes_of new) events records
one_slot {A} spec old new last events records run place stood had =
    let first : World = seen (map opened (spec ∷ [])) old in
    let state = machine spec (bytes_of old) in
    let quiet : IsQuiet 0 first run.moves = run.quiet stood 0 (subst (HadMemory 0) run.records_are had) in
    let alone : RunsAlone 0 state run.moves (seen last new) = run.alone 0 quiet state refl in
    let stayed : outside_of (extents_of last) (bytes_of new) ≡ outside_of (share spec ∷ []) (bytes_of old) =
    line_outside first run.moves (seen last new) run.line in
    let same = ap (λ es. outside_of es (bytes_of new)) (sym place) ∙ stayed in
    let extent_is = last_state last (bytes_of new) (share spec) alone.last place alone.state_after in
    let own : List (Record A) = own_records 0 (records_of run.moves) in
    record {
      own = own;
      last = alone.last;
      ran = subst (λ (es : List (Event A)). RunsOnItsOwn 0 state (own_events 0 es) own alone.last)
          run.events_are alone.own;
      told = run.records_are ∙ (told first run.moves (seen last new) refl run.line
          ∙ ap (λ (es : List (Event A)). with_missing es own) run.events_are);
      image = around (share spec) (bytes_of old) (bytes_of new) same
          ∙ ap (with_extent (bytes_of old) (share spec)) extent_is;
    }
