-- What an embedder does to a slot between events, as the step of that event.
use Rattle.std.proofs.Common.{◌≡◌, inl, ℕ, Bool, true, false, ◌||◌, nat_lt, arith, List, [], length, MutBor, None, Some, refl, sym, ◌∙◌, ap}
use Rattle.std.specs.Prelude.{Err, IsSomeAnd, Ok, OnErr, Result, slice_set}
use Rattle.std.specs.Bool.{OnTrue}
use Rattle.std.specs.List.{IsItemAtMut, slice_get}
use Rattle.std.proofs.Math.Seq.{map-set_same}
use Rattle.std.proofs.lemmas.Bool.Decides.{nat_tests}
use Rattle.std.proofs.lemmas.Option.{get_or_from_slice_get, slice_get-map}
use Rattle.guest_memory.specs.Memory.{is_inside, stored}
use Rattle.board.specs.declared.event.SlotWindow.{SlotWindow}
use Rattle.sector_cache.specs.Disk.{Disk, IsWhole}
use Rattle.board.specs.declared.event.EventKind.{EventKind}
use Rattle.board.specs.declared.event.EventKind.TheVariants.{MemWrite}
use Rattle.board.specs.declared.reply.Reply.{Reply}
use Rattle.board.specs.declared.reply.Reply.TheVariants.{BadSlot, Done}
use Rattle.board.specs.Extent.{AreSound}
use Rattle.board.specs.Image.{Tells, bytes_of, health_of, sectors_of}
use Rattle.board.specs.Machine.{block_irq, console_irq, register}
use Rattle.board.specs.Outcome.{replies}
use Rattle.board.specs.Quiet.{AnswersQuietly}
use Rattle.board.specs.Slot.{BoardSlot, state_of}
use Rattle.board.specs.World.{Answers, BoardState, KeepsOthers, disturbed_of, extents_of, seen, world_of}
use Rattle.board.proofs.Blocks.{count_of}
use Rattle.board.proofs.Hosts.{no_part, no_wait}
use Rattle.board.proofs.Lists.{is_there, not_there, others_kept, set_same}
use Rattle.board.proofs.Noted.{had_memory}
use Rattle.board.proofs.OnHost.{passes_by}
use Rattle.board.proofs.Runs.{answered}
use Rattle.board.proofs.Whole.{whole}
use Rattle.board.proofs.Seats.{extents_of-set, handles, handles_missing, own_within, slot_within}

-- where a slot keeps its note of refusals, all do
pub disturbed_kept : (slots : List BoardSlot) (h : ℕ) (slot new : BoardSlot) → slice_get slots h ≡ Some slot
    → new.disturbed ≡ slot.disturbed → disturbed_of (slice_set slots h new) ≡ disturbed_of slots
disturbed_kept slots h slot new here same =
    map-set_same (λ (s : BoardSlot). s.disturbed) slots h new slot (same
    ∙ ap (λ (s : BoardSlot). s.disturbed) (sym (get_or_from_slice_get slots h slot slot here)))

-- where the image failed no more often, nothing is noted
unmet : (b : Bool) (n : ℕ) → b ≡ (b || (false || nat_lt n n))
unmet true n = refl
unmet false n = grind (arith, nat_tests)

-- What a call leaves of the board that answers a slot's event so, in which the image has no part.
pub record LeavesQuietly {I A : Type 0} (disk : I → Disk) (old : BoardState I) (h : ℕ) (what : EventKind A)
    (reply : Reply A) (new : BoardState I) : Type 0 where
  pub step : Tells (disk old.image)
      → Answers (world_of disk old) (record { slot = h; what = what }) reply [] [] (world_of disk new)
  pub others : KeepsOthers h old.slots new.slots
  pub extents : extents_of new.slots ≡ extents_of old.slots
  pub image : new.image ≡ old.image
  pub disturbed : disturbed_of new.slots ≡ disturbed_of old.slots

pub leaves_quietly : {I A : Type 0} (disk : I → Disk) (slots : List BoardSlot) (image : I) (h : ℕ)
    (found : MutBor BoardSlot) (new : BoardSlot) (what : EventKind A) (reply : Reply A) (old : BoardState I)
    → IsWhole (disk image) → AreSound (disk image).sector_count (extents_of slots)
    → IsItemAtMut slots h (Some found) → ◌≡◌ {A = BoardState I} (record { slots = slots; image = image }) old
    → AnswersQuietly found.now what new reply
    → LeavesQuietly disk old h what reply (record { slots = slice_set slots h new; image = image })
leaves_quietly {A = A} disk slots image h found new what reply old whole sound item is does =
    let slot = found.now in
    let here = is_there slots h found item in
    let before = disk image in
    let shown = state_of (bytes_of before) new in
    rw (← is)
    (record {
      step = λ tells.
          answered
          (handles slots before before (record { slot = h; what = what }) slot new reply (block_irq shown)
          (console_irq shown) [] []
          sound.apart here does.place (does.disturbed ∙ (unmet slot.disturbed before.failures
          ∙ ap (λ (b : Bool). slot.disturbed || (b || nat_lt before.failures before.failures))
          (sym (had_memory reply does.answered)))) refl
          (record {
            output = [];
            given = does.given (bytes_of before) (health_of before)
                (count_of slot.extent before tells whole
                (own_within before.sector_count slot (slot_within before.sector_count slots h slot sound.within here)));
            appended = refl;
          }) refl refl);
      others = λ other differ. others_kept slots h new other differ;
      extents = extents_of-set slots h slot new here does.place;
      image = refl;
      disturbed = disturbed_kept slots h slot new here does.disturbed;
    })

-- and where there is no such slot
pub answers_missing : {I A : Type 0} (disk : I → Disk) (slots : List BoardSlot) (image : I) (h : ℕ)
    (what : EventKind A) (old : BoardState I) → IsItemAtMut slots h None
    → ◌≡◌ {A = BoardState I} (record { slots = slots; image = image }) old
    → Answers (world_of disk old) (record { slot = h; what = what }) BadSlot [] []
    (world_of disk (record { slots = slots; image = image }))
answers_missing disk slots image h what old item is =
    rw (← is)
    (answered (handles_missing slots (disk image) (record { slot = h; what = what }) [] (not_there slots h item)))

-- a slot answers a write of bytes that fit its memory, which were put there
put_quietly : (A : Type 0) (slot new : BoardSlot) (addr : ℕ) (bytes : List ℕ)
    → true ≡ is_inside slot.memory addr (length bytes)
    → new ≡ record slot { memory = stored slot.memory addr bytes }
    → AnswersQuietly {A = A} slot (MemWrite addr bytes) new Done
put_quietly A slot new addr bytes test is = record {
  given = λ image health filled.
      passes_by slot.host (state_of image slot) (MemWrite addr bytes) health (replies (state_of image new) Done)
      (no_part slot.host (MemWrite addr bytes) (state_of image slot) refl (no_wait _) refl)
      (inl (record {
        alike = record { alike = rw (← test, is) refl; image = refl };
        answered = λ lacks. absurd (cc);
        failures = refl;
      }));
  place = (ap (λ (s : BoardSlot). s.extent) is, ap (λ (s : BoardSlot). s.spare) is);
  disturbed = ap (λ (s : BoardSlot). s.disturbed) is;
  answered = λ lacks. absurd (cc);
}

-- and so does the board
pub bytes_put : {I : Type 0} (A : Type 0) (disk : I → Disk) (slots : List BoardSlot) (image : I) (h : ℕ)
    (found : MutBor BoardSlot) (new : BoardSlot) (addr : ℕ) (bytes : List ℕ) (done : Bool) (old : BoardState I)
    → IsWhole (disk image) → AreSound (disk image).sector_count (extents_of slots)
    → IsItemAtMut slots h (Some found) → ◌≡◌ {A = BoardState I} (record { slots = slots; image = image }) old
    → done ≡ is_inside found.now.memory addr (length bytes)
    → OnTrue done (new ≡ record found.now { memory = stored found.now.memory addr bytes })
    → Tells (disk old.image)
    → OnTrue done
    (Answers {A = A} (world_of disk old) (record { slot = h; what = MemWrite addr bytes }) Done [] []
    (world_of disk (record { slots = slice_set slots h new; image = image })))
bytes_put A disk slots image h found new addr bytes false old whole sound item view test is tells = _
bytes_put A disk slots image h found new addr bytes true old whole sound item view test is tells =
    (leaves_quietly disk slots image h found new (MemWrite addr bytes) Done old whole sound item view
    (put_quietly A found.now new addr bytes test is)).step tells

-- and bytes that were put stand in that slot's memory, and every other slot stays
pub bytes_stand : (slots : List BoardSlot) (h : ℕ) (slot new : BoardSlot) (addr : ℕ)
    (bytes : List ℕ) (done : Bool) →
    slice_get slots h ≡ Some slot → OnTrue done (new ≡ record slot { memory = stored slot.memory addr bytes }) →
    OnTrue done (IsSomeAnd (slice_get slots h) (λ found. slice_set slots h new
    ≡ slice_set slots h (record found { memory = stored found.memory addr bytes })))
bytes_stand slots h slot new addr bytes false here is = _
bytes_stand slots h slot new addr bytes true here is =
    rw here (ap (λ (s : BoardSlot). slice_set slots h s) is)

-- what a register of a slot gives
pub register_at : (slots : List BoardSlot) (disk : Disk) (h : ℕ) (slot : BoardSlot) (window : SlotWindow)
    (offset width value : ℕ) → Tells disk → IsWhole disk → AreSound disk.sector_count (extents_of slots)
    → slice_get slots h ≡ Some slot
    → ((bytes : List ℕ) → sectors_of (state_of bytes slot).extent ≡ slot.extent.count
    → value ≡ register (state_of bytes slot) window offset width)
    → IsSomeAnd (slice_get (seen slots disk).slots h) (λ state. value ≡ register state window offset width)
register_at slots disk h slot window offset width value tells whole sound here is =
    rw (slice_get-map (state_of (bytes_of disk)) slots h, here)
    (is (bytes_of disk) (count_of slot.extent disk tells whole (own_within disk.sector_count slot
    (slot_within disk.sector_count slots h slot sound.within here))))

-- what was refused left the slot as it was, and so it left the board
pub kept_board : {I T E : Type 0} (result : Result T E) (slots : List BoardSlot) (image : I) (h : ℕ)
    (slot new : BoardSlot) (before : BoardState I) → slice_get slots h ≡ Some slot
    → ◌≡◌ {A = BoardState I} (record { slots = slots; image = image }) before
    → OnErr result (new ≡ slot)
    → OnErr result (◌≡◌ {A = BoardState I} (record { slots = slice_set slots h new; image = image }) before)
kept_board (Ok done) slots image h slot new before here is same = tt
kept_board (Err why) slots image h slot new before here is same = rw (set_same slots h slot new here same) is
