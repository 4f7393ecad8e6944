-- What a guest was told OK of is on the medium of a host that keeps its word.
use Rattle.std.proofs.Common.{◌≡◌, ◌≢◌, ◌↔◌, inl, inr, ◌<◌, ℕ, zero, suc, ◌+◌, ◌-◌, true, false, Option, Some, None, List, [], ◌∷◌, ◌++◌, length, take, drop, get_or, map, refl, sym, ap, subst, ◌∙◌, arith}
use Rattle.std.specs.List.{slice_get}
use Rattle.std.specs.Option.{option_and_then}
use Rattle.std.specs.Prelude.{is_some}
use Rattle.std.proofs.lemmas.Bool.Decides.{eqb_tells}
use Rattle.std.proofs.lemmas.Option.{same_Some}
use Rattle.guest_memory.specs.Memory.{Inside, Memory, part_of, put}
use Rattle.guest_memory.proofs.Ranges.{put_bytes}
use Rattle.chain.specs.Service.{Served, ServesChain, Site}
use Rattle.chain.specs.Bytes.{readable_of, writable_of}
use Rattle.sector_cache.specs.Disk.{Disk}
use Rattle.mmio_window.specs.declared.queue.Queue.{Queue}
use Rattle.mmio_window.specs.Queue.{queue_kind}
use Rattle.mmio_window.specs.Window.{queue_at}
use Rattle.block_device.specs.declared.device.BlockDevice.{BlockDevice}
use Rattle.block_device.specs.declared.operation.Verdict.{Verdict}
use Rattle.block_device.specs.declared.operation.Verdict.TheVariants.{Done, Failed}
use Rattle.block_device.specs.declared.request.Request.{Request}
use Rattle.block_device.specs.declared.request.Request.TheVariants.{Rejected, Read, Write, Flush, GetId, WriteZeroes}
use Rattle.block_device.specs.declared.request.RequestStatus.TheVariants.{Success}
use Rattle.block_device.specs.Asking.{EndsUnasked, asks_image, status_by, unasked_device}
use Rattle.block_device.specs.Device.{GivesBy}
use Rattle.block_device.specs.Durable.{Completion, IsCommitted, IsUnwritten, KeepsWordIn, Medium, ends_by_flush}
use Rattle.block_device.specs.Flights.{InFlight, LandsBy}
use Rattle.block_device.specs.Tags.{is_any}
use Rattle.block_device.specs.Request.{code_of, request_of}
use Rattle.block_device.proofs.Durable.{word_lasts}
use Rattle.board.specs.declared.event.EventKind.{EventKind}
use Rattle.block_device.specs.declared.operation.HostEvent.{HostEvent}
use Rattle.block_device.specs.declared.operation.HostEvent.TheVariants.{Complete, Drop, Hold, Release}
use Rattle.board.specs.declared.reply.Record.{Record}
use Rattle.board.specs.HostedDisks.{LeavesTagOf, said_of}
use Rattle.board.specs.Units.{DiskUnit, DoesAsSaid, SlotDisk, in_flight_of, unit_at, unit_queue}
use Rattle.board.specs.Hosting.{tag_of}
use Rattle.board.specs.Image.{Health}
use Rattle.board.specs.Lasting.{Becomes, Completed, GivenUp, HasCourse, IsAnswered, IsCourse, Passage, Standing, Stays, behind, behind_all, completed, completed_in, completions, covers, said_by}
use Rattle.board.specs.Line.{IsLine, MayBeTold, Move}
use Rattle.board.specs.Outcome.{Outcome}
use Rattle.board.specs.Slot.{SlotState}
use Rattle.board.specs.Steps.{IsAnsweredBy}
use Rattle.board.specs.World.{MayGive, World}
use Rattle.board.proofs.Alone.{alone_as_it_may}
use Rattle.board.proofs.Honest.{given_back}
use Rattle.board.proofs.HostedDisks.{says}
use Rattle.board.proofs.Units.{found, unit_tags}
use Rattle.board.proofs.Waiting.{outlasts}

-- ---- what is served at once

-- a request that asks the disk for nothing doesn't end by a flush
unflushed : (request : Request) → asks_image request ≡ false → ends_by_flush request ≡ true → ⊥
unflushed (Rejected status) unasked ends = absurd (cc ends)
unflushed (Read sector count) unasked ends = absurd (cc ends)
unflushed (Write sector count) unasked ends = absurd (cc unasked)
unflushed Flush unasked ends = absurd (cc unasked)
unflushed GetId unasked ends = absurd (cc ends)
unflushed (WriteZeroes segments) unasked ends = absurd (cc unasked)

pub never_at_once : (device : BlockDevice) (site : Site Queue Disk) (served : Served Disk)
    → ServesChain queue_kind (unasked_device device) site served → ¬ IsCommitted device site.memory served
never_at_once device site served serves committed =
    let readable = readable_of site.memory served.buffers in
    let all : length (writable_of served.buffers) ≡ suc committed.room = omega (arith, committed.all) in
    let gives : GivesBy (EndsUnasked device.identity) device site.state readable (suc committed.room) served.given =
    subst (λ (w : ℕ). GivesBy (EndsUnasked device.identity) device site.state readable w served.given) all
    serves.gives in
    unflushed (request_of device readable committed.room) gives.is.unasked committed.request

-- ---- what becomes of a chain in flight

-- where a tag is taken, something is in flight
any_taken : (tags : List (Option InFlight)) (tag : ℕ) (here : InFlight) → get_or tags tag None ≡ Some here
    → is_any tags ≡ true
any_taken [] tag here there = absurd (cc there)
any_taken (Some other ∷ tags) tag here there = refl
any_taken (None ∷ tags) zero here there = absurd (cc there)
any_taken (None ∷ tags) (suc tag) here there = any_taken tags tag here there

-- an event leaves such a chain, is its completion, or is a drop
data Ending {A : Type 0} (disk : SlotDisk) (tag : ℕ) (what : EventKind A) : Type 0 where
  Leaves : LeavesTagOf disk tag what → Ending disk tag what
  Its : (verdict : Verdict) → said_of disk what ≡ Some (Complete tag verdict) → Ending disk tag what
  Drops : said_of disk what ≡ Some Drop → Ending disk tag what

leaves : {A : Type 0} (disk : SlotDisk) (tag : ℕ) (what : EventKind A) (found : Option HostEvent)
    → said_of disk what ≡ found → option_and_then tag_of found ≢ Some tag → found ≢ Some Drop
    → LeavesTagOf disk tag what
leaves disk tag what found is other no_drop = record {
  other = λ same. other (ap (option_and_then tag_of) (sym is) ∙ same);
  no_drop = λ same. no_drop (sym is ∙ same);
}

ending_by : {A : Type 0} (disk : SlotDisk) (tag : ℕ) (what : EventKind A) (found : Option HostEvent)
    → said_of disk what ≡ found → Ending disk tag what
ending_by disk tag what None is =
    Leaves (leaves disk tag what None is (λ same. absurd (cc same)) (λ same. absurd (cc same)))
ending_by disk tag what (Some (Complete its verdict)) is =
    elim (eqb_tells its tag) [
      | inl same ↦ Its verdict (is ∙ ap (λ (t : ℕ). Some (Complete t verdict)) same.1)
      | inr other ↦
          Leaves (leaves disk tag what (Some (Complete its verdict)) is
          (λ same. other.1 (same_Some its tag same)) (λ same. absurd (cc same)))
    ]
ending_by disk tag what (Some Drop) is = Drops is
ending_by disk tag what (Some Hold) is =
    Leaves (leaves disk tag what (Some Hold) is (λ same. absurd (cc same)) (λ same. absurd (cc same)))
ending_by disk tag what (Some Release) is =
    Leaves (leaves disk tag what (Some Release) is (λ same. absurd (cc same)) (λ same. absurd (cc same)))

-- the completion of what is there is done
completes_by : {A : Type 0} (disk : SlotDisk) (old : SlotState) (unit : DiskUnit) (tag : ℕ) (here : InFlight)
    (what : EventKind A) (before after : Health) (outcome : Outcome A) (verdict : Verdict)
    → unit_at disk old ≡ Some unit → get_or (in_flight_of disk old) tag None ≡ Some here
    → said_of disk what ≡ Some (Complete tag verdict) → MayGive old what before after outcome
    → DoesAsSaid disk (Complete tag verdict) old outcome.state
completes_by disk old unit tag here what before after outcome verdict there taken is h =
    says disk old unit (Complete tag verdict) what before after outcome there
    (ap (λ (l : List (Option InFlight)). is_some (get_or l tag None)) (unit_tags disk old unit there)
    ∙ ap is_some taken) is h

pub becomes : {A : Type 0} (disk : SlotDisk) (old : SlotState) (tag : ℕ) (here : InFlight) (what : EventKind A)
    (before after : Health) (outcome : Outcome A) → get_or (in_flight_of disk old) tag None ≡ Some here
    → MayGive old what before after outcome → Becomes disk tag here old what outcome.state
becomes disk old tag here what before after outcome taken h =
    let unit = found disk old tag here taken in
    elim (ending_by disk tag what (said_of disk what) refl) [
      | Leaves other ↦ Stays (outlasts disk old tag here what before after outcome taken other h)
      | Its verdict is ↦
          Completed verdict is
          (completes_by disk old unit.unit tag here what before after outcome verdict unit.there taken is h)
      | Drops is ↦
          GivenUp is
          (says disk old unit.unit Drop what before after outcome unit.there
          (ap is_any (unit_tags disk old unit.unit unit.there) ∙ any_taken (in_flight_of disk old) tag here taken) is h)
    ]

-- ---- the status that the guest reads

read_there : (xs rest : List ℕ) (i n x : ℕ) → i < length xs → i < n
    → take 1 (drop i (take n (take i xs ++ (x ∷ []) ++ rest))) ≡ x ∷ []
read_there [] rest i n x within below = absurd (omega (arith, within))
read_there (y ∷ xs) rest i zero x within below = absurd (omega (arith, below))
read_there (y ∷ xs) rest zero (suc n) x within below = refl
read_there (y ∷ xs) rest (suc i) (suc n) x within below =
    read_there xs rest i n x (omega (arith, within)) (omega (arith, below))

reads_put : (m : Memory) (a x : ℕ) → Inside m a 1 → part_of (put m a (x ∷ [])) a 1 ≡ x ∷ []
reads_put m a x inside =
    let within : a - m.base < length m.bytes = omega (arith, inside.above, inside.below) in
    ap (λ (n : Memory). part_of n a 1) (put_bytes m a (x ∷ []) inside)
    ∙ read_there m.bytes (drop (a - m.base + 1) m.bytes) (a - m.base) (length m.bytes) x within within

-- it is the one by which the host completed the operation
module _ {A : Type 0} (disk : SlotDisk) (tag : ℕ) (here : InFlight) (old : SlotState) (what : EventKind A) (status : ℕ)
    (new : SlotState) (answered : IsAnswered disk tag here old what status new) where
  its_status : status ≡ code_of (status_by answered.verdict)
  its_status =
      let code = code_of (status_by answered.verdict) in
      let reads : part_of answered.given.completes.gives.done here.flight.status 1 ≡ code ∷ [] =
      ap (λ (m : Memory). part_of m here.flight.status 1) answered.given.completes.gives.completed.memory
      ∙ reads_put old.memory here.flight.status code answered.place in
      let same : status ∷ [] ≡ code ∷ [] = sym answered.reads ∙ reads in
      cc same

  pub told_by : (verdict : Verdict)
      → (said_of disk what ≡ Some (Complete tag verdict)) ↔ (status ≡ code_of (status_by verdict))
  told_by verdict = (
    λ is. its_status ∙ ap (λ (v : Verdict). code_of (status_by v)) (same_verdict (sym answered.said ∙ is)),
    λ is. answered.said
        ∙ ap (λ (v : Verdict). Some (Complete tag v)) (one_code answered.verdict verdict (sym its_status ∙ is)),
  )
    where
      same_verdict : Some (Complete tag answered.verdict) ≡ Some (Complete tag verdict) → answered.verdict ≡ verdict
      same_verdict same = cc same

      one_code : (v w : Verdict) → code_of (status_by v) ≡ code_of (status_by w) → v ≡ w
      one_code Done Done is = refl
      one_code Done Failed is = absurd (cc is)
      one_code Failed Done is = absurd (cc is)
      one_code Failed Failed is = refl

-- where the window may be served, the guest is told
pub answers : {A : Type 0} (disk : SlotDisk) (old : SlotState) (unit : DiskUnit) (tag : ℕ) (here : InFlight)
    (queue : Queue) (what : EventKind A) (verdict : Verdict) (before after : Health) (outcome : Outcome A)
    → unit_at disk old ≡ Some unit → get_or (in_flight_of disk old) tag None ≡ Some here
    → Inside old.memory here.flight.status 1 → queue_at 0 unit.window ≡ Some queue
    → said_of disk what ≡ Some (Complete tag verdict) → MayGive old what before after outcome
    → IsAnswered disk tag here old what (code_of (status_by verdict)) outcome.state
answers disk old unit tag here queue what verdict before after outcome found taken place ready is h =
    let completes = completes_by disk old unit tag here what before after outcome verdict found taken is h in
    let began = unit_queue old.memory completes.before in
    let landed = completes.does.queue.landed in
    let lands = completes.does.queue.lands in
    let this : unit ≡ completes.before = same_Some unit completes.before (sym found ∙ completes.there) in
    let there : get_or began.tags tag None ≡ Some here =
    ap (λ (l : List (Option InFlight)). get_or l tag None) (unit_tags disk old completes.before completes.there)
    ∙ taken in
    let same : lands.here ≡ here = same_Some lands.here here (sym lands.there ∙ there) in
    let open_at : queue_at 0 began.window ≡ Some queue =
    ap (λ (u : DiskUnit). queue_at 0 u.window) (sym this) ∙ ready in
    let given = given_back (queue_at 0 began.window) queue tag here verdict began landed open_at
    (subst (λ (f : InFlight). LandsBy (queue_at 0 began.window) tag f verdict began landed) same lands.lands) in
    record {
      there = taken;
      place = place;
      verdict = verdict;
      said = is;
      completes = completes;
      given = given;
      reads = ap (λ (m : Memory). part_of m here.flight.status 1) given.completes.gives.completed.memory
          ∙ reads_put old.memory here.flight.status (code_of (status_by verdict)) place;
    }

-- ---- a course

record Passed {A : Type 0} (g : ℕ) (old : SlotState) (events : List (EventKind A)) (records : List (Record A))
    (last : SlotState) : Type 0 where
  passages : List (Passage A)
  course : IsCourse g old passages last
  events_are : map (λ (p : Passage A). p.what) passages ≡ events
  records_are : map (λ (p : Passage A). p.written) passages ≡ records

passed : {A : Type 0} (g : ℕ) (old : SlotState) (events : List (EventKind A)) (records : List (Record A))
    (last : SlotState) → IsAnsweredBy (MayBeTold g) old events records last → Passed g old events records last
passed g old [] [] last same =
    record { passages = []; course = same; events_are = refl; records_are = refl }
passed g old [] (written ∷ records) last h = absurd h
passed g old (what ∷ events) [] last h = absurd h
passed {A} g old (what ∷ events) (written ∷ records) last h =
    let rest = passed g h.0 events records last h.2 in
    record {
      passages = record { what = what; written = written; after = h.0 } ∷ rest.passages;
      course = (h.1, rest.course);
      events_are = ap (λ (l : List (EventKind A)). what ∷ l) rest.events_are;
      records_are = ap (λ (l : List (Record A)). written ∷ l) rest.records_are;
    }

-- each slot of a line has one
pub has_course : {A : Type 0} (g : ℕ) (old : World) (moves : List (Move A)) (new : World) (state : SlotState)
    → IsLine old moves new → slice_get old.slots g ≡ Some state → HasCourse g state moves new
has_course g old moves new state line there =
    let run = alone_as_it_may g old moves new line state there in
    let own = passed g state _ _ run.last run.own in
    record {
      passages = own.passages;
      last = run.last;
      course = own.course;
      events = own.events_are;
      records = own.records_are;
      state_after = run.state_after;
    }

-- ---- what lasts

-- the word that is kept with some completions is kept with the last of them
word_behind : (xs ys : List Completion) (old new : Medium) → KeepsWordIn old (xs ++ ys) new
    → (mid : Medium) × KeepsWordIn mid ys new
word_behind [] ys old new word = (old, word)
word_behind (x ∷ xs) ys old new (mid, kept, rest) = word_behind xs ys mid new rest

word_along : {A : Type 0} (disk : SlotDisk) (old : Standing) (first later : List (Passage A)) (before after : Medium)
    → KeepsWordIn before (completions disk old (first ++ later)) after
    → (mid : Medium) × KeepsWordIn mid (completions disk (behind_all disk old first) later) after
word_along disk old [] later before after word = (before, word)
word_along disk old (passage ∷ first) later before after word =
    let rest = word_behind (said_by (said_of disk passage.what) disk old)
    (completions disk (behind disk old passage) (first ++ later)) before after word in
    word_along disk (behind disk old passage) first later rest.0 after rest.1

one_said : (found : Option HostEvent) (disk : SlotDisk) (now : Standing) (tag : ℕ) (here : InFlight) (verdict : Verdict)
    → found ≡ Some (Complete tag verdict) → get_or (in_flight_of disk now.state) tag None ≡ Some here
    → said_by found disk now ≡ completed here verdict (now.beside tag) ∷ []
one_said found disk now tag here verdict is there =
    ap (λ (said : Option HostEvent). said_by said disk now) is
    ∙ ap (λ (f : Option InFlight). completed_in f verdict (now.beside tag)) there

pub lasts : {A : Type 0} (disk : SlotDisk) (old : Standing) (first later : List (Passage A)) (done : Passage A)
    (tag place : ℕ) (here : InFlight) (before after : Medium)
    → IsAnswered disk tag here (behind_all disk old first).state done.what (code_of Success) done.after
    → covers here ((behind_all disk old first).beside tag) place ≡ true
    → KeepsWordIn before (completions disk old (first ++ done ∷ later)) after
    → IsUnwritten place (completions disk (behind disk (behind_all disk old first) done) later)
    → slice_get after.left place ≡ slice_get after.held place
lasts disk old first later done tag place here before after answered covered word unwritten =
    let now = behind_all disk old first in
    let rest = word_along disk old first (done ∷ later) before after word in
    let is = (told_by disk tag here now.state done.what 0 done.after answered Done).1 refl in
    let said = one_said (said_of disk done.what) disk now tag here Done is answered.there in
    word_lasts (completed here Done (now.beside tag)) (completions disk (behind disk now done) later) rest.0 after place
    (subst (λ (l : List Completion).
    KeepsWordIn rest.0 (l ++ completions disk (behind disk now done) later) after) said rest.1)
    covered unwritten
