-- The first fault: what stops the reader is the field behind those in which a snapshot agrees, and there is one
-- such.
use Rattle.std.proofs.Common.{◌≡◌, inl, inr, ℕ, ◌+◌, ◌-◌, ◌≤◌, Bool, true, false, List, [], ◌∷◌, ◌++◌, length, take, drop, Option, Some, None, Result, Ok, Err, refl, sym, ap, subst, ◌∙◌, arith}
use Rattle.std.specs.Prelude.{is_some}
use Rattle.std.proofs.lemmas.Bool.{cases_lt}
use Rattle.std.proofs.lemmas.List.{length-append}
use Rattle.snapshot.specs.declared.fault.SnapshotFault.{SnapshotFault}
use Rattle.snapshot.specs.declared.fault.Stop.{Stop}
use Rattle.snapshot.specs.declared.fault.Why.TheVariants.{Trailing}
use Rattle.snapshot.specs.declared.saved.SavedSlot.{SavedSlot}
use Rattle.snapshot.specs.Faults.{Agrees, AgreesWith, BeginsWith, IsFirstFault, wrong_with}
use Rattle.snapshot.specs.Fields.{Field, front_fields, joined, snapshot_fields, waiting_fields}
use Rattle.snapshot.specs.Reading.{◌>>=◌, front_at, waiting_at, whole_at}
use Rattle.snapshot.proofs.Agreement.{behind_it, drop_past, in_front}
use Rattle.snapshot.proofs.Exact.{IsBytes}
use Rattle.snapshot.proofs.Explained.{Stops, StopsAt, failed, failing_is, first_most, first_why, front_spelled, past}
use Rattle.snapshot.proofs.OfSlot.{Front, FrontFits, before, fields_of, front_read, snapshot_or_stop, there_of, waits_of}

-- ---- there is one

-- what each snapshot tells that agrees in so many fields
abbrev Tells : List ℕ → SnapshotFault → ℕ → Type 0
Tells bytes fault count =
    (saved : SavedSlot) (pending : List ℕ) (waiting : Option (List ℕ)) (rest : List ℕ)
    → AgreesWith bytes saved pending waiting count rest
    → fault
    ≡ record {
      why = wrong_with rest (drop count (snapshot_fields saved pending waiting));
      place = length (joined (take count (snapshot_fields saved pending waiting)));
    }

pub first_fault_once : (bytes : List ℕ) (one other : SnapshotFault) → IsFirstFault bytes one
    → IsFirstFault bytes other → one ≡ other
first_fault_once bytes one other a b =
    let below : b.count ≤ a.count = a.most b.count b.some in
    let above : a.count ≤ b.count = b.most a.count a.some in
    let same : b.count ≡ a.count = omega arith in
    let told : Tells bytes other a.count = subst (Tells bytes other) same b.is in
    a.is a.some.saved a.some.pending a.some.waiting a.some.rest a.some.agrees
    ∙ sym (told a.some.saved a.some.pending a.some.waiting a.some.rest a.some.agrees)

-- ---- what stops the reader of a whole snapshot

record IsStopped (bytes : List ℕ) (stop : Stop) : Type 0 where
  count : ℕ
  some : Agrees bytes count
  most : (other : ℕ) → Agrees bytes other → other ≤ count
  why : (saved : SavedSlot) (pending : List ℕ) (waiting : Option (List ℕ)) (rest : List ℕ)
      → AgreesWith bytes saved pending waiting count rest
      → stop
      ≡ record { why = wrong_with rest (drop count (snapshot_fields saved pending waiting)); left = length rest }

-- what stands before what waits, and what waits
abbrev parted : SavedSlot → List ℕ → Option (List ℕ) → Front × Option (List ℕ)
parted saved pending waiting = (before saved pending waiting, waiting)

stopped_at : (xs : List Field) (rest : List ℕ) (stop : Stop) → StopsAt xs rest stop
    → stop ≡ record { why = wrong_with rest xs; left = length rest }
stopped_at [] rest stop h = absurd h
stopped_at (x ∷ xs) rest stop h = h

agreeing : (bytes : List ℕ) (saved : SavedSlot) (pending : List ℕ) (waiting : Option (List ℕ)) (count : ℕ)
    (rest : List ℕ) → AgreesWith bytes saved pending waiting count rest → FrontFits (before saved pending waiting)
agreeing bytes saved pending waiting count rest h = (h.fits, (h.few, there_of saved waiting h.waits))

-- a snapshot with this front agrees where the front does
some_with : (bytes : List ℕ) (f : Front) (waiting : Option (List ℕ)) (rest : List ℕ) (count : ℕ)
    → FrontFits f → is_some waiting ≡ f.1 → BeginsWith bytes (fields_of f ++ waiting_fields waiting) count rest
    → Agrees bytes count
some_with bytes f waiting rest count fits is begins = record {
  saved = f.0;
  pending = f.2;
  waiting = waiting;
  rest = rest;
  agrees = record {
    fits = fits.0;
    few = fits.1.0;
    waits = waits_of f.0 waiting (λ there. fits.1.1 (sym is ∙ there));
    begins = subst (λ (waits : Bool). BeginsWith bytes (front_fields f.0 f.2 waits ++ waiting_fields waiting)
        count rest) (sym is) begins;
  };
}

some_waiting : (waits : Bool) → (waiting : Option (List ℕ)) × (is_some waiting ≡ waits)
some_waiting true = (Some [], refl)
some_waiting false = (None, refl)

-- before what waits
front_stopped : (bytes : List ℕ) (stop : Stop) → front_at bytes ≡ Err stop
    → Stops fields_of FrontFits bytes stop → IsStopped bytes stop
front_stopped bytes stop e s =
    let waiting = some_waiting s.value.1 in
    record {
      count = s.count;
      some = some_with bytes s.value waiting.0 s.rest s.count s.fits waiting.1
          (in_front (fields_of s.value) (waiting_fields waiting.0) bytes s.rest s.count s.begins);
      most = λ n h. first_most front_read waiting_fields bytes stop e s (parted h.saved h.pending h.waiting) n h.rest
          (agreeing bytes h.saved h.pending h.waiting n h.rest h.agrees) h.agrees.begins;
      why = λ saved pending waiting rest h.
          stopped_at (drop s.count (snapshot_fields saved pending waiting)) rest stop
          (first_why front_read waiting_fields bytes stop e s (parted saved pending waiting) rest
          (agreeing bytes saved pending waiting s.count rest h) h.begins);
    }

none_waits : (waiting : Option (List ℕ)) → is_some waiting ≡ false → waiting ≡ None
none_waits None is = refl
none_waits (Some waiting) is = absurd cc

-- behind a front after which nothing should stand
module _ (bytes : List ℕ) (f : Front) (mid : List ℕ) (bs : IsBytes bytes) (e : front_at bytes ≡ Ok (f, mid))
    (without : f.1 ≡ false) where
  -- a snapshot that agrees in all of the front has no more fields
  ended : (saved : SavedSlot) (pending : List ℕ) (waiting : Option (List ℕ)) (rest : List ℕ) (n : ℕ)
      → AgreesWith bytes saved pending waiting n rest → length (fields_of f) ≤ n
      → (snapshot_fields saved pending waiting ≡ fields_of f ++ []) × BeginsWith mid [] (n - length (fields_of f)) rest
  ended saved pending waiting rest n h le =
      let p = past front_read waiting_fields bytes f mid (parted saved pending waiting) n rest bs e
      (agreeing bytes saved pending waiting n rest h) le h.begins in
      let none : waiting ≡ None = none_waits waiting (ap (λ (g : Front). g.1) p.0 ∙ without) in
      let no_fields : waiting_fields waiting ≡ [] = ap waiting_fields none in (
        ap (λ (g : Front). fields_of g ++ waiting_fields waiting) p.0
            ∙ ap (λ (fs : List Field). fields_of f ++ fs) no_fields,
        subst (λ (fs : List Field). BeginsWith mid fs (n - length (fields_of f)) rest) no_fields p.1,
      )

  -- bytes follow it
  trailing_stopped : (stop : Stop) → stop ≡ record { why = Trailing; left = length mid } → IsStopped bytes stop
  trailing_stopped stop is = record {
    count = length (fields_of f) + 0;
    some = some_with bytes f None mid (length (fields_of f) + 0) (front_read.field.takes bytes f mid bs e).1
        (sym without) (behind_it (fields_of f) [] bytes mid mid 0 (front_spelled front_read bytes f mid bs e)
        (record { enough = omega arith; text = refl }));
    most = λ n h. elim (cases_lt n (length (fields_of f))) [
      | inl lt ↦ omega arith
      | inr le ↦
          (let none = (ended h.saved h.pending h.waiting h.rest n h.agrees le).1.enough in
          omega arith)
    ];
    why = λ saved pending waiting rest h.
        let p = ended saved pending waiting rest (length (fields_of f) + 0) h (omega arith) in
        let none : drop (length (fields_of f) + 0) (snapshot_fields saved pending waiting) ≡ [] =
        ap (λ (fs : List Field). drop (length (fields_of f) + 0) fs) p.0 ∙ drop_past (fields_of f) [] 0 in
        let just : length (fields_of f) + 0 - length (fields_of f) ≡ 0 = omega arith in
        let same : mid ≡ rest = (subst (λ (i : ℕ). BeginsWith mid [] i rest) just p.1).text in
        is ∙ rw (none, same) refl;
  }

waiting_failed : (waits : Bool) (rest : List ℕ) (stop : Stop) → waiting_at waits rest ≡ Err stop
    → (waits ≡ false) × (stop ≡ record { why = Trailing; left = length rest })
waiting_failed true rest stop e = absurd cc
waiting_failed false [] stop e = absurd cc
waiting_failed false (byte ∷ rest) stop e = (refl, sym (failing_is (Option (List ℕ)) _ stop e))

only_failed : (f : Front) (r : Result (Option (List ℕ)) Stop) (stop : Stop)
    → ◌>>=◌ {B = SavedSlot × List ℕ × Option (List ℕ)} r (λ waiting. Ok (f.0, f.2, waiting)) ≡ Err stop
    → r ≡ Err stop
only_failed f (Ok waiting) stop e = absurd cc
only_failed f (Err d) stop e = ap Err (failing_is (SavedSlot × List ℕ × Option (List ℕ)) d stop e)

whole_stopped : (bytes : List ℕ) (stop : Stop) → IsBytes bytes → whole_at bytes ≡ Err stop
    → IsStopped bytes stop
unfolding whole_at
whole_stopped bytes stop bs e =
    elim (failed front_at bytes _ stop e) [
      | inl here ↦ front_stopped bytes stop here (front_read.fails bytes stop bs here)
      | inr w ↦
          (let is = waiting_failed w.value.1 w.rest stop
          (only_failed w.value (waiting_at w.value.1 w.rest) stop w.goes_on) in
          trailing_stopped bytes w.value w.rest bs w.is is.0 stop is.1)
    ]

-- ---- the fault

placed_is : (bytes : List ℕ) (fields : List Field) (count : ℕ) (rest : List ℕ)
    → BeginsWith bytes fields count rest
    → length bytes - length rest ≡ length (joined (take count fields))
placed_is bytes fields count rest h =
    let all = ap (λ (t : List ℕ). length t) h.text in
    omega (arith, all, length-append (joined (take count fields)) rest)

-- what stops the reader is the first fault
pub first_fault : (bytes : List ℕ) (stop : Stop) → IsBytes bytes → whole_at bytes ≡ Err stop
    → IsFirstFault bytes (record { why = stop.why; place = length bytes - stop.left })
first_fault bytes stop bs e =
    let s = whole_stopped bytes stop bs e in
    record {
      none = λ saved pending waiting is. snapshot_or_stop bytes saved pending waiting stop is e;
      count = s.count;
      some = s.some;
      most = s.most;
      is = λ saved pending waiting rest h.
          ap (λ (d : Stop). record { why = d.why; place = length bytes - d.left })
          (s.why saved pending waiting rest h)
          ∙ ap (λ (n : ℕ). record {
            why = wrong_with rest (drop s.count (snapshot_fields saved pending waiting));
            place = n;
          }) (placed_is bytes (snapshot_fields saved pending waiting) s.count rest h.begins);
    }
