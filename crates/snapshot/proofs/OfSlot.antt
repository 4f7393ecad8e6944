-- A whole snapshot: what is read is spelled so, and what is spelled so is read.
use Rattle.std.proofs.Common.{◌≡◌, ◌==◌, ℕ, zero, suc, ◌^◌, ◌≤◌, Bool, true, false, ltb, List, [], ◌∷◌, ◌++◌, length, Option, Some, None, Result, Ok, Err, refl, sym, ap, subst, ◌∙◌, append_assoc, arith}
use Rattle.std.specs.Int.{w32, w64, to_le_bytes}
use Rattle.std.specs.Prelude.{is_some}
use Rattle.std.proofs.lemmas.Bool.{eqb-true}
use Rattle.std.proofs.lemmas.List.{append-nil}
use Rattle.snapshot.specs.declared.fault.Stop.{Stop}
use Rattle.snapshot.specs.declared.fault.Why.TheVariants.{Magic}
use Rattle.snapshot.specs.declared.saved.SavedDevice.{SavedDevice}
use Rattle.snapshot.specs.declared.saved.SavedSlot.{SavedSlot}
use Rattle.snapshot.specs.Fields.{Field, front_fields, head_fields, joined, snapshot_fields, waiting_fields}
use Rattle.snapshot.specs.Reading.{◌>>=◌, front_at, head_at, waiting_at, whole_at}
use Rattle.snapshot.specs.Spelling.{IsSnapshot, SlotFits, WaitingFits, front_of, magic, slot, snapshot, version_of}
use Rattle.snapshot.proofs.Agreement.{joined-append}
use Rattle.snapshot.proofs.Exact.{IsBytes, ok_is, went, wide64}
use Rattle.snapshot.proofs.Explained.{IsRead, answered_or_failed, both_read, remade_read, then_read}
use Rattle.snapshot.proofs.Parts.{has, slot_read, some_there}
use Rattle.snapshot.proofs.Single.{IsVersion, bytes_read, constant_read, count_read, version_read}

-- ---- the version

-- the version with what waits is one of some devices
abbrev pub AreThere : Bool → List SavedDevice → Type 0
AreThere waits ds = waits ≡ true → 1 ≤ length ds

version_known : (waits : Bool) (ds : List SavedDevice) → IsVersion (version_of ds waits)
version_known waits [] = (omega arith, omega arith)
version_known false (d ∷ ds) = (omega arith, omega arith)
version_known true (d ∷ ds) = (omega arith, omega arith)

version_tells_devices : (waits : Bool) (ds : List SavedDevice) → has ds ≡ ltb 1 (version_of ds waits)
version_tells_devices waits [] = refl
version_tells_devices false (d ∷ ds) = refl
version_tells_devices true (d ∷ ds) = refl

version_tells_waiting : (waits : Bool) (ds : List SavedDevice) → AreThere waits ds
    → (version_of ds waits == 3) ≡ waits
version_tells_waiting false [] there = refl
version_tells_waiting true [] there = absurd (let some = there refl in omega arith)
version_tells_waiting false (d ∷ ds) there = refl
version_tells_waiting true (d ∷ ds) there = refl

-- a version is that of the devices and of what waits that it tells
version_is : (version : ℕ) (ds : List SavedDevice) → IsVersion version → has ds ≡ ltb 1 version
    → version_of ds (version == 3) ≡ version
version_is zero ds known told = absurd (let some = known.0 in omega arith)
version_is (suc zero) [] known told = refl
version_is (suc zero) (d ∷ ds) known told = absurd cc
version_is (suc (suc zero)) [] known told = absurd cc
version_is (suc (suc zero)) (d ∷ ds) known told = refl
version_is (suc (suc (suc zero))) [] known told = absurd cc
version_is (suc (suc (suc zero))) (d ∷ ds) known told = refl
version_is (suc (suc (suc (suc n)))) ds known told = absurd (let few = known.1 in omega arith)

third_has_devices : (version : ℕ) (ds : List SavedDevice) → has ds ≡ ltb 1 version → AreThere (version == 3) ds
third_has_devices version ds told third =
    let is : version ≡ 3 = eqb-true version 3 third in
    some_there ds (told ∙ ap (λ (n : ℕ). ltb 1 n) is)

-- ---- all that stands before the pending input

abbrev Head : Type 0
Head = SavedSlot × Bool × ℕ

abbrev HeadFits : Head → Type 0
HeadFits h = SlotFits h.0 × ((h.2 ≤ 4096) × AreThere h.1 h.0.devices.items)

abbrev head_text : Head → List ℕ
head_text h =
    to_le_bytes w64 magic
    ++ (to_le_bytes w32 (version_of h.0.devices.items h.1) ++ (slot h.0 ++ to_le_bytes w32 h.2))

-- the magic, the version, and the slot with the count
abbrev Opening : Type 0
Opening = ℕ × (ℕ × (SavedSlot × ℕ))

abbrev opened : Head → Opening
opened h = (magic, (version_of h.0.devices.items h.1, (h.0, h.2)))

same_opening : (m version : ℕ) (x : SavedSlot × ℕ) → m ≡ magic → IsVersion version
    → has x.0.devices.items ≡ ltb 1 version
    → ◌≡◌ {A = Opening} (opened (x.0, version == 3, x.1)) (m, (version, x))
same_opening m version x is known told = rw (is, version_is version x.0.devices.items known told) refl

same_head : (h : Head) → AreThere h.1 h.0.devices.items
    → ◌≡◌ {A = Head} (h.0, version_of h.0.devices.items h.1 == 3, h.2) h
same_head h there = rw (version_tells_waiting h.1 h.0.devices.items there) refl

head_read : IsRead head_at head_text (λ h. head_fields h.0 h.1 h.2) HeadFits
unfolding head_at head_fields
head_read =
    let of_parts = both_read (constant_read w64 (2 ^ 64) magic Magic wide64 (omega arith))
    (then_read version_read (λ version. both_read (slot_read (ltb 1 version)) count_read)) in
    remade_read of_parts _ opened head_text (λ h. head_fields h.0 h.1 h.2) HeadFits
    (λ x fits. same_opening x.0 x.1.0 x.1.1 fits.0 fits.1.0 fits.1.1.0.1) (λ h fits. same_head h fits.1.1)
    (λ x fits. (fits.1.1.0.0, (fits.1.1.1, third_has_devices x.1.0 x.1.1.0.devices.items fits.1.1.0.1)))
    (λ h fits. (
      refl,
      (
        version_known h.1 h.0.devices.items,
        ((fits.0, version_tells_devices h.1 h.0.devices.items), fits.1.0),
      ),
    ))
    (λ h fits. refl) (λ h fits. refl) (λ h. of_parts.joins (opened h))

-- ---- all that stands before what waits

abbrev pub Front : Type 0
Front = SavedSlot × Bool × List ℕ

abbrev pub FrontFits : Front → Type 0
FrontFits f = SlotFits f.0 × ((length f.2 ≤ 4096) × AreThere f.1 f.0.devices.items)

abbrev pub fields_of : Front → List Field
fields_of f = front_fields f.0 f.2 f.1

abbrev front_text : Front → List ℕ
front_text f = front_of f.0 f.2 f.1

-- the head, and the pending input
abbrev counted : Front → Head × List ℕ
counted f = ((f.0, f.1, length f.2), f.2)

counted_text : (f : Front) → head_text (f.0, f.1, length f.2) ++ f.2 ≡ front_text f
unfolding front_of
counted_text f = simp append_assoc

pub front_read : IsRead front_at front_text fields_of FrontFits
unfolding front_at
front_read =
    let of_parts = then_read head_read (λ head. bytes_read head.2) in
    remade_read of_parts _ counted front_text fields_of FrontFits
    (λ x fits. ap (λ (n : ℕ). ((x.0.0, x.0.1, n), x.1)) fits.1) (λ f fits. refl)
    (λ x fits. (fits.0.0, (let few = fits.0.1.0 in let len = fits.1 in omega arith, fits.0.1.1)))
    (λ f fits. (fits, refl)) (λ f fits. counted_text f) (λ f fits. refl)
    (λ f. of_parts.joins (counted f) ∙ counted_text f)

-- ---- what waits

-- what waits, spelled
abbrev waiting_text : Option (List ℕ) → List ℕ
waiting_text None = []
waiting_text (Some waiting) = waiting

-- what stands before it
abbrev pub before : SavedSlot → List ℕ → Option (List ℕ) → Front
before x pending waiting = (x, is_some waiting, pending)

pub there_of : (x : SavedSlot) (waiting : Option (List ℕ)) → WaitingFits x waiting
    → AreThere (is_some waiting) x.devices.items
there_of x None fits = λ never. absurd cc
there_of x (Some waiting) fits = λ is. fits

pub waits_of : (x : SavedSlot) (waiting : Option (List ℕ)) → AreThere (is_some waiting) x.devices.items
    → WaitingFits x waiting
waits_of x None there = tt
waits_of x (Some waiting) there = there refl

snapshot_text : (x : SavedSlot) (pending : List ℕ) (waiting : Option (List ℕ))
    → snapshot x pending waiting ≡ front_text (before x pending waiting) ++ waiting_text waiting
snapshot_text x pending None = sym (append-nil (front_of x pending false))
snapshot_text x pending (Some waiting) = refl

waiting_joins : (waiting : Option (List ℕ)) → joined (waiting_fields waiting) ≡ waiting_text waiting
waiting_joins None = refl
waiting_joins (Some waiting) = append-nil waiting

-- the fields of a snapshot, one behind another, are its spelling
pub fields_spell : (x : SavedSlot) (pending : List ℕ) (waiting : Option (List ℕ))
    → joined (snapshot_fields x pending waiting) ≡ snapshot x pending waiting
fields_spell x pending waiting =
    joined-append (fields_of (before x pending waiting)) (waiting_fields waiting)
    ∙ ap (λ (t : List ℕ). t ++ joined (waiting_fields waiting)) (front_read.joins (before x pending waiting))
    ∙ ap (λ (t : List ℕ). front_text (before x pending waiting) ++ t) (waiting_joins waiting)
    ∙ sym (snapshot_text x pending waiting)

waiting_found : (waits : Bool) (rest : List ℕ) (waiting : Option (List ℕ)) → waiting_at waits rest ≡ Ok waiting
    → (waits ≡ is_some waiting) × (rest ≡ waiting_text waiting)
waiting_found true rest None e = absurd cc
waiting_found true rest (Some waiting) e = (refl, cc)
waiting_found false [] None e = (refl, refl)
waiting_found false [] (Some waiting) e = absurd cc
waiting_found false (byte ∷ rest) waiting e = absurd cc

waiting_again : (waiting : Option (List ℕ)) → waiting_at (is_some waiting) (waiting_text waiting) ≡ Ok waiting
waiting_again None = refl
waiting_again (Some waiting) = refl

-- ---- the snapshot

abbrev Found : Type 0
Found = SavedSlot × List ℕ × Option (List ℕ)

behind_front : (f : Front) (found : Found) (r : Result (Option (List ℕ)) Stop)
    → ◌>>=◌ {B = Found} r (λ waiting. Ok (f.0, f.2, waiting)) ≡ Ok found
    → (r ≡ Ok found.2) × ((f.0 ≡ found.0) × (f.2 ≡ found.1))
behind_front f found (Ok waiting) e =
    let is : ◌≡◌ {A = Found} (f.0, f.2, waiting) found = ok_is _ found e in (
      ap Ok (ap (λ (y : Found). y.2) is),
      (ap (λ (y : Found). y.0) is, ap (λ (y : Found). y.1) is),
    )
behind_front f found (Err d) e = absurd cc

spelled_of : (bytes : List ℕ) (f : Front) (rest : List ℕ) (x : Found) → FrontFits f
    → bytes ≡ front_text f ++ rest → f.0 ≡ x.0 → f.2 ≡ x.1 → f.1 ≡ is_some x.2 → rest ≡ waiting_text x.2
    → IsSnapshot bytes x.0 x.1 x.2
spelled_of bytes f rest x fits parts slot_is pending_is waits_is rest_is =
    let front_is : ◌≡◌ {A = Front} f (before x.0 x.1 x.2) =
    rw (← slot_is, ← pending_is, ← waits_is) refl in
    let has_front : FrontFits (before x.0 x.1 x.2) = subst FrontFits front_is fits in
    record {
      spelled =
          parts
          ∙ ap (λ (g : Front). front_text g ++ rest) front_is
          ∙ ap (λ (t : List ℕ). front_text (before x.0 x.1 x.2) ++ t) rest_is
          ∙ sym (snapshot_text x.0 x.1 x.2);
      fits = has_front.0;
      few = has_front.1.0;
      waits = waits_of x.0 x.2 has_front.1.1;
    }

pub whole_found : (bytes : List ℕ) (x : Found) → IsBytes bytes → whole_at bytes ≡ Ok x
    → IsSnapshot bytes x.0 x.1 x.2
unfolding whole_at
whole_found bytes x fits e =
    let front = went front_at bytes _ x e in
    let taken = front_read.field.takes bytes front.value front.rest fits front.is in
    let last = behind_front front.value x (waiting_at front.value.1 front.rest) front.goes_on in
    let waiting = waiting_found front.value.1 front.rest x.2 last.0 in
    spelled_of bytes front.value front.rest x taken.1 taken.0.parts last.1.0 last.1.1 waiting.0 waiting.1

pub whole_again : (x : SavedSlot) (pending : List ℕ) (waiting : Option (List ℕ)) → SlotFits x
    → length pending ≤ 4096 → WaitingFits x waiting
    → whole_at (snapshot x pending waiting) ≡ Ok (x, pending, waiting)
unfolding whole_at
whole_again x pending waiting fits few waits =
    rw (
      snapshot_text x pending waiting,
      front_read.field.again (before x pending waiting) (waiting_text waiting)
          (fits, (few, there_of x waiting waits)),
      waiting_again waiting,
    ) refl

-- what is spelled so is read
pub snapshot_read : (bytes : List ℕ) (x : SavedSlot) (pending : List ℕ) (waiting : Option (List ℕ))
    → IsSnapshot bytes x pending waiting → whole_at bytes ≡ Ok (x, pending, waiting)
snapshot_read bytes x pending waiting is =
    ap whole_at is.spelled ∙ whole_again x pending waiting is.fits is.few is.waits

-- bytes are the snapshot of one slot, one input, and one that waits
pub snapshot_once : (bytes : List ℕ) (x y : SavedSlot) (pending other : List ℕ) (waiting another : Option (List ℕ))
    → IsSnapshot bytes x pending waiting → IsSnapshot bytes y other another
    → ◌≡◌ {A = SavedSlot × List ℕ × Option (List ℕ)} (x, pending, waiting) (y, other, another)
snapshot_once bytes x y pending other waiting another a b =
    ok_is (x, pending, waiting) (y, other, another)
    (sym (snapshot_read bytes x pending waiting a) ∙ snapshot_read bytes y other another b)

-- and no snapshot stops the reader
pub snapshot_or_stop : (bytes : List ℕ) (x : SavedSlot) (pending : List ℕ) (waiting : Option (List ℕ))
    (stop : Stop) → IsSnapshot bytes x pending waiting → whole_at bytes ≡ Err stop → ⊥
snapshot_or_stop bytes x pending waiting stop is e =
    answered_or_failed _ (x, pending, waiting) stop (snapshot_read bytes x pending waiting is) e
