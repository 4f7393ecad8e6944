-- The parts of a slot: what is read is spelled so, what is spelled so is read, and a reader that fails stops at
-- the first field that no value has there.
use Rattle.std.proofs.Common.{◌≡◌, inl, inr, ℕ, zero, suc, ◌≤◌, List, [], ◌∷◌, ◌++◌, length, drop, Option, Some, None, Ok, Err, refl, sym, ap, subst, ◌∙◌, arith}
use Rattle.std.specs.Int.{w32, to_le_bytes}
use Rattle.std.specs.Prelude.{Bool, true, false}
use Rattle.arrayvec.specs.ArrayVec.{ArrayVec}
use Rattle.mmio_window.specs.declared.saved.Reached.{Reached}
use Rattle.snapshot.specs.declared.fault.Stop.{Stop}
use Rattle.snapshot.specs.declared.fault.Why.TheVariants.{Short, Choice}
use Rattle.snapshot.specs.declared.saved.SavedDevice.{SavedDevice}
use Rattle.snapshot.specs.declared.saved.SavedSlot.{SavedSlot}
use Rattle.snapshot.specs.Faults.{BeginsWith}
use Rattle.snapshot.specs.Fields.{Field, device_fields, devices_fields, each_fields, field, joined, negotiation_fields, queue_fields, reached_fields, selectors_fields, served_fields, slot_fields, window_fields}
use Rattle.snapshot.specs.Reading.{Reader, device_at, devices_at, many_at, negotiation_at, queue_at, reached_at, selectors_at, served_at, slot_at, window_at}
use Rattle.snapshot.specs.Spelling.{DeviceFits, DevicesFit, EachFits, MayReach, NegotiationFits, QueueFits, ReachedFits, SelectorsFit, SlotFits, WindowFits, device, devices, each, negotiation, queue, reached, selectors, served, slot, window}
use Rattle.snapshot.proofs.Exact.{IsBytes, IsBytes-rest, IsField, Takes, chosen, ok_is, went}
use Rattle.snapshot.proofs.Agreement.{joined-append}
use Rattle.snapshot.proofs.Explained.{IsRead, Stops, StopsAt, both_read, failed, failing_is, made_read, remade_read, reread, then_read}
use Rattle.snapshot.proofs.Single.{byte_read, bytes_read, device_count_read, flag_read, interrupts_read, read16, read32, read64, stops_short, stops_wrong}

-- ---- how far a queue is served

served_read : IsRead served_at served served_fields ReachedFits
unfolding served_at
served_read =
    made_read (both_read read16 (both_read read16 (both_read read16 read16))) _
    (λ r. (r.place, (r.pending, (r.used_count, r.ahead)))) (λ x fits. refl) (λ r. refl)

reached_takes : (bytes : List ℕ) (r : Option Reached) (rest : List ℕ) → IsBytes bytes
    → reached_at bytes ≡ Ok (r, rest) → Takes bytes (reached r) rest × MayReach r
unfolding reached_at
reached_takes [] r rest fits e = absurd cc
reached_takes (zero ∷ bytes) r rest fits e = chosen reached MayReach None r 0 bytes rest refl tt fits e
reached_takes (suc zero ∷ bytes) r rest fits e =
    let s = went served_at bytes _ (r, rest) e in
    let t = served_read.field.takes bytes s.value s.rest (IsBytes-rest 1 bytes fits) s.is in
    subst (λ (x : Option Reached × List ℕ). Takes (1 ∷ bytes) (reached x.0) x.1
    × MayReach x.0) (ok_is (Some s.value, s.rest) (r, rest) s.goes_on) (
      record { parts = ap (λ (bs : List ℕ). 1 ∷ bs) t.0.parts; rest_fits = t.0.rest_fits },
      t.1,
    )
reached_takes (suc (suc b) ∷ bytes) r rest fits e = absurd cc

reached_again : (r : Option Reached) (rest : List ℕ) → MayReach r
    → reached_at (reached r ++ rest) ≡ Ok (r, rest)
unfolding reached_at
reached_again None rest fits = refl
reached_again (Some r) rest fits = rw (served_read.field.again r rest fits) refl

reached_field : IsField reached_at reached MayReach
reached_field = record {
  takes = λ bytes r rest fits e. reached_takes bytes r rest fits e;
  again = λ r rest fits. reached_again r rest fits;
}

reached_joins : (r : Option Reached) → joined (reached_fields r) ≡ reached r
reached_joins None = refl
reached_joins (Some r) = ap (λ (t : List ℕ). 1 ∷ t) (served_read.joins r)

first_is : (a b : ℕ) (xs ys : List ℕ) → a ∷ xs ≡ b ∷ ys → a ≡ b
first_is a b xs ys e = cc

behind_is : (a b : ℕ) (xs ys : List ℕ) → a ∷ xs ≡ b ∷ ys → xs ≡ ys
behind_is a b xs ys e = cc

-- the first byte of a queue's last part is 0 or 1
begins_by : (bytes : List ℕ) (r : Option Reached) (n : ℕ) (rest : List ℕ)
    → BeginsWith bytes (reached_fields r) (suc n) rest
    → (b : ℕ) × ((behind : List ℕ) × ((b ≤ 1) × (bytes ≡ b ∷ behind)))
begins_by bytes None n rest h = (0, (_, (omega arith, h.text)))
begins_by bytes (Some r) n rest h = (1, (_, (omega arith, h.text)))

stopped_first : (bytes : List ℕ) (stop : Stop)
    → ((b : ℕ) (behind : List ℕ) → b ≤ 1 → bytes ≡ b ∷ behind → ⊥)
    → ((r : Option Reached) → StopsAt (reached_fields r) bytes stop)
    → Stops reached_fields MayReach bytes stop
stopped_first bytes stop neither why = record {
  count = 0;
  value = None;
  fits = tt;
  rest = bytes;
  begins = record { enough = omega arith; text = refl };
  most = λ r n rest fits h. most r n rest h;
  why = λ r rest fits h. subst (λ (t : List ℕ). StopsAt (reached_fields r) t stop) h.text (why r);
}
  where
    most : (r : Option Reached) (n : ℕ) (rest : List ℕ) → BeginsWith bytes (reached_fields r) n rest → n ≤ 0
    most r zero rest h = omega arith
    most r (suc n) rest h = let w = begins_by bytes r n rest h in absurd (neither w.0 w.1.0 w.1.1.0 w.1.1.1)

ends_short : (stop : Stop) → record { why = Short; left = 0 } ≡ stop → (r : Option Reached)
    → StopsAt (reached_fields r) [] stop
ends_short stop e None = stops_short [] (field (0 ∷ [])) [] stop (omega arith) (sym e)
ends_short stop e (Some r) = stops_short [] (field (1 ∷ [])) (served_fields r) stop (omega arith) (sym e)

is_no_choice : (b : ℕ) (bytes : List ℕ) (stop : Stop)
    → record { why = Choice; left = length (b ∷ bytes) } ≡ stop → (r : Option Reached)
    → StopsAt (reached_fields r) (b ∷ bytes) stop
is_no_choice b bytes stop e None = stops_wrong (b ∷ bytes) (field (0 ∷ [])) [] stop (omega arith) (sym e)
is_no_choice b bytes stop e (Some r) =
    stops_wrong (b ∷ bytes) (field (1 ∷ [])) (served_fields r) stop (omega arith) (sym e)

-- behind a 1
module _ (bytes : List ℕ) (stop : Stop) (s : Stops served_fields ReachedFits bytes stop) where
  behind_one : (r : Reached) (n : ℕ) (rest : List ℕ)
      → BeginsWith (1 ∷ bytes) (field (1 ∷ []) ∷ served_fields r) (suc n) rest
      → BeginsWith bytes (served_fields r) n rest
  behind_one r n rest h = record {
    enough = (let le = h.enough in omega arith);
    text = behind_is 1 1 _ _ h.text;
  }

  one_most : (y : Option Reached) (n : ℕ) (rest : List ℕ) → MayReach y
      → BeginsWith (1 ∷ bytes) (reached_fields y) n rest → n ≤ suc s.count
  one_most None n rest fits h = let le = h.enough in omega arith
  one_most (Some r) zero rest fits h = omega arith
  one_most (Some r) (suc n) rest fits h =
      let le = s.most r n rest fits (behind_one r n rest h) in omega arith

  one_why : (y : Option Reached) (rest : List ℕ) → MayReach y
      → BeginsWith (1 ∷ bytes) (reached_fields y) (suc s.count) rest
      → StopsAt (drop (suc s.count) (reached_fields y)) rest stop
  one_why None rest fits h = absurd (let never = first_is 1 0 bytes _ h.text in omega arith)
  one_why (Some r) rest fits h = s.why r rest fits (behind_one r s.count rest h)

  one_stops : Stops reached_fields MayReach (1 ∷ bytes) stop
  one_stops = record {
    count = suc s.count;
    value = Some s.value;
    fits = s.fits;
    rest = s.rest;
    begins = record {
      enough = (let le = s.begins.enough in omega arith);
      text = ap (λ (t : List ℕ). 1 ∷ t) s.begins.text;
    };
    most = λ y n rest fits h. one_most y n rest fits h;
    why = λ y rest fits h. one_why y rest fits h;
  }

reached_fails : (bytes : List ℕ) (stop : Stop) → IsBytes bytes → reached_at bytes ≡ Err stop
    → Stops reached_fields MayReach bytes stop
unfolding reached_at
reached_fails [] stop bs e =
    stopped_first [] stop (λ b behind le is. absurd (cc)) (ends_short stop (failing_is _ _ stop e))
reached_fails (zero ∷ bytes) stop bs e = absurd cc
reached_fails (suc zero ∷ bytes) stop bs e =
    elim (failed served_at bytes _ stop e) [
      | inl here ↦ one_stops bytes stop (served_read.fails bytes stop (IsBytes-rest 1 bytes bs) here)
      | inr v ↦ absurd (let never = v.goes_on in cc)
    ]
reached_fails (suc (suc b) ∷ bytes) stop bs e =
    stopped_first (suc (suc b) ∷ bytes) stop
    (λ c behind le is. let same = first_is (suc (suc b)) c bytes behind is in omega arith)
    (is_no_choice (suc (suc b)) bytes stop (failing_is _ _ stop e))

reached_ends : (bytes : List ℕ) (x y : Option Reached) (left rest : List ℕ) (n : ℕ) → IsBytes bytes
    → reached_at bytes ≡ Ok (x, left) → BeginsWith bytes (reached_fields y) n rest
    → length (reached_fields x) ≤ n → length (reached_fields y) ≤ length (reached_fields x)
reached_ends bytes (Some x) None left rest n bs e h le = omega arith
reached_ends bytes (Some x) (Some y) left rest n bs e h le = omega arith
reached_ends bytes None None left rest n bs e h le = omega arith
reached_ends bytes None (Some y) left rest zero bs e h le = absurd (omega arith)
reached_ends bytes None (Some y) left rest (suc n) bs e h le =
    let zero_first = (reached_field.takes bytes None left bs e).0.parts in
    absurd (let same = first_is 0 1 _ _ (sym zero_first ∙ h.text) in omega arith)

reached_read : IsRead reached_at reached reached_fields MayReach
reached_read = record {
  field = reached_field;
  joins = λ r. reached_joins r;
  some = None;
  some_fits = tt;
  ends = λ bytes x y left rest n bs e fits h le. reached_ends bytes x y left rest n bs e h le;
  fails = λ bytes stop bs e. reached_fails bytes stop bs e;
}

-- ---- the parts of a window

queue_read : IsRead queue_at queue queue_fields QueueFits
unfolding queue_at queue queue_fields
queue_read =
    made_read
    (both_read read32 (both_read read64 (both_read read64 (both_read read64 reached_read)))) _
    (λ q. (q.number, (q.descriptor_area, (q.driver_area, (q.device_area, q.reached)))))
    (λ x fits. refl) (λ q. refl)

negotiation_read : IsRead negotiation_at negotiation negotiation_fields NegotiationFits
unfolding negotiation_at
negotiation_read =
    made_read (both_read read64 (both_read byte_read read64)) _
    (λ n. (n.offered, (n.status, n.accepted))) (λ x fits. refl) (λ n. refl)

selectors_read : IsRead selectors_at selectors selectors_fields SelectorsFit
unfolding selectors_at
selectors_read =
    made_read (both_read read32 (both_read read32 (both_read read32 read32))) _
    (λ s. (s.device_features, (s.driver_features, (s.queue, s.shm)))) (λ x fits. refl) (λ s. refl)

-- ---- a window

window_read : IsRead window_at window window_fields WindowFits
unfolding window_at window window_fields
window_read =
    reread WindowFits
    (made_read (both_read (both_read negotiation_read selectors_read) (both_read
    (both_read queue_read queue_read) (both_read interrupts_read read32))) _
    (λ w. (
      (w.negotiation, w.selectors),
      ((w.queue_0, w.queue_1), (w.interrupts, w.config_generation)),
    )) (λ x fits. refl) (λ w. refl))
    (λ w fits. (fits.0, (fits.1.0, fits.1.1.1)))
    (λ w fits. (fits.0, (fits.1.0, (tt, fits.1.1))))

-- ---- the further devices

device_read : IsRead device_at device device_fields DeviceFits
unfolding device_at device device_fields
device_read =
    made_read
    (both_read read32 (both_read (bytes_read 6) (both_read read16
    (both_read read64 (both_read (bytes_read 20) window_read))))) _
    (λ d. (d.device_id, (d.mac, (d.mtu, (d.sectors, (d.identity, d.window)))))) (λ x fits. refl) (λ d. refl)

-- a value of which nothing is spelled
module _ {A : Type 0} (value : A) (text : A → List ℕ) (fields : A → List Field) (Same : A → Type 0)
    (has : Same value) (only : (y : A) → Same y → y ≡ value) (empty : text value ≡ [])
    (no_fields : fields value ≡ []) (joins : (y : A) → joined (fields y) ≡ text y) where
  abbrev nothing_at : Reader A
  nothing_at bytes = Ok (value, bytes)

  nothing_takes : (bytes : List ℕ) (x : A) (rest : List ℕ) → IsBytes bytes → nothing_at bytes ≡ Ok (x, rest)
      → Takes bytes (text x) rest × Same x
  nothing_takes bytes x rest bs e =
      subst (λ (p : A × List ℕ). Takes bytes (text p.0) p.1 × Same p.0) (ok_is (value, bytes) (x, rest) e)
      (subst (λ (t : List ℕ). Takes bytes t bytes) (sym empty) (record { parts = refl; rest_fits = bs }), has)

  nothing_again : (x : A) (rest : List ℕ) → Same x → nothing_at (text x ++ rest) ≡ Ok (x, rest)
  nothing_again x rest same =
      let is : value ≡ x = sym (only x same) in
      let none : text x ++ rest ≡ rest = ap (λ (t : List ℕ). t ++ rest) (ap text (sym is) ∙ empty) in
      ap (λ (bytes : List ℕ). nothing_at bytes) none ∙ ap (λ (y : A). Ok (y, rest)) is

  nothing_ends : (x y : A) (n : ℕ) → Same y → length (fields y) ≤ length (fields x)
  nothing_ends x y n same =
      let none = ap (λ (z : A). length (fields z)) (only y same) in
      let zero_len = ap (λ (fs : List Field). length fs) no_fields in
      omega (arith, none, zero_len)

  nothing_fails : (bytes : List ℕ) (stop : Stop) → nothing_at bytes ≡ Err stop → Stops fields Same bytes stop
  nothing_fails bytes stop e = absurd cc

  nothing_read : IsRead nothing_at text fields Same
  nothing_read = record {
    field = record {
      takes = λ bytes x rest bs e. nothing_takes bytes x rest bs e;
      again = λ x rest same. nothing_again x rest same;
    };
    joins = joins;
    some = value;
    some_fits = has;
    ends = λ bytes x y left rest n bs e same h le. nothing_ends x y n same;
    fails = λ bytes stop bs e. nothing_fails bytes stop e;
  }

each_joins : (ds : List SavedDevice) → joined (each_fields ds) ≡ each ds
each_joins [] = refl
each_joins (d ∷ ds) =
    joined-append (device_fields d) (each_fields ds) ∙ rw (device_read.joins d, each_joins ds) refl

abbrev AreSo : ℕ → List SavedDevice → Type 0
AreSo n ds = (length ds ≡ n) × EachFits ds

none_left : (ds : List SavedDevice) → AreSo 0 ds → ds ≡ []
none_left [] so = refl
none_left (d ∷ ds) so = absurd (let len = so.0 in cc)

abbrev parted : List SavedDevice → SavedDevice × List SavedDevice
parted [] = (device_read.some, [])
parted (d ∷ ds) = (d, ds)

parted_back : (n : ℕ) (ds : List SavedDevice) → AreSo (suc n) ds → (parted ds).0 ∷ (parted ds).1 ≡ ds
parted_back n [] so = absurd (let len = so.0 in cc)
parted_back n (d ∷ ds) so = refl

parted_so : (n : ℕ) (ds : List SavedDevice) → AreSo (suc n) ds
    → DeviceFits (parted ds).0 × AreSo n (parted ds).1
parted_so n [] so = absurd (let len = so.0 in cc)
parted_so n (d ∷ ds) so = (so.1.0, (let len = so.0 in omega arith, so.1.1))

parted_text : (n : ℕ) (ds : List SavedDevice) → AreSo (suc n) ds
    → device (parted ds).0 ++ each (parted ds).1 ≡ each ds
parted_text n [] so = absurd (let len = so.0 in cc)
parted_text n (d ∷ ds) so = refl

parted_fields : (n : ℕ) (ds : List SavedDevice) → AreSo (suc n) ds
    → device_fields (parted ds).0 ++ each_fields (parted ds).1 ≡ each_fields ds
parted_fields n [] so = absurd (let len = so.0 in cc)
parted_fields n (d ∷ ds) so = refl

many_read : (n : ℕ) → IsRead (many_at n) each each_fields (AreSo n)
many_read zero = nothing_read [] each each_fields (AreSo 0) (refl, tt) none_left refl refl each_joins
many_read (suc n) =
    remade_read (both_read device_read (many_read n)) (λ x. x.0 ∷ x.1) parted each each_fields (AreSo (suc n))
    (λ x fits. refl) (λ ds so. parted_back n ds so)
    (λ x fits. (ap suc fits.1.0, (fits.0, fits.1.1)))
    (λ ds so. parted_so n ds so) (λ ds so. parted_text n ds so) (λ ds so. parted_fields n ds so) each_joins

devices_joins : (ds : List SavedDevice) → joined (devices_fields ds) ≡ devices ds
devices_joins [] = refl
devices_joins (d ∷ ds) = ap (λ (t : List ℕ). to_le_bytes w32 (length (d ∷ ds)) ++ t) (each_joins (d ∷ ds))

-- whether there are devices
abbrev pub has : List SavedDevice → Bool
has [] = false
has (d ∷ ds) = true

has_some : (ds : List SavedDevice) → 1 ≤ length ds → has ds ≡ true
has_some [] some = absurd (omega arith)
has_some (d ∷ ds) some = refl

pub some_there : (ds : List SavedDevice) → has ds ≡ true → 1 ≤ length ds
some_there [] is = absurd cc
some_there (d ∷ ds) is = omega arith

has_none : (ds : List SavedDevice) → has ds ≡ false → ds ≡ []
has_none [] is = refl
has_none (d ∷ ds) is = absurd cc

counted_text : (ds : List SavedDevice) → has ds ≡ true → to_le_bytes w32 (length ds) ++ each ds ≡ devices ds
counted_text [] is = absurd cc
counted_text (d ∷ ds) is = refl

counted_fields : (ds : List SavedDevice) → has ds ≡ true
    → field (to_le_bytes w32 (length ds)) ∷ each_fields ds ≡ devices_fields ds
counted_fields [] is = absurd cc
counted_fields (d ∷ ds) is = refl

abbrev Devices : Type 0
Devices = ArrayVec SavedDevice

abbrev DevicesAre : Bool → Devices → Type 0
DevicesAre further v = DevicesFit v.items × (has v.items ≡ further)

devices_read : (further : Bool) → IsRead (devices_at further) (λ v. devices v.items)
    (λ v. devices_fields v.items) (DevicesAre further)
unfolding devices_at
devices_read false =
    nothing_read {A = Devices} (record { items = [] }) (λ v. devices v.items) (λ v. devices_fields v.items)
    (DevicesAre false) ((omega arith, tt), refl)
    (λ v are. ap (λ (ds : List SavedDevice). record { items = ds }) (has_none v.items are.1)) refl refl
    (λ v. devices_joins v.items)
devices_read true =
    remade_read {B = Devices} (then_read device_count_read many_read) (λ x. record { items = x.1 })
    (λ v. (length v.items, v.items)) (λ v. devices v.items) (λ v. devices_fields v.items) (DevicesAre true)
    (λ x fits. ap (λ (n : ℕ). (n, x.1)) fits.1.0) (λ v are. refl)
    (λ x fits. (
      (omega (arith, fits.0.1, fits.1.0), fits.1.1),
      has_some x.1 (omega (arith, fits.0.0, fits.1.0)),
    ))
    (λ v are. ((some_there v.items are.1, are.0.0), (refl, are.0.1)))
    (λ v are. counted_text v.items are.1) (λ v are. counted_fields v.items are.1)
    (λ v. devices_joins v.items)

-- ---- a slot

abbrev pub SlotIs : Bool → SavedSlot → Type 0
SlotIs further s = SlotFits s × (has s.devices.items ≡ further)

pub slot_read : (further : Bool) → IsRead (slot_at further) slot slot_fields (SlotIs further)
unfolding slot_at slot slot_fields
slot_read further =
    reread (SlotIs further)
    (made_read (both_read (both_read read64 (both_read read64 read64)) (both_read
    (both_read flag_read (both_read (bytes_read 20) (both_read read16 (both_read read16 flag_read))))
    (both_read window_read (both_read window_read (devices_read further))))) _
    (λ s. (
      (s.base, (s.len, s.sectors)),
      (
        (s.read_only, (s.identity, (s.cols, (s.rows, s.on_hold)))),
        (s.block, (s.console, s.devices)),
      ),
    )) (λ x fits. refl) (λ s. refl))
    (λ s fits. (
      (
        fits.0,
        (
          (fits.1.0.1.0, (fits.1.0.1.1.0, fits.1.0.1.1.1.0)),
          (fits.1.1.0, (fits.1.1.1.0, fits.1.1.1.1.0)),
        ),
      ),
      fits.1.1.1.1.1,
    ))
    (λ s is. (
      is.0.0,
      (
        (tt, (is.0.1.0.0, (is.0.1.0.1.0, (is.0.1.0.1.1, tt)))),
        (is.0.1.1.0, (is.0.1.1.1.0, (is.0.1.1.1.1, is.1))),
      ),
    ))
