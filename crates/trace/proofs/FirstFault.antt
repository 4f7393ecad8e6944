-- The first field at fault, found by leaving one field after another.
use Rattle.std.proofs.Common.{◌≡◌, ◌≢◌, ◌==◌, ◌↔◌, ◌<◌, ℕ, suc, Bool, true, false, not, IsTrue, MatchBool, List, [], ◌∷◌, ◌++◌, length, drop, map, slice_index_or, Option, None, Some, IfSome, refl, sym, ap, subst, ◌∙◌, arith}
use Rattle.std.specs.Borrow.{Bor}
use Rattle.std.specs.Prelude.{⊤}
use Rattle.std.specs.Option.{is_some}
use Rattle.std.proofs.lemmas.Bool.{eq-eqb, ne_eqb}
use Rattle.std.proofs.lemmas.List.{length-map}
use Rattle.trace.specs.declared.fault.FaultKind.{FaultKind}
use Rattle.trace.specs.declared.fault.FaultKind.TheVariants as kind
use Rattle.trace.specs.Refusals.{RefusesFields}
use Rattle.trace.specs.Faults.{AllSay, IsAtFault, fault_of, first_field, order, other_fields}
use Rattle.trace.specs.declared.table.Field.{Field}
use Rattle.trace.specs.declared.table.BehindKind.{BehindKind}
use Rattle.trace.specs.declared.format.Format.{Format}
use Rattle.trace.specs.declared.word.Word.{Word}
use Rattle.trace.specs.Cuts.{fields_of}
use Rattle.trace.specs.Words.{AllRight, AreRight, Says, Shape, Num, behind_word, fields_in, kind_among, shape_of, shapes, spelled, width_among}
use Rattle.trace.proofs.Entries.{one_way, same_word}
use Rattle.trace.proofs.FaultKinds.{same_kind}

-- it is the first of them
pub at_fault_here : (kind : FaultKind) (shape : Shape) (shapes : List Shape) (field : List ℕ)
    (fields : List (List ℕ)) → fault_of shape ≡ kind → ¬ Says shape field
    → IsAtFault kind (shape ∷ shapes) (field ∷ fields) shape field
at_fault_here kind shape shapes field fields is fails = record {
  before = [];
  after = shapes;
  front = [];
  rest = fields;
  shapes_are = refl;
  fields_are = refl;
  as_many = refl;
  earlier = tt;
  of_kind = is;
  fails = fails;
}

-- it is a later one, where the first passes
pub at_fault_later : (kind : FaultKind) (first shape : Shape) (shapes : List Shape) (field bytes : List ℕ)
    (fields : List (List ℕ)) → MatchBool (order (fault_of first) == order kind) (Says first field) ⊤
    → IsAtFault kind shapes fields shape bytes → IsAtFault kind (first ∷ shapes) (field ∷ fields) shape bytes
at_fault_later kind first shape shapes field bytes fields passes is = record {
  before = first ∷ is.before;
  after = is.after;
  front = field ∷ is.front;
  rest = is.rest;
  shapes_are = ap (λ (xs : List Shape). first ∷ xs) is.shapes_are;
  fields_are = ap (λ (xs : List (List ℕ)). field ∷ xs) is.fields_are;
  as_many = ap suc is.as_many;
  earlier = (passes, is.earlier);
  of_kind = is.of_kind;
  fails = is.fails;
}

-- the first passes: it has a fault of another kind, or says a value
pub other_passes : (kind : FaultKind) (shape : Shape) (field : List ℕ) → fault_of shape ≢ kind
    → MatchBool (order (fault_of shape) == order kind) (Says shape field) ⊤
other_passes kind shape field other =
    let differ = ne_eqb (order (fault_of shape)) (order kind)
    (λ e. other (same_kind (fault_of shape) kind e)) in
    rw differ tt

pub parsed_passes : (kind : FaultKind) (shape : Shape) (field : List ℕ) → Says shape field
    → MatchBool (order (fault_of shape) == order kind) (Says shape field) ⊤
parsed_passes kind shape field parsed =
    one_way (order (fault_of shape) == order kind) (Says shape field) parsed

module _ (kind : FaultKind) (width : List ℕ) where
  -- at the first of the fields of a row
  pub row_here : (row : List Field) (all more : List (List ℕ)) (d : Field) (bytes : List ℕ) → 0 < length row
      → all ≡ bytes ∷ more → fault_of (shape_of width (slice_index_or row 0 d)) ≡ kind
      → ¬ Says (shape_of width (slice_index_or row 0 d)) bytes
      → IsAtFault kind (map (shape_of width) row) all (shape_of width (slice_index_or row 0 d)) bytes
  row_here [] all more d bytes some is of_kind fails = absurd (omega arith)
  row_here (f ∷ fs) all more d bytes some is of_kind fails =
      rw is (at_fault_here kind (shape_of width f) (map (shape_of width) fs) bytes more of_kind fails)

  -- at a later one, where the first passes
  pub row_later : (row others : List Field) (all more : List (List ℕ)) (d : Field) (bytes : List ℕ)
      (found : Option (Field × Bor (List ℕ))) → 0 < length row → others ≡ drop 1 row → all ≡ bytes ∷ more
      → MatchBool (order (fault_of (shape_of width (slice_index_or row 0 d))) == order kind)
      (Says (shape_of width (slice_index_or row 0 d)) bytes) ⊤
      → IfSome found (λ f. IsAtFault kind (map (shape_of width) others) more (shape_of width f.0) f.1.now)
      → IfSome found (λ f. IsAtFault kind (map (shape_of width) row) all (shape_of width f.0) f.1.now)
  row_later row others all more d bytes None some rest is passes later = tt
  row_later [] others all more d bytes (Some f) some rest is passes later = absurd (omega arith)
  row_later (first ∷ fs) others all more d bytes (Some f) some rest is passes later =
      rw is (at_fault_later kind (shape_of width first) (shape_of width f.0) (map (shape_of width) fs) bytes
      f.1.now more passes (rw rest at later))

  -- at none
  pub row_none : (row others : List Field) (all more : List (List ℕ)) (d : Field) (bytes : List ℕ)
      → 0 < length row → others ≡ drop 1 row → all ≡ bytes ∷ more
      → MatchBool (order (fault_of (shape_of width (slice_index_or row 0 d))) == order kind)
      (Says (shape_of width (slice_index_or row 0 d)) bytes) ⊤
      → AllSay kind (map (shape_of width) others) more → AllSay kind (map (shape_of width) row) all
  row_none [] others all more d bytes some rest is passes later = absurd (omega arith)
  row_none (first ∷ fs) others all more d bytes some rest is passes later =
      rw is (passes, rw rest at later)

-- ---- from the checks of the fields to their fault

-- fields after others are checked by themselves
all_after : (fault : FaultKind) (ss ts : List Shape) (fs gs : List (List ℕ)) → length ss ≡ length fs
    → AllSay fault (ss ++ ts) (fs ++ gs) → AllSay fault ts gs
all_after fault [] ts [] gs same h = h
all_after fault [] ts (f ∷ fs) gs same h = absurd (omega (arith, same))
all_after fault (s ∷ ss) ts [] gs same h = absurd (omega (arith, same))
all_after fault (s ∷ ss) ts (f ∷ fs) gs same h = all_after fault ss ts fs gs (omega (arith, same)) h.1

parsed_here : (kind : FaultKind) (shape : Shape) (field : List ℕ) → fault_of shape ≡ kind
    → MatchBool (order (fault_of shape) == order kind) (Says shape field) ⊤ → Says shape field
parsed_here kind shape field is h =
    let same : (order (fault_of shape) == order kind) ≡ true =
    eq-eqb (order (fault_of shape)) (order kind) (ap order is) in
    rw same at h

-- where one field is at fault, they don't all say a value
refuses : (kind : FaultKind) (ss : List Shape) (fs : List (List ℕ)) (shape : Shape) (field : List ℕ)
    → IsAtFault kind ss fs shape field → ¬ AllSay kind ss fs
refuses kind ss fs shape field at all =
    let split = subst (λ (xs : List (List ℕ)). AllSay kind (at.before ++ shape ∷ at.after) xs) at.fields_are
    (subst (λ (xs : List Shape). AllSay kind xs fs) at.shapes_are all) in
    let here = all_after kind at.before (shape ∷ at.after) at.front (field ∷ at.rest) at.as_many split in
    at.fails (parsed_here kind shape field at.of_kind here.0)

pub none_found : (kind : FaultKind) (ss : List Shape) (fs : List (List ℕ)) (width : List ℕ)
    (found : Option (Field × Bor (List ℕ))) (none : Bool) → is_some found ≡ not none
    → IfSome found (λ f. IsAtFault kind ss fs (shape_of width f.0) f.1.now)
    → (is_some found ≡ false → AllSay kind ss fs)
    → IsTrue none ↔ AllSay kind ss fs
none_found kind ss fs width None true is some all = (λ e. all refl, λ h. refl)
none_found kind ss fs width None false is some all = absurd cc
none_found kind ss fs width (Some f) true is some all = absurd cc
none_found kind ss fs width (Some f) false is some all =
    (λ e. absurd cc, λ h. absurd (refuses kind ss fs (shape_of width f.0) f.1.now some h))

one_right : (shape : Shape) (field : List ℕ)
    → MatchBool (order (fault_of shape) == order kind.Number) (Says shape field) ⊤
    → MatchBool (order (fault_of shape) == order kind.Choice) (Says shape field) ⊤
    → MatchBool (order (fault_of shape) == order kind.Bytes) (Says shape field) ⊤ → Says shape field
one_right (Num bits) field n c b = n
one_right shape field n c b = assumption

-- as many fields, of which each passes each check, are right
all_right : (ss : List Shape) (fs : List (List ℕ)) → length fs ≡ length ss → AllSay kind.Number ss fs
    → AllSay kind.Choice ss fs → AllSay kind.Bytes ss fs → AllRight ss fs
all_right [] [] many n c b = tt
all_right [] (f ∷ fs) many n c b = absurd (omega (arith, many))
all_right (s ∷ ss) [] many n c b = absurd (omega (arith, many))
all_right (s ∷ ss) (f ∷ fs) many n c b =
    (one_right s f n.0 c.0 b.0, all_right ss fs (omega (arith, many)) n.1 c.1 b.1)

-- the fields after the word of a line
module _ (format : Format) (word : Word) (row : List Field) (width : List ℕ) (fields : List (List ℕ))
    (behind : BehindKind) (by : width ≡ slice_index_or fields 3 []) (told : behind ≡ behind_word (kind_among fields))
    (table : row ≡ fields_in format word behind) where
  shapes_are : map (shape_of width) row ≡ shapes format word fields
  shapes_are = ap (λ (x : List ℕ). map (shape_of x) row) by
      ∙ ap (λ (fs : List Field). map (shape_of (width_among fields)) fs) (table ∙ ap (fields_in format word) told)

  pub some_in : (kind : FaultKind) (line first : List ℕ) (found : Option (Field × Bor (List ℕ)))
      → first_field line ≡ spelled word → fields_of line ≡ first ∷ fields
      → IfSome found (λ f. IsAtFault kind (map (shape_of width) row) fields (shape_of width f.0) f.1.now)
      → IfSome found (λ f. (w : Word) → first_field line ≡ spelled w
      → IsAtFault kind (shapes format w (other_fields line)) (other_fields line)
      (shape_of (width_among (other_fields line)) f.0) f.1.now)
  some_in kind line first None is cut found = tt
  some_in kind line first (Some f) is cut found = λ w parsed.
      let same : w ≡ word = same_word w word (sym parsed ∙ is) in
      let others : other_fields line ≡ fields = ap (drop 1) cut in
      rw (same, others) (rw (shapes_are, by) at found)

  pub none_in : (kind : FaultKind) (line first : List ℕ) → first_field line ≡ spelled word
      → fields_of line ≡ first ∷ fields → AllSay kind (map (shape_of width) row) fields
      → (w : Word) → first_field line ≡ spelled w → AllSay kind (shapes format w (other_fields line)) (other_fields line)
  none_in kind line first is cut say = λ w parsed.
      let same : w ≡ word = same_word w word (sym parsed ∙ is) in
      let others : other_fields line ≡ fields = ap (drop 1) cut in
      rw (same, others) (rw shapes_are at say)

  -- they aren't right
  pub bytes_refused : ¬ AreRight format word fields → length fields ≡ length row
      → AllSay kind.Number (map (shape_of width) row) fields
      → AllSay kind.Choice (map (shape_of width) row) fields → RefusesFields format word fields kind.Bytes
  bytes_refused wrong many numbers choices =
      let counted : length row ≡ length (shapes format word fields) = sym (rw length-map refl)
      ∙ ap length shapes_are in
      let all_there : length fields ≡ length (shapes format word fields) = many ∙ counted in
      let number : AllSay kind.Number (shapes format word fields) fields = rw shapes_are at numbers in
      let choice : AllSay kind.Choice (shapes format word fields) fields = rw shapes_are at choices in
      (all_there, number, choice, λ all. wrong (all_right (shapes format word fields) fields all_there number choice all))
