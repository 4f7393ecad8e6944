-- A reader that fails stops at the first field that no value has there.
use Rattle.std.proofs.Common.{◌≡◌, ◌⊎◌, inl, inr, ℕ, zero, suc, ◌+◌, ◌-◌, ◌≤◌, List, [], ◌∷◌, ◌++◌, length, drop, Result, Ok, Err, refl, sym, ap, subst, ◌∙◌, arith}
use Rattle.std.proofs.lemmas.Bool.{cases_lt}
use Rattle.std.proofs.lemmas.List.{append-nil, drop-append-le, length-append}
use Rattle.snapshot.specs.declared.fault.Stop.{Stop}
use Rattle.snapshot.specs.declared.fault.Why.{Why}
use Rattle.snapshot.specs.Fields.{Field, joined}
use Rattle.snapshot.specs.Faults.{BeginsWith, wrong_with}
use Rattle.snapshot.specs.Reading.{◌>>=◌, ◌&◌, ◌&>◌, Reader, made}
use Rattle.snapshot.proofs.Agreement.{behind_it, behind_of, drop_past, front_alone, in_front, joined-append}
use Rattle.snapshot.proofs.Exact.{IsBytes, IsField, Went, ok_is, refit, remade_field, then_field, went}

-- what stops the reader, where a value goes on with these fields
abbrev pub StopsAt : List Field → List ℕ → Stop → Type 0
StopsAt [] rest stop = ⊥
StopsAt (next ∷ behind) rest stop =
    stop ≡ record { why = wrong_with rest (next ∷ behind); left = length rest }

-- the bytes agree with a value in so many fields, with none in more, and what comes then stops the reader
pub record Stops {A : Type 0} (fields : A → List Field) (Fits : A → Type 0) (bytes : List ℕ)
    (stop : Stop) : Type 0 where
  pub count : ℕ
  pub value : A
  pub fits : Fits value
  pub rest : List ℕ
  pub begins : BeginsWith bytes (fields value) count rest
  pub most : (y : A) (n : ℕ) (behind : List ℕ) → Fits y → BeginsWith bytes (fields y) n behind → n ≤ count
  pub why : (y : A) (behind : List ℕ) → Fits y → BeginsWith bytes (fields y) count behind
      → StopsAt (drop count (fields y)) behind stop

-- A reader of a value with these fields.
pub record IsRead {A : Type 0} (read : Reader A) (text : A → List ℕ) (fields : A → List Field)
    (Fits : A → Type 0) : Type 0 where
  pub field : IsField read text Fits
  pub joins : (x : A) → joined (fields x) ≡ text x
  pub some : A
  pub some_fits : Fits some
  -- of the value that is read no other has more fields that agree
  pub ends : (bytes : List ℕ) (x y : A) (left rest : List ℕ) (n : ℕ) → IsBytes bytes
      → read bytes ≡ Ok (x, left) → Fits y → BeginsWith bytes (fields y) n rest → length (fields x) ≤ n
      → length (fields y) ≤ length (fields x)
  pub fails : (bytes : List ℕ) (stop : Stop) → IsBytes bytes → read bytes ≡ Err stop
      → Stops fields Fits bytes stop

-- ---- what came of a step

abbrev pub failing : (A : Type 0) → Stop → Result A Stop
failing A stop = Err stop

pub failing_is : (A : Type 0) (d stop : Stop) → failing A d ≡ failing A stop → d ≡ stop
failing_is A d stop e = cc

failed_by : {A B : Type 0} (read : Reader A) (bytes : List ℕ) (f : A × List ℕ → Result B Stop) (stop : Stop)
    (r : Result (A × List ℕ) Stop) → read bytes ≡ r → (r >>= f) ≡ Err stop
    → (read bytes ≡ Err stop) ⊎ Went read bytes f (Err stop)
failed_by read bytes f stop (Ok x) is e = inr (record { value = x.0; rest = x.1; is = is; goes_on = e })
failed_by {A} {B} read bytes f stop (Err d) is e = inl (is ∙ ap Err (failing_is B d stop e))

-- a reader that fails at its first step, or behind it
pub failed : {A B : Type 0} (read : Reader A) (bytes : List ℕ) (f : A × List ℕ → Result B Stop) (stop : Stop)
    → (read bytes >>= f) ≡ Err stop → (read bytes ≡ Err stop) ⊎ Went read bytes f (Err stop)
failed read bytes f stop e = failed_by read bytes f stop (read bytes) refl e

pub answered_or_failed : {A : Type 0} (r : Result A Stop) (x : A) (stop : Stop) → r ≡ Ok x → r ≡ Err stop → ⊥
answered_or_failed r x stop a b = cc

-- ---- a value all of whose fields agree is the one that is read

module _ {A : Type 0} {read : Reader A} {text : A → List ℕ} {fields : A → List Field} {Fits : A → Type 0}
    (is : IsRead read text fields Fits) where
  pub read_again : (bytes : List ℕ) (y : A) (rest : List ℕ) → Fits y → bytes ≡ joined (fields y) ++ rest
      → read bytes ≡ Ok (y, rest)
  read_again bytes y rest fits e =
      ap read (e ∙ ap (λ (t : List ℕ). t ++ rest) (is.joins y)) ∙ is.field.again y rest fits

  pub same_value : (bytes : List ℕ) (x y : A) (left rest : List ℕ) → read bytes ≡ Ok (x, left) → Fits y
      → bytes ≡ joined (fields y) ++ rest → ◌≡◌ {A = A × List ℕ} (y, rest) (x, left)
  same_value bytes x y left rest e fits text_is =
      ok_is (y, rest) (x, left) (sym (read_again bytes y rest fits text_is) ∙ e)

  pub front_spelled : (bytes : List ℕ) (x : A) (left : List ℕ) → IsBytes bytes → read bytes ≡ Ok (x, left)
      → bytes ≡ joined (fields x) ++ left
  front_spelled bytes x left fits e =
      (is.field.takes bytes x left fits e).0.parts ∙ ap (λ (t : List ℕ). t ++ left) (sym (is.joins x))

-- ---- one field behind another

stops_more : (xs ys : List Field) (rest : List ℕ) (stop : Stop) → StopsAt xs rest stop
    → StopsAt (xs ++ ys) rest stop
stops_more [] ys rest stop h = absurd h
stops_more (x ∷ xs) ys rest stop h = h

-- the fields of one value, and behind them those of another
abbrev pub both : {A B : Type 0} → (A → List Field) → (B → List Field) → A × B → List Field
both one other x = one x.0 ++ other x.1

module _ {A B : Type 0} {first : Reader A} {text : A → List ℕ} {one : A → List Field} {Fits : A → Type 0}
    (of_first : IsRead first text one Fits) (other : B → List Field) where
  -- where the first value is read, it is the first of each two of which as many fields agree as it has
  pub past : (bytes : List ℕ) (a : A) (mid : List ℕ) (y : A × B) (n : ℕ) (rest : List ℕ) → IsBytes bytes
      → first bytes ≡ Ok (a, mid) → Fits y.0 → length (one a) ≤ n → BeginsWith bytes (both one other y) n rest
      → (y.0 ≡ a) × BeginsWith mid (other y.1) (n - length (one a)) rest
  past bytes a mid y n rest bs e fits le h =
      elim (cases_lt n (length (one y.0))) [
        | inl lt ↦
            (let ended = of_first.ends bytes a y.0 mid rest n bs e fits
            (front_alone (one y.0) (other y.1) bytes rest n (omega arith) h) le in
            absurd (omega arith))
        | inr whole ↦
            (let parts = behind_of (one y.0) (other y.1) bytes rest n (n - length (one y.0)) (omega arith) h in
            let same : ◌≡◌ {A = A × List ℕ} (y.0, parts.mid) (a, mid) =
            same_value of_first bytes a y.0 mid parts.mid e fits parts.front in
            let counted : parts.more ≡ n - length (one y.0) = (let is = parts.counted in omega arith) in (
              ap (λ (p : A × List ℕ). p.0) same,
              subst (λ (p : A × List ℕ). BeginsWith p.1 (other y.1) (n - length (one p.0)) rest) same
                  (subst (λ (k : ℕ). BeginsWith parts.mid (other y.1) k rest) counted parts.behind),
            ))
      ]

  -- where it isn't read
  module _ (bytes : List ℕ) (stop : Stop) (e : first bytes ≡ Err stop) (s : Stops one Fits bytes stop) where
    not_passed : (y : A × B) (n : ℕ) (rest : List ℕ) → Fits y.0 → length (one y.0) ≤ n
        → BeginsWith bytes (both one other y) n rest → ⊥
    not_passed y n rest fits le h =
        let parts = behind_of (one y.0) (other y.1) bytes rest n (n - length (one y.0)) (omega arith) h in
        answered_or_failed (first bytes) (y.0, parts.mid) stop
        (read_again of_first bytes y.0 parts.mid fits parts.front) e

    pub first_most : (y : A × B) (n : ℕ) (rest : List ℕ) → Fits y.0 → BeginsWith bytes (both one other y) n rest
        → n ≤ s.count
    first_most y n rest fits h =
        elim (cases_lt n (length (one y.0))) [
          | inl lt ↦ s.most y.0 n rest fits (front_alone (one y.0) (other y.1) bytes rest n (omega arith) h)
          | inr whole ↦ absurd (not_passed y n rest fits whole h)
        ]

    pub first_why : (y : A × B) (rest : List ℕ) → Fits y.0 → BeginsWith bytes (both one other y) s.count rest
        → StopsAt (drop s.count (both one other y)) rest stop
    first_why y rest fits h =
        elim (cases_lt s.count (length (one y.0))) [
          | inl lt ↦
              (let le : s.count ≤ length (one y.0) = omega arith in
              subst (λ (fs : List Field). StopsAt fs rest stop)
              (sym (drop-append-le s.count (one y.0) (other y.1) le))
              (stops_more (drop s.count (one y.0)) (other y.1) rest stop
              (s.why y.0 rest fits (front_alone (one y.0) (other y.1) bytes rest s.count le h))))
          | inr whole ↦ absurd (not_passed y s.count rest fits whole h)
        ]

module _ {A B : Type 0} {first : Reader A} {second : A → Reader B} {text : A → List ℕ} {behind : B → List ℕ}
    {one : A → List Field} {other : B → List Field} {Fits : A → Type 0} {FitsBehind : A → B → Type 0}
    (of_first : IsRead first text one Fits) (of_second : (a : A) → IsRead (second a) behind other (FitsBehind a)) where
  abbrev both_text : A × B → List ℕ
  both_text x = text x.0 ++ behind x.1

  abbrev BothFit : A × B → Type 0
  BothFit x = Fits x.0 × FitsBehind x.0 x.1

  then_joins : (x : A × B) → joined (both one other x) ≡ both_text x
  then_joins x = joined-append (one x.0) (other x.1) ∙ rw (of_first.joins x.0, (of_second x.0).joins x.1) refl

  then_ends_at : (bytes : List ℕ) (a : A) (mid : List ℕ) (b : B) (left : List ℕ) (y : A × B) (rest : List ℕ)
      (n : ℕ) → IsBytes bytes
      → first bytes ≡ Ok (a, mid) → second a mid ≡ Ok (b, left) → BothFit y
      → BeginsWith bytes (both one other y) n rest
      → length (one a ++ other b) ≤ n → length (both one other y) ≤ length (one a ++ other b)
  then_ends_at bytes a mid b left y rest n bs e d fits h le =
      let of_found = length-append (one a) (other b) in
      let of_other = length-append (one y.0) (other y.1) in
      let p = past of_first other bytes a mid y n rest bs e fits.0 (omega arith) h in
      let same : length (one y.0) ≡ length (one a) = ap (λ (v : A). length (one v)) p.0 in
      let fits_behind = subst (λ (v : A). FitsBehind v y.1) p.0 fits.1 in
      let ended = (of_second a).ends mid b y.1 left rest (n - length (one a))
      (of_first.field.takes bytes a mid bs e).0.rest_fits d fits_behind p.1 (omega arith) in
      omega arith

  then_ends : (bytes : List ℕ) (x y : A × B) (left rest : List ℕ) (n : ℕ) → IsBytes bytes
      → (first &> second) bytes ≡ Ok (x, left) → BothFit y → BeginsWith bytes (both one other y) n rest
      → length (both one other x) ≤ n → length (both one other y) ≤ length (both one other x)
  then_ends bytes x y left rest n bs e fits h le =
      let a = went first bytes _ (x, left) e in
      let b = went (second a.value) a.rest _ (x, left) a.goes_on in
      let pair : A × B = (a.value, b.value) in
      let found : pair ≡ x = ap (λ (p : (A × B) × List ℕ). p.0) (ok_is (pair, b.rest) (x, left) b.goes_on) in
      subst (λ (p : A × B). length (both one other p) ≤ n
      → length (both one other y) ≤ length (both one other p)) found
      (then_ends_at bytes a.value a.rest b.value b.rest y rest n bs a.is b.is fits h) le

  -- where the first part fails
  first_fails : (bytes : List ℕ) (stop : Stop) → first bytes ≡ Err stop → Stops one Fits bytes stop
      → Stops (both one other) BothFit bytes stop
  first_fails bytes stop e s = record {
    count = s.count;
    value = (s.value, (of_second s.value).some);
    fits = (s.fits, (of_second s.value).some_fits);
    rest = s.rest;
    begins = in_front (one s.value) (other (of_second s.value).some) bytes s.rest s.count s.begins;
    most = λ y n rest fits h. first_most of_first other bytes stop e s y n rest fits.0 h;
    why = λ y rest fits h. first_why of_first other bytes stop e s y rest fits.0 h;
  }

  -- where the part behind it does
  module _ (bytes : List ℕ) (a : A) (mid : List ℕ) (stop : Stop) (bs : IsBytes bytes)
      (e : first bytes ≡ Ok (a, mid)) (s : Stops other (FitsBehind a) mid stop) where
    second_most : (y : A × B) (n : ℕ) (rest : List ℕ) → BothFit y → BeginsWith bytes (both one other y) n rest
        → n ≤ length (one a) + s.count
    second_most y n rest fits h =
        elim (cases_lt n (length (one a))) [
          | inl short ↦ omega arith
          | inr long ↦
              (let p = past of_first other bytes a mid y n rest bs e fits.0 long h in
              let few = s.most y.1 (n - length (one a)) rest (subst (λ (v : A). FitsBehind v y.1) p.0 fits.1) p.1 in
              omega arith)
        ]

    second_why : (y : A × B) (rest : List ℕ) → BothFit y
        → BeginsWith bytes (both one other y) (length (one a) + s.count) rest
        → StopsAt (drop (length (one a) + s.count) (both one other y)) rest stop
    second_why y rest fits h =
        let p = past of_first other bytes a mid y (length (one a) + s.count) rest bs e fits.0 (omega arith) h in
        let behind_is : length (one a) + s.count - length (one a) ≡ s.count = omega arith in
        let here = s.why y.1 rest (subst (λ (v : A). FitsBehind v y.1) p.0 fits.1)
        (subst (λ (k : ℕ). BeginsWith mid (other y.1) k rest) behind_is p.1) in
        let past_is : drop (length (one a) + s.count) (both one other y) ≡ drop s.count (other y.1) =
        ap (λ (v : A). drop (length (one v) + s.count) (both one other y)) (sym p.0)
        ∙ drop_past (one y.0) (other y.1) s.count in
        subst (λ (fs : List Field). StopsAt fs rest stop) (sym past_is) here

    second_fails : Stops (both one other) BothFit bytes stop
    second_fails = record {
      count = length (one a) + s.count;
      value = (a, s.value);
      fits = ((of_first.field.takes bytes a mid bs e).1, s.fits);
      rest = s.rest;
      begins = behind_it (one a) (other s.value) bytes mid s.rest s.count
          (front_spelled of_first bytes a mid bs e) s.begins;
      most = λ y n rest fits h. second_most y n rest fits h;
      why = λ y rest fits h. second_why y rest fits h;
    }

  then_fails : (bytes : List ℕ) (stop : Stop) → IsBytes bytes → (first &> second) bytes ≡ Err stop
      → Stops (both one other) BothFit bytes stop
  then_fails bytes stop bs e =
      elim (failed first bytes _ stop e) [
        | inl here ↦ first_fails bytes stop here (of_first.fails bytes stop bs here)
        | inr w ↦
            elim (failed (second w.value) w.rest _ stop w.goes_on) [
              | inl there ↦ second_fails bytes w.value w.rest stop bs w.is
                  ((of_second w.value).fails w.rest stop
                  (of_first.field.takes bytes w.value w.rest bs w.is).0.rest_fits there)
              | inr v ↦ absurd (let never = v.goes_on in cc)
            ]
      ]

  pub then_read : IsRead (first &> second) both_text (both one other) BothFit
  then_read = record {
    field = then_field of_first.field (λ a. (of_second a).field);
    joins = λ x. then_joins x;
    some = (of_first.some, (of_second of_first.some).some);
    some_fits = (of_first.some_fits, (of_second of_first.some).some_fits);
    ends = λ bytes x y left rest n bs e fits h le. then_ends bytes x y left rest n bs e fits h le;
    fails = λ bytes stop bs e. then_fails bytes stop bs e;
  }

-- where the first says nothing of how the second is read
pub both_read : {A B : Type 0} {first : Reader A} {second : Reader B} {text : A → List ℕ} {behind : B → List ℕ}
    {one : A → List Field} {other : B → List Field} {Fits : A → Type 0} {FitsBehind : B → Type 0}
    → IsRead first text one Fits → IsRead second behind other FitsBehind
    → IsRead (first & second) (λ x. text x.0 ++ behind x.1) (both one other) (λ x. Fits x.0 × FitsBehind x.1)
both_read of_first of_second = then_read of_first (λ a. of_second)

-- ---- the same as a value of another type

module _ {A B : Type 0} {read : Reader A} {text : A → List ℕ} {fields : A → List Field} {Fits : A → Type 0}
    (of_parts : IsRead read text fields Fits) (make : A → B) (parts : B → A) (text_of : B → List ℕ)
    (fields_of : B → List Field) (Same : B → Type 0) (parts_of : (x : A) → Fits x → parts (make x) ≡ x)
    (made_of : (y : B) → Same y → make (parts y) ≡ y) (into : (x : A) → Fits x → Same (make x))
    (back : (y : B) → Same y → Fits (parts y)) (told : (y : B) → Same y → text (parts y) ≡ text_of y)
    (listed : (y : B) → Same y → fields (parts y) ≡ fields_of y)
    (joins : (y : B) → joined (fields_of y) ≡ text_of y) where
  fields_made : (x : A) → Fits x → fields x ≡ fields_of (make x)
  fields_made x fits = ap fields (sym (parts_of x fits)) ∙ listed (make x) (into x fits)

  begins_in : (bytes : List ℕ) (y : B) (n : ℕ) (rest : List ℕ) → Same y → BeginsWith bytes (fields_of y) n rest
      → BeginsWith bytes (fields (parts y)) n rest
  begins_in bytes y n rest has h =
      subst (λ (fs : List Field). BeginsWith bytes fs n rest) (sym (listed y has)) h

  remade_ends : (bytes : List ℕ) (x y : B) (left rest : List ℕ) (n : ℕ) → IsBytes bytes
      → made make read bytes ≡ Ok (x, left) → Same y → BeginsWith bytes (fields_of y) n rest
      → length (fields_of x) ≤ n → length (fields_of y) ≤ length (fields_of x)
  remade_ends bytes x y left rest n bs e has h le =
      let v = went read bytes _ (x, left) e in
      let made_is : make v.value ≡ x =
      ap (λ (p : B × List ℕ). p.0) (ok_is (make v.value, v.rest) (x, left) v.goes_on) in
      let fits = (of_parts.field.takes bytes v.value v.rest bs v.is).1 in
      let of_x : fields v.value ≡ fields_of x = fields_made v.value fits ∙ ap fields_of made_is in
      let len_x : length (fields v.value) ≡ length (fields_of x) = ap (λ (fs : List Field). length fs) of_x in
      let len_y : length (fields (parts y)) ≡ length (fields_of y) =
      ap (λ (fs : List Field). length fs) (listed y has) in
      let ended = of_parts.ends bytes v.value (parts y) v.rest rest n bs v.is (back y has)
      (begins_in bytes y n rest has h) (omega (arith, len_x, le)) in
      omega (arith, len_x, len_y, ended)

  remade_stops : (bytes : List ℕ) (stop : Stop) → Stops fields Fits bytes stop
      → Stops fields_of Same bytes stop
  remade_stops bytes stop s = record {
    count = s.count;
    value = make s.value;
    fits = into s.value s.fits;
    rest = s.rest;
    begins = subst (λ (fs : List Field). BeginsWith bytes fs s.count s.rest) (fields_made s.value s.fits)
        s.begins;
    most = λ y n rest has h. s.most (parts y) n rest (back y has) (begins_in bytes y n rest has h);
    why = λ y rest has h.
        subst (λ (fs : List Field). StopsAt (drop s.count fs) rest stop) (listed y has)
        (s.why (parts y) rest (back y has) (begins_in bytes y s.count rest has h));
  }

  remade_fails : (bytes : List ℕ) (stop : Stop) → IsBytes bytes → made make read bytes ≡ Err stop
      → Stops fields_of Same bytes stop
  remade_fails bytes stop bs e =
      elim (failed read bytes _ stop e) [
        | inl here ↦ remade_stops bytes stop (of_parts.fails bytes stop bs here)
        | inr v ↦ absurd (let never = v.goes_on in cc)
      ]

  pub remade_read : IsRead (made make read) text_of fields_of Same
  remade_read = record {
    field = remade_field of_parts.field make parts text_of Same parts_of made_of into back told;
    joins = joins;
    some = make of_parts.some;
    some_fits = into of_parts.some of_parts.some_fits;
    ends = λ bytes x y left rest n bs e fits h le. remade_ends bytes x y left rest n bs e fits h le;
    fails = λ bytes stop bs e. remade_fails bytes stop bs e;
  }

-- the same, where each value is spelled as its parts are
pub made_read : {A B : Type 0} {read : Reader A} {text : A → List ℕ} {fields : A → List Field} {Fits : A → Type 0}
    → IsRead read text fields Fits → (make : A → B) (parts : B → A)
    → ((x : A) → Fits x → parts (make x) ≡ x) → ((y : B) → make (parts y) ≡ y)
    → IsRead (made make read) (λ y. text (parts y)) (λ y. fields (parts y)) (λ y. Fits (parts y))
made_read {A} {B} {read} {text} {fields} {Fits} of_parts make parts parts_of made_of =
    remade_read of_parts make parts (λ y. text (parts y)) (λ y. fields (parts y)) (λ y. Fits (parts y)) parts_of
    (λ y fits. made_of y) (λ x fits. subst Fits (sym (parts_of x fits)) fits) (λ y fits. fits)
    (λ y fits. refl) (λ y fits. refl) (λ y. of_parts.joins (parts y))

-- the same, of whose values the same have a spelling
pub reread : {A : Type 0} {read : Reader A} {text : A → List ℕ} {fields : A → List Field} {Fits : A → Type 0}
    (Same : A → Type 0) → IsRead read text fields Fits
    → ((x : A) → Fits x → Same x) → ((x : A) → Same x → Fits x) → IsRead read text fields Same
reread Same is into back = record {
  field = refit Same is.field into back;
  joins = is.joins;
  some = is.some;
  some_fits = into is.some is.some_fits;
  ends = λ bytes x y left rest n bs e same h le. is.ends bytes x y left rest n bs e (back y same) h le;
  fails = λ bytes stop bs e. let s = is.fails bytes stop bs e in record {
    count = s.count;
    value = s.value;
    fits = into s.value s.fits;
    rest = s.rest;
    begins = s.begins;
    most = λ y n rest same h. s.most y n rest (back y same) h;
    why = λ y rest same h. s.why y rest (back y same) h;
  };
}

-- ---- a single field

module _ {A : Type 0} {read : Reader A} {text : A → List ℕ} {Fits : A → Type 0} (wrong : Why)
    (of : IsField read text Fits) (value : A) (value_fits : Fits value)
    (stops : (bytes : List ℕ) (stop : Stop) (y : A) → read bytes ≡ Err stop → Fits y
    → StopsAt (record { bytes = text y; wrong = wrong } ∷ []) bytes stop) where
  abbrev alone : A → List Field
  alone y = record { bytes = text y; wrong = wrong } ∷ []

  alone_most : (bytes : List ℕ) (stop : Stop) (y : A) (n : ℕ) (rest : List ℕ) → read bytes ≡ Err stop → Fits y
      → BeginsWith bytes (alone y) n rest → n ≤ 0
  alone_most bytes stop y zero rest e fits h = omega arith
  alone_most bytes stop y (suc zero) rest e fits h =
      absurd (answered_or_failed (read bytes) (y, rest) stop
      (ap read (h.text ∙ ap (λ (t : List ℕ). t ++ rest) (append-nil (text y))) ∙ of.again y rest fits) e)
  alone_most bytes stop y (suc (suc n)) rest e fits h = absurd (let many = h.enough in omega arith)

  alone_fails : (bytes : List ℕ) (stop : Stop) → read bytes ≡ Err stop → Stops alone Fits bytes stop
  alone_fails bytes stop e = record {
    count = 0;
    value = value;
    fits = value_fits;
    rest = bytes;
    begins = record { enough = omega arith; text = refl };
    most = λ y n rest fits h. alone_most bytes stop y n rest e fits h;
    why = λ y rest fits h.
        subst (λ (t : List ℕ). StopsAt (alone y) t stop) h.text (stops bytes stop y e fits);
  }

  pub alone_read : IsRead read text alone Fits
  alone_read = record {
    field = of;
    joins = λ x. append-nil (text x);
    some = value;
    some_fits = value_fits;
    ends = λ bytes x y left rest n bs e fits h le. omega arith;
    fails = λ bytes stop bs e. alone_fails bytes stop e;
  }
