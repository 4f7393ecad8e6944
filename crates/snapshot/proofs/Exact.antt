-- A field that is read is spelled so, and what is spelled so is read again.
use Rattle.std.proofs.Common.{◌≡◌, ℕ, suc, ◌+◌, ◌^◌, ◌<◌, ◌≤◌, Bool, true, false, cond, ltb, List, [], ◌∷◌, ◌++◌, length, get_or, take, drop, Result, Ok, Err, refl, sym, ap, subst, ◌∙◌, append_assoc, arith, inl, inr}
use Rattle.std.specs.Int.{Width, w16, w32, w64, byte_len, from_le_bytes, to_le_bytes}
use Rattle.std.proofs.lemmas.Bool.{cases_lt, ltb-false, le-ltb}
use Rattle.std.proofs.lemmas.List.{take_at, drop_at, take-append-drop, length-append, length-take, get_or-drop, get_or-take, get_or_past}
use Rattle.std.proofs.lemmas.Nat.{le_bytes_2, le_bytes_4, le_bytes_8, from_le_bytes-to_le_bytes_2, from_le_bytes-to_le_bytes_4, from_le_bytes-to_le_bytes_8}
use Rattle.snapshot.specs.declared.fault.Stop.{Stop}
use Rattle.snapshot.specs.declared.fault.Why.{Why}
use Rattle.snapshot.specs.declared.fault.Why.TheVariants.{Short}
use Rattle.snapshot.specs.Reading.{◌>>=◌, ◌&◌, ◌&>◌, Reader, byte_at, bytes_at, made, number_at, tested_at}

abbrev pub IsBytes : List ℕ → Type 0
IsBytes bytes = (i : ℕ) → get_or bytes i 0 < 256

IsBytes-drop : (n : ℕ) (bytes : List ℕ) → IsBytes bytes → IsBytes (drop n bytes)
IsBytes-drop n bytes h i = rw get_or-drop (h (n + i))

IsBytes-take : (n : ℕ) (bytes : List ℕ) → IsBytes bytes → IsBytes (take n bytes)
IsBytes-take n bytes h i =
    elim (cases_lt i n) [
      | inl lt ↦ rw (get_or-take n bytes i 0 lt) (h i)
      | inr le ↦ rw (get_or_past (take n bytes) i 0 (omega (arith, length-take n bytes))) (omega arith)
    ]

pub IsBytes-rest : (b : ℕ) (bytes : List ℕ) → IsBytes (b ∷ bytes) → IsBytes bytes
IsBytes-rest b bytes h i = h (suc i)

-- ---- steps

pub guard_ok : {A : Type 0} (b : Bool) (d : Stop) (x y : A) → cond b (Err d) (Ok x) ≡ Ok y
    → (b ≡ false) × (x ≡ y)
guard_ok true d x y e = absurd cc
guard_ok false d x y e = (refl, cc)

-- a test that reading passed, and what is behind it
pub guarded : {A : Type 0} (b : Bool) (d : Stop) (r : Result A Stop) (y : A) → cond b (Err d) r ≡ Ok y
    → (b ≡ false) × (r ≡ Ok y)
guarded true d r y e = absurd cc
guarded false d r y e = (refl, e)

abbrev done : {A : Type 0} → A → Result A Stop
done x = Ok x

pub ok_is : {A : Type 0} (x y : A) → done x ≡ done y → x ≡ y
ok_is x y e = cc

-- what a reader took from the front
pub record Takes (bytes text rest : List ℕ) : Type 0 where
  pub parts : bytes ≡ text ++ rest
  pub rest_fits : IsBytes rest

pub Takes-then : (a x b y c : List ℕ) → Takes a x b → Takes b y c → Takes a (x ++ y) c
Takes-then a x b y c p q =
    record {
      parts = p.parts ∙ ap (λ (t : List ℕ). x ++ t) q.parts ∙ sym (append_assoc x y c);
      rest_fits = q.rest_fits;
    }

-- A field: what is read is spelled so, and what is spelled so is read, whatever follows it.
pub record IsField {A : Type 0} (read : Reader A) (text : A → List ℕ) (Fits : A → Type 0) : Type 0 where
  pub takes : (bytes : List ℕ) (x : A) (rest : List ℕ) → IsBytes bytes → read bytes ≡ Ok (x, rest)
      → Takes bytes (text x) rest × Fits x
  pub again : (x : A) (rest : List ℕ) → Fits x → read (text x ++ rest) ≡ Ok (x, rest)

-- a step that did not fail: what it read, and that the rest of the steps goes on from there
pub record Went {A B : Type 0} (read : Reader A) (bytes : List ℕ) (f : A × List ℕ → Result B Stop)
    (end : Result B Stop) : Type 0 where
  pub value : A
  pub rest : List ℕ
  pub is : read bytes ≡ Ok (value, rest)
  pub goes_on : f (value, rest) ≡ end

went_by : {A B : Type 0} (read : Reader A) (bytes : List ℕ) (f : A × List ℕ → Result B Stop) (y : B)
    (r : Result (A × List ℕ) Stop) → read bytes ≡ r → (r >>= f) ≡ Ok y → Went read bytes f (Ok y)
went_by read bytes f y (Ok x) is e = record { value = x.0; rest = x.1; is = is; goes_on = e }
went_by read bytes f y (Err d) is e = absurd cc

pub went : {A B : Type 0} (read : Reader A) (bytes : List ℕ) (f : A × List ℕ → Result B Stop) (y : B)
    → (read bytes >>= f) ≡ Ok y → Went read bytes f (Ok y)
went read bytes f y e = went_by read bytes f y (read bytes) refl e

-- ---- fields one behind another

module _ {A B : Type 0} {first : Reader A} {second : A → Reader B} {text : A → List ℕ} {behind : B → List ℕ}
    {Fits : A → Type 0} {FitsBehind : A → B → Type 0}
    (of_first : IsField first text Fits) (of_second : (a : A) → IsField (second a) behind (FitsBehind a)) where
  then_takes : (bytes : List ℕ) (x : A × B) (rest : List ℕ) → IsBytes bytes
      → (first &> second) bytes ≡ Ok (x, rest)
      → Takes bytes (text x.0 ++ behind x.1) rest × (Fits x.0 × FitsBehind x.0 x.1)
  then_takes bytes x rest fits e =
      let a = went first bytes _ (x, rest) e in
      let front = of_first.takes bytes a.value a.rest fits a.is in
      let b = went (second a.value) a.rest _ (x, rest) a.goes_on in
      let back = (of_second a.value).takes a.rest b.value b.rest front.0.rest_fits b.is in
      let found : A × B = (a.value, b.value) in
      subst (λ (y : (A × B) × List ℕ). Takes bytes (text y.0.0 ++ behind y.0.1) y.1
      × (Fits y.0.0 × FitsBehind y.0.0 y.0.1)) (ok_is (found, b.rest) (x, rest) b.goes_on)
      (Takes-then _ _ _ _ _ front.0 back.0, (front.1, back.1))

  then_again : (x : A × B) (rest : List ℕ) → Fits x.0 × FitsBehind x.0 x.1
      → (first &> second) ((text x.0 ++ behind x.1) ++ rest) ≡ Ok (x, rest)
  then_again x rest fits =
      rw (
        append_assoc (text x.0) (behind x.1) rest,
        of_first.again x.0 (behind x.1 ++ rest) fits.0,
        (of_second x.0).again x.1 rest fits.1,
      ) refl

  pub then_field : IsField (first &> second) (λ x. text x.0 ++ behind x.1)
      (λ x. Fits x.0 × FitsBehind x.0 x.1)
  then_field = record {
    takes = λ bytes x rest fits e. then_takes bytes x rest fits e;
    again = λ x rest fits. then_again x rest fits;
  }

-- the same field as a value of another type
module _ {A B : Type 0} {read : Reader A} {text : A → List ℕ} {Fits : A → Type 0}
    (of_parts : IsField read text Fits) (make : A → B) (parts : B → A) (text_of : B → List ℕ)
    (Same : B → Type 0) (parts_of : (x : A) → Fits x → parts (make x) ≡ x)
    (made_of : (y : B) → Same y → make (parts y) ≡ y) (into : (x : A) → Fits x → Same (make x))
    (back : (y : B) → Same y → Fits (parts y)) (told : (y : B) → Same y → text (parts y) ≡ text_of y) where
  remade_takes : (bytes : List ℕ) (y : B) (rest : List ℕ) → IsBytes bytes
      → made make read bytes ≡ Ok (y, rest) → Takes bytes (text_of y) rest × Same y
  remade_takes bytes y rest fits e =
      let x = went read bytes _ (y, rest) e in
      let t = of_parts.takes bytes x.value x.rest fits x.is in
      let has = into x.value t.1 in
      let spelled : text x.value ≡ text_of (make x.value) =
      ap text (sym (parts_of x.value t.1)) ∙ told (make x.value) has in
      subst (λ (z : B × List ℕ). Takes bytes (text_of z.0) z.1 × Same z.0)
      (ok_is (make x.value, x.rest) (y, rest) x.goes_on)
      (subst (λ (s : List ℕ). Takes bytes s x.rest) spelled t.0, has)

  remade_again : (y : B) (rest : List ℕ) → Same y → made make read (text_of y ++ rest) ≡ Ok (y, rest)
  remade_again y rest has =
      rw (sym (told y has), of_parts.again (parts y) rest (back y has), made_of y has) refl

  pub remade_field : IsField (made make read) text_of Same
  remade_field = record {
    takes = λ bytes y rest fits e. remade_takes bytes y rest fits e;
    again = λ y rest fits. remade_again y rest fits;
  }

-- the same field, of whose values the same have a spelling
pub refit : {A : Type 0} {read : Reader A} {text : A → List ℕ} {Fits : A → Type 0}
    (Same : A → Type 0) → IsField read text Fits → ((x : A) → Fits x → Same x) → ((x : A) → Same x → Fits x)
    → IsField read text Same
refit Same field into back = record {
  takes = λ bytes x rest fits e. let t = field.takes bytes x rest fits e in (t.0, into x t.1);
  again = λ x rest same. field.again x rest (back x same);
}

-- every value has a spelling
abbrev pub Always : {A : Type 0} → A → Type 0
Always x = Unit {0}

-- a choice that is read, whose spelling is one byte
pub chosen : {A : Type 0} (text : A → List ℕ) (Fits : A → Type 0) (value x : A) (b : ℕ) (bytes rest : List ℕ)
    → text value ≡ b ∷ [] → Fits value → IsBytes (b ∷ bytes)
    → done {A = A × List ℕ} (value, bytes) ≡ done (x, rest)
    → Takes (b ∷ bytes) (text x) rest × Fits x
chosen {A} text Fits value x b bytes rest is has fits e =
    subst (λ (y : A × List ℕ). Takes (b ∷ bytes) (text y.0) y.1 × Fits y.0) (ok_is (value, bytes) (x, rest) e)
    (record { parts = rw is refl; rest_fits = IsBytes-rest b bytes fits }, has)

-- ---- bytes and numbers

pub byte_field : IsField byte_at (λ b. b ∷ []) (λ b. b < 256)
byte_field = record {
  takes = byte_takes;
  again = λ x rest fits. refl;
}
  where
    byte_takes : (bytes : List ℕ) (x : ℕ) (rest : List ℕ) → IsBytes bytes → byte_at bytes ≡ Ok (x, rest)
        → Takes bytes (x ∷ []) rest × (x < 256)
    byte_takes [] x rest fits e = absurd cc
    byte_takes (b ∷ bytes) x rest fits e =
        subst (λ (p : ℕ × List ℕ). Takes (b ∷ bytes) (p.0 ∷ []) p.1
        × (p.0 < 256)) (ok_is (b, bytes) (x, rest) e)
        (record { parts = refl; rest_fits = IsBytes-rest b bytes fits }, fits 0)

pub record IsWide (w : Width) (limit : ℕ) : Type 0 where
  pub len : (n : ℕ) → length (to_le_bytes w n) ≡ byte_len w
  pub back : (bytes : List ℕ) → length bytes ≡ byte_len w → IsBytes bytes
      → to_le_bytes w (from_le_bytes w bytes) ≡ bytes
  pub again : (n : ℕ) → n < limit → from_le_bytes w (to_le_bytes w n) ≡ n
  pub below : (bytes : List ℕ) → IsBytes bytes → from_le_bytes w bytes < limit

pub wide16 : IsWide w16 (2 ^ 16)
wide16 = record {
  len = λ n. refl;
  back = λ bytes len fits. le_bytes_2 bytes _ len fits refl;
  again = λ n lt. from_le_bytes-to_le_bytes_2 n lt;
  below = λ bytes fits. omega (arith, fits 0, fits 1);
}

pub wide32 : IsWide w32 (2 ^ 32)
wide32 = record {
  len = λ n. refl;
  back = λ bytes len fits. le_bytes_4 bytes _ len fits refl;
  again = λ n lt. from_le_bytes-to_le_bytes_4 n lt;
  below = λ bytes fits. omega (arith, fits 0, fits 1, fits 2, fits 3);
}

pub wide64 : IsWide w64 (2 ^ 64)
wide64 = record {
  len = λ n. refl;
  back = λ bytes len fits. le_bytes_8 bytes _ len fits refl;
  again = λ n lt. from_le_bytes-to_le_bytes_8 n lt;
  below = λ bytes fits. omega (arith, fits 0, fits 1, fits 2, fits 3, fits 4, fits 5, fits 6, fits 7);
}

pub number_takes : (w : Width) (limit : ℕ) (wide : IsWide w limit) (bytes : List ℕ) (n : ℕ) (rest : List ℕ)
    → IsBytes bytes → number_at w bytes ≡ Ok (n, rest) → Takes bytes (to_le_bytes w n) rest × (n < limit)
number_takes w limit wide bytes n rest fits e =
    let g = guard_ok (ltb (length bytes) (byte_len w)) (record { why = Short; left = length bytes })
    (from_le_bytes w (take (byte_len w) bytes), drop (byte_len w) bytes) (n, rest) e in
    let long : byte_len w ≤ length bytes = ltb-false _ _ g.0 in
    let n-is : from_le_bytes w (take (byte_len w) bytes) ≡ n = ap (λ (p : ℕ × List ℕ). p.0) g.1 in
    let rest-is : drop (byte_len w) bytes ≡ rest = ap (λ (p : ℕ × List ℕ). p.1) g.1 in
    let front : to_le_bytes w n ≡ take (byte_len w) bytes =
    rw (← n-is) (wide.back (take (byte_len w) bytes) (omega (arith, length-take (byte_len w) bytes))
    (IsBytes-take (byte_len w) bytes fits)) in (
      record {
        parts = rw (front, ← rest-is) (sym (take-append-drop (byte_len w) bytes));
        rest_fits = rw (← rest-is) (IsBytes-drop (byte_len w) bytes fits);
      },
      rw (← n-is) (wide.below (take (byte_len w) bytes) (IsBytes-take (byte_len w) bytes fits)),
    )

number_again : (w : Width) (limit : ℕ) (wide : IsWide w limit) (n : ℕ) (rest : List ℕ) → n < limit
    → number_at w (to_le_bytes w n ++ rest) ≡ Ok (n, rest)
number_again w limit wide n rest lt =
    let len = wide.len n in
    let long : ltb (length (to_le_bytes w n ++ rest)) (byte_len w) ≡ false =
    le-ltb _ _ (omega (arith, length-append (to_le_bytes w n) rest)) in
    rw (
      long,
      take_at (to_le_bytes w n) rest (byte_len w) len,
      drop_at (to_le_bytes w n) rest (byte_len w) len,
      wide.again n lt,
    ) refl

pub number_field : (w : Width) (limit : ℕ) → IsWide w limit
    → IsField (number_at w) (to_le_bytes w) (λ n. n < limit)
number_field w limit wide = record {
  takes = λ bytes n rest fits e. number_takes w limit wide bytes n rest fits e;
  again = λ n rest lt. number_again w limit wide n rest lt;
}

-- ---- numbers that pass a test, and so many bytes

pub passed : (b : Bool) (d : Stop) (x y : ℕ × List ℕ) → cond b (Ok x) (Err d) ≡ Ok y → (b ≡ true) × (x ≡ y)
passed true d x y e = (refl, ok_is x y e)
passed false d x y e = absurd cc

-- a number that passes a test, by which it is one of these
module _ (w : Width) (limit : ℕ) (wide : IsWide w limit) (test : ℕ → Bool) (why : Why) (Fits : ℕ → Type 0)
    (passes : (n : ℕ) → test n ≡ true → Fits n) (meets : (n : ℕ) → Fits n → (n < limit) × (test n ≡ true)) where
  tested_takes : (bytes : List ℕ) (x : ℕ) (rest : List ℕ) → IsBytes bytes
      → tested_at w test why bytes ≡ Ok (x, rest) → Takes bytes (to_le_bytes w x) rest × Fits x
  tested_takes bytes x rest fits e =
      let found = went (number_at w) bytes _ (x, rest) e in
      let t = number_takes w limit wide bytes found.value found.rest fits found.is in
      let is = passed (test found.value) (record { why = why; left = length bytes }) (found.value, found.rest)
      (x, rest) found.goes_on in
      subst (λ (p : ℕ × List ℕ). Takes bytes (to_le_bytes w p.0) p.1 × Fits p.0) is.1
      (t.0, passes found.value is.0)

  tested_again : (x : ℕ) (rest : List ℕ) → Fits x
      → tested_at w test why (to_le_bytes w x ++ rest) ≡ Ok (x, rest)
  tested_again x rest has =
      let is = meets x has in rw (number_again w limit wide x rest is.0, is.1) refl

  pub tested_field : IsField (tested_at w test why) (to_le_bytes w) Fits
  tested_field = record {
    takes = λ bytes x rest fits e. tested_takes bytes x rest fits e;
    again = λ x rest has. tested_again x rest has;
  }

pub bytes_field : (n : ℕ) → IsField (bytes_at n) (λ xs. xs) (λ xs. length xs ≡ n)
bytes_field n = record {
  takes = λ bytes xs rest fits e. bytes_taken n bytes xs rest fits e;
  again = λ xs rest len. bytes_again n xs rest len;
}
  where
    bytes_taken : (n : ℕ) (bytes xs rest : List ℕ) → IsBytes bytes → bytes_at n bytes ≡ Ok (xs, rest)
        → Takes bytes xs rest × (length xs ≡ n)
    bytes_taken n bytes xs rest fits e =
        let g = guard_ok (ltb (length bytes) n) (record { why = Short; left = length bytes }) (
          take n bytes,
          drop n bytes,
        ) (xs, rest) e in
        let long : n ≤ length bytes = ltb-false _ _ g.0 in
        subst (λ (p : List ℕ × List ℕ). Takes bytes p.0 p.1 × (length p.0 ≡ n)) g.1 (
          record { parts = sym (take-append-drop n bytes); rest_fits = IsBytes-drop n bytes fits },
          omega (arith, length-take n bytes),
        )

    bytes_again : (n : ℕ) (xs rest : List ℕ) → length xs ≡ n → bytes_at n (xs ++ rest) ≡ Ok (xs, rest)
    bytes_again n xs rest len =
        let long : ltb (length (xs ++ rest)) n ≡ false = le-ltb _ _ (omega (arith, length-append xs rest)) in
        rw (long, take_at xs rest n len, drop_at xs rest n len) refl
