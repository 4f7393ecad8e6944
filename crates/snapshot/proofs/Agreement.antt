-- Bytes that begin with some of the fields of a text.
use Rattle.std.proofs.Common.{◌≡◌, ℕ, suc, ◌+◌, ◌≤◌, List, [], ◌∷◌, ◌++◌, length, take, drop, refl, sym, ap, ◌∙◌, append_assoc, arith}
use Rattle.std.proofs.lemmas.List.{length-append, take-append-le}
use Rattle.snapshot.specs.Fields.{Field, joined}
use Rattle.snapshot.specs.Faults.{BeginsWith}

-- ---- fields one behind another

pub joined-append : (xs ys : List Field) → joined (xs ++ ys) ≡ joined xs ++ joined ys
joined-append [] ys = refl
joined-append (x ∷ xs) ys =
    ap (λ (t : List ℕ). x.bytes ++ t) (joined-append xs ys)
    ∙ sym (append_assoc x.bytes (joined xs) (joined ys))

take_past : (xs ys : List Field) (k : ℕ) → take (length xs + k) (xs ++ ys) ≡ xs ++ take k ys
take_past [] ys k = let is : 0 + k ≡ k = omega arith in ap (λ (n : ℕ). take n ys) is
take_past (x ∷ xs) ys k =
    let is : suc (length xs) + k ≡ suc (length xs + k) = omega arith in
    ap (λ (n : ℕ). take n (x ∷ (xs ++ ys))) is ∙ ap (λ (t : List Field). x ∷ t) (take_past xs ys k)

pub drop_past : (xs ys : List Field) (k : ℕ) → drop (length xs + k) (xs ++ ys) ≡ drop k ys
drop_past [] ys k = let is : 0 + k ≡ k = omega arith in ap (λ (n : ℕ). drop n ys) is
drop_past (x ∷ xs) ys k =
    let is : suc (length xs) + k ≡ suc (length xs + k) = omega arith in
    ap (λ (n : ℕ). drop n (x ∷ (xs ++ ys))) is ∙ drop_past xs ys k

-- ---- in the front part alone

pub front_alone : (xs ys : List Field) (bytes rest : List ℕ) (n : ℕ) → n ≤ length xs
    → BeginsWith bytes (xs ++ ys) n rest → BeginsWith bytes xs n rest
front_alone xs ys bytes rest n le h = record {
  enough = le;
  text = h.text ∙ ap (λ (fs : List Field). joined fs ++ rest) (take-append-le n xs ys le);
}

pub in_front : (xs ys : List Field) (bytes rest : List ℕ) (n : ℕ) → BeginsWith bytes xs n rest
    → BeginsWith bytes (xs ++ ys) n rest
in_front xs ys bytes rest n h = record {
  enough = omega (arith, h.enough, length-append xs ys);
  text = h.text ∙ ap (λ (fs : List Field). joined fs ++ rest) (sym (take-append-le n xs ys h.enough));
}

-- ---- and in the part behind it too

pub record Behind (bytes : List ℕ) (xs ys : List Field) (n : ℕ) (rest : List ℕ) : Type 0 where
  pub more : ℕ
  pub counted : n ≡ length xs + more
  pub mid : List ℕ
  pub front : bytes ≡ joined xs ++ mid
  pub behind : BeginsWith mid ys more rest

regrouped : (xs ys : List Field) (rest : List ℕ) (k : ℕ)
    → joined (take (length xs + k) (xs ++ ys)) ++ rest ≡ joined xs ++ (joined (take k ys) ++ rest)
regrouped xs ys rest k =
    ap (λ (fs : List Field). joined fs ++ rest) (take_past xs ys k)
    ∙ ap (λ (t : List ℕ). t ++ rest) (joined-append xs (take k ys))
    ∙ append_assoc (joined xs) (joined (take k ys)) rest

pub behind_of : (xs ys : List Field) (bytes rest : List ℕ) (n k : ℕ) → n ≡ length xs + k
    → BeginsWith bytes (xs ++ ys) n rest → Behind bytes xs ys n rest
behind_of xs ys bytes rest n k is h = record {
  more = k;
  counted = is;
  mid = joined (take k ys) ++ rest;
  front = h.text ∙ ap (λ (i : ℕ). joined (take i (xs ++ ys)) ++ rest) is ∙ regrouped xs ys rest k;
  behind = record { enough = omega (arith, is, h.enough, length-append xs ys); text = refl };
}

pub behind_it : (xs ys : List Field) (bytes mid rest : List ℕ) (k : ℕ) → bytes ≡ joined xs ++ mid
    → BeginsWith mid ys k rest → BeginsWith bytes (xs ++ ys) (length xs + k) rest
behind_it xs ys bytes mid rest k is h = record {
  enough = omega (arith, h.enough, length-append xs ys);
  text =
      is
      ∙ ap (λ (t : List ℕ). joined xs ++ t) h.text
      ∙ sym (regrouped xs ys rest k);
}
