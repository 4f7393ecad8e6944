-- Records in a text that grows.
use Rattle.std.proofs.Common.{◌≡◌, ℕ, suc, ◌+◌, ◌<◌, ◌==◌, Bool, true, false, not, List, [], ◌∷◌, ◌++◌, Option, None, Some, length, get_or, take, refl, sym, ap, subst, ◌∙◌, append_assoc, append-nil, arith, Result, Ok, Err, if◌then◌else◌}
use Rattle.std.proofs.lemmas.Bool.{eq-eqb, eqb-true, ne_eqb}
use Rattle.std.proofs.lemmas.List.{drop_more, get_or-take, length-take}
use Rattle.std.proofs.Math.Seq.{take-add}
use Rattle.std.specs.Bool.{OnFalse}
use Rattle.std.specs.Option.{is_some}
use Rattle.memchr.specs.Find.{IsFirstByte, NoneBefore, Nowhere, Passes, is_byte}
use Rattle.std.specs.Io.KnownBytes.{Appends, Keeps, WriteAppends, append_known}
use Rattle.std.proofs.KnownBytes.{Keeps-refl, Keeps-trans, append_known-moved}
use Rattle.show.specs.Woven.{IsPiece, IsPlain, agreed, ends_inside, goes_on, if_inside, records_in, records_of}

inside_more : (b : Bool) (xs ys : List ℕ) → ends_inside b (xs ++ ys) ≡ ends_inside (ends_inside b xs) ys
inside_more b [] ys = refl
inside_more b (x ∷ xs) ys = inside_more (goes_on b x) xs ys

records_more : (b : Bool) (xs ys : List ℕ) → records_in b (xs ++ ys) ≡ records_in b xs
    ++ records_in (ends_inside b xs) ys
records_more b [] ys = refl
records_more b (x ∷ xs) ys =
    ap (λ l. if_inside b x ++ l) (records_more (goes_on b x) xs ys)
    ∙ sym (append_assoc (if_inside b x) (records_in (goes_on b x) xs) _)

agreed_same : (b : Bool) (xs : List ℕ) → agreed b b xs ≡ Some xs
agreed_same false xs = refl
agreed_same true xs = refl

-- what was put out ends as is told, and bytes with these records follow
agreed_more : (b e c : Bool) (old bytes add : List ℕ) → records_in b bytes ≡ add → ends_inside b bytes ≡ c
    → Appends (agreed b e old) (agreed c (ends_inside e bytes) (old ++ records_in e bytes)) add
agreed_more false true c old bytes add p q = tt
agreed_more true false c old bytes add p q = tt
agreed_more false false c old bytes add p q =
    subst (λ x. Appends (Some old) x add) (sym (ap (λ d. agreed c d (old ++ records_in false bytes)) q
    ∙ agreed_same c _)) (ap (λ l. old ++ l) p)
agreed_more true true c old bytes add p q =
    subst (λ x. Appends (Some old) x add) (sym (ap (λ d. agreed c d (old ++ records_in true bytes)) q
    ∙ agreed_same c _)) (ap (λ l. old ++ l) p)

text_more : (b c : Bool) (text bytes add : List ℕ) → records_in b bytes ≡ add → ends_inside b bytes ≡ c
    → Appends (records_of b (Some text)) (records_of c (Some (text ++ bytes))) add
text_more b c text bytes add p q =
    subst (λ r. Appends (records_of b (Some text)) (agreed c (ends_inside false (text ++ bytes)) r) add)
    (sym (records_more false text bytes))
    (subst (λ e. Appends (records_of b (Some text)) (agreed c e (records_in false text
    ++ records_in (ends_inside false text) bytes)) add) (sym (inside_more false text bytes))
    (agreed_more b (ends_inside false text) c (records_in false text) bytes add p q))

-- bytes with these records are put behind those that wait
pub more : (b c : Bool) (known : Option (List ℕ)) (waiting bytes add : List ℕ) → records_in b bytes ≡ add
    → ends_inside b bytes ≡ c
    → Appends (records_of b (append_known known waiting))
    (records_of c (append_known known (waiting ++ bytes))) add
more b c None waiting bytes add p q = tt
more b c (Some text) waiting bytes add p q =
    subst (λ t. Appends (records_of b (Some (text ++ waiting))) (records_of c (Some t)) add)
    (append_assoc text waiting bytes)
    (text_more b c (text ++ waiting) bytes add p q)

pub keeps_of : (old new : Option (List ℕ)) → Appends old new [] → Keeps old new
keeps_of None new p = tt
keeps_of (Some xs) None p = absurd p
keeps_of (Some xs) (Some ys) p = p ∙ append-nil xs

-- a text without a tab is put behind those that wait
pub said : (known : Option (List ℕ)) (waiting text : List ℕ) → IsPlain text
    → Keeps (records_of false (append_known known waiting))
    (records_of false (append_known known (waiting ++ text)))
said known waiting text plain = keeps_of _ _ (more false false known waiting text [] plain.none plain.outside)

-- a tab is
pub begun : (known : Option (List ℕ)) (waiting : List ℕ)
    → Keeps (records_of false (append_known known waiting))
    (records_of true (append_known known (waiting ++ 9 ∷ [])))
begun known waiting = keeps_of _ _ (more false true known waiting (9 ∷ []) [] refl refl)

-- a piece of a record is
pub put : (known : Option (List ℕ)) (waiting bytes : List ℕ) (is_end : Bool) → IsPiece bytes is_end
    → Appends (records_of true (append_known known waiting))
    (records_of (not is_end) (append_known known (waiting ++ bytes))) bytes
put known waiting bytes is_end piece = more true (not is_end) known waiting bytes bytes piece.whole piece.ends

pub records_kept : (b : Bool) (old new : Option (List ℕ)) → Keeps old new
    → Keeps (records_of b old) (records_of b new)
records_kept b None new p = tt
records_kept b (Some xs) None p = absurd p
records_kept b (Some xs) (Some ys) p =
    subst (λ t. Keeps (records_of b (Some xs)) (records_of b (Some t))) (sym p) (Keeps-refl _)

-- the writer took the front of what waits
pub passed : (b : Bool) (old new : Option (List ℕ)) (front rest all : List ℕ) → Appends old new front
    → all ≡ front ++ rest
    → Keeps (records_of b (append_known old all)) (records_of b (append_known new rest))
passed b old new front rest all p e = records_kept b _ _ (append_known-moved old new front rest all p e)

-- it took all of it
pub ended : (b : Bool) (old new : Option (List ℕ)) (all : List ℕ) → Appends old new all
    → Keeps (records_of b (append_known old all)) (records_of b new)
ended b None new all p = tt
ended b (Some xs) None all p = absurd p
ended b (Some xs) (Some ys) all p =
    subst (λ t. Keeps (records_of b (Some (xs ++ all))) (records_of b (Some t))) (sym p) (Keeps-refl _)

-- nothing waits yet
pub opened : (known : Option (List ℕ))
    → Keeps (records_of false known) (records_of false (append_known known []))
opened None = tt
opened (Some xs) = subst (λ t. Keeps (records_of false (Some xs)) (records_of false (Some t)))
    (sym (append-nil xs)) (Keeps-refl _)

pub plain : (xs : List ℕ) → ((k : ℕ) → k < length xs → get_or xs k 0 ≡ 9 → ⊥) → IsPlain xs
plain [] none = record { none = refl; outside = refl }
plain (x ∷ xs) none =
    let is : (x == 9) ≡ false = ne_eqb x 9 (none 0 (omega arith)) in
    let rest = plain xs (λ k lt. none (suc k) (omega arith)) in
    record {
      none = ap (λ b. records_in b xs) is ∙ rest.none;
      outside = ap (λ b. ends_inside b xs) is ∙ rest.outside;
    }

pub unended : (xs : List ℕ) → ((k : ℕ) → k < length xs → get_or xs k 0 ≡ 10 → ⊥) → IsPiece xs false
unended [] none = record { whole = refl; ends = refl }
unended (x ∷ xs) none =
    let is : not (x == 10) ≡ true = ap not (ne_eqb x 10 (none 0 (omega arith))) in
    let rest = unended xs (λ k lt. none (suc k) (omega arith)) in
    record {
      whole = ap (λ b. x ∷ records_in b xs) is ∙ ap (λ l. x ∷ l) rest.whole;
      ends = ap (λ b. ends_inside b xs) is ∙ rest.ends;
    }

-- such bytes and then the line's end
pub with_end : (xs : List ℕ) → IsPiece xs false → IsPiece (xs ++ 10 ∷ []) true
with_end xs piece = record {
  whole = records_more true xs (10 ∷ []) ∙ ap (λ b. records_in true xs ++ records_in b (10 ∷ [])) piece.ends
      ∙ ap (λ l. l ++ 10 ∷ []) piece.whole;
  ends = inside_more true xs (10 ∷ []) ∙ ap (λ b. ends_inside b (10 ∷ [])) piece.ends;
}

-- what a search for a byte found
none_of : (byte : ℕ) (xs : List ℕ) (i : ℕ) → Nowhere (Passes (is_byte byte) xs) 0 i → (k : ℕ) → k < i
    → get_or xs k 0 ≡ byte → ⊥
none_of byte xs i none k lt e = none k (omega arith) lt (eq-eqb (get_or xs k 0) byte e)

pub untabbed : (xs : List ℕ) (found : Option ℕ) → IsFirstByte (is_byte 9) xs found
    → OnFalse (is_some found) (IsPlain xs)
untabbed xs None none = plain xs (none_of 9 xs (length xs) none)
untabbed xs (Some i) at = tt

pub piece_to_end : (xs : List ℕ) → Nowhere (Passes (is_byte 10) xs) 0 (length xs) → IsPiece xs false
piece_to_end xs none = unended xs (none_of 10 xs (length xs) none)

pub piece_to_line : (xs : List ℕ) (i : ℕ) → NoneBefore (Passes (is_byte 10) xs) 0 (length xs) i
    × Passes (is_byte 10) xs i → IsPiece (take (i + 1) xs) true
piece_to_line xs i found =
    let below : i < length xs = found.0.high in
    let last : get_or xs i 0 ≡ 10 = eqb-true (get_or xs i 0) 10 found.1 in
    let is : take (i + 1) xs ≡ take i xs ++ 10 ∷ [] =
    take-add i 1 xs ∙ ap (λ (l : List ℕ). take i xs ++ take 1 l) (drop_more xs i 0 below)
    ∙ ap (λ (x : ℕ). take i xs ++ x ∷ []) last in
    let none = unended (take i xs) (λ k lt e.
    let less : k < i = omega (arith, length-take i xs) in
    none_of 10 xs i found.0.before k less (sym (get_or-take i xs k 0 less) ∙ e)) in
    subst (λ piece. IsPiece piece true) (sym is) (with_end (take i xs) none)

-- ---- one call after another

pub then_more : (a b c : Option (List ℕ)) (bytes : List ℕ) → Keeps a b → Appends b c bytes → Appends a c bytes
then_more None b c bytes p q = tt
then_more (Some xs) None c bytes p q = absurd p
then_more (Some xs) (Some ys) None bytes p q = absurd q
then_more (Some xs) (Some ys) (Some zs) bytes p q = q ∙ ap (λ l. l ++ bytes) p

pub then_written : {E : Type 0} (a b c : Option (List ℕ)) (r : Result ℕ E) (bytes : List ℕ) → Keeps a b
    → WriteAppends b c r bytes → WriteAppends a c r bytes
then_written a b c (Ok n) bytes p q = then_more a b c (take n bytes) p q
then_written a b c (Err e) bytes p q = Keeps-trans a b c p q

-- ---- what waits, before and behind a call

pub same_records : (b c : Bool) (known known' : Option (List ℕ)) (waiting waiting' : List ℕ) → c ≡ b
    → known' ≡ known → waiting' ≡ waiting
    → Keeps (records_of b (append_known known waiting)) (records_of c (append_known known' waiting'))
same_records b c known known' waiting waiting' p q r = rw (p, q, r) (Keeps-refl _)

-- a text without a tab is put behind those that wait, or there is no memory for it
pub said_or_not : (is_ok b c : Bool) (known known' : Option (List ℕ)) (waiting waiting' text : List ℕ)
    → b ≡ false → c ≡ b → known' ≡ known
    → waiting' ≡ (if is_ok then waiting ++ text else waiting) → IsPlain text
    → Keeps (records_of b (append_known known waiting)) (records_of c (append_known known' waiting'))
said_or_not true b c known known' waiting waiting' text is p q r plain =
    rw (p, is, q, r) (said known waiting text plain)
said_or_not false b c known known' waiting waiting' text is p q r plain =
    same_records b c known known' waiting waiting' p q r

-- a tab is
pub begun_then : (b : Bool) (known known' : Option (List ℕ)) (waiting waiting' : List ℕ) → b ≡ false
    → known' ≡ known → waiting' ≡ waiting ++ 9 ∷ []
    → Keeps (records_of b (append_known known waiting)) (records_of true (append_known known' waiting'))
begun_then b known known' waiting waiting' is q r = rw (is, q, r) (begun known waiting)

-- a piece of a record is
pub put_then : (b is_end : Bool) (old known known' : Option (List ℕ)) (waiting waiting' bytes : List ℕ)
    → Keeps old (records_of b (append_known known waiting))
    → b ≡ true → known' ≡ known → waiting' ≡ waiting ++ bytes → IsPiece bytes is_end
    → Appends old (records_of (not is_end) (append_known known' waiting')) bytes
put_then b is_end old known known' waiting waiting' bytes kept is q r piece =
    rw (q, r) (then_more old _ _ bytes (subst (λ d. Keeps old (records_of d (append_known known waiting))) is
    kept) (put known waiting bytes is_end piece))
