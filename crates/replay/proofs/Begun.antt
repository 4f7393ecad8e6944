-- What began with an event, by two sets of tags: those that stayed taken, and those that are taken behind it.
use Rattle.std.proofs.Common.{◌≡◌, ◌≢◌, ℕ, zero, suc, ◌+◌, ◌-◌, ◌*◌, ◌%◌, ◌^◌, ◌<◌, ◌≤◌, min, Bool, true, false, List, [], ◌∷◌, ◌++◌, Option, None, Some, get_or, refl, sym, ap, subst, ◌∙◌, append_assoc, append-nil, arith, inl, inr, bit_and, w64}
use Rattle.std.specs.Int.{bit_at, bit_not, trailing_zeros}
use Rattle.std.specs.List.{flat_map}
use Rattle.std.specs.Prelude.{if◌then◌else◌, is_none, set}
use Rattle.std.proofs.lemmas.Bool.{cases_eq, cases_lt}
use Rattle.std.proofs.lemmas.List.{get_or-set_other}
use Rattle.std.proofs.lemmas.List.Concat.{flat_map-append}
use Rattle.std.proofs.lemmas.Nat.Bits.{bit_at-zero, bit_at_above, bit_at_and, bit_at_not, bit_at_clear_other, bit_at_clear_same, bit_at-trailing_zeros, same_from_bits}
use Rattle.std.proofs.lemmas.Nat.{and_le_l}
use Rattle.block_device.specs.Flights.{InFlight}
use Rattle.block_device.specs.Tags.{taken_bits}
use Rattle.block_device.proofs.Bits.{bit_taken as bit_there}
use Rattle.replay.specs.Asking.{PutsBegun, TakesOne, begun_text, is_nil}
use Rattle.replay.specs.Telling.{begun_between, begun_by_tag, begun_from, told_by_tag}
use Rattle.trace.specs.Asked.{Begun, asked_field, begun_field, none_mark, other_begun, sign_before}
use Rattle.trace.specs.Sends.{Sends}
use Rattle.trace.proofs.Passing.{sends_more, sends_none, sends_same}

-- ---- tags as bits

-- whether a tag is taken
abbrev bit_of : Option InFlight → ℕ
bit_of None = 0
bit_of (Some here) = 1

bit_in : (tags : List (Option InFlight)) (i : ℕ) (tag : Option InFlight) → get_or tags i None ≡ tag
    → bit_at (taken_bits tags) i ≡ bit_of tag
bit_in tags i None is = rw is at (bit_there tags i)
bit_in tags i (Some here) is = rw is at (bit_there tags i)

bit_taken : (tags : List (Option InFlight)) (i : ℕ) → bit_at (taken_bits tags) i ≡ bit_of (get_or tags i None)
bit_taken tags i = bit_in tags i (get_or tags i None) refl

-- a set of tags without one
set_same : (tags : List (Option InFlight)) (k : ℕ) → get_or (set tags k None) k None ≡ None
set_same [] k = refl
set_same (x ∷ tags) zero = refl
set_same (x ∷ tags) (suc k) = set_same tags k

-- the same bits but for one
without_one : (n rest k : ℕ) (tags : List (Option InFlight)) → n ≡ taken_bits tags → bit_at rest k ≡ 0
    → ((i : ℕ) → i ≢ k → bit_at rest i ≡ bit_at n i) → rest ≡ taken_bits (set tags k None)
without_one n rest k tags is gone kept =
    same_from_bits rest (taken_bits (set tags k None)) each
  where
    each : (i : ℕ) → bit_at rest i ≡ bit_at (taken_bits (set tags k None)) i
    each i =
        elim (cases_eq i k) [
          | inl same ↦
              rw same (gone ∙ sym (bit_taken (set tags k None) k ∙ ap bit_of (set_same tags k)))
          | inr other ↦
              kept i other ∙ ap (λ (m : ℕ). bit_at m i) is ∙ bit_taken tags i
              ∙ sym (bit_taken (set tags k None) i ∙ ap bit_of (get_or-set_other tags k i None None other))
        ]

-- one bit cleared
clear_other : (n k i : ℕ) → n < 2 ^ 64 → k < 64 → i ≢ k
    → bit_at (bit_and n (bit_not w64 (1 * 2 ^ k % 2 ^ 64))) i ≡ bit_at n i
clear_other n k i fits small other =
    elim (cases_lt i 64) [
      | inl low ↦ bit_at_clear_other w64 n k small i low other
      | inr high ↦
          let less = and_le_l n (bit_not w64 (1 * 2 ^ k % 2 ^ 64)) in
          bit_at_above (bit_and n (bit_not w64 (1 * 2 ^ k % 2 ^ 64))) 64 i (omega (arith, less)) (omega arith)
          ∙ sym (bit_at_above n 64 i fits (omega arith))
    ]

pub bit_cleared : (n k : ℕ) (tags : List (Option InFlight)) → n < 2 ^ 64 → k < 64 → n ≡ taken_bits tags
    → bit_and n (bit_not w64 (1 * 2 ^ k % 2 ^ 64)) ≡ taken_bits (set tags k None)
bit_cleared n k tags fits small is =
    without_one n (bit_and n (bit_not w64 (1 * 2 ^ k % 2 ^ 64))) k tags is (bit_at_clear_same w64 n k small)
    (λ i other. clear_other n k i fits small other)

pub bit_beyond : (n k : ℕ) (tags : List (Option InFlight)) → n < 2 ^ 64 → 64 ≤ k → n ≡ taken_bits tags
    → n ≡ taken_bits (set tags k None)
bit_beyond n k tags fits high is =
    without_one n n k tags is (bit_at_above n 64 k fits high) (λ i other. refl)

-- the lowest tag
pub takes_lowest : (n : ℕ) → n < 2 ^ 64 → n ≢ 0
    → TakesOne n (trailing_zeros w64 n) (bit_and n (bit_not w64 (1 * 2 ^ trailing_zeros w64 n % 2 ^ 64)))
takes_lowest n fits some =
    let lowest = bit_at-trailing_zeros w64 n (omega (arith, some)) fits in
    let k = trailing_zeros w64 n in
    let rest = bit_and n (bit_not w64 (1 * 2 ^ k % 2 ^ 64)) in
    let less : rest ≤ n = and_le_l n (bit_not w64 (1 * 2 ^ k % 2 ^ 64)) in
    let gone : bit_at rest k ≡ 0 = bit_at_clear_same w64 n k lowest.0 in
    let other : rest ≢ n = λ same.
    let both : bit_at rest k ≡ 1 = ap (λ (m : ℕ). bit_at m k) same ∙ lowest.1 in omega (arith, gone, both) in
    record {
      small = lowest.0;
      there = lowest.1;
      lowest = lowest.2;
      gone = gone;
      kept = λ i apart. clear_other n k i fits lowest.0 apart;
      fewer = omega (arith, less, other);
    }

-- ---- those that are in a set

abbrev chosen : ℕ → List Begun → List Begun
chosen zero one = []
chosen (suc bit) one = one

-- what the host is told of the tags from n on that are in a set
abbrev pub begun_in : Option ℕ → ℕ → ℕ → List (Option InFlight) → List Begun
begun_in whose tags n [] = []
begun_in whose tags n (here ∷ others) =
    chosen (bit_at tags n) (told_by_tag whose n here) ++ begun_in whose tags (suc n) others

-- of an empty set none
in_none : (whose : Option ℕ) (n : ℕ) (all : List (Option InFlight)) → begun_in whose 0 n all ≡ []
in_none whose n [] = refl
in_none whose n (here ∷ others) = rw (bit_at-zero n) (in_none whose (suc n) others)

-- sets that are the same from n on
in_same : (whose : Option ℕ) (one other n : ℕ) (all : List (Option InFlight)) → ((i : ℕ) → n ≤ i → bit_at one i ≡ bit_at other i)
    → begun_in whose one n all ≡ begun_in whose other n all
in_same whose one other n [] same = refl
in_same whose one other n (here ∷ others) same =
    rw (same n (omega arith), in_same whose one other (suc n) others (λ i le. same i (omega (arith, le)))) refl

-- a set from n on, by its lowest tag, which is k further
in_lowest : (whose : Option ℕ) (tags rest n k : ℕ) (all : List (Option InFlight)) → bit_at tags (n + k) ≡ 1
    → ((i : ℕ) → i < n + k → bit_at tags i ≡ 0) → bit_at rest (n + k) ≡ 0
    → ((i : ℕ) → i ≢ n + k → bit_at rest i ≡ bit_at tags i)
    → begun_in whose tags n all ≡ told_by_tag whose (n + k) (get_or all k None) ++ begun_in whose rest n all
in_lowest whose tags rest n k [] there low gone kept = refl
in_lowest whose tags rest n zero (here ∷ others) there low gone kept =
    let at : n + 0 ≡ n = omega arith in
    rw (rw at at there, rw at at gone, at)
    (ap (λ (more : List Begun). told_by_tag whose n here ++ more)
    (sym (in_same whose rest tags (suc n) others (λ i le. kept i (λ same. omega (arith, le, same))))))
in_lowest whose tags rest n (suc k) (here ∷ others) there low gone kept =
    let at : n + suc k ≡ suc n + k = omega arith in
    let none : bit_at tags n ≡ 0 = low n (omega arith) in
    let same : bit_at rest n ≡ 0 = kept n (λ is. omega (arith, is)) ∙ none in
    rw (none, same, at)
    (in_lowest whose tags rest (suc n) k others (rw at at there) (λ i lt. low i (omega (arith, lt))) (rw at at gone)
    (λ i other. kept i (λ is. other (is ∙ at))))

-- the same of a whole set
in_first : (whose : Option ℕ) (tags rest k : ℕ) (all : List (Option InFlight)) → bit_at tags k ≡ 1
    → ((i : ℕ) → i < k → bit_at tags i ≡ 0) → bit_at rest k ≡ 0
    → ((i : ℕ) → i ≢ k → bit_at rest i ≡ bit_at tags i)
    → begun_in whose tags 0 all ≡ told_by_tag whose k (get_or all k None) ++ begun_in whose rest 0 all
in_first whose tags rest k all there low gone kept =
    let at : 0 + k ≡ k = omega arith in
    rw at at (in_lowest whose tags rest 0 k all (rw at there) (rw at low) (rw at gone) (rw at kept))

-- ---- those that began

-- the bit of what began by a tag
abbrev fresh_bit : Option InFlight → Option InFlight → ℕ
fresh_bit (Some stayed) behind = 0
fresh_bit None behind = bit_of behind

one_begun : (whose : Option ℕ) (n : ℕ) (stayed behind : Option InFlight)
    → chosen (fresh_bit stayed behind) (told_by_tag whose n behind) ≡ begun_by_tag whose n stayed behind
one_begun whose n (Some stayed) behind = refl
one_begun whose n None None = refl
one_begun whose n None (Some here) = refl

begun_are : (whose : Option ℕ) (fresh n : ℕ) (stayed all : List (Option InFlight))
    → ((k : ℕ) → bit_at fresh (n + k) ≡ fresh_bit (get_or stayed (n + k) None) (get_or all k None))
    → begun_in whose fresh n all ≡ begun_from whose n stayed all
begun_are whose fresh n stayed [] bits = refl
begun_are whose fresh n stayed (behind ∷ others) bits =
    let at : n + 0 ≡ n = omega arith in
    let bit : bit_at fresh n ≡ fresh_bit (get_or stayed n None) behind = rw at at (bits 0) in
    let more = begun_are whose fresh (suc n) stayed others (λ k. let next : n + suc k ≡ suc n + k = omega arith in
    rw next at (bits (suc k))) in
    rw (bit, one_begun whose n (get_or stayed n None) behind, more) refl

-- the set of the tags that are taken behind an event and did not stay taken
fresh_at : (taken stayed : ℕ) (before all : List (Option InFlight)) → taken < 2 ^ 64 → stayed < 2 ^ 64
    → taken ≡ taken_bits all → stayed ≡ taken_bits before → (i : ℕ)
    → bit_at (bit_and taken (bit_not w64 stayed)) i ≡ fresh_bit (get_or before i None) (get_or all i None)
fresh_at taken stayed before all fits small is was i =
    elim (cases_lt i 64) [
      | inl low ↦
          bit_at_and taken (bit_not w64 stayed) i
          ∙ ap (λ (b : ℕ). min (bit_at taken i) b) (bit_at_not w64 stayed i small low)
          ∙ rw (has, had) (both (get_or before i None) (get_or all i None))
      | inr high ↦
          let less : bit_and taken (bit_not w64 stayed) ≤ taken = and_le_l taken (bit_not w64 stayed) in
          let none : bit_of (get_or all i None) ≡ 0 = sym has ∙ bit_at_above taken 64 i fits (omega arith) in
          bit_at_above (bit_and taken (bit_not w64 stayed)) 64 i (omega (arith, less)) (omega arith)
          ∙ sym (neither (get_or before i None) (get_or all i None) none)
    ]
  where
    has : bit_at taken i ≡ bit_of (get_or all i None)
    has = ap (λ (n : ℕ). bit_at n i) is ∙ bit_taken all i

    had : bit_at stayed i ≡ bit_of (get_or before i None)
    had = ap (λ (n : ℕ). bit_at n i) was ∙ bit_taken before i

    both : (b a : Option InFlight) → min (bit_of a) (1 - bit_of b) ≡ fresh_bit b a
    both None None = refl
    both None (Some here) = refl
    both (Some there) None = refl
    both (Some there) (Some here) = refl

    neither : (b a : Option InFlight) → bit_of a ≡ 0 → fresh_bit b a ≡ 0
    neither None a none = none
    neither (Some there) a none = refl

pub begun_of : (whose : Option ℕ) (taken stayed : ℕ) (before all : List (Option InFlight)) → taken < 2 ^ 64 → stayed < 2 ^ 64
    → taken ≡ taken_bits all → stayed ≡ taken_bits before
    → begun_in whose (bit_and taken (bit_not w64 stayed)) 0 all ≡ begun_from whose 0 before all
begun_of whose taken stayed before all fits small is was =
    begun_are whose (bit_and taken (bit_not w64 stayed)) 0 before all
    (λ k. let at : 0 + k ≡ k = omega arith in rw at (fresh_at taken stayed before all fits small is was k))

-- nothing begins where the tags are as they were
none_from : (whose : Option ℕ) (n : ℕ) (stayed all : List (Option InFlight))
    → ((k : ℕ) → get_or stayed (n + k) None ≡ get_or all k None) → begun_from whose n stayed all ≡ []
none_from whose n stayed [] same = refl
none_from whose n stayed (here ∷ others) same =
    let at : n + 0 ≡ n = omega arith in
    let first : get_or stayed n None ≡ here = rw at at (same 0) in
    let more = none_from whose (suc n) stayed others (λ k. let next : n + suc k ≡ suc n + k = omega arith in
    rw next at (same (suc k))) in
    rw (first, by_itself n here, more) refl
  where
    by_itself : (n : ℕ) (o : Option InFlight) → begun_by_tag whose n o o ≡ []
    by_itself n None = refl
    by_itself n (Some here) = refl

pub nothing_begins : (whose : Option ℕ) (tags : List (Option InFlight)) → begun_between whose None tags tags ≡ []
nothing_begins whose tags = none_from whose 0 tags tags
    (λ k. let at : 0 + k ≡ k = omega arith in ap (λ (n : ℕ). get_or tags n None) at)

-- ---- their text

-- behind others each comes after a sign
behind_others : (more : List Begun) → begun_text false more ≡ flat_map other_begun more
behind_others [] = refl
behind_others (one ∷ others) = refl

text_more : (first : Bool) (done more : List Begun)
    → begun_text first done ++ begun_text (if is_nil done then first else false) more
    ≡ begun_text first (done ++ more)
text_more first [] more = refl
text_more first (one ∷ others) more =
    append_assoc (sign_before first ++ begun_field one) (flat_map other_begun others) (begun_text false more)
    ∙ ap (λ (t : List ℕ). (sign_before first ++ begun_field one) ++ t)
    (ap (λ (t : List ℕ). flat_map other_begun others ++ t) (behind_others more)
    ∙ sym (flat_map-append other_begun others more))

-- all of them, with the end of the line
text_whole : (begun : List Begun)
    → begun_text true begun ++ (none_mark (is_nil begun) ++ 10 ∷ []) ≡ asked_field begun ++ 10 ∷ []
text_whole [] = refl
text_whole (one ∷ others) = refl

-- ---- put one after another

-- some of the operations of a set are put, and those of these tags are left
pub record PutSofar (whose : Option ℕ) (all : List (Option InFlight)) (tags left : ℕ) (is_first is_none : Bool)
    (a b s t : Option (List ℕ)) : Type 0 where
  pub done : List Begun
  pub puts : PutsBegun done is_first is_none a b s t
  pub whole : done ++ begun_in whose left 0 all ≡ begun_in whose tags 0 all

pub put_none : (whose : Option ℕ) (all : List (Option InFlight)) (tags : ℕ) (first : Bool) (a s : Option (List ℕ))
    → PutSofar whose all tags tags first first a a s s
put_none whose all tags first a s =
    record { done = []; puts = record { sent = sends_none a s; none = refl }; whole = refl }

none_of : (first : Bool) (done more : List Begun)
    → (if is_nil more then (if is_nil done then first else false) else false)
    ≡ (if is_nil (done ++ more) then first else false)
none_of first [] more = refl
none_of first (one ∷ others) [] = refl
none_of first (one ∷ others) (x ∷ more) = refl

-- those of one disk and then others
pub puts_more : (done more : List Begun) (first was now : Bool) (a b c s t u : Option (List ℕ))
    → PutsBegun done first was a b s t → PutsBegun more was now b c t u
    → PutsBegun (done ++ more) first now a c s u
puts_more done more first was now a b c s t u h k = record {
  sent = sends_same a c s u _ _ (text_more first done more) (sends_more a b c s t u _ _ h.sent
      (subst (λ (w : Bool). Sends b c t (begun_text w more) u) h.none k.sent));
  none = k.none ∙ ap (λ (w : Bool). if is_nil more then w else false) h.none ∙ none_of first done more;
}

told_none : (whose : Option ℕ) (tag : ℕ) (o : Option InFlight) (was : Bool)
    → (if is_none o then was else false) ≡ (if is_nil (told_by_tag whose tag o) then was else false)
told_none whose tag None was = refl
told_none whose tag (Some here) was = refl

-- one more
pub put_one : (whose : Option ℕ) (all : List (Option InFlight)) (tags left tag others : ℕ) (first was now : Bool)
    (a b c s t u : Option (List ℕ)) → PutSofar whose all tags left first was a b s t → TakesOne left tag others
    → Sends b c t (begun_text was (told_by_tag whose tag (get_or all tag None))) u
    → now ≡ (if is_none (get_or all tag None) then was else false)
    → PutSofar whose all tags others first now a c s u
put_one whose all tags left tag others first was now a b c s t u so takes sent is =
    let one = told_by_tag whose tag (get_or all tag None) in
    record {
      done = so.done ++ one;
      puts = puts_more so.done one first was now a b c s t u so.puts
          (record { sent = sent; none = is ∙ told_none whose tag (get_or all tag None) was });
      whole =
          append_assoc so.done one (begun_in whose others 0 all)
          ∙ ap (λ (xs : List Begun). so.done ++ xs)
          (sym (in_first whose left others tag all takes.there takes.lowest takes.gone takes.kept))
          ∙ so.whole;
    }

-- all
pub put_all : (whose : Option ℕ) (all before : List (Option InFlight)) (taken stayed left : ℕ) (first was : Bool)
    (a b s t : Option (List ℕ)) → taken < 2 ^ 64 → stayed < 2 ^ 64 → taken ≡ taken_bits all
    → PutSofar whose all (bit_and taken (bit_not w64 stayed)) left first was a b s t → left ≡ 0
    → stayed ≡ taken_bits before → PutsBegun (begun_from whose 0 before all) first was a b s t
put_all whose all before taken stayed left first was a b s t fits small is so none from =
    let rest : begun_in whose left 0 all ≡ [] = rw none (in_none whose 0 all) in
    let whole : so.done ≡ begun_from whose 0 before all =
    sym (append-nil so.done) ∙ ap (λ (xs : List Begun). so.done ++ xs) (sym rest) ∙ so.whole
    ∙ begun_of whose taken stayed before all fits small is from in
    subst (λ (begun : List Begun). PutsBegun begun first was a b s t) whole so.puts

-- and the end of the line
none_is : (begun : List Begun) → (if is_nil begun then true else false) ≡ is_nil begun
none_is [] = refl
none_is (one ∷ others) = refl

pub puts_asked : (begun : List Begun) (was : Bool) (a b c s t u : Option (List ℕ))
    → PutsBegun begun true was a b s t → Sends b c t (none_mark was ++ 10 ∷ []) u
    → Sends a c s (asked_field begun ++ 10 ∷ []) u
puts_asked begun was a b c s t u h last =
    sends_same a c s u _ _ (text_whole begun)
    (sends_more a b c s t u _ _ h.sent
    (subst (λ (w : Bool). Sends b c t (none_mark w ++ 10 ∷ []) u) (h.none ∙ none_is begun) last))
