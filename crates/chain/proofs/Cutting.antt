-- Runs of a chain, one after another from the first place on.
use Rattle.std.proofs.Common.{◌≡◌, ℕ, suc, true, false, ◌+◌, ◌-◌, ◌<◌, ◌≤◌, Bool, if◌then◌else◌, List, [], ◌∷◌, ◌++◌, length, length-append, take, drop, zero, refl, sym, ap, ◌∙◌, arith, inl, inr}
use Rattle.std.specs.Prelude.{min, All}
use Rattle.std.specs.List.{filter, flat_map, range_with_len}
use Rattle.std.proofs.Math.Nat.{sub-add-min_cancel}
use Rattle.std.proofs.lemmas.Bool.{cases_lt, lt-ltb, le-ltb}
use Rattle.std.proofs.lemmas.List.{append_assoc, append-nil, drop-drop}
use Rattle.std.proofs.lemmas.List.Elements.{All-cons, All-head, All-nil, All-tail}
use Rattle.std.proofs.lemmas.List.Sums.{count_by-le-length, length-filter, sum_by-cons}
use Rattle.guest_memory.specs.Memory.{Memory}
use Rattle.guest_memory.proofs.Ranges.{inside_part, take-plus}
use Rattle.chain.specs.declared.segment.Segment.{Segment}
use Rattle.chain.specs.declared.segment.Buffer.{Buffer}
use Rattle.chain.specs.Bytes.{addresses, rest_at, segments_of}
use Rattle.chain.specs.Runs.{cut, cuts, has_bytes, runs_of}
use Rattle.chain.proofs.Places.{InMemory, rest_addresses, rest_some, size}

empty_left_out : (c : Segment) (cs : List Segment) → c.len ≤ 0
    → filter has_bytes (c ∷ cs) ≡ filter has_bytes cs
empty_left_out c cs h = rw (le-ltb 0 c.len h) refl

run_kept : (c : Segment) (cs : List Segment) → 0 < c.len → filter has_bytes (c ∷ cs) ≡ c ∷ filter has_bytes cs
run_kept c cs h = rw (lt-ltb 0 c.len h) refl

-- of no places there is no run
pub runs_none : (ss : List Segment) (from to : ℕ) → to ≤ from → runs_of from to ss ≡ []
runs_none [] from to h = refl
runs_none (s ∷ ss) from to h =
    let m = sub-add-min_cancel to s.len in
    empty_left_out (cut from to s) (cuts (from - s.len) (to - s.len) ss) (omega (arith, m, h))
    ∙ runs_none ss (from - s.len) (to - s.len) (omega (arith, h))

-- the first run, and those behind it
pub runs_more : (ss : List Segment) (from to n : ℕ) → from < to → to ≤ size ss
    → n ≡ min (rest_at ss from).len (to - from)
    → runs_of from to ss ≡ record { addr = (rest_at ss from).addr; len = n } ∷ runs_of (from + n) to ss
runs_more [] from to n h fits is = absurd (omega (arith, h, fits))
runs_more (s ∷ ss) from to n h fits is =
    let whole = sum_by-cons (λ (s : Segment). s.len) s ss in
    let m = sub-add-min_cancel to s.len in
    elim (cases_lt from s.len) [
      | inl near ↦
          let r : rest_at (s ∷ ss) from ≡ record { addr = s.addr + from; len = s.len - from } =
          rw (lt-ltb from s.len near) refl in
          let few : n ≡ min (s.len - from) (to - from) = is ∙ ap (λ (r : Segment). min r.len (to - from)) r in
          let k = sub-add-min_cancel (s.len - from) (to - from) in
          let same : min to s.len - from ≡ n = omega (arith, m, few, k, near, h) in
          let later : from - s.len ≡ from + n - s.len = omega (arith, few, k, near, h) in
          run_kept (cut from to s) (cuts (from - s.len) (to - s.len) ss) (omega (arith, m, near, h))
          ∙ ap (λ l. record { addr = s.addr + from; len = l } ∷ runs_of (from - s.len) (to - s.len) ss) same
          ∙ ap (λ k. record { addr = s.addr + from; len = n } ∷ runs_of k (to - s.len) ss) later
          ∙ ap (λ l. record { addr = s.addr + from; len = n } ∷ l)
          (sym (empty_left_out (cut (from + n) to s) (cuts (from + n - s.len) (to - s.len) ss)
          (omega (arith, m, few, k, near, h))))
          ∙ ap (λ (r : Segment). record { addr = r.addr; len = n } ∷ runs_of (from + n) to (s ∷ ss)) (sym r)
      | inr far ↦
          let r : rest_at (s ∷ ss) from ≡ rest_at ss (from - s.len) = rw (le-ltb from s.len far) refl in
          let left : to - s.len - (from - s.len) ≡ to - from = omega (arith, far, h) in
          let few : n ≡ min (rest_at ss (from - s.len)).len (to - s.len - (from - s.len)) =
          is ∙ ap (λ (r : Segment). min r.len (to - from)) r
          ∙ ap (min (rest_at ss (from - s.len)).len) (sym left) in
          let next : from - s.len + n ≡ from + n - s.len = omega (arith, far) in
          empty_left_out (cut from to s) (cuts (from - s.len) (to - s.len) ss) (omega (arith, m, far))
          ∙ runs_more ss (from - s.len) (to - s.len) n (omega (arith, far, h))
          (omega (arith, whole, fits)) few
          ∙ ap (λ k. record { addr = (rest_at ss (from - s.len)).addr; len = n }
          ∷ runs_of k (to - s.len) ss) next
          ∙ ap (λ l. record { addr = (rest_at ss (from - s.len)).addr; len = n } ∷ l)
          (sym (empty_left_out (cut (from + n) to s) (cuts (from + n - s.len) (to - s.len) ss)
          (omega (arith, m, far))))
          ∙ ap (λ (r : Segment). record { addr = r.addr; len = n } ∷ runs_of (from + n) to (s ∷ ss)) (sym r)
    ]

-- there are no more runs than segments, and no more segments than buffers
length-cuts : (ss : List Segment) (from to : ℕ) → length (cuts from to ss) ≡ length ss
length-cuts [] from to = refl
length-cuts (s ∷ ss) from to = ap suc (length-cuts ss (from - s.len) (to - s.len))

either_few : (w : Bool) (xs ys : List Segment) (n : ℕ) → length xs ≤ n → length ys ≤ n
    → length (if w then xs else ys) ≤ n
either_few true xs ys n few _ = few
either_few false xs ys n _ few = few

length-segments_of : (writable : Bool) (xs : List Buffer) → length (segments_of writable xs) ≤ length xs
length-segments_of writable [] = omega arith
length-segments_of true (b ∷ xs) =
    let h = length-segments_of true xs in
    either_few b.writable (b.segment ∷ segments_of true xs) (segments_of true xs) _
    (omega (arith, h)) (omega (arith, h))
length-segments_of false (b ∷ xs) =
    let h = length-segments_of false xs in
    either_few b.writable (segments_of false xs) (b.segment ∷ segments_of false xs) _
    (omega (arith, h)) (omega (arith, h))

pub runs_few : (writable : Bool) (xs : List Buffer) (from to : ℕ)
    → length (runs_of from to (segments_of writable xs)) ≤ length xs
runs_few writable xs from to =
    let ss = segments_of writable xs in
    omega (
      arith,
      length-filter has_bytes (cuts from to ss),
      count_by-le-length has_bytes (cuts from to ss),
      length-cuts ss from to,
      length-segments_of writable xs,
    )

-- one run more stands behind those that are there, and there is room for it
pub run_put : (writable : Bool) (xs : List Buffer) (from to place n : ℕ) (into into' : List Segment)
    (rest run : Segment)
    → into ++ runs_of place to (segments_of writable xs) ≡ runs_of from to (segments_of writable xs)
    → place < to → to ≤ size (segments_of writable xs) → rest ≡ rest_at (segments_of writable xs) place
    → n ≡ min rest.len (to - place)
    → run ≡ record { addr = rest.addr; len = n } → into' ≡ into ++ run ∷ []
    → into' ++ runs_of (place + n) to (segments_of writable xs) ≡ runs_of from to (segments_of writable xs)
run_put writable xs from to place n into into' rest run all h fits is few run_is put =
    let ss = segments_of writable xs in
    ap (λ l. l ++ runs_of (place + n) to ss) put
    ∙ append_assoc into (run ∷ []) (runs_of (place + n) to ss)
    ∙ ap (λ r. into ++ r ∷ runs_of (place + n) to ss) (run_is
    ∙ ap (λ (r : Segment). record { addr = r.addr; len = n }) is)
    ∙ ap (λ l. into ++ l) (sym (runs_more ss place to n h fits (few
    ∙ ap (λ (r : Segment). min r.len (to - place)) is)))
    ∙ all

pub run_fits : (writable : Bool) (xs : List Buffer) (from to place : ℕ) (into : List Segment)
    → into ++ runs_of place to (segments_of writable xs) ≡ runs_of from to (segments_of writable xs)
    → place < to → to ≤ size (segments_of writable xs) → length into < length xs
run_fits writable xs from to place into all h fits =
    let ss = segments_of writable xs in
    let more = ap length (runs_more ss place to (min (rest_at ss place).len (to - place)) h fits refl) in
    let together = length-append into (runs_of place to ss) in
    omega (arith, runs_few writable xs from to, ap length all, together, more)

-- behind the last place none is left
pub runs_end : (ss : List Segment) (from to place : ℕ) (into : List Segment) → into
    ++ runs_of place to ss ≡ runs_of from to ss → to ≤ place → into ≡ runs_of from to ss
runs_end ss from to place into all h = sym (append-nil into)
    ∙ ap (λ l. into ++ l) (sym (runs_none ss place to h)) ∙ all

-- ---- what the runs are of

-- every run lies where its buffer does
pub runs_inside : (m : Memory) (ss : List Segment) (from to : ℕ) → All (InMemory m) ss
    → All (InMemory m) (runs_of from to ss)
runs_inside m [] from to a = a
runs_inside m (s ∷ ss) from to a =
    let here = All-head (InMemory m) s ss a in
    let later = runs_inside m ss (from - s.len) (to - s.len) (All-tail (InMemory m) s ss a) in
    let k = sub-add-min_cancel to s.len in
    elim (cases_lt 0 (cut from to s).len) [
      | inl some ↦
          rw (run_kept (cut from to s) (cuts (from - s.len) (to - s.len) ss) some)
          (All-cons (InMemory m) (cut from to s) (runs_of (from - s.len) (to - s.len) ss)
          (inside_part here (omega arith) (omega (arith, some, k))) later)
      | inr none ↦ rw (empty_left_out (cut from to s) (cuts (from - s.len) (to - s.len) ss) none) later
    ]

-- the addresses of the runs are those of the places
none_listed : (ss : List Segment) (from to : ℕ) → to ≤ from
    → flat_map addresses (runs_of from to ss) ≡ take (to - from) (drop from (flat_map addresses ss))
none_listed ss from to h =
    let none : 0 ≡ to - from = omega (arith, h) in
    ap (flat_map addresses) (runs_none ss from to h)
    ∙ ap (λ n. take n (drop from (flat_map addresses ss))) none

pub runs_listed : (fuel : ℕ) (ss : List Segment) (from to : ℕ) → to - from ≤ fuel → to ≤ size ss
    → flat_map addresses (runs_of from to ss) ≡ take (to - from) (drop from (flat_map addresses ss))
runs_listed zero ss from to few fits = none_listed ss from to (omega (arith, few))
runs_listed (suc fuel) ss from to few fits =
    elim (cases_lt from to) [
      | inl some ↦
          let all = flat_map addresses ss in
          let rest = rest_at ss from in
          let n = min rest.len (to - from) in
          let k = sub-add-min_cancel rest.len (to - from) in
          let there : from < size ss = omega (arith, some, fits) in
          let split : n + (to - (from + n)) ≡ to - from = omega (arith, k, some) in
          ap (flat_map addresses) (runs_more ss from to n some fits refl)
          ∙ ap (λ l. range_with_len rest.addr n
          ++ l) (runs_listed fuel ss (from + n) to
          (omega (arith, few, rest_some ss from there, k, some)) fits)
          ∙ ap (λ l. l ++ take (to - (from + n)) (drop (from + n) all))
          (sym (rest_addresses ss from n there (omega (arith, k))))
          ∙ ap (λ l. take n (drop from all) ++ take (to - (from + n)) l) (sym (drop-drop n from all))
          ∙ sym (take-plus n (to - (from + n)) (drop from all))
          ∙ ap (λ j. take j (drop from all)) split
      | inr none ↦ none_listed ss from to none
    ]

-- none of them is empty
pub runs_some : (ss : List Segment) (from to : ℕ) → All (λ (s : Segment). 0 < s.len) (runs_of from to ss)
runs_some [] from to = All-nil (λ (s : Segment). 0 < s.len)
runs_some (s ∷ ss) from to =
    let later = runs_some ss (from - s.len) (to - s.len) in
    elim (cases_lt 0 (cut from to s).len) [
      | inl some ↦
          rw (run_kept (cut from to s) (cuts (from - s.len) (to - s.len) ss) some)
          (All-cons (λ (s : Segment). 0 < s.len) (cut from to s)
          (runs_of (from - s.len) (to - s.len) ss) some later)
      | inr none ↦ rw (empty_left_out (cut from to s) (cuts (from - s.len) (to - s.len) ss) none) later
    ]
