-- The segments of one direction, and how many bytes they have.
use Rattle.std.proofs.Common.{◌≡◌, ◌≤◌, ◌+◌, Bool, true, false, if◌then◌else◌, List, [], ◌∷◌, ◌++◌, length, sum_by, refl, sym, ap, ◌∙◌, arith}
use Rattle.std.proofs.lemmas.List.Sums.{sum_by-append, sum_by-cons}
use Rattle.std.proofs.lemmas.List.Concat.{length-flat_map}
use Rattle.std.proofs.lemmas.List.FromFn.{length-range_with_len}
use Rattle.std.specs.Prelude.{All}
use Rattle.std.proofs.lemmas.List.Elements.{All-nil, All-cons, All-head, All-tail}
use Rattle.guest_memory.specs.Memory.{Memory, Inside, part_of}
use Rattle.guest_memory.proofs.Ranges.{length-part_of}
use Rattle.chain.specs.declared.segment.Segment.{Segment}
use Rattle.chain.specs.declared.segment.Buffer.{Buffer}
use Rattle.chain.specs.Buffers.{Within, total_len}
use Rattle.chain.specs.Bytes.{segments_of, addresses, addresses_of, readable_of, len_of}

pub segments_of-append : (w : Bool) (xs ys : List Buffer) → segments_of w (xs ++ ys) ≡ segments_of w xs
    ++ segments_of w ys
segments_of-append w [] ys = refl
segments_of-append true (b ∷ xs) ys =
    let rest = segments_of-append true xs ys in
    elim b.writable as (λ v. (if v then b.segment ∷ segments_of true (xs
    ++ ys) else segments_of true (xs ++ ys))
    ≡ (if v then b.segment ∷ segments_of true xs else segments_of true xs) ++ segments_of true ys)
    [ true ↦ ap (λ (l : List Segment). b.segment ∷ l) rest | false ↦ rest ]
segments_of-append false (b ∷ xs) ys =
    let rest = segments_of-append false xs ys in
    elim b.writable as (λ v. (if v then segments_of false (xs ++ ys) else b.segment
    ∷ segments_of false (xs ++ ys))
    ≡ (if v then segments_of false xs else b.segment ∷ segments_of false xs) ++ segments_of false ys)
    [ true ↦ rest | false ↦ ap (λ (l : List Segment). b.segment ∷ l) rest ]

pub len_of-append : (w : Bool) (xs ys : List Buffer) → len_of w (xs ++ ys) ≡ len_of w xs + len_of w ys
len_of-append w xs ys =
    ap (sum_by (λ (s : Segment). s.len)) (segments_of-append w xs ys)
    ∙ sum_by-append (λ (s : Segment). s.len) (segments_of w xs) (segments_of w ys)

-- a segment has as many addresses as bytes
addresses_count : (ss : List Segment) → sum_by (λ s. length (addresses s)) ss ≡ sum_by (λ s. s.len) ss
addresses_count [] = refl
addresses_count (s ∷ ss) = let e = length-range_with_len s.addr s.len in let f = addresses_count ss in
    sum_by-cons (λ (s : Segment). length (addresses s)) s ss ∙ (cc (e, f))
    ∙ sym (sum_by-cons (λ (s : Segment). s.len) s ss)

-- there are as many addresses of a direction as its buffers say
pub length-addresses_of : (w : Bool) (buffers : List Buffer)
    → length (addresses_of w buffers) ≡ len_of w buffers
length-addresses_of w buffers = length-flat_map addresses (segments_of w buffers)
    ∙ addresses_count (segments_of w buffers)

readable_count : (m : Memory) (ss : List Segment) → All (λ (s : Segment). Inside m s.addr s.len) ss
    → sum_by (λ s. length (part_of m s.addr s.len)) ss ≡ sum_by (λ s. s.len) ss
readable_count m [] h = refl
readable_count m (s ∷ ss) h =
    let e = length-part_of m s.addr s.len (All-head (λ (s : Segment). Inside m s.addr s.len) s ss h) in
    let f = readable_count m ss (All-tail (λ (s : Segment). Inside m s.addr s.len) s ss h) in
    sum_by-cons (λ (s : Segment). length (part_of m s.addr s.len)) s ss ∙ (cc (e, f))
    ∙ sym (sum_by-cons (λ (s : Segment). s.len) s ss)

pub All-segments_of : (m : Memory) (w : Bool) (buffers : List Buffer) → All (Within m) buffers
    → All (λ (s : Segment). Inside m s.addr s.len) (segments_of w buffers)
All-segments_of m w [] h = All-nil (λ (s : Segment). Inside m s.addr s.len)
All-segments_of m true (b ∷ bs) h =
    let head = All-head (Within m) b bs h in
    let rest = All-segments_of m true bs (All-tail (Within m) b bs h) in
    elim b.writable as (λ v. All (λ (s : Segment). Inside m s.addr s.len) (if v then b.segment
    ∷ segments_of true bs else segments_of true bs)) [
      | true ↦ All-cons (λ (s : Segment). Inside m s.addr s.len) b.segment (segments_of true bs) head
          rest
      | false ↦ rest
    ]
All-segments_of m false (b ∷ bs) h =
    let head = All-head (Within m) b bs h in
    let rest = All-segments_of m false bs (All-tail (Within m) b bs h) in
    elim b.writable as (λ v. All (λ (s : Segment). Inside m s.addr s.len)
    (if v then segments_of false bs else b.segment ∷ segments_of false bs)) [
      | true ↦ rest
      | false ↦ All-cons (λ (s : Segment). Inside m s.addr s.len) b.segment
          (segments_of false bs) head rest
    ]

-- the readable list is as long as its buffers say
pub length-readable_of : (m : Memory) (buffers : List Buffer) → All (Within m) buffers
    → length (readable_of m buffers) ≡ len_of false buffers
length-readable_of m buffers h =
    length-flat_map (λ s. part_of m s.addr s.len) (segments_of false buffers)
    ∙ readable_count m (segments_of false buffers) (All-segments_of m false buffers h)

-- one direction has at most the bytes of both
pub len_of-le : (w : Bool) (buffers : List Buffer) → len_of w buffers ≤ total_len buffers
len_of-le w [] = omega arith
len_of-le true (b ∷ bs) =
    let rest = len_of-le true bs in
    let t = sum_by-cons (λ (b : Buffer). b.segment.len) b bs in
    let s = sum_by-cons (λ (s : Segment). s.len) b.segment (segments_of true bs) in
    elim b.writable as (λ v. sum_by (λ (s : Segment). s.len) (if v then b.segment
    ∷ segments_of true bs else segments_of true bs) ≤ total_len (b ∷ bs))
    [ true ↦ omega (arith, rest, t, s) | false ↦ omega (arith, rest, t) ]
len_of-le false (b ∷ bs) =
    let rest = len_of-le false bs in
    let t = sum_by-cons (λ (b : Buffer). b.segment.len) b bs in
    let s = sum_by-cons (λ (s : Segment). s.len) b.segment (segments_of false bs) in
    elim b.writable as (λ v. sum_by (λ (s : Segment). s.len) (if v then segments_of false bs else b.segment
    ∷ segments_of false bs) ≤ total_len (b ∷ bs))
    [ true ↦ omega (arith, rest, t) | false ↦ omega (arith, rest, t, s) ]
