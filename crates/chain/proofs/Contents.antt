-- Reading and writing run by run, and what it comes to.
use Rattle.std.proofs.Common.{◌≡◌, ℕ, ◌+◌, ◌<◌, ◌≤◌, Bool, true, false, List, [], ◌∷◌, ◌++◌, length, take, drop, refl, sym, ap, ◌∙◌, arith, length-append}
use Rattle.std.specs.Prelude.{All}
use Rattle.std.specs.List.{range_with_len}
use Rattle.std.proofs.lemmas.List.FromFn.{length-range_with_len}
use Rattle.std.proofs.lemmas.List.{append-nil, drop-drop, length-take, length-drop, take-append-drop, take-take, length-take-le}
use borrow.Rule.Slice.PartMut.{put_mid}
use Rattle.guest_memory.specs.Memory.{Memory, Inside, put, part_of}
use Rattle.guest_memory.proofs.Ranges.{inside_part, inside_same, put-none, put-put, put_range, take-plus}
use Rattle.chain.specs.declared.segment.Buffer.{Buffer}
use Rattle.chain.specs.declared.segment.Segment.{Segment}
use Rattle.chain.specs.Buffers.{Within}
use Rattle.chain.specs.Bytes.{segments_of, addresses_of, len_of, readable_of, rest_at, scatter}
use Rattle.chain.proofs.Directions.{All-segments_of}
use Rattle.chain.proofs.Scattering.{scatter_none}
use Rattle.chain.proofs.Places.{rest_inside, rest_reads, rest_addresses}

-- part of what is left of a segment lies in the memory
pub part_inside : (m : Memory) (w : Bool) (xs : List Buffer) (place n : ℕ) → All (Within m) xs
    → place < len_of w xs
    → (r : Segment) → r ≡ rest_at (segments_of w xs) place → n ≤ r.len → Inside m r.addr n
part_inside m w xs place n a h r is l =
    let inside : Inside m r.addr r.len =
    rw is (rest_inside m (segments_of w xs) place (All-segments_of m w xs a) h) in
    inside_part inside (omega arith) (omega (arith, l))

-- one more run is read
pub read_run : (list part into new : List ℕ) (from done n : ℕ)
    → part ≡ take (length part) (drop (from + done) list) → n ≤ length part
    → take done into ≡ take done (drop from list) → take (done + n) new ≡ take done into ++ take n part
    → take (done + n) new ≡ take (done + n) (drop from list)
read_run list part into new from done n is l before e =
    let run : take n part ≡ take n (drop done (drop from list)) =
    ap (take n) is ∙ take-take n (length part) (drop (from + done) list) l
    ∙ ap (take n) (sym (drop-drop done from list)) in
    e ∙ rw (before, run) (sym (take-plus done n (drop from list)))

-- bytes put one by one at addresses in a row are put at once
pub scatter-range : (m : Memory) (a : ℕ) (bs : List ℕ) → Inside m a (length bs)
    → scatter m (range_with_len a (length bs)) bs ≡ put m a bs
scatter-range m a [] h = sym (put-none m a)
scatter-range m a (x ∷ bs) h =
    let r = put_range m a (x ∷ []) in
    let one : Inside m a (1 + length bs) = inside_part h (omega arith) (omega arith) in
    let rest : Inside (put m a (x ∷ [])) (a + 1) (length bs) =
    inside_same m (put m a (x ∷ [])) (a + 1) (length bs) r (inside_part h (omega arith) (omega arith)) in
    scatter-range (put m a (x ∷ [])) (a + 1) bs rest ∙ put-put m a (x ∷ []) bs one

-- two runs
pub scatter-append : (m : Memory) (xs ys bs cs : List ℕ) → length xs ≡ length bs
    → scatter m (xs ++ ys) (bs ++ cs) ≡ scatter (scatter m xs bs) ys cs
scatter-append m [] ys [] cs e = refl
scatter-append m [] ys (b ∷ bs) cs e = absurd (omega (arith, e))
scatter-append m (x ∷ xs) ys [] cs e = absurd (omega (arith, e))
scatter-append m (x ∷ xs) ys (b ∷ bs) cs e = scatter-append (put m x (b ∷ [])) xs ys bs cs (omega (arith, e))

-- one more run is written
pub write_run : (m new : Memory) (xs : List Buffer) (bytes : List ℕ) (from done n : ℕ) → All (Within m) xs
    → from + done < len_of true xs
    → (r : Segment) → r ≡ rest_at (segments_of true xs) (from + done) → n ≤ r.len → done + n ≤ length bytes
    → new ≡ put m r.addr (take n (drop done bytes))
    → scatter new (drop (from + (done + n)) (addresses_of true xs)) (drop (done + n) bytes)
    ≡ scatter m (drop (from + done) (addresses_of true xs)) (drop done bytes)
write_run m new xs bytes from done n a h found is less fits put_is =
    let l = rw is at less in
    let e = rw is at put_is in
    let all = addresses_of true xs in
    let rest = rest_at (segments_of true xs) (from + done) in
    let run = take n (drop done bytes) in
    let size : length run ≡ n = length-take-le n (drop done bytes) (rw length-drop (omega arith)) in
    let r = rest_addresses (segments_of true xs) (from + done) n h l in
    let inside = rest_inside m (segments_of true xs) (from + done) (All-segments_of m true xs a) h in
    let part : Inside m rest.addr (length run) = inside_part inside (omega arith) (omega (arith, size, l)) in
    let written : new ≡ scatter m (range_with_len rest.addr n) run = e
    ∙ sym (scatter-range m rest.addr run part)
    ∙ ap (λ k. scatter m (range_with_len rest.addr k) run) size in
    let cut : drop (from + done) all ≡ range_with_len rest.addr n ++ drop (from + (done + n)) all =
    sym (take-append-drop n (drop (from + done) all))
    ∙ rw (r, drop-drop n (from + done) all) (ap (λ k. range_with_len rest.addr n
    ++ drop k all) (omega arith)) in
    let cut_bytes : drop done bytes ≡ run ++ drop (done + n) bytes =
    sym (take-append-drop n (drop done bytes)) ∙ ap (λ l. run ++ l) (drop-drop n done bytes) in
    let same : length (range_with_len rest.addr n) ≡ length run =
    length-range_with_len rest.addr n ∙ sym size in
    rw written (sym (ap (λ l. scatter m l (drop done bytes)) cut
    ∙ ap (scatter m (range_with_len rest.addr n ++ drop (from + (done + n)) all)) cut_bytes
    ∙ scatter-append m (range_with_len rest.addr n) (drop (from + (done + n)) all) run
    (drop (done + n) bytes) same))

-- what is lent of the readable list stands in it from the place on
pub lent_reads : (m : Memory) (xs : List Buffer) (from n : ℕ) (r : Segment) (part : List ℕ)
    → All (Within m) xs → from < len_of false xs
    → r ≡ rest_at (segments_of false xs) from → n ≤ r.len → part ≡ part_of m r.addr n → length part ≡ n
    → part ≡ take (length part) (drop from (readable_of m xs))
lent_reads m xs from n r part a h is less value size =
    value ∙ ap (λ (s : Segment). part_of m s.addr n) is
    ∙ sym (rest_reads m (segments_of false xs) from n (All-segments_of m false xs a) h (rw is at less))
    ∙ ap (λ k. take k (drop from (readable_of m xs))) (sym size)

-- bytes put where the writable list was lent are scattered over it from the place on
pub lent_writes : (m : Memory) (xs : List Buffer) (from n : ℕ) (bytes : List ℕ) → All (Within m) xs
    → from < len_of true xs
    → n ≤ (rest_at (segments_of true xs) from).len → length bytes ≡ n
    → put m (rest_at (segments_of true xs) from).addr bytes
    ≡ scatter m (drop from (addresses_of true xs)) bytes
lent_writes m xs from n bytes a h less size =
    let all = drop from (addresses_of true xs) in
    let rest = rest_at (segments_of true xs) from in
    let range = range_with_len rest.addr n in
    let cut : all ≡ range ++ drop n all = sym (take-append-drop n all)
    ∙ ap (λ l. l ++ drop n all) (rest_addresses (segments_of true xs) from n h less) in
    let same : length range ≡ length bytes = length-range_with_len rest.addr n ∙ sym size in
    let inside = rest_inside m (segments_of true xs) from (All-segments_of m true xs a) h in
    let part : Inside m rest.addr (length bytes) =
    inside_part inside (omega arith) (omega (arith, size, less)) in
    sym (ap (λ l. scatter m l bytes) cut
    ∙ ap (scatter m (range ++ drop n all)) (sym (append-nil bytes))
    ∙ scatter-append m range (drop n all) bytes [] same
    ∙ scatter_none (scatter m range bytes) (drop n all)
    ∙ ap (λ k. scatter m (range_with_len rest.addr k) bytes) (sym size)
    ∙ scatter-range m rest.addr bytes part)

-- a part of a slice is written over: the slice keeps its length, and its front is the old one and the part
pub length-put_mid : (a k : ℕ) (xs ys : List ℕ) → length ys ≡ k → a + k ≤ length xs
    → length (put_mid a k xs ys) ≡ length xs
length-put_mid a k xs ys e h =
    simp (length-append, length-take, length-drop) (omega (arith, e))
