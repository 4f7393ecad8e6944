-- Frames as they are saved: how long that is, and that it is read again.
use Rattle.std.proofs.Common.{◌≡◌, ℕ, zero, suc, ◌+◌, ◌*◌, ◌^◌, ◌<◌, ◌≤◌, arith, Bool, true, false, leb, ltb, Option, List, [], ◌∷◌, ◌++◌, get_or, length, take, drop, map, Some, None, slice_get, append_assoc, append-nil, refl, sym, ap, ap₂, subst, ◌∙◌}
use Rattle.std.specs.Prelude.{if◌then◌else◌, nat_le}
use Rattle.std.specs.Int.{Width, byte_len, from_le_bytes, to_le_bytes, w32}
use Rattle.std.specs.List.{concat}
use Rattle.std.specs.Simd.{first_chunks}
use Rattle.std.proofs.lemmas.Bool.{le-leb, le-ltb}
use Rattle.std.proofs.lemmas.List.{drop-drop, drop_all, drop_at, length-append, length-drop, length-map, length-take, map-append, take_all, take_at, take_more}
use Rattle.std.proofs.lemmas.Nat.{from_le_bytes-to_le_bytes_4}
use Rattle.network_device.specs.declared.limits.Limits.{Limits}
use Rattle.network_device.specs.Frames.{IsWithin, cut, sum_of, total}
use Rattle.network_device.specs.Saved.{◌>>=◌, Reader, bytes_at, frames_at, lens_of, number_at, numbers, numbers_at, saved_frames, tested}
use Rattle.network_device.proofs.Cutting.{length-cut, sum-push, total-cut}

-- ---- how long

pub numbers_len : (ns : List ℕ) → length (numbers ns) ≡ 4 * length ns
numbers_len [] = refl
numbers_len (n ∷ ns) = omega (arith, numbers_len ns)

pub concat_len : (frames : List (List ℕ)) → length (concat frames) ≡ total frames
concat_len [] = refl
concat_len (frame ∷ frames) =
    length-append frame (concat frames) ∙ ap (λ n. length frame + n) (concat_len frames)

pub lens_sum : (frames : List (List ℕ)) → sum_of (lens_of frames) ≡ total frames
lens_sum [] = refl
lens_sum (frame ∷ frames) = ap (λ n. length frame + n) (lens_sum frames)

lens_len : (frames : List (List ℕ)) → length (lens_of frames) ≡ length frames
lens_len [] = refl
lens_len (frame ∷ frames) = ap suc (lens_len frames)

pub saved_len : (frames : List (List ℕ)) → length (saved_frames frames) ≡ 4 + 4 * length frames + total frames
saved_len frames =
    omega (
      arith,
      length-append (numbers (lens_of frames)) (concat frames),
      numbers_len (lens_of frames),
      lens_len frames,
      concat_len frames,
    )

-- ---- frames cut out of bytes

-- their lengths are those by which they were cut, and their bytes those that they were cut of
pub cut_lens : (lens bytes : List ℕ) → sum_of lens ≤ length bytes → lens_of (cut lens bytes) ≡ lens
cut_lens [] bytes h = refl
cut_lens (n ∷ lens) bytes h =
    let s : sum_of (n ∷ lens) ≡ n + sum_of lens = refl in
    let t = length-take n bytes in let d = length-drop n bytes in
    let first : length (take n bytes) ≡ n = omega (arith, h, s, t) in
    ap₂ (λ (a : ℕ) (b : List ℕ). a ∷ b) first (cut_lens lens (drop n bytes) (omega (arith, h, s, d)))

pub cut_bytes : (lens bytes : List ℕ) → sum_of lens ≤ length bytes → concat (cut lens bytes) ≡ take (sum_of lens) bytes
cut_bytes [] bytes h = refl
cut_bytes (n ∷ lens) bytes h =
    let s : sum_of (n ∷ lens) ≡ n + sum_of lens = refl in
    let d = length-drop n bytes in
    ap (λ (l : List ℕ). take n bytes ++ l) (cut_bytes lens (drop n bytes) (omega (arith, h, s, d)))
    ∙ joined n (sum_of lens) bytes
  where
    joined : (n m : ℕ) (bytes : List ℕ) → take n bytes ++ take m (drop n bytes) ≡ take (n + m) bytes
    joined zero m bytes = let on : 0 + m ≡ m = omega arith in ap (λ k. take k bytes) (sym on)
    joined (suc n) m [] = take_all m [] (omega arith) ∙ sym (take_all (suc n + m) [] (omega arith))
    joined (suc n) m (b ∷ bytes) =
        let on : suc n + m ≡ suc (n + m) = omega arith in
        ap (λ (l : List ℕ). b ∷ l) (joined n m bytes) ∙ ap (λ k. take k (b ∷ bytes)) (sym on)

-- ---- what is saved is read

pub bytes_back : (n : ℕ) (front rest : List ℕ) → length front ≡ n → bytes_at n (front ++ rest) ≡ Some (front, rest)
bytes_back n front rest is =
    let long : ltb (length (front ++ rest)) n ≡ false = le-ltb _ _ (omega (arith, is, length-append front rest)) in
    let taken : take n (front ++ rest) ≡ front = take_at front rest n is in
    let left : drop n (front ++ rest) ≡ rest = drop_at front rest n is in
    rw (long, taken, left) refl

pub number_back : (w : Width) (n : ℕ) (rest : List ℕ) → length (to_le_bytes w n) ≡ byte_len w
    → from_le_bytes w (to_le_bytes w n) ≡ n → number_at w (to_le_bytes w n ++ rest) ≡ Some (n, rest)
number_back w n rest len back = rw (bytes_back (byte_len w) (to_le_bytes w n) rest len, back) refl

-- each of these is a number of 4 bytes
abbrev AreSmall : List ℕ → Type 0
AreSmall [] = Unit {0}
AreSmall (n ∷ ns) = (n < 2 ^ 32) × AreSmall ns

chunks_back : (ns : List ℕ) → AreSmall ns → map (from_le_bytes w32) (first_chunks 4 (length ns) (numbers ns)) ≡ ns
chunks_back [] small = refl
chunks_back (n ∷ ns) small =
    ap₂ (λ (a : ℕ) (b : List ℕ). a ∷ b) (from_le_bytes-to_le_bytes_4 n small.0) (chunks_back ns small.1)

numbers_back : (ns rest : List ℕ) → AreSmall ns → numbers_at (length ns) (numbers ns ++ rest) ≡ Some (ns, rest)
numbers_back ns rest small =
    rw (bytes_back (4 * length ns) (numbers ns) rest (numbers_len ns), chunks_back ns small) refl

total_small : (frames : List (List ℕ)) → total frames < 2 ^ 32 → AreSmall (lens_of frames)
total_small [] fits = tt
total_small (frame ∷ frames) fits =
    let s : total (frame ∷ frames) ≡ length frame + total frames = refl in
    (omega (arith, fits, s), total_small frames (omega (arith, fits, s)))

cut_back : (frames : List (List ℕ)) → cut (lens_of frames) (concat frames) ≡ frames
cut_back [] = refl
cut_back (frame ∷ frames) =
    ap₂ (λ (a : List ℕ) (b : List (List ℕ)). a ∷ b) (take_at frame (concat frames) (length frame) refl)
    (ap (cut (lens_of frames)) (drop_at frame (concat frames) (length frame) refl) ∙ cut_back frames)

pub step : {A B : Type 0} (found : Option A) (x : A) (next : A → Option B) → found ≡ Some x → (found >>= next) ≡ next x
step {A = A} found x next is = ap (λ (o : Option A). o >>= next) is

-- a test that holds
pub tested_is : {A : Type 0} (test : A → Bool) (read : Reader A) (bytes : List ℕ) (x : A) (rest : List ℕ)
    → read bytes ≡ Some (x, rest) → test x ≡ true → tested test read bytes ≡ Some (x, rest)
tested_is {A = A} test read bytes x rest is holds =
    step (read bytes) (x, rest) (λ found. if test found.0 then Some found else None) is
    ∙ ap (λ (b : Bool). if b then Some (x, rest) else None) holds

-- frames within the limits are read as they were saved
pub frames_back : (limits : Limits) (frames : List (List ℕ)) (rest : List ℕ) → limits.bytes < 2 ^ 32
    → limits.frames < 2 ^ 32 → IsWithin limits frames → frames_at limits (saved_frames frames ++ rest) ≡ Some (frames, rest)
frames_back limits frames rest bytes count within =
    let lens = lens_of frames in
    let apart : saved_frames frames ++ rest
    ≡ to_le_bytes w32 (length frames) ++ (numbers lens ++ (concat frames ++ rest)) =
    append_assoc (to_le_bytes w32 (length frames)) (numbers lens ++ concat frames) rest
    ∙ ap (λ (l : List ℕ). to_le_bytes w32 (length frames) ++ l) (append_assoc (numbers lens) (concat frames) rest) in
    let few = within.count in let small = within.bytes in
    let first = number_back w32 (length frames) (numbers lens ++ (concat frames ++ rest)) refl
    (from_le_bytes-to_le_bytes_4 (length frames) (omega (arith, few, count))) in
    let may : leb (length frames) limits.frames ≡ true = le-leb _ _ few in
    let second : numbers_at (length frames) (numbers lens ++ (concat frames ++ rest)) ≡ Some (lens, concat frames ++ rest) =
    subst (λ (n : ℕ). numbers_at n (numbers lens ++ (concat frames ++ rest)) ≡ Some (lens, concat frames ++ rest))
    (lens_len frames) (numbers_back lens (concat frames ++ rest) (total_small frames (omega (arith, small, bytes)))) in
    let all : leb (sum_of lens) limits.bytes ≡ true = le-leb _ _ (omega (arith, small, lens_sum frames)) in
    let third = bytes_back (sum_of lens) (concat frames) rest (concat_len frames ∙ sym (lens_sum frames)) in
    let behind = concat frames ++ rest in
    let cut_out : List ℕ × List ℕ → Option (List (List ℕ) × List ℕ) =
    λ ls. bytes_at (sum_of ls.0) ls.1 >>= (λ all. Some (cut ls.0 all.0, all.1)) in
    let sized : List ℕ → Bool = λ ns. nat_le (sum_of ns) limits.bytes in
    let counted : ℕ → Bool = λ n. nat_le n limits.frames in
    ap (frames_at limits) apart
    ∙ (step (tested counted (number_at w32) (to_le_bytes w32 (length frames) ++ (numbers lens ++ behind)))
    (length frames, numbers lens ++ behind) (λ count. tested sized (numbers_at count.0) count.1 >>= cut_out)
    (tested_is counted (number_at w32) (to_le_bytes w32 (length frames) ++ (numbers lens ++ behind)) (length frames)
    (numbers lens ++ behind) first may)
    ∙ (step (tested sized (numbers_at (length frames)) (numbers lens ++ behind)) (lens, behind) cut_out
    (tested_is sized (numbers_at (length frames)) (numbers lens ++ behind) lens behind second all)
    ∙ (step (bytes_at (sum_of lens) behind) (concat frames, rest) (λ all. Some (cut lens all.0, all.1)) third
    ∙ ap (λ (found : List (List ℕ)). Some (found, rest)) (cut_back frames))))

-- ---- what a store does

numbers_push : (ns : List ℕ) (n : ℕ) → numbers (ns ++ n ∷ []) ≡ numbers ns ++ to_le_bytes w32 n
numbers_push [] n = refl
numbers_push (k ∷ ns) n =
    ap (λ (l : List ℕ). to_le_bytes w32 k ++ l) (numbers_push ns n)
    ∙ sym (append_assoc (to_le_bytes w32 k) (numbers ns) (to_le_bytes w32 n))

some_same : (a b : ℕ) → Some a ≡ Some b → a ≡ b
some_same a b e = cc

-- the i-th of these
record IsAt (ns : List ℕ) (i n : ℕ) : Type 0 where
  within : i < length ns
  small : n ≤ sum_of ns
  more : take (i + 1) ns ≡ take i ns ++ n ∷ []

at : (ns : List ℕ) (i n : ℕ) → Some n ≡ slice_get ns i → IsAt ns i n
at [] i n is = absurd (cc is)
at (k ∷ ns) zero n is =
    let same = some_same n k is in let s : sum_of (k ∷ ns) ≡ k + sum_of ns = refl in record {
      within = omega arith;
      small = omega (arith, same, s);
      more = ap (λ (x : ℕ). x ∷ []) (sym same);
    }
at (k ∷ ns) (suc i) n is =
    let later = at ns i n is in let s : sum_of (k ∷ ns) ≡ k + sum_of ns = refl in
    let within = later.within in let small = later.small in
    let on : suc i + 1 ≡ suc (i + 1) = omega arith in record {
      within = omega (arith, within);
      small = omega (arith, small, s);
      more = ap (λ m. take m (k ∷ ns)) on ∙ ap (λ (l : List ℕ). k ∷ l) later.more;
    }

pub at_small : (ns : List ℕ) (i n : ℕ) → Some n ≡ slice_get ns i → n ≤ sum_of ns
at_small ns i n is = (at ns i n is).small

-- one more length is written
pub put_more : (ns : List ℕ) (i n : ℕ) (old into after : List ℕ) → Some n ≡ slice_get ns i
    → into ≡ numbers (take i ns) ++ drop (4 * i) old
    → after ≡ take (4 * i) into ++ (to_le_bytes w32 n ++ drop (4 * i + 4) into)
    → after ≡ numbers (take (i + 1) ns) ++ drop (4 * (i + 1)) old
put_more ns i n old into after got before is =
    let here = at ns i n got in let within = here.within in
    let front = numbers (take i ns) in
    let len : length front ≡ 4 * i = omega (arith, numbers_len (take i ns), length-take i ns, within) in
    let first : take (4 * i) into ≡ front = ap (take (4 * i)) before ∙ take_at front (drop (4 * i) old) (4 * i) len in
    let behind : drop (4 * i) into ≡ drop (4 * i) old =
    ap (drop (4 * i)) before ∙ drop_at front (drop (4 * i) old) (4 * i) len in
    let on : 4 * i + 4 ≡ 4 * (i + 1) = omega arith in
    let last : drop (4 * i + 4) into ≡ drop (4 * (i + 1)) old =
    sym (drop-drop 4 (4 * i) into) ∙ (ap (drop 4) behind ∙ (drop-drop 4 (4 * i) old ∙ ap (λ m. drop m old) on)) in
    is ∙ (ap₂ (λ (a b : List ℕ). a ++ (to_le_bytes w32 n ++ b)) first last
    ∙ (sym (append_assoc front (to_le_bytes w32 n) (drop (4 * (i + 1)) old))
    ∙ ap (λ (l : List ℕ). l ++ drop (4 * (i + 1)) old)
    (sym (numbers_push (take i ns) n) ∙ ap numbers (sym here.more))))

-- one more length is counted
pub sum_more : (lens : List (List ℕ)) (i sum x : ℕ) (d : List ℕ) → i < length lens
    → sum ≡ sum_of (map (from_le_bytes w32) (take i lens)) → x ≡ from_le_bytes w32 (get_or lens i d)
    → sum + x ≡ sum_of (map (from_le_bytes w32) (take (i + 1) lens))
sum_more lens i sum x d lt before is =
    let f = from_le_bytes w32 in
    let more : map f (take (i + 1) lens) ≡ map f (take i lens) ++ f (get_or lens i d) ∷ [] =
    ap (map f) (take_more lens i d lt) ∙ map-append f (take i lens) (get_or lens i d ∷ []) in
    ap₂ (λ (a b : ℕ). a + b) before is ∙ sym (ap sum_of more ∙ sum-push (map f (take i lens)) (f (get_or lens i d)))

-- frames that were read lie within the limits
pub within : (limits : Limits) (lens : List (List ℕ)) (bytes : List ℕ) → length lens ≤ limits.frames
    → sum_of (map (from_le_bytes w32) lens) ≡ length bytes → length bytes ≤ limits.bytes
    → IsWithin limits (cut (map (from_le_bytes w32) lens) bytes)
within limits lens bytes few sum small =
    let ns = map (from_le_bytes w32) lens in
    let count = length-cut ns bytes in let all = total-cut ns bytes (omega (arith, sum)) in record {
      count = omega (arith, count, length-map lens (from_le_bytes w32), few);
      bytes = omega (arith, all, sum, small);
    }

-- A store: the lengths and the bytes of its frames, of which so many bytes are whole.
module _ (ns bytes : List ℕ) (frames : List (List ℕ)) (whole : ℕ) (are : cut ns bytes ≡ frames)
    (sum : sum_of ns ≡ whole) (held : whole ≤ length bytes) where
  pub count_is : length frames ≡ length ns
  count_is = ap (λ (l : List (List ℕ)). length l) (sym are) ∙ length-cut ns bytes

  pub total_is : total frames ≡ whole
  total_is = ap total (sym are) ∙ (total-cut ns bytes (omega (arith, sum, held)) ∙ sum)

  pub lens_are : lens_of frames ≡ ns
  lens_are = ap lens_of (sym are) ∙ cut_lens ns bytes (omega (arith, sum, held))

  pub bytes_are : concat frames ≡ take whole bytes
  bytes_are =
      ap concat (sym are) ∙ (cut_bytes ns bytes (omega (arith, sum, held)) ∙ ap (λ n. take n bytes) sum)

  pub len_is : length (saved_frames frames) ≡ 4 + 4 * length ns + whole
  len_is = let c = count_is in let t = total_is in omega (arith, saved_len frames, c, t)

  -- all lengths are written
  pub lens_put : (i : ℕ) (old into : List ℕ) → length ns ≤ i → length old ≡ 4 * length frames
      → into ≡ numbers (take i ns) ++ drop (4 * i) old → into ≡ numbers (lens_of frames)
  lens_put i old into done len is =
      let c = count_is in
      let all : take i ns ≡ ns = take_all i ns done in
      let none : drop (4 * i) old ≡ [] = drop_all (4 * i) old (omega (arith, done, len, c)) in
      is ∙ (ap₂ (λ (a b : List ℕ). numbers a ++ b) all none
      ∙ (append-nil (numbers ns) ∙ ap numbers (sym lens_are)))

  -- the count, the lengths and the bytes are written
  pub all_put : (n : ℕ) (old first lens last shown : List ℕ) → n ≡ length ns → length old ≡ 4
      → first ≡ to_le_bytes w32 n ++ drop 4 old → lens ≡ numbers (lens_of frames) → shown ≡ bytes
      → last ≡ take whole shown → first ++ (lens ++ last) ≡ saved_frames frames
  all_put n old first lens last shown count four a b seen c =
      let none : drop 4 old ≡ [] = drop_all 4 old (omega (arith, four)) in
      let same : n ≡ length frames = let k = count_is in omega (arith, count, k) in
      let front : first ≡ to_le_bytes w32 (length frames) =
      a ∙ (ap (λ (l : List ℕ). to_le_bytes w32 n ++ l) none ∙ ap (to_le_bytes w32) same) in
      let behind : last ≡ concat frames = c ∙ (ap (take whole) seen ∙ sym bytes_are) in
      ap₂ (λ (x y : List ℕ). x ++ y) front (ap₂ (λ (x y : List ℕ). x ++ y) b behind)
