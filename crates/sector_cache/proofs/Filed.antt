-- Sectors of a file: reads and writes of what is left of 512 bytes at the sector's place, one after another.
use Rattle.std.proofs.Common.{◌≡◌, ℕ, ◌+◌, ◌-◌, ◌*◌, ◌≤◌, List, ◌++◌, length, take, drop, sym, ◌∙◌, ap, arith, Option, None, Some, Result, Ok, Err, OnOk, IsErr, IsSomeAnd, subst, refl, true≢false}
use Rattle.std.specs.Prelude.{⊤}
use Rattle.std.proofs.lemmas.List.{append_assoc, drop_at, drop-drop, length-append, length-drop, length-take-le, take_all, take_at, take-append-drop, take-append-le}
use Rattle.std.proofs.lemmas.Slice.{take-put_mid}
use Rattle.std.proofs.Math.Seq.{take-add}
use borrow.Rule.Slice.PartMut.{mid_of, put_mid, same_len_mid}
use Rattle.sector_cache.specs.Backing.{Gets, HasSector, IsPut, Puts, PutsSector, count_of}
use Rattle.sector_cache.specs.Sector.{sector_of, with_sector}
use Rattle.sector_cache.proofs.Sectors.{length-with_sector}

-- a front that is longer than the first of two lists, and what is behind it
take_past : (xs ys : List ℕ) (d n : ℕ) → length xs ≡ d → take (d + n) (xs ++ ys) ≡ xs ++ take n ys
take_past xs ys d n long =
    take-add d n (xs ++ ys)
    ∙ ap (λ front. front ++ take n (drop d (xs ++ ys))) (take_at xs ys d long)
    ∙ ap (λ rest. xs ++ take n rest) (drop_at xs ys d long)

drop_past : (xs ys : List ℕ) (d n : ℕ) → length xs ≡ d → drop (d + n) (xs ++ ys) ≡ drop n ys
drop_past xs ys d n long = sym (drop-drop n d (xs ++ ys)) ∙ ap (drop n) (drop_at xs ys d long)

-- so much of what stands at byte `at` was read
abbrev pub HasFront : Option (List ℕ) → ℕ → ℕ → List ℕ → Type 0
HasFront None at done into = ⊤
HasFront (Some bytes) at done into = take done into ≡ take done (drop at bytes)

pub front_of_none : (held : Option (List ℕ)) (at done : ℕ) (into : List ℕ) → done ≡ 0
    → HasFront held at done into
front_of_none None at done into none = tt
front_of_none (Some bytes) at done into none =
    ap (λ k. take k into) none ∙ ap (λ k. take k (drop at bytes)) (sym none)

-- a read of the rest reads further
got_further : {E : Type 0} (count : Result ℕ E) (held : Option (List ℕ)) (at done : ℕ) (into part : List ℕ)
    → HasFront held at done into → done ≤ length into → Gets (at + done) part count held
    → HasFront held at (done + count_of count) (take done into ++ part)
got_further count None at done into part front within gets = tt
got_further count (Some bytes) at done into part front within gets =
    take_past (take done into) part done (count_of count) (length-take-le done into within)
    ∙ ap (λ xs. xs ++ take (count_of count) part) front
    ∙ ap (λ xs. take done (drop at bytes) ++ xs) gets
    ∙ ap (λ xs. take done (drop at bytes) ++ take (count_of count) xs) (sym (drop-drop done at bytes))
    ∙ sym (take-add done (count_of count) (drop at bytes))

mid_long : (into part : List ℕ) (done : ℕ) → done ≤ 512 → length into ≡ 512 → length part ≡ 512 - done
    → length part ≡ length (mid_of done (512 - done) into)
mid_long into part done within long rest = rest
    ∙ sym (length-take-le (512 - done) (drop done into) (omega (arith, length-drop done into, long)))

-- what is put behind a front of 512 bytes
pub length_kept : (into part : List ℕ) (done : ℕ) → done ≤ 512 → length into ≡ 512 → length part ≡ 512 - done
    → length (put_mid done (512 - done) into part) ≡ 512
length_kept into part done within long rest =
    same_len_mid done (512 - done) into part (mid_long into part done within long rest) ∙ long

put_mid_whole : (into part : List ℕ) (done : ℕ) → done ≤ 512 → length into ≡ 512 → length part ≡ 512 - done
    → put_mid done (512 - done) into part ≡ take done into ++ part
put_mid_whole into part done within long rest =
    sym (take_all 512 (put_mid done (512 - done) into part)
    (omega (arith, length_kept into part done within long rest)))
    ∙ take-put_mid done (512 - done) into part 512 (omega (arith, rest, within)) (omega (arith, long, within))

pub got_more : {E : Type 0} (count : Result ℕ E) (held now : Option (List ℕ)) (at done n : ℕ)
    (into part : List ℕ) → n ≡ count_of count → now ≡ held → done ≤ 512 → length into ≡ 512
    → length part ≡ 512 - done → HasFront held at done into → Gets (at + done) part count now
    → HasFront held at (done + n) (put_mid done (512 - done) into part)
got_more count held now at done n into part counted stays within long rest front gets =
    subst (λ k. HasFront held at (done + k) (put_mid done (512 - done) into part)) (sym counted)
    (subst (HasFront held at (done + count_of count)) (sym (put_mid_whole into part done within long rest))
    (got_further count held at done into part front (omega (arith, long, within))
    (subst (Gets (at + done) part count) stays gets)))

-- 512 bytes that were read are the sector
pub got_whole : (held : Option (List ℕ)) (sector at done : ℕ) (into : List ℕ) → HasFront held at done into
    → done ≡ 512 → length into ≡ 512 → at ≡ sector * 512 → HasSector held sector into
got_whole None sector at done into front whole long place = tt
got_whole (Some bytes) sector at done into front whole long place =
    sym (take_all done into (omega (arith, long, whole)))
    ∙ front
    ∙ ap (λ k. take k (drop at bytes)) whole
    ∙ ap (λ k. take 512 (drop k bytes)) (omega (arith, place))

-- so much of a sector was written: some 512 bytes stand in it, of which a front is what was to be written
pub record IsPutTo (sector : ℕ) (from : List ℕ) (done : ℕ) (old new : List ℕ) : Type 0 where
  pub left : List ℕ
  pub long : length left ≡ 512
  pub front : take done left ≡ take done from
  pub put : new ≡ with_sector old sector left

abbrev pub PutsTo : ℕ → List ℕ → ℕ → (old new : Option (List ℕ)) → Type 0
PutsTo sector from done None new = new ≡ None
PutsTo sector from done (Some old) new = 512 * (sector + 1) ≤ length old
    → IsSomeAnd new (IsPutTo sector from done old)

-- a sector in place of itself
same_sector : (bytes : List ℕ) (sector : ℕ) → bytes ≡ with_sector bytes sector (sector_of bytes sector)
same_sector bytes sector =
    sym (take-append-drop (512 * sector) bytes)
    ∙ ap (λ rest. take (512 * sector) bytes ++ rest) (sym (take-append-drop 512 (drop (512 * sector) bytes)))
    ∙ ap (λ rest. take (512 * sector) bytes ++ (sector_of bytes sector ++ rest))
    (drop-drop 512 (512 * sector) bytes)
    ∙ ap (λ k. take (512 * sector) bytes ++ (sector_of bytes sector ++ drop k bytes)) (omega arith)

pub put_none : (sector : ℕ) (from : List ℕ) (old : Option (List ℕ)) → PutsTo sector from 0 old old
put_none sector from None = refl
put_none sector from (Some old) = λ inside.
    record {
      left = sector_of old sector;
      long = length-take-le 512 (drop (512 * sector) old)
          (omega (arith, length-drop (512 * sector) old, inside));
      front = refl;
      put = same_sector old sector;
    }

-- what is left of 512 bytes
pub rest_is : (from : List ℕ) (done : ℕ) → length from ≡ 512 → mid_of done (512 - done) from ≡ drop done from
rest_is from done long = take_all (512 - done) (drop done from) (omega (arith, length-drop done from, long))

-- a write of the rest writes further
further : (sector done n at : ℕ) (from old mid new : List ℕ) → length from ≡ 512
    → 512 * (sector + 1) ≤ length old → done ≤ 512 → at ≡ 512 * sector + done
    → IsPutTo sector from done old mid → IsPut at (drop done from) n mid new
    → IsPutTo sector from (done + n) old new
further sector done n at from old mid new long inside within place before after =
    let front = take done before.left in
    let head = take (512 * sector) old in
    let tail = drop (512 * (sector + 1)) old in
    let front_long : length front ≡ done =
    length-take-le done before.left (omega (arith, before.long, within)) in
    let head_long : length head ≡ 512 * sector = length-take-le (512 * sector) old (omega (arith, inside)) in
    let rest_long : length after.left ≡ 512 - done = after.long ∙ length-drop done from
    ∙ omega (arith, long) in
    let taken : take at mid ≡ head ++ front =
    ap (λ bytes. take at bytes) before.put
    ∙ ap (λ k. take k (head ++ (before.left ++ tail))) place
    ∙ take_past head (before.left ++ tail) (512 * sector) done head_long
    ∙ ap (λ xs. head ++ xs) (take-append-le done before.left tail (omega (arith, before.long, within))) in
    let dropped : drop (at + length after.left) mid ≡ tail =
    ap (λ bytes. drop (at + length after.left) bytes) before.put
    ∙ ap (λ k. drop k (head ++ (before.left ++ tail))) (let e : at + length after.left
    ≡ 512 * sector + 512 = omega (arith, place, rest_long, within) in e)
    ∙ drop_past head (before.left ++ tail) (512 * sector) 512 head_long
    ∙ drop_at before.left tail 512 before.long in
    record {
      left = front ++ after.left;
      long = length-append front after.left ∙ omega (arith, front_long, rest_long, within);
      front =
          take_past front after.left done n front_long
          ∙ ap (λ xs. xs ++ take n after.left) before.front
          ∙ ap (λ xs. take done from ++ xs) after.front
          ∙ sym (take-add done n from);
      put =
          after.put
          ∙ ap (λ xs. xs ++ (after.left ++ drop (at + length after.left) mid)) taken
          ∙ ap (λ xs. (head ++ front) ++ (after.left ++ xs)) dropped
          ∙ append_assoc head front (after.left ++ tail)
          ∙ ap (λ xs. head ++ xs) (sym (append_assoc front after.left tail));
    }

long_as : (sector : ℕ) (from : List ℕ) (done : ℕ) (old mid : List ℕ) → 512 * (sector + 1) ≤ length old
    → IsPutTo sector from done old mid → length mid ≡ length old
long_as sector from done old mid inside put =
    ap length put.put ∙ length-with_sector old sector put.left inside put.long

-- the bytes that are left fit into the file
part_fits : (sector done at : ℕ) (from part old mid : List ℕ) → length from ≡ 512 → done ≤ 512
    → at ≡ sector * 512 + done → part ≡ drop done from → 512 * (sector + 1) ≤ length old
    → IsPutTo sector from done old mid → at + length part ≤ length mid
part_fits sector done at from part old mid long within place rest inside put =
    omega (
      arith,
      long_as sector from done old mid inside put,
      ap length rest,
      length-drop done from,
      long,
      within,
      place,
      inside,
    )

pub put_more : {E : Type 0} (count : Result ℕ E) (sector done n at : ℕ) (from part : List ℕ)
    (old mid new : Option (List ℕ)) → n ≡ count_of count → length from ≡ 512 → done ≤ 512
    → at ≡ sector * 512 + done → part ≡ drop done from → PutsTo sector from done old mid
    → Puts at part count mid new → PutsTo sector from (done + n) old new
put_more count sector done n at from part None None new counted long within place rest before puts = puts
put_more count sector done n at from part None (Some mid) new counted long within place rest before puts =
    search (before)
put_more count sector done n at from part (Some old) None new counted long within place rest before puts =
    λ inside. search (before inside)
put_more count sector done n at from part (Some old) (Some mid) None counted long within place rest
    before puts = λ inside.
    puts (part_fits sector done at from part old mid long within place rest inside (before inside))
put_more count sector done n at from part (Some old) (Some mid) (Some new) counted long within place rest
    before puts = λ inside.
    let put : IsPut at part (count_of count) mid new =
    puts (part_fits sector done at from part old mid long within place rest inside (before inside)) in
    further sector done n at from old mid new long inside within (omega (arith, place)) (before inside)
    (subst (λ k. IsPut at (drop done from) k mid new) (sym counted)
    (subst (λ xs. IsPut at xs (count_of count) mid new) rest put))

not_ok : {E : Type 0} (outcome : Result (Unit {0}) E) (P : Type 0) → IsErr outcome → OnOk outcome P
not_ok (Ok _) P is = absurd (true≢false (sym is))
not_ok (Err _) P is = tt

-- a write that failed left the sector torn
pub put_torn : {E : Type 0} (outcome : Result (Unit {0}) E) (sector done : ℕ) (from : List ℕ)
    (old new : Option (List ℕ)) → IsErr outcome → PutsTo sector from done old new
    → PutsSector sector from outcome old new
put_torn outcome sector done from None new is puts = puts
put_torn outcome sector done from (Some old) None is puts = puts
put_torn outcome sector done from (Some old) (Some new) is puts = λ inside.
    let put : IsPutTo sector from done old new = puts inside in
    record { left = put.left; long = put.long; whole = not_ok outcome (put.left ≡ from) is; put = put.put }

-- and so did one that wrote nothing
pub put_nothing : {E : Type 0} (outcome : Result (Unit {0}) E) (sector : ℕ) (from : List ℕ)
    (old new : Option (List ℕ)) → IsErr outcome → new ≡ old → PutsSector sector from outcome old new
put_nothing outcome sector from old new is stays =
    subst (PutsSector sector from outcome old) (sym stays)
    (put_torn outcome sector 0 from old old is (put_none sector from old))
