-- Room for frames, by their bytes and their number.
use Rattle.std.proofs.Common.{◌≡◌, ℕ, ◌+◌, ◌-◌, ◌≤◌, ◌<◌, Bool, true, false, arith, List, [], length, true≢false, refl, sym, ap, ap₂, ◌∙◌, nat_lt, nat_le, ◌&&◌}
use Rattle.std.proofs.lemmas.Bool.{ltb-true, leb-true, lt-ltb, le-leb}
use Rattle.std.specs.Bool.{one_answer}
use Rattle.chain.proofs.Servicing.{both}
use Rattle.network_device.specs.declared.limits.Limits.{Limits}
use Rattle.network_device.specs.Frames.{total, has_room, sum_of, cut}
use Rattle.network_device.proofs.Cutting.{length-cut, total-cut}

pub and_true : (a b : Bool) → (a && b) ≡ true → (a ≡ true) × (b ≡ true)
and_true true b e = (refl, e)
and_true false b e = absurd (true≢false (sym e))

-- room, as numbers
pub record HasRoom (limits : Limits) (frames : List (List ℕ)) (len : ℕ) : Type 0 where
  pub few : length frames < limits.frames
  pub fits : total frames + len ≤ limits.bytes

pub room_of : (limits : Limits) (frames : List (List ℕ)) (len : ℕ) → has_room limits frames len ≡ true
    → HasRoom limits frames len
room_of limits frames len h =
    let p = and_true (nat_lt (length frames) limits.frames) (nat_le (total frames + len) limits.bytes) h in
    record {
      few = ltb-true (length frames) limits.frames p.0;
      fits = leb-true (total frames + len) limits.bytes p.1;
    }

pub has : (limits : Limits) (frames : List (List ℕ)) (len : ℕ) → HasRoom limits frames len
    → has_room limits frames len ≡ true
has limits frames len h =
    both (nat_lt (length frames) limits.frames) (nat_le (total frames + len) limits.bytes)
    (lt-ltb (length frames) limits.frames h.few) (le-leb (total frames + len) limits.bytes h.fits)

-- what is shorter has room too
pub shorter : (limits : Limits) (frames : List (List ℕ)) (len less : ℕ) → has_room limits frames len ≡ true
    → less ≤ len → has_room limits frames less ≡ true
shorter limits frames len less h le =
    let room = room_of limits frames len h in
    has limits frames less (record { few = room.few; fits = omega (arith, le, room.fits) })

-- and so has what a store may take that takes it behind others
pub room_alone : (limits : Limits) (frames : List (List ℕ)) (len : ℕ) → has_room limits frames len ≡ true
    → has_room limits [] len ≡ true
room_alone limits frames len h =
    let room = room_of limits frames len h in let few = room.few in let fits = room.fits in
    has limits [] len (record { few = omega (arith, few); fits = omega (arith, fits) })

-- room in a store, by its two rings
pub room_is : (lens bytes : List ℕ) (whole most few len : ℕ) → sum_of lens ≡ whole → whole ≤ length bytes
    → length bytes ≤ most → (nat_lt (length lens) few && nat_le len (most - whole))
    ≡ has_room (record { bytes = most; frames = few }) (cut lens bytes) len
room_is lens bytes whole most few len sum held within =
    let limits : Limits = record { bytes = most; frames = few } in
    let e = length-cut lens bytes in
    let t = total-cut lens bytes (omega (arith, sum, held)) in
    let left = nat_lt (length lens) few && nat_le len (most - whole) in
    one_answer {P = HasRoom limits (cut lens bytes) len} left (has_room limits (cut lens bytes) len) (
      λ h. (let p = and_true (nat_lt (length lens) few) (nat_le len (most - whole)) h in
          let a = ltb-true (length lens) few p.0 in let b = leb-true len (most - whole) p.1 in
          record { few = omega (arith, e, a); fits = omega (arith, t, b, sum, held, within) }),
      λ (h : HasRoom limits (cut lens bytes) len). (let a = h.few in let b = h.fits in
          both (nat_lt (length lens) few) (nat_le len (most - whole))
          (lt-ltb (length lens) few (omega (arith, e, a)))
          (le-leb len (most - whole) (omega (arith, t, b, sum)))),
    )
    (room_of limits (cut lens bytes) len, has limits (cut lens bytes) len)

-- the same by what was read of the rings
pub room_seen : (lens bytes : List ℕ) (whole most few len l c left : ℕ) → l ≡ length lens → c ≡ few
    → left ≡ most - whole → sum_of lens ≡ whole → whole ≤ length bytes → length bytes ≤ most
    → (nat_lt l c && nat_le len left) ≡ has_room (record { bytes = most; frames = few }) (cut lens bytes) len
room_seen lens bytes whole most few len l c left p q r sum held within =
    ap₂ (λ (a b : Bool). a && b) (ap₂ nat_lt p q) (ap (nat_le len) r)
    ∙ room_is lens bytes whole most few len sum held within
