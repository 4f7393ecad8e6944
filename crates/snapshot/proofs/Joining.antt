-- Texts, written one behind another.
use mir.Val.{bool_byte}
use Rattle.std.proofs.Common.{◌≡◌, ◌∙◌, ◌+◌, ◌≤◌, Bool, true, false, List, Option, ℕ, ◌++◌, append_assoc, ap, arith, drop, length, length-append, refl, sym, take}
use Rattle.std.proofs.lemmas.List.{drop-drop, drop_at, take_at}
use Rattle.snapshot.specs.declared.saved.SavedSlot.{SavedSlot}
use Rattle.snapshot.specs.Spelling as spelling
use Rattle.snapshot.specs.Spelling.{IsSnapshot, Puts, SlotFits, WaitingFits, flag, front_of, input, opening, slot, snapshot, version_of}
use Rattle.std.specs.Int.{w32, to_le_bytes}

-- one text behind another
pub puts_then : {a b c x y : List ℕ} {m n : ℕ} → Puts a b x m → Puts b c y n → Puts a c (x ++ y) (m + n)
puts_then {a} {b} {c} {x} {y} first second = record {
  text = rw (second.text, first.text) (append_assoc a x y);
  len = omega (arith, first.len, second.len);
}

-- a flag is written as it is spelled
pub flag_spelled : (b : Bool) → bool_byte b ≡ flag b
flag_spelled true = refl
flag_spelled false = refl

-- ---- a snapshot is its head, the pending input, and what waits

pub front_of_head : (s : SavedSlot) (waits : Bool) (front back head : List ℕ) (count : ℕ)
    → head ≡ spelling.head s waits count → count ≡ length front + length back
    → front_of s (front ++ back) waits ≡ head ++ (front ++ back)
unfolding front_of spelling.head
front_of_head s waits front back head count is counted =
    let all : length (front ++ back) ≡ count = length-append front back ∙ sym counted in
    rw (
      is,
      all,
      append_assoc (opening (version_of s.devices.items waits)) (slot s ++ to_le_bytes w32 count) (front ++ back),
      append_assoc (slot s) (to_le_bytes w32 count) (front ++ back),
    ) refl

pub front_len : (s : SavedSlot) (waits : Bool) (front back head : List ℕ) (count : ℕ)
    → head ≡ spelling.head s waits count → count ≡ length front + length back
    → length (front_of s (front ++ back) waits) ≡ length head + length front + length back
front_len s waits front back head count is counted =
    let text = ap (λ (xs : List ℕ). length xs) (front_of_head s waits front back head count is counted) in
    omega (arith, text, length-append head (front ++ back), length-append front back)

opening_len : (version : ℕ) → length (opening version) ≡ 12
opening_len version = refl

-- it is as long with what waits as without
pub same_len : (s : SavedSlot) (pending : List ℕ) (waits other : Bool)
    → length (front_of s pending waits) ≡ length (front_of s pending other)
unfolding front_of
same_len s pending waits other =
    let rest = slot s ++ input pending in
    omega (
      arith,
      length-append (opening (version_of s.devices.items waits)) rest,
      length-append (opening (version_of s.devices.items other)) rest,
      opening_len (version_of s.devices.items waits),
      opening_len (version_of s.devices.items other),
    )

pub snapshot_is : (s : SavedSlot) (front back : List ℕ) → SlotFits s → length front + length back ≤ 4096
    → (waiting : Option (List ℕ)) → WaitingFits s waiting
    → IsSnapshot (snapshot s (front ++ back) waiting) s (front ++ back) waiting
snapshot_is s front back fits few waiting waits =
    record { spelled = refl; fits = fits; few = omega (arith, few, length-append front back); waits = waits }

-- ---- in a buffer

-- what is put behind what stands at the front
put_behind : (done new dst : List ℕ) (i k : ℕ) → i ≡ length done
    → take i (done ++ drop i dst) ++ (new ++ drop k (drop i (done ++ drop i dst))) ≡ (done ++ new)
    ++ drop (i + k) dst
put_behind done new dst i k is =
    rw (
      take_at done (drop i dst) i (sym is),
      drop_at done (drop i dst) i (sym is),
      drop-drop k i dst,
      append_assoc done new (drop (i + k) dst),
    ) refl

-- the head, and the pending input in two parts
pub all_put : (head front back dst : List ℕ) (n f b : ℕ) → n ≡ length head
    → f ≡ length front → b ≡ length back
    → take (n + f) (take n (head ++ drop n dst) ++ (front ++ drop f (drop n (head ++ drop n dst))))
    ++ (back ++ drop b (drop (n + f) (take n (head ++ drop n dst)
    ++ (front ++ drop f (drop n (head ++ drop n dst))))))
    ≡ (head ++ (front ++ back)) ++ drop (n + f + b) dst
all_put head front back dst n f b of_head of_front of_back =
    let first = put_behind head front dst n f of_head in
    let long : n + f ≡ length (head ++ front) = omega (arith, of_head, of_front, length-append head front) in
    ap (λ (xs : List ℕ). take (n + f) xs ++ (back ++ drop b (drop (n + f) xs))) first
    ∙ put_behind (head ++ front) back dst (n + f) b long
    ∙ ap (λ (xs : List ℕ). xs ++ drop (n + f + b) dst) (append_assoc head front back)
