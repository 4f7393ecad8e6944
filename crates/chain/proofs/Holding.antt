-- What a chain keeps, as a buffer is put behind the others.
use Rattle.std.proofs.Common.{◌≡◌, ℕ, ◌+◌, ◌<◌, ◌≤◌, ◌^◌, Bool, true, false, List, [], ◌∷◌, ◌++◌, length, take, get_or, inl, inr, refl, ap, ◌∙◌, arith}
use Rattle.std.specs.Prelude.{slice_set, Result, Ok, Err, OnOk, OnErr}
use Rattle.std.specs.List.{refill}
use Rattle.std.proofs.lemmas.Bool.{cases_lt}
use Rattle.std.proofs.lemmas.List.{get_or-set_same, get_or-set_other, length-set, length-take-le, length_push, take_all, take_more_set, take-append-le}
use Rattle.std.proofs.lemmas.List.Sums.{sum_by_push}
use Rattle.std.proofs.lemmas.List.Elements.{All-push}
use Rattle.chain.specs.declared.segment.Buffer.{Buffer}
use Rattle.guest_memory.specs.Memory.{Memory}
use Rattle.chain.specs.declared.fault.Fault.{Fault}
use Rattle.chain.specs.Buffers.{Admits, Good, buffer_of}
use Rattle.chain.proofs.Admitting.{Good-append}
use Rattle.chain.specs.declared.buffers.Start.{Start}
use Rattle.chain.specs.Held.{IsHeld, start_at, start_behind}
use Rattle.chain.specs.Bytes.{len_of}
use Rattle.chain.proofs.Directions.{len_of-append}

-- a room that is filled up by one of its own length is that one
pub refill_same : (xs ws : List Buffer) → length ws ≡ length xs → refill (length xs) xs ws ≡ ws
refill_same xs ws same =
    take-append-le (length xs) ws _ (omega (arith, same)) ∙ take_all (length xs) ws (omega (arith, same))

-- what one buffer has in both directions
both : (addr len : ℕ) (flag : Bool)
    → len_of false (buffer_of addr len flag ∷ []) + len_of true (buffer_of addr len flag ∷ []) ≡ len
both addr len true = omega arith
both addr len false = omega arith

-- the start behind a buffer that is put behind others
start_more : (old : List Buffer) (n addr len : ℕ) (flag : Bool) → length old ≡ n
    → start_behind (start_at old n) len flag ≡ start_at (old ++ buffer_of addr len flag ∷ []) (n + 1)
start_more old n addr len flag size =
    let b = buffer_of addr len flag in
    let x = len_of-append false old (b ∷ []) in
    let y = len_of-append true old (b ∷ []) in
    rw (
      take_all n old (omega (arith, size)),
      take_all (n + 1) (old ++ b ∷ []) (omega (arith, size, length_push old b)),
      x,
      y,
    ) (split flag)
  where
    split : (flag : Bool)
        → start_behind (record { readable = len_of false old; writable = len_of true old }) len flag
        ≡ record {
          readable = len_of false old + len_of false (buffer_of addr len flag ∷ []);
          writable = len_of true old + len_of true (buffer_of addr len flag ∷ []);
        }
    split true =
        let b = buffer_of addr len true in
        let none : len_of false old ≡ len_of false old + len_of false (b ∷ []) = omega arith in
        let all : len_of true old + len ≡ len_of true old + len_of true (b ∷ []) = omega arith in
        rw (← none, ← all) refl
    split false =
        let b = buffer_of addr len false in
        let none : len_of true old ≡ len_of true old + len_of true (b ∷ []) = omega arith in
        let all : len_of false old + len ≡ len_of false old + len_of false (b ∷ []) = omega arith in
        rw (← none, ← all) refl

-- one more start
starts_more : (old : List Buffer) (starts : List Start) (n addr len : ℕ) (flag : Bool) (d' : Start)
    → length old ≡ n → n + 1 < length starts
    → ((i : ℕ) (d : Start) → i ≤ n → get_or starts i d ≡ start_at old i)
    → (i : ℕ) (d : Start) → i ≤ n + 1
    → get_or (slice_set starts (n + 1) (start_behind (get_or starts n d') len flag)) i d
    ≡ start_at (old ++ buffer_of addr len flag ∷ []) i
starts_more old starts n addr len flag d' size room before i d h =
    let b = buffer_of addr len flag in
    let next = start_behind (get_or starts n d') len flag in
    let is : next ≡ start_at (old ++ b ∷ []) (n + 1) =
    ap (λ (s : Start). start_behind s len flag) (before n d' (omega arith))
    ∙ start_more old n addr len flag size in
    elim (cases_lt i (n + 1)) [
      | inl sooner ↦
          let front : take i (old ++ b ∷ []) ≡ take i old =
          take-append-le i old (b ∷ []) (omega (arith, sooner, size)) in
          get_or-set_other starts (n + 1) i next d (λ same. absurd (omega (arith, sooner, same)))
          ∙ before i d (omega (arith, sooner)) ∙ rw front refl
      | inr last ↦
          let at : i ≡ n + 1 = omega (arith, h, last) in
          rw at (get_or-set_same starts (n + 1) next d room ∙ is)
    ]

-- so many buffers there are
pub held_len : {room : List Buffer} {filled : ℕ} {starts : List Start} → IsHeld room filled starts
    → length (take filled room) ≡ filled
held_len {room} {filled} held = length-take-le filled room (omega (arith, held.whole, held.few))

-- the start behind all buffers is what they have
pub all_held : {room : List Buffer} {filled : ℕ} {starts : List Start} → IsHeld room filled starts
    → (d : Start) → get_or starts filled d
    ≡ record { readable = len_of false (take filled room); writable = len_of true (take filled room) }
all_held {room} {filled} held d =
    let old : List Buffer = take filled room in
    let size : length old ≡ filled = held_len held in
    let all : take filled old ≡ old = take_all filled old (omega (arith, size)) in
    held.starts_are filled d (omega arith) ∙ rw all refl

-- so its two numbers fit
pub all_fits : {room : List Buffer} {filled : ℕ} {starts : List Start} → IsHeld room filled starts
    → (d : Start) → (get_or starts filled d).readable + (get_or starts filled d).writable < 2 ^ 32
all_fits held d =
    let start = all_held held d in
    omega (
      arith,
      held.total_is,
      held.fits,
      ap (λ (s : Start). s.readable) start,
      ap (λ (s : Start). s.writable) start,
    )

-- one more buffer, of either direction
pub held_more : (room room' : List Buffer) (filled : ℕ) (starts : List Start) (addr len : ℕ)
    (flag : Bool) (d next : Start) → IsHeld room filled starts → filled < 256 → filled + 1 < length starts
    → room' ≡ slice_set room filled (buffer_of addr len flag)
    → next ≡ start_behind (get_or starts filled d) len flag
    → (get_or starts filled d).readable + (get_or starts filled d).writable + len < 2 ^ 32
    → addr + len ≤ 2 ^ 64
    → IsHeld room' (filled + 1) (slice_set starts (filled + 1) next)
held_more room room' filled starts addr len flag d next held few many same is fits below =
    let b : Buffer = buffer_of addr len flag in
    let old : List Buffer = take filled room in
    let size : length old ≡ filled = held_len held in
    let new : take (filled + 1) (slice_set room filled b) ≡ old ++ b ∷ [] =
    take_more_set room filled b (omega (arith, held.whole, few)) in
    let t = sum_by_push (λ (b : Buffer). b.segment.len) old b in
    let x = len_of-append false old (b ∷ []) in
    let y = len_of-append true old (b ∷ []) in
    let start = all_held held d in
    rw (same, is) (record {
      whole = length-set room filled b ∙ held.whole;
      few = omega (arith, few);
      starts_are = rw new (starts_more old starts filled addr len flag d size many held.starts_are);
      total_is = rw new (omega (arith, t, x, y, both addr len flag, held.total_is));
      fits = rw new (omega (
        arith,
        t,
        fits,
        held.total_is,
        ap (λ (s : Start). s.readable) start,
        ap (λ (s : Start). s.writable) start,
      ));
      addressable = rw new (All-push (λ (b : Buffer). b.segment.addr + b.segment.len ≤ 2 ^ 64) old b
          held.addressable below);
    })

-- buffers that a chain may hold, and one more that it admits
pub good_more : (m : Memory) (old : List Buffer) (b : Buffer) → Good m old → Admits m old b
    → Good m (old ++ b ∷ [])
good_more m old b good admits = Good-append m old (b ∷ []) good (admits, tt)

-- and so after a call that may have put it behind them
pub good_after : (m : Memory) (old new : List Buffer) (b : Buffer) (result : Result (Unit {0}) Fault)
    → OnOk result (Admits m old b) → OnOk result (new ≡ old ++ b ∷ []) → OnErr result (new ≡ old) → Good m old
    → Good m new
good_after m old new b (Ok done) ok more same good = rw more (good_more m old b good ok)
good_after m old new b (Err fault) ok more same good = rw same good
