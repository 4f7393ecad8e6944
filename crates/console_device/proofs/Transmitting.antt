-- Readable bytes of a chain on their way out.
use Rattle.std.proofs.Common.{◌≡◌, ◌≢◌, ◌∙◌, ℕ, ◌+◌, ◌<◌, ◌≤◌, Bool, false, Option, None, Some, List, [], ◌++◌, length, take, refl, sym, ap, arith}
use Rattle.std.specs.Prelude.{All, IfErr, IfSome, OnOk, Result, Ok, Err}
use Rattle.std.specs.List.{range_with_len}
use Rattle.std.proofs.lemmas.List.{take_all}
use Rattle.guest_memory.specs.Memory.{Inside, Memory, part_of}
use Rattle.guest_memory.proofs.Ranges.{take-plus}
use Rattle.chain.specs.declared.segment.Buffer.{Buffer}
use Rattle.chain.specs.declared.segment.Segment.{Segment}
use Rattle.chain.specs.Buffers.{Good, Within}
use Rattle.chain.specs.Bytes.{addresses_of, len_of, readable_of, rest_at, segments_of}
use Rattle.chain.proofs.Contents.{part_inside}
use Rattle.chain.proofs.Directions.{All-segments_of, length-addresses_of, length-readable_of}
use Rattle.chain.proofs.Places.{rest_reads}
use Rattle.chain.proofs.Scattering.{within_same}
use Rattle.shared_memory.specs.Sightings.{Sightings, Loads, memory}
use Rattle.shared_memory.proofs.Sightings.{loads_range, loads_trans}
use Rattle.chain_handler.specs.Device.{DoesRaced, RefusesRaced}
use Rattle.chain_handler.specs.Output.{IsPutOut}
use Rattle.chain_handler.proofs.Doing.{leaves, out_more, reads}
use Rattle.chain_handler.proofs.Rows.{part_places, rest_fits}
use Rattle.chain_handler.proofs.Seeing.{bytes_count, readable_seen}
use Rattle.console_device.specs.declared.no_memory.NoMemory.{NoMemory}
use Rattle.console_device.specs.Device.{Fits, MayRefuse, transmit_within}
use Rattle.console_device.specs.Output.{NoRoom}

-- ---- bytes that go out at once

-- the readable list of a chain as it stands
pub whole_out : (s : Sightings) (buffers : List Buffer) (bytes before after : List ℕ) → Good (memory s) buffers
    → bytes ≡ readable_of (memory s) buffers → after ≡ before ++ bytes → IsPutOut s s (addresses_of false buffers) before after
whole_out s buffers bytes before after good is out =
    record { bytes = bytes; seen = rw is (readable_seen s buffers good); out = out }

-- it has as many bytes as the chain
pub whole_long : (m : Memory) (buffers : List Buffer) (bytes : List ℕ) → All (Within m) buffers → bytes ≡ readable_of m buffers
    → length bytes ≡ len_of false buffers
whole_long m buffers bytes inside is = ap length is ∙ length-readable_of m buffers inside

-- and may be in one buffer
pub in_first : (m : Memory) (buffers : List Buffer) (n : ℕ) (first : Segment) → All (Within m) buffers
    → n ≡ len_of false buffers → 0 < n → first ≡ rest_at (segments_of false buffers) 0 → n ≤ first.len
    → part_of m first.addr n ≡ readable_of m buffers
in_first m buffers n first inside all some is fits =
    let long = length-readable_of m buffers inside in
    ap (λ (r : Segment). part_of m r.addr n) is
    ∙ sym (rest_reads m (segments_of false buffers) 0 n (All-segments_of m false buffers inside) (omega (arith, all, some))
    (rw is at fits))
    ∙ take_all n (readable_of m buffers) (omega (arith, long, all))

-- ---- segment after segment

-- The first bytes of a chain are out, and there is room for the others.
pub record HasPutOut (races : Bool) (old now : Sightings) (buffers : List Buffer) (done : ℕ) (before after : List ℕ)
    (room : ℕ) : Type 0 where
  pub within : done ≤ len_of false buffers
  pub put : IsPutOut old now (take done (addresses_of false buffers)) before after
  pub holds : len_of false buffers ≤ done + room
  pub loads : Loads races old now

module _ {races : Bool} {old now : Sightings} {buffers : List Buffer} {done : ℕ} {before after : List ℕ} {room : ℕ}
    (h : HasPutOut races old now buffers done before after room) (rest : Segment) (there : done < len_of false buffers)
    (is : rest ≡ rest_at (segments_of false buffers) done) where
  pub rest_within : done + rest.len ≤ len_of false buffers
  rest_within = rest_fits false buffers done rest there is

  -- there is room for it, and it lies in the memory
  pub has_room : rest.len ≤ room
  has_room = omega (arith, rest_within, h.holds)

  pub rest_lies : Good (memory old) buffers → Inside (memory now) rest.addr rest.len
  rest_lies good =
      part_inside (memory now) false buffers done rest.len
      (within_same (memory old) (memory now) buffers (loads_range races old now h.loads) good.inside) there rest is (omega arith)

  -- and then some of its bytes are out as well
  pub put_more : (next : Sightings) (n : ℕ) (more : List ℕ) (left : ℕ) → n ≤ rest.len → Loads races now next
      → IsPutOut now next (range_with_len rest.addr n) after more → room ≤ left + n
      → HasPutOut races old next buffers (done + n) before more left
  put_more next n more left few loads put leaves =
      let addrs = addresses_of false buffers in
      let places : take (done + n) addrs ≡ take done addrs ++ range_with_len rest.addr n =
      take-plus done n addrs ∙ ap (λ l. take done addrs ++ l) (part_places false buffers done n rest there is few) in
      record {
        within = omega (arith, rest_within, few);
        put = rw places (out_more races old now next (take done addrs) (range_with_len rest.addr n) before after more h.loads
            loads h.put put);
        holds = omega (arith, h.holds, leaves);
        loads = loads_trans races old now next h.loads loads;
      }

-- all of them
pub all_out : {races : Bool} {old now : Sightings} {buffers : List Buffer} {done : ℕ} {before after : List ℕ} {room : ℕ}
    → HasPutOut races old now buffers done before after room → len_of false buffers ≤ done
    → IsPutOut old now (addresses_of false buffers) before after
all_out {races} {old} {now} {buffers} {done} h all =
    rw (take_all done (addresses_of false buffers) (omega (arith, length-addresses_of false buffers, all))) at h.put

-- ---- a chain is transmitted, or left

pub transmit_does : (limit : Option ℕ) (races : Bool) (old new : Sightings) (buffers : List Buffer) (before after : List ℕ)
    → Loads races old new → IsPutOut old new (addresses_of false buffers) before after
    → Fits limit (length before + len_of false buffers)
    → DoesRaced (transmit_within limit) races old new buffers before after 0 false
transmit_does limit races old new buffers before after loads h fits =
    let long : length h.bytes ≡ len_of false buffers =
    bytes_count old new (addresses_of false buffers) h.bytes h.seen ∙ length-addresses_of false buffers in
    reads (transmit_within limit) races old new buffers before after h.bytes loads h.seen (rw h.out refl, rw long fits)

not_empty : (l : List ℕ) → 0 < length l → l ≢ []
not_empty l some none = let e : length l ≡ 0 = ap length none in omega (arith, some, e)

pub transmit_refused : (limit : Option ℕ) (races : Bool) (old new : Sightings) (buffers : List Buffer) (out : List ℕ) (why : NoMemory)
    → new ≡ old → Good (memory old) buffers → 0 < len_of false buffers
    → MayRefuse limit (length out + len_of false buffers)
    → RefusesRaced (NoRoom limit) races old new buffers out why
transmit_refused limit races old new buffers out why same good some refused =
    let readable = readable_of (memory old) buffers in
    let long : length readable ≡ len_of false buffers = length-readable_of (memory old) buffers good.inside in
    rw same (leaves (NoRoom limit) races old buffers out why good
    (not_empty readable (omega (arith, some, long)), rw long refused))

-- ---- what follows of a result

pub if_some : {A : Type 0} (found : Option A) (P Q : A → Type 0) → ((x : A) → P x → Q x) → IfSome found P → IfSome found Q
if_some None P Q h p = p
if_some (Some x) P Q h p = h x p

pub on_ok : {A E : Type 0} (r : Result A E) (P Q : Type 0) → (P → Q) → OnOk r P → OnOk r Q
on_ok (Ok x) P Q h p = h p
on_ok (Err why) P Q h p = p

-- whatever the reason is
pub left : {A E : Type 0} (r : Result A E) (P : E → Type 0) → ((why : E) → P why) → IfErr r P
left (Ok x) P h = tt
left (Err why) P h = h why
