-- Bytes that a device stores one after another in places of a chain, and what they are of all that it writes.
use Rattle.std.proofs.Common.{◌≡◌, ◌∙◌, ℕ, zero, suc, ◌+◌, ◌-◌, ◌<◌, ◌≤◌, ◌^◌, Bool, true, false, Option, Some, None, List, [], ◌∷◌, ◌++◌, length, map, take, drop, replicate, refl, sym, ap, subst, arith, length-drop, length-take}
use Rattle.std.specs.List.{range_with_len}
use Rattle.std.proofs.lemmas.List.FromFn.{length-range_with_len}
use Rattle.std.proofs.lemmas.List.{drop-drop, length-take-le, take-append-drop, take_all}
use Rattle.guest_memory.specs.Memory.{SameRange}
use Rattle.guest_memory.proofs.Ranges.{same_trans, take-plus}
use Rattle.chain.specs.declared.segment.Buffer.{Buffer}
use Rattle.chain.specs.declared.segment.Segment.{Segment}
use Rattle.chain.specs.Buffers.{total_len}
use Rattle.chain.specs.Bytes.{addresses_of, len_of, rest_at, segments_of, writable_of}
use Rattle.chain.specs.Service.{scattered, wrote}
use Rattle.chain.proofs.Directions.{len_of-le, length-addresses_of}
use Rattle.chain.proofs.Partial.{wrote-unwritten}
use Rattle.chain.proofs.Places.{rest_addresses}
use Rattle.shared_memory.specs.Bytes.{StoresByte, StoresEach}
use Rattle.shared_memory.specs.Sightings.{Sightings, Stores, memory}
use Rattle.shared_memory.proofs.Bytes.{byte_stored, each_join}
use Rattle.shared_memory.proofs.Sightings.{interference_range}
use Rattle.chain_handler.specs.Device.{StoresAtOnce}
use Rattle.chain_handler.specs.Storing.{StoresSome}
use Rattle.chain_handler.proofs.Still.{scattered_range}

-- ---- places

-- a chain has fewer than 2^32 places to be read, or to be written
pub few_places : (writable : Bool) (buffers : List Buffer) → total_len buffers < 2 ^ 32
    → length (addresses_of writable buffers) < 2 ^ 32
few_places writable buffers fits =
    omega (arith, length-addresses_of writable buffers, len_of-le writable buffers, fits)

-- what is left of a segment are places of the list
pub rest_fits : (writable : Bool) (buffers : List Buffer) (from : ℕ) (rest : Segment) → from < len_of writable buffers
    → rest ≡ rest_at (segments_of writable buffers) from → from + rest.len ≤ len_of writable buffers
rest_fits writable buffers from rest there is =
    let addrs = addresses_of writable buffers in
    let len = ap (λ (r : Segment). r.len) is in
    let part = ap length (rest_addresses (segments_of writable buffers) from rest.len there (omega (arith, len))) in
    let long = length-range_with_len (rest_at (segments_of writable buffers) from).addr rest.len in
    omega (
      arith,
      part,
      long,
      length-take rest.len (drop from addrs),
      length-drop from addrs,
      length-addresses_of writable buffers,
      there,
    )

-- its first ones are the first from there
pub part_places : (writable : Bool) (buffers : List Buffer) (from n : ℕ) (rest : Segment) → from < len_of writable buffers
    → rest ≡ rest_at (segments_of writable buffers) from → n ≤ rest.len
    → take n (drop from (addresses_of writable buffers)) ≡ range_with_len rest.addr n
part_places writable buffers from n rest there is fits =
    let few = rw is at fits in
    rest_addresses (segments_of writable buffers) from n there few ∙ ap (λ (r : Segment). range_with_len r.addr n) (sym is)

-- so many places from a place on, and those of what is left of the segment behind them
pub places_more : (writable : Bool) (buffers : List Buffer) (from done n : ℕ) (rest : Segment)
    → from + done < len_of writable buffers → rest ≡ rest_at (segments_of writable buffers) (from + done) → n ≤ rest.len
    → take (done + n) (drop from (addresses_of writable buffers))
    ≡ take done (drop from (addresses_of writable buffers)) ++ range_with_len rest.addr n
places_more writable buffers from done n rest there is fits =
    let addrs = addresses_of writable buffers in
    take-plus done n (drop from addrs)
    ∙ ap (λ l. take done (drop from addrs) ++ l) (ap (take n) (drop-drop done from addrs)
    ∙ part_places writable buffers (from + done) n rest there is fits)

-- the part of a row that n places from one on are for
pub part_is : (done n : ℕ) (row : List ℕ) → take (done + n - done) (drop done row) ≡ take n (drop done row)
part_is done n row =
    let same : done + n - done ≡ n = omega arith in
    ap (λ (k : ℕ). take k (drop done row)) same

pub part_long : (done n : ℕ) (row : List ℕ) → done + n ≤ length row → length (take (done + n - done) (drop done row)) ≡ n
part_long done n row fits =
    ap length (part_is done n row) ∙ length-take-le n (drop done row) (omega (arith, fits, length-drop done row))

-- ---- bytes one after another

-- one part more of a row is stored
pub part_stored : (races : Bool) (old now next : Sightings) (buffers : List Buffer) (from done n : ℕ) (bytes row : List ℕ)
    (rest : Segment) → from + done < len_of true buffers → rest ≡ rest_at (segments_of true buffers) (from + done)
    → n ≤ rest.len → done + n ≤ length bytes → row ≡ take (done + n - done) (drop done bytes)
    → StoresEach races old now (take done (drop from (writable_of buffers))) (take done bytes)
    → StoresEach races now next (range_with_len rest.addr (length row)) row
    → StoresEach races old next (take (done + n) (drop from (writable_of buffers))) (take (done + n) bytes)
part_stored races old now next buffers from done n bytes row rest there is fits within row_is before more =
    let long : length row ≡ n = ap length row_is ∙ part_long done n bytes within in
    let rows : take (done + n) bytes ≡ take done bytes ++ row =
    take-plus done n bytes ∙ ap (λ l. take done bytes ++ l) (sym (row_is ∙ part_is done n bytes)) in
    rw (places_more true buffers from done n rest there is fits, rows)
    (each_join races old now next (take done (drop from (writable_of buffers))) (take done bytes) (range_with_len rest.addr n) row
    before (rw long at more))

pub at_once : (races : Bool) (old new : Sightings) (a x : ℕ) → StoresByte races old new a x
    → StoresAtOnce races old new (a ∷ []) (Some x ∷ [])
at_once races old new a x s =
    record { extends = s.extends; before = s.before; interference = s.interference; stored = s.stored }

-- a byte that was stored as a number
pub byte_at_once : (races : Bool) (old new : Sightings) (a x : ℕ) → x < 2 ^ 8 → Stores races old new a 1 x
    → StoresAtOnce races old new (a ∷ []) (Some x ∷ [])
byte_at_once races old new a x small s = at_once races old new a x (byte_stored races old new a x small s)

pub once_range : (races : Bool) (old new : Sightings) (addrs : List ℕ) (written : List (Option ℕ))
    → StoresAtOnce races old new addrs written → SameRange (memory old) (memory new)
once_range races old new addrs written s =
    same_trans (memory old) s.before (memory new) (interference_range races (memory old) s.before s.interference)
    (subst (SameRange s.before) (sym s.stored) (scattered_range s.before addrs written))

-- ---- the parts of what is written

none_behind : (n : ℕ) (t : List (Option ℕ)) → length t ≤ n → wrote (drop n t) ≡ false
none_behind zero [] few = refl
none_behind zero (x ∷ t) few = absurd (omega (arith, few))
none_behind (suc n) [] few = refl
none_behind (suc n) (x ∷ t) few = none_behind n t (omega (arith, few))

-- what is stored at once is one
pub once_some : (races : Bool) (old new : Sightings) (addrs : List ℕ) (written : List (Option ℕ))
    → StoresAtOnce races old new addrs written → StoresSome races old new addrs written
once_some races old new addrs written s =
    let n = length addrs + length written in
    let one : StoresAtOnce races old new (take n addrs) (take n written) = record {
      extends = s.extends;
      before = s.before;
      interference = s.interference;
      stored = s.stored ∙ ap (λ l. scattered s.before l written) (sym (take_all n addrs (omega arith)))
          ∙ ap (λ l. scattered s.before (take n addrs) l) (sym (take_all n written (omega arith)));
    } in
    record {
      parts = record { places = n; stored = new } ∷ [];
      stores = (one, (refl, none_behind n written (omega arith)));
    }

-- where nothing is written there are none
pub none_some : (races : Bool) (s : Sightings) (addrs : List ℕ) (n : ℕ) → StoresSome races s s addrs (replicate n None)
none_some races s addrs n = record { parts = []; stores = (refl, wrote-unwritten n) }

-- a row of bytes is one for each
pub each_some : (races : Bool) (old mid new : Sightings) (addrs bytes later : List ℕ) (written : List (Option ℕ))
    → StoresEach races old mid addrs bytes → StoresSome races mid new later written
    → StoresSome races old new (addrs ++ later) (map Some bytes ++ written)
each_some races old mid new [] [] later written h more =
    subst (λ (s : Sightings). StoresSome races s new later written) h more
each_some races old mid new [] (x ∷ bytes) later written h more = absurd h
each_some races old mid new (a ∷ addrs) [] later written h more = absurd h
each_some races old mid new (a ∷ addrs) (x ∷ bytes) later written h more =
    let rest = each_some races h.stored mid new addrs bytes later written h.later more in
    record {
      parts = record { places = 1; stored = h.stored } ∷ rest.parts;
      stores = (at_once races old h.stored a x h.stores, rest.stores);
    }

-- the first places
pub first_some : (races : Bool) (old new : Sightings) (addrs bytes : List ℕ)
    → StoresEach races old new (take (length bytes) addrs) bytes
    → StoresSome races old new addrs (map Some bytes ++ replicate (length addrs - length bytes) None)
first_some races old new addrs bytes h =
    let n = length bytes in
    rw (take-append-drop n addrs) at
    (each_some races old new new (take n addrs) bytes (drop n addrs) (replicate (length addrs - n) None) h
    (none_some races new (drop n addrs) (length addrs - n)))
