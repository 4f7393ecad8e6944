-- What a device does with a chain, by the bytes that it read or stored: for a guest that stands still as for one that runs on.
use Rattle.std.proofs.Common.{◌≡◌, ◌∙◌, ℕ, zero, suc, ◌-◌, ◌≤◌, nat_lt, Bool, false, Option, Some, None, List, [], ◌∷◌, ◌++◌, length, map, take, drop, refl, sym, ap, arith, length-append, append_assoc}
use Rattle.std.specs.Prelude.{◌||◌}
use Rattle.std.specs.List.{range_with_len}
use Rattle.std.proofs.Math.Bool.{or-false}
use Rattle.std.proofs.lemmas.Bool.{lt-ltb}
use Rattle.std.proofs.lemmas.List.{drop-append-le, drop_all, length-map, length-replicate, length-take-le, take-append-drop}
use Rattle.guest_memory.specs.Memory.{Inside, part_of}
use Rattle.chain.specs.declared.segment.Buffer.{Buffer}
use Rattle.chain.specs.Buffers.{Good}
use Rattle.chain.specs.Bytes.{addresses_of, len_of, readable_of, writable_of}
use Rattle.chain.specs.Service.{Device, used_len, wrote}
use Rattle.chain.proofs.Directions.{length-readable_of}
use Rattle.chain.proofs.Partial.{unwritten, used_len-run, wrote-append, wrote-unwritten}
use Rattle.shared_memory.specs.Bytes.{AreBytesSeen, StoresEach}
use Rattle.shared_memory.specs.Sightings.{Sightings, Loads, memory}
use Rattle.shared_memory.proofs.Sightings.{inside_loads, loads_none, seen_last}
use Rattle.chain_handler.specs.Device.{DoesRaced, RefusesRaced}
use Rattle.chain_handler.specs.Storing.{StoresSome}
use Rattle.chain_handler.proofs.Seeing.{bytes_later, bytes_sooner, part_seen, readable_seen, seen_append}
use Rattle.chain_handler.proofs.Rows.{first_some}
use Rattle.chain_handler.specs.Output.{IsPutOut}

-- places that stay as they are count for nothing
pub used_len-none : (n : ℕ) → used_len (unwritten n) ≡ 0
used_len-none zero = refl
used_len-none (suc n) = refl

wrote-run : (bytes : List ℕ) → wrote (map Some bytes) ≡ nat_lt 0 (length bytes)
wrote-run [] = refl
wrote-run (x ∷ bytes) = sym (lt-ltb 0 (length (x ∷ bytes)) (omega arith))

module _ {State : Type 0} (device : Device State) (races : Bool) (old new : Sightings) (buffers : List Buffer) (s t : State) where
  -- It reads nothing, and stores these bytes in the first places.
  pub fills : (bytes : List ℕ) (len : ℕ) (any : Bool) → Good (memory old) buffers
      → StoresEach races old new (take (length bytes) (writable_of buffers)) bytes
      → length bytes ≤ length (writable_of buffers)
      → device.Gives s (readable_of (memory old) buffers) (length (writable_of buffers))
      (record { state = t; written = map Some bytes ++ unwritten (length (writable_of buffers) - length bytes) })
      → len ≡ length bytes → any ≡ nat_lt 0 (length bytes) → DoesRaced device races old new buffers s t len any
  fills bytes len any good stored few gives len_is any_is =
      let addrs = writable_of buffers in
      let rest = length addrs - length bytes in
      let some : StoresSome races old new addrs (map Some bytes ++ unwritten rest) = first_some races old new addrs bytes stored in
      record {
        readable = readable_of (memory old) buffers;
        written = map Some bytes ++ unwritten rest;
        read_to = old;
        reads = loads_none races old;
        each_read = readable_seen old buffers good;
        gives = gives;
        each = length-append (map Some bytes) (unwritten rest)
            ∙ (let a = length-map bytes Some in let b = length-replicate {A = Option ℕ} rest None in omega (arith, a, b, few));
        parts = some.parts;
        stores = some.stores;
        len_is = len_is ∙ sym (used_len-run bytes (unwritten rest)
            ∙ (let n = used_len-none rest in omega (arith, n)));
        any_is = any_is ∙ sym (wrote-append (map Some bytes) (unwritten rest)
            ∙ ap (λ b. wrote (map Some bytes) || b) (wrote-unwritten rest) ∙ or-false (wrote (map Some bytes)) ∙ wrote-run bytes);
      }

  -- It reads these bytes, and stores none.
  pub reads : (readable : List ℕ) → Loads races old new → AreBytesSeen old new (addresses_of false buffers) readable
      → device.Gives s readable (length (writable_of buffers))
      (record { state = t; written = unwritten (length (writable_of buffers)) })
      → DoesRaced device races old new buffers s t 0 false
  reads readable loads seen gives =
      let w = length (writable_of buffers) in
      record {
        readable = readable;
        written = unwritten w;
        read_to = new;
        reads = loads;
        each_read = seen;
        gives = gives;
        each = length-replicate {A = Option ℕ} w None;
        parts = [];
        stores = (refl, wrote-unwritten w);
        len_is = sym (used_len-none w);
        any_is = sym (wrote-unwritten w);
      }

-- It leaves the chain on offer, and has read nothing of it.
pub leaves : {State E : Type 0} (Refuses : State → List ℕ → List Buffer → E → Type 0) (races : Bool) (old : Sightings)
    (buffers : List Buffer) (s : State) (why : E) → Good (memory old) buffers
    → Refuses s (readable_of (memory old) buffers) buffers why → RefusesRaced Refuses races old old buffers s why
leaves Refuses races old buffers s why good refuses = record {
  readable = readable_of (memory old) buffers;
  reads = loads_none races old;
  each_read = readable_seen old buffers good;
  refuses = refuses;
}

-- ---- a part of the readable list

-- some bytes, and others behind them
pub out_more : (races : Bool) (a b c : Sightings) (xs ys first mid last : List ℕ) → Loads races a b → Loads races b c
    → IsPutOut a b xs first mid → IsPutOut b c ys mid last → IsPutOut a c (xs ++ ys) first last
out_more races a b c xs ys first mid last loads more h k = record {
  bytes = h.bytes ++ k.bytes;
  seen = seen_append a c xs ys h.bytes k.bytes (bytes_later races a b c xs h.bytes more h.seen)
      (bytes_sooner races a b c ys k.bytes loads k.seen);
  out = k.out ∙ ap (λ l. l ++ k.bytes) h.out ∙ append_assoc first h.bytes k.bytes;
}

-- bytes that were copied at one access, or stand there
pub copy_out : (races : Bool) (a b : Sightings) (addr n : ℕ) (bytes first last : List ℕ) → Loads races a b
    → Inside (memory a) addr n → bytes ≡ part_of (memory b) addr n → last ≡ first ++ bytes
    → IsPutOut a b (range_with_len addr n) first last
copy_out races a b addr n bytes first last loads inside is out = record {
  bytes = bytes;
  seen = rw is (part_seen a b (memory b) addr n (seen_last races a b loads) (inside_loads races a b addr n loads inside));
  out = out;
}

seen_first : (a b : Sightings) (n : ℕ) (addrs bytes : List ℕ) → AreBytesSeen a b addrs bytes
    → AreBytesSeen a b (take n addrs) (take n bytes)
seen_first a b zero addrs bytes seen = tt
seen_first a b (suc n) [] [] seen = tt
seen_first a b (suc n) [] (x ∷ bytes) seen = absurd seen
seen_first a b (suc n) (at ∷ addrs) [] seen = absurd seen
seen_first a b (suc n) (at ∷ addrs) (x ∷ bytes) seen = (seen.0, seen_first a b n addrs bytes seen.1)

-- The readable list of which the first bytes weren't read: they are as they stood.
pub unread : List ℕ → ℕ → List ℕ → List ℕ
unread stood from bytes = take from stood ++ bytes

module _ (races : Bool) (old new : Sightings) (buffers : List Buffer) (from : ℕ) (bytes : List ℕ)
    (good : Good (memory old) buffers) where
  pub seen_behind : Loads races old new → AreBytesSeen old new (drop from (addresses_of false buffers)) bytes
      → AreBytesSeen old new (addresses_of false buffers) (unread (readable_of (memory old) buffers) from bytes)
  unfolding unread
  seen_behind loads seen =
      let addrs = addresses_of false buffers in
      let first : AreBytesSeen old new (take from addrs) (take from (readable_of (memory old) buffers)) =
      bytes_later races old old new (take from addrs) (take from (readable_of (memory old) buffers)) loads
      (seen_first old old from addrs (readable_of (memory old) buffers) (readable_seen old buffers good)) in
      rw (take-append-drop from addrs) at
      (seen_append old new (take from addrs) (drop from addrs) (take from (readable_of (memory old) buffers)) bytes first seen)

  -- it has as many bytes as the chain, and behind the unread ones those that were read
  pub behind_is : from ≤ len_of false buffers → drop from (unread (readable_of (memory old) buffers) from bytes) ≡ bytes
  unfolding unread
  behind_is fits =
      let stood = readable_of (memory old) buffers in
      let long : length (take from stood) ≡ from =
      length-take-le from stood (omega (arith, length-readable_of (memory old) buffers good.inside, fits)) in
      drop-append-le from (take from stood) bytes (omega (arith, long))
      ∙ ap (λ l. l ++ bytes) (drop_all from (take from stood) (omega (arith, long)))
