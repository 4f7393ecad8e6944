-- What a device saw of a chain, by the parts that it copied.
use Rattle.std.proofs.Common.{◌≡◌, ◌∙◌, ℕ, ◌+◌, zero, suc, Bool, false, None, List, [], ◌∷◌, ◌++◌, length, replicate, refl, sym, ap, subst, arith}
use Rattle.std.specs.Prelude.{All}
use Rattle.std.specs.List.{flat_map, range_with_len}
use Rattle.std.proofs.lemmas.List.{length-replicate}
use Rattle.std.proofs.lemmas.List.Elements.{All-head, All-tail}
use Rattle.guest_memory.specs.Memory.{Memory, Inside, part_of}
use Rattle.guest_memory.proofs.Ranges.{inside_part, length-part_of}
use Rattle.chain.specs.declared.segment.Buffer.{Buffer}
use Rattle.chain.specs.declared.segment.Segment.{Segment}
use Rattle.chain.specs.Buffers.{Good}
use Rattle.chain.specs.Bytes.{addresses, addresses_of, readable_of, segments_of, writable_of}
use Rattle.chain.specs.Service.{Device, used_len}
use Rattle.chain.proofs.Directions.{All-segments_of}
use Rattle.chain.proofs.Partial.{wrote-unwritten}
use Rattle.shared_memory.specs.Bytes.{AreBytesSeen}
use Rattle.shared_memory.specs.Sightings.{Sightings, Loads, SeenAs, memory}
use Rattle.shared_memory.proofs.Sightings.{loads_none, seen_later, seen_sooner}
use Rattle.chain_handler.specs.Device.{DoesRaced}
use Rattle.chain_handler.proofs.Still.{part_more}

-- ---- what was seen stays seen

bytes_by : (a b c d : Sightings) (addrs bytes : List ℕ) → ((m : Memory) → SeenAs a b m → SeenAs c d m)
    → AreBytesSeen a b addrs bytes → AreBytesSeen c d addrs bytes
bytes_by a b c d [] [] keeps seen = tt
bytes_by a b c d [] (x ∷ bytes) keeps seen = absurd seen
bytes_by a b c d (at ∷ addrs) [] keeps seen = absurd seen
bytes_by a b c d (at ∷ addrs) (x ∷ bytes) keeps seen = (
  record {
    where_read = seen.0.where_read;
    seen = keeps seen.0.where_read seen.0.seen;
    is = seen.0.is;
  },
  bytes_by a b c d addrs bytes keeps seen.1,
)

pub bytes_later : (races : Bool) (a b c : Sightings) (addrs bytes : List ℕ) → Loads races b c → AreBytesSeen a b addrs bytes
    → AreBytesSeen a c addrs bytes
bytes_later races a b c addrs bytes loads = bytes_by a b a c addrs bytes (λ m. seen_later races a b c m loads)

pub bytes_sooner : (races : Bool) (a b c : Sightings) (addrs bytes : List ℕ) → Loads races a b → AreBytesSeen b c addrs bytes
    → AreBytesSeen a c addrs bytes
bytes_sooner races a b c addrs bytes loads = bytes_by b c a c addrs bytes (λ m. seen_sooner races a b c m loads)

-- there are as many as addresses
pub bytes_count : (a b : Sightings) (addrs bytes : List ℕ) → AreBytesSeen a b addrs bytes → length bytes ≡ length addrs
bytes_count a b [] [] seen = refl
bytes_count a b [] (x ∷ bytes) seen = absurd seen
bytes_count a b (at ∷ addrs) [] seen = absurd seen
bytes_count a b (at ∷ addrs) (x ∷ bytes) seen = omega (arith, bytes_count a b addrs bytes seen.1)

-- ---- parts that were copied

module _ (old new : Sightings) where
  -- bytes behind others
  pub seen_append : (xs ys bs cs : List ℕ) → AreBytesSeen old new xs bs → AreBytesSeen old new ys cs
      → AreBytesSeen old new (xs ++ ys) (bs ++ cs)
  seen_append [] ys [] cs p q = q
  seen_append [] ys (b ∷ bs) cs p q = absurd p
  seen_append (x ∷ xs) ys [] cs p q = absurd p
  seen_append (x ∷ xs) ys (b ∷ bs) cs p q = (p.0, seen_append xs ys bs cs p.1 q)

  one_byte : (bytes : List ℕ) → length bytes ≡ 1 → (x : ℕ) × (bytes ≡ x ∷ [])
  one_byte [] e = absurd (omega (arith, e))
  one_byte (x ∷ []) e = (x, refl)
  one_byte (x ∷ y ∷ bytes) e = absurd (omega (arith, e))

  -- the bytes of a part that was copied at one access
  pub part_seen : (m : Memory) (a n : ℕ) → SeenAs old new m → Inside m a n
      → AreBytesSeen old new (range_with_len a n) (part_of m a n)
  part_seen m a zero seen inside = tt
  part_seen m a (suc n) seen inside =
      let here : Inside m a 1 = inside_part inside (omega arith) (omega arith) in
      let later : Inside m (a + 1) n = inside_part inside (omega arith) (omega arith) in
      let byte = one_byte (part_of m a 1) (length-part_of m a 1 here) in
      let is : part_of m a (suc n) ≡ byte.0 ∷ part_of m (a + 1) n =
      part_more m a n here.above ∙ ap (λ (bytes : List ℕ). bytes ++ part_of m (a + 1) n) byte.1 in
      subst (AreBytesSeen old new (a ∷ range_with_len (a + 1) n)) (sym is)
      (record { where_read = m; seen = seen; is = byte.1 }, part_seen m (a + 1) n seen later)

segments_seen : (s : Sightings) (segments : List Segment) → All (λ r. Inside (memory s) r.addr r.len) segments
    → AreBytesSeen s s (flat_map addresses segments) (flat_map (λ r. part_of (memory s) r.addr r.len) segments)
segments_seen s [] inside = tt
segments_seen s (r ∷ segments) inside =
    seen_append s s (addresses r) (flat_map addresses segments) (part_of (memory s) r.addr r.len)
    (flat_map (λ (r : Segment). part_of (memory s) r.addr r.len) segments)
    (part_seen s s (memory s) r.addr r.len (record { place = s.now; from = omega arith; to = omega arith; is = refl })
    (All-head (λ (r : Segment). Inside (memory s) r.addr r.len) r segments inside))
    (segments_seen s segments (All-tail (λ (r : Segment). Inside (memory s) r.addr r.len) r segments inside))

-- the readable list as it stands at one access
pub readable_seen : (s : Sightings) (buffers : List Buffer) → Good (memory s) buffers
    → AreBytesSeen s s (addresses_of false buffers) (readable_of (memory s) buffers)
readable_seen s buffers good = segments_seen s (segments_of false buffers) (All-segments_of (memory s) false buffers good.inside)

none_used : (n : ℕ) → 0 ≡ used_len (replicate n None)
none_used zero = refl
none_used (suc n) = refl

-- a device may write nothing, whatever stands in the readable list
pub writes_nothing : {State : Type 0} (device : Device State) (races : Bool) (s : Sightings) (buffers : List Buffer)
    (old new : State) → Good (memory s) buffers
    → device.Gives old (readable_of (memory s) buffers) (length (writable_of buffers))
    (record { state = new; written = replicate (length (writable_of buffers)) None })
    → DoesRaced device races s s buffers old new 0 false
writes_nothing device races s buffers old new good gives =
    let n = length (writable_of buffers) in record {
      readable = readable_of (memory s) buffers;
      written = replicate n None;
      read_to = s;
      reads = loads_none races s;
      each_read = readable_seen s buffers good;
      gives = gives;
      each = length-replicate n None;
      parts = [];
      stores = (refl, wrote-unwritten n);
      len_is = none_used n;
      any_is = sym (wrote-unwritten n);
    }
