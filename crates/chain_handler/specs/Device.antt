-- What a device does with one chain whose guest may write it meanwhile (2.6): what it read, and what it stored.
use Rattle.std.specs.Prelude.{◌≡◌, ℕ, Bool, false, Option, List, [], ◌∷◌, length, take, drop}
use Rattle.guest_memory.specs.Memory.{Memory}
use Rattle.chain.specs.declared.segment.Buffer.{Buffer}
use Rattle.chain.specs.Bytes.{addresses_of, writable_of}
use Rattle.chain.specs.Service.{Device, scattered, used_len, wrote}
use Rattle.shared_memory.specs.Bytes.{AreBytesSeen}
use Rattle.shared_memory.specs.Sightings.{Sightings, Interference, Loads, StoreExtends, memory}

-- What is written at these addresses was stored at one moment; the guest may have written before it.
pub record StoresAtOnce (races : Bool) (old new : Sightings) (addrs : List ℕ) (written : List (Option ℕ)) : Type 0 where
  pub extends : StoreExtends races old new
  pub before : Memory
  pub interference : Interference races (memory old) before
  pub stored : memory new ≡ scattered before addrs written

-- so many places of a writable list, and what the memory was seen as once what is written there was stored
pub record Part : Type 0 where
  pub places : ℕ
  pub stored : Sightings

-- What is written at these addresses was stored part after part, in the order of the places. Places behind the last part
-- aren't written.
abbrev pub StoresParts : Bool → Sightings → List Part → Sightings → List ℕ → List (Option ℕ) → Type 0
StoresParts races old [] new addrs written = (new ≡ old) × (wrote written ≡ false)
StoresParts races old (part ∷ parts) new addrs written =
    StoresAtOnce races old part.stored (take part.places addrs) (take part.places written)
    × StoresParts races part.stored parts new (drop part.places addrs) (drop part.places written)

-- The device serves the chain of these buffers with state s: with state t after it, len bytes written without a gap, and
-- any byte written or none. It first reads the readable list, each byte at some access; what it writes is stored behind
-- that.
pub record DoesRaced {State : Type 0} (device : Device State) (races : Bool) (old new : Sightings) (buffers : List Buffer)
    (s t : State) (len : ℕ) (any : Bool) : Type 0 where
  pub readable : List ℕ
  pub written : List (Option ℕ)
  pub read_to : Sightings
  pub reads : Loads races old read_to
  pub each_read : AreBytesSeen old read_to (addresses_of false buffers) readable
  pub gives : device.Gives s readable (length (writable_of buffers)) (record { state = t; written = written })
  pub each : length written ≡ length (writable_of buffers)
  pub parts : List Part
  pub stores : StoresParts races read_to parts new (writable_of buffers) written
  pub len_is : len ≡ used_len written
  pub any_is : any ≡ wrote written

-- The device leaves the chain of these buffers on offer, for this reason: it only read, and each readable byte by which it
-- judged stood at its place's address at some access.
pub record RefusesRaced {State E : Type 0} (Refuses : State → List ℕ → List Buffer → E → Type 0) (races : Bool)
    (old new : Sightings) (buffers : List Buffer) (s : State) (why : E) : Type 0 where
  pub readable : List ℕ
  pub reads : Loads races old new
  pub each_read : AreBytesSeen old new (addresses_of false buffers) readable
  pub refuses : Refuses s readable buffers why
