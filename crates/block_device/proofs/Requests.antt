-- One request: over an image that tells its bytes it has one outcome without a failure, and a failure
-- is counted once.
use Rattle.std.proofs.Common.{◌≡◌, ◌⊎◌, inl, inr, ℕ, zero, suc, ◌+◌, ◌≤◌, List, Option, Some, refl, sym, ap, ◌∙◌, arith}
use Rattle.std.specs.Prelude.{IfSome}
use Rattle.chain.specs.Service.{Given}
use Rattle.sector_cache.specs.Sector.{extent_of}
use Rattle.sector_cache.specs.Disk.{Disk}
use Rattle.block_device.specs.declared.device.BlockDevice.{BlockDevice}
use Rattle.block_device.specs.declared.request.Request.{Request}
use Rattle.block_device.specs.declared.request.Request.TheVariants.{Rejected, Read, Write, Flush, GetId, WriteZeroes}
use Rattle.block_device.specs.Request.{request_of, payload_of}
use Rattle.block_device.specs.Outcome.{Outcome, AreSectorContents, Finds, completed, Completes, Fails, Ends}
use Rattle.block_device.specs.Device.{given_of, GivesBy}
use Rattle.block_device.specs.Zeroes.{all_sectors, segments_in}
use Rattle.block_device.proofs.Zeroing.{zeroed-failures, stopped-failures}

-- what is read of a disk that tells its bytes
found_contents : (disk : Disk) (bytes : List ℕ) (sector count : ℕ) (found : List ℕ)
    → disk.contents ≡ Some bytes → AreSectorContents disk sector count found
    → found ≡ extent_of bytes sector count
found_contents disk bytes sector count found e h =
    let P : Option (List ℕ) → Type 0 =
    λ contents. IfSome contents (λ bytes. found ≡ extent_of bytes sector count) in
    let here : P disk.contents = h.contents in
    rw e at here

finds_once : (identity : List ℕ) (request : Request) (disk : Disk) (bytes one other : List ℕ)
    → disk.contents ≡ Some bytes → Finds identity request disk one
    → Finds identity request disk other → one ≡ other
finds_once identity (Rejected status) disk bytes one other e p q = p ∙ sym q
finds_once identity (Read sector count) disk bytes one other e p q =
    found_contents disk bytes sector count one e p ∙ sym (found_contents disk bytes sector count other e q)
finds_once identity (Write sector count) disk bytes one other e p q = p ∙ sym q
finds_once identity Flush disk bytes one other e p q = p ∙ sym q
finds_once identity GetId disk bytes one other e p q = p ∙ sym q
finds_once identity (WriteZeroes segments) disk bytes one other e p q = p ∙ sym q

completes_once : (identity : List ℕ) (request : Request) (payload : List ℕ) (disk : Disk) (bytes : List ℕ)
    (one other : Outcome) → disk.contents ≡ Some bytes
    → Completes identity request payload disk one
    → Completes identity request payload disk other → one ≡ other
completes_once identity request payload disk bytes one other e p q =
    p.is ∙ ap (λ found. completed request payload found disk)
    (finds_once identity request disk bytes p.found q.found e p.finds q.finds) ∙ sym q.is

-- there is one answer to a chain
pub gives_once : (device : BlockDevice) (disk : Disk) (bytes readable : List ℕ) (w : ℕ)
    (one other : Given Disk) → disk.contents ≡ Some bytes
    → GivesBy (Completes device.identity) device disk readable w one
    → GivesBy (Completes device.identity) device disk readable w other → one ≡ other
gives_once device disk bytes readable zero one other e p q = p ∙ sym q
gives_once device disk bytes readable (suc room) one other e p q =
    p.given_is
    ∙ ap (given_of room) (completes_once device.identity (request_of device readable room)
    (payload_of readable) disk bytes p.outcome q.outcome e p.is q.is)
    ∙ sym q.given_is

-- a request without a failure leaves their number
completed_failures : (request : Request) (payload found : List ℕ) (disk : Disk)
    → (completed request payload found disk).disk.failures ≡ disk.failures
completed_failures (Rejected status) payload found disk = refl
completed_failures (Read sector count) payload found disk = refl
completed_failures (Write sector count) payload found disk = refl
completed_failures Flush payload found disk = refl
completed_failures GetId payload found disk = refl
completed_failures (WriteZeroes segments) payload found disk =
    zeroed-failures (all_sectors (segments_in payload)) disk

completes_counted : (identity : List ℕ) (request : Request) (payload : List ℕ) (disk : Disk)
    (outcome : Outcome) → Completes identity request payload disk outcome
    → outcome.disk.failures ≡ disk.failures
completes_counted identity request payload disk outcome h =
    ap (λ (o : Outcome). o.disk.failures) h.is ∙ completed_failures request payload h.found disk

-- one that fails raises it by one
pub fails_counted : (request : Request) (payload : List ℕ) (disk : Disk) (outcome : Outcome)
    → Fails request payload disk outcome → outcome.disk.failures ≡ disk.failures + 1
fails_counted (Rejected status) payload disk outcome h = absurd h
fails_counted (Read sector count) payload disk outcome h = ap (λ (o : Outcome). o.disk.failures) h.is
fails_counted (Write sector count) payload disk outcome (inl h) = ap (λ (o : Outcome). o.disk.failures) h.is
fails_counted (Write sector count) payload disk outcome (inr h) = ap (λ (o : Outcome). o.disk.failures) h
fails_counted Flush payload disk outcome h = ap (λ (o : Outcome). o.disk.failures) h
fails_counted GetId payload disk outcome h = absurd h
fails_counted (WriteZeroes segments) payload disk outcome (inl h) =
    ap (λ (o : Outcome). o.disk.failures) h.is
    ∙ stopped-failures (all_sectors (segments_in payload)) disk h.left h.stopped
fails_counted (WriteZeroes segments) payload disk outcome (inr h) =
    ap (λ (o : Outcome). o.disk.failures) h
    ∙ ap (λ n. n + 1) (zeroed-failures (all_sectors (segments_in payload)) disk)

pub gives_counted : (device : BlockDevice) (disk : Disk) (readable : List ℕ) (w : ℕ) (given : Given Disk)
    → GivesBy (Ends device.identity) device disk readable w given
    → (given.state.failures ≡ disk.failures) ⊎ (given.state.failures ≡ disk.failures + 1)
gives_counted device disk readable zero given h = inl (ap (λ (g : Given Disk). g.state.failures) h)
gives_counted device disk readable (suc room) given h =
    let request = request_of device readable room in
    let same : given.state.failures ≡ h.outcome.disk.failures =
    ap (λ (g : Given Disk). g.state.failures) h.given_is in
    elim h.is [
      | inl c ↦ inl (same ∙ completes_counted device.identity request (payload_of readable) disk h.outcome c)
      | inr f ↦ inr (same ∙ fails_counted request (payload_of readable) disk h.outcome f)
    ]

-- where their number stays, nothing failed
pub gives_exact : (device : BlockDevice) (disk : Disk) (readable : List ℕ) (w : ℕ) (given : Given Disk)
    → GivesBy (Ends device.identity) device disk readable w given
    → given.state.failures ≡ disk.failures → GivesBy (Completes device.identity) device disk readable w given
gives_exact device disk readable zero given h e = h
gives_exact device disk readable (suc room) given h e =
    let request = request_of device readable room in
    let same : given.state.failures ≡ h.outcome.disk.failures =
    ap (λ (g : Given Disk). g.state.failures) h.given_is in
    elim h.is [
      | inl c ↦ record { outcome = h.outcome; is = c; given_is = h.given_is }
      | inr f ↦ let rises = fails_counted request (payload_of readable) disk h.outcome f in
          absurd (omega (arith, rises, same, e))
    ]

-- their number never falls
pub gives_rises : (device : BlockDevice) (disk : Disk) (readable : List ℕ) (w : ℕ) (given : Given Disk)
    → GivesBy (Ends device.identity) device disk readable w given
    → disk.failures ≤ given.state.failures
gives_rises device disk readable w given h =
    elim (gives_counted device disk readable w given h)
    [ inl same ↦ omega (arith, same) | inr more ↦ omega (arith, more) ]
