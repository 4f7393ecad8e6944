-- What a stop may leave, through one call of the cache after another, one request and one chain.
use Rattle.std.proofs.Common.{◌≡◌, ℕ, suc, ◌+◌, ◌*◌, ◌<◌, ◌≤◌, Option, None, Some, List, [], ◌∷◌, ◌++◌, length, map, get_or, refl, sym, ap, subst, ◌∙◌, arith}
use Rattle.std.specs.List.{range_with_len}
use Rattle.std.specs.Prelude.{Bool, Contains, IfSome, false}
use Rattle.std.proofs.lemmas.List.{get_or-map, length-map}
use Rattle.std.proofs.lemmas.List.Elements.{All-contains, All-from_recursion, Contains-append_left, Contains-append_right, Contains-get_or}
use Rattle.std.proofs.lemmas.List.FromFn.{get_or-range_with_len, length-range_with_len}
use Rattle.guest_memory.specs.Memory.{Memory}
use Rattle.chain.specs.declared.segment.Buffer.{Buffer}
use Rattle.chain.specs.Bytes.{readable_of, writable_of}
use Rattle.chain.specs.Service.{Device, Does, Served, ServesAll, Site, after}
use Rattle.sector_cache.specs.Disk.{Disk, LeavesContents}
use Rattle.sector_cache.specs.Sector.{sector_of}
use Rattle.sector_cache.specs.Stop.{BeginsAt, DiffersInSectors, Only, Touches, TouchesBy, TouchesSectors}
use Rattle.sector_cache.proofs.Stops.{differs_in_more, differs_in_none, differs_in_one, differs_in_range, differs_in_run, differs_in_wider, known_by, contents_by, touches_as, touches_more, touches_more_by, touches_none, touches_none_by, touches_nothing_by}
use Rattle.mmio_window.specs.declared.queue.Queue.{Queue}
use Rattle.mmio_window.specs.Queue.{queue_kind}
use Rattle.block_device.specs.declared.device.BlockDevice.{BlockDevice}
use Rattle.block_device.specs.declared.extent.Extent.{Extent}
use Rattle.block_device.specs.declared.request.Request.{Request}
use Rattle.block_device.specs.declared.request.Request.TheVariants.{Rejected, Read, Write, Flush, GetId, WriteZeroes}
use Rattle.block_device.specs.Asking.{IsAsked}
use Rattle.block_device.specs.Device.{block_device}
use Rattle.block_device.specs.Durable.{IsCommitted}
use Rattle.block_device.specs.Extent.{extent_disk}
use Rattle.block_device.specs.Progress.{IsServable}
use Rattle.block_device.specs.Request.{payload_of}
use Rattle.block_device.specs.Touching.{GivesOver, device_over, on_image, sectors_of_chain, sectors_of_chains, seen_chain, seen_site, written_sectors}
use Rattle.block_device.specs.Zeroes.{all_sectors, segments_in}
use Rattle.block_device.proofs.Durable.{committed_clean}
use Rattle.block_device.proofs.Zeroing.{all-below, run-below}

-- ---- an extent

abbrev TouchesIn : Extent → ℕ → ℕ → (List ℕ → Type 0) → (List ℕ → Type 0) → (ℕ → List ℕ → Type 0)
    → (ℕ → List ℕ → Type 0) → Type 0
TouchesIn extent t u a b p q = Touches (512 * extent.start) (512 * (extent.start + extent.count)) t u a b p q

-- no call
pub untouched : (extent : Extent) {t : ℕ} {a : List ℕ → Type 0} {p : ℕ → List ℕ → Type 0}
    → TouchesIn extent t t a a p p
untouched extent = touches_none (512 * extent.start) (512 * (extent.start + extent.count))

-- calls within the extent
pub touched_more : (extent : Extent) {t u v : ℕ} {a b c : List ℕ → Type 0} {p q r : ℕ → List ℕ → Type 0}
    → TouchesIn extent t u a b p q → TouchesIn extent u v b c q r → TouchesIn extent t v a c p r
touched_more extent so_far calls =
    touches_more (512 * extent.start) (512 * (extent.start + extent.count)) so_far calls

-- ---- sectors of an extent

pub range_has : (a n k : ℕ) → k < n → Contains (range_with_len a n) (a + k)
range_has a n k below = (
  k,
  omega (arith, below, length-range_with_len a n),
  get_or-range_with_len a n k (a + k) below,
)

onto_image : (extent : Extent) (own : List ℕ) (sector : ℕ) → Contains own sector
    → Contains (on_image extent own) (extent.start + sector)
onto_image extent own sector here =
    let on : ℕ → ℕ = λ s. extent.start + s in
    let below = here.1 in (
      here.0,
      omega (arith, below, length-map own on),
      get_or-map on own here.0 sector (extent.start + sector) below ∙ ap on here.2,
    )

-- such a sector is one of the extent's
record IsOf (extent : Extent) (own : List ℕ) (place : ℕ) : Type 0 where
  pub sector : ℕ
  pub listed : Contains own sector
  pub at : place ≡ extent.start + sector

of_extent : (extent : Extent) (own : List ℕ) (place : ℕ) → Contains (on_image extent own) place
    → IsOf extent own place
of_extent extent own place here =
    let on : ℕ → ℕ = λ s. extent.start + s in
    let among = here.1 in
    let below : here.0 < length own = omega (arith, among, length-map own on) in
    record {
      sector = get_or own here.0 0;
      listed = Contains-get_or own here.0 0 below;
      at = sym here.2 ∙ get_or-map on own here.0 0 place below;
    }

wider_image : (extent : Extent) (own part : List ℕ)
    → ((sector : ℕ) → Contains part sector → Contains own sector) → (place : ℕ)
    → Contains (on_image extent part) place → Contains (on_image extent own) place
wider_image extent own part all place here =
    let s = of_extent extent part place here in subst (λ p. Contains (on_image extent own) p) (sym s.at)
    (onto_image extent own s.sector (all s.sector s.listed))

within_image : (extent : Extent) (own : List ℕ)
    → ((sector : ℕ) → Contains own sector → sector < extent.count) → (place : ℕ)
    → Contains (on_image extent own) place
    → (extent.start ≤ place) × (place < extent.start + extent.count)
within_image extent own below place here =
    let s = of_extent extent own place here in
    let at = s.at in
    let less = below s.sector s.listed in (omega (arith, at), omega (arith, at, less))

-- ---- calls that touch only these

-- no call
pub unwritten : (sectors : List ℕ) {t : ℕ} {a : List ℕ → Type 0} {p : ℕ → List ℕ → Type 0}
    → TouchesBy (DiffersInSectors sectors) t t a a p p
unwritten sectors = touches_none_by (DiffersInSectors sectors) (differs_in_none sectors)

-- a call that touches nothing, as a read or a flush
pub written_none : (sectors : List ℕ) {t u : ℕ} {a b : List ℕ → Type 0} {p q : ℕ → List ℕ → Type 0}
    → Touches 0 0 t u a b p q → TouchesBy (DiffersInSectors sectors) t u a b p q
written_none sectors call = touches_nothing_by (DiffersInSectors sectors) (differs_in_none sectors) call

-- one more
pub written_more : (sectors : List ℕ) {t u v : ℕ} {a b c : List ℕ → Type 0} {p q r : ℕ → List ℕ → Type 0}
    → TouchesBy (DiffersInSectors sectors) t u a b p q → TouchesBy (DiffersInSectors sectors) u v b c q r
    → TouchesBy (DiffersInSectors sectors) t v a c p r
written_more sectors so_far call =
    touches_more_by (DiffersInSectors sectors) (differs_in_more sectors) so_far call

pub written_nothing : (sectors : List ℕ) {t u v : ℕ} {a b c : List ℕ → Type 0} {p q r : ℕ → List ℕ → Type 0}
    → TouchesBy (DiffersInSectors sectors) t u a b p q → Touches 0 0 u v b c q r
    → TouchesBy (DiffersInSectors sectors) t v a c p r
written_nothing sectors so_far call = written_more sectors so_far (written_none sectors call)

-- a write of one of them
pub written_sector : (extent : Extent) (own : List ℕ) (sector place : ℕ) {t u v : ℕ} {a b c : List ℕ → Type 0}
    {p q r : ℕ → List ℕ → Type 0} → TouchesBy (DiffersInSectors (on_image extent own)) t u a b p q
    → Contains own sector → place ≡ extent.start + sector
    → Touches (512 * place) (512 * (place + 1)) u v b c q r
    → TouchesBy (DiffersInSectors (on_image extent own)) t v a c p r
written_sector extent own sector place so_far listed at call =
    let here : Contains (on_image extent own) place = subst (λ p. Contains (on_image extent own) p) (sym at)
    (onto_image extent own sector listed) in
    written_more (on_image extent own) so_far
    (touches_as (differs_in_one (on_image extent own) place here) call)

-- a write in place of some that follow one another
pub written_run : (extent : Extent) (own : List ℕ) (sector place n size : ℕ) {t u v : ℕ}
    {a b c : List ℕ → Type 0}
    {p q r : ℕ → List ℕ → Type 0} → TouchesBy (DiffersInSectors (on_image extent own)) t u a b p q
    → ((k : ℕ) → k < n → Contains own (sector + k)) → place ≡ extent.start + sector → size ≡ 512 * n
    → Touches (512 * place) (512 * place + size) u v b c q r
    → TouchesBy (DiffersInSectors (on_image extent own)) t v a c p r
written_run extent own sector place n size so_far listed at whole call =
    written_more (on_image extent own) so_far
    (touches_as (differs_in_run (on_image extent own) place n size whole here) call)
  where
    here : (k : ℕ) → k < n → Contains (on_image extent own) (place + k)
    here k below =
        let same : extent.start + (sector + k) ≡ place + k = omega (arith, at) in
        subst (λ p. Contains (on_image extent own) p) same
        (onto_image extent own (sector + k) (listed k below))

-- calls that touch some of them
pub written_part : (extent : Extent) (own part : List ℕ) {t u v : ℕ} {a b c : List ℕ → Type 0}
    {p q r : ℕ → List ℕ → Type 0} → TouchesBy (DiffersInSectors (on_image extent own)) t u a b p q
    → ((sector : ℕ) → Contains part sector → Contains own sector)
    → TouchesBy (DiffersInSectors (on_image extent part)) u v b c q r
    → TouchesBy (DiffersInSectors (on_image extent own)) t v a c p r
written_part extent own part so_far all calls =
    written_more (on_image extent own) so_far
    (touches_as (differs_in_wider (on_image extent part) (on_image extent own)
    (wider_image extent own part all)) calls)

-- ---- a request

-- it writes sectors of its disk alone
written_below : (capacity : ℕ) (request : Request) (payload : List ℕ) (room : ℕ)
    → IsServable capacity request payload room → (sector : ℕ)
    → Contains (written_sectors request payload) sector → sector < capacity
written_below capacity (Rejected status) payload room servable sector here = let none = here.1 in
    absurd (omega (arith, none))
written_below capacity (Read first count) payload room servable sector here = let none = here.1 in
    absurd (omega (arith, none))
written_below capacity (Write first count) payload room servable sector here =
    All-contains (λ s. s < capacity) (range_with_len first count) sector
    (All-from_recursion (λ s. s < capacity) (range_with_len first count)
    (run-below first count capacity servable.0)) here
written_below capacity Flush payload room servable sector here = let none = here.1 in
    absurd (omega (arith, none))
written_below capacity GetId payload room servable sector here = let none = here.1 in
    absurd (omega (arith, none))
written_below capacity (WriteZeroes segments) payload room servable sector here =
    All-contains (λ s. s < capacity) (all_sectors (segments_in payload)) sector
    (All-from_recursion (λ s. s < capacity) (all_sectors (segments_in payload))
    (all-below capacity (segments_in payload) servable.1)) here

abbrev TouchesOf : List ℕ → ℕ → ℕ → (List ℕ → Type 0) → (List ℕ → Type 0) → (ℕ → List ℕ → Type 0)
    → (ℕ → List ℕ → Type 0) → Type 0
TouchesOf sectors t u a b p q = TouchesBy (DiffersInSectors sectors) t u a b p q

pub own_write : (extent : Extent) (request : Request) (payload : List ℕ) (sector count : ℕ) {t u : ℕ}
    {a b : List ℕ → Type 0} {p q : ℕ → List ℕ → Type 0} → request ≡ Write sector count
    → TouchesOf (on_image extent (range_with_len sector count)) t u a b p q
    → TouchesOf (on_image extent (written_sectors request payload)) t u a b p q
own_write extent request payload sector count is h = rw is h

module _ (device : BlockDevice) (m : Memory) (buffers : List Buffer) (request : Request)
    (asked : IsAsked device m buffers request) where
  abbrev payload : List ℕ
  payload = payload_of (readable_of m buffers)

  -- as the request of its chain
  pub own_chain : {t u : ℕ} {a b : List ℕ → Type 0} {p q : ℕ → List ℕ → Type 0}
      → TouchesOf (on_image device.extent (written_sectors request payload)) t u a b p q
      → TouchesOf (sectors_of_chain device (readable_of m buffers) (length (writable_of buffers))) t u a b p q
  own_chain {t} {u} {a} {b} {p} {q} h =
      let all : length (writable_of buffers) ≡ suc asked.room = omega (arith, asked.all) in
      let here : TouchesOf (sectors_of_chain device (readable_of m buffers) (suc asked.room)) t u a b p q =
      subst (λ (r : Request). TouchesOf (on_image device.extent (written_sectors r payload)) t u a
      b p q) asked.is h in
      subst (λ w. TouchesOf (sectors_of_chain device (readable_of m buffers) w) t u a b p q) (sym all) here

  -- and within the extent
  pub own_extent : {t u : ℕ} {a b : List ℕ → Type 0} {p q : ℕ → List ℕ → Type 0}
      → TouchesOf (on_image device.extent (written_sectors request payload)) t u a b p q
      → TouchesIn device.extent t u a b p q
  own_extent h =
      touches_as (differs_in_range device.extent.start (device.extent.start + device.extent.count)
      (on_image device.extent (written_sectors request payload))
      (within_image device.extent (written_sectors request payload)
      (written_below device.extent.count request payload asked.room asked.servable))) h

-- ---- chains, over the image

module _ {I : Type 0} (disk : I → Disk) (moment : I → ℕ) (may_leave : I → List ℕ → Type 0)
    (left_since : I → ℕ → List ℕ → Type 0) (device : BlockDevice) where
  abbrev over : Device I
  over = device_over disk moment may_leave left_since device

  abbrev sectors_in : Site Queue I → List (Served I) → List ℕ
  sectors_in site chains = sectors_of_chains disk moment may_leave left_since device site chains

  -- one chain
  pub does_over : (m answered : Memory) (buffers : List Buffer) (image image' : I) (len : ℕ) (any : Bool)
      → Does (block_device device) m answered buffers (extent_disk device.extent (disk image))
      (extent_disk device.extent (disk image')) len any
      → TouchesSectors moment may_leave left_since
      (sectors_of_chain device (readable_of m buffers) (length (writable_of buffers))) image image'
      → Does over m answered buffers image image' len any
  does_over m answered buffers image image' len any d touches = record {
    written = d.written;
    gives = record { gives = d.gives; touches = touches };
    each = d.each;
    memory = d.memory;
    len_is = d.len_is;
    any_is = d.any_is;
  }

  -- chains one after another touch the sectors of their requests
  pub chains_touch : (start at : Site Queue I) (chains : List (Served I))
      → ServesAll queue_kind over start chains at
      → TouchesSectors moment may_leave left_since (sectors_in start chains) start.state at.state
  chains_touch start at [] p = subst (λ (s : Site Queue I). TouchesSectors moment may_leave left_since []
      start.state s.state) p (unwritten [])
  chains_touch start at (s ∷ chains) p =
      let mid = after queue_kind over start s in
      let own = sectors_of_chain device (readable_of start.memory s.buffers)
      (length (writable_of s.buffers)) in
      let rest = sectors_in mid chains in
      let gives : GivesOver disk moment may_leave left_since device start.state
      (readable_of start.memory s.buffers) (length (writable_of s.buffers)) s.given = p.0.gives in
      written_more (own ++ rest)
      (touches_as (differs_in_wider own (own
      ++ rest) (λ sector here. Contains-append_left own rest sector here)) gives.touches)
      (touches_as (differs_in_wider rest (own ++ rest)
      (λ sector here. Contains-append_right own rest sector here)) (chains_touch mid at chains p.1))

  -- and are served over the extent as a disk
  pub chains_seen : (start at : Site Queue I) (chains : List (Served I))
      → ServesAll queue_kind over start chains at
      → ServesAll queue_kind (block_device device) (seen_site disk device start)
      (map (seen_chain disk device) chains) (seen_site disk device at)
  chains_seen start at [] p = ap (seen_site disk device) p
  chains_seen start at (s ∷ chains) p =
      let gives : GivesOver disk moment may_leave left_since device start.state
      (readable_of start.memory s.buffers) (length (writable_of s.buffers)) s.given = p.0.gives in (
        record { ready = p.0.ready; offered = p.0.offered; gives = gives.gives; each = p.0.each },
        chains_seen (after queue_kind over start s) at chains p.1,
      )

  -- a sector that no request of them writes
  module _ (start at : Site Queue I) (chains : List (Served I)) (since sector : ℕ) (left : List ℕ)
      (serves : ServesAll queue_kind over start chains at)
      (begins : BeginsAt (may_leave start.state) (left_since start.state) since)
      (past : left_since at.state since left) (other : ¬ Contains (sectors_in start chains) sector) where
    pub chains_known : (bytes : List ℕ) → Only bytes (may_leave start.state)
        → sector_of left sector ≡ sector_of bytes sector
    chains_known bytes only =
        let d : DiffersInSectors (sectors_in start chains) bytes left =
        known_by (DiffersInSectors (sectors_in start chains)) (differs_in_none (sectors_in start chains))
        since bytes left (chains_touch start at chains serves) begins only past in
        d.others sector other

    pub chains_leave_contents : ((whole : List ℕ) → may_leave start.state whole
        → LeavesContents (disk start.state) whole)
        → (disk start.state).dirty ≡ false
        → IfSome (disk start.state).contents (λ bytes. sector_of left sector ≡ sector_of bytes sector)
    chains_leave_contents durable clean =
        of_one (disk start.state).contents
        (contents_by (DiffersInSectors (sectors_in start chains)) (differs_in_none (sectors_in start chains))
        (disk start.state) since left (chains_touch start at chains serves) begins durable clean past)
      where
        of_one : (contents : Option (List ℕ))
            → IfSome contents (λ bytes. DiffersInSectors (sectors_in start chains) bytes left)
            → IfSome contents (λ bytes. sector_of left sector ≡ sector_of bytes sector)
        of_one None d = tt
        of_one (Some bytes) d = d.others sector other

  -- what was answered OK stands until a request writes it again
  pub chains_last : (start at : Site Queue I) (answered : Served I) (later : List (Served I))
      (since sector : ℕ) (left : List ℕ) → ServesAll queue_kind over start (answered ∷ later) at
      → IsCommitted device start.memory (seen_chain disk device answered)
      → BeginsAt (may_leave answered.given.state) (left_since answered.given.state) since
      → left_since at.state since left
      → ¬ Contains (sectors_in (after queue_kind over start answered) later) sector
      → ((whole : List ℕ) → may_leave answered.given.state whole
      → LeavesContents (disk answered.given.state) whole)
      → IfSome (disk answered.given.state).contents (λ bytes. sector_of left sector ≡ sector_of bytes sector)
  chains_last start at answered later since sector left p committed begins past other durable =
      let mid = after queue_kind over start answered in
      let once : ServesAll queue_kind over start (answered ∷ []) mid = (p.0, refl) in
      let clean : (disk answered.given.state).dirty ≡ false =
      committed_clean device (seen_site disk device start) (seen_site disk device mid)
      (seen_chain disk device answered) [] (chains_seen start mid (answered ∷ []) once) committed refl in
      chains_leave_contents mid at later since sector left p.1 begins past other durable clean
