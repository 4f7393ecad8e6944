-- Chains that ask the image for nothing are served whatever the disk is, and a piece ends at the first that
-- asks.
use Rattle.std.proofs.Common.{◌≡◌, ◌∙◌, ℕ, zero, suc, Bool, false, Option, Some, List, refl, sym, ap, subst, inl}
use Rattle.guest_memory.specs.Memory.{Memory}
use Rattle.chain.specs.declared.budget.Budget.{Budget}
use Rattle.chain.specs.declared.budget.Progress.{Progress}
use Rattle.chain.specs.declared.budget.Progress.TheVariants.{Done, More}
use Rattle.chain.specs.declared.segment.Buffer.{Buffer}
use Rattle.chain.specs.declared.segment.Segment.{Segment}
use Rattle.chain.specs.Budget.{AreWithin, IsSpent, left_after, less_chain}
use Rattle.chain.specs.Bytes.{readable_of}
use Rattle.chain.specs.Service.{Does, Given}
use Rattle.chain.proofs.Simulating.{DoesAs}
use Rattle.mmio_window.specs.declared.queue.Queue.{Queue}
use Rattle.mmio_window.specs.declared.service.Refused.{Refused}
use Rattle.mmio_window.specs.declared.stage.Stage.{Stage}
use Rattle.mmio_window.specs.declared.service.Left.{Left}
use Rattle.mmio_window.specs.Leaving.{LeavesQueue, RefusesAt, progress_of, shown, site_at}
use Rattle.mmio_window.specs.Pieces.{ServesTo, opened_at}
use Rattle.mmio_window.specs.Queue.{entry_of, queue_kind}
use Rattle.mmio_window.specs.Window.{WindowState, with_ring}
use Rattle.mmio_window.proofs.Leaving.{serves_to}
use Rattle.mmio_window.proofs.Seeing.{course_chains, course_seen, serves_seen}
use Rattle.sector_cache.specs.Disk.{Disk}
use Rattle.block_device.specs.declared.device.BlockDevice.{BlockDevice}
use Rattle.block_device.specs.declared.request.Request.{Request}
use Rattle.block_device.specs.Asking.{EndsUnasked, asks_image, unasked_device}
use Rattle.block_device.specs.Device.{GivesBy}
use Rattle.block_device.specs.Extent.{extent_disk}
use Rattle.mmio_window.specs.declared.queue.Token.{Token}
use Rattle.block_device.specs.declared.hosting.Flight.{Flight}
use Rattle.block_device.specs.Hosting.{AsksAt, AsksWithin, HasStatusAt, HostsTo, HostsWithin, IfAsks, hosted_by, hosted_device, site_of, wants_stable}
use Rattle.block_device.specs.Operation.{IsToldToHost, operation_of, runs_for}
use Rattle.block_device.specs.Outcome.{Completes, Outcome}
use Rattle.block_device.specs.Request.{payload_of, request_of}
use Rattle.block_device.proofs.Asking.{unasked_by_cases}
use Rattle.block_device.proofs.OneLook.{completes_from}
use Rattle.block_device.proofs.Unasked.{any_disk}

-- the same outcome over another disk
abbrev over : Disk → Outcome → Outcome
over disk outcome = record { disk = disk; found = outcome.found; status = outcome.status }

completes_over : (identity : List ℕ) (request : Request) (payload : List ℕ) (d e : Disk) (outcome : Outcome)
    → asks_image request ≡ false
    → Completes identity request payload d outcome → Completes identity request payload e (over e outcome)
completes_over identity request payload d e outcome none =
    unasked_by_cases (λ r. Completes identity r payload d outcome → Completes identity r payload e (over e outcome))
    (λ status h. record { found = h.found; finds = h.finds; is = ap (over e) h.is })
    (λ h. record { found = h.found; finds = h.finds; is = ap (over e) h.is }) request none

abbrev given_over : Disk → Given Disk → Given Disk
given_over disk given = record { state = disk; written = given.written }

gives_over : (device : BlockDevice) (readable : List ℕ) (w : ℕ) (d e : Disk) (given : Given Disk)
    → GivesBy (EndsUnasked device.identity) device d readable w given
    → GivesBy (EndsUnasked device.identity) device e readable w (given_over e given)
gives_over device readable zero d e given h = ap (given_over e) h
gives_over device readable (suc room) d e given h = record {
  outcome = over e h.outcome;
  is = record {
    unasked = h.is.unasked;
    ends = inl (completes_over device.identity (request_of device readable room) (payload_of readable) d e
        h.outcome h.is.unasked
        (completes_from device.identity (request_of device readable room) (payload_of readable) d h.outcome
        h.is.unasked h.is.ends));
  };
  given_is = ap (given_over e) h.given_is;
}

-- one chain
pub hosted_does : (device : BlockDevice) (m new : Memory) (buffers : List Buffer) (len : ℕ) (any : Bool)
    → ((disk : Disk) → Does (unasked_device device) m new buffers disk disk len any)
    → Does (hosted_device device) m new buffers tt tt len any
hosted_does device m new buffers len any does =
    let one = does any_disk in
    record {
      written = one.written;
      gives = λ disk. gives_over device (readable_of m buffers) _ any_disk disk
          (record { state = any_disk; written = one.written }) one.gives;
      each = one.each;
      memory = one.memory;
      len_is = one.len_is;
      any_is = one.any_is;
    }

-- a service of it, over any disk
pub hosted_anywhere : (device : BlockDevice) (disk : Disk)
    → DoesAs (hosted_device device) (unasked_device device) (λ state d. d ≡ disk)
hosted_anywhere device disk = record {
  takes = λ state d alike. refl;
  gives = λ state d readable w given alike h.
      record { state = disk; alike = refl; gives = rw alike (h disk) };
  lacks_memory = λ state d readable w alike h. absurd h;
}

-- the chain that it leaves asks for the disk
pub asks_at : (device : BlockDevice) (stage : Stage) (budget : Budget) (m m' : Memory) (queue last : Queue)
    (buffers : List Buffer) (runs : List Segment) (refused : Refused Request)
    → RefusesAt (hosted_device device)
    (λ state memory buffers request. IsToldToHost device memory buffers request runs)
    stage budget (site_at m queue tt) (site_at m' last tt) buffers refused
    → (disk : Disk) → AsksAt device stage (site_of device m queue disk) (site_of device m' last disk) buffers
    refused.token refused.why
asks_at device stage budget m m' queue last buffers runs refused h disk =
    let seen = extent_disk device.extent disk in
    record {
      opens = h.opens;
      stops = record {
        course = course_seen (hosted_device device) (unasked_device device) (λ state. seen)
            (hosted_anywhere device seen)
            (site_at m (opened_at stage m queue) tt) (site_at m' last tt) h.left.course;
        offers = h.left.ready;
        offered = h.left.offered;
        taken = h.left.taken;
        asked = h.left.refuses.asked;
      };
      good = h.left.good;
    }

-- and it comes within the budget, of which so much is left as was told
pub asks_within : (device : BlockDevice) (stage : Stage) (budget left : Budget) (found : Option Queue) (m m' : Memory)
    (w w' : WindowState) (queue last : Queue) (buffers : List Buffer) (kept runs : List Segment)
    (refused : Refused Request) (flight : Flight Token) (disk : Disk)
    → Some queue ≡ found
    → RefusesAt (hosted_device device)
    (λ state memory buffers request. IsToldToHost device memory buffers request kept)
    stage budget (site_at m queue tt) (site_at m' last tt) buffers refused
    → flight.token ≡ refused.token
    → w' ≡ with_ring 0 w (queue_kind.launched last (entry_of refused.token))
    → HasStatusAt buffers flight
    → flight.operation ≡ operation_of (wants_stable w) refused.why
    → runs ≡ runs_for refused.why m' buffers
    → left ≡ refused.left
    → AsksWithin device stage budget left found m m' w w' buffers runs flight disk
asks_within device stage budget left found m m' w w' queue last buffers kept runs refused flight disk is h token
    window status operation runs_are told =
    let seen = extent_disk device.extent disk in
    let course = course_seen (hosted_device device) (unasked_device device) (λ state. seen) (hosted_anywhere device seen)
    (site_at m (opened_at stage m queue) tt) (site_at m' last tt) h.left.course in
    let same = course_chains (hosted_device device) (unasked_device device) (λ state. seen) (hosted_anywhere device seen)
    (site_at m (opened_at stage m queue) tt) (site_at m' last tt) h.left.course in
    let here : AsksWithin device stage budget left found m m' w w' buffers runs
    (record flight { token = refused.token }) disk = record {
      asks = record {
        queue = queue;
        ready = is;
        last = last;
        request = refused.why;
        asks = record {
          opens = h.opens;
          stops = record {
            course = course;
            offers = h.left.ready;
            offered = h.left.offered;
            taken = h.left.taken;
            asked = h.left.refuses.asked;
          };
          good = h.left.good;
        };
        window = window;
        status = record { writable = status.writable; status = status.status };
        operation = operation;
        runs_are = runs_are;
      };
      within = subst (AreWithin budget) (sym same) h.left.within;
      unspent = subst (λ l. ¬ IsSpent (left_after budget l)) (sym same) h.left.unspent;
      left_is = told ∙ h.left.left ∙ ap (λ l. less_chain (left_after budget l) buffers) (sym same);
    } in
    subst (λ (t : Token). AsksWithin device stage budget left found m m' w w' buffers runs (record flight { token = t }) disk)
    (sym token) here

-- and a piece that asks for nothing is one over any disk
hosts_by : (device : BlockDevice) (stage : Stage) (budget : Budget) (found : Option Queue)
    (progress : Progress)
    (m m' : Memory) (w w' : WindowState) (buffers : List Buffer) (runs : List Segment) (disk : Disk)
    → ServesTo stage (unasked_device device) budget 0 found progress m m' w w'
    (extent_disk device.extent disk) (extent_disk device.extent disk)
    → HostsTo device stage budget found (hosted_by progress) m m' w w' buffers runs disk
hosts_by device stage budget found More m m' w w' buffers runs disk h = h
hosts_by device stage budget found Done m m' w w' buffers runs disk h = h

within_by : (device : BlockDevice) (stage : Stage) (budget left : Budget) (found : Option Queue) (progress : Progress)
    (m m' : Memory) (w w' : WindowState) (buffers : List Buffer) (runs : List Segment) (disk : Disk)
    → HostsTo device stage budget found (hosted_by progress) m m' w w' buffers runs disk
    → HostsWithin device stage budget left found (hosted_by progress) m m' w w' buffers runs disk
within_by device stage budget left found More m m' w w' buffers runs disk h = h
within_by device stage budget left found Done m m' w w' buffers runs disk h = h

pub hosts_to : (device : BlockDevice) (stage : Stage) (budget rest : Budget) (found : Option Queue)
    (queue last : Queue) (left : Left) (progress : Progress)
    (m m' : Memory) (w w' : WindowState) (buffers : List Buffer) (runs : List Segment) (disk : Disk)
    → Some queue ≡ found → progress ≡ progress_of left → w' ≡ shown left (with_ring 0 w last)
    → LeavesQueue (hosted_device device) stage budget (site_at m queue tt) (site_at m' last tt) left
    → HostsWithin device stage budget rest found (hosted_by progress) m m' w w' buffers runs disk
hosts_to device stage budget rest found queue last left progress m m' w w' buffers runs disk is contents shows h =
    let seen = extent_disk device.extent disk in
    within_by device stage budget rest found progress m m' w w' buffers runs disk
    (hosts_by device stage budget found progress m m' w w' buffers runs disk
    (serves_seen (hosted_device device) (unasked_device device) (λ state. seen) (hosted_anywhere device seen)
    budget stage 0 found progress m m' w w' tt tt
    (serves_to (hosted_device device) stage budget 0 found queue last left progress m m' w w' tt tt
    is contents shows h)))

pub none_asks : (P : Flight Token → Type 0) (progress : Progress) → IfAsks P (hosted_by progress)
none_asks P More = tt
none_asks P Done = tt
