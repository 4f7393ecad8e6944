-- Operations in flight, each in a tag of its own: which tag a look takes, how it goes on from tag to tag, and that its
-- pieces, one after another, are the look.
use Rattle.std.proofs.Common.{◌≡◌, ◌≢◌, ◌⊎◌, ◌∙◌, ℕ, ◌-◌, ◌<◌, Bool, not, Option, Some, None, List, [], ◌∷◌, ◌++◌, length, set, inl, inr, refl, sym, ap, subst}
use Rattle.std.proofs.lemmas.List.{length-set}
use Rattle.std.proofs.lemmas.Option.{same_Some}
use Rattle.guest_memory.specs.Memory.{Memory}
use Rattle.chain.specs.declared.budget.Budget.{Budget}
use Rattle.chain.specs.declared.budget.Progress.{Progress}
use Rattle.chain.specs.declared.budget.Progress.TheVariants as came
use Rattle.chain.specs.declared.segment.Buffer.{Buffer}
use Rattle.chain.specs.declared.segment.Segment.{Segment}
use Rattle.chain.specs.Budget.{AreWithin, chains_of}
use Rattle.chain.specs.Pieces.{EndsWithin, GoesToEnd, IsInBudget}
use Rattle.chain.specs.Service.{Course, Ending, Site}
use Rattle.chain.proofs.Pieces.{courses_join}
use Rattle.negotiation.specs.Features.{block_flush}
use Rattle.negotiation.specs.Negotiation.{negotiated_of}
use Rattle.negotiation.specs.Sets.{has}
use Rattle.mmio_window.specs.declared.queue.Queue.{Queue}
use Rattle.mmio_window.specs.declared.stage.Stage.{Stage}
use Rattle.mmio_window.specs.declared.stage.Stage.TheVariants.{First, Next}
use Rattle.mmio_window.specs.Pieces.{ServesTo, fault_at, opened_at}
use Rattle.mmio_window.specs.Queue.{entry_of, queue_kind}
use Rattle.mmio_window.specs.Serving.{after_service}
use Rattle.mmio_window.specs.Window.{WindowState, queue_at, with_ring}
use Rattle.mmio_window.proofs.Pieces.{queue_stands_open, with_ring_negotiation, with_ring_twice}
use Rattle.mmio_window.proofs.Stages.{ends_at, ends_to}
use Rattle.mmio_window.specs.declared.queue.Token.{Token}
use Rattle.sector_cache.specs.Disk.{Disk}
use Rattle.block_device.specs.declared.device.BlockDevice.{BlockDevice}
use Rattle.block_device.specs.declared.hosting.Flight.{Flight}
use Rattle.block_device.specs.declared.hosting.Hosted.TheVariants as hosted
use Rattle.block_device.specs.Asking.{unasked_device}
use Rattle.block_device.specs.Flights.{AsksNext, AsksNextWithin, AsksNoMore, HostedQueue, InFlight, IsLook, IsLookTo, LookEnds, LooksFrom, LooksOnWithin, LooksTo, PieceStops, StopsWithin, unlimited}
use Rattle.block_device.specs.Tags.{free_tag}
use Rattle.block_device.specs.Hosting.{AsksAt, AsksIn, AsksWithin, HostsTo, HostsWithin, hosted_by, site_of}
use Rattle.block_device.specs.Operation.{operation_of}
use Rattle.block_device.specs.Extent.{extent_disk}
use Rattle.block_device.proofs.OneLook.{never_more}
use Rattle.block_device.proofs.Bits.{fewer_free, first_free}
use Rattle.block_device.proofs.Unasked.{any_disk}

-- ---- without limits a piece never pauses

pub never_pauses : (device : BlockDevice) (stage : Stage) (found : Option Queue) (old new : Memory)
    (before after : WindowState) (b : List Buffer) (r : List Segment) (disk : Disk)
    → HostsTo device stage unlimited found hosted.More old new before after b r disk → ⊥
never_pauses device stage found old new before after b r disk h =
    let seen = extent_disk device.extent disk in
    never_more device stage unlimited found old new before after seen seen refl refl h

-- ---- a piece of a look, from tag to tag

-- a piece of a look came as far as this, and goes on with what is left of its budget
pub record IsLooking (device : BlockDevice) (start : HostedQueue) (begun : Stage) (budget : Budget) (stage : Stage)
    (left : Budget) (now : HostedQueue) : Type 0 where
  pub goes_on : (progress : Progress) (asked : List InFlight) (new : HostedQueue)
      → LooksTo device stage left progress now asked new → IsLookTo device begun budget progress start new
  pub size : length now.tags ≡ length start.tags

pub looks_first : (device : BlockDevice) (start : HostedQueue) (stage : Stage) (budget : Budget)
    → IsLooking device start stage budget stage budget start
looks_first device start stage budget =
    record { goes_on = λ progress asked new looks. record { asked = asked; looks = looks }; size = refl }

pub looks_on : (device : BlockDevice) (start now new : HostedQueue) (begun : Stage) (budget : Budget) (stage : Stage)
    (left rest : Budget) → IsLooking device start begun budget stage left now
    → LooksOnWithin device stage left rest now new → IsLooking device start begun budget Next rest new
looks_on device start now new begun budget stage left rest looking on = record {
  goes_on = λ progress asked last h. looking.goes_on progress (on.here ∷ asked) last (rest, new, on.asks, h);
  size = ap (λ t. length t) on.asks.tags ∙ length-set now.tags on.asks.tag (Some on.here) ∙ looking.size;
}

pub looks_no_more : (device : BlockDevice) (start now new : HostedQueue) (begun : Stage) (budget : Budget) (stage : Stage)
    (left : Budget) (progress : Progress) (i : ℕ) → IsLooking device start begun budget stage left now
    → free_tag now.tags ≡ Some i → StopsWithin device stage left progress now new
    → IsLookTo device begun budget progress start new
looks_no_more device start now new begun budget stage left progress i looking free stops =
    looking.goes_on progress [] new (rw free stops)

pub looks_full : (device : BlockDevice) (start now : HostedQueue) (begun : Stage) (budget : Budget) (stage : Stage)
    (left : Budget) → IsLooking device start begun budget stage left now → free_tag now.tags ≡ None
    → IsLookTo device begun budget came.Done start now
looks_full device start now begun budget stage left looking full =
    looking.goes_on came.Done [] now (rw full (refl, refl))

-- fewer tags are behind the lowest free one as it is taken
pub fewer_behind : (device : BlockDevice) (stage : Stage) (left rest : Budget) (now new : HostedQueue)
    → LooksOnWithin device stage left rest now new
    → length new.tags - first_free new.tags < length now.tags - first_free now.tags
fewer_behind device stage left rest now new on = rw on.asks.tags (fewer_free now.tags on.asks.tag on.here on.asks.free)

-- ---- a piece that goes to the end of the service, whatever its budget was

no_limit : (chains : List (List Buffer)) → AreWithin unlimited chains
no_limit chains n below spent = elim spent [ inl e ↦ cc | inr e ↦ cc ]

in_no_limit : (ending : Ending) (chains : List (List Buffer)) → IsInBudget unlimited ending chains
in_no_limit ending chains = record {
  each = no_limit chains;
  refused = λ e spent. elim spent [ inl e ↦ cc | inr e ↦ cc ];
}

forget : (device : BlockDevice) (s : Disk) (stage : Stage) (budget : Budget) (found : Option Queue) (m m' : Memory)
    (w w' : WindowState) → ServesTo stage (unasked_device device) budget 0 found came.Done m m' w w' s s
    → ServesTo stage (unasked_device device) unlimited 0 found came.Done m m' w w' s s
forget device s First budget None m m' w w' h = record { ending = h.ending; notified = h.notified }
forget device s Next budget None m m' w w' h = record { ending = h.ending; finished = h.finished }
forget device s First budget (Some queue) m m' w w' h =
    let x = h.notified in
    record {
      ending = h.ending;
      notified = record {
        last = x.last;
        wanted = x.wanted;
        service = record {
          service = x.service.service;
          within = λ opens. record {
            ends = (x.service.within opens).ends;
            within = in_no_limit h.ending (chains_of (x.service.within opens).ends.runs.chains);
          };
        };
        window = x.window;
      };
    }
forget device s Next budget (Some queue) m m' w w' h =
    let x = h.finished in
    record {
      ending = h.ending;
      finished = record {
        last = x.last;
        wanted = x.wanted;
        ends = record { ends = x.ends.ends; within = in_no_limit h.ending (chains_of x.ends.ends.runs.chains) };
        window = x.window;
      };
    }

-- ---- what goes on behind a piece that paused

-- where a piece paused: chains that ask for nothing were served, and the queue stands open
record IsCutAt (device : BlockDevice) (disk : Disk) (stage : Stage) (queue : Queue) (m m' : Memory)
    (w w' : WindowState) : Type 0 where
  last : Queue
  opens : fault_at stage m queue ≡ None
  course : Course queue_kind (unasked_device device)
      (record (site_of device m queue disk) { ring = opened_at stage m queue }) (site_of device m' last disk)
  window : w' ≡ with_ring 0 w last

cut_at : (device : BlockDevice) (disk : Disk) (stage : Stage) (budget : Budget) (queue : Queue) (m m' : Memory)
    (w w' : WindowState)
    → ServesTo stage (unasked_device device) budget 0 (Some queue) came.More m m' w w'
    (extent_disk device.extent disk) (extent_disk device.extent disk) → IsCutAt device disk stage queue m m' w w'
cut_at device disk First budget queue m m' w w' h =
    record { last = h.last; opens = h.begins.opens; course = h.begins.pauses.course; window = h.window }
cut_at device disk Next budget queue m m' w w' h =
    record { last = h.last; opens = refl; course = h.pauses.course; window = h.window }

module _ (device : BlockDevice) (disk : Disk) (stage : Stage) (m0 m1 m2 : Memory) (w0 w1 w2 : WindowState) where
  abbrev seen : Disk
  seen = extent_disk device.extent disk

  open_now : (queue : Queue) → queue_at 0 w0 ≡ Some queue → (cut : IsCutAt device disk stage queue m0 m1 w0 w1)
      → queue_at 0 w1 ≡ Some cut.last
  open_now queue is cut = ap (queue_at 0) cut.window ∙ queue_stands_open 0 w0 queue cut.last is

  -- the service ends
  ends_behind : (queue : Queue) → queue_at 0 w0 ≡ Some queue → (budget : Budget)
      → IsCutAt device disk stage queue m0 m1 w0 w1
      → ServesTo Next (unasked_device device) budget 0 (queue_at 0 w1) came.Done m1 m2 w1 w2 seen seen
      → ServesTo stage (unasked_device device) unlimited 0 (Some queue) came.Done m0 m2 w0 w2 seen seen
  ends_behind queue is budget cut h =
      let t : ServesTo Next (unasked_device device) budget 0 (Some cut.last) came.Done m1 m2 w1 w2 seen seen =
      subst (λ (f : Option Queue). ServesTo Next (unasked_device device) budget 0 f came.Done m1 m2 w1 w2 seen seen)
      (open_now queue is cut) h in
      let x = t.finished in
      let ends = x.ends.ends in
      let start : Site Queue Disk = record (site_of device m0 queue disk) { ring = opened_at stage m0 queue } in
      let both = courses_join queue_kind (unasked_device device) start (site_of device m1 cut.last disk) ends.runs.at
      cut.course (record { chains = ends.runs.chains; serves = ends.runs.serves }) in
      let joined : EndsWithin queue_kind (unasked_device device) unlimited start (site_of device m2 x.last disk)
      t.ending x.wanted = record {
        ends = record {
          last = ends.last;
          runs = record {
            chains = both.chains;
            at = ends.runs.at;
            serves = both.serves;
            ends = ends.runs.ends;
            stands = ends.runs.stands;
          };
          closed = ends.closed;
          wanted_is = ends.wanted_is;
        };
        within = in_no_limit t.ending (chains_of both.chains);
      } in
      let window : after_service t.ending x.wanted (with_ring 0 w0 x.last) ≡ w2 =
      sym (x.window ∙ ap (λ w. after_service t.ending x.wanted w)
      (ap (λ w. with_ring 0 w x.last) cut.window ∙ with_ring_twice 0 w0 cut.last x.last)) in
      subst (λ (w : WindowState). ServesTo stage (unasked_device device) unlimited 0 (Some queue) came.Done m0 m2 w0 w
      seen seen) window
      (ends_to (unasked_device device) unlimited 0 queue x.last m0 m2 w0 seen seen stage t.ending x.wanted
      (ends_at (unasked_device device) unlimited stage m0 queue (opened_at stage m0 queue) seen refl
      (site_of device m2 x.last disk) t.ending x.wanted (sym cut.opens) joined))

  -- or a chain asks
  asks_behind : (queue : Queue) → queue_at 0 w0 ≡ Some queue → (buffers : List Buffer) (runs : List Segment)
      (flight : Flight Token) → IsCutAt device disk stage queue m0 m1 w0 w1
      → AsksIn device Next (queue_at 0 w1) m1 m2 w1 w2 buffers runs flight disk
      → AsksIn device stage (Some queue) m0 m2 w0 w2 buffers runs flight disk
  asks_behind queue is buffers runs flight cut y =
      let same : y.queue ≡ cut.last = same_Some y.queue cut.last (y.ready ∙ open_now queue is cut) in
      let here : AsksAt device Next (site_of device m1 cut.last disk) (site_of device m2 y.last disk) buffers
      flight.token y.request =
      subst (λ (q : Queue). AsksAt device Next (site_of device m1 q disk) (site_of device m2 y.last disk) buffers
      flight.token y.request) same y.asks in
      record {
        queue = queue;
        ready = refl;
        last = y.last;
        request = y.request;
        asks = record {
          opens = cut.opens;
          stops = record {
            course = courses_join queue_kind (unasked_device device)
                (record (site_of device m0 queue disk) { ring = opened_at stage m0 queue })
                (site_of device m1 cut.last disk) (site_of device m2 y.last disk) cut.course here.stops.course;
            offers = here.stops.offers;
            offered = here.stops.offered;
            taken = here.stops.taken;
            asked = here.stops.asked;
          };
          good = here.good;
        };
        window = y.window
            ∙ ap (λ w. with_ring 0 w (queue_kind.launched y.last (entry_of flight.token))) cut.window
            ∙ with_ring_twice 0 w0 cut.last (queue_kind.launched y.last (entry_of flight.token));
        status = y.status;
        operation = y.operation
            ∙ ap (λ n. operation_of (not (has (negotiated_of n) block_flush)) y.request)
            (ap (λ (w : WindowState). w.negotiation) cut.window ∙ with_ring_negotiation 0 w0 cut.last);
        runs_are = y.runs_are;
      }

  never_without : (budget : Budget)
      → ServesTo stage (unasked_device device) budget 0 None came.More m0 m1 w0 w1 seen seen → ⊥
  never_without budget h = by_stage stage h
    where
      by_stage : (stage : Stage)
          → ServesTo stage (unasked_device device) budget 0 None came.More m0 m1 w0 w1 seen seen → ⊥
      by_stage First h = h
      by_stage Next h = h

  pub join_ends : (found : Option Queue) → queue_at 0 w0 ≡ found → (budget other : Budget)
      → ServesTo stage (unasked_device device) budget 0 found came.More m0 m1 w0 w1 seen seen
      → ServesTo Next (unasked_device device) other 0 (queue_at 0 w1) came.Done m1 m2 w1 w2 seen seen
      → ServesTo stage (unasked_device device) unlimited 0 found came.Done m0 m2 w0 w2 seen seen
  join_ends None is budget other h t = absurd (never_without budget h)
  join_ends (Some queue) is budget other h t =
      ends_behind queue is other (cut_at device disk stage budget queue m0 m1 w0 w1 h) t

  pub join_asks : (found : Option Queue) → queue_at 0 w0 ≡ found → (budget : Budget) (buffers : List Buffer)
      (runs : List Segment) (flight : Flight Token)
      → ServesTo stage (unasked_device device) budget 0 found came.More m0 m1 w0 w1 seen seen
      → AsksIn device Next (queue_at 0 w1) m1 m2 w1 w2 buffers runs flight disk
      → AsksIn device stage found m0 m2 w0 w2 buffers runs flight disk
  join_asks None is budget buffers runs flight h y = absurd (never_without budget h)
  join_asks (Some queue) is budget buffers runs flight h y =
      asks_behind queue is buffers runs flight (cut_at device disk stage budget queue m0 m1 w0 w1 h) y

-- ---- a look, piece by piece

-- a chain that asks within a budget asks
pub asks_next : (device : BlockDevice) (stage : Stage) (budget left : Budget) (old new : HostedQueue) (here : InFlight)
    → AsksNextWithin device stage budget left old here new → AsksNext device stage old here new
asks_next device stage budget left old new here next = record {
  tag = next.tag;
  free = next.free;
  buffers = next.buffers;
  asks = λ disk. (next.asks disk).asks;
  tags = next.tags;
}

ends_by : (device : BlockDevice) (stage : Stage) (budget : Budget) (old new : HostedQueue) (free : Option ℕ)
    → PieceStops free device stage budget came.Done old new → LookEnds free device stage old new
ends_by device stage budget old new None h = h.1
ends_by device stage budget old new (Some tag) h = record {
  ends = λ disk. forget device (extent_disk device.extent disk) stage budget (queue_at 0 old.window) old.memory new.memory
      old.window new.window (h.stops disk);
  tags = h.tags;
}

-- a piece that comes to the end of the look is a look
pub done_looks : (device : BlockDevice) (stage : Stage) (budget : Budget) (old : HostedQueue) (asked : List InFlight)
    (new : HostedQueue) → LooksTo device stage budget came.Done old asked new → LooksFrom device stage old asked new
done_looks device stage budget old [] new h = ends_by device stage budget old new (free_tag old.tags) h
done_looks device stage budget old (here ∷ asked) new h =
    (h.1, asks_next device stage budget h.0 old h.1 here h.2, done_looks device Next h.0 h.1 asked new h.3)

-- what the piece comes to that goes on behind one that paused
module _ (device : BlockDevice) (stage : Stage) (budget : Budget) (old mid new : HostedQueue) where
  stops_then : (tag : ℕ) (later : List InFlight) → free_tag old.tags ≡ Some tag
      → StopsWithin device stage budget came.More old mid → LooksFrom device Next mid later new
      → LooksFrom device stage old later new
  stops_then tag [] free cut looks =
      let same : free_tag mid.tags ≡ Some tag = ap (λ t. free_tag t) cut.tags ∙ free in
      let ends : AsksNoMore device Next mid new = rw same at looks in
      let whole : AsksNoMore device stage old new = record {
        ends = λ disk. join_ends device disk stage old.memory mid.memory new.memory old.window mid.window new.window
            (queue_at 0 old.window) refl budget unlimited (cut.stops disk) (ends.ends disk);
        tags = ends.tags ∙ cut.tags;
      } in
      rw free whole
  stops_then tag (there ∷ later) free cut looks =
      let next = looks.1 in (
        looks.0,
        record {
          tag = next.tag;
          free = ap (λ t. free_tag t) (sym cut.tags) ∙ next.free;
          buffers = next.buffers;
          asks = λ disk. join_asks device disk stage old.memory mid.memory looks.0.memory old.window mid.window
              looks.0.window (queue_at 0 old.window) refl budget next.buffers there.runs there.flight (cut.stops disk)
              (next.asks disk);
          tags = next.tags ∙ ap (λ t. set t next.tag (Some there)) cut.tags;
        },
        looks.2,
      )

  by_free : (free : Option ℕ) (later : List InFlight) → free_tag old.tags ≡ free
      → PieceStops free device stage budget came.More old mid → LooksFrom device Next mid later new
      → LooksFrom device stage old later new
  by_free None later is h looks = let done = h.0 in absurd (cc (done))
  by_free (Some tag) later is h looks = stops_then tag later is h looks

-- A look that goes on behind a piece that paused is one look, of all the chains that asked.
pub look_joins : (device : BlockDevice) (stage : Stage) (budget : Budget) (old : HostedQueue) (asked : List InFlight)
    (mid : HostedQueue) (later : List InFlight) (new : HostedQueue)
    → LooksTo device stage budget came.More old asked mid → LooksFrom device Next mid later new
    → LooksFrom device stage old (asked ++ later) new
look_joins device stage budget old [] mid later new h looks =
    by_free device stage budget old mid new (free_tag old.tags) later refl h looks
look_joins device stage budget old (here ∷ asked) mid later new h looks = (
  h.1,
  asks_next device stage budget h.0 old h.1 here h.2,
  look_joins device Next h.0 h.1 asked mid later new h.3 looks,
)

-- ---- without limits a piece is the look

always_unlimited : (device : BlockDevice) (stage : Stage) (progress : Progress) (free : Option ℕ) (old new : HostedQueue)
    → PieceStops free device stage unlimited progress old new → progress ≡ came.Done
always_unlimited device stage progress None old new h = h.0
always_unlimited device stage came.Done (Some tag) old new h = refl
always_unlimited device stage came.More (Some tag) old new h =
    absurd (never_pauses device stage (queue_at 0 old.window) old.memory new.memory old.window new.window [] [] any_disk
    (h.stops any_disk))

unlimited_left : (device : BlockDevice) (stage : Stage) (left : Budget) (old new : HostedQueue) (here : InFlight)
    → AsksNextWithin device stage unlimited left old here new → left ≡ unlimited
unlimited_left device stage left old new here next = (next.asks any_disk).left_is

pub never_cut : (device : BlockDevice) (stage : Stage) (progress : Progress) (old : HostedQueue) (asked : List InFlight)
    (new : HostedQueue) → LooksTo device stage unlimited progress old asked new → progress ≡ came.Done
never_cut device stage progress old [] new h =
    always_unlimited device stage progress (free_tag old.tags) old new h
never_cut device stage progress old (here ∷ asked) new h =
    never_cut device Next progress h.1 asked new
    (subst (λ (b : Budget). LooksTo device Next b progress h.1 asked new)
    (unlimited_left device stage h.0 old h.1 here h.2) h.3)

pub whole_look : (device : BlockDevice) (progress : Progress) (old new : HostedQueue)
    → IsLookTo device First unlimited progress old new → IsLook device old new
whole_look device progress old new h = record {
  asked = h.asked;
  looks = done_looks device First unlimited old h.asked new
      (subst (λ (p : Progress). LooksTo device First unlimited p old h.asked new)
      (never_cut device First progress old h.asked new h.looks) h.looks);
}

-- ---- a piece that pauses has spent a limit

abbrev HasLimit : Budget → Type 0
HasLimit budget = (budget.chains ≢ None) ⊎ (budget.bytes ≢ None)

spends_limit : (device : BlockDevice) (stage : Stage) (budget : Budget) (found : Option Queue) (m m' : Memory)
    (w w' : WindowState) (s : Disk) → ServesTo stage (unasked_device device) budget 0 found came.More m m' w w' s s
    → HasLimit budget
spends_limit device First budget None m m' w w' s h = absurd h
spends_limit device Next budget None m m' w w' s h = absurd h
spends_limit device First budget (Some queue) m m' w w' s h =
    elim h.begins.pauses.spent [ inl e ↦ inl (λ none. cc) | inr e ↦ inr (λ none. cc) ]
spends_limit device Next budget (Some queue) m m' w w' s h =
    elim h.pauses.spent [ inl e ↦ inl (λ none. cc) | inr e ↦ inr (λ none. cc) ]

limit_before : (device : BlockDevice) (stage : Stage) (budget left : Budget) (old new : HostedQueue) (here : InFlight)
    → AsksNextWithin device stage budget left old here new → HasLimit left → HasLimit budget
limit_before device stage budget left old new here next limit =
    let is = (next.asks any_disk).left_is in
    elim limit [
      | inl chains ↦ inl (λ none. chains (ap (λ (b : Budget). b.chains) is ∙ rw none refl))
      | inr bytes ↦ inr (λ none. bytes (ap (λ (b : Budget). b.bytes) is ∙ rw none refl))
    ]

stops_by_limit : (device : BlockDevice) (stage : Stage) (budget : Budget) (old new : HostedQueue) (free : Option ℕ)
    → PieceStops free device stage budget came.More old new → HasLimit budget
stops_by_limit device stage budget old new None h = let done = h.0 in absurd (cc (done))
stops_by_limit device stage budget old new (Some tag) h =
    spends_limit device stage budget (queue_at 0 old.window) old.memory new.memory old.window new.window
    (extent_disk device.extent any_disk) (h.stops any_disk)

pub cut_by_limit : (device : BlockDevice) (stage : Stage) (budget : Budget) (old : HostedQueue) (asked : List InFlight)
    (new : HostedQueue) → LooksTo device stage budget came.More old asked new
    → (budget.chains ≢ None) ⊎ (budget.bytes ≢ None)
cut_by_limit device stage budget old [] new h = stops_by_limit device stage budget old new (free_tag old.tags) h
cut_by_limit device stage budget old (here ∷ asked) new h =
    limit_before device stage budget h.0 old h.1 here h.2 (cut_by_limit device Next h.0 h.1 asked new h.3)
