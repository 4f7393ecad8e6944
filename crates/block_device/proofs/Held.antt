-- What is in flight lies between the next used entry and the next chain, also once one more chain asks.
use Rattle.std.proofs.Common.{◌≡◌, ◌∙◌, ℕ, Bool, true, false, cond, ◌<◌, Option, Some, None, List, [], ◌∷◌, length, get_or, set, refl, sym, ap, subst, arith}
use Rattle.std.specs.Prelude.{All, IfSome, sum_by}
use Rattle.std.proofs.lemmas.List.{get_or-map, length-map, map-set}
use Rattle.std.proofs.lemmas.List.Elements.{All-cons, All-nil, All-weaker}
use Rattle.guest_memory.specs.Memory.{Memory}
use Rattle.mmio_window.specs.declared.queue.Queue.{Queue}
use Rattle.mmio_window.specs.declared.queue.Queue.TheVariants.{Split, Packed}
use Rattle.mmio_window.specs.declared.queue.Token.{Token}
use Rattle.mmio_window.specs.declared.queue.Token.TheVariants as token
use Rattle.mmio_window.specs.declared.stage.Stage.{Stage}
use Rattle.mmio_window.specs.declared.stage.Stage.TheVariants.{First, Next}
use Rattle.mmio_window.specs.Pieces.{ServesTo, opened_at}
use Rattle.chain.specs.declared.budget.Budget.{Budget}
use Rattle.chain.specs.declared.budget.Progress.{Progress}
use Rattle.chain.specs.declared.budget.Progress.TheVariants.{Done, More}
use Rattle.chain.specs.declared.fault.Fault.{Fault}
use Rattle.chain.specs.Service.{Ending, Faulted, Refused, Runs, Site, Spent, Works, stop}
use Rattle.sector_cache.specs.Disk.{Disk}
use Rattle.negotiation.specs.Negotiation.{is_live, with_needs_reset}
use Rattle.mmio_window.specs.Queue.{AreAhead, TagFits, ahead_of, entry_of, made_as, tag_places, launched, opened, queue_kind, shut, stopped}
use Rattle.mmio_window.specs.Serving.{after_service, site_at}
use Rattle.mmio_window.specs.Window.{WindowState, queue_at, ring_at, with_ring}
use Rattle.mmio_window.proofs.Ahead.{AreAhead-landed, AreAhead-launched, AreAhead-served}
use Rattle.mmio_window.proofs.Pieces.{queue_stands_open}
use Rattle.block_device.specs.declared.device.BlockDevice.{BlockDevice}
use Rattle.block_device.specs.declared.operation.Verdict.{Verdict}
use Rattle.block_device.specs.Asking.{unasked_device}
use Rattle.block_device.specs.Flights.{AreHeld, AsksNext, HostedQueue, InFlight, IsLanding, LandsBy, LookEnds, LooksFrom, LooksTo, PieceStops, unlimited}
use Rattle.block_device.specs.Tags.{free_tag, is_any, token_in, tokens_of}
use Rattle.block_device.specs.Extent.{extent_disk}
use Rattle.block_device.specs.Hosting.{HostsTo, hosted_by, site_of}
use Rattle.block_device.proofs.Freeing.{is_free}
use Rattle.block_device.proofs.Holding.{none_held}
use Rattle.block_device.proofs.Looking.{asks_next}
use Rattle.block_device.proofs.Unasked.{any_disk}

-- of the queue that the window's device may serve, the chains of these tags are in flight
abbrev pub AheadIn : WindowState → List (Option Token) → Type 0
AheadIn w tokens = IfSome (queue_at 0 w) (λ queue. AreAhead queue tokens)

-- ---- what moves none

-- which tokens fit turns on the queue's kind and size alone
fits_as : (old new : Queue) → made_as old ≡ made_as new → (tag : Option Token) → TagFits old tag → TagFits new tag
fits_as old new same None f = tt
fits_as (Split a) (Split b) same (Some (token.Split t)) f = tt
fits_as (Packed a) (Packed b) same (Some (token.Packed t)) f =
    let size : a.setup.size ≡ b.setup.size = ap size_of same in (f.0, rw size at f.1)
  where
    size_of : Queue → ℕ
    size_of (Split ring) = ring.setup.size
    size_of (Packed ring) = ring.setup.size
fits_as (Split a) new same (Some (token.Packed t)) f = absurd f
fits_as (Packed a) new same (Some (token.Split t)) f = absurd f
fits_as (Split a) (Packed b) same (Some (token.Split t)) f = absurd (cc same)
fits_as (Packed a) (Split b) same (Some (token.Packed t)) f = absurd (cc same)

-- the queue is the same one, and its next chain as far ahead
record Stands (old new : Queue) : Type 0 where
  made : made_as old ≡ made_as new
  ahead : ahead_of new ≡ ahead_of old

AreAhead-stands : (old new : Queue) (tags : List (Option Token)) → Stands old new → AreAhead old tags
    → AreAhead new tags
AreAhead-stands old new tags stands are = record {
  each = All-weaker (TagFits old) (TagFits new) (fits_as old new stands.made) tags are.each;
  places = omega (arith, stands.ahead, are.places);
}

AreAhead-opened_at : (stage : Stage) (m : Memory) (queue : Queue) (tags : List (Option Token))
    → AreAhead queue tags → AreAhead (opened_at stage m queue) tags
AreAhead-opened_at First m queue tags are = AreAhead-stands queue (opened m queue) tags (stands queue) are
  where
    stands : (queue : Queue) → Stands queue (opened m queue)
    stands (Split ring) = record { made = refl; ahead = refl }
    stands (Packed ring) = record { made = refl; ahead = refl }
AreAhead-opened_at Next m queue tags are = are

-- ---- one more chain asks

pub ahead_asked : (device : BlockDevice) (stage : Stage) (old new : HostedQueue) (here : InFlight)
    → AsksNext device stage old here new
    → AheadIn old.window (tokens_of old.tags)
    → AheadIn new.window (tokens_of new.tags)
ahead_asked device stage old new here next held =
    let x = next.asks any_disk in
    let tokens = tokens_of old.tags in
    let free = is_free old.tags next.tag next.free in
    let are : AreAhead x.queue tokens =
    subst (λ (o : Option Queue). IfSome o (λ queue. AreAhead queue tokens)) (sym x.ready) held in
    let last : AreAhead x.last tokens = AreAhead-served (unasked_device device)
    (record (site_of device old.memory x.queue any_disk) { ring = opened_at stage old.memory x.queue })
    (site_of device new.memory x.last any_disk) x.asks.stops.course.chains tokens x.asks.stops.course.serves
    (AreAhead-opened_at stage old.memory x.queue tokens are) in
    let none : get_or tokens next.tag None ≡ None =
    get_or-map token_in old.tags next.tag None None free.there ∙ ap token_in free.free in
    let size = length-map old.tags token_in in
    let there : next.tag < length tokens = omega (arith, size, free.there) in
    let asked : AreAhead (launched x.last (entry_of here.flight.token)) (set tokens next.tag (Some here.flight.token)) =
    AreAhead-launched x.last tokens next.tag here.flight.token there last none x.asks.stops.taken in
    let same : set tokens next.tag (Some here.flight.token) ≡ tokens_of new.tags =
    sym (ap tokens_of next.tags ∙ map-set token_in old.tags next.tag (Some here)) in
    let stands : queue_at 0 new.window ≡ Some (launched x.last (entry_of here.flight.token)) =
    ap (queue_at 0) x.window
    ∙ queue_stands_open 0 old.window x.queue (launched x.last (entry_of here.flight.token)) (sym x.ready) in
    subst (λ (o : Option Queue). IfSome o (λ queue. AreAhead queue (tokens_of new.tags))) (sym stands)
    (subst (λ t. AreAhead (launched x.last (entry_of here.flight.token)) t) same asked)

-- ---- the ends of a service move none

AreAhead-shut : (queue : Queue) (tags : List (Option Token)) → AreAhead queue tags → AreAhead (shut queue) tags
AreAhead-shut queue tags are = AreAhead-stands queue (shut queue) tags (stands queue) are
  where
    stands : (queue : Queue) → Stands queue (shut queue)
    stands (Split ring) = record { made = refl; ahead = refl }
    stands (Packed ring) = record { made = refl; ahead = refl }

AreAhead-stopped : (queue : Queue) (tags : List (Option Token)) → AreAhead queue tags
    → AreAhead (stopped queue) tags
AreAhead-stopped queue tags are = AreAhead-stands queue (stopped queue) tags (stands queue) are
  where
    stands : (queue : Queue) → Stands queue (stopped queue)
    stands (Split ring) = record { made = refl; ahead = refl }
    stands (Packed ring) = record { made = refl; ahead = refl }

-- ---- what a window shows of its end leaves its queue, or the window isn't live

if_live : (live : Bool) (ring : Option Queue) (queue : Queue) → cond live ring None ≡ Some queue → ring ≡ Some queue
if_live true ring queue e = e
if_live false ring queue e = cc e

kept_if : (live : Bool) (ring : Option Queue) (queue : Queue) (P : Queue → Type 0) → ring ≡ Some queue → P queue
    → IfSome (cond live ring None) P
kept_if true ring queue P e p = subst (λ (o : Option Queue). IfSome o P) (sym e) p
kept_if false ring queue P e p = tt

shown : (w : WindowState) (queue : Queue) (P : Queue → Type 0) (ending : Ending) (wanted : Bool)
    → queue_at 0 w ≡ Some queue → P queue → IfSome (queue_at 0 (after_service ending wanted w)) P
shown w queue P Spent true e p = subst (λ (o : Option Queue). IfSome o P) (sym e) p
shown w queue P Spent false e p = subst (λ (o : Option Queue). IfSome o P) (sym e) p
shown w queue P Refused true e p = subst (λ (o : Option Queue). IfSome o P) (sym e) p
shown w queue P Refused false e p = subst (λ (o : Option Queue). IfSome o P) (sym e) p
shown w queue P (Faulted fault) true e p =
    kept_if (is_live (with_needs_reset w.negotiation)) (ring_at 0 w) queue P
    (if_live (is_live w.negotiation) (ring_at 0 w) queue e) p
shown w queue P (Faulted fault) false e p =
    kept_if (is_live (with_needs_reset w.negotiation)) (ring_at 0 w) queue P
    (if_live (is_live w.negotiation) (ring_at 0 w) queue e) p

-- so a ring that is shut keeps them
shut_kept : (tokens : List (Option Token)) (before after : WindowState) (queue last ring : Queue) (ending : Ending)
    (wanted : Bool) → queue_at 0 before ≡ Some queue
    → after ≡ after_service ending wanted (with_ring 0 before last) → last ≡ shut ring → AreAhead ring tokens
    → AheadIn after tokens
shut_kept tokens before after queue last ring ending wanted ready window is are =
    subst (λ (w : WindowState). AheadIn w tokens) (sym window)
    (shown (with_ring 0 before last) last (λ queue. AreAhead queue tokens) ending wanted
    (queue_stands_open 0 before queue last ready)
    (subst (λ (q : Queue). AreAhead q tokens) (sym is) (AreAhead-shut ring tokens are)))

-- ---- a chain lands

pub ahead_landed : (tag : ℕ) (verdict : Verdict) (old new : HostedQueue) → IsLanding tag verdict old new
    → tag < length old.tags
    → AheadIn old.window (tokens_of old.tags)
    → AheadIn new.window (tokens_of new.tags)
ahead_landed tag verdict old new landing below held = go (queue_at 0 old.window) refl landing.lands
  where
    go : (o : Option Queue) → queue_at 0 old.window ≡ o → LandsBy o tag landing.here verdict old new
        → AheadIn new.window (tokens_of new.tags)
    go None none same =
        let gone : queue_at 0 new.window ≡ None = ap (λ (h : HostedQueue). queue_at 0 h.window) same ∙ none in
        subst (λ (o : Option Queue). IfSome o (λ queue. AreAhead queue (tokens_of new.tags))) (sym gone) tt
    go (Some found) some lands =
        let x = lands.completes in
        let tokens = tokens_of old.tags in
        let t = landing.here.flight.token in
        let are : AreAhead x.queue tokens =
        subst (λ (o : Option Queue). IfSome o (λ queue. AreAhead queue tokens)) x.ready held in
        let size = length-map old.tags token_in in
        let there : tag < length tokens = omega (arith, size, below) in
        let is : get_or tokens tag None ≡ Some t =
        get_or-map token_in old.tags tag None None below ∙ ap token_in landing.there in
        let landed : AreAhead (queue_kind.landed x.queue (entry_of t)) (set tokens tag None) =
        AreAhead-landed x.queue tokens tag t there are is in
        let behind : AreAhead x.behind (set tokens tag None) =
        subst (λ (q : Queue). AreAhead q (set tokens tag None)) (sym x.gives.landed) landed in
        let same : set tokens tag None ≡ tokens_of new.tags =
        sym (ap tokens_of lands.tags ∙ map-set token_in old.tags tag None) in
        shut_kept (tokens_of new.tags) old.window new.window x.queue (shut x.behind) x.behind Spent x.wanted
        x.ready x.window refl (subst (λ l. AreAhead x.behind l) same behind)

-- ---- a look ends

module _ (device : BlockDevice) (tokens : List (Option Token)) where
  runs_kept : (start last : Site Queue Disk) (ending : Ending) → Runs queue_kind (unasked_device device) start ending last
      → AreAhead start.ring tokens → AreAhead last.ring tokens
  runs_kept start last ending runs are =
      let at = AreAhead-served (unasked_device device) start runs.at runs.chains tokens runs.serves are in
      subst (λ (s : Site Queue Disk). AreAhead s.ring tokens) (sym runs.stands) (stop_kept runs.at ending at)
    where
      stop_kept : (site : Site Queue Disk) (ending : Ending) → AreAhead site.ring tokens
          → AreAhead (stop queue_kind (unasked_device device) site ending).ring tokens
      stop_kept site Spent are = are
      stop_kept site (Faulted fault) are = AreAhead-stopped site.ring tokens are
      stop_kept site Refused are = are

  works_kept : (fault : Option Fault) (start last : Site Queue Disk) (ending : Ending)
      → Works queue_kind (unasked_device device) fault start ending last
      → AreAhead start.ring tokens → AreAhead last.ring tokens
  works_kept None start last ending works are = runs_kept start last ending works are
  works_kept (Some fault) start last ending works are =
      subst (λ (s : Site Queue Disk). AreAhead s.ring tokens) (sym works.1) are

  there : (before : WindowState) (queue : Queue) → Some queue ≡ queue_at 0 before → AheadIn before tokens
      → AreAhead queue tokens
  there before queue is held = subst (λ (o : Option Queue). IfSome o (λ queue. AreAhead queue tokens)) (sym is) held

  open_kept : (before after : WindowState) (queue last : Queue) → queue_at 0 before ≡ Some queue
      → after ≡ with_ring 0 before last → AreAhead last tokens → AheadIn after tokens
  open_kept before after queue last is window are =
      subst (λ (o : Option Queue). IfSome o (λ queue. AreAhead queue tokens))
      (sym (ap (queue_at 0) window ∙ queue_stands_open 0 before queue last is)) are

  ends_kept : (stage : Stage) (budget : Budget) (found : Option Queue) (old new : Memory) (before after : WindowState) (s : Disk)
      → found ≡ queue_at 0 before
      → ServesTo stage (unasked_device device) budget 0 found Done old new before after s s
      → AheadIn before tokens
      → AheadIn after tokens
  ends_kept First budget None old new before after s is h held =
      subst (λ (w : WindowState). IfSome (queue_at 0 w) (λ queue. AreAhead queue tokens))
      (sym h.notified.1.window) held
  ends_kept Next budget None old new before after s is h held =
      subst (λ (w : WindowState). IfSome (queue_at 0 w) (λ queue. AreAhead queue tokens))
      (sym h.finished.1.window) held
  ends_kept First budget (Some queue) old new before after s is h held =
      let x = h.notified in
      let service = x.service.service in
      shut_kept tokens before after queue x.last service.last.ring h.ending x.wanted (sym is) x.window
      (ap (λ (k : Site Queue Disk). k.ring) service.closed)
      (works_kept (queue_kind.opening_fault old queue) (site_at old (opened old queue) s) service.last h.ending
      service.works (AreAhead-opened_at First old queue tokens
      (subst (λ (o : Option Queue). IfSome o (λ queue. AreAhead queue tokens)) (sym is) held)))
  ends_kept Next budget (Some queue) old new before after s is h held =
      let x = h.finished in
      let ends = x.ends.ends in
      shut_kept tokens before after queue x.last ends.last.ring h.ending x.wanted (sym is) x.window
      (ap (λ (k : Site Queue Disk). k.ring) ends.closed)
      (runs_kept (site_at old queue s) ends.last h.ending ends.runs
      (subst (λ (o : Option Queue). IfSome o (λ queue. AreAhead queue tokens)) (sym is) held))

  -- or it pauses
  pauses_kept : (stage : Stage) (budget : Budget) (found : Option Queue) (old new : Memory) (before after : WindowState)
      (s : Disk) → found ≡ queue_at 0 before
      → ServesTo stage (unasked_device device) budget 0 found More old new before after s s
      → AheadIn before tokens
      → AheadIn after tokens
  pauses_kept First budget None old new before after s is h held = absurd h
  pauses_kept Next budget None old new before after s is h held = absurd h
  pauses_kept First budget (Some queue) old new before after s is h held =
      open_kept before after queue h.last (sym is) h.window
      (AreAhead-served (unasked_device device) (site_at old (opened old queue) s) (site_at new h.last s)
      h.begins.pauses.course.chains tokens h.begins.pauses.course.serves
      (AreAhead-opened_at First old queue tokens (there before queue is held)))
  pauses_kept Next budget (Some queue) old new before after s is h held =
      open_kept before after queue h.last (sym is) h.window
      (AreAhead-served (unasked_device device) (site_at old queue s) (site_at new h.last s) h.pauses.course.chains tokens
      h.pauses.course.serves (there before queue is held))

stops_kept : (device : BlockDevice) (stage : Stage) (budget : Budget) (progress : Progress) (old new : HostedQueue)
    (free : Option ℕ) → PieceStops free device stage budget progress old new
    → AheadIn old.window (tokens_of old.tags)
    → AheadIn new.window (tokens_of new.tags)
stops_kept device stage budget progress old new None h held =
    subst (λ (h : HostedQueue). IfSome (queue_at 0 h.window) (λ queue. AreAhead queue (tokens_of h.tags)))
    (sym h.1) held
stops_kept device stage budget progress old new (Some tag) x held =
    subst (λ t. IfSome (queue_at 0 new.window) (λ queue. AreAhead queue (tokens_of t))) (sym x.tags)
    (by_progress progress (x.stops any_disk))
  where
    by_progress : (progress : Progress)
        → HostsTo device stage budget (queue_at 0 old.window) (hosted_by progress) old.memory new.memory old.window
        new.window [] [] any_disk → AheadIn new.window (tokens_of old.tags)
    by_progress Done h =
        ends_kept device (tokens_of old.tags) stage budget (queue_at 0 old.window) old.memory new.memory old.window
        new.window (extent_disk device.extent any_disk) refl h held
    by_progress More h =
        pauses_kept device (tokens_of old.tags) stage budget (queue_at 0 old.window) old.memory new.memory old.window
        new.window (extent_disk device.extent any_disk) refl h held

pub ahead_looked_to : (device : BlockDevice) (stage : Stage) (budget : Budget) (progress : Progress) (old : HostedQueue)
    (asked : List InFlight) (new : HostedQueue) → LooksTo device stage budget progress old asked new
    → AheadIn old.window (tokens_of old.tags)
    → AheadIn new.window (tokens_of new.tags)
ahead_looked_to device stage budget progress old [] new looks held =
    stops_kept device stage budget progress old new (free_tag old.tags) looks held
ahead_looked_to device stage budget progress old (here ∷ asked) new looks held =
    ahead_looked_to device Next looks.0 progress looks.1 asked new looks.3
    (ahead_asked device stage old looks.1 here (asks_next device stage budget looks.0 old looks.1 here looks.2) held)

end_stops : (device : BlockDevice) (stage : Stage) (old new : HostedQueue) (free : Option ℕ)
    → LookEnds free device stage old new → PieceStops free device stage unlimited Done old new
end_stops device stage old new None same = (refl, same)
end_stops device stage old new (Some tag) x = record { stops = x.ends; tags = x.tags }

pub ahead_looked : (device : BlockDevice) (stage : Stage) (old : HostedQueue) (asked : List InFlight)
    (new : HostedQueue) → LooksFrom device stage old asked new
    → AheadIn old.window (tokens_of old.tags)
    → AheadIn new.window (tokens_of new.tags)
ahead_looked device stage old [] new looks held =
    stops_kept device stage unlimited Done old new (free_tag old.tags)
    (end_stops device stage old new (free_tag old.tags) looks) held
ahead_looked device stage old (here ∷ asked) new looks held =
    ahead_looked device Next looks.0 asked new looks.2
    (ahead_asked device stage old looks.0 here looks.1 held)

-- ---- where nothing is in flight all is held, whatever memory and window there are

none_fit : (queue : Queue) (tags : List (Option InFlight)) → is_any tags ≡ false → All (TagFits queue) (tokens_of tags)
none_fit queue [] none = All-nil (TagFits queue)
none_fit queue (None ∷ tags) none = All-cons (TagFits queue) None (tokens_of tags) tt (none_fit queue tags none)
none_fit queue (Some here ∷ tags) none = absurd (cc none)

no_places : (tags : List (Option InFlight)) → is_any tags ≡ false → sum_by tag_places (tokens_of tags) ≡ 0
no_places [] none = refl
no_places (None ∷ tags) none = no_places tags none
no_places (Some here ∷ tags) none = absurd (cc none)

none_ahead : (found : Option Queue) (tags : List (Option InFlight)) → is_any tags ≡ false
    → IfSome found (λ queue. AreAhead queue (tokens_of tags))
none_ahead None tags none = tt
none_ahead (Some queue) tags none = record {
  each = none_fit queue tags none;
  places = let zero = no_places tags none in omega (arith, zero);
}

pub idle_tags_held : (capacity : ℕ) (m : Memory) (w : WindowState) (tags : List (Option InFlight)) → is_any tags ≡ false
    → AreHeld capacity (record { memory = m; window = w; tags = tags })
idle_tags_held capacity m w tags none = record {
  each = none_held capacity m tags none;
  ahead = none_ahead (queue_at 0 w) tags none;
}
