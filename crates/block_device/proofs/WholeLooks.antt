-- A whole look at a queue of a disk that the host serves comes out in one way: the same chains ask, in the same order,
-- with the same tags.
use Rattle.std.proofs.Common.{◌≡◌, ◌∙◌, ℕ, Option, Some, None, List, [], ◌∷◌, set, refl, sym, ap, subst}
use Rattle.guest_memory.specs.Memory.{Memory}
use Rattle.chain.specs.declared.budget.Budget.{Budget}
use Rattle.chain.specs.declared.budget.Progress.{Progress}
use Rattle.chain.specs.declared.budget.Progress.TheVariants.{Done, More}
use Rattle.chain.specs.declared.segment.Buffer.{Buffer}
use Rattle.chain.specs.declared.segment.Segment.{Segment}
use Rattle.mmio_window.specs.declared.stage.Stage.{Stage}
use Rattle.mmio_window.specs.declared.stage.Stage.TheVariants.{Next}
use Rattle.mmio_window.specs.declared.queue.Queue.{Queue}
use Rattle.mmio_window.specs.Pieces.{ServesTo}
use Rattle.mmio_window.specs.Window.{WindowState, queue_at}
use Rattle.block_device.specs.declared.device.BlockDevice.{BlockDevice}
use Rattle.mmio_window.specs.declared.queue.Token.{Token}
use Rattle.block_device.specs.declared.hosting.Flight.{Flight}
use Rattle.block_device.specs.declared.hosting.Hosted.{Hosted}
use Rattle.block_device.specs.declared.hosting.Hosted.TheVariants as hosted
use Rattle.block_device.specs.Flights.{AsksNext, AsksNextWithin, HostedQueue, InFlight, LookEnds, LooksFrom, LooksTo, PieceStops, unlimited}
use Rattle.block_device.specs.Tags.{free_tag}
use Rattle.block_device.specs.Asking.{unasked_device}
use Rattle.block_device.specs.Extent.{extent_disk}
use Rattle.block_device.specs.Hosting.{HostsTo, SameLook, hosted_by}
use Rattle.block_device.proofs.Looking.{asks_next}
use Rattle.block_device.proofs.OneLook.{asks_or_done, asks_or_pauses, left_once, one_look, stops_once}
use Rattle.block_device.proofs.Unasked.{any_disk}

-- a piece, whichever it is
piece_once : (device : BlockDevice) (stage : Stage) (old : HostedQueue) (one other : Hosted) (m n : Memory)
    (v w : WindowState) (b c : List Buffer) (r s : List Segment)
    → HostsTo device stage unlimited (queue_at 0 old.window) one old.memory m old.window v b r any_disk
    → HostsTo device stage unlimited (queue_at 0 old.window) other old.memory n old.window w c s any_disk
    → SameLook one other m n v w b c r s
piece_once device stage old one other m n v w b c r s x y =
    one_look device stage unlimited (queue_at 0 old.window) one other old.memory m n old.window v w b c r s
    any_disk refl refl x y

same_queue : (m n : Memory) (v w : WindowState) (t u : List (Option InFlight)) → m ≡ n → v ≡ w → t ≡ u
    → ◌≡◌ {A = HostedQueue} (record { memory = m; window = v; tags = t }) (record { memory = n; window = w; tags = u })
same_queue m n v w t u p q r = rw (p, q, r) refl

same_flying : (f g : Flight Token) (r s : List Segment) → f ≡ g → r ≡ s
    → ◌≡◌ {A = InFlight} (record { flight = f; runs = r }) (record { flight = g; runs = s })
same_flying f g r s p q = rw (p, q) refl

asked_flight : (f g : Flight Token) → hosted.Asks f ≡ hosted.Asks g → f ≡ g
asked_flight f g e = cc e

-- the next chain that asks
record SameNext (here there : InFlight) (one other : HostedQueue) : Type 0 where
  here_is : here ≡ there
  queue : one ≡ other

next_once : (device : BlockDevice) (stage : Stage) (old one other : HostedQueue) (here there : InFlight)
    → AsksNext device stage old here one → AsksNext device stage old there other
    → SameNext here there one other
next_once device stage old one other here there x y =
    let same = piece_once device stage old (hosted.Asks here.flight) (hosted.Asks there.flight)
    one.memory other.memory one.window other.window x.buffers y.buffers here.runs there.runs
    (x.asks any_disk) (y.asks any_disk) in
    let flying : here ≡ there = same_flying here.flight there.flight here.runs there.runs
    (asked_flight here.flight there.flight same.outcome) same.runs in
    let tag : Some x.tag ≡ Some y.tag = sym x.free ∙ y.free in
    let tags : one.tags ≡ other.tags = x.tags
    ∙ ap (λ h. set old.tags x.tag (Some h)) flying
    ∙ (let at : x.tag ≡ y.tag = cc tag in ap (λ t. set old.tags t (Some there)) at)
    ∙ sym y.tags in
    record {
      here_is = flying;
      queue = same_queue one.memory other.memory one.window other.window one.tags other.tags
          same.memory same.window tags;
    }

end_or_next : (device : BlockDevice) (stage : Stage) (old one other : HostedQueue) (here : InFlight)
    (free : Option ℕ) → free_tag old.tags ≡ free → LookEnds free device stage old one
    → AsksNext device stage old here other → ⊥
end_or_next device stage old one other here None none x y = let some = y.free in cc (none, some)
end_or_next device stage old one other here (Some tag) some x y =
    let same = piece_once device stage old hosted.Done (hosted.Asks here.flight)
    one.memory other.memory one.window other.window [] y.buffers [] here.runs
    (x.ends any_disk) (y.asks any_disk) in
    let no : hosted.Done ≡ hosted.Asks here.flight = same.outcome in
    cc no

ends_once : (device : BlockDevice) (stage : Stage) (old one other : HostedQueue) (free : Option ℕ)
    → LookEnds free device stage old one → LookEnds free device stage old other → one ≡ other
ends_once device stage old one other None x y = x ∙ sym y
ends_once device stage old one other (Some tag) x y =
    let same = piece_once device stage old hosted.Done hosted.Done
    one.memory other.memory one.window other.window [] [] [] [] (x.ends any_disk) (y.ends any_disk) in
    same_queue one.memory other.memory one.window other.window one.tags other.tags
    same.memory same.window (x.tags ∙ sym y.tags)

pub record SameWholeLook (asked others : List InFlight) (one other : HostedQueue) : Type 0 where
  pub asked_is : asked ≡ others
  pub queue : one ≡ other

pub looks_once : (device : BlockDevice) (stage : Stage) (old : HostedQueue) (asked others : List InFlight)
    (one other : HostedQueue) → LooksFrom device stage old asked one → LooksFrom device stage old others other
    → SameWholeLook asked others one other
looks_once device stage old [] [] one other x y =
    record { asked_is = refl; queue = ends_once device stage old one other (free_tag old.tags) x y }
looks_once device stage old [] (there ∷ others) one other x y =
    absurd (end_or_next device stage old one y.0 there (free_tag old.tags) refl x y.1)
looks_once device stage old (here ∷ asked) [] one other x y =
    absurd (end_or_next device stage old other x.0 here (free_tag old.tags) refl y x.1)
looks_once device stage old (here ∷ asked) (there ∷ others) one other x y =
    let next = next_once device stage old x.0 y.0 here there x.1 y.1 in
    let rest = looks_once device Next y.0 asked others one other
    (subst (λ (q : HostedQueue). LooksFrom device Next q asked one) next.queue x.2) y.2 in
    record {
      asked_is = ap (λ h. h ∷ asked) next.here_is ∙ ap (λ l. there ∷ l) rest.asked_is;
      queue = rest.queue;
    }

-- ---- a piece of one, within a budget

pub record SamePiece (x y : Progress) (asked others : List InFlight) (one other : HostedQueue) : Type 0 where
  pub progress : x ≡ y
  pub asked_is : asked ≡ others
  pub queue : one ≡ other

stop_or_next : (device : BlockDevice) (stage : Stage) (budget left : Budget) (progress : Progress)
    (old one other : HostedQueue) (here : InFlight) (free : Option ℕ) → free_tag old.tags ≡ free
    → PieceStops free device stage budget progress old one → AsksNextWithin device stage budget left old here other → ⊥
stop_or_next device stage budget left progress old one other here None none x y = let some = y.free in cc (none, some)
stop_or_next device stage budget left Done old one other here (Some tag) some x y =
    let h = y.asks any_disk in
    asks_or_done device stage budget (queue_at 0 old.window) here.flight old.memory other.memory one.memory old.window
    other.window one.window y.buffers here.runs any_disk h.asks (x.stops any_disk)
stop_or_next device stage budget left More old one other here (Some tag) some x y =
    asks_or_pauses device stage budget left (queue_at 0 old.window) here.flight old.memory other.memory one.memory
    old.window other.window one.window y.buffers here.runs any_disk (y.asks any_disk) (x.stops any_disk)

stopped_by : (device : BlockDevice) (stage : Stage) (budget : Budget) (found : Option Queue) (progress : Progress)
    (old new : Memory) (before after : WindowState)
    → HostsTo device stage budget found (hosted_by progress) old new before after [] [] any_disk
    → ServesTo stage (unasked_device device) budget 0 found progress old new before after
    (extent_disk device.extent any_disk) (extent_disk device.extent any_disk)
stopped_by device stage budget found More old new before after h = h
stopped_by device stage budget found Done old new before after h = h

stops_alike : (device : BlockDevice) (stage : Stage) (budget : Budget) (x y : Progress) (old one other : HostedQueue)
    (free : Option ℕ) → PieceStops free device stage budget x old one → PieceStops free device stage budget y old other
    → SamePiece x y [] [] one other
stops_alike device stage budget x y old one other None p q =
    record { progress = p.0 ∙ sym q.0; asked_is = refl; queue = p.1 ∙ sym q.1 }
stops_alike device stage budget x y old one other (Some tag) p q =
    let found = queue_at 0 old.window in
    let same = stops_once device stage budget found x y old.memory one.memory other.memory old.window one.window
    other.window (extent_disk device.extent any_disk)
    (stopped_by device stage budget found x old.memory one.memory old.window one.window (p.stops any_disk))
    (stopped_by device stage budget found y old.memory other.memory old.window other.window (q.stops any_disk)) in
    record {
      progress = same.progress;
      asked_is = refl;
      queue = same_queue one.memory other.memory one.window other.window one.tags other.tags same.memory same.window
          (p.tags ∙ sym q.tags);
    }

pub piece_of_look_once : (device : BlockDevice) (stage : Stage) (budget : Budget) (x y : Progress) (old : HostedQueue)
    (asked others : List InFlight) (one other : HostedQueue) → LooksTo device stage budget x old asked one
    → LooksTo device stage budget y old others other → SamePiece x y asked others one other
piece_of_look_once device stage budget x y old [] [] one other p q =
    stops_alike device stage budget x y old one other (free_tag old.tags) p q
piece_of_look_once device stage budget x y old [] (there ∷ others) one other p q =
    absurd (stop_or_next device stage budget q.0 x old one q.1 there (free_tag old.tags) refl p q.2)
piece_of_look_once device stage budget x y old (here ∷ asked) [] one other p q =
    absurd (stop_or_next device stage budget p.0 y old other p.1 here (free_tag old.tags) refl q p.2)
piece_of_look_once device stage budget x y old (here ∷ asked) (there ∷ others) one other p q =
    let next = next_once device stage old p.1 q.1 here there
    (asks_next device stage budget p.0 old p.1 here p.2) (asks_next device stage budget q.0 old q.1 there q.2) in
    let left = left_once device stage budget p.0 q.0 (queue_at 0 old.window) here.flight there.flight old.memory
    p.1.memory q.1.memory old.window p.1.window q.1.window p.2.buffers q.2.buffers here.runs there.runs any_disk
    (p.2.asks any_disk) (q.2.asks any_disk) in
    let rest = piece_of_look_once device Next q.0 x y q.1 asked others one other
    (subst (λ (b : Budget). LooksTo device Next b x q.1 asked one) left
    (subst (λ (k : HostedQueue). LooksTo device Next p.0 x k asked one) next.queue p.3)) q.3 in
    record {
      progress = rest.progress;
      asked_is = ap (λ h. h ∷ asked) next.here_is ∙ ap (λ l. there ∷ l) rest.asked_is;
      queue = rest.queue;
    }
