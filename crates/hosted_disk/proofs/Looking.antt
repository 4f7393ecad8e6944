-- What each piece of a look leaves, a look leaves too, and so does a landing; and a tag that is taken stays so.
use Rattle.std.proofs.Common.{◌≡◌, ◌≢◌, ◌∙◌, ℕ, Bool, true, false, Option, Some, None, List, [], ◌∷◌, get_or, set, sym, ap, subst}
use Rattle.std.proofs.lemmas.List.{get_or-set_other}
use Rattle.chain.specs.declared.budget.Budget.{Budget}
use Rattle.chain.specs.declared.budget.Progress.{Progress}
use Rattle.chain.specs.declared.budget.Progress.TheVariants.{Done}
use Rattle.mmio_window.specs.declared.queue.Queue.{Queue}
use Rattle.mmio_window.specs.declared.stage.Stage.{Stage}
use Rattle.mmio_window.specs.declared.stage.Stage.TheVariants.{First, Next}
use Rattle.mmio_window.specs.Window.{queue_at}
use Rattle.block_device.specs.declared.device.BlockDevice.{BlockDevice}
use Rattle.block_device.specs.declared.operation.Verdict.{Verdict}
use Rattle.block_device.specs.Flights.{AsksNext, HostedQueue, InFlight, IsGivenIn, IsLanding, IsLook, LandsBy, LookEnds, LooksFrom, LooksTo, PieceStops, StopsWithin, unlimited}
use Rattle.block_device.specs.Tags.{free_tag}
use Rattle.block_device.proofs.Freeing.{is_free}
use Rattle.block_device.proofs.Looking.{asks_next}
use Rattle.hosted_disk.specs.Disk.{LooksUnless, LooksUnlessTo}

-- It holds of what stays, of two steps if of each, of a chain that asks, and where no further one does.
pub record IsLeftByLooks (K : HostedQueue → HostedQueue → Type 0) : Type 0 where
  pub none : (q : HostedQueue) → K q q
  pub both : (a b c : HostedQueue) → K a b → K b c → K a c
  pub asks :
      (device : BlockDevice) (stage : Stage) (old : HostedQueue) (here : InFlight) (new : HostedQueue)
      → AsksNext device stage old here new → K old new
  pub stops :
      (device : BlockDevice) (stage : Stage) (budget : Budget) (progress : Progress) (old new : HostedQueue)
      → StopsWithin device stage budget progress old new → K old new

-- what a chain that is given back leaves, and a tag that is only freed
pub record IsLeftByLandings (K : HostedQueue → HostedQueue → Type 0) : Type 0 where
  pub gives :
      (tag : ℕ) (here : InFlight) (verdict : Verdict) (old new : HostedQueue)
      → IsGivenIn tag here verdict old new → K old new
  pub frees : (tag : ℕ) (old : HostedQueue) → K old (record old { tags = set old.tags tag None })

module _ (K : HostedQueue → HostedQueue → Type 0) (left : IsLeftByLooks K) where
  ends_left : (free : Option ℕ) (device : BlockDevice) (stage : Stage) (old new : HostedQueue)
      → LookEnds free device stage old new → K old new
  ends_left None device stage old new h = subst (K old) (sym h) (left.none old)
  ends_left (Some tag) device stage old new h =
      left.stops device stage unlimited Done old new (record { stops = h.ends; tags = h.tags })

  pub from_left : (device : BlockDevice) (stage : Stage) (old : HostedQueue) (asked : List InFlight) (new : HostedQueue)
      → LooksFrom device stage old asked new → K old new
  from_left device stage old [] new h = ends_left (free_tag old.tags) device stage old new h
  from_left device stage old (here ∷ asked) new h =
      left.both old h.0 new (left.asks device stage old here h.0 h.1) (from_left device Next h.0 asked new h.2)

  pub look_left : (device : BlockDevice) (old new : HostedQueue) → IsLook device old new → K old new
  look_left device old new h = from_left device First old h.asked new h.looks

  pub unless_left : (on_hold : Bool) (device : BlockDevice) (old new : HostedQueue)
      → LooksUnless on_hold device old new → K old new
  unless_left true device old new h = subst (K old) (sym h) (left.none old)
  unless_left false device old new h = look_left device old new h

  -- and a piece of a look
  stops_left : (free : Option ℕ) (device : BlockDevice) (stage : Stage) (budget : Budget) (progress : Progress)
      (old new : HostedQueue) → PieceStops free device stage budget progress old new → K old new
  stops_left None device stage budget progress old new h = subst (K old) (sym h.1) (left.none old)
  stops_left (Some tag) device stage budget progress old new h = left.stops device stage budget progress old new h

  to_left : (device : BlockDevice) (stage : Stage) (budget : Budget) (progress : Progress) (old : HostedQueue)
      (asked : List InFlight) (new : HostedQueue) → LooksTo device stage budget progress old asked new → K old new
  to_left device stage budget progress old [] new h =
      stops_left (free_tag old.tags) device stage budget progress old new h
  to_left device stage budget progress old (here ∷ asked) new h =
      left.both old h.1 new
      (left.asks device stage old here h.1 (asks_next device stage budget h.0 old h.1 here h.2))
      (to_left device Next h.0 progress h.1 asked new h.3)

  pub unless_to_left : (on_hold : Bool) (device : BlockDevice) (stage : Stage) (budget : Budget) (progress : Progress)
      (old new : HostedQueue) → LooksUnlessTo on_hold device stage budget progress old new → K old new
  unless_to_left true device stage budget progress old new h = subst (K old) (sym h.1) (left.none old)
  unless_to_left false device stage budget progress old new h =
      to_left device stage budget progress old h.asked new h.looks

  module _ (landings : IsLeftByLandings K) where
    lands_left : (found : Option Queue) (tag : ℕ) (here : InFlight) (verdict : Verdict) (old new : HostedQueue)
        → LandsBy found tag here verdict old new → K old new
    lands_left None tag here verdict old new h = subst (K old) (sym h) (landings.frees tag old)
    lands_left (Some queue) tag here verdict old new h = landings.gives tag here verdict old new h

    pub landing_left : (tag : ℕ) (verdict : Verdict) (old new : HostedQueue) → IsLanding tag verdict old new
        → K old new
    landing_left tag verdict old new h =
        lands_left (queue_at 0 old.window) tag h.here verdict old new h.lands

-- ---- a tag that is taken

abbrev pub KeepsTag : ℕ → HostedQueue → HostedQueue → Type 0
KeepsTag tag old new = (here : InFlight) → get_or old.tags tag None ≡ Some here → get_or new.tags tag None ≡ Some here

same_tags : (tag : ℕ) (old new : HostedQueue) → new.tags ≡ old.tags → KeepsTag tag old new
same_tags tag old new same = λ here is. ap (λ tags. get_or tags tag None) same ∙ is

other_set : (tag other : ℕ) (old new : HostedQueue) (found : Option InFlight) → tag ≢ other
    → new.tags ≡ set old.tags other found → KeepsTag tag old new
other_set tag other old new found differ is = λ here taken.
    ap (λ tags. get_or tags tag None) is ∙ get_or-set_other old.tags other tag found None differ ∙ taken

not_free : (tags : List (Option InFlight)) (tag free : ℕ) (here : InFlight) → get_or tags tag None ≡ Some here
    → get_or tags free None ≡ None → tag ≢ free
not_free tags tag free here taken none = λ same.
    let clash : Some here ≡ None = sym taken ∙ (ap (λ t. get_or tags t None) same ∙ none) in
    absurd (cc clash)

asks_keeps : (tag : ℕ) (device : BlockDevice) (stage : Stage) (old : HostedQueue) (here : InFlight)
    (new : HostedQueue) → AsksNext device stage old here new → KeepsTag tag old new
asks_keeps tag device stage old here new next = λ there taken.
    other_set tag next.tag old new (Some here)
    (not_free old.tags tag next.tag there taken (is_free old.tags next.tag next.free).free) next.tags there taken

pub keeps_tag : (tag : ℕ) → IsLeftByLooks (KeepsTag tag)
keeps_tag tag = record {
  none = λ q here is. is;
  both = λ a b c one other here is. other here (one here is);
  asks = λ device stage old here new next. asks_keeps tag device stage old here new next;
  stops = λ device stage budget progress old new no_more. same_tags tag old new no_more.tags;
}

-- the landing of another tag keeps it
others_stay : (found : Option Queue) (tag other : ℕ) (here : InFlight) (verdict : Verdict) (old new : HostedQueue)
    → tag ≢ other → LandsBy found other here verdict old new → KeepsTag tag old new
others_stay None tag other here verdict old new differ h =
    other_set tag other old new None differ (ap (λ (q : HostedQueue). q.tags) h)
others_stay (Some queue) tag other here verdict old new differ h =
    other_set tag other old new None differ h.tags

pub landing_keeps : (tag other : ℕ) (verdict : Verdict) (old new : HostedQueue)
    → tag ≢ other → IsLanding other verdict old new → KeepsTag tag old new
landing_keeps tag other verdict old new differ h = λ here taken.
    others_stay (queue_at 0 old.window) tag other h.here verdict old new differ h.lands here taken
