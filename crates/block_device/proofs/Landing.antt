-- A chain in flight lands, whichever it is.
use Rattle.std.proofs.Common.{◌≡◌, ◌≢◌, ◌∙◌, ℕ, zero, suc, ◌<◌, true, false, is_some, Option, Some, None, List, [], ◌∷◌, length, get_or, set, refl, sym, ap, subst, arith}
use Rattle.std.specs.Prelude.{All, IfSome}
use Rattle.std.proofs.lemmas.List.{get_or-map, get_or-set_other, length-map}
use Rattle.guest_memory.specs.Memory.{Memory, SameRange}
use Rattle.mmio_window.specs.declared.queue.Queue.{Queue}
use Rattle.mmio_window.specs.Queue.{AreAhead}
use Rattle.mmio_window.specs.Window.{WindowState, queue_at}
use Rattle.mmio_window.proofs.Ahead.{is_ahead_in}
use Rattle.mmio_window.specs.declared.queue.Token.{Token}
use Rattle.block_device.specs.declared.hosting.Flight.{Flight}
use Rattle.block_device.specs.declared.operation.Verdict.{Verdict}
use Rattle.mmio_window.specs.declared.stage.Stage.{Stage}
use Rattle.mmio_window.specs.declared.stage.Stage.TheVariants.{First}
use Rattle.chain.specs.declared.budget.Budget.{Budget}
use Rattle.chain.specs.declared.budget.Progress.{Progress}
use Rattle.block_device.specs.declared.device.BlockDevice.{BlockDevice}
use Rattle.block_device.specs.Flights.{AreHeld, HostedQueue, InFlight, IsLanding, IsLook, IsLookTo, LandsBy}
use Rattle.block_device.specs.Tags.{TagIsHeld, flight_in, token_in, tokens_of}
use Rattle.block_device.specs.Hosting.{CompletesIn, IsInFlight}
use Rattle.block_device.proofs.Freeing.{IsThere, is_there}
use Rattle.block_device.proofs.Held.{ahead_landed, ahead_looked, ahead_looked_to}
use Rattle.block_device.proofs.Holding.{all_set, one_held}

pub in_flight : (capacity : ℕ) (m : Memory) (w : WindowState) (tags : List (Option InFlight)) (i : ℕ) (flight : Flight Token)
    → Some flight ≡ flight_in (get_or tags i None)
    → AreHeld capacity (record { memory = m; window = w; tags = tags })
    → is_some (queue_at 0 w) ≡ true → IsInFlight m w flight
in_flight capacity m w tags i flight found held live = go (queue_at 0 w) refl held.ahead live
  where
    go : (o : Option Queue) → queue_at 0 w ≡ o → IfSome o (λ queue. AreAhead queue (tokens_of tags))
        → is_some o ≡ true → IsInFlight m w flight
    go None e a some = absurd (cc some)
    go (Some queue) e a some =
        let is = is_there flight tags i found in
        let each = one_held capacity m tags i is.here is.within is.there held.each in
        let token : get_or (tokens_of tags) i None ≡ Some is.here.flight.token =
        get_or-map token_in tags i None None is.within ∙ ap token_in is.there in
        subst (IsInFlight m w) is.its (record {
          queue = queue;
          ready = e;
          ahead = is_ahead_in queue (tokens_of tags) i is.here.flight.token
              (let same = length-map tags token_in in omega (arith, is.within, same)) a token;
          status = each.status;
          some = each.some;
        })

pub lands_live : (i : ℕ) (flight : Flight Token) (verdict : Verdict) (old new : HostedQueue)
    → Some flight ≡ flight_in (get_or old.tags i None) → is_some (queue_at 0 old.window) ≡ true
    → CompletesIn flight verdict old.memory new.memory old.window new.window
    → new.tags ≡ set old.tags i None → IsLanding i verdict old new
lands_live i flight verdict old new found live completes tags =
    let is = is_there flight old.tags i found in
    record { here = is.here; there = is.there; lands = go is (queue_at 0 old.window) live }
  where
    go : (is : IsThere flight old.tags i) (o : Option Queue) → is_some o ≡ true → LandsBy o i is.here verdict old new
    go is None some = absurd (cc some)
    go is (Some queue) some = record {
      completes = subst (λ f. CompletesIn f verdict old.memory new.memory old.window new.window) (sym is.its)
          completes;
      tags = tags;
    }

pub lands_dead : (i : ℕ) (flight : Flight Token) (verdict : Verdict) (old : HostedQueue) (tags : List (Option InFlight))
    → Some flight ≡ flight_in (get_or old.tags i None) → is_some (queue_at 0 old.window) ≡ false
    → tags ≡ set old.tags i None → IsLanding i verdict old (record old { tags = tags })
lands_dead i flight verdict old tags found dead same =
    let is = is_there flight old.tags i found in
    record { here = is.here; there = is.there; lands = go is (queue_at 0 old.window) dead }
  where
    go : (is : IsThere flight old.tags i) (o : Option Queue) → is_some o ≡ false
        → LandsBy o i is.here verdict old (record old { tags = tags })
    go is None none = ap (λ t. record old { tags = t }) same
    go is (Some queue) none = absurd (cc none)

-- ---- what is held stays so, by a look and by a landing

pub held_looked : (device : BlockDevice) (capacity : ℕ) (old new : HostedQueue) → IsLook device old new
    → AreHeld capacity old → All (TagIsHeld capacity new.memory) new.tags → AreHeld capacity new
held_looked device capacity old new look held each = record {
  each = each;
  ahead = ahead_looked device First old look.asked new look.looks held.ahead;
}

pub held_looked_to : (device : BlockDevice) (capacity : ℕ) (stage : Stage) (budget : Budget) (progress : Progress)
    (old new : HostedQueue) → IsLookTo device stage budget progress old new
    → AreHeld capacity old → All (TagIsHeld capacity new.memory) new.tags → AreHeld capacity new
held_looked_to device capacity stage budget progress old new look held each = record {
  each = each;
  ahead = ahead_looked_to device stage budget progress old look.asked new look.looks held.ahead;
}

landed_tags : (found : Option Queue) (tag : ℕ) (here : InFlight) (verdict : Verdict) (old new : HostedQueue)
    → LandsBy found tag here verdict old new → new.tags ≡ set old.tags tag None
landed_tags None tag here verdict old new same = ap (λ (h : HostedQueue). h.tags) same
landed_tags (Some queue) tag here verdict old new lands = lands.tags

pub held_landed : (capacity tag : ℕ) (verdict : Verdict) (old new : HostedQueue) → IsLanding tag verdict old new
    → tag < length old.tags → SameRange old.memory new.memory → AreHeld capacity old → AreHeld capacity new
held_landed capacity tag verdict old new landing below same held =
    let tags = landed_tags (queue_at 0 old.window) tag landing.here verdict old new landing.lands in
    record {
      each = subst (λ t. All (TagIsHeld capacity new.memory) t) (sym tags)
          (all_set capacity old.memory new.memory old.tags tag None same held.each tt);
      ahead = ahead_landed tag verdict old new landing below held.ahead;
    }

pub held_live : (capacity i : ℕ) (flight : Flight Token) (verdict : Verdict) (old new : HostedQueue)
    → Some flight ≡ flight_in (get_or old.tags i None) → is_some (queue_at 0 old.window) ≡ true
    → CompletesIn flight verdict old.memory new.memory old.window new.window
    → new.tags ≡ set old.tags i None → SameRange old.memory new.memory → AreHeld capacity old → AreHeld capacity new
held_live capacity i flight verdict old new found live completes tags same held =
    held_landed capacity i verdict old new (lands_live i flight verdict old new found live completes tags)
    (is_there flight old.tags i found).within same held

pub landed_free : (tag : ℕ) (verdict : Verdict) (old new : HostedQueue) → IsLanding tag verdict old new
    → get_or new.tags tag None ≡ None
landed_free tag verdict old new landing =
    let tags = landed_tags (queue_at 0 old.window) tag landing.here verdict old new landing.lands in
    ap (λ t. get_or t tag None) tags ∙ gone old.tags tag
  where
    gone : (tags : List (Option InFlight)) (i : ℕ) → get_or (set tags i None) i None ≡ None
    gone [] i = refl
    gone (here ∷ tags) zero = refl
    gone (here ∷ tags) (suc i) = gone tags i

pub landed_others : (tag other : ℕ) (verdict : Verdict) (old new : HostedQueue) → IsLanding tag verdict old new
    → other ≢ tag → get_or new.tags other None ≡ get_or old.tags other None
landed_others tag other verdict old new landing apart =
    let tags = landed_tags (queue_at 0 old.window) tag landing.here verdict old new landing.lands in
    ap (λ t. get_or t other None) tags ∙ get_or-set_other old.tags tag other None None apart
