-- Tags of the two disks agree: which is free, whether any is taken, what is in one, and what becomes of them.
use Rattle.std.proofs.Common.{◌≡◌, ℕ, zero, suc, Option, Some, None, List, [], ◌∷◌, get_or, map, set, refl, ap}
use Rattle.std.specs.Option.{option_map}
use Rattle.std.proofs.lemmas.List.{map-set}
use Rattle.mmio_window.specs.declared.queue.Token.{Token}
use Rattle.block_device.specs.Flights as still
use Rattle.block_device.specs.Tags.{InFlight, free_tag, freed, is_any}
use Rattle.standing_guest.specs.Slot.{in_flight}

abbrev pub as_still : List (Option (InFlight Token)) → List (Option still.InFlight)
as_still tags = map (option_map in_flight) tags

pub same_free : (tags : List (Option (InFlight Token))) → free_tag (as_still tags) ≡ free_tag tags
same_free [] = refl
same_free (None ∷ tags) = refl
same_free (Some here ∷ tags) = ap (option_map suc) (same_free tags)

pub same_any : (tags : List (Option (InFlight Token))) → is_any (as_still tags) ≡ is_any tags
same_any [] = refl
same_any (None ∷ tags) = same_any tags
same_any (Some here ∷ tags) = refl

pub same_freed : (tags : List (Option (InFlight Token))) → freed (as_still tags) ≡ as_still (freed tags)
same_freed [] = refl
same_freed (tag ∷ tags) = ap (λ rest. None ∷ rest) (same_freed tags)

pub same_at : (tags : List (Option (InFlight Token))) (tag : ℕ)
    → get_or (as_still tags) tag None ≡ option_map in_flight (get_or tags tag None)
same_at [] tag = refl
same_at (x ∷ tags) zero = refl
same_at (x ∷ tags) (suc tag) = same_at tags tag

pub same_put : (tags : List (Option (InFlight Token))) (tag : ℕ) (asks : Option (InFlight Token))
    → as_still (set tags tag asks) ≡ set (as_still tags) tag (option_map in_flight asks)
same_put tags tag asks = map-set (option_map in_flight) tags tag asks

pub same_set : (tags : List (Option (InFlight Token))) (tag : ℕ) → as_still (set tags tag None) ≡ set (as_still tags) tag None
same_set tags tag = same_put tags tag None
