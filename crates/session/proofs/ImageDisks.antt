-- A guest's further disks over the image are judged place by place.
use Rattle.std.proofs.Common.{◌≡◌, ℕ, ◌+◌, Bool, true, false, List, [], ◌∷◌, ◌++◌, map, take, drop, Option, Some, None, refl, sym, ap, ◌∙◌}
use Rattle.std.specs.Prelude.{◌==◌, ◌||◌, nat_lt}
use Rattle.std.specs.List.{list_any}
use Rattle.std.proofs.Math.Seq.{take-add}
use Rattle.std.proofs.lemmas.List.{map-append}
use Rattle.block_device.specs.declared.extent.Extent.{Extent}
use Rattle.device_list.specs.declared.spec.DeviceSpec.{DeviceSpec}
use Rattle.device_list.specs.declared.spec.DeviceSpec.TheVariants.{Block, Console, Entropy, Image, Network}
use Rattle.device_list.specs.Device.{fresh_device}
use Rattle.device_list.specs.List.{has_bad_extent, has_some_of}
use Rattle.session.specs.ImageDisks.{has_bad_behind, has_some, is_bad_behind}
use Rattle.session.specs.Session.{before_none}

-- a device as it is described has the sectors that it has as it is made
some_made : (extent : Extent) (device : DeviceSpec) → has_some extent (Some device) ≡ has_some_of extent (fresh_device device)
some_made extent Entropy = refl
some_made extent (Network mac mtu) = refl
some_made extent (Block sectors read_only identity depth) = refl
some_made extent (Console cols rows) = refl
some_made extent (Image other read_only identity) = refl

any_made : (extent : Extent) (done : List DeviceSpec)
    → list_any (has_some extent) (map (λ (d : DeviceSpec). Some d) done) ≡ list_any (has_some_of extent) (map fresh_device done)
any_made extent [] = refl
any_made extent (device ∷ done) =
    ap (λ (one : Bool). one || list_any (has_some extent) (map (λ (d : DeviceSpec). Some d) done)) (some_made extent device)
    ∙ ap (λ (rest : Bool). has_some_of extent (fresh_device device) || rest) (any_made extent done)

bad_made : (spare : ℕ) (done : List DeviceSpec) (device : DeviceSpec)
    → is_bad_behind device spare (map (λ (d : DeviceSpec). Some d) done) ≡ has_bad_extent (map fresh_device done) spare device
bad_made spare done Entropy = refl
bad_made spare done (Network mac mtu) = refl
bad_made spare done (Block sectors read_only identity depth) = refl
bad_made spare done (Console cols rows) = refl
bad_made spare done (Image extent read_only identity) =
    ap (λ (shared : Bool). extent.count == 0 || (nat_lt spare (extent.start + extent.count) || shared)) (any_made extent done)

-- The places before this one have devices, of which none is bad.
pub record AreJudged (places : List (Option DeviceSpec)) (spare k : ℕ) : Type 0 where
  pub done : List DeviceSpec
  pub front : take k places ≡ map (λ (d : DeviceSpec). Some d) done
  pub rest :
      has_bad_behind spare [] (before_none places) ≡ has_bad_behind spare done (before_none (drop k places))

pub none_judged : (places : List (Option DeviceSpec)) (spare : ℕ) → AreJudged places spare 0
none_judged places spare = record { done = []; front = refl; rest = refl }

module _ (places : List (Option DeviceSpec)) (spare k : ℕ) (h : AreJudged places spare k) where
  -- the next place has a device
  module _ (device : DeviceSpec) (rest : List (Option DeviceSpec)) (next : drop k places ≡ Some device ∷ rest) where
    bad_next : is_bad_behind device spare (take k places) ≡ has_bad_extent (map fresh_device h.done) spare device
    bad_next = ap (is_bad_behind device spare) h.front ∙ bad_made spare h.done device

    rest_next : has_bad_behind spare [] (before_none places)
        ≡ (is_bad_behind device spare (take k places) || has_bad_behind spare (h.done ++ device ∷ []) (before_none rest))
    rest_next =
        h.rest ∙ ap (λ some. has_bad_behind spare h.done (before_none some)) next
        ∙ ap (λ (bad : Bool). bad || has_bad_behind spare (h.done ++ device ∷ []) (before_none rest)) (sym bad_next)

    pub found_bad : is_bad_behind device spare (take k places) ≡ true → has_bad_behind spare [] (before_none places) ≡ true
    found_bad bad =
        rest_next
        ∙ ap (λ (found : Bool). found || has_bad_behind spare (h.done ++ device ∷ []) (before_none rest)) bad

    pub next_judged : rest ≡ drop (k + 1) places → is_bad_behind device spare (take k places) ≡ false
        → AreJudged places spare (k + 1)
    next_judged is good = record {
      done = h.done ++ device ∷ [];
      front = take-add k 1 places ∙ ap (λ some. take k places ++ take 1 some) next
          ∙ ap (λ front. front ++ Some device ∷ []) h.front ∙ sym (map-append (λ (d : DeviceSpec). Some d) h.done (device ∷ []));
      rest = rest_next
          ∙ ap (λ (found : Bool). found || has_bad_behind spare (h.done ++ device ∷ []) (before_none rest)) good
          ∙ ap (λ some. has_bad_behind spare (h.done ++ device ∷ []) (before_none some)) is;
    }

  -- or has none, or there is none
  pub none_bad : before_none (drop k places) ≡ [] → has_bad_behind spare [] (before_none places) ≡ false
  none_bad none = h.rest ∙ ap (has_bad_behind spare h.done) none

-- a place that has no device
pub none_by : {X : Type 0} (place : Option X) → ((x : X) → place ≡ Some x → ⊥) → place ≡ None
none_by None never = refl
none_by (Some x) never = absurd (never x refl)
