-- At most one answer to a chain.
use Rattle.std.proofs.Common.{◌≡◌, ℕ, List, ◌∷◌, length, map, Some, None, replicate, ◌++◌, ◌+◌, ◌-◌, sym, ap₂, ◌∙◌}
use Rattle.chain.specs.Service.{Given, HasAtMostOneAnswer}
use Rattle.network_device.specs.declared.limits.Limits.{Limits}
use Rattle.network_device.specs.Device.{Delivers, Passing, counted, misfits, passing, receive, transmit}
use Rattle.network_device.specs.Header.{header_len, receive_header}

pub transmit_once : (limits : Limits) → HasAtMostOneAnswer (transmit limits)
transmit_once limits = record { given = λ out readable w g h p q. p.0 ∙ sym q.0 }

first_is : (f g : List ℕ) (a b : List (List ℕ)) → f ∷ a ≡ g ∷ b → f ≡ g
first_is f g a b e = cc

later_is : (f g : List ℕ) (a b : List (List ℕ)) → f ∷ a ≡ g ∷ b → a ≡ b
later_is f g a b e = cc

-- what a chain gets, by the frame and those behind it
abbrev given_of : Passing → ℕ → List ℕ → List (List ℕ) → Given Passing
given_of waiting w frame later = record {
  state = passing later (counted waiting.dropped (misfits w waiting.frames));
  written = map Some (receive_header ++ frame) ++ replicate (w - (header_len + length frame)) None;
}

pub receive_once : HasAtMostOneAnswer receive
receive_once = record {
  given = λ waiting readable w g h (p : Delivers waiting w g) (q : Delivers waiting w h).
      (let e : p.frame ∷ p.later ≡ q.frame ∷ q.later = sym p.first ∙ q.first in
      p.is ∙ ap₂ (given_of waiting w) (first_is p.frame q.frame p.later q.later e)
      (later_is p.frame q.frame p.later q.later e) ∙ sym q.is);
}
