-- What a trace has that can be printed, part by part.
use Rattle.std.proofs.Common.{◌≡◌, ℕ, ◌+◌, ◌<◌, Bool, List, All, length, get_or, inl, inr, sym, ap, subst, ◌∙◌, arith, IsTrue, ◌↔◌}
use Rattle.std.proofs.lemmas.Bool.{cases_lt}
use Rattle.std.proofs.lemmas.List.{get_or_default}
use Rattle.trace.specs.Printable.{IsPrintable, IsPrintableKind, IsPrintableSlot}
use Rattle.trace.specs.Text.{Content, word_for}
use Rattle.trace.specs.Words.{IsWordOf}

-- what holds of each so far and of the next one
pub each_more : {X : Type 0} (P : X → Type 0) (xs : List X) (i : ℕ) (x : X)
    → ((k : ℕ) (d : X) → k < i → P (get_or xs k d)) → i < length xs → x ≡ get_or xs i x → P x
    → (k : ℕ) (d : X) → k < i + 1 → P (get_or xs k d)
each_more P xs i x before within is next k d lt =
    elim (cases_lt k i) [
      | inl earlier ↦ before k d earlier
      | inr late ↦
          let here : k ≡ i = omega arith in
          subst P (is ∙ get_or_default xs i x d within ∙ ap (λ (n : ℕ). get_or xs n d) (sym here)) next
    ]

-- slots, events and their words
pub by_words : {A : Type 0} (t : Content A) (words : Bool) → All (IsPrintableSlot t.format) t.slots
    → All (λ e. IsPrintableKind e.what) t.events
    → IsTrue words ↔ All (λ e. IsWordOf t.format (word_for e.what)) t.events
    → IsTrue words ↔ IsPrintable t
by_words t words slots events h = (
  λ yes. record { slots = slots; events = events; words = h.0 yes },
  λ is. h.1 is.words,
)
