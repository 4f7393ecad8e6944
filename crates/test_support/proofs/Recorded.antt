-- One more moment joins those that are recorded.
use Rattle.std.proofs.Common.{◌≡◌, ◌⊎◌, inl, inr, ⊎_elim, ℕ, zero, suc, ◌+◌, ◌≤◌, List, [], ◌∷◌, ◌++◌, length, drop, refl, sym, subst, arith, length-append}
use Rattle.sector_cache.specs.Stop.{DiffersWithin, IsCut, Touches}
use Rattle.test_support.specs.Past.{AtOneOf, Since, from_1}

drop_push : {X : Type 0} (t : ℕ) (past : List X) (v : X) → t ≤ length past
    → drop t (past ++ v ∷ []) ≡ drop t past ++ v ∷ []
drop_push zero past v le = refl
drop_push (suc t) [] v le = absurd (omega arith)
drop_push (suc t) (p ∷ past) v le = drop_push t past v (omega arith)

module _ {X : Type 0} (MightLeave : X → List ℕ → Type 0) where
  keeps : (past : List X) (v : X) (left : List ℕ) → AtOneOf MightLeave past left
      → AtOneOf MightLeave (past ++ v ∷ []) left
  keeps [] v left at = absurd at
  keeps (p ∷ past) v left (inl here) = inl here
  keeps (p ∷ past) v left (inr there) = inr (keeps past v left there)

  adds : (past : List X) (v : X) (left : List ℕ) → AtOneOf MightLeave (past ++ v ∷ []) left
      → AtOneOf MightLeave past left ⊎ MightLeave v left
  adds [] v left (inl here) = inr here
  adds [] v left (inr none) = absurd none
  adds (p ∷ past) v left (inl here) = inl (inl here)
  adds (p ∷ past) v left (inr there) = ⊎_elim (λ at. inl (inr at)) (λ new. inr new) (adds past v left there)

  newest : (past : List X) (v : X) (left : List ℕ) → MightLeave v left
      → AtOneOf MightLeave (past ++ v ∷ []) left
  newest [] v left is = inl is
  newest (p ∷ past) v left is = inr (newest past v left is)

  none_since : (t : ℕ) (left : List ℕ) → AtOneOf MightLeave (drop t []) left → ⊥
  none_since zero left at = at
  none_since (suc t) left at = at

  -- of what was recorded, or is the newest
  since_push : (t : ℕ) (past : List X) (v : X) (left : List ℕ)
      → AtOneOf MightLeave (drop t (past ++ v ∷ [])) left
      → AtOneOf MightLeave (drop t past) left ⊎ MightLeave v left
  since_push zero past v left at = adds past v left at
  since_push (suc t) [] v left at = absurd (none_since t left at)
  since_push (suc t) (p ∷ past) v left at = since_push t past v left at

  module _ (start end : ℕ) (a b : List ℕ → Type 0) (cut : (left : List ℕ) → b left → IsCut start end a left) where
    -- calls before which that moment was recorded
    pub recorded : (past later : List X) (v : X) → ((left : List ℕ) → a left → MightLeave v left)
        → ((left : List ℕ) → MightLeave v left → a left) → later ≡ past ++ v ∷ []
        → Touches start end (length past) (length later) a b (Since MightLeave a past)
        (Since MightLeave b later)
    recorded past later v into out is =
        subst (λ l. Touches start end (length past) (length l) a b (Since MightLeave a past)
        (Since MightLeave b l)) (sym is) (record {
          later = omega (arith, length-append past (v ∷ []));
          keeps = λ since left reached kept. inr
              (subst (λ l. AtOneOf MightLeave l left) (sym (drop_push since past v reached))
              (⊎_elim (λ now. newest (drop since past) v left (into left now))
              (keeps (drop since past) v left) kept));
          now = cut;
          between = λ since left kept. ⊎_elim (λ now. inr (cut left now))
              (λ at. inl (before since left (since_push since past v left at))) kept;
        })
      where
        before : (since : ℕ) (left : List ℕ)
            → AtOneOf MightLeave (drop since past) left ⊎ MightLeave v left
            → Since MightLeave a past since left
        before since left (inl at) = inr at
        before since left (inr new) = inl (out left new)

    -- calls that leave the record, and take back nothing of what may be left
    pub widened : (past : List X) → ((left : List ℕ) → a left → b left)
        → Touches start end (length past) (length past) a b (Since MightLeave a past)
        (Since MightLeave b past)
    widened past wider = record {
      later = omega arith;
      keeps = λ since left reached kept. ⊎_elim (λ now. inl (wider left now)) (λ at. inr at) kept;
      now = cut;
      between = λ since left kept. ⊎_elim (λ now. inr (cut left now)) (λ at. inl (inr at)) kept;
    }

    -- calls whose moment was not recorded
    pub unrecorded : (past : List X)
        → Touches start end 0 0 a b (from_1 (Since MightLeave a past)) (from_1 (Since MightLeave b past))
    unrecorded past = record {
      later = omega arith;
      keeps = λ since left reached kept. first since left reached;
      now = cut;
      between = between;
    }
      where
        first : (since : ℕ) (left : List ℕ) → since ≤ 0 → from_1 (Since MightLeave b past) since left
        first zero left reached = tt
        first (suc since) left reached = absurd (omega (arith, reached))

        between : (since : ℕ) (left : List ℕ) → from_1 (Since MightLeave b past) since left
            → from_1 (Since MightLeave a past) since left ⊎ IsCut start end a left
        between zero left kept = inl tt
        between (suc since) left (inl now) = inr (cut left now)
        between (suc since) left (inr at) = inl (inr at)

module _ (start end t u : ℕ) (a b : List ℕ → Type 0) (p q : ℕ → List ℕ → Type 0) where
  between_from_1 : ((since : ℕ) (left : List ℕ) → q since left → p since left ⊎ IsCut start end a left)
      → (since : ℕ) (left : List ℕ) → from_1 q since left → from_1 p since left ⊎ IsCut start end a left
  between_from_1 between zero left kept = inl tt
  between_from_1 between (suc since) left kept = between since left kept

  keeps_from_1 : ((since : ℕ) (left : List ℕ) → since ≤ t → p since left → q since left)
      → (since : ℕ) (left : List ℕ) → since ≤ t + 1 → from_1 p since left → from_1 q since left
  keeps_from_1 all zero left reached kept = tt
  keeps_from_1 all (suc since) left reached kept = all since left (omega (arith, reached)) kept

  -- numbered from 1 on
  pub numbered : Touches start end t u a b p q → Touches start end (t + 1) (u + 1) a b (from_1 p) (from_1 q)
  numbered h = record {
    later = omega (arith, h.later);
    keeps = keeps_from_1 h.keeps;
    now = h.now;
    between = between_from_1 h.between;
  }

  -- and as one sees it who doesn't number the moments
  pub unnumbered : Touches start end t u a b p q → Touches start end 0 0 a b (from_1 p) (from_1 q)
  unnumbered h = record {
    later = omega arith;
    keeps = λ since left reached kept. keeps_from_1 h.keeps since left (omega (arith, reached)) kept;
    now = h.now;
    between = between_from_1 h.between;
  }

-- what a file that doesn't record shows of its bytes
pub shown : (start end t u : ℕ) (old new : List ℕ) (p q : ℕ → List ℕ → Type 0)
    → Touches start end t u (λ left. left ≡ old) (λ left. left ≡ new) p q → DiffersWithin start end old new
shown start end t u old new p q touches = let cut = touches.now new refl in
    subst (λ bytes. DiffersWithin start end bytes new) cut.may cut.within
