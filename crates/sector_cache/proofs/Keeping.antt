-- What the kit's `lru` finds of a sector, and what its entries are then.
use Rattle.std.proofs.Common.{◌≡◌, ℕ, ◌-◌, inl, inr, List, [], ◌∷◌, take, true, false, cond, None, nat_eq, refl, ◌∙◌, ap}
use Rattle.std.specs.Prelude.{Result, Ok, Err, OnOk, OnErr}
use Rattle.std.specs.Cmp.{nat_eq_equiv}
use Rattle.std.specs.List.{IsDistinct}
use Rattle.std.specs.Option.{option_map_or}
use Rattle.std.specs.Map.{keys_of, lookup, lookup_entry, remove_entry}
use Rattle.std.proofs.lemmas.Bool.{eq-eqb, eqb-true}
use Rattle.std.proofs.lemmas.Map.{lookup-remove_entry}
use Rattle.lru.specs.LruCache.{LruCache, lru_cache, promoted, put_entries}
use Rattle.sector_cache.specs.Kept.{MayKeep}

-- where there is no value there is no entry
entry_of_none : (sector : ℕ) (entries : List (ℕ × List ℕ)) → lookup (nat_eq sector) entries ≡ None
    → lookup_entry (nat_eq sector) entries ≡ None
entry_of_none sector [] none = refl
entry_of_none sector (first ∷ rest) none =
    (elim (nat_eq sector first.0) as (λ b. nat_eq sector first.0 ≡ b
    → lookup_entry (nat_eq sector) (first ∷ rest) ≡ None) [
      | true ↦ λ is. let never = rw is at none in cc
      | false ↦ λ is. rw is (entry_of_none sector rest (rw is at none))
    ]) refl

module _ (sector : ℕ) (old new : LruCache ℕ (List ℕ)) where
  -- what isn't there can't become the most recently used
  pub none_used : new ≡ lru_cache (promoted (nat_eq sector) old.entries) old.cap
      → lookup (nat_eq sector) old.entries ≡ None → lookup (nat_eq sector) new.entries ≡ None
  none_used is none = rw is (rw (entry_of_none sector old.entries none) none)

  -- what was taken out isn't found
  pub none_left : new ≡ lru_cache (remove_entry (nat_eq sector) old.entries) old.cap
      → IsDistinct nat_eq (keys_of old.entries) → lookup (nat_eq sector) new.entries ≡ None
  none_left is distinct = rw is
      (lookup-remove_entry nat_eq_equiv (nat_eq sector) (λ x y e. ap (λ n. nat_eq n y) (eqb-true sector x e))
      sector old.entries distinct
      ∙ ap (λ b. cond b None (lookup (nat_eq sector) old.entries)) (eq-eqb sector sector refl))

  -- a put of what isn't there
  pub kept_by_put : {X E : Type 0} (result : Result X E) (bytes : List ℕ)
      → OnOk result (new ≡ lru_cache (put_entries nat_eq old sector bytes) old.cap) → OnErr result (new ≡ old)
      → lookup (nat_eq sector) old.entries ≡ None → MayKeep sector bytes old new
  kept_by_put (Ok _) bytes ok err none =
      record {
        either = inl (ok
            ∙ ap (λ found. lru_cache (option_map_or (λ e. (e.0, bytes)
            ∷ remove_entry (nat_eq sector) old.entries)
            found ((sector, bytes) ∷ take (old.cap - 1) old.entries)) old.cap)
            (entry_of_none sector old.entries none));
      }
  kept_by_put (Err _) bytes ok err none = record { either = inr err }
