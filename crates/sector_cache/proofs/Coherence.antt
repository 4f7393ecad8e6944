-- What is kept stays what the image tells, through each call of the image.
use Rattle.std.proofs.Common.{◌≡◌, ℕ, ◌+◌, ◌*◌, ◌≤◌, ◌<◌, ◌≢◌, inl, inr, List, [], ◌∷◌, length, Some, None, IfSome, Contains, nat_eq, sym, ◌∙◌, ap, subst, refl, take, ◌-◌, arith}
use Rattle.std.specs.Option.{option_map}
use Rattle.std.specs.Map.{lookup, remove_entry}
use Rattle.std.specs.Prelude.{IsSomeAnd, MatchOption, Option, Result, Ok, Err, OnOk, OnErr, true, false}
use Rattle.std.proofs.lemmas.Map.Views.{Contains-from_lookup}
use Rattle.std.proofs.lemmas.Bool.{eqb-true, eq-eqb}
use Rattle.std.proofs.lemmas.List.{take_all}
use Rattle.lru.specs.LruCache.{LruCache, lru_cache, promoted}
use Rattle.lru.proofs.CallerLemmas.{Contains-take, Contains-promoted, Contains-remove_entry}
use Rattle.lru.proofs.Splits.{Contains-cons, Contains-nil}
use Rattle.sector_cache.specs.Disk.{Disk, IsWhole, IsSectorContents, IsTorn, Tells, failed, written}
use Rattle.sector_cache.specs.Kept.{IsCoherent, MayKeep, with_first}
use Rattle.sector_cache.specs.Sector.{extent_of, sector_of, with_sector}
use Rattle.sector_cache.proofs.Sectors.{length-extent_of, sector_of-with_sector, sector_of-with_sector_other}

-- another sector holds what it did before a write
IsSectorContents-other : (disk : Disk) (sector : ℕ) (new : List ℕ) → IsWhole disk → sector < disk.sector_count
    → length new ≡ 512 → (other : ℕ) (bytes : List ℕ) → (sector ≡ other → ⊥)
    → IsSectorContents disk other bytes → IsSectorContents (written sector new disk) other bytes
IsSectorContents-other disk sector new whole within long other bytes apart contents =
    (elim disk.contents as (λ t. IfSome t (λ b. length b ≡ 512 * disk.sector_count)
    → IfSome t (λ b. bytes ≡ sector_of b other)
    → IfSome (option_map (λ b. with_sector b sector new) t) (λ b. bytes ≡ sector_of b other)) [
      | None ↦ λ _ _. tt
      | Some b ↦ λ full are_contents. are_contents
          ∙ sym (sector_of-with_sector_other b sector new other (omega arith) long (λ same. apart (sym same)))
    ]) whole contents

-- the sector that was written holds what was written
IsSectorContents-itself : (disk : Disk) (sector : ℕ) (new : List ℕ) → IsWhole disk
    → sector < disk.sector_count → length new ≡ 512 → IsSectorContents (written sector new disk) sector new
IsSectorContents-itself disk sector new whole within long =
    (elim disk.contents as (λ t. IfSome t (λ b. length b ≡ 512 * disk.sector_count)
    → IfSome (option_map (λ b. with_sector b sector new) t) (λ b. new ≡ sector_of b sector)) [
      | None ↦ λ _. tt
      | Some b ↦ λ full. sym (sector_of-with_sector b sector new (omega arith) long)
    ]) whole

-- a sector that isn't found has no entry
none_of : (sector : ℕ) (entries : List (ℕ × List ℕ)) → lookup (nat_eq sector) entries ≡ None
    → (entry : ℕ × List ℕ) → Contains entries entry → entry.0 ≢ sector
none_of sector [] none entry within same = absurd (Contains-nil entry within)
none_of sector (first ∷ rest) none entry within same =
    (elim (nat_eq sector first.0) as (λ b. nat_eq sector first.0 ≡ b → ⊥) [
      | true ↦ λ is. let never = rw is at none in cc
      | false ↦ λ is. elim (Contains-cons first rest entry within) [
        | inl here ↦ let never : false ≡ true = sym is
            ∙ eq-eqb sector first.0 (sym (ap (λ e. e.0) here ∙ same)) in cc
        | inr there ↦ none_of sector rest (rw is at none) entry there same
      ]
    ]) refl

-- nothing kept is coherent
pub coherent_none : (disk : Disk) (kept : LruCache ℕ (List ℕ)) (cap : ℕ) → kept ≡ lru_cache [] cap
    → IsCoherent disk kept
coherent_none disk kept cap is =
    rw is (record { contents = λ entry within. absurd (Contains-nil entry within) })

-- what is found is what the disk holds
pub contents_found : (disk : Disk) (kept : LruCache ℕ (List ℕ)) (sector : ℕ) (bytes : List ℕ)
    → IsCoherent disk kept → lookup (nat_eq sector) kept.entries ≡ Some bytes
    → IsSectorContents disk sector bytes
contents_found disk kept sector bytes coherent found =
    coherent.contents (sector, bytes) (Contains-from_lookup eqb-true sector bytes kept.entries found)

module _ (sector : ℕ) (disk : Disk) (old new : LruCache ℕ (List ℕ)) where
  -- the order doesn't matter
  pub coherent_used : new ≡ lru_cache (promoted (nat_eq sector) old.entries) old.cap → IsCoherent disk old
      → IsCoherent disk new
  coherent_used is coherent =
      rw is (record {
        contents = λ entry within. coherent.contents entry
            (Contains-promoted (nat_eq sector) old.entries entry within);
      })

  -- less that is kept is coherent too
  pub coherent_forgotten : new ≡ lru_cache (remove_entry (nat_eq sector) old.entries) old.cap
      → IsCoherent disk old → IsCoherent disk new
  coherent_forgotten is coherent =
      rw is (record {
        contents = λ entry within. coherent.contents entry
            (Contains-remove_entry (nat_eq sector) old.entries entry within);
      })

  coherent_first : (bytes : List ℕ) → IsSectorContents disk sector bytes → IsCoherent disk old
      → IsCoherent disk (with_first sector bytes old)
  coherent_first bytes contents coherent = record {
    contents = λ entry within. elim
        (Contains-cons (sector, bytes) (take (old.cap - 1) old.entries) entry within) [
          | inl here ↦ subst (λ e. IsSectorContents disk e.0 e.1) here contents
          | inr there ↦ coherent.contents entry (Contains-take (old.cap - 1) old.entries entry there)
        ];
  }

  -- these bytes of a sector are kept too, or aren't
  pub coherent_kept : (bytes : List ℕ) → MayKeep sector bytes old new → IsSectorContents disk sector bytes
      → IsCoherent disk old → IsCoherent disk new
  coherent_kept bytes may contents coherent = elim may.either [
    | inl is ↦ rw is (coherent_first bytes contents coherent)
    | inr is ↦ rw is coherent
  ]

module _ (disk after : Disk) (kept : LruCache ℕ (List ℕ)) where
  -- a read that succeeds, and one that fails
  pub coherent_read : after ≡ disk → IsCoherent disk kept → IsCoherent after kept
  coherent_read is coherent = rw is coherent

  pub coherent_failed : after ≡ failed disk → IsCoherent disk kept → IsCoherent after kept
  coherent_failed is coherent = rw is (record { contents = coherent.contents })

module _ (sector : ℕ) (disk after : Disk) (kept : LruCache ℕ (List ℕ)) where
  -- a write of a sector of which nothing is kept, that succeeds, and one that fails
  pub coherent_written : (new : List ℕ) → after ≡ written sector new disk
      → lookup (nat_eq sector) kept.entries ≡ None → IsCoherent disk kept → IsWhole disk
      → sector < disk.sector_count → length new ≡ 512 → IsCoherent after kept
  coherent_written new is none coherent whole within long = rw is (record {
    contents = λ entry there.
        IsSectorContents-other disk sector new whole within long entry.0 entry.1
        (λ same. none_of sector kept.entries none entry there (sym same)) (coherent.contents entry there);
  })

  pub coherent_torn : IsTorn sector disk after → lookup (nat_eq sector) kept.entries ≡ None
      → IsCoherent disk kept → IsWhole disk → sector < disk.sector_count → IsCoherent after kept
  coherent_torn torn none coherent whole within = rw torn.torn (record {
    contents = λ entry there.
        IsSectorContents-other disk sector torn.left whole within torn.whole entry.0 entry.1
        (λ same. none_of sector kept.entries none entry there (sym same)) (coherent.contents entry there);
  })

  -- whichever way it ends
  pub coherent_unkept : {X E : Type 0} (result : Result X E) (new : List ℕ)
      → OnOk result (after ≡ written sector new disk) → OnErr result (IsTorn sector disk after)
      → lookup (nat_eq sector) kept.entries ≡ None → IsCoherent disk kept → IsWhole disk
      → sector < disk.sector_count → length new ≡ 512 → IsCoherent after kept
  coherent_unkept (Ok _) new ok err none coherent whole within long =
      coherent_written new ok none coherent whole within long
  coherent_unkept (Err _) new ok err none coherent whole within long =
      coherent_torn err none coherent whole within

-- a sector holds what was written
pub contents_written : (sector : ℕ) (disk after : Disk) (new : List ℕ) → after ≡ written sector new disk
    → IsWhole disk → sector < disk.sector_count → length new ≡ 512 → IsSectorContents after sector new
contents_written sector disk after new is whole within long =
    rw is (IsSectorContents-itself disk sector new whole within long)

-- and as it was read
pub contents_read : (sector : ℕ) (disk after : Disk) (bytes : List ℕ) → after ≡ disk
    → IsSectorContents disk sector bytes → IsSectorContents after sector bytes
contents_read sector disk after bytes is contents = rw is contents

-- how many bytes whole sectors have
pub contents_length : (disk : Disk) (first count : ℕ) (lent : List ℕ) → IsWhole disk
    → first + count ≤ disk.sector_count
    → Tells disk first count lent → length lent ≡ 512 * count
contents_length disk first count lent whole within contents =
    (elim disk.contents as (λ t. IfSome t (λ b. length b ≡ 512 * disk.sector_count)
    → IsSomeAnd t (λ b. lent ≡ extent_of b first count) → length lent ≡ 512 * count) [
      | None ↦ λ _ never. absurd never
      | Some b ↦ λ full is. ap length is ∙ length-extent_of b first count (omega (arith, full, within))
    ]) whole contents

-- the first of them, where it is the only one
pub contents_first : (disk : Disk) (sector : ℕ) (lent first : List ℕ) → IsWhole disk
    → sector + 1 ≤ disk.sector_count
    → Tells disk sector 1 lent → first ≡ take 512 lent → Tells disk sector 1 first
contents_first disk sector lent first whole within contents is =
    let long : length lent ≡ 512 = contents_length disk sector 1 lent whole within contents in
    subst (Tells disk sector 1) (sym (is ∙ take_all 512 lent (omega (arith, long)))) contents

-- as a slice's first chunk
pub contents_chunk : {X : Type 0} (chunk : Option X) (now : X → List ℕ) (Short : Type 0) (Is : X → Type 0)
    (disk : Disk) (sector : ℕ) (lent : List ℕ)
    → MatchOption chunk Short Is → ((x : X) → Is x → now x ≡ take 512 lent) → IsWhole disk
    → sector + 1 ≤ disk.sector_count
    → Tells disk sector 1 lent → IfSome chunk (λ x. Tells disk sector 1 (now x))
contents_chunk None now Short Is disk sector lent is first whole within contents = tt
contents_chunk (Some x) now Short Is disk sector lent is first whole within contents =
    contents_first disk sector lent (now x) whole within contents (first x is)
