-- What a cache keeps of its image: the bytes of some sectors, the most recently used first.
use Rattle.std.specs.Prelude.{◌≡◌, ℕ, ◌-◌, ◌⊎◌, List, ◌∷◌, take, Contains}
use Rattle.lru.specs.LruCache.{LruCache, lru_cache}
use Rattle.sector_cache.specs.Disk.{Disk, IsSectorContents}

-- what is kept of a sector is what the disk holds there
pub record IsCoherent (disk : Disk) (kept : LruCache ℕ (List ℕ)) : Type 0 where
  pub contents : (entry : ℕ × List ℕ) → Contains kept.entries entry → IsSectorContents disk entry.0 entry.1

-- these bytes of a sector come first, and where no more may be kept the last, the least recently used, gives
-- way
abbrev pub with_first : ℕ → List ℕ → LruCache ℕ (List ℕ) → LruCache ℕ (List ℕ)
with_first sector bytes kept = lru_cache ((sector, bytes) ∷ take (kept.cap - 1) kept.entries) kept.cap

-- these bytes of a sector are kept; or there was no memory for them, and nothing changes
pub record MayKeep (sector : ℕ) (bytes : List ℕ) (old new : LruCache ℕ (List ℕ)) : Type 0 where
  pub either : (new ≡ with_first sector bytes old) ⊎ (new ≡ old)
