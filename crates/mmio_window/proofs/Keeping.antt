-- What chains keep one after another, of what each of them keeps.
use Rattle.std.proofs.Common.{List, [], ◌∷◌, ◌++◌, refl}
use Rattle.mmio_window.specs.Leaving.{IsKept, KeepsAlong, Moment}

module _ {D B : Type 0} (Keeps : D → B → D → B → Type 0) where
  -- no chain
  pub kept_none : (d : D) (b : B) → IsKept Keeps d b d b
  kept_none d b = record { moments = []; along = (refl, refl) }

  -- one more
  along_more : (d d' d'' : D) (b b' b'' : B) (moments : List (Moment D B))
      → KeepsAlong Keeps d b moments d' b' → Keeps d' b' d'' b''
      → KeepsAlong Keeps d b (moments ++ record { device = d''; backend = b'' } ∷ []) d'' b''
  along_more d d' d'' b b' b'' [] same keeps = (rw (same.0, same.1) at keeps, (refl, refl))
  along_more d d' d'' b b' b'' (m ∷ later) along keeps =
      (along.0, along_more m.device d' d'' m.backend b' b'' later along.1 keeps)

  pub kept_more : (d d' d'' : D) (b b' b'' : B) → IsKept Keeps d b d' b' → Keeps d' b' d'' b''
      → IsKept Keeps d b d'' b''
  kept_more d d' d'' b b' b'' kept keeps = record {
    moments = kept.moments ++ record { device = d''; backend = b'' } ∷ [];
    along = along_more d d' d'' b b' b'' kept.moments kept.along keeps;
  }

  -- what no chain changes, and two keep that each keep it, a piece keeps
  module _ (R : D → B → D → B → Type 0) (none : (d : D) (b : B) → R d b d b)
      (more : (d d' d'' : D) (b b' b'' : B) → Keeps d b d' b' → R d' b' d'' b'' → R d b d'' b'') where
    along_all : (d d' : D) (b b' : B) (moments : List (Moment D B))
        → KeepsAlong Keeps d b moments d' b' → R d b d' b'
    along_all d d' b b' [] same = rw (same.0, same.1) (none d b)
    along_all d d' b b' (m ∷ later) along =
        more d m.device d' b m.backend b' along.0 (along_all m.device d' m.backend b' later along.1)

    pub kept_all : (d d' : D) (b b' : B) → IsKept Keeps d b d' b' → R d b d' b'
    kept_all d d' b b' kept = along_all d d' b b' kept.moments kept.along
