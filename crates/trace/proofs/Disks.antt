-- The field of a slot's disk: of one that the host serves, and of one of the image with spare sectors.
use Rattle.std.proofs.Common.{◌≡◌, ◌≢◌, ℕ, zero, suc, List, ◌++◌, drop, refl, sym, ap, ◌∙◌, arith}
use Rattle.std.specs.Prelude.{codes}
use Rattle.board.specs.declared.spec.Backing.TheVariants.{Image, Host}
use Rattle.hexadecimal.specs.Fields.{IsNum}
use Rattle.hexadecimal.specs.Spelling.{num}
use Rattle.trace.specs.Spelling.{disk}
use Rattle.trace.specs.Words.{IsDiskField}

-- behind the word and a colon stands how many operations may be in flight
module _ (field digits : List ℕ) (depth : ℕ) (is : field ≡ codes "host:" ++ digits) where
  pub is_hosted_disk : IsNum 8 digits depth → IsDiskField field (Host depth) 0
  is_hosted_disk number = record {
    fits = record { depth = number.fits; wide = omega arith; beside = refl };
    spelled = is ∙ ap (λ (xs : List ℕ). codes "host:" ++ xs) number.spelled;
  }

  pub depth_behind : (spare : ℕ) → IsDiskField field (Host depth) spare → IsNum 8 digits depth
  depth_behind spare disk = record { fits = disk.fits.depth; spelled = ap (drop 5) (sym is ∙ disk.spelled) }

-- how a disk of the image is spelled beside spare sectors
pub spelled_beside : (spare : ℕ) → spare ≢ 0 → disk Image spare ≡ codes "image+" ++ num spare
spelled_beside zero some = absurd (some refl)
spelled_beside (suc n) some = refl

-- behind the word and a plus stands how many spare sectors there are
module _ (field digits : List ℕ) (spare : ℕ) (is : field ≡ codes "image+" ++ digits) (some : spare ≢ 0) where
  pub is_beside_spare : IsNum 64 digits spare → IsDiskField field Image spare
  is_beside_spare number = record {
    fits = record { depth = tt; wide = number.fits; beside = tt };
    spelled = is ∙ ap (λ (xs : List ℕ). codes "image+" ++ xs) number.spelled ∙ sym (spelled_beside spare some);
  }

  pub spare_behind : IsDiskField field Image spare → IsNum 64 digits spare
  spare_behind disk = record {
    fits = disk.fits.wide;
    spelled = ap (drop 6) (sym is ∙ disk.spelled ∙ spelled_beside spare some);
  }
