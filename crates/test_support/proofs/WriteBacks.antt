-- What a stop may leave of an image over a medium with a write cache, through its calls.
use Rattle.std.proofs.Common.{◌≡◌, ◌≢◌, inl, inr, ℕ, zero, suc, ◌+◌, ◌*◌, ◌≤◌, ◌<◌, Bool, true, false, List, [], ◌∷◌, length, drop, replicate, unwrap_or, refl, sym, ◌∙◌, ap, subst, arith}
use Rattle.std.proofs.Math.ListN.{set}
use Rattle.std.proofs.lemmas.Bool.{cases_lt}
use Rattle.std.proofs.lemmas.List.{get_or-set_other, get_or-set_same, length-drop, length-take-le}
use Rattle.sector_cache.specs.Disk.{Disk}
use Rattle.sector_cache.specs.Sector.{sector_of, with_sector}
use Rattle.sector_cache.specs.Stop.{BeginsAt, IsCut, Only}
use Rattle.sector_cache.proofs.Sectors.{length-with_sector, sector_of-with_sector, sector_of-with_sector_other}
use Rattle.sector_cache.proofs.Stops.{differs_sector}
use Rattle.board.specs.Image.{bytes_of}
use Rattle.test_support.specs.Past.{Since, from_1, only_now}
use Rattle.test_support.specs.WriteBack.{MayStand, Waits, disk_of, durable, is_dirty, left_since_of, may_leave_of, might_leave_of, number_of}
use Rattle.test_support.specs.declared.write_back_image.WriteBackImage.{WriteBackImage}

-- what is read may stand
pub stands : (read left : List ℕ) (waiting : List Bool) → left ≡ read → MayStand read waiting left
stands read left waiting is = record {
  long = ap length is;
  settled = λ sector settled. ap (λ bytes. sector_of bytes sector) is;
}

-- a flush takes back what waited
pub flushed : (read left : List ℕ) (waiting none : List Bool) → is_dirty none ≡ false
    → MayStand read none left → MayStand read waiting left
flushed read left waiting none clean may =
    stands read left waiting (durable read left none (λ sector at. omega (arith, at.1)) clean may)

module _ (read new left : List ℕ) (waiting : List Bool) (sector : ℕ) (inside : 512 * (sector + 1) ≤ length read)
    (whole : length new ≡ 512) where
  other_waits : (other : ℕ) → other ≢ sector → Waits waiting other → Waits (set waiting sector true) other
  other_waits other apart waits = get_or-set_other waiting sector other true false apart ∙ waits

  -- A write leaves any bytes in its sector, and those that a stop before it may leave in the others.
  pub wrote : MayStand (with_sector read sector new) (set waiting sector true) left
      → IsCut (512 * sector) (512 * (sector + 1)) (MayStand read waiting) left
  wrote may =
      let d = differs_sector left sector (sector_of read sector) left_inside old_long in
      record {
        whole = with_sector left sector (sector_of read sector);
        may = record {
          long = length-with_sector left sector (sector_of read sector) left_inside old_long ∙ long;
          settled = same;
        };
        within = record { before = sym d.before; behind = sym d.behind };
      }
    where
      long : length left ≡ length read
      long = may.long ∙ length-with_sector read sector new inside whole

      left_inside : 512 * (sector + 1) ≤ length left
      left_inside = omega (arith, long, inside)

      old_long : length (sector_of read sector) ≡ 512
      old_long = length-take-le 512 (drop (512 * sector) read)
          (omega (arith, length-drop (512 * sector) read, inside))

      beside : (other : ℕ) → other ≢ sector → ¬ Waits waiting other
          → sector_of (with_sector left sector (sector_of read sector)) other ≡ sector_of read other
      beside other apart settled =
          sector_of-with_sector_other left sector (sector_of read sector) other left_inside old_long apart
          ∙ may.settled other (λ waits. settled
          (sym (get_or-set_other waiting sector other true false apart) ∙ waits))
          ∙ sector_of-with_sector_other read sector new other inside whole apart

      same : (other : ℕ) → ¬ Waits waiting other
          → sector_of (with_sector left sector (sector_of read sector)) other ≡ sector_of read other
      same other settled =
          elim (cases_lt other sector) [
            | inl below ↦ beside other (λ is. omega (arith, below, is)) settled
            | inr from ↦
                elim (cases_lt sector other) [
                  | inl above ↦ beside other (λ is. omega (arith, above, is)) settled
                  | inr to ↦
                      let here : sector ≡ other = omega (arith, from, to) in
                      subst (λ s. sector_of (with_sector left sector (sector_of read sector)) s
                      ≡ sector_of read s) here
                      (sector_of-with_sector left sector (sector_of read sector) (omega (arith, left_inside))
                      old_long)
                ]
          ]

  -- and takes nothing back
  pub widens : sector < length waiting → MayStand read waiting left
      → MayStand (with_sector read sector new) (set waiting sector true) left
  widens there may = record {
    long = may.long ∙ sym (length-with_sector read sector new inside whole);
    settled = λ other settled.
        let apart : other ≢ sector = λ is. settled (subst (Waits (set waiting sector true)) (sym is)
        (get_or-set_same waiting sector true false there)) in
        may.settled other (λ waits. settled (other_waits other apart waits))
        ∙ sym (sector_of-with_sector_other read sector new other inside whole apart);
  }

-- a sector waits that was written
pub one_waits : (waiting : List Bool) (sector : ℕ) → sector < length waiting
    → is_dirty (set waiting sector true) ≡ true
one_waits [] sector there = absurd (omega (arith, there))
one_waits (w ∷ rest) zero there = refl
one_waits (true ∷ rest) (suc sector) there = refl
one_waits (false ∷ rest) (suc sector) there = one_waits rest sector (omega (arith, there))

all_settled : (n : ℕ) → is_dirty (replicate n false) ≡ false
all_settled zero = refl
all_settled (suc n) = all_settled n

pub none_waits : (n : ℕ) (waiting : List Bool) → waiting ≡ replicate n false → is_dirty waiting ≡ false
none_waits n waiting is = ap is_dirty is ∙ all_settled n

abbrev with_dirty : Bool → Disk → Disk
with_dirty dirty disk = record disk { dirty = dirty }

-- what it is seen as where the image in memory is seen so, and this says whether a sector waits
pub disk_is : (waits dirty : Bool) (now then : Disk) → now ≡ then → waits ≡ dirty
    → record now { dirty = waits } ≡ record then { dirty = dirty }
disk_is waits dirty now then is dirty_is = ap (with_dirty waits) is ∙ ap (λ b. with_dirty b then) dirty_is

pub read_is : (now then : Disk) → now ≡ then → unwrap_or now.contents [] ≡ unwrap_or then.contents []
read_is now then is = ap (λ (d : Disk). unwrap_or d.contents []) is

-- ---- what the laws say

-- a stop may leave any bytes in a sector that waits
pub loses : (read : List ℕ) (waiting : List Bool) (sector : ℕ) (bytes : List ℕ) → Waits waiting sector
    → 512 * (sector + 1) ≤ length read → length bytes ≡ 512
    → MayStand read waiting (with_sector read sector bytes)
loses read waiting sector bytes waits inside whole = record {
  long = length-with_sector read sector bytes inside whole;
  settled = λ other settled. sector_of-with_sector_other read sector bytes other inside whole
      (λ same. settled (subst (Waits waiting) (sym same) waits));
}

-- as ones where zeros were read
pub ones : MayStand (replicate 512 0) (true ∷ []) (replicate 512 1)
ones = loses (replicate 512 0) (true ∷ []) 0 (replicate 512 1) refl (omega arith) refl

-- and of a clean image it leaves what was read
pub clean_only : {A : Type 0} (image : WriteBackImage A) → (disk_of image).dirty ≡ false
    → Only (bytes_of (disk_of image)) (may_leave_of image)
clean_only image clean left may =
    durable image.memory.bytes.items left image.waiting.items (λ sector at. omega (arith, at.1)) clean may

-- since the number of this moment nothing else might have been left
pub begins : {A : Type 0} (image : WriteBackImage A)
    → BeginsAt (may_leave_of image) (left_since_of image) (number_of image)
begins image left past =
    only_now might_leave_of (may_leave_of image) image.past.items left
    (subst (λ n. from_1 (Since might_leave_of (may_leave_of image) image.past.items) n left)
    (let e : length image.past.items + 1 ≡ suc (length image.past.items) = omega arith in e) past)
