-- What the calls of an image over a medium with a write cache touch, and what they record.
use Rattle.std.proofs.Common.{◌≡◌, inl, inr, ◌⊎◌, ℕ, ◌+◌, ◌*◌, ◌≤◌, ◌<◌, Bool, true, false, List, [], ◌∷◌, ◌++◌, length, sym, subst}
use Rattle.std.specs.Bool.{OnFalse}
use Rattle.std.proofs.Math.ListN.{set}
use Rattle.sector_cache.specs.Sector.{with_sector}
use Rattle.sector_cache.specs.Stop.{IsCut, Touches}
use Rattle.sector_cache.proofs.Stops.{differs_none}
use Rattle.test_support.specs.Past.{Since, from_1}
use Rattle.test_support.specs.WriteBack.{HasRecorded, MayStand, is_dirty, left_since_of, may_leave_of, might_leave_of, number_of}
use Rattle.test_support.specs.declared.write_back_image.Moment.{Moment}
use Rattle.test_support.specs.declared.write_back_image.WriteBackImage.{WriteBackImage}
use Rattle.test_support.proofs.Recorded.{numbered, recorded, unnumbered, unrecorded, widened}
use Rattle.test_support.proofs.WriteBacks.{flushed, widens, wrote}

module _ {A : Type 0} (past : List (Moment A)) (read : List ℕ) (waiting : List Bool) where
  -- a write
  pub write_touches : (later new : List ℕ) (sector : ℕ) → 512 * (sector + 1) ≤ length read → length new ≡ 512
      → sector < length waiting → later ≡ with_sector read sector new
      → Touches (512 * sector) (512 * (sector + 1)) (length past) (length past) (MayStand read waiting)
      (MayStand later (set waiting sector true)) (Since might_leave_of (MayStand read waiting) past)
      (Since might_leave_of (MayStand later (set waiting sector true)) past)
  write_touches later new sector inside whole there is =
      subst (λ r. Touches (512 * sector) (512 * (sector + 1)) (length past) (length past)
      (MayStand read waiting) (MayStand r (set waiting sector true))
      (Since might_leave_of (MayStand read waiting) past)
      (Since might_leave_of (MayStand r (set waiting sector true)) past)) (sym is)
      (widened might_leave_of (512 * sector) (512 * (sector + 1)) (MayStand read waiting)
      (MayStand (with_sector read sector new) (set waiting sector true))
      (λ left may. wrote read new left waiting sector inside whole may) past
      (λ left may. widens read new left waiting sector inside whole there may))

  module _ (later : List ℕ) (none : List Bool) (same : later ≡ read) (clean : is_dirty none ≡ false) where
    flush_cuts : (left : List ℕ) → MayStand later none left → IsCut 0 0 (MayStand read waiting) left
    flush_cuts left may = record {
      whole = left;
      may = flushed read left waiting none clean (subst (λ r. MayStand r none left) same may);
      within = differs_none 0 0 left;
    }

    -- a flush before which this moment was recorded
    pub flush_touches : (moment : Moment A) (more : List (Moment A)) → moment.bytes.items ≡ read
        → moment.waiting.items ≡ waiting → more ≡ past ++ moment ∷ []
        → Touches 0 0 (length past) (length more) (MayStand read waiting) (MayStand later none)
        (Since might_leave_of (MayStand read waiting) past) (Since might_leave_of (MayStand later none) more)
    flush_touches moment more bytes waits last =
        recorded might_leave_of 0 0 (MayStand read waiting) (MayStand later none) flush_cuts past more moment
        (λ left may. subst (λ r. MayStand r moment.waiting.items left) (sym bytes)
        (subst (λ w. MayStand read w left) (sym waits) may))
        (λ left may. subst (λ w. MayStand read w left) waits
        (subst (λ r. MayStand r moment.waiting.items left) bytes may))
        last

    -- and one of which nothing was recorded
    pub lost_touches : (more : List (Moment A)) → more ≡ past
        → Touches 0 0 0 0 (MayStand read waiting) (MayStand later none)
        (from_1 (Since might_leave_of (MayStand read waiting) past))
        (from_1 (Since might_leave_of (MayStand later none) more))
    lost_touches more is =
        subst (λ l. Touches 0 0 0 0 (MayStand read waiting) (MayStand later none)
        (from_1 (Since might_leave_of (MayStand read waiting) past))
        (from_1 (Since might_leave_of (MayStand later none) l))) (sym is)
        (unrecorded might_leave_of 0 0 (MayStand read waiting) (MayStand later none) flush_cuts past)

-- ---- a flush, as the image makes it

module _ {A : Type 0} (old : WriteBackImage A) (more : List (Moment A)) (later : List ℕ) (none : List Bool)
    (same : later ≡ old.memory.bytes.items) (clean : is_dirty none ≡ false) where
  taken : HasRecorded old more → Touches 0 0 (length old.past.items) (length more) (may_leave_of old)
      (MayStand later none) (Since might_leave_of (may_leave_of old) old.past.items)
      (Since might_leave_of (MayStand later none) more)
  taken h = flush_touches old.past.items old.memory.bytes.items old.waiting.items later none same clean h.moment
      more h.bytes h.waiting h.last

  pub flush_recorded : (lost : Bool) → OnFalse lost (HasRecorded old more)
      → OnFalse lost (Touches 0 0 (number_of old) (length more + 1) (may_leave_of old) (MayStand later none)
      (left_since_of old) (from_1 (Since might_leave_of (MayStand later none) more)))
  flush_recorded true h = tt
  flush_recorded false h = numbered _ _ _ _ _ _ _ _ (taken h)

  pub flush_either : HasRecorded old more ⊎ (more ≡ old.past.items)
      → Touches 0 0 0 0 (may_leave_of old) (MayStand later none) (left_since_of old)
      (from_1 (Since might_leave_of (MayStand later none) more))
  flush_either (inl h) = unnumbered _ _ _ _ _ _ _ _ (taken h)
  flush_either (inr is) = lost_touches old.past.items old.memory.bytes.items old.waiting.items later none same
      clean more is
