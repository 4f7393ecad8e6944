-- What a stop may leave, through one call after another.
use Rattle.std.proofs.Common.{◌≡◌, ℕ, zero, suc, ◌+◌, ◌-◌, ◌*◌, ◌<◌, ◌≤◌, inl, inr, ◌⊎◌, ⊎_elim, List, ◌++◌, length, take, drop, Option, None, Some, refl, sym, ◌∙◌, ap, subst, arith}
use Rattle.std.specs.Prelude.{false, Contains, IfSome, ⊤}
use Rattle.std.proofs.Math.Seq.{take-add}
use Rattle.std.proofs.lemmas.Bool.{cases_lt}
use Rattle.std.proofs.lemmas.List.{drop-drop, drop-take, drop_at, length-take-le, take-take, take_all, take_at}
use Rattle.sector_cache.specs.Disk.{Disk, LeavesContents}
use Rattle.sector_cache.specs.Sector.{extent_of, sector_of, with_sector, with_sectors}
use Rattle.sector_cache.specs.Stop.{BeginsAt, DiffersInSectors, DiffersWithin, IsCutBy, Only, Touches, TouchesBy}

-- Bytes that differ within a range.

pub differs_none : (start end : ℕ) (bytes : List ℕ) → DiffersWithin start end bytes bytes
differs_none start end bytes = record { before = refl; behind = refl }

-- bytes that differ within no range are the same
pub differs_nowhere : (old new : List ℕ) → DiffersWithin 0 0 old new → new ≡ old
differs_nowhere old new d = d.behind

pub differs_more : (start end : ℕ) (a b c : List ℕ) → DiffersWithin start end a b
    → DiffersWithin start end b c → DiffersWithin start end a c
differs_more start end a b c p q = record { before = q.before ∙ p.before; behind = q.behind ∙ p.behind }

-- a wider range
pub differs_wider : (start end from to : ℕ) (old new : List ℕ) → start ≤ from → to ≤ end
    → DiffersWithin from to old new → DiffersWithin start end old new
differs_wider start end from to old new before behind d = record {
  before = sym (take-take start from new before) ∙ ap (take start) d.before ∙ take-take start from old before;
  behind =
      ap (λ n. drop n new) (let e : end ≡ to + (end - to) = omega (arith, behind) in e)
      ∙ sym (drop-drop (end - to) to new)
      ∙ ap (drop (end - to)) d.behind
      ∙ drop-drop (end - to) to old
      ∙ ap (λ n. drop n old) (let e : to + (end - to) ≡ end = omega (arith, behind) in e);
}

-- a write of sectors in place
pub differs_sectors : (bytes : List ℕ) (first : ℕ) (new : List ℕ) → 512 * first + length new ≤ length bytes
    → DiffersWithin (512 * first) (512 * first + length new) bytes (with_sectors bytes first new)
differs_sectors bytes first new inside =
    let front = take (512 * first) bytes in
    let rest = drop (512 * first + length new) bytes in
    let front_long : length front ≡ 512 * first =
    length-take-le (512 * first) bytes (omega (arith, inside)) in
    record {
      before = take_at front (new ++ rest) (512 * first) front_long;
      behind =
          sym (drop-drop (length new) (512 * first) (with_sectors bytes first new))
          ∙ ap (drop (length new)) (drop_at front (new ++ rest) (512 * first) front_long)
          ∙ drop_at new rest (length new) refl;
    }

-- a write of a sector
pub differs_sector : (bytes : List ℕ) (sector : ℕ) (new : List ℕ) → 512 * (sector + 1) ≤ length bytes
    → length new ≡ 512 → DiffersWithin (512 * sector) (512 * (sector + 1)) bytes
    (with_sector bytes sector new)
differs_sector bytes sector new inside whole =
    let end : 512 * sector + length new ≡ 512 * (sector + 1) = omega (arith, whole) in
    subst (λ n. DiffersWithin (512 * sector) n bytes (take (512 * sector) bytes ++ (new ++ drop n bytes))) end
    (differs_sectors bytes sector new (omega (arith, inside, whole)))

-- an extent that is apart from the range
pub extent_apart : (start end first count : ℕ) (old new : List ℕ) → DiffersWithin start end old new
    → (512 * (first + count) ≤ start) ⊎ (end ≤ 512 * first)
    → extent_of new first count ≡ extent_of old first count
extent_apart start end first count old new d (inl before) =
    let wider = differs_wider (512 * first + 512 * count) end start end old new
    (omega (arith, before)) (omega arith) d in
    sym (drop-take (512 * first) (512 * count) new)
    ∙ ap (drop (512 * first)) wider.before
    ∙ drop-take (512 * first) (512 * count) old
extent_apart start end first count old new d (inr behind) =
    ap (take (512 * count)) (differs_wider start (512 * first) start end old new
    (omega arith) behind d).behind

-- Bytes that differ in some sectors.

module _ (sectors : List ℕ) where
  pub differs_in_none : (bytes : List ℕ) → DiffersInSectors sectors bytes bytes
  differs_in_none bytes = record { others = λ sector other. refl }

  pub differs_in_more : (a b c : List ℕ) → DiffersInSectors sectors a b → DiffersInSectors sectors b c
      → DiffersInSectors sectors a c
  differs_in_more a b c p q =
      record { others = λ sector other. q.others sector other ∙ p.others sector other }

  -- of more sectors
  pub differs_in_wider : (wider : List ℕ) → ((sector : ℕ) → Contains sectors sector → Contains wider sector)
      → (old new : List ℕ)
      → DiffersInSectors sectors old new → DiffersInSectors wider old new
  differs_in_wider wider all old new d =
      record { others = λ sector other. d.others sector (λ here. other (all sector here)) }

  -- the range is a run of them
  pub differs_in_run : (first n size : ℕ) → size ≡ 512 * n → ((k : ℕ) → k < n → Contains sectors (first + k))
      → (old new : List ℕ)
      → DiffersWithin (512 * first) (512 * first + size) old new → DiffersInSectors sectors old new
  differs_in_run first n size whole listed old new d = record { others = same }
    where
      same : (other : ℕ) → ¬ Contains sectors other → sector_of new other ≡ sector_of old other
      same other unlisted =
          elim (cases_lt other first) [
            | inl before ↦ extent_apart (512 * first) (512 * first + size) other 1 old new d
                (inl (omega (arith, before)))
            | inr from ↦
                elim (cases_lt other (first + n)) [
                  | inl below ↦
                      let here : first + (other - first) ≡ other = omega (arith, from) in
                      absurd (unlisted (subst (λ s. Contains sectors s) here
                      (listed (other - first) (omega (arith, from, below)))))
                  | inr behind ↦
                      extent_apart (512 * first) (512 * first + size) other 1 old new d
                      (inr (omega (arith, behind, whole)))
                ]
          ]

  -- the range is one of them
  pub differs_in_one : (sector : ℕ) → Contains sectors sector → (old new : List ℕ)
      → DiffersWithin (512 * sector) (512 * (sector + 1)) old new → DiffersInSectors sectors old new
  differs_in_one sector listed old new d =
      let end : 512 * (sector + 1) ≡ 512 * sector + 512 = omega arith in
      differs_in_run sector 1 512 refl here old new
      (subst (λ n. DiffersWithin (512 * sector) n old new) end d)
    where
      here : (k : ℕ) → k < 1 → Contains sectors (sector + k)
      here k below =
          let same : sector ≡ sector + k = omega (arith, below) in
          subst (λ s. Contains sectors s) same listed

-- fronts of which each sector is the same
fronts_same : (old new : List ℕ) (n : ℕ)
    → ((sector : ℕ) → sector < n → sector_of new sector ≡ sector_of old sector)
    → take (512 * n) new ≡ take (512 * n) old
fronts_same old new zero each = refl
fronts_same old new (suc n) each =
    let more : 512 * suc n ≡ 512 * n + 512 = omega arith in
    ap (λ k. take k new) more
    ∙ take-add (512 * n) 512 new
    ∙ ap (λ front. front ++ sector_of new n)
    (fronts_same old new n (λ sector below. each sector (omega (arith, below))))
    ∙ ap (λ rest. take (512 * n) old ++ rest) (each n (omega arith))
    ∙ sym (take-add (512 * n) 512 old)
    ∙ ap (λ k. take k old) (sym more)

-- and so of what is behind them
rests_same : (old new : List ℕ) (from : ℕ)
    → ((sector : ℕ) → from ≤ sector → sector_of new sector ≡ sector_of old sector)
    → drop (512 * from) new ≡ drop (512 * from) old
rests_same old new from each =
    let n = length (drop (512 * from) old) + length (drop (512 * from) new) in
    sym (take_all (512 * n) (drop (512 * from) new) (omega arith))
    ∙ fronts_same (drop (512 * from) old) (drop (512 * from) new) n
    (λ sector below. moved new sector ∙ each (from + sector) (omega arith) ∙ sym (moved old sector))
    ∙ take_all (512 * n) (drop (512 * from) old) (omega arith)
  where
    moved : (bytes : List ℕ) (sector : ℕ)
        → sector_of (drop (512 * from) bytes) sector ≡ sector_of bytes (from + sector)
    moved bytes sector =
        ap (take 512) (drop-drop (512 * sector) (512 * from) bytes ∙ ap (λ k. drop k bytes)
        (let e : 512 * from + 512 * sector ≡ 512 * (from + sector) = omega arith in e))

-- sectors of a range
pub differs_in_range : (start end : ℕ) (sectors : List ℕ)
    → ((sector : ℕ) → Contains sectors sector → (start ≤ sector) × (sector < end)) → (old new : List ℕ)
    → DiffersInSectors sectors old new → DiffersWithin (512 * start) (512 * end) old new
differs_in_range start end sectors inside old new d = record {
  before = fronts_same old new start (λ sector below. d.others sector
      (λ here. let from = (inside sector here).0 in omega (arith, from, below)));
  behind = rests_same old new end (λ sector from. d.others sector
      (λ here. let below = (inside sector here).1 in omega (arith, from, below)));
}

-- What is touched, as seen of what may differ there as well.

module _ {Differs Wider : List ℕ → List ℕ → Type 0} (widen : (old new : List ℕ) → Differs old new
    → Wider old new) where
  cut_as : (a : List ℕ → Type 0) (left : List ℕ) → IsCutBy Differs a left → IsCutBy Wider a left
  cut_as a left cut = record { whole = cut.whole; may = cut.may; within = widen cut.whole left cut.within }

  pub touches_as : {t u : ℕ} {a b : List ℕ → Type 0} {p q : ℕ → List ℕ → Type 0}
      → TouchesBy Differs t u a b p q → TouchesBy Wider t u a b p q
  touches_as {t} {u} {a} {b} {p} {q} h = record {
    later = h.later;
    keeps = h.keeps;
    now = λ left may. cut_as a left (h.now left may);
    between = λ since left past. ⊎_elim (λ sooner. inl sooner) (λ cut. inr (cut_as a left cut))
        (h.between since left past);
  }

-- No call, and what touches nothing.

module _ (Differs : List ℕ → List ℕ → Type 0) (same : (bytes : List ℕ) → Differs bytes bytes) where
  cut_none_by : (a : List ℕ → Type 0) (left : List ℕ) → a left → IsCutBy Differs a left
  cut_none_by a left may = record { whole = left; may = may; within = same left }

  pub touches_none_by : {moment : ℕ} {may_leave : List ℕ → Type 0} {left_since : ℕ → List ℕ → Type 0}
      → TouchesBy Differs moment moment may_leave may_leave left_since left_since
  touches_none_by {moment} {may_leave} {left_since} = record {
    later = omega arith;
    keeps = λ since left reached past. past;
    now = λ left may. cut_none_by may_leave left may;
    between = λ since left past. inl past;
  }

  pub touches_nothing_by : {t u : ℕ} {a b : List ℕ → Type 0} {p q : ℕ → List ℕ → Type 0}
      → Touches 0 0 t u a b p q → TouchesBy Differs t u a b p q
  touches_nothing_by h = touches_as
      (λ old new d. subst (λ bytes. Differs old bytes) (sym (differs_nowhere old new d)) (same old)) h

  begun : {t u : ℕ} {a b : List ℕ → Type 0} {p q : ℕ → List ℕ → Type 0} (since : ℕ) (left : List ℕ)
      → TouchesBy Differs t u a b p q → BeginsAt a p since → q since left → IsCutBy Differs a left
  begun {t} {u} {a} {b} {p} {q} since left h begins past =
      ⊎_elim (λ sooner. cut_none_by a left (begins left sooner)) (λ cut. cut) (h.between since left past)

  -- Where a stop could leave these bytes alone it leaves them but for what may differ.
  pub known_by : {t u : ℕ} {a b : List ℕ → Type 0} {p q : ℕ → List ℕ → Type 0} (since : ℕ)
      (bytes left : List ℕ)
      → TouchesBy Differs t u a b p q → BeginsAt a p since → Only bytes a → q since left → Differs bytes left
  known_by {t} {u} {a} {b} {p} {q} since bytes left h begins only past =
      let cut : IsCutBy Differs a left = begun since left h begins past in
      subst (λ whole. Differs whole left) (only cut.whole cut.may) cut.within

  -- Of a clean disk a stop leaves the contents but for that.
  pub contents_by : {t u : ℕ} {a b : List ℕ → Type 0} {p q : ℕ → List ℕ → Type 0} (disk : Disk) (since : ℕ)
      (left : List ℕ) → TouchesBy Differs t u a b p q → BeginsAt a p since
      → ((whole : List ℕ) → a whole → LeavesContents disk whole) → disk.dirty ≡ false → q since left
      → IfSome disk.contents (λ bytes. Differs bytes left)
  contents_by {t} {u} {a} {b} {p} {q} disk since left h begins durable clean past =
      let cut : IsCutBy Differs a left = begun since left h begins past in
      beside disk.contents (durable cut.whole cut.may clean) cut.within
    where
      beside : {whole : List ℕ} (contents : Option (List ℕ)) → IfSome contents (λ bytes. whole ≡ bytes)
          → Differs whole left → IfSome contents (λ bytes. Differs bytes left)
      beside None is within = tt
      beside (Some bytes) is within = subst (λ bytes. Differs bytes left) is within

-- One call after another.

module _ (Differs : List ℕ → List ℕ → Type 0) (on : (a b c : List ℕ) → Differs a b → Differs b c
    → Differs a c) where
  cut_more_by : (a b : List ℕ → Type 0) → ((left : List ℕ) → b left → IsCutBy Differs a left)
      → (left : List ℕ) → IsCutBy Differs b left → IsCutBy Differs a left
  cut_more_by a b before left cut =
      let first = before cut.whole cut.may in
      record {
        whole = first.whole;
        may = first.may;
        within = on first.whole cut.whole left first.within cut.within;
      }

  -- one more
  pub touches_more_by : {t u v : ℕ} {a b c : List ℕ → Type 0} {p q r : ℕ → List ℕ → Type 0}
      → TouchesBy Differs t u a b p q → TouchesBy Differs u v b c q r → TouchesBy Differs t v a c p r
  touches_more_by {t} {u} {v} {a} {b} {c} {p} {q} {r} before after = record {
    later = omega (arith, before.later, after.later);
    keeps = λ since left reached past. after.keeps since left (omega (arith, reached, before.later))
        (before.keeps since left reached past);
    now = λ left may. cut_more_by a b before.now left (after.now left may);
    between = λ since left past. ⊎_elim (λ sooner. before.between since left sooner)
        (λ cut. inr (cut_more_by a b before.now left cut)) (after.between since left past);
  }

-- The same of a range.

module _ (start end : ℕ) where
  -- no call
  pub touches_none : {moment : ℕ} {may_leave : List ℕ → Type 0} {left_since : ℕ → List ℕ → Type 0}
      → Touches start end moment moment may_leave may_leave left_since left_since
  touches_none = touches_none_by (DiffersWithin start end) (differs_none start end)

  -- one more
  pub touches_more : {t u v : ℕ} {a b c : List ℕ → Type 0} {p q r : ℕ → List ℕ → Type 0}
      → Touches start end t u a b p q → Touches start end u v b c q r → Touches start end t v a c p r
  touches_more before after = touches_more_by (DiffersWithin start end) (differs_more start end) before after

  -- as seen of a wider range
  pub touches_wider : {from to t u : ℕ} {a b : List ℕ → Type 0} {p q : ℕ → List ℕ → Type 0} → start ≤ from
      → to ≤ end → Touches from to t u a b p q → Touches start end t u a b p q
  touches_wider {from} {to} before behind h =
      touches_as (λ old new d. differs_wider start end from to old new before behind d) h

  -- what touches nothing, as seen of any range
  pub touches_anywhere : {t u : ℕ} {a b : List ℕ → Type 0} {p q : ℕ → List ℕ → Type 0}
      → Touches 0 0 t u a b p q → Touches start end t u a b p q
  touches_anywhere h = touches_nothing_by (DiffersWithin start end) (differs_none start end) h

  -- an image of which a stop leaves these bytes, and which keeps no record
  pub touches_plain : (old new : List ℕ) → DiffersWithin start end old new
      → Touches start end 0 0 (λ left. left ≡ old) (λ left. left ≡ new) (λ _ _. ⊤) (λ _ _. ⊤)
  touches_plain old new within = record {
    later = omega arith;
    keeps = λ since left reached past. tt;
    now = λ left is. record {
      whole = old;
      may = refl;
      within = subst (DiffersWithin start end old) (sym is) within;
    };
    between = λ since left past. inl tt;
  }

  -- and one of which nobody knows what a stop leaves
  pub touches_unknown : Touches start end 0 0 (λ _. ⊤) (λ _. ⊤) (λ _ _. ⊤) (λ _ _. ⊤)
  touches_unknown = record {
    later = omega arith;
    keeps = λ since left reached past. tt;
    now = λ left may. cut_none_by (DiffersWithin start end) (differs_none start end) (λ _. ⊤) left tt;
    between = λ since left past. inl tt;
  }

  -- where a stop could leave these bytes alone, and where the disk is clean
  pub known_beside : {t u : ℕ} {a b : List ℕ → Type 0} {p q : ℕ → List ℕ → Type 0} (since : ℕ)
      (bytes left : List ℕ) → Touches start end t u a b p q → BeginsAt a p since
      → Only bytes a → q since left → DiffersWithin start end bytes left
  known_beside since bytes left h begins only past = known_by (DiffersWithin start end)
      (differs_none start end) since bytes left h begins only past

  pub contents_beside : {t u : ℕ} {a b : List ℕ → Type 0} {p q : ℕ → List ℕ → Type 0} (disk : Disk)
      (since : ℕ) (left : List ℕ) → Touches start end t u a b p q → BeginsAt a p since
      → ((whole : List ℕ) → a whole → LeavesContents disk whole) → disk.dirty ≡ false → q since left
      → IfSome disk.contents (λ bytes. DiffersWithin start end bytes left)
  contents_beside disk since left h begins durable clean past = contents_by (DiffersWithin start end)
      (differs_none start end) disk since left h begins durable clean past

-- such an image after a write of a sector
pub touches_plain_sector : (sector : ℕ) (from old new : List ℕ) → new ≡ with_sector old sector from
    → 512 * (sector + 1) ≤ length old → length from ≡ 512
    → Touches (512 * sector) (512 * (sector + 1)) 0 0 (λ left. left ≡ old) (λ left. left ≡ new)
    (λ _ _. ⊤) (λ _ _. ⊤)
touches_plain_sector sector from old new is inside whole =
    touches_plain (512 * sector) (512 * (sector + 1)) old new
    (subst (DiffersWithin (512 * sector) (512 * (sector + 1)) old) (sym is)
    (differs_sector old sector from inside whole))

-- and after a write of sectors in place
pub touches_plain_sectors : (first : ℕ) (from old new : List ℕ) → new ≡ with_sectors old first from
    → 512 * first + length from ≤ length old
    → Touches (512 * first) (512 * first + length from) 0 0 (λ left. left ≡ old) (λ left. left ≡ new)
    (λ _ _. ⊤) (λ _ _. ⊤)
touches_plain_sectors first from old new is inside =
    touches_plain (512 * first) (512 * first + length from) old new
    (subst (DiffersWithin (512 * first) (512 * first + length from) old) (sym is)
    (differs_sectors old first from inside))
