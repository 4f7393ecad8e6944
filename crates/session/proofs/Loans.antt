-- Lent bytes beside the regions that they are for: as many, in their order.
use Rattle.std.proofs.Common.{◌≡◌, ℕ, zero, suc, ◌<◌, ◌≤◌, ◌+◌, ◌-◌, List, [], ◌∷◌, ◌++◌, map, length, take, drop, get_or, sym, ap, ◌∙◌, arith, Vec}
use Rattle.std.specs.Prelude.{◌↔◌}
use Rattle.std.specs.Vec.{vec_items}
use Rattle.std.proofs.lemmas.List.{append_cancel_left, drop-drop, drop-map, get_or-map, length-drop, length-map, length-take, map-append, take-append-drop, take-map, take_all}
use Rattle.std.proofs.Math.Seq.{take-append_seam}
use Rattle.std.proofs.Math.ListN.{drop_of_length-le}
use Rattle.std.proofs.Math.ListN as list
use Rattle.std_alloc.specs.declared.vec.lodged.Lodged.{Lodged}
use Rattle.guest_memory.specs.declared.spec.RegionSpec.{RegionSpec}
use Rattle.board.specs.Lent.{all_regions}
use Rattle.session.specs.declared.guest.GuestSpec.{GuestSpec}
use Rattle.session.specs.Session.{slots_of}

-- how many bytes each region has
abbrev pub lens : List RegionSpec → List ℕ
lens regions = map (λ region. region.len) regions

-- ---- numbers beside the lengths of regions

pub same_at : (xs : List ℕ) (regions : List RegionSpec) (i past : ℕ) (none : RegionSpec) → xs ≡ lens regions
    → i < length regions → get_or xs i past ≡ (get_or regions i none).len
same_at xs regions i past none same few =
    ap (λ ns. get_or ns i past) same ∙ get_or-map (λ region. region.len) regions i none past few

-- those of a part of some items, which begins at a place
part_map : {X Y : Type 0} (f : X → Y) (xs : List X) (n k : ℕ)
    → map f (take n (drop k xs)) ≡ take n (drop k (map f xs))
part_map f xs n k = sym (take-map f n (drop k xs)) ∙ ap (take n) (sym (drop-map f k xs))

pub front_map : {X Y : Type 0} (f : X → Y) (xs : List X) (n k : ℕ)
    → map f (take n (take (length xs - k) (drop k xs))) ≡ take n (drop k (map f xs))
front_map f xs n k =
    ap (λ behind. map f (take n behind))
    (take_all (length xs - k) (drop k xs) (omega (arith, length-drop k xs)))
    ∙ part_map f xs n k

-- from a place on they are to be those that are wanted, of which the first are those of these regions
module _ (xs : List ℕ) (len k : ℕ) (is : length xs ≡ len) (regions : List RegionSpec) (want rest : List ℕ)
    (part : want ≡ lens regions ++ rest) (Whole : Type 0)
    (before : (k ≤ len) × (Whole ↔ (drop k xs ≡ want))) where
  -- where all are, the first are
  pub first_same : Whole → take (length regions) (drop k xs) ≡ lens regions
  first_same whole =
      ap (take (length regions)) (before.1.0 whole ∙ part)
      ∙ ap (λ m. take m (lens regions ++ rest)) (sym (length-map regions (λ region. region.len)))
      ∙ take-append_seam (lens regions) rest

  -- and where those are, all are if those behind them are
  pub rest_same : take (length regions) (drop k xs) ≡ lens regions
      → (k + length regions ≤ len) × (Whole ↔ (drop (k + length regions) xs ≡ rest))
  rest_same first =
      let n = length regions in
      let more = drop (k + n) xs in
      let found : drop k xs ≡ lens regions ++ more =
      sym (take-append-drop n (drop k xs)) ∙ ap (λ front. front ++ drop n (drop k xs)) first
      ∙ ap (λ behind. lens regions ++ behind) (drop-drop n k xs) in (
        omega (
          arith,
          before.0,
          is,
          ap length first,
          length-map regions (λ region. region.len),
          length-take n (drop k xs),
          length-drop k xs,
        ),
        (
          λ whole. append_cancel_left (lens regions) more rest (sym found ∙ before.1.0 whole ∙ part),
          λ same. before.1.1 (found ∙ ap (λ behind. lens regions ++ behind) same ∙ sym part),
        ),
      )

-- where nothing more is wanted none are left
pub none_left : (xs : List ℕ) (len k : ℕ) (want : List ℕ) (Whole : Type 0) → length xs ≡ len → want ≡ []
    → (k ≤ len) × (Whole ↔ (drop k xs ≡ want)) → Whole ↔ (k ≡ len)
none_left xs len k want Whole is none before = (
  λ whole. omega (arith, before.0, is, length-drop k xs, ap length (before.1.0 whole ∙ none)),
  λ end. before.1.1 (drop_of_length-le xs (omega (arith, is, end)) ∙ sym none),
)

-- ---- runs of bytes beside the regions of guests

abbrev pub Run : Type 0
Run = Vec ℕ Lodged

-- how many bytes each run has
abbrev pub sizes : List Run → List ℕ
sizes runs = map (λ run. length run) (map vec_items runs)

pub as_many : (runs : List Run) → length (sizes runs) ≡ length runs
as_many runs = length-map (map vec_items runs) (λ run. length run) ∙ length-map runs vec_items

pub size_at : (runs : List Run) (i : ℕ) (run : Run) → run ≡ get_or runs i run
    → get_or (sizes runs) i (length run.items) ≡ length run.items
size_at runs i run is =
    list.get_or-map (λ (items : List ℕ). length items) (map vec_items runs) i run.items
    ∙ ap (λ (items : List ℕ). length items) (list.get_or-map vec_items runs i run ∙ ap vec_items (sym is))

pub front_sizes : (runs : List Run) (n k : ℕ)
    → sizes (take n (take (length runs - k) (drop k runs))) ≡ take n (drop k (sizes runs))
front_sizes runs n k =
    ap (map (λ run. length run)) (front_map vec_items runs n k)
    ∙ part_map (λ run. length run) (map vec_items runs) n k

-- how many are wanted for the regions of these guests
abbrev pub wanted : List GuestSpec → List ℕ
wanted guests = lens (all_regions (slots_of guests))

-- from a guest on it is what that guest wants, and what those behind it do
pub wanted_part : (guests : List GuestSpec) (i : ℕ) (guest : GuestSpec) (regions : List RegionSpec)
    → i < length guests → guest ≡ get_or guests i guest → regions ≡ guest.slot.regions
    → wanted (drop i guests) ≡ lens regions ++ wanted (drop (i + 1) guests)
wanted_part [] i guest regions few is own = absurd (omega (arith, few))
wanted_part (g ∷ guests) zero guest regions few is own =
    map-append (λ region. region.len) g.slot.regions (all_regions (slots_of guests))
    ∙ ap (λ some. lens some ++ wanted guests) (sym (own ∙ ap (λ (h : GuestSpec). h.slot.regions) is))
wanted_part (g ∷ guests) (suc i) guest regions few is own =
    let next : suc (i + 1) ≡ suc i + 1 = omega arith in
    wanted_part guests i guest regions (omega (arith, few)) is own
    ∙ ap (λ m. lens regions ++ wanted (drop m (g ∷ guests))) next
