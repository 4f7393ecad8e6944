-- Memories over bytes that a host lends: what is known after some regions, and some slots, took theirs.
use Rattle.std.proofs.Common.{◌≡◌, Result, Ok, Err, ℕ, ◌+◌, ◌<◌, ◌≤◌, List, [], ◌∷◌, ◌++◌, length, map, drop, get_or, refl, sym, ◌∙◌, ap, subst, arith, append_assoc, length-drop}
use Rattle.std.specs.Prelude.{IfOk, IsOkAnd}
use Rattle.std.proofs.lemmas.List.{drop_more, drop-drop}
use Rattle.guest_memory.specs.declared.spec.RegionSpec.{RegionSpec}
use Rattle.guest_memory.specs.Memory.{Memory}
use Rattle.guest_memory.specs.Regions.{Region, memory_of}
use Rattle.board.specs.declared.spec.SlotSpec.{SlotSpec}
use Rattle.block_device.specs.declared.extent.Extent.{Extent}
use Rattle.board.specs.Extent.{AreSound}
use Rattle.board.specs.Fault.{share, AreGood}
use Rattle.board.specs.Lent.{AreBytesOf, BeginWith, all_regions, made_over, opened_over, with_bytes}
use Rattle.board.specs.Slot.{BoardSlot}
use Rattle.board.specs.World.{extents_of}
use Rattle.board.proofs.Specs.{extents_of-opened, sound}

-- ---- the regions of a slot

-- So many regions took their bytes: those that were made and those that the others make of the rest are all.
pub record Took (regions : List RegionSpec) (all : List (List ℕ)) (count : ℕ) (made : List Region)
    (rest : List (List ℕ)) : Type 0 where
  pub are : with_bytes regions all ≡ made ++ with_bytes (drop count regions) rest
  pub left : rest ≡ drop count all
  pub begin : BeginWith (drop count regions) rest
  pub few : count ≤ length regions

-- there is a run for the next region, of its length, and then one more has its bytes
pub took_next : (regions : List RegionSpec) (all : List (List ℕ)) (count : ℕ) (d : RegionSpec)
    (made new : List Region) (x : Region)
    (run : List ℕ) (before rest : List (List ℕ)) → count < length regions → before ≡ run ∷ rest
    → Took regions all count made before → (length run ≡ (get_or regions count d).len)
    × (x.base ≡ (get_or regions count d).base → x.bytes ≡ run → new ≡ made ++ x ∷ []
    → Took regions all (count + 1) new rest)
took_next regions all count d made new x run before rest below next took =
    let region : RegionSpec = get_or regions count d in
    let here : drop count regions ≡ region ∷ drop (count + 1) regions = drop_more regions count d below in
    let begin : BeginWith (region ∷ drop (count + 1) regions) (run ∷ rest) =
    subst (BeginWith (region ∷ drop (count + 1) regions)) next
    (subst (λ (rs : List RegionSpec). BeginWith rs before) here took.begin) in (
      begin.0,
      λ base bytes pushed. record {
        are =
            took.are
            ∙ ap (λ (rs : List RegionSpec). made ++ with_bytes rs before) here
            ∙ ap (λ (bs : List (List ℕ)). made ++ with_bytes (region ∷ drop (count + 1) regions) bs) next
            ∙ ap (λ (n : ℕ). made ++ record { base = n; bytes = run }
            ∷ with_bytes (drop (count + 1) regions) rest) (sym base)
            ∙ ap (λ (bs : List ℕ). made
            ++ record { base = x.base; bytes = bs }
            ∷ with_bytes (drop (count + 1) regions) rest) (sym bytes)
            ∙ sym (append_assoc made (x ∷ []) (with_bytes (drop (count + 1) regions) rest))
            ∙ ap (λ (ys : List Region). ys ++ with_bytes (drop (count + 1) regions) rest) (sym pushed);
        left = one_less count all run rest (sym took.left ∙ next);
        begin = begin.1;
        few = omega (arith, below);
      },
    )
  where
    one_less : (n : ℕ) (xs : List (List ℕ)) (y : List ℕ) (ys : List (List ℕ)) → drop n xs ≡ y ∷ ys
        → ys ≡ drop (n + 1) xs
    one_less n xs y ys e = ap (drop 1) (sym e) ∙ drop-drop 1 n xs

-- none is left without a run
pub took_some : (regions : List RegionSpec) (all : List (List ℕ)) (count : ℕ) (made : List Region)
    (rest : List (List ℕ)) → count < length regions
    → Took regions all count made rest → 0 < length rest
took_some regions all count made rest below took =
    some (drop count regions) rest (omega (arith, length-drop count regions, below)) took.begin
  where
    some : (regions : List RegionSpec) (rest : List (List ℕ)) → 0 < length regions
        → BeginWith regions rest → 0 < length rest
    some [] rest below begin = absurd (omega (arith, below))
    some (region ∷ regions) [] below begin = absurd begin
    some (region ∷ regions) (run ∷ rest) below begin = omega arith

-- ---- the slots

-- the first of the bytes of some slots are the first slot's, and the others those of the others
pub bytes_first : (regions : List RegionSpec) (more : List RegionSpec) (bytes : List (List ℕ))
    → map (λ (run : List ℕ). length run) bytes ≡ map (λ (r : RegionSpec). r.len) (regions ++ more)
    → BeginWith regions bytes
    × (map (λ (run : List ℕ). length run) (drop (length regions) bytes)
    ≡ map (λ (r : RegionSpec). r.len) more)
bytes_first [] more bytes same = (tt, same)
bytes_first (region ∷ regions) more [] same = absurd (cc same)
bytes_first (region ∷ regions) more (run ∷ bytes) same =
    let rest = bytes_first regions more bytes (ap (drop 1) same) in
    ((ap (λ (ns : List ℕ). get_or ns 0 0) same, rest.0), rest.1)

-- So many slots took theirs.
pub record Opened {X : Type 0} (made : SlotSpec → Memory → X) (slots : List SlotSpec) (all : List (List ℕ))
    (count : ℕ) (opened : List X) (rest : List (List ℕ)) : Type 0 where
  pub are : made_over made slots all ≡ opened ++ made_over made (drop count slots) rest
  pub bytes : AreBytesOf (drop count slots) rest

-- the next takes its own
pub opened_next : {X : Type 0} (made : SlotSpec → Memory → X) (slots : List SlotSpec) (all : List (List ℕ))
    (count : ℕ) (opened : List X) (spec : SlotSpec)
    (rest : List (List ℕ)) → count < length slots → spec ≡ get_or slots count spec
    → Opened made slots all count opened rest
    → BeginWith spec.regions rest
    × ((new : List X) (x : X) (memory : Memory) (left : List (List ℕ))
    → memory ≡ memory_of (with_bytes spec.regions rest)
    → left ≡ drop (length spec.regions) rest → x ≡ made spec memory → new ≡ opened ++ x ∷ []
    → Opened made slots all (count + 1) new left)
opened_next {X} made slots all count opened spec rest below is before =
    let here : drop count slots ≡ spec ∷ drop (count + 1) slots =
    drop_more slots count spec below ∙ ap (λ (s : SlotSpec). s ∷ drop (count + 1) slots) (sym is) in
    let bytes : AreBytesOf (spec ∷ drop (count + 1) slots) rest =
    subst (λ (ss : List SlotSpec). AreBytesOf ss rest) here before.bytes in
    let first = bytes_first spec.regions (all_regions (drop (count + 1) slots)) rest bytes in (
      first.0,
      λ new x memory left memory_is left_is x_is pushed. record {
        are =
            before.are
            ∙ ap (λ (ss : List SlotSpec). opened ++ made_over made ss rest) here
            ∙ ap (λ (m : Memory). opened
            ++ made spec m ∷ made_over made (drop (count + 1) slots) (drop (length spec.regions) rest))
            (sym memory_is)
            ∙ ap (λ (y : X). opened ++ y
            ∷ made_over made (drop (count + 1) slots) (drop (length spec.regions) rest)) (sym x_is)
            ∙ ap (λ (bs : List (List ℕ)). opened
            ++ x ∷ made_over made (drop (count + 1) slots) bs) (sym left_is)
            ∙ sym (append_assoc opened (x ∷ []) (made_over made (drop (count + 1) slots) left))
            ∙ ap (λ (ys : List X). ys ++ made_over made (drop (count + 1) slots) left) (sym pushed);
        bytes = subst (AreBytesOf (drop (count + 1) slots)) (sym left_is) first.1;
      },
    )

-- a board that was made is one of the slots that were opened
pub made_of : {S X B E F : Type 0} (items : S → X) (board : X → B) (made : Result B E) (opened : Result S F)
    (all : X)
    → IfOk made (λ b. IsOkAnd opened (λ s. b ≡ board (items s))) → IfOk opened (λ s. items s ≡ all)
    → IfOk made (λ b. b ≡ board all)
made_of items board (Ok b) (Ok s) all is are = is ∙ ap board are
made_of items board (Ok b) (Err fault) all is are = absurd is
made_of items board (Err fault) opened all is are = tt

-- the extents are those of the description
pub extents_of-over : (slots : List SlotSpec) (bytes : List (List ℕ))
    → extents_of (made_over opened_over slots bytes) ≡ map share slots
extents_of-over [] bytes = refl
extents_of-over (spec ∷ slots) bytes =
    ap (λ (es : List Extent). share spec ∷ es) (extents_of-over slots (drop (length spec.regions) bytes))

-- so such slots stand side by side on the image too
pub sound_over : (sectors : ℕ) (slots : List SlotSpec) (bytes : List (List ℕ)) → AreGood sectors slots
    → AreSound sectors (extents_of (made_over opened_over slots bytes))
sound_over sectors slots bytes good =
    subst (AreSound sectors) (extents_of-opened slots ∙ sym (extents_of-over slots bytes))
    (sound sectors slots good)

-- and so does the same list under another name
pub same_sound : (sectors : ℕ) (all slots : List BoardSlot) → slots ≡ all → AreSound sectors (extents_of all)
    → AreSound sectors (extents_of slots)
same_sound sectors all slots same sound =
    subst (λ (xs : List BoardSlot). AreSound sectors (extents_of xs)) (sym same) sound
