-- A description has one fault at most that counts.
use Rattle.std.proofs.Common.{◌≡◌, ◌⊎◌, inl, inr, ℕ, ◌<◌, ◌≤◌, List, length, take, refl, sym, ◌∙◌, ap, subst, arith}
use Rattle.std.specs.Prelude.{All, Any}
use Rattle.std.specs.List.{slice_get}
use Rattle.std.proofs.lemmas.Bool.{cases_order}
use Rattle.std.proofs.lemmas.Option.{slice_get_within}
use Rattle.guest_memory.proofs.Faults.{one_refusal, refused_not_good}
use Rattle.sector_cache.specs.Fault.{IsCapacity}
use Rattle.sector_cache.specs.declared.fault.CacheFault.TheVariants.{BadCapacity}
use Rattle.board.specs.declared.fault.BoardFault.{BoardFault}
use Rattle.board.specs.declared.fault.BoardFault.TheVariants.{NoSlots, TooManySlots, Slot, Cache, NoMemory}
use Rattle.board.specs.declared.fault.SlotFault.{SlotFault}
use Rattle.board.specs.declared.fault.SlotFault.TheVariants.{Memory, BadDepth, ExtentOutside, ExtentsOverlap}
use Rattle.block_device.specs.declared.extent.Extent.{Extent}
use Rattle.board.specs.declared.spec.SlotSpec.{SlotSpec}
use Rattle.board.specs.Extent.{IsApart, Overlaps}
use Rattle.board.specs.Fault.{share, IsGoodSlot, AreGood, HasFaultAt, IsFaultOf, Refuses}

-- extents with a sector in common aren't apart
shared_not_apart : (one other : Extent) → Overlaps one other → IsApart one other → ⊥
shared_not_apart one other shared apart = let never = apart shared.sector in
    grind (arith, shared.in_one, shared.in_other, never)

-- nor are those of a slot and an earlier one
shared_not_all : (earlier : List SlotSpec) (spec : SlotSpec)
    → Any (λ other. Overlaps (share other) (share spec)) earlier
    → All (λ other. IsApart (share other) (share spec)) earlier → ⊥
shared_not_all earlier spec some all =
    shared_not_apart (share some.1) (share spec) some.4
    (subst (λ (s : SlotSpec). IsApart (share s) (share spec)) some.3 (all some.0 some.1 some.2))

-- a good slot has no fault
pub faulty_not_good : (sectors : ℕ) (earlier : List SlotSpec) (spec : SlotSpec) (fault : SlotFault)
    → IsFaultOf sectors earlier spec fault → IsGoodSlot sectors earlier spec → ⊥
faulty_not_good sectors earlier spec (Memory region fault) is good =
    refused_not_good spec.regions region fault is good.memory
faulty_not_good sectors earlier spec BadDepth is good = is.depth good.depth
faulty_not_good sectors earlier spec ExtentOutside is good = absurd (omega (arith, is.outside, good.within))
faulty_not_good sectors earlier spec ExtentsOverlap is good = shared_not_all earlier spec is.shared good.apart

-- a slot has one fault that counts
pub one_of_slot : (sectors : ℕ) (earlier : List SlotSpec) (spec : SlotSpec) (f g : SlotFault)
    → IsFaultOf sectors earlier spec f → IsFaultOf sectors earlier spec g → f ≡ g
one_of_slot sectors earlier spec (Memory i f) (Memory j g) is also =
    let same = one_refusal spec.regions i j f g is also in
    ap (λ (k : ℕ). Memory k f) same.0 ∙ ap (Memory j) same.1
one_of_slot sectors earlier spec BadDepth BadDepth is also = refl
one_of_slot sectors earlier spec ExtentOutside ExtentOutside is also = refl
one_of_slot sectors earlier spec ExtentOutside ExtentsOverlap is also =
    absurd (omega (arith, is.outside, also.within))
one_of_slot sectors earlier spec ExtentsOverlap ExtentOutside is also =
    absurd (omega (arith, also.outside, is.within))
one_of_slot sectors earlier spec ExtentsOverlap ExtentsOverlap is also = refl
one_of_slot sectors earlier spec _ (Memory j g) is also =
    absurd (refused_not_good spec.regions j g also is.memory)
one_of_slot sectors earlier spec (Memory i f) _ is also =
    absurd (refused_not_good spec.regions i f is also.memory)
one_of_slot sectors earlier spec BadDepth _ is also = absurd (is.depth also.depth)
one_of_slot sectors earlier spec _ BadDepth is also = absurd (also.depth is.depth)

-- and the first slot with one is the same
same_first : (sectors : ℕ) (slots : List SlotSpec) (i j : ℕ) (f g : SlotFault)
    → HasFaultAt sectors slots i f → HasFaultAt sectors slots j g → (i ≡ j) ⊎ ((i < j) ⊎ (j < i))
    → Slot i f ≡ Slot j g
same_first sectors slots i j f g one other (inl same) =
    let spec_is : one.spec ≡ other.spec = cc (ap (λ k. slice_get slots k) same, one.there, other.there) in
    let fault_is : f ≡ g =
    one_of_slot sectors (take j slots) other.spec f g
    (subst (λ (s : SlotSpec). IsFaultOf sectors (take j slots) s f) spec_is
    (subst (λ k. IsFaultOf sectors (take k slots) one.spec f) same one.fault_is))
    other.fault_is in
    ap (λ (k : ℕ). Slot k f) same ∙ ap (Slot j) fault_is
same_first sectors slots i j f g one other (inr (inl before)) =
    absurd (faulty_not_good sectors (take i slots) one.spec f one.fault_is
    (other.before i one.spec before one.there))
same_first sectors slots i j f g one other (inr (inr before)) =
    absurd (faulty_not_good sectors (take j slots) other.spec g other.fault_is
    (one.before j other.spec before other.there))

-- there are slots where one has a fault
some_slot : (sectors : ℕ) (slots : List SlotSpec) (i : ℕ) (f : SlotFault)
    → HasFaultAt sectors slots i f → i < length slots
some_slot sectors slots i f first = slice_get_within slots i first.spec first.there

-- slots with a fault aren't good
first_not_good : (sectors : ℕ) (slots : List SlotSpec) (i : ℕ) (f : SlotFault)
    → HasFaultAt sectors slots i f → AreGood sectors slots → ⊥
first_not_good sectors slots i f first good =
    faulty_not_good sectors (take i slots) first.spec f first.fault_is
    (good.each i first.spec (some_slot sectors slots i f first) first.there)

-- where a refusal comes from: how many slots there are, a slot, or what is left
data Why (sectors : ℕ) (slots : List SlotSpec) (cache : ℕ) (fault : BoardFault) : Type 0 where
  count : ((fault ≡ NoSlots) × (length slots ≡ 0)) ⊎ ((fault ≡ TooManySlots) × (64 < length slots))
      → Why sectors slots cache fault
  first : (i : ℕ) (f : SlotFault) → fault ≡ Slot i f → HasFaultAt sectors slots i f
      → Why sectors slots cache fault
  rest : AreGood sectors slots
      → ((fault ≡ Cache BadCapacity) × (¬ IsCapacity cache)) ⊎ ((fault ≡ NoMemory) × IsCapacity cache)
      → Why sectors slots cache fault

why : (sectors : ℕ) (slots : List SlotSpec) (cache : ℕ) (fault : BoardFault)
    → Refuses sectors slots cache fault → Why sectors slots cache fault
why sectors slots cache NoSlots refuses = count (inl (refl, ap (λ (s : List SlotSpec). length s) refuses))
why sectors slots cache TooManySlots refuses = count (inr (refl, refuses))
why sectors slots cache (Slot i f) refuses = first i f refl refuses
why sectors slots cache (Cache fault) refuses =
    rest refuses.0 (inl (ap (λ f. Cache f) refuses.1.1, refuses.1.0))
why sectors slots cache BoardFault.NoMemory refuses = rest refuses.0 (inr (refl, refuses.1))

-- of two faults whose causes exclude each other, the cause tells which it is
same_of_two : {P Q : Type 0} (one other f g : BoardFault) → ((f ≡ one) × P) ⊎ ((f ≡ other) × Q)
    → ((g ≡ one) × P) ⊎ ((g ≡ other) × Q) → (P → Q → ⊥) → f ≡ g
same_of_two one other f g (inl a) (inl b) apart = a.0 ∙ sym b.0
same_of_two one other f g (inl a) (inr b) apart = absurd (apart a.1 b.1)
same_of_two one other f g (inr a) (inl b) apart = absurd (apart b.1 a.1)
same_of_two one other f g (inr a) (inr b) apart = a.0 ∙ sym b.0

-- where there are as many slots as may be, their count is no fault
count_is_fine : {P Q : Type 0} (n : ℕ) → (P × (n ≡ 0)) ⊎ (Q × (64 < n)) → 0 < n → n ≤ 64 → ⊥
count_is_fine n (inl none) some few = absurd (omega (arith, none.1, some))
count_is_fine n (inr many) some few = absurd (omega (arith, many.1, few))

same_why : (sectors : ℕ) (slots : List SlotSpec) (cache : ℕ) (f g : BoardFault) → Why sectors slots cache f
    → Why sectors slots cache g → f ≡ g
same_why sectors slots cache f g (count a) (count b) =
    same_of_two NoSlots TooManySlots f g a b (λ none many. omega arith)
same_why sectors slots cache f g (count a) (first j h is one) =
    absurd (count_is_fine (length slots) a (omega (arith, some_slot sectors slots j h one)) one.few)
same_why sectors slots cache f g (count a) (rest good b) =
    absurd (count_is_fine (length slots) a good.some good.few)
same_why sectors slots cache f g (first i h is one) (count b) =
    absurd (count_is_fine (length slots) b (omega (arith, some_slot sectors slots i h one)) one.few)
same_why sectors slots cache f g (first i h is one) (first j k is2 one2) =
    is ∙ same_first sectors slots i j h k one one2 (cases_order i j) ∙ sym is2
same_why sectors slots cache f g (first i h is one) (rest good b) =
    absurd (first_not_good sectors slots i h one good)
same_why sectors slots cache f g (rest good a) (count b) =
    absurd (count_is_fine (length slots) b good.some good.few)
same_why sectors slots cache f g (rest good a) (first j h is one) =
    absurd (first_not_good sectors slots j h one good)
same_why sectors slots cache f g (rest good a) (rest good2 b) =
    same_of_two (Cache BadCapacity) NoMemory f g a b (λ small fits. small fits)

-- one fault counts
pub one_fault : (sectors : ℕ) (slots : List SlotSpec) (cache : ℕ) (f g : BoardFault)
    → Refuses sectors slots cache f → Refuses sectors slots cache g → f ≡ g
one_fault sectors slots cache f g one other =
    same_why sectors slots cache f g (why sectors slots cache f one) (why sectors slots cache g other)
