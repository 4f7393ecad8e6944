-- What follows from what a device saw of a memory.
use Rattle.std.proofs.Common.{◌≡◌, ◌∙◌, ℕ, Bool, true, false, refl, sym, subst, arith, inl, inr}
use Rattle.std.proofs.lemmas.Bool.{cases_lt}
use Rattle.guest_memory.specs.Memory.{Memory, SameRange, Inside}
use Rattle.guest_memory.proofs.Ranges.{same_trans, inside_same, put_range}
use Rattle.byteorder.specs.Endian.{little_bytes}
use Rattle.shared_memory.specs.Sightings.{Sightings, memory, Interference, Loads, SeenAs, Stores}

-- a memory has its own range
pub same_self : (m : Memory) → SameRange m m
same_self m = record { base = refl; size = refl; gaps = refl }

pub same_back : (a b : Memory) → SameRange a b → SameRange b a
same_back a b s = record { base = sym s.base; size = sym s.size; gaps = sym s.gaps }

-- whatever the guest does, the range stays
pub interference_range : (races : Bool) (old new : Memory) → Interference races old new → SameRange old new
interference_range false old new d = subst (λ (m : Memory). SameRange old m) (sym d) (same_self old)
interference_range true old new d = d.range

pub interference_none : (races : Bool) (m : Memory) → Interference races m m
interference_none false m = refl
interference_none true m = record { range = same_self m; pages = refl }

pub interference_trans : (races : Bool) (a b c : Memory) → Interference races a b → Interference races b c → Interference races a c
interference_trans false a b c p q = q ∙ p
interference_trans true a b c p q = record { range = same_trans a b c p.range q.range; pages = q.pages ∙ p.pages }

-- no access
pub loads_none : (races : Bool) (l : Sightings) → Loads races l l
loads_none races l = record {
  later = omega arith;
  kept = λ k h. refl;
  interference = λ k from to.
      let at : k ≡ l.now = omega (arith, from, to) in
      rw at (interference_none races (memory l));
}

-- the range stays
pub loads_range : (races : Bool) (old new : Sightings) → Loads races old new → SameRange (memory old) (memory new)
loads_range races old new l = interference_range races (memory old) (memory new) (l.interference new.now l.later (omega arith))

-- one read after another
pub loads_trans : (races : Bool) (a b c : Sightings) → Loads races a b → Loads races b c → Loads races a c
loads_trans races a b c p q = record {
  later = omega (arith, p.later, q.later);
  kept = λ k h. q.kept k (omega (arith, h, p.later)) ∙ p.kept k h;
  interference = λ k from to. elim (cases_lt k b.now) [
    | inl sooner ↦
        subst (λ (m : Memory). Interference races (memory a) m) (sym (q.kept k (omega (arith, sooner))))
        (p.interference k from (omega (arith, sooner)))
    | inr later ↦
        interference_trans races (memory a) (memory b) (c.at k) (p.interference b.now p.later (omega arith))
        (q.interference k (omega (arith, later)) to)
  ];
}

-- what was seen last was seen
pub seen_last : (races : Bool) (old new : Sightings) → Loads races old new → SeenAs old new (memory new)
seen_last races old new l = record { place = new.now; from = l.later; to = omega arith; is = refl }

-- and stays seen
pub seen_later : (races : Bool) (a b c : Sightings) (m : Memory) → Loads races b c → SeenAs a b m → SeenAs a c m
seen_later races a b c m l s = record {
  place = s.place;
  from = s.from;
  to = omega (arith, s.to, l.later);
  is = s.is ∙ sym (l.kept s.place s.to);
}

pub seen_sooner : (races : Bool) (a b c : Sightings) (m : Memory) → Loads races a b → SeenAs b c m → SeenAs a c m
seen_sooner races a b c m l s = record {
  place = s.place;
  from = omega (arith, s.from, l.later);
  to = s.to;
  is = s.is;
}

-- a guest that stands still is seen as one memory
pub seen_still : (old new : Sightings) (m : Memory) → Loads false old new → SeenAs old new m → m ≡ memory old
seen_still old new m l s = s.is ∙ l.interference s.place s.from s.to

-- a store leaves the range
pub stores_range : (races : Bool) (old new : Sightings) (a k v : ℕ) → Stores races old new a k v
    → SameRange (memory old) (memory new)
stores_range races old new a k v s =
    same_trans (memory old) s.before (memory new) (interference_range races (memory old) s.before s.interference)
    (subst (λ (m : Memory). SameRange s.before m) (sym s.stored) (put_range s.before a (little_bytes k v)))

-- what lies in the memory does after reads
pub inside_loads : (races : Bool) (old new : Sightings) (a n : ℕ) → Loads races old new → Inside (memory old) a n
    → Inside (memory new) a n
inside_loads races old new a n l h = inside_same (memory old) (memory new) a n (loads_range races old new l) h
