-- A walk through one table is one through another that agrees on its members, and in another memory of its range.
use Rattle.std.proofs.Common.{Bool, ◌≡◌, ◌∙◌, ℕ, ◌*◌, List, [], ◌∷◌, ◌++◌, refl, sym, ap, subst}
use Rattle.guest_memory.specs.Memory.{Memory, Inside, SameRange, part_of}
use Rattle.guest_memory.proofs.Ranges.{inside_same}
use Rattle.chain.specs.declared.segment.Buffer.{Buffer}
use Rattle.chain.specs.declared.fault.Fault.{Fault}
use Rattle.chain.specs.Buffers.{Admits, AdmitsAll}
use Rattle.indirect.specs.declared.descriptor.Descriptor.{Descriptor}
use Rattle.indirect.specs.Descriptors.{StandsIn, split_descriptor, split_table}
use Rattle.indirect.specs.Lists.{TableFaulty, packed_tables, split_tables}
use Rattle.indirect.specs.Tables.{IsNoTable, IsTable, TableFails}
use Rattle.indirect.specs.Walks.{Follows, Leads, first_of, buffers_of, Reached}
use Rattle.indirect.proofs.Entries.{entry_is}
use Rattle.shared_memory.proofs.Sightings.{same_back}

-- two tables agree on these indices
abbrev pub Agree : (ℕ → Descriptor) → (ℕ → Descriptor) → List ℕ → Type 0
Agree t u [] = Unit {0}
Agree t u (x ∷ xs) = (t x ≡ u x) × Agree t u xs

pub follows_kept : (t u : ℕ → Descriptor) (n i j : ℕ) → t i ≡ u i → Follows t n i j → Follows u n i j
follows_kept t u n i j e f = record {
  below = f.below;
  plain = ap (λ (d : Descriptor). d.indirect) (sym e) ∙ f.plain;
  next = ap (λ (d : Descriptor). d.next) (sym e) ∙ f.next;
}

pub leads_kept : (t u : ℕ → Descriptor) (n h i : ℕ) (front : List ℕ) → Agree t u front → Leads t n h front i
    → Leads u n h front i
leads_kept t u n h i [] a l = l
leads_kept t u n h i (x ∷ front) a l = (
  l.0,
  follows_kept t u n x (first_of front i) a.0 l.1,
  leads_kept t u n (first_of front i) i front a.1 l.2,
)

pub buffers_kept : (t u : ℕ → Descriptor) (front : List ℕ) → Agree t u front → buffers_of t front ≡ buffers_of u front
buffers_kept t u [] a = refl
buffers_kept t u (x ∷ front) a =
    ap (λ (d : Descriptor). d.buffer ∷ buffers_of t front) a.0
    ∙ ap (λ (bs : List Buffer). (u x).buffer ∷ bs) (buffers_kept t u front a.1)

-- what was reached in one is reached in the other
abbrev pub reached_kept : (m : Memory) (before : List Buffer) (t u : ℕ → Descriptor) (n h count i : ℕ) (buffers : List Buffer)
    (r : Reached m before t n h count i buffers) → Agree t u r.front → Reached m before u n h count i buffers
reached_kept m before t u n h count i buffers r a =
    let same = buffers_kept t u r.front a in
    record {
      front = r.front;
      leads = leads_kept t u n h i r.front a r.leads;
      counted = r.counted;
      admitted = subst (λ (bs : List Buffer). AdmitsAll m before bs) same r.admitted;
      named = r.named ∙ ap (λ (bs : List Buffer). before ++ bs) same;
    }

-- what may stand behind buffers may in a memory of the same addresses
pub admits_range : (m m' : Memory) (bs : List Buffer) (b : Buffer) → SameRange m m' → Admits m bs b → Admits m' bs b
admits_range m m' bs b s a = record {
  inside = inside_same m m' b.segment.addr b.segment.len s a.inside;
  room = a.room;
  fits = a.fits;
}

pub all_range : (m m' : Memory) (before bs : List Buffer) → SameRange m m' → AdmitsAll m before bs → AdmitsAll m' before bs
all_range m m' before [] s a = tt
all_range m m' before (b ∷ bs) s a = (admits_range m m' before b s a.0, all_range m m' (before ++ b ∷ []) bs s a.1)

abbrev pub reached_range : (m m' : Memory) (before : List Buffer) (t : ℕ → Descriptor) (n h count i : ℕ)
    (buffers : List Buffer) → SameRange m m' → Reached m before t n h count i buffers
    → Reached m' before t n h count i buffers
reached_range m m' before t n h count i buffers s r = record {
  front = r.front;
  leads = r.leads;
  counted = r.counted;
  admitted = all_range m m' before (buffers_of t r.front) s r.admitted;
  named = r.named;
}

-- and back
pub admits_back : (m m' : Memory) (bs : List Buffer) (b : Buffer) → SameRange m m' → Admits m' bs b → Admits m bs b
admits_back m m' bs b s = admits_range m' m bs b (same_back m m' s)

-- ---- a range that is no table

module _ (negotiated : Bool) (m : Memory) (before : List Buffer) (d : Descriptor) (fault : Fault)
    (is : IsNoTable m d.buffer.segment.addr d.buffer.segment.len fault)
    (none : ¬ IsTable m d.buffer.segment.addr d.buffer.segment.len) where
  no_table : (Meets : Fault → List Buffer → Type 0)
      → TableFails m d.buffer.segment.addr d.buffer.segment.len before Meets fault before
  no_table Meets = record { no_table = λ not_one. (is, refl); walked = λ one. absurd (none one) }

  pub no_split_table : TableFaulty split_tables negotiated m before d fault
  no_split_table = record { left = before; table = no_table _ }

  pub no_packed_table : TableFaulty packed_tables negotiated m before d fault
  no_packed_table = record { left = before; table = no_table _ }

-- a descriptor that was read of a copy of a table is the table's
pub entry_stands : (m : Memory) (addr len at i : ℕ) (bytes : List ℕ) (d : Descriptor) → Inside m addr len
    → bytes ≡ part_of m addr len → at ≡ 16 * i → StandsIn bytes at (λ m a. d ≡ split_descriptor m a)
    → d ≡ split_table m addr i
entry_stands m addr len at i bytes d inside are place stands = entry_is m addr at i d (stands m addr len inside are) place
