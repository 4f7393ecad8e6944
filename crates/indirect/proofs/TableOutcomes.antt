-- A range has one outcome as an indirect table, of either kind.
use Rattle.std.proofs.Common.{◌≡◌, ℕ, zero, suc, ◌+◌, ◌-◌, ◌*◌, ◌/◌, ◌%◌, ◌<◌, ◌≤◌, List, [], ◌∷◌, ◌++◌, refl, sym, ap, ◌∙◌, arith, inl, inr, ◌⊎◌}
use Rattle.std.proofs.lemmas.Bool.{cases_lt, cases_eq}
use Rattle.guest_memory.specs.Memory.{Memory}
use Rattle.guest_memory.proofs.Ranges.{inside_cases}
use Rattle.chain.specs.declared.segment.Buffer.{Buffer}
use Rattle.chain.specs.declared.fault.Fault.{Fault}
use Rattle.chain.specs.Buffers.{Admits, AdmitsAll}
use Rattle.chain.proofs.Admitting.{Admits-at, Admits-Refuses, AdmitsAll-front, Refuses-unique}
use Rattle.indirect.specs.Descriptors.{split_table, packed_buffer, packed_buffers}
use Rattle.indirect.specs.Tables.{IsTableLen, IsTable, IsNoTable, SplitTableResolves, SplitTableFails, PackedTableResolves, PackedFaultAt, PackedTableFails, TableFails}
use Rattle.indirect.specs.Walks.{FaultAt}
use Rattle.indirect.proofs.Entries.{packed_buffers-more}
use Rattle.indirect.proofs.Outcomes.{one_fault, one_path, never_both}

-- a length is a table's or isn't
pub len_cases : (len : ℕ) → IsTableLen len ⊎ (¬ IsTableLen len)
len_cases len =
    elim (cases_lt 0 len) [
      | inr none ↦ inr (λ h. absurd (omega (arith, h.least)))
      | inl some ↦ elim (cases_lt 4096 len) [
        | inl large ↦ inr (λ h. absurd (omega (arith, h.most)))
        | inr small ↦ elim (cases_eq (len % 16) 0) [
          | inl whole ↦ inl (record { least = some; most = small; whole = whole })
          | inr part ↦ inr (λ h. part h.whole)
        ]
      ]
    ]

-- a range is a table or isn't
pub table_cases : (m : Memory) (addr len : ℕ) → IsTable m addr len ⊎ (¬ IsTable m addr len)
table_cases m addr len =
    elim (len_cases len) [
      | inr bad ↦ inr (λ h. bad h.size)
      | inl good ↦ elim (inside_cases m addr len) [
        | inl inside ↦ inl (record { size = good; inside = inside })
        | inr outside ↦ inr (λ h. outside h.inside)
      ]
    ]

-- a range that is no table has one fault
one_no_table : (m : Memory) (addr len : ℕ) (f g : Fault) → IsNoTable m addr len f
    → IsNoTable m addr len g → f ≡ g
one_no_table m addr len f g x y =
    elim (len_cases len) [
      | inl good ↦ (x.outside good).0 ∙ sym (y.outside good).0
      | inr bad ↦ x.bad_len bad ∙ sym (y.bad_len bad)
    ]

module _ (m : Memory) (addr len : ℕ) (before : List Buffer) where
  -- a range has one fault as a table, where going through it meets one
  one_table_fault : (Meets : Fault → List Buffer → Type 0)
      → ((f g : Fault) (a b : List Buffer) → Meets f a → Meets g b → (f ≡ g) × (a ≡ b))
      → (a b : List Buffer) (f g : Fault) → TableFails m addr len before Meets f a
      → TableFails m addr len before Meets g b → (f ≡ g) × (a ≡ b)
  one_table_fault Meets once a b f g x y =
      elim (table_cases m addr len) [
        | inl table ↦ once f g a b (x.walked table) (y.walked table)
        | inr none ↦ let left = x.no_table none in let right = y.no_table none in
            (one_no_table m addr len f g left.0 right.0, left.1 ∙ sym right.1)
      ]

  pub one_split_fault : (a b : List Buffer) (f g : Fault) → SplitTableFails m addr len before f a
      → SplitTableFails m addr len before g b → (f ≡ g) × (a ≡ b)
  one_split_fault = one_table_fault (FaultAt m before (split_table m addr) (len / 16) 0)
      (one_fault m before (split_table m addr) (len / 16) 0)

  pub one_split_path : (a b : List Buffer) → SplitTableResolves m addr len before a
      → SplitTableResolves m addr len before b → a ≡ b
  one_split_path a b x y = one_path m before (split_table m addr) (len / 16) 0 a b x.path y.path

  pub never_both_split : (a b : List Buffer) (f : Fault) → SplitTableFails m addr len before f a
      → SplitTableResolves m addr len before b → ⊥
  never_both_split a b f x y =
      never_both m before (split_table m addr) (len / 16) 0 f a b (x.walked y.table) y.path

  -- the buffer of a descriptor of a packed table whose first n buffers are admitted
  admits_entry : (n i : ℕ) → i < n → AdmitsAll m before (packed_buffers m addr n)
      → Admits m (before ++ packed_buffers m addr i) (packed_buffer m (addr + 16 * i))
  admits_entry n i h a = go (n - i - 1) n (omega arith) a
    where
      go : (k n : ℕ) → n ≡ i + 1 + k → AdmitsAll m before (packed_buffers m addr n)
          → Admits m (before ++ packed_buffers m addr i) (packed_buffer m (addr + 16 * i))
      go zero n e a =
          let s : n ≡ i + 1 = omega arith in
          Admits-at m before (packed_buffers m addr i) (packed_buffer m (addr + 16 * i)) []
          (rw (s, packed_buffers-more m addr i) at a)
      go (suc k) n e a =
          let s : n ≡ (i + 1 + k) + 1 = omega arith in
          go k (i + 1 + k) refl
          (AdmitsAll-front m before (packed_buffers m addr (i + 1 + k))
          (packed_buffer m (addr + 16 * (i + 1 + k)) ∷ [])
          (rw (s, packed_buffers-more m addr (i + 1 + k)) at a))

  -- the descriptor at fault isn't among those that were taken
  not_among : (n n' : ℕ) (f : Fault) (a : List Buffer) (x : PackedFaultAt m addr n before f a)
      → AdmitsAll m before (packed_buffers m addr n') → n' ≤ x.at
  not_among n n' f a x all =
      elim (cases_lt x.at n') [
        | inr above ↦ above
        | inl below ↦ absurd (Admits-Refuses m a (packed_buffer m (addr + 16 * x.at)) f
            (rw (← x.named) at (admits_entry n' x.at below all)) x.refused)
      ]

  packed_fault_once : (n : ℕ) (f g : Fault) (a b : List Buffer) → PackedFaultAt m addr n before f a
      → PackedFaultAt m addr n before g b → (f ≡ g) × (a ≡ b)
  packed_fault_once n f g a b x y =
      let l = not_among n y.at f a x y.admitted in
      let r = not_among n x.at g b y x.admitted in
      let at : x.at ≡ y.at = omega (arith, l, r) in
      let same : a ≡ b = x.named ∙ ap (λ i. before ++ packed_buffers m addr i) at ∙ sym y.named in (
        Refuses-unique m b (packed_buffer m (addr + 16 * y.at)) f g
            (rw (← same, ← at) x.refused) y.refused,
        same,
      )

  pub one_packed_fault : (a b : List Buffer) (f g : Fault) → PackedTableFails m addr len before f a
      → PackedTableFails m addr len before g b → (f ≡ g) × (a ≡ b)
  one_packed_fault = one_table_fault (PackedFaultAt m addr (len / 16) before) (packed_fault_once (len / 16))

  pub one_packed_list : (a b : List Buffer) → PackedTableResolves m addr len before a
      → PackedTableResolves m addr len before b → a ≡ b
  one_packed_list a b x y = x.named ∙ sym y.named

  pub never_both_packed : (a b : List Buffer) (f : Fault) → PackedTableFails m addr len before f a
      → PackedTableResolves m addr len before b → ⊥
  never_both_packed a b f x y =
      let w = x.walked y.table in
      let l = not_among (len / 16) (len / 16) f a w y.admitted in
      absurd (omega (arith, l, w.below))
