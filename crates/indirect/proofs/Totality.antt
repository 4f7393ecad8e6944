-- Each walk, each table and each list of a ring comes to an end: to its buffers or to its fault.
use Rattle.std.proofs.Common.{◌≡◌, ℕ, zero, suc, ◌+◌, ◌*◌, ◌/◌, ◌<◌, Bool, true, Option, Some, None, List, [], ◌∷◌, ◌++◌, refl, sym, ap, ◌∙◌, arith, inl, inr, ◌⊎◌}
use Rattle.std.proofs.lemmas.Bool.{cases_lt, cases_Bool}
use Rattle.std.proofs.lemmas.List.{append-nil}
use Rattle.guest_memory.specs.Memory.{Memory}
use Rattle.chain.specs.declared.segment.Buffer.{Buffer}
use Rattle.chain.specs.declared.fault.Fault.{Fault}
use Rattle.chain.specs.declared.fault.Fault.TheVariants.{Index, Loop, Table, Nested, Joined, NoIndirect, Range}
use Rattle.chain.specs.Service.{Entry}
use Rattle.chain.proofs.Admitting.{admits_or_refuses}
use Rattle.indirect.specs.declared.descriptor.Descriptor.{Descriptor}
use Rattle.indirect.specs.Descriptors.{split_table, packed_buffer}
use Rattle.indirect.specs.Walks.{FaultAt, Reached, WalkHasOutcome}
use Rattle.indirect.specs.Tables.{IsTable, IsNoTable, SplitTableResolves, PackedTableResolves, PackedFaultAt, TableFails}
use Rattle.indirect.specs.Lists.{TableKind, split_tables, packed_tables, TableHasOutcome, is_joined, ListFails, ListHasOutcome, ListOffers}
use Rattle.indirect.specs.Outcomes.{HasOneTable, HasOneList}
use Rattle.indirect.proofs.Entries.{Gathered, gathered_step}
use Rattle.indirect.proofs.Walking.{reached_start, reached_step, resolves_step, refused_stops}
use Rattle.indirect.proofs.TableOutcomes.{len_cases, table_cases, one_split_fault, one_split_path, never_both_split, one_packed_fault, one_packed_list, never_both_packed}
use Rattle.indirect.proofs.Listing.{list_plain, list_table, list_full, list_past, list_refused, list_table_refused, table_unknown, table_joined, table_faulty, one_list, one_list_fault, never_both_list, longest_list}

-- a descriptor has no next one, or has one
next_cases : (next : Option ℕ) → (next ≡ None) ⊎ ((index : ℕ) × (next ≡ Some index))
next_cases None = inl refl
next_cases (Some j) = inr (j, refl)

module _ (m : Memory) (before : List Buffer) (t : ℕ → Descriptor) (n h : ℕ) where
  -- k members are left until the walk has as many as the table
  walk_on : (k count i : ℕ) (buffers : List Buffer) → count + k ≡ n → Reached m before t n h count i buffers
      → WalkHasOutcome m before t n h
  walk_on zero count i buffers e r =
      inr (Loop, buffers, record { count = count; at = i; reached = r; stops = omega (arith, e) })
  walk_on (suc k) count i buffers e r =
      let room : count < n = omega (arith, e) in
      elim (cases_lt i n) [
        | inr past ↦ inr (Index, buffers, record { count = count; at = i; reached = r; stops = (room, past) })
        | inl below ↦ elim (cases_Bool (t i).indirect) [
          | inl nested ↦ inr (
            Nested,
            buffers,
            record {
              count = count;
              at = i;
              reached = r;
              stops = record { comes = record { room = room; below = below }; indirect = nested };
            },
          )
          | inr plain ↦ elim (admits_or_refuses m buffers (t i).buffer) [
            | inr refused ↦ inr (
              refused.0,
              buffers,
              record {
                count = count;
                at = i;
                reached = r;
                stops = refused_stops m buffers t n count i (t i) refused.0 refl room
                    below plain refused.1;
              },
            )
            | inl admits ↦ elim (next_cases (t i).next) [
              | inl ends ↦ inl (
                buffers ++ (t i).buffer ∷ [],
                resolves_step m before buffers (buffers ++ (t i).buffer ∷ []) t n h count i (t i) refl room
                    below plain ends admits refl r,
              )
              | inr next ↦ walk_on k (count + 1) next.0 (buffers ++ (t i).buffer ∷ []) (omega (arith, e))
                  (reached_step m before buffers (buffers ++ (t i).buffer ∷ []) t n h count i next.0 (t i)
                  refl below plain next.1 admits refl r)
            ]
          ]
        ]
      ]

  pub walk_has_outcome : WalkHasOutcome m before t n h
  walk_has_outcome = walk_on n 0 h before (omega arith) (reached_start m before t n h)

module _ (m : Memory) (addr len : ℕ) (before : List Buffer) where
  -- a range that is no table has a fault
  no_table_fault : ¬ IsTable m addr len → (fault : Fault) × IsNoTable m addr len fault
  no_table_fault none =
      elim (len_cases len) [
        | inr bad ↦ (Table, record { bad_len = λ b. refl; outside = λ good. absurd (bad good) })
        | inl good ↦ (
          Range,
          record {
            bad_len = λ bad. absurd (bad good);
            outside = λ g. (refl, λ inside. none (record { size = good; inside = inside }));
          },
        )
      ]

  -- a range has an outcome as a table, where going through it has one
  table_has_outcome : (Has : List Buffer → Type 0) (Meets : Fault → List Buffer → Type 0)
      → (IsTable m addr len → ((after : List Buffer) × Has after)
      ⊎ ((fault : Fault) × (left : List Buffer) × Meets fault left))
      → ((after : List Buffer) × Has after)
      ⊎ ((fault : Fault) × (left : List Buffer) × TableFails m addr len before Meets fault left)
  table_has_outcome Has Meets walks =
      elim (table_cases m addr len) [
        | inr none ↦ let f = no_table_fault none in
            inr (f.0, before, record { no_table = λ _. (f.1, refl); walked = λ table. absurd (none table) })
        | inl table ↦ elim (walks table) [
          | inl found ↦ inl found
          | inr met ↦ inr (
            met.0,
            met.1,
            record { no_table = λ none. absurd (none table); walked = λ _. met.2 },
          )
        ]
      ]

  some_split : TableHasOutcome split_tables m addr len before
  some_split =
      table_has_outcome (SplitTableResolves m addr len before)
      (FaultAt m before (split_table m addr) (len / 16) 0) (λ table.
      elim (walk_has_outcome m before (split_table m addr) (len / 16) 0) [
        | inl found ↦ inl (found.0, record { table = table; path = found.1 })
        | inr met ↦ inr met
      ])

  -- k descriptors are left until the end of the packed table
  gather_on : (n k i : ℕ) (buffers : List Buffer) → i + k ≡ n → Gathered m addr before i buffers
      → ((after : List Buffer) × Gathered m addr before n after)
      ⊎ ((fault : Fault) × (left : List Buffer) × PackedFaultAt m addr n before fault left)
  gather_on n zero i buffers e g = let same : i ≡ n = omega (arith, e) in inl (buffers, rw same at g)
  gather_on n (suc k) i buffers e g =
      let b = packed_buffer m (addr + 16 * i) in
      elim (admits_or_refuses m buffers b) [
        | inr refused ↦ inr (
          refused.0,
          buffers,
          record {
            at = i;
            below = omega (arith, e);
            admitted = g.admitted;
            named = g.named;
            refused = refused.1;
          },
        )
        | inl admits ↦ gather_on n k (i + 1) (buffers
            ++ b ∷ []) (omega (arith, e)) (gathered_step m addr before buffers (buffers
            ++ b ∷ []) i b refl admits refl g)
      ]

  some_packed : TableHasOutcome packed_tables m addr len before
  some_packed =
      table_has_outcome (PackedTableResolves m addr len before)
      (PackedFaultAt m addr (len / 16) before) (λ table.
      elim (gather_on (len / 16) (len / 16) 0 before (omega arith)
      (record { admitted = tt; named = sym (append-nil before) })) [
        | inl found ↦ inl (
          found.0,
          record { table = table; admitted = found.1.admitted; named = found.1.named },
        )
        | inr met ↦ inr met
      ])

pub split_has_one_table : HasOneTable split_tables
split_has_one_table =
    record {
      buffers = one_split_path;
      fault = one_split_fault;
      not_both = never_both_split;
      some = some_split;
    }

pub packed_has_one_table : HasOneTable packed_tables
packed_has_one_table =
    record {
      buffers = one_packed_list;
      fault = one_packed_fault;
      not_both = never_both_packed;
      some = some_packed;
    }

module _ (kind : TableKind) (one : HasOneTable kind) where
  module _ (negotiated : Bool) (m : Memory) (t : ℕ → Descriptor) (n h : ℕ) where
    -- a descriptor comes next that refers to a table
    at_table : (count i : ℕ) (buffers : List Buffer) → Reached m [] t n h count i buffers → count < n → i < n
        → (t i).indirect ≡ true
        → ListHasOutcome kind negotiated m t n h
    at_table count i buffers r room below is =
        let d = t i in
        elim (cases_Bool negotiated) [
          | inr unknown ↦ inr (
            NoIndirect,
            list_table_refused kind negotiated m t n h buffers count i d NoIndirect refl room below is
                (table_unknown kind negotiated m t n h buffers count d unknown) r,
          )
          | inl known ↦ elim (cases_Bool (is_joined kind count d)) [
            | inl joined ↦ inr (
              Joined,
              list_table_refused kind negotiated m t n h buffers count i d Joined refl room below is
                  (table_joined kind negotiated m t n h buffers count d known joined) r,
            )
            | inr apart ↦ elim (one.some m d.buffer.segment.addr d.buffer.segment.len buffers) [
              | inl found ↦ inl (
                count,
                i,
                found.0,
                list_table kind negotiated m t n h buffers found.0 count i
                    d refl room below is known apart found.1 r,
              )
              | inr stopped ↦ inr (
                stopped.0,
                list_table_refused kind negotiated m t n h buffers count i d stopped.0 refl room below is
                    (table_faulty kind negotiated m t n h buffers stopped.1 count d stopped.0 known
                    apart stopped.2) r,
              )
            ]
          ]
        ]

    -- k members are left until the list has as many as the ring
    list_on : (k count i : ℕ) (buffers : List Buffer) → count + k ≡ n → Reached m [] t n h count i buffers
        → ListHasOutcome kind negotiated m t n h
    list_on zero count i buffers e r =
        inr (Loop, list_full kind negotiated m t n h buffers count i (omega (arith, e)) r)
    list_on (suc k) count i buffers e r =
        let room : count < n = omega (arith, e) in
        let d = t i in
        elim (cases_lt i n) [
          | inr past ↦ inr (Index, list_past kind negotiated m t n h buffers count i room past r)
          | inl below ↦ elim (cases_Bool d.indirect) [
            | inl is ↦ at_table count i buffers r room below is
            | inr plain ↦ elim (admits_or_refuses m buffers d.buffer) [
              | inr refused ↦ inr (
                refused.0,
                list_refused kind negotiated m t n h buffers count i d refused.0
                    refl room below plain refused.1 r,
              )
              | inl admits ↦ elim (next_cases d.next) [
                | inl ends ↦ inl (
                  count,
                  i,
                  buffers ++ d.buffer ∷ [],
                  list_plain kind negotiated m t n h buffers (buffers ++ d.buffer ∷ []) count i d refl room
                      below plain ends admits refl r,
                )
                | inr next ↦ list_on k (count + 1) next.0 (buffers ++ d.buffer ∷ []) (omega (arith, e))
                    (reached_step m [] buffers (buffers ++ d.buffer ∷ []) t n h count i next.0 d refl below
                    plain next.1 admits refl r)
              ]
            ]
          ]
        ]

    list_has_outcome : ListHasOutcome kind negotiated m t n h
    list_has_outcome = list_on n 0 h [] (omega arith) (reached_start m [] t n h)

  pub has_one_list : HasOneList kind
  has_one_list = record {
    list = λ negotiated m t n h c k i j a b x y. one_list kind one negotiated m t n h c k i j a b x y;
    fault = λ negotiated m t n h f g x y. one_list_fault kind one negotiated m t n h f g x y;
    not_both = λ negotiated m t n h f k j b x y. never_both_list kind one negotiated m t n h f k j b x y;
    some = list_has_outcome;
    longest = λ negotiated m t n h f found front i l a w. longest_list kind one negotiated m t n h f
        found front i l a w;
  }

pub split_has_one_list : HasOneList split_tables
split_has_one_list = has_one_list split_tables split_has_one_table

pub packed_has_one_list : HasOneList packed_tables
packed_has_one_list = has_one_list packed_tables packed_has_one_table

-- a list is offered with one list of buffers and one entry, or has one fault, never both, and one of the two
module _ (kind : TableKind) (one : HasOneList kind) (negotiated : Bool) (m : Memory) (t : ℕ → Descriptor)
    (n h : ℕ) (entry_of : ℕ → ℕ → Entry) where
  pub one_offer : (a b : List Buffer) (e f : Entry) → ListOffers kind negotiated m t n h entry_of a e
      → ListOffers kind negotiated m t n h entry_of b f → (a ≡ b) × (e ≡ f)
  one_offer a b e f x y =
      let same = one.list negotiated m t n h x.count y.count x.last y.last a b x.list y.list in (
        same.buffers,
        x.entry_is ∙ ap (λ last. entry_of x.count last) same.last
            ∙ ap (λ count. entry_of count y.last) same.count ∙ sym y.entry_is,
      )

  pub never_offered : (f : Fault) (a : List Buffer) (e : Entry) → ListFails kind negotiated m t n h f
      → ListOffers kind negotiated m t n h entry_of a e → ⊥
  never_offered f a e y x = one.not_both negotiated m t n h f x.count x.last a y x.list

  pub offered_or_fails : ((a : List Buffer) × (e : Entry) × ListOffers kind negotiated m t n h entry_of a e)
      ⊎ ((f : Fault) × ListFails kind negotiated m t n h f)
  offered_or_fails =
      elim (one.some negotiated m t n h) [
        | inl found ↦ inl (
          found.2,
          entry_of found.0 found.1,
          record { count = found.0; last = found.1; list = found.3; entry_is = refl },
        )
        | inr stopped ↦ inr stopped
      ]
