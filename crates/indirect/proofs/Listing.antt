-- The list of a ring, step by step, and that it has one outcome.
use Rattle.std.proofs.Common.{◌≡◌, ℕ, ◌/◌, ◌<◌, ◌≤◌, Bool, true, false, Some, None, List, [], ◌∷◌, ◌++◌, length, refl, sym, ap, ◌∙◌, arith, inl, inr}
use Rattle.std.proofs.lemmas.Bool.{cases_lt, cases_eq}
use Rattle.guest_memory.specs.Memory.{Memory}
use Rattle.chain.specs.declared.segment.Buffer.{Buffer}
use Rattle.chain.specs.declared.fault.Fault.{Fault}
use Rattle.chain.specs.declared.fault.Fault.TheVariants.{Index, Loop, Joined, NoIndirect}
use Rattle.chain.specs.Buffers.{Good, Admits, AdmitsAll, Refuses}
use Rattle.chain.proofs.Admitting.{Admits-Refuses, Refuses-unique, Good-append, Good-from_AdmitsAll}
use Rattle.indirect.specs.declared.descriptor.Descriptor.{Descriptor}
use Rattle.indirect.specs.Descriptors.{split_table, packed_buffers}
use Rattle.indirect.specs.Walks.{Leads, buffers_of, Reached, ComesNext, first_of}
use Rattle.indirect.specs.Lists.{TableKind, split_tables, packed_tables, EndsPlain, is_joined, EndsBy, TableRefused, ListResolves, ListFails}
use Rattle.indirect.specs.Outcomes.{HasOneTable}
use Rattle.indirect.proofs.Outcomes.{GoesOn, front_longest, front_once, goes_no_further}

module _ (kind : TableKind) (negotiated : Bool) (m : Memory) (t : ℕ → Descriptor) (n h : ℕ) where
  -- the list ends at the descriptor that comes next
  list_ends : (before after : List Buffer) (count i : ℕ) → count < n → i < n
      → EndsBy kind negotiated m (t i).indirect before count (t i) after → Reached m [] t n h count i before
      → ListResolves kind negotiated m t n h count i after
  list_ends before after count i room below ends r =
      record { before = before; reached = r; comes = record { room = room; below = below }; ends = ends }

  -- that is a plain one
  pub list_plain : (before after : List Buffer) (count i : ℕ) (d : Descriptor) → d ≡ t i → count < n → i < n
      → d.indirect ≡ false → d.next ≡ None
      → Admits m before d.buffer → after ≡ before ++ d.buffer ∷ [] → Reached m [] t n h count i before
      → ListResolves kind negotiated m t n h count i after
  list_plain before after count i d e room below plain ends a named r =
      list_ends before after count i room below
      (rw (← e, plain) (record { ends = ends; admitted = a; named = named })) r

  -- or one that refers to a table
  pub list_table : (before after : List Buffer) (count i : ℕ) (d : Descriptor) → d ≡ t i → count < n → i < n
      → d.indirect ≡ true → negotiated ≡ true
      → is_joined kind count d ≡ false
      → kind.HasBuffers m d.buffer.segment.addr d.buffer.segment.len before after
      → Reached m [] t n h count i before → ListResolves kind negotiated m t n h count i after
  list_table before after count i d e room below indirect known apart table r =
      list_ends before after count i room below
      (rw (← e, indirect) (record { known = known; apart = apart; table = table })) r

  -- it has n members and goes on
  pub list_full : (before : List Buffer) (count i : ℕ) → count ≡ n → Reached m [] t n h count i before
      → ListFails kind negotiated m t n h Loop
  list_full before count i e r = record {
    count = count;
    at = i;
    before = before;
    reached = r;
    most = omega (arith, e);
    full = λ _. refl;
    past = λ l _. absurd (omega (arith, l, e));
    plain = λ c _. absurd (omega (arith, c.room, e));
    indirect = λ c _. absurd (omega (arith, c.room, e));
  }

  -- it has fewer than n members, and fails at an index
  list_stops : (before : List Buffer) (count i : ℕ) (fault : Fault) → count < n
      → Reached m [] t n h count i before → (n ≤ i → fault ≡ Index)
      → (i < n → (t i).indirect ≡ false → Refuses m before (t i).buffer fault)
      → (i < n → (t i).indirect ≡ true → TableRefused kind negotiated m before count (t i) fault)
      → ListFails kind negotiated m t n h fault
  list_stops before count i fault room r past plain indirect = record {
    count = count;
    at = i;
    before = before;
    reached = r;
    most = omega (arith, room);
    full = λ e. absurd (omega (arith, e, room));
    past = λ _. past;
    plain = λ c. plain c.below;
    indirect = λ c. indirect c.below;
  }

  -- it leads to an index outside the table
  pub list_past : (before : List Buffer) (count i : ℕ) → count < n → n ≤ i → Reached m [] t n h count i before
      → ListFails kind negotiated m t n h Index
  list_past before count i room l r =
      list_stops before count i Index room r (λ _. refl) (λ below. absurd (omega (arith, below, l)))
      (λ below. absurd (omega (arith, below, l)))

  -- the buffer of the plain descriptor that comes next is refused
  pub list_refused : (before : List Buffer) (count i : ℕ) (d : Descriptor) (fault : Fault) → d ≡ t i
      → count < n → i < n → d.indirect ≡ false
      → Refuses m before d.buffer fault → Reached m [] t n h count i before
      → ListFails kind negotiated m t n h fault
  list_refused before count i d fault e room below plain refused r =
      let not : (t i).indirect ≡ false = ap (λ (d : Descriptor). d.indirect) (sym e) ∙ plain in
      list_stops before count i fault room r (λ l. absurd (omega (arith, below, l)))
      (λ _ _. rw e at refused) (λ _ is. cc (is, not))

  -- the descriptor that comes next refers to a table, and is refused
  pub list_table_refused : (before : List Buffer) (count i : ℕ) (d : Descriptor) (fault : Fault) → d ≡ t i
      → count < n → i < n → d.indirect ≡ true
      → TableRefused kind negotiated m before count d fault → Reached m [] t n h count i before
      → ListFails kind negotiated m t n h fault
  list_table_refused before count i d fault e room below indirect refused r =
      let is : (t i).indirect ≡ true = ap (λ (d : Descriptor). d.indirect) (sym e) ∙ indirect in
      list_stops before count i fault room r (λ l. absurd (omega (arith, below, l)))
      (λ _ not. cc (is, not)) (λ _ _. rw e at refused)

  -- its three faults
  pub table_unknown : (before : List Buffer) (count : ℕ) (d : Descriptor) → negotiated ≡ false
      → TableRefused kind negotiated m before count d NoIndirect
  table_unknown before count d e =
      record { unknown = λ _. refl; joined = λ k _. cc (e, k); faulty = λ k _. absurd (no e k) }
    where
      no : negotiated ≡ false → negotiated ≡ true → ⊥
      no e k = cc (e, k)

  pub table_joined : (before : List Buffer) (count : ℕ) (d : Descriptor) → negotiated ≡ true
      → is_joined kind count d ≡ true
      → TableRefused kind negotiated m before count d Joined
  table_joined before count d k j =
      record { unknown = λ e. cc (e, k); joined = λ _ _. refl; faulty = λ _ f. absurd (no f) }
    where
      no : is_joined kind count d ≡ false → ⊥
      no f = cc (j, f)

  pub table_faulty : (before left : List Buffer) (count : ℕ) (d : Descriptor) (fault : Fault)
      → negotiated ≡ true → is_joined kind count d ≡ false
      → kind.HasFault m d.buffer.segment.addr d.buffer.segment.len before fault left
      → TableRefused kind negotiated m before count d fault
  table_faulty before left count d fault k f fails =
      record {
        unknown = λ e. cc (e, k);
        joined = λ _ j. cc (j, f);
        faulty = λ _ _. record { left = left; table = fails };
      }

module _ (kind : TableKind) (one : HasOneTable kind) (negotiated : Bool) (m : Memory) (t : ℕ → Descriptor)
    (n h : ℕ) where
  -- no front passes the index at which a list fails
  fails_there : (fault : Fault) (x : ListFails kind negotiated m t n h fault) (ys : List ℕ) (j : ℕ)
      → AdmitsAll m [] (buffers_of t ys) → length ys ≤ n
      → (g : GoesOn t n x.at j x.reached.front ys) → g.rest ≡ []
  fails_there fault x ys j a l g =
      goes_no_further m [] t n x.count x.at j x.reached.front ys x.reached.counted
      (λ comes plain admits. Admits-Refuses m x.before (t x.at).buffer fault (rw x.reached.named admits)
      (x.plain comes plain)) a l g

  plain_end : (v : Bool) (before : List Buffer) (count : ℕ) (d : Descriptor) (after : List Buffer) → v ≡ false
      → EndsBy kind negotiated m v before count d after
      → EndsPlain m before d after
  plain_end false before count d after e x = x
  plain_end true before count d after e x = cc

  -- nor the last member of a list
  ends_there : (count last : ℕ) (buffers : List Buffer)
      (x : ListResolves kind negotiated m t n h count last buffers) (ys : List ℕ) (j : ℕ)
      → (g : GoesOn t n last j x.reached.front ys) → g.rest ≡ []
  ends_there count last buffers x ys j g = go g.rest g.leads
    where
      go : (rest : List ℕ) → Leads t n last rest j → rest ≡ []
      go [] p = refl
      go (z ∷ rest) p =
          let next : (t last).next ≡ Some (first_of rest j) = ap (λ k. (t k).next) p.0 ∙ p.1.next in
          let plain : (t last).indirect ≡ false = ap (λ k. (t k).indirect) p.0 ∙ p.1.plain in
          let ends : EndsPlain m x.before (t last) buffers =
          plain_end (t last).indirect x.before count (t last) buffers plain x.ends in
          cc (next, ends.ends)

  one_table_fault : (before : List Buffer) (count : ℕ) (d : Descriptor) (f g : Fault)
      → TableRefused kind negotiated m before count d f
      → TableRefused kind negotiated m before count d g → f ≡ g
  one_table_fault before count d f g x y = known negotiated refl
    where
      apart : (v : Bool) → negotiated ≡ true → is_joined kind count d ≡ v → f ≡ g
      apart true k e = x.joined k e ∙ sym (y.joined k e)
      apart false k e =
          let a = x.faulty k e in
          let b = y.faulty k e in
          (one.fault m d.buffer.segment.addr d.buffer.segment.len before a.left b.left f g a.table b.table).0

      known : (v : Bool) → negotiated ≡ v → f ≡ g
      known false e = x.unknown e ∙ sym (y.unknown e)
      known true e = apart (is_joined kind count d) e refl

  same_list_fault : (f g : Fault) (x : ListFails kind negotiated m t n h f)
      (y : ListFails kind negotiated m t n h g)
      → y.reached.front ≡ x.reached.front → x.at ≡ y.at → f ≡ g
  same_list_fault f g x y e i =
      elim (cases_eq x.count n) [
        | inl full ↦ x.full full ∙ sym (y.full (sym count ∙ full))
        | inr less ↦ elim (cases_lt x.at n) [
          | inr past ↦ let room : x.count < n = omega (arith, x.most, less) in x.past room past
              ∙ sym (y.past (rw count at room) (rw i at past))
          | inl below ↦ go (record { room = omega (arith, x.most, less); below = below })
              (t x.at).indirect refl
        ]
      ]
    where
      count : x.count ≡ y.count
      count = sym x.reached.counted ∙ ap (λ (l : List ℕ). length l) (sym e) ∙ y.reached.counted

      before : x.before ≡ y.before
      before = x.reached.named ∙ ap (λ (l : List ℕ). [] ++ buffers_of t l) (sym e) ∙ sym y.reached.named

      go : ComesNext n x.count x.at → (v : Bool) → (t x.at).indirect ≡ v → f ≡ g
      go c false p =
          let r : Refuses m x.before (t x.at).buffer g =
          rw (before, i) (y.plain (rw (count, i) at c) (rw i at p)) in
          Refuses-unique m x.before (t x.at).buffer f g (x.plain c p) r
      go c true p =
          let r : TableRefused kind negotiated m x.before x.count (t x.at) g =
          rw (before, count, i) (y.indirect (rw (count, i) at c) (rw i at p)) in
          one_table_fault x.before x.count (t x.at) f g (x.indirect c p) r

  -- there is one fault
  pub one_list_fault : (f g : Fault) → ListFails kind negotiated m t n h f
      → ListFails kind negotiated m t n h g → f ≡ g
  one_list_fault f g x y =
      let s = front_once t n h x.at y.at x.reached.front y.reached.front x.reached.leads y.reached.leads
      (fails_there f x y.reached.front y.at y.reached.admitted (omega (arith, y.most, y.reached.counted)))
      (fails_there g y x.reached.front x.at x.reached.admitted (omega (arith, x.most, x.reached.counted))) in
      same_list_fault f g x y s.0 s.1

  ends_once : (v : Bool) (before : List Buffer) (count : ℕ) (d : Descriptor) (a b : List Buffer)
      → EndsBy kind negotiated m v before count d a
      → EndsBy kind negotiated m v before count d b → a ≡ b
  ends_once false before count d a b x y = x.named ∙ sym y.named
  ends_once true before count d a b x y =
      one.buffers m d.buffer.segment.addr d.buffer.segment.len before a b x.table y.table

  same_list : (c k : ℕ) (i j : ℕ) (a b : List Buffer) (x : ListResolves kind negotiated m t n h c i a)
      (y : ListResolves kind negotiated m t n h k j b)
      → y.reached.front ≡ x.reached.front → i ≡ j → record { count : c ≡ k; last : i ≡ j; buffers : a ≡ b }
  same_list c k i j a b x y e p =
      let count : c ≡ k = sym x.reached.counted ∙ ap (λ (l : List ℕ). length l) (sym e) ∙ y.reached.counted in
      let before : x.before ≡ y.before = x.reached.named ∙ ap (λ (l : List ℕ). [] ++ buffers_of t l) (sym e)
      ∙ sym y.reached.named in
      let ends : EndsBy kind negotiated m (t j).indirect y.before k (t j) a =
      rw (← before, ← count, ← p) x.ends in
      record { count = count; last = p; buffers = ends_once (t j).indirect y.before k (t j) a b ends y.ends }

  -- there is one list
  pub one_list : (c k : ℕ) (i j : ℕ) (a b : List Buffer) → ListResolves kind negotiated m t n h c i a
      → ListResolves kind negotiated m t n h k j b
      → record { count : c ≡ k; last : i ≡ j; buffers : a ≡ b }
  one_list c k i j a b x y =
      let s = front_once t n h i j x.reached.front y.reached.front x.reached.leads y.reached.leads
      (ends_there c i a x y.reached.front j) (ends_there k j b y x.reached.front i) in
      same_list c k i j a b x y s.0 s.1

  -- a list that ends at an index doesn't fail there
  fails_or_ends : (f : Fault) (k j : ℕ) (b : List Buffer) (x : ListFails kind negotiated m t n h f)
      (y : ListResolves kind negotiated m t n h k j b)
      → y.reached.front ≡ x.reached.front → x.at ≡ j → ⊥
  fails_or_ends f k j b x y e i = go (t j).indirect refl y.ends
    where
      count : x.count ≡ k
      count = sym x.reached.counted ∙ ap (λ (l : List ℕ). length l) (sym e) ∙ y.reached.counted

      before : x.before ≡ y.before
      before = x.reached.named ∙ ap (λ (l : List ℕ). [] ++ buffers_of t l) (sym e) ∙ sym y.reached.named

      comes : ComesNext n x.count x.at
      comes = rw (count, i) y.comes

      go : (v : Bool) → (t j).indirect ≡ v → EndsBy kind negotiated m v y.before k (t j) b → ⊥
      go false p ends =
          let r : Refuses m y.before (t j).buffer f = rw (← before, ← i) (x.plain comes (rw i p)) in
          Admits-Refuses m y.before (t j).buffer f ends.admitted r
      go true p ends =
          let r : TableRefused kind negotiated m y.before k (t j) f =
          rw (← before, ← count, ← i) (x.indirect comes (rw i p)) in
          let w = r.faulty ends.known ends.apart in
          one.not_both m (t j).buffer.segment.addr (t j).buffer.segment.len y.before w.left b
          f w.table ends.table

  -- there isn't a list and a fault
  pub never_both_list : (f : Fault) (k j : ℕ) (b : List Buffer) → ListFails kind negotiated m t n h f
      → ListResolves kind negotiated m t n h k j b → ⊥
  never_both_list f k j b x y =
      let s = front_once t n h x.at j x.reached.front y.reached.front x.reached.leads y.reached.leads
      (fails_there f x y.reached.front j y.reached.admitted (omega (arith, y.comes.room, y.reached.counted)))
      (ends_there k j b y x.reached.front x.at) in
      fails_or_ends f k j b x y s.0 s.1

  -- no front with buffers that are admitted is longer than the one before a fault
  pub longest_list : (f : Fault) (found : ListFails kind negotiated m t n h f) (ys : List ℕ) (j : ℕ)
      → Leads t n h ys j → AdmitsAll m [] (buffers_of t ys) → length ys ≤ n → length ys ≤ found.count
  longest_list f found ys j p a l =
      let most = front_longest t n h found.at j found.reached.front ys found.reached.leads p
      (fails_there f found ys j a l) in
      omega (arith, most, found.reached.counted)

-- behind good buffers, those of a table of this kind make good ones
abbrev pub KeepsGood : TableKind → Type 0
KeepsGood kind = (m : Memory) (addr len : ℕ) (before after : List Buffer)
    → kind.HasBuffers m addr len before after → Good m before → Good m after

pub split_keeps_good : KeepsGood split_tables
split_keeps_good m addr len before after x g =
    let members = x.path.front ++ x.path.last ∷ [] in
    rw x.path.named (Good-append m before (buffers_of (split_table m addr) members) g x.path.admitted)

pub packed_keeps_good : KeepsGood packed_tables
packed_keeps_good m addr len before after x g =
    rw x.named (Good-append m before (packed_buffers m addr (len / 16)) g x.admitted)

-- and so the buffers of a list are good
pub list_is_good : (kind : TableKind) → KeepsGood kind
    → (negotiated : Bool) (m : Memory) (t : ℕ → Descriptor) (n h count last : ℕ) (buffers : List Buffer)
    → ListResolves kind negotiated m t n h count last buffers → Good m buffers
list_is_good kind keeps negotiated m t n h count last buffers x = by_end (t last).indirect x.ends
  where
    front : Good m x.before
    front = rw x.reached.named (Good-from_AdmitsAll m (buffers_of t x.reached.front) x.reached.admitted)

    by_end : (v : Bool) → EndsBy kind negotiated m v x.before count (t last) buffers → Good m buffers
    by_end false ends = rw ends.named
        (Good-append m x.before ((t last).buffer ∷ []) front (ends.admitted, tt))
    by_end true ends = keeps m (t last).buffer.segment.addr (t last).buffer.segment.len x.before
        buffers ends.table front
