-- A chain that its guest leaves alone while it is taken is one that a memory offers.
use Rattle.std.proofs.Common.{◌≡◌, ◌∙◌, ℕ, ◌+◌, ◌*◌, ◌≤◌, Bool, false, List, [], ◌∷◌, sym, ap, subst, arith}
use Rattle.guest_memory.specs.Memory.{Memory}
use Rattle.chain.specs.declared.segment.Buffer.{Buffer}
use Rattle.chain.specs.declared.fault.Fault.{Fault}
use Rattle.chain.specs.declared.state.RingState.{RingState}
use Rattle.chain.specs.Buffers.{Refuses}
use Rattle.chain.specs.Service.{Entry}
use Rattle.indirect.specs.declared.descriptor.Descriptor.{Descriptor}
use Rattle.indirect.specs.Descriptors.{split_descriptor}
use Rattle.indirect.specs.Walks.{Leads, first_of}
use Rattle.indirect.specs.Lists.{TableKind, split_tables, EndsBy, TableRefused, ListResolves, ListFails}
use Rattle.split_ring.specs.Ring.{head_of, table_of}
use Rattle.split_ring.specs.Kind.{entry_of, split_kind}
use Rattle.shared_memory.specs.Sightings.{Sightings, Loads, memory}
use Rattle.shared_memory.proofs.Sightings.{seen_still}
use Rattle.racing_ring.specs.Source.{Source, IsSeenInTurn}
use Rattle.racing_ring.specs.Table.{AreOne, IsTableSeen, read_split}
use Rattle.racing_ring.specs.Split.{IsOffered, IsFaulty}
use Rattle.racing_ring.proofs.Tables.{Agree, reached_kept}

-- the members of a front lie below n
agree_below : (t u : ℕ → Descriptor) (n h i : ℕ) (front : List ℕ) → AreOne n t u → Leads t n h front i → Agree t u front
agree_below t u n h i [] one l = tt
agree_below t u n h i (x ∷ front) one l =
    (one x l.1.below, agree_below t u n (first_of front i) i front one l.2)

-- a list through one table is one through another that agrees on its members
pub list_of_members : (kind : TableKind) (negotiated : Bool) (m : Memory) (t u : ℕ → Descriptor) (n h count last : ℕ) (buffers : List Buffer)
    (x : ListResolves kind negotiated m t n h count last buffers) → Agree t u x.reached.front → t last ≡ u last
    → ListResolves kind negotiated m u n h count last buffers
list_of_members kind negotiated m t u n h count last buffers x front end = record {
  before = x.before;
  reached = reached_kept m [] t u n h count last x.before x.reached front;
  comes = x.comes;
  ends = subst (λ (d : Descriptor). EndsBy kind negotiated m d.indirect x.before count d buffers) end x.ends;
}

pub list_kept : (kind : TableKind) (negotiated : Bool) (m : Memory) (t u : ℕ → Descriptor) (n h count last : ℕ) (buffers : List Buffer)
    → AreOne n t u → ListResolves kind negotiated m t n h count last buffers
    → ListResolves kind negotiated m u n h count last buffers
list_kept kind negotiated m t u n h count last buffers one x =
    list_of_members kind negotiated m t u n h count last buffers x
    (agree_below t u n h last x.reached.front one x.reached.leads) (one last x.comes.below)

pub fails_kept : (kind : TableKind) (negotiated : Bool) (m : Memory) (t u : ℕ → Descriptor) (n h : ℕ) (fault : Fault)
    → AreOne n t u → ListFails kind negotiated m t n h fault
    → ListFails kind negotiated m u n h fault
fails_kept kind negotiated m t u n h fault one x = record {
  count = x.count;
  at = x.at;
  before = x.before;
  reached = reached_kept m [] t u n h x.count x.at x.before x.reached
      (agree_below t u n h x.at x.reached.front one x.reached.leads);
  most = x.most;
  full = x.full;
  past = x.past;
  plain = λ c p. subst (λ (d : Descriptor). Refuses m x.before d.buffer fault) (one x.at c.below)
      (x.plain c (ap (λ (d : Descriptor). d.indirect) (one x.at c.below) ∙ p));
  indirect = λ c p. subst (λ (d : Descriptor). TableRefused kind negotiated m x.before x.count d fault)
      (one x.at c.below) (x.indirect c (ap (λ (d : Descriptor). d.indirect) (one x.at c.below) ∙ p));
}

-- the head and the descriptors stand as they were read when the memory is seen last
pub offered_at : (old new : Sightings) (ring : RingState) (buffers : List Buffer) (entry : Entry)
    (r : IsOffered old new ring buffers entry) → head_of r.head_in ring ≡ head_of (memory new) ring
    → AreOne ring.setup.size r.walked.table (table_of (memory new) ring)
    → split_kind.Offers (memory new) ring buffers entry
offered_at old new ring buffers entry r head one = record {
  count = r.walked.count;
  last = r.walked.last;
  list = subst (λ (h : ℕ). ListResolves split_tables ring.setup.indirect (memory new) (table_of (memory new) ring)
      ring.setup.size h r.walked.count r.walked.last buffers) head
      (list_kept split_tables ring.setup.indirect (memory new) r.walked.table (table_of (memory new) ring) ring.setup.size
      (head_of r.head_in ring) r.walked.count r.walked.last buffers one r.walked.resolves);
  entry_is = r.entry_is ∙ ap entry_of head;
}

pub faulty_at : (old new : Sightings) (ring : RingState) (fault : Fault)
    (r : IsFaulty old new ring fault) → head_of r.head_in ring ≡ head_of (memory new) ring
    → AreOne ring.setup.size r.walked.table (table_of (memory new) ring)
    → split_kind.HasFault (memory new) ring fault
faulty_at old new ring fault r head one =
    subst (λ (h : ℕ). ListFails split_tables ring.setup.indirect (memory new) (table_of (memory new) ring)
    ring.setup.size h fault) head
    (fails_kept split_tables ring.setup.indirect (memory new) r.walked.table (table_of (memory new) ring) ring.setup.size
    (head_of r.head_in ring) fault one r.walked.fails)

-- all that a guest which stands still is seen as is one memory
pub one_still : (old new : Sightings) → Loads false old new → memory new ≡ memory old
one_still old new loads = loads.interference new.now loads.later (omega arith)

-- and so is what a descriptor was read of
pub turn_still : (old new : Sightings) (begin : ℕ) (source : Source) → Loads false old new → old.now ≤ begin
    → IsSeenInTurn begin new source → (source.flags_in ≡ memory old) × (source.addr_in ≡ memory old)
turn_still old new begin source loads later s = (
  s.flags_is ∙ loads.interference s.flags_at (omega (arith, later, s.from)) (omega (arith, s.in_turn, s.to)),
  s.addr_is ∙ loads.interference s.addr_at (omega (arith, later, s.from, s.in_turn)) s.to,
)

table_still : (old new : Sightings) (begin addr n : ℕ) (table : ℕ → Descriptor) (m : Memory) → Loads false old new
    → old.now ≤ begin → m ≡ memory old → IsTableSeen begin new addr n table
    → AreOne n table (λ i. split_descriptor m (addr + 16 * i))
table_still old new begin addr n table m loads later same seen i below =
    let was = seen i below in
    let both = turn_still old new begin was.source loads later was.seen in
    let a = addr + 16 * i in
    was.is
    ∙ ap (λ (m : Memory). read_split (record { flags_in = m; addr_in = was.source.addr_in }) a) (both.0 ∙ sym same)
    ∙ ap (λ (n : Memory). read_split (record { flags_in = m; addr_in = n }) a) (both.1 ∙ sym same)

pub offered_still : (old new : Sightings) (ring : RingState) (buffers : List Buffer) (entry : Entry)
    → Loads false old new → IsOffered old new ring buffers entry
    → split_kind.Offers (memory old) ring buffers entry
offered_still old new ring buffers entry loads r =
    let one = one_still old new loads in
    let head = seen_still old new r.head_in loads r.head_seen in
    subst (λ (m : Memory). split_kind.Offers m ring buffers entry) one
    (offered_at old new ring buffers entry r (ap (λ (m : Memory). head_of m ring) (head ∙ sym one))
    (table_still old new r.head_seen.place ring.setup.desc ring.setup.size r.walked.table (memory new) loads
    r.head_seen.from one r.walked.table_seen))

pub faulty_still : (old new : Sightings) (ring : RingState) (fault : Fault) → Loads false old new
    → IsFaulty old new ring fault → split_kind.HasFault (memory old) ring fault
faulty_still old new ring fault loads r =
    let one = one_still old new loads in
    let head = seen_still old new r.head_in loads r.head_seen in
    subst (λ (m : Memory). split_kind.HasFault m ring fault) one
    (faulty_at old new ring fault r (ap (λ (m : Memory). head_of m ring) (head ∙ sym one))
    (table_still old new r.head_seen.place ring.setup.desc ring.setup.size r.walked.table (memory new) loads
    r.head_seen.from one r.walked.table_seen))
