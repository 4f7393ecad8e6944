-- A piece of a service within a budget has one outcome, of a device that decides: it pauses where it pauses, or ends so.
use Rattle.std.proofs.Common.{◌≡◌, ℕ, suc, Bool, Option, Some, None, List, [], ◌∷◌, inl, inr, length, take, arith, refl, sym, ap, subst, ◌∙◌}
use Rattle.std.specs.Prelude.{IsTrue, ◌↔◌}
use Rattle.std.proofs.lemmas.List.Sums.{sum_by-cons}
use Rattle.chain.specs.declared.budget.Budget.{Budget}
use Rattle.chain.specs.declared.segment.Buffer.{Buffer}
use Rattle.chain.specs.declared.fault.Fault.{Fault}
use Rattle.chain.specs.Budget.{AreWithin, IsSpent, bytes_of, chains_of, left_after, less_chain}
use Rattle.chain.specs.Buffers.{total_len}
use Rattle.chain.specs.Pieces.{BeginsWithin, EndsWithin, IsServiceWithin, Pauses}
use Rattle.chain.specs.Service.{Entry, Kind, Device, Ending, Spent, Faulted, Refused, Site, Served, IsReady, ServesChain, after, ServesAll, IsEnding, stop, open_site, close_site, IsService, Works, HasAtMostOneChain, HasAtMostOneAnswer, Decides}
use Rattle.chain.proofs.Budgets.{left_begins, less_more}
use Rattle.chain.proofs.Servicing.{ends_once, ends_or_serves, same_answer, serves_once}

-- ---- the first chain's part of a budget

left_cons : (budget : Budget) (buffers : List Buffer) (chains : List (List Buffer))
    → left_after budget (buffers ∷ chains) ≡ left_after (less_chain budget buffers) chains
left_cons budget buffers chains =
    rw (
      less_more budget.chains 1 (length chains) (length (buffers ∷ chains)) (omega arith),
      less_more budget.bytes (total_len buffers) (bytes_of chains) (bytes_of (buffers ∷ chains))
          (sum_by-cons total_len buffers chains),
    ) refl

within_head : (budget : Budget) (buffers : List Buffer) (chains : List (List Buffer))
    → AreWithin budget (buffers ∷ chains) → ¬ IsSpent budget
within_head budget buffers chains within =
    subst (λ l. ¬ IsSpent l) (left_begins budget) (within 0 (omega arith))

within_tail : (budget : Budget) (buffers : List Buffer) (chains : List (List Buffer))
    → AreWithin budget (buffers ∷ chains) → AreWithin (less_chain budget buffers) chains
within_tail budget buffers chains within n below =
    subst (λ l. ¬ IsSpent l) (left_cons budget buffers (take n chains)) (within (suc n) (omega (arith, below)))

-- ---- where a piece goes no further

-- A chain is on offer, and the budget is spent: so it pauses.
pub record HoldsOn {Ring State : Type 0} (kind : Kind Ring) (device : Device State) (left : Budget)
    (site : Site Ring State) : Type 0 where
  pub spent : IsSpent left
  pub ready : IsReady kind device site
  pub buffers : List Buffer
  pub entry : Entry
  pub offered : kind.Offers site.memory site.ring buffers entry

-- The service ends so. A chain isn't refused behind a spent budget.
pub record Stands {Ring State : Type 0} (kind : Kind Ring) (device : Device State) (left : Budget)
    (site : Site Ring State) (ending : Ending) : Type 0 where
  pub ends : IsEnding kind device site ending
  pub refused : ending ≡ Refused → ¬ IsSpent left

abbrev pub Halts : {Ring State : Type 0} → Kind Ring → Device State → Budget → Site Ring State → Option Ending → Type 0
Halts kind device left site None = HoldsOn kind device left site
Halts kind device left site (Some ending) = Stands kind device left site ending

module _ {Ring State : Type 0} (kind : Kind Ring) (device : Device State) (one_chain : HasAtMostOneChain kind)
    (one_answer : HasAtMostOneAnswer device) (decides : Decides device) where
  -- it doesn't hold on where it ends
  one_of_both : (left : Budget) (site : Site Ring State) (ending : Ending) → HoldsOn kind device left site
      → Stands kind device left site ending → ⊥
  one_of_both left site Spent p q = let ready = p.ready in let none = q.ends in cc
  one_of_both left site (Faulted f) p q =
      one_chain.not_both site.memory site.ring p.buffers p.entry f p.offered q.ends.1
  one_of_both left site Refused p q = q.refused refl p.spent

  halts_once : (left : Budget) (site : Site Ring State) (x y : Option Ending) → Halts kind device left site x
      → Halts kind device left site y → x ≡ y
  halts_once left site None None p q = refl
  halts_once left site None (Some f) p q = absurd (one_of_both left site f p q)
  halts_once left site (Some e) None p q = absurd (one_of_both left site e q p)
  halts_once left site (Some e) (Some f) p q =
      ap Some (ends_once kind device one_chain one_answer site e f p.ends q.ends)

  halts_or_serves : (left : Budget) (site : Site Ring State) (x : Option Ending) (s : Served State)
      → ¬ IsSpent left → Halts kind device left site x → ServesChain kind device site s → ⊥
  halts_or_serves left site None s some p q = some p.spent
  halts_or_serves left site (Some e) s some p q =
      ends_or_serves kind device one_chain one_answer site e s (λ _. decides) p.ends q

  -- The chains of a piece are these, and it halts in one way.
  pub piece_once : (budget : Budget) (start : Site Ring State) (cs ds : List (Served State)) (a b : Site Ring State)
      (x y : Option Ending)
      → AreWithin budget (chains_of cs) → AreWithin budget (chains_of ds)
      → ServesAll kind device start cs a → Halts kind device (left_after budget (chains_of cs)) a x
      → ServesAll kind device start ds b → Halts kind device (left_after budget (chains_of ds)) b y
      → (a ≡ b) × (x ≡ y)
  piece_once budget start [] [] a b x y n o p h q k =
      (sym p ∙ q, halts_once (left_after budget []) start x y (rw (← p) at h) (rw (← q) at k))
  piece_once budget start [] (d ∷ ds) a b x y n o p h q k =
      absurd (halts_or_serves budget start x d (within_head budget d.buffers (chains_of ds) o)
      (rw (← p, left_begins budget) at h) q.0)
  piece_once budget start (c ∷ cs) [] a b x y n o p h q k =
      absurd (halts_or_serves budget start y c (within_head budget c.buffers (chains_of cs) n)
      (rw (← q, left_begins budget) at k) p.0)
  piece_once budget start (c ∷ cs) (d ∷ ds) a b x y n o p h q k =
      let same : c ≡ d = serves_once kind device one_chain one_answer start c d p.0 q.0 in
      let q1 : ServesAll kind device (after kind device start c) ds b =
      subst (λ (d : Served State). ServesAll kind device (after kind device start d) ds b) (sym same) q.1 in
      let o1 : AreWithin (less_chain budget c.buffers) (chains_of ds) =
      subst (λ (d : Served State). AreWithin (less_chain budget d.buffers) (chains_of ds)) (sym same)
      (within_tail budget d.buffers (chains_of ds) o) in
      let k1 : Halts kind device (left_after (less_chain budget c.buffers) (chains_of ds)) b y =
      subst (λ (d : Served State). Halts kind device (left_after (less_chain budget d.buffers) (chains_of ds)) b y)
      (sym same) (subst (λ (l : Budget). Halts kind device l b y) (left_cons budget d.buffers (chains_of ds)) k) in
      piece_once (less_chain budget c.buffers) (after kind device start c) cs ds a b x y
      (within_tail budget c.buffers (chains_of cs) n) o1 p.1
      (subst (λ (l : Budget). Halts kind device l a x) (left_cons budget c.buffers (chains_of cs)) h) q1 k1

  -- ---- so of pieces behind a pause

  pub pauses_once : (budget : Budget) (start a b : Site Ring State) → Pauses kind device budget start a
      → Pauses kind device budget start b → a ≡ b
  pauses_once budget start a b p q = (piece_once budget start p.course.chains q.course.chains a b None None p.within
      q.within p.course.serves
      (record { spent = p.spent; ready = p.ready; buffers = p.buffers; entry = p.entry; offered = p.offered })
      q.course.serves
      (record { spent = q.spent; ready = q.ready; buffers = q.buffers; entry = q.entry; offered = q.offered })).0

  pub pauses_or_ends : (budget : Budget) (start a b : Site Ring State) (ending : Ending) (wanted : Bool)
      → Pauses kind device budget start a → EndsWithin kind device budget start b ending wanted → ⊥
  pauses_or_ends budget start a b ending wanted p q =
      let same = (piece_once budget start p.course.chains q.ends.runs.chains a q.ends.runs.at None (Some ending) p.within
      q.within.each p.course.serves
      (record { spent = p.spent; ready = p.ready; buffers = p.buffers; entry = p.entry; offered = p.offered })
      q.ends.runs.serves (record { ends = q.ends.runs.ends; refused = q.within.refused })).1 in
      cc

  pub ends_within_once : (budget : Budget) (start a b : Site Ring State) (e f : Ending) (v w : Bool)
      → EndsWithin kind device budget start a e v → EndsWithin kind device budget start b f w
      → record { site : a ≡ b; ending : e ≡ f; wanted : v ≡ w }
  ends_within_once budget start a b e f v w p q =
      let x = p.ends in
      let y = q.ends in
      let same = piece_once budget start x.runs.chains y.runs.chains x.runs.at y.runs.at (Some e) (Some f) p.within.each
      q.within.each x.runs.serves (record { ends = x.runs.ends; refused = p.within.refused })
      y.runs.serves (record { ends = y.runs.ends; refused = q.within.refused }) in
      let ending : e ≡ f = cc same.1 in
      let last : x.last ≡ y.last = x.runs.stands ∙ rw (same.0, ending) refl ∙ sym y.runs.stands in
      record {
        site = x.closed ∙ ap (close_site kind device) last ∙ sym y.closed;
        ending = ending;
        wanted = same_answer v w _ x.wanted_is (rw (← last) at y.wanted_is);
      }

  -- ---- and of first pieces

  pub begins_once : (budget : Budget) (old a b : Site Ring State) → BeginsWithin kind device budget old a
      → BeginsWithin kind device budget old b → a ≡ b
  begins_once budget old a b p q = pauses_once budget (open_site kind device old) a b p.pauses q.pauses

  pub begins_or_ends : (budget : Budget) (old a b : Site Ring State) (ending : Ending) (wanted : Bool)
      → BeginsWithin kind device budget old a → IsServiceWithin kind device budget old b ending wanted → ⊥
  begins_or_ends budget old a b ending wanted p q =
      pauses_or_ends budget (open_site kind device old) a b ending wanted p.pauses (q.within p.opens)

  whole_once : (fault : Option Fault) (budget : Budget) (old a b : Site Ring State) (e f : Ending) (v w : Bool)
      → kind.opening_fault old.memory old.ring ≡ fault
      → IsServiceWithin kind device budget old a e v → IsServiceWithin kind device budget old b f w
      → record { site : a ≡ b; ending : e ≡ f; wanted : v ≡ w }
  whole_once None budget old a b e f v w opens p q =
      ends_within_once budget (open_site kind device old) a b e f v w (p.within opens) (q.within opens)
  whole_once (Some fault) budget old a b e f v w opens p q =
      let x : Works kind device (Some fault) (open_site kind device old) e p.service.last = rw opens at p.service.works in
      let y : Works kind device (Some fault) (open_site kind device old) f q.service.last = rw opens at q.service.works in
      let last : p.service.last ≡ q.service.last = x.1 ∙ sym y.1 in
      record {
        site = p.service.closed ∙ ap (close_site kind device) last ∙ sym q.service.closed;
        ending = x.0 ∙ sym y.0;
        wanted = same_answer v w _ p.service.wanted_is (rw (← last) at q.service.wanted_is);
      }

  pub service_within_once : (budget : Budget) (old a b : Site Ring State) (e f : Ending) (v w : Bool)
      → IsServiceWithin kind device budget old a e v → IsServiceWithin kind device budget old b f w
      → record { site : a ≡ b; ending : e ≡ f; wanted : v ≡ w }
  service_within_once budget old a b e f v w =
      whole_once (kind.opening_fault old.memory old.ring) budget old a b e f v w refl
