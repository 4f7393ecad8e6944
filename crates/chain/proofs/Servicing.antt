-- One service of a queue, for every kind of ring and every device.
use Rattle.std.proofs.Common.{◌≡◌, ◌≢◌, ◌↔◌, ℕ, ◌≤◌, Bool, true, false, Option, Some, None, List, [], ◌∷◌, ◌++◌, refl, sym, ap, ◌∙◌, arith, subst}
use Rattle.std.specs.Prelude.{◌&&◌, IsTrue}
use Rattle.guest_memory.specs.Memory.{Memory}
use Rattle.chain.specs.declared.segment.Buffer.{Buffer}
use Rattle.chain.specs.declared.fault.Fault.{Fault}
use Rattle.chain.specs.Service.{Entry, Kind, Device, Given, Ending, Spent, Faulted, Refused, Site, Served, IsReady, ServesChain, after, ServesAll, IsEnding, stop, Runs, open_site, Works, close_site, IsService, IsRefusedService, HasAtMostOneChain, HasAtMostOneAnswer, Decides, IsExactUnless}

pub both : (a b : Bool) → a ≡ true → b ≡ true → (a && b) ≡ true
both a b p q = rw (p, q) refl

-- two tests of the same
pub same_answer : (a b : Bool) (P : Type 0) → IsTrue a ↔ P → IsTrue b ↔ P → a ≡ b
same_answer true true P x y = refl
same_answer true false P x y = sym (y.1 (x.0 refl))
same_answer false true P x y = x.1 (y.0 refl)
same_answer false false P x y = refl

same_served : {State : Type 0} (b c : List Buffer) (e f : Entry) (g h : Given State) → b ≡ c → e ≡ f → g ≡ h
    → ◌≡◌ {A = Served State} (record { buffers = b; entry = e; given = g })
    (record { buffers = c; entry = f; given = h })
same_served b c e f g h p q r = rw (p, q, r) refl

module _ {Ring State : Type 0} (kind : Kind Ring) (device : Device State) where
  -- one more chain at the end
  pub ServesAll-push : (old now : Site Ring State) (chains : List (Served State)) (s : Served State)
      → ServesAll kind device old chains now → ServesChain kind device now s
      → ServesAll kind device old (chains ++ s ∷ []) (after kind device now s)
  ServesAll-push old now [] s p q = rw p (q, refl)
  ServesAll-push old now (c ∷ chains) s p q =
      (p.0, ServesAll-push (after kind device old c) now chains s p.1 q)

  -- After a fault of the opening the ring is closed at once.
  pub service_from_fault : (m new : Memory) (ring opened closed : Ring) (s : State)
      (fault : Fault) (wanted : Bool)
      → Some fault ≡ kind.opening_fault m ring → opened ≡ kind.opened m ring
      → new ≡ kind.closed m opened → closed ≡ kind.shut opened → (IsTrue wanted ↔ kind.Wants new opened)
      → IsService kind device (record { memory = m; ring = ring; state = s })
      (record { memory = new; ring = closed; state = s }) (Faulted fault) wanted
  service_from_fault m new ring opened closed s fault wanted some opens closes shuts wants =
      let start : Site Ring State = open_site kind device (record { memory = m; ring = ring; state = s }) in
      record {
        last = start;
        works = subst (λ (f : Option Fault). Works kind device f start (Faulted fault)
            start) some (refl, refl);
        closed = rw (closes, shuts, opens) refl;
        wanted_is = rw (closes, opens) at wants;
      }

  -- A service that ends for want of memory leaves the chain on offer as it is, and is closed after those
  -- before.
  refused_works : (old last : Site Ring State) (fault : Option Fault)
      → Works kind device fault (open_site kind device old) Refused last
      → fault ≡ kind.opening_fault old.memory old.ring
      → record {
        run : Runs kind device (open_site kind device old) Refused last;
        opens : kind.opening_fault old.memory old.ring ≡ None;
      }
  refused_works old last (Some fault) w e = let f = w.0 in cc
  refused_works old last None w e = record { run = w; opens = sym e }

  pub refused_service : (old new : Site Ring State) (wanted : Bool)
      → IsService kind device old new Refused wanted → IsRefusedService kind device old new wanted
  refused_service old new wanted s =
      let w = refused_works old s.last (kind.opening_fault old.memory old.ring) s.works refl in
      record {
        chains = w.run.chains;
        at = w.run.at;
        opens = w.opens;
        serves = w.run.serves;
        leaves = w.run.ends;
        closed = s.closed ∙ ap (close_site kind device) w.run.stands;
        wanted_is = rw w.run.stands at s.wanted_is;
      }

  -- A service of a device that never lacks memory doesn't end so.
  pub never_refused : (old new : Site Ring State) (ending : Ending) (wanted : Bool)
      → ((s : State) (readable : List ℕ) (w : ℕ) → device.LacksMemory s readable w → ⊥)
      → IsService kind device old new ending wanted → ending ≢ Refused
  never_refused old new ending wanted never s e =
      let left = (refused_service old new wanted
      (subst (λ (f : Ending). IsService kind device old new f wanted) e s)).leaves in
      never _ _ _ left.lacks_memory

module _ {Ring State : Type 0} (kind : Kind Ring) (device : Device State) (one_chain : HasAtMostOneChain kind)
    (one_answer : HasAtMostOneAnswer device) where
  -- that the ending is decided: where it is for want of memory, the device decides
  abbrev IsDecided : Ending → Type 0
  IsDecided ending = ending ≡ Refused → Decides device

  -- a site that ends, which is decided, doesn't serve
  pub ends_or_serves : (site : Site Ring State) (ending : Ending) (s : Served State) → IsDecided ending
      → IsEnding kind device site ending → ServesChain kind device site s → ⊥
  ends_or_serves site Spent s d e q = cc (e, q.ready)
  ends_or_serves site (Faulted f) s d e q =
      one_chain.not_both site.memory site.ring s.buffers s.entry f q.offered e.1
  ends_or_serves site Refused s d e q =
      let b = one_chain.buffers site.memory site.ring s.buffers e.buffers s.entry e.entry
      q.offered e.offered in
      (d refl).never_both site.state _ _ s.given q.gives (rw (← b) at e.lacks_memory)

  -- it ends in one way
  pub ends_once : (site : Site Ring State) (e f : Ending) → IsEnding kind device site e
      → IsEnding kind device site f → e ≡ f
  ends_once site Spent Spent p q = refl
  ends_once site Spent (Faulted g) p q = cc (p, q.0)
  ends_once site (Faulted f) Spent p q = cc (p.0, q)
  ends_once site (Faulted f) (Faulted g) p q = ap Faulted (one_chain.fault site.memory site.ring f g p.1 q.1)
  ends_once site Refused Refused p q = refl
  ends_once site Spent Refused p q = cc (p, q.ready)
  ends_once site Refused Spent p q = cc (p.ready, q)
  ends_once site (Faulted f) Refused p q =
      absurd (one_chain.not_both site.memory site.ring q.buffers q.entry f q.offered p.1)
  ends_once site Refused (Faulted f) p q =
      absurd (one_chain.not_both site.memory site.ring p.buffers p.entry f p.offered q.1)

  -- it serves one chain
  pub serves_once : (site : Site Ring State) (s t : Served State) → ServesChain kind device site s
      → ServesChain kind device site t → s ≡ t
  serves_once site s t p q =
      let b = one_chain.buffers site.memory site.ring s.buffers t.buffers s.entry t.entry
      p.offered q.offered in
      let e = one_chain.entry site.memory site.ring s.buffers t.buffers s.entry t.entry p.offered q.offered in
      let g = one_answer.given site.state _ _ s.given t.given p.gives (rw (← b) at q.gives) in
      same_served s.buffers t.buffers s.entry t.entry s.given t.given b e g

  run_once : (start : Site Ring State) (cs ds : List (Served State)) (a b : Site Ring State) (e f : Ending)
      → IsDecided e → IsDecided f
      → ServesAll kind device start cs a → IsEnding kind device a e → ServesAll kind device start ds b
      → IsEnding kind device b f → (a ≡ b) × (e ≡ f)
  run_once start [] [] a b e f n o p x q y = (sym p ∙ q, ends_once start e f (rw (← p) at x) (rw (← q) at y))
  run_once start [] (d ∷ ds) a b e f n o p x q y = absurd (ends_or_serves start e d n (rw (← p) at x) q.0)
  run_once start (c ∷ cs) [] a b e f n o p x q y = absurd (ends_or_serves start f c o (rw (← q) at y) p.0)
  run_once start (c ∷ cs) (d ∷ ds) a b e f n o p x q y =
      let same = serves_once start c d p.0 q.0 in
      run_once (after kind device start c) cs ds a b e f n o p.1 x
      (subst (λ (d : Served State). ServesAll kind device (after kind device start d) ds
      b) (sym same) q.1) y

  works_once : (fault : Option Fault) (start a b : Site Ring State) (e f : Ending) → IsDecided e → IsDecided f
      → Works kind device fault start e a → Works kind device fault start f b → (a ≡ b) × (e ≡ f)
  works_once None start a b e f n o x y =
      let same = run_once start x.chains y.chains x.at y.at e f n o x.serves x.ends y.serves y.ends in
      (x.stands ∙ rw (same.0, same.1) refl ∙ sym y.stands, same.1)
  works_once (Some fault) start a b e f n o x y = (x.1 ∙ sym y.1, x.0 ∙ sym y.0)

  -- There is at most one service from a site whose ending is decided.
  one_service : (old a b : Site Ring State) (e f : Ending) (v w : Bool) → IsDecided e → IsDecided f
      → IsService kind device old a e v → IsService kind device old b f w
      → record { site : a ≡ b; ending : e ≡ f; wanted : v ≡ w }
  one_service old a b e f v w n o x y =
      let same = works_once (kind.opening_fault old.memory old.ring) (open_site kind device old) x.last y.last
      e f n o x.works y.works in
      record {
        site = x.closed ∙ rw same.0 refl ∙ sym y.closed;
        ending = same.1;
        wanted = same_answer v w _ x.wanted_is (rw (← same.0) at y.wanted_is);
      }

  -- There is at most one that doesn't end for want of memory.
  pub at_most_one_service : (old a b : Site Ring State) (e f : Ending) (v w : Bool)
      → e ≢ Refused → f ≢ Refused
      → IsService kind device old a e v → IsService kind device old b f w
      → record { site : a ≡ b; ending : e ≡ f; wanted : v ≡ w }
  at_most_one_service old a b e f v w n o =
      one_service old a b e f v w (λ r. absurd (n r)) (λ r. absurd (o r))

  -- There is at most one, however it ends, of a device that decides.
  pub one_decided_service : Decides device → (old a b : Site Ring State) (e f : Ending) (v w : Bool)
      → IsService kind device old a e v → IsService kind device old b f w
      → record { site : a ≡ b; ending : e ≡ f; wanted : v ≡ w }
  one_decided_service decides old a b e f v w = one_service old a b e f v w (λ _. decides) (λ _. decides)

module _ {Ring State : Type 0} (kind : Kind Ring) (device exact : Device State) (count : State → ℕ)
    (is_exact : IsExactUnless device exact count) where
  pub ready_exact : (site : Site Ring State) → IsReady kind device site → IsReady kind exact site
  ready_exact site h = rw (is_exact.takes site.state) at h

  -- the count doesn't fall along the chains
  ServesAll-rises : (start at : Site Ring State) (chains : List (Served State))
      → ServesAll kind device start chains at → count start.state ≤ count at.state
  ServesAll-rises start at [] p = rw p (omega arith)
  ServesAll-rises start at (s ∷ chains) p =
      let here = is_exact.rises start.state _ _ s.given p.0.gives in
      let rest = ServesAll-rises (after kind device start s) at chains p.1 in
      omega (arith, here, rest)

  -- where it stays, each chain was served exactly
  pub ServesAll-exact : (start at : Site Ring State) (chains : List (Served State))
      → count at.state ≡ count start.state → ServesAll kind device start chains at
      → ServesAll kind exact start chains at
  ServesAll-exact start at [] e p = p
  ServesAll-exact start at (s ∷ chains) e p =
      let here = is_exact.rises start.state _ _ s.given p.0.gives in
      let rest = ServesAll-rises (after kind device start s) at chains p.1 in
      let same : count s.given.state ≡ count start.state = omega (arith, here, rest, e) in (
        record {
          ready = ready_exact start p.0.ready;
          offered = p.0.offered;
          gives = is_exact.gives start.state _ _ s.given p.0.gives same;
          each = p.0.each;
        },
        ServesAll-exact (after kind device start s) at chains (e ∙ sym same) p.1,
      )

  pub IsEnding-exact : (site : Site Ring State) (ending : Ending) → ending ≢ Refused
      → IsEnding kind device site ending → IsEnding kind exact site ending
  IsEnding-exact site Spent n h = rw (is_exact.takes site.state) at h
  IsEnding-exact site (Faulted fault) n h = (ready_exact site h.0, h.1)
  IsEnding-exact site Refused n h = absurd (n refl)

  pub stop_state : (site : Site Ring State) (ending : Ending)
      → (stop kind device site ending).state ≡ site.state
  stop_state site Spent = refl
  stop_state site (Faulted fault) = refl
  stop_state site Refused = refl

  pub stop_exact : (site : Site Ring State) (ending : Ending)
      → stop kind device site ending ≡ stop kind exact site ending
  stop_exact site Spent = refl
  stop_exact site (Faulted fault) = refl
  stop_exact site Refused = refl

  works_exact : (fault : Option Fault) (start last : Site Ring State) (ending : Ending) → ending ≢ Refused
      → count last.state ≡ count start.state
      → Works kind device fault start ending last → Works kind exact fault start ending last
  works_exact (Some fault) start last ending n e w = w
  works_exact None start last ending n e w =
      let at : count w.at.state ≡ count start.state = ap count (sym (stop_state w.at ending))
      ∙ ap (λ (s : Site Ring State). count s.state) (sym w.stands) ∙ e in
      record {
        chains = w.chains;
        at = w.at;
        serves = ServesAll-exact start w.at w.chains at w.serves;
        ends = IsEnding-exact w.at ending n w.ends;
        stands = w.stands ∙ stop_exact w.at ending;
      }

  -- A service of a device that may fail, in which the count of its failures stayed and no chain was left for
  -- want of memory, is a service of the exact device.
  pub exact_service : (old new : Site Ring State) (ending : Ending) (wanted : Bool) → ending ≢ Refused
      → count new.state ≡ count old.state
      → IsService kind device old new ending wanted → IsService kind exact old new ending wanted
  exact_service old new ending wanted n e s =
      let same : count s.last.state ≡ count old.state =
      ap (λ (x : Site Ring State). count x.state) (sym s.closed) ∙ e in
      record {
        last = s.last;
        works = works_exact (kind.opening_fault old.memory old.ring) (open_site kind device old) s.last
            ending n same s.works;
        closed = s.closed;
        wanted_is = s.wanted_is;
      }
