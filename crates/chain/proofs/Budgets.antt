-- The pieces of a service within a budget: the step of every device's loop, its endings, and its pause.
use Rattle.std.proofs.Common.{◌≡◌, ◌↔◌, ℕ, ◌+◌, ◌-◌, Bool, true, false, Option, Some, None, List, [], ◌∷◌, ◌++◌, inl, inr, length, take, arith, refl, sym, ap, subst, ◌∙◌}
use Rattle.std.specs.Prelude.{◌&&◌, IsTrue}
use Rattle.std.proofs.lemmas.Bool.{cases_lt}
use Rattle.std.proofs.lemmas.List.{length_push, map-append, take-append-le}
use Rattle.std.proofs.lemmas.List.Sums.{sum_by_push}
use Rattle.std.proofs.Math.Seq.{take-append_seam}
use Rattle.guest_memory.specs.Memory.{Memory}
use Rattle.chain.specs.declared.budget.Budget.{Budget}
use Rattle.chain.specs.declared.segment.Buffer.{Buffer}
use Rattle.chain.specs.declared.fault.Fault.{Fault}
use Rattle.chain.specs.Budget.{AreWithin, IsSpent, bytes_of, chains_of, left_after, less, less_chain}
use Rattle.chain.specs.Buffers.{total_len}
use Rattle.chain.specs.Pieces.{EndsWithin, IsServiceWithin, Pauses, RunsWithin}
use Rattle.chain.specs.Service.{Entry, Kind, Device, Does, Ending, Spent, Faulted, Refused, Site, Served, IsEnding, ServesChain, after, stop, Course}
use Rattle.chain.proofs.Servicing.{both, ServesAll-push, service_from_fault}

-- ---- what is left of a budget

less_none : (limit : Option ℕ) → less limit 0 ≡ limit
less_none None = refl
less_none (Some n) = let e : n - 0 ≡ n = omega arith in ap (λ m. Some m) e

pub less_more : (limit : Option ℕ) (a b c : ℕ) → c ≡ a + b → less limit c ≡ less (less limit a) b
less_more None a b c e = refl
less_more (Some n) a b c e = let f : n - c ≡ (n - a) - b = omega (arith, e) in ap (λ m. Some m) f

pub left_begins : (budget : Budget) → left_after budget [] ≡ budget
left_begins budget = rw (less_none budget.chains, less_none budget.bytes) refl

left_push : (budget : Budget) (chains : List (List Buffer)) (buffers : List Buffer)
    → left_after budget (chains ++ buffers ∷ []) ≡ less_chain (left_after budget chains) buffers
left_push budget chains buffers =
    rw (
      less_more budget.chains (length chains) 1 (length (chains ++ buffers ∷ []))
          (length_push chains buffers),
      less_more budget.bytes (bytes_of chains) (total_len buffers) (bytes_of (chains ++ buffers ∷ []))
          (sum_by_push total_len chains buffers),
    ) refl

-- one more chain is within the budget that those before it hadn't spent
within_push : (budget : Budget) (chains : List (List Buffer)) (buffers : List Buffer)
    → AreWithin budget chains → ¬ IsSpent (left_after budget chains)
    → AreWithin budget (chains ++ buffers ∷ [])
within_push budget chains buffers within left n h =
    elim (cases_lt n (length chains)) [
      | inl sooner ↦ subst (λ l. ¬ IsSpent (left_after budget l))
          (sym (take-append-le n chains (buffers ∷ []) (omega (arith, sooner)))) (within n sooner)
      | inr last ↦
          let at : n ≡ length chains = omega (arith, h, length_push chains buffers, last) in
          subst (λ l. ¬ IsSpent (left_after budget l)) (sym (ap (λ k. take k (chains ++ buffers ∷ [])) at
          ∙ take-append_seam chains (buffers ∷ []))) left
    ]

-- what its test answers where something is left
pub some_left : (left : Budget) (spent : Bool) → (IsTrue spent ↔ IsSpent left)
    → spent ≡ false → ¬ IsSpent left
some_left left spent same e h = let t = same.1 h in cc

module _ {Ring State : Type 0} (kind : Kind Ring) (device : Device State) where
  -- These chains were served since the start, within the budget, and this is left of it.
  pub record IsInPiece (budget left : Budget) (start now : Site Ring State) : Type 0 where
    pub course : Course kind device start now
    pub within : AreWithin budget (chains_of course.chains)
    pub left_is : left ≡ left_after budget (chains_of course.chains)

  -- before the first chain
  pub piece_begins : (budget : Budget) (start : Site Ring State) → IsInPiece budget budget start start
  piece_begins budget start = record {
    course = record { chains = []; serves = refl };
    within = λ n h. absurd (omega (arith, h));
    left_is = sym (left_begins budget);
  }

  -- One more chain was taken, served and given back. This is the step of every device's loop.
  pub piece_goes_on : (budget left left' : Budget) (start : Site Ring State) (m served m' : Memory)
      (ring ring' : Ring) (s s' : State) (buffers : List Buffer) (entry : Entry) (len : ℕ) (any : Bool)
      → IsInPiece budget left start (record { memory = m; ring = ring; state = s })
      → ¬ IsSpent left → left' ≡ less_chain left buffers
      → device.takes s ≡ true → kind.offers m ring ≡ true → kind.Offers m ring buffers entry
      → Does device m served buffers s s' len any
      → m' ≡ kind.used served ring entry len any → ring' ≡ kind.past ring entry
      → IsInPiece budget left' start (record { memory = m'; ring = ring'; state = s' })
  piece_goes_on budget left left' start m served m' ring ring' s s' buffers entry len any p some spends takes
      offers offered d used past =
      let now : Site Ring State = record { memory = m; ring = ring; state = s } in
      let chain : Served State =
      record { buffers = buffers; entry = entry; given = record { state = s'; written = d.written } } in
      let serves : ServesChain kind device now chain =
      record {
        ready = both (device.takes s) (kind.offers m ring) takes offers;
        offered = offered;
        gives = d.gives;
        each = d.each;
      } in
      let pushed : chains_of (p.course.chains ++ chain ∷ []) ≡ chains_of p.course.chains ++ buffers ∷ [] =
      map-append (λ (s : Served State). s.buffers) p.course.chains (chain ∷ []) in
      let more : IsInPiece budget left' start (after kind device now chain) = record {
        course = record {
          chains = p.course.chains ++ chain ∷ [];
          serves = ServesAll-push kind device start now p.course.chains chain p.course.serves serves;
        };
        within = subst (AreWithin budget) (sym pushed)
            (within_push budget (chains_of p.course.chains) buffers p.within
            (subst (λ l. ¬ IsSpent l) p.left_is some));
        left_is = spends ∙ ap (λ l. less_chain l buffers) p.left_is
            ∙ sym (left_push budget (chains_of p.course.chains) buffers)
            ∙ ap (left_after budget) (sym pushed);
      } in
      rw (used, past, d.memory, d.len_is, d.any_is) more

  -- the piece that has come so far ends here
  piece_ends : (budget left : Budget) (start at : Site Ring State) (ending : Ending)
      → IsInPiece budget left start at → IsEnding kind device at ending → (ending ≡ Refused → ¬ IsSpent left)
      → RunsWithin kind device budget start ending (stop kind device at ending)
  piece_ends budget left start at ending p ends refused = record {
    runs = record { chains = p.course.chains; at = at; serves = p.course.serves; ends = ends; stands = refl };
    within = record { each = p.within; refused = λ e. subst (λ l. ¬ IsSpent l) p.left_is (refused e) };
  }

  -- No chain is on offer, or none is wanted.
  pub piece_runs_out : (budget left : Budget) (start : Site Ring State) (m : Memory) (ring last : Ring)
      (s : State) → IsInPiece budget left start (record { memory = m; ring = ring; state = s })
      → (device.takes s && kind.offers m ring) ≡ false → last ≡ ring
      → RunsWithin kind device budget start Spent (record { memory = m; ring = last; state = s })
  piece_runs_out budget left start m ring last s p none same =
      rw same (piece_ends budget left start (record { memory = m; ring = ring; state = s }) Spent p none (λ e. cc))

  -- The chain on offer has a fault.
  pub piece_runs_into : (budget left : Budget) (start : Site Ring State) (m : Memory) (ring last : Ring)
      (s : State) (fault : Fault)
      → IsInPiece budget left start (record { memory = m; ring = ring; state = s })
      → (device.takes s && kind.offers m ring) ≡ true → kind.HasFault m ring fault → last ≡ kind.stopped ring
      → RunsWithin kind device budget start (Faulted fault) (record { memory = m; ring = last; state = s })
  piece_runs_into budget left start m ring last s fault p ready has same =
      rw same (piece_ends budget left start (record { memory = m; ring = ring; state = s })
      (Faulted fault) p (ready, has) (λ e. cc))

  -- Nothing is left of the budget, and a chain is on offer.
  pub piece_pauses : (budget left : Budget) (start : Site Ring State) (m : Memory) (ring last : Ring)
      (s : State) (buffers : List Buffer) (entry : Entry)
      → IsInPiece budget left start (record { memory = m; ring = ring; state = s })
      → IsSpent left → (device.takes s && kind.offers m ring) ≡ true
      → kind.Offers m ring buffers entry → last ≡ ring
      → Pauses kind device budget start (record { memory = m; ring = last; state = s })
  piece_pauses budget left start m ring last s buffers entry p none ready offered same =
      let here : Pauses kind device budget start (record { memory = m; ring = ring; state = s }) = record {
        course = p.course;
        within = p.within;
        spent = subst (λ l. IsSpent l) p.left_is none;
        ready = ready;
        buffers = buffers;
        entry = entry;
        offered = offered;
      } in
      rw same here

  -- A piece that runs to the end goes there once its ring is closed.
  pub piece_closes : (budget : Budget) (start : Site Ring State) (served new : Memory) (left closed : Ring)
      (t : State) (ending : Ending) (wanted : Bool)
      → RunsWithin kind device budget start ending (record { memory = served; ring = left; state = t })
      → new ≡ kind.closed served left → closed ≡ kind.shut left → (IsTrue wanted ↔ kind.Wants new left)
      → EndsWithin kind device budget start (record { memory = new; ring = closed; state = t }) ending wanted
  piece_closes budget start served new left closed t ending wanted runs closes shuts wants = record {
    ends = record {
      last = record { memory = served; ring = left; state = t };
      runs = runs.runs;
      closed = rw (closes, shuts) refl;
      wanted_is = rw closes at wants;
    };
    within = runs.within;
  }

  -- After a fault of the opening the ring is closed at once.
  pub fault_within : (budget : Budget) (m new : Memory) (ring opened closed : Ring) (s : State)
      (fault : Fault) (wanted : Bool)
      → Some fault ≡ kind.opening_fault m ring → opened ≡ kind.opened m ring
      → new ≡ kind.closed m opened → closed ≡ kind.shut opened → (IsTrue wanted ↔ kind.Wants new opened)
      → IsServiceWithin kind device budget (record { memory = m; ring = ring; state = s })
      (record { memory = new; ring = closed; state = s }) (Faulted fault) wanted
  fault_within budget m new ring opened closed s fault wanted some opens closes shuts wants = record {
    service = service_from_fault kind device m new ring opened closed s fault wanted some opens
        closes shuts wants;
    within = λ none. absurd (cc (some, none));
  }
