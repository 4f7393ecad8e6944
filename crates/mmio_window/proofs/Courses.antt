-- A service in its course, of any device: the chains so far, and what stays along them.
use Rattle.std.proofs.Common.{◌≡◌, ℕ, Bool, true, false, Some, None, List, refl, ap, subst, ◌∙◌}
use Rattle.std.specs.Prelude.{◌&&◌}
use Rattle.guest_memory.specs.Memory.{Memory, SameRange}
use Rattle.guest_memory.proofs.Ranges.{same_trans}
use Rattle.chain.specs.declared.segment.Buffer.{Buffer}
use Rattle.chain.specs.declared.fault.Fault.{Fault}
use Rattle.chain.specs.declared.budget.Budget.{Budget}
use Rattle.chain.specs.Budget.{IsSpent, less_chain}
use Rattle.chain.specs.Buffers.{Good}
use Rattle.chain.specs.Service.{Entry, Device, Does}
use Rattle.chain.proofs.Budgets.{IsInPiece, piece_begins, piece_goes_on, piece_pauses, piece_runs_into, piece_runs_out}
use Rattle.chain.proofs.Servicing.{both}
use Rattle.mmio_window.specs.declared.service.Stop.TheVariants.{Pause, End}
use Rattle.mmio_window.specs.declared.queue.Queue.{Queue}
use Rattle.mmio_window.specs.declared.queue.Token.{Token}
use Rattle.mmio_window.specs.Leaving.{IsLeftAt, Stops, site_at}
use Rattle.mmio_window.specs.Queue.{IsTaken, LiesIn, entry_of, made_as, queue_kind}

-- chains were served within the budget since the piece began, and this is left of it
pub record IsInCourse {State : Type 0} (device : Device State) (budget left : Budget) (start now : Memory)
    (first queue : Queue) (s s' : State) : Type 0 where
  pub piece : IsInPiece queue_kind device budget left (site_at start first s) (site_at now queue s')
  pub range : SameRange start now
  pub lies : LiesIn now queue
  pub made : made_as queue ≡ made_as first

module _ {State : Type 0} (device : Device State) where
  pub in_course_begins : (budget : Budget) (m : Memory) (queue : Queue) (s : State) → LiesIn m queue
      → IsInCourse device budget budget m m queue queue s s
  in_course_begins budget m queue s lies = record {
    piece = piece_begins queue_kind device budget (site_at m queue s);
    range = record { base = refl; size = refl; gaps = refl };
    lies = lies;
    made = refl;
  }

  -- one more chain is taken, served and given back
  pub in_course_goes_on : (budget left left' : Budget) (start m served m' : Memory)
      (first queue taken queue' : Queue) (s t t' : State) (buffers : List Buffer) (entry : Entry)
      (len : ℕ) (any : Bool)
      → IsInCourse device budget left start m first queue s t → ¬ IsSpent left
      → left' ≡ less_chain left buffers → device.takes t ≡ true
      → queue_kind.offers m queue ≡ true → queue_kind.Offers m queue buffers entry → taken ≡ queue
      → Does device m served buffers t t' len any
      → m' ≡ queue_kind.used served taken entry len any → queue' ≡ queue_kind.past taken entry
      → SameRange m served → SameRange served m' → LiesIn m' queue' → made_as queue' ≡ made_as taken
      → IsInCourse device budget left' start m' first queue' s t'
  in_course_goes_on budget left left' start m served m' first queue taken queue' s t t' buffers entry len any
      h some spends takes offers offered same does used past range range' lies made = record {
        piece = piece_goes_on queue_kind device budget left left' (site_at start first s) m
            served m' queue queue'
            t t' buffers entry len any
            h.piece some spends takes offers offered does
            (used ∙ ap (λ q. queue_kind.used served q entry len any) same) (past
            ∙ ap (λ q. queue_kind.past q entry) same);
        range = same_trans start m m' h.range (same_trans m served m' range range');
        lies = lies;
        made = made ∙ ap made_as same ∙ h.made;
      }

  -- no chain is taken, or none is on offer
  not_taken : (t : State) (offers : Bool) → device.takes t ≡ false → (device.takes t && offers) ≡ false
  not_taken t offers e = rw e refl

  not_offered : (t : State) (offers : Bool) → device.takes t ≡ true → offers ≡ false
      → (device.takes t && offers) ≡ false
  not_offered t offers e f = rw (e, f) refl

module _ {State : Type 0} {device : Device State} {budget left : Budget} {start m : Memory}
    {first queue : Queue} {s t : State} (h : IsInCourse device budget left start m first queue s t) where
  pub stops_unwanted : device.takes t ≡ false
      → Stops device budget (site_at start first s) (site_at m queue t) (End None)
  stops_unwanted none =
      piece_runs_out queue_kind device budget left (site_at start first s) m queue queue t h.piece
      (not_taken device t (queue_kind.offers m queue) none) refl

  pub stops_spent : (last : Queue) → device.takes t ≡ true → queue_kind.offers m queue ≡ false → last ≡ queue
      → Stops device budget (site_at start first s) (site_at m last t) (End None)
  stops_spent last takes none same =
      piece_runs_out queue_kind device budget left (site_at start first s) m queue last t h.piece
      (not_offered device t (queue_kind.offers m queue) takes none) same

  -- the chain on offer has a fault
  pub stops_by_fault : (last : Queue) (fault : Fault) → device.takes t ≡ true
      → queue_kind.offers m queue ≡ true → queue_kind.HasFault m queue fault → last ≡ queue_kind.stopped queue
      → Stops device budget (site_at start first s) (site_at m last t) (End (Some fault))
  stops_by_fault last fault takes offers has same =
      piece_runs_into queue_kind device budget left (site_at start first s) m queue last t fault h.piece
      (both (device.takes t) (queue_kind.offers m queue) takes offers) has same

  -- nothing is left of the budget
  pub stops_paused : (last : Queue) (buffers : List Buffer) (entry : Entry) → IsSpent left
      → device.takes t ≡ true → queue_kind.offers m queue ≡ true
      → queue_kind.Offers m queue buffers entry → last ≡ queue
      → Stops device budget (site_at start first s) (site_at m last t) Pause
  stops_paused last buffers entry spent takes offers offered same =
      piece_pauses queue_kind device budget left (site_at start first s) m queue last t buffers entry h.piece
      spent (both (device.takes t) (queue_kind.offers m queue) takes offers) offered same

  -- the device leaves it on offer
  pub left_at : {E : Type 0} (Refuses : State → Memory → List Buffer → E → Type 0) (m' : Memory)
      (last : Queue) (t' : State) (buffers : List Buffer) (token : Token) (why : E) (left' : Budget)
      → ¬ IsSpent left → left' ≡ less_chain left buffers → device.takes t ≡ true → queue_kind.offers m queue ≡ true
      → queue_kind.Offers m queue buffers (entry_of token) → IsTaken queue token → Good m buffers
      → Refuses t m buffers why → m' ≡ m → t' ≡ t → last ≡ queue
      → IsLeftAt device Refuses budget (site_at start first s) (site_at m' last t') buffers
      (record { token = token; why = why; left = left' })
  left_at {E} Refuses m' last t' buffers token why left' some spends takes offers offered named good refuses
      unwritten kept same =
      let here : IsLeftAt device Refuses budget (site_at start first s) (site_at m queue t) buffers
      (record { token = token; why = why; left = left' }) = record {
        course = h.piece.course;
        within = h.piece.within;
        unspent = subst (λ l. ¬ IsSpent l) h.piece.left_is some;
        ready = both (device.takes t) (queue_kind.offers m queue) takes offers;
        offered = offered;
        taken = named;
        good = good;
        refuses = refuses;
        left = spends ∙ ap (λ l. less_chain l buffers) h.piece.left_is;
      } in
      rw (unwritten, kept, same) here
