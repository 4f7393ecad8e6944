-- A piece of a service of a window's queue comes to one thing, of a device that decides: it pauses, or ends so.
use Rattle.std.proofs.Common.{◌≡◌, ℕ, Bool, Option, Some, None, refl, sym, ap, ◌∙◌}
use Rattle.guest_memory.specs.Memory.{Memory}
use Rattle.chain.specs.declared.budget.Budget.{Budget}
use Rattle.chain.specs.declared.budget.Progress.{Progress}
use Rattle.chain.specs.declared.budget.Progress.TheVariants.{More, Done}
use Rattle.chain.specs.Service.{Decides, Device, Ending, HasAtMostOneAnswer, Refused, Site}
use Rattle.chain.proofs.OnePiece.{begins_once, begins_or_ends, ends_within_once, pauses_once, pauses_or_ends, service_within_once}
use Rattle.chain.proofs.Simulating.{DoesAs}
use Rattle.mmio_window.specs.declared.queue.Queue.{Queue}
use Rattle.mmio_window.specs.declared.stage.Stage.{Stage}
use Rattle.mmio_window.specs.declared.stage.Stage.TheVariants.{First, Next}
use Rattle.mmio_window.specs.Leaving.{site_at}
use Rattle.mmio_window.specs.Pieces.{CompletesAt, EndsAt, IsFinishedWithin, IsNotifiedWithin, PausesAt, PieceTo, SamePiece, ServesTo}
use Rattle.mmio_window.specs.Queue.{queue_kind}
use Rattle.mmio_window.specs.Serving.{NothingHappens, after_service}
use Rattle.mmio_window.specs.Window.{WindowState, with_ring}
use Rattle.mmio_window.proofs.QueueKind.{has_at_most_one_chain}

module _ {State : Type 0} (device : Device State) (once : HasAtMostOneAnswer device) (decides : Decides device)
    (budget : Budget) (q : ℕ) where
  -- ---- how it leaves its queue

  pauses_at_once : (stage : Stage) (old a b : Site Queue State) → PausesAt stage device budget old a
      → PausesAt stage device budget old b → a ≡ b
  pauses_at_once First old a b = begins_once queue_kind device has_at_most_one_chain once decides budget old a b
  pauses_at_once Next old a b = pauses_once queue_kind device has_at_most_one_chain once decides budget old a b

  pauses_or_ends_at : (stage : Stage) (old a b : Site Queue State) (ending : Ending) (wanted : Bool)
      → PausesAt stage device budget old a → EndsAt stage device budget old b ending wanted → ⊥
  pauses_or_ends_at First old a b ending wanted =
      begins_or_ends queue_kind device has_at_most_one_chain once decides budget old a b ending wanted
  pauses_or_ends_at Next old a b ending wanted =
      pauses_or_ends queue_kind device has_at_most_one_chain once decides budget old a b ending wanted

  ends_at_once : (stage : Stage) (old a b : Site Queue State) (e f : Ending) (v w : Bool)
      → EndsAt stage device budget old a e v → EndsAt stage device budget old b f w
      → record { site : a ≡ b; ending : e ≡ f; wanted : v ≡ w }
  ends_at_once First old a b e f v w =
      service_within_once queue_kind device has_at_most_one_chain once decides budget old a b e f v w
  ends_at_once Next old a b e f v w =
      ends_within_once queue_kind device has_at_most_one_chain once decides budget old a b e f v w

  -- ---- what the window shows

  record Paused (stage : Stage) (queue : Queue) (old new : Memory) (before after : WindowState) (s s' : State)
      : Type 0 where
    last : Queue
    pauses : PausesAt stage device budget (site_at old queue s) (site_at new last s')
    window : after ≡ with_ring q before last

  paused : (stage : Stage) (queue : Queue) (old new : Memory) (before after : WindowState) (s s' : State)
      → ServesTo stage device budget q (Some queue) More old new before after s s'
      → Paused stage queue old new before after s s'
  paused First queue old new before after s s' h = record { last = h.last; pauses = h.begins; window = h.window }
  paused Next queue old new before after s s' h = record { last = h.last; pauses = h.pauses; window = h.window }

  record Ended (stage : Stage) (queue : Queue) (ending : Ending) (old new : Memory) (before after : WindowState)
      (s s' : State) : Type 0 where
    last : Queue
    wanted : Bool
    ends : EndsAt stage device budget (site_at old queue s) (site_at new last s') ending wanted
    window : after ≡ after_service ending wanted (with_ring q before last)

  ended : (stage : Stage) (queue : Queue) (ending : Ending) (old new : Memory) (before after : WindowState)
      (s s' : State) → CompletesAt stage device budget q (Some queue) ending old new before after s s'
      → Ended stage queue ending old new before after s s'
  ended First queue ending old new before after s s' h =
      record { last = h.last; wanted = h.wanted; ends = h.service; window = h.window }
  ended Next queue ending old new before after s s' h =
      record { last = h.last; wanted = h.wanted; ends = h.ends; window = h.window }

  never_without : (stage : Stage) (old new : Memory) (before after : WindowState) (s s' : State)
      → ServesTo stage device budget q None More old new before after s s' → ⊥
  never_without First old new before after s s' h = h
  never_without Next old new before after s s' h = h

  nothing : (stage : Stage) (ending : Ending) (old new : Memory) (before after : WindowState) (s s' : State)
      → CompletesAt stage device budget q None ending old new before after s s'
      → (ending ≡ Ending.Spent) × NothingHappens old new before after s s'
  nothing First ending old new before after s s' h = h
  nothing Next ending old new before after s s' h = h

  module _ (stage : Stage) (old m n : Memory) (before v w : WindowState) (s0 s t : State) where
    both_pause : (queue : Queue) → Paused stage queue old m before v s0 s → Paused stage queue old n before w s0 t
        → SamePiece None None m n v w s t
    both_pause queue x y =
        let same : site_at m x.last s ≡ site_at n y.last t =
        pauses_at_once stage (site_at old queue s0) (site_at m x.last s) (site_at n y.last t) x.pauses y.pauses in
        record {
          how = refl;
          memory = ap (λ (z : Site Queue State). z.memory) same;
          window = x.window ∙ ap (λ (z : Site Queue State). with_ring q before z.ring) same ∙ sym y.window;
          state = ap (λ (z : Site Queue State). z.state) same;
        }

    both_end : (queue : Queue) (e f : Ending) → Ended stage queue e old m before v s0 s
        → Ended stage queue f old n before w s0 t → SamePiece (Some e) (Some f) m n v w s t
    both_end queue e f x y =
        let same = ends_at_once stage (site_at old queue s0) (site_at m x.last s) (site_at n y.last t) e f x.wanted
        y.wanted x.ends y.ends in
        record {
          how = ap Some same.ending;
          memory = ap (λ (z : Site Queue State). z.memory) same.site;
          window = x.window
              ∙ (ap (λ (z : Site Queue State). after_service e x.wanted (with_ring q before z.ring)) same.site
              ∙ (ap (λ (k : Ending). after_service k x.wanted (with_ring q before y.last)) same.ending
              ∙ (ap (λ (b : Bool). after_service f b (with_ring q before y.last)) same.wanted ∙ sym y.window)));
          state = ap (λ (z : Site Queue State). z.state) same.site;
        }

    neither : (queue : Queue) (e : Ending) (m' : Memory) (v' : WindowState) (s' : State)
        → Paused stage queue old m before v s0 s → Ended stage queue e old m' before v' s0 s' → ⊥
    neither queue e m' v' s' x y =
        pauses_or_ends_at stage (site_at old queue s0) (site_at m x.last s) (site_at m' y.last s') e y.wanted x.pauses
        y.ends

  -- The lemma: one outcome.
  pub piece_is_one : (stage : Stage) (found : Option Queue) (x y : Option Ending) (old m n : Memory)
      (before v w : WindowState) (s0 s t : State)
      → PieceTo stage device budget q found x old m before v s0 s
      → PieceTo stage device budget q found y old n before w s0 t → SamePiece x y m n v w s t
  piece_is_one stage None None y old m n before v w s0 s t a b =
      absurd (never_without stage old m before v s0 s a)
  piece_is_one stage None (Some e) None old m n before v w s0 s t a b =
      absurd (never_without stage old n before w s0 t b)
  piece_is_one stage None (Some e) (Some f) old m n before v w s0 s t a b =
      let x = nothing stage e old m before v s0 s a in
      let y = nothing stage f old n before w s0 t b in
      record {
        how = ap Some (x.0 ∙ sym y.0);
        memory = x.1.memory ∙ sym y.1.memory;
        window = x.1.window ∙ sym y.1.window;
        state = x.1.state ∙ sym y.1.state;
      }
  piece_is_one stage (Some queue) None None old m n before v w s0 s t a b =
      both_pause stage old m n before v w s0 s t queue (paused stage queue old m before v s0 s a)
      (paused stage queue old n before w s0 t b)
  piece_is_one stage (Some queue) None (Some f) old m n before v w s0 s t a b =
      absurd (neither stage old m n before v w s0 s t queue f n w t (paused stage queue old m before v s0 s a)
      (ended stage queue f old n before w s0 t b))
  piece_is_one stage (Some queue) (Some e) None old m n before v w s0 s t a b =
      absurd (neither stage old n n before w w s0 t t queue e m v s (paused stage queue old n before w s0 t b)
      (ended stage queue e old m before v s0 s a))
  piece_is_one stage (Some queue) (Some e) (Some f) old m n before v w s0 s t a b =
      both_end stage old m n before v w s0 s t queue e f (ended stage queue e old m before v s0 s a)
      (ended stage queue f old n before w s0 t b)
