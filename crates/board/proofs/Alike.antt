-- Pieces of a service, as its window shows them: of a device that does as another one does, and joined.
use Rattle.std.proofs.Common.{◌≡◌, ℕ, Bool, Option, Some, None, List, refl, sym, ap, subst, ◌∙◌}
use Rattle.std.specs.Prelude.{◌&&◌}
use Rattle.guest_memory.specs.Memory.{Memory}
use Rattle.chain.specs.declared.fault.Fault.{Fault}
use Rattle.chain.specs.declared.budget.Budget.{Budget}
use Rattle.chain.specs.declared.budget.Progress.{Progress}
use Rattle.chain.specs.declared.budget.Progress.TheVariants.{More, Done}
use Rattle.chain.specs.declared.segment.Buffer.{Buffer}
use Rattle.chain.specs.Budget.{AreWithin, IsSpent, chains_of, left_after}
use Rattle.chain.specs.Pieces.{EndsWithin, IsInBudget, IsServiceWithin, Pauses}
use Rattle.chain.specs.Service.{Device, Ending, Refused, Site, Spent, IsReady, open_site}
use Rattle.chain.proofs.Pieces.{CourseAlike, EndsAlikeBy, course_alike, end_alike, opened_to_end}
use Rattle.chain.proofs.Simulating.{DoesAs, ServedAs, moved, service_as}
use Rattle.mmio_window.specs.declared.queue.Queue.{Queue}
use Rattle.mmio_window.specs.declared.stage.Stage.{Stage}
use Rattle.mmio_window.specs.declared.stage.Stage.TheVariants.{First, Next}
use Rattle.mmio_window.specs.Queue.{queue_kind}
use Rattle.mmio_window.specs.Window.{WindowState}
use Rattle.mmio_window.specs.Pieces.{IsRefusedAt, ServesTo}
use Rattle.mmio_window.specs.Serving.{NothingHappens}

-- the other device is left in a like state, and served so
pub record AlikeTo {S T : Type 0} (Alike : S → T → Type 0) (s : S) (Served : T → Type 0) : Type 0 where
  pub state : T
  pub alike : Alike s state
  pub served : Served state

-- what follows of it in any state follows of it in that one
along : {S T : Type 0} {Alike : S → T → Type 0} {s : S} {P Q : T → Type 0} → AlikeTo Alike s P
    → ((t : T) → P t → Q t) → AlikeTo Alike s Q
along a f = record { state = a.state; alike = a.alike; served = f a.state a.served }

module _ {S T : Type 0} (device : Device S) (other : Device T) (Alike : S → T → Type 0)
    (likewise : DoesAs device other Alike) (budget : Budget) where
  -- the other device pauses in the same way
  abbrev PausedAs : Site Queue T → Site Queue S → Type 0
  PausedAs start now = AlikeTo Alike now.state (λ u. Pauses queue_kind other budget start (moved now u))

  ready_as : (now : Site Queue S) (t : T) → Alike now.state t → IsReady queue_kind device now
      → IsReady queue_kind other (moved now t)
  ready_as now t alike ready =
      ap (λ b. b && queue_kind.offers now.memory now.ring) (likewise.takes now.state t alike) ∙ ready

  pauses_as : (start now : Site Queue S) (t : T) → Alike start.state t
      → Pauses queue_kind device budget start now → PausedAs (moved start t) now
  pauses_as start now t alike p =
      let c : CourseAlike queue_kind other Alike (moved start t) now (chains_of p.course.chains) =
      course_alike queue_kind device other Alike likewise start now t alike p.course in
      record {
        state = c.state;
        alike = c.alike;
        served = record {
          course = c.course;
          within = subst (λ (chains : List (List Buffer)). AreWithin budget chains) (sym c.same) p.within;
          spent = subst (λ (chains : List (List Buffer)). IsSpent (left_after budget chains))
              (sym c.same) p.spent;
          ready = ready_as now c.state c.alike p.ready;
          buffers = p.buffers;
          entry = p.entry;
          offered = p.offered;
        };
      }

  -- or goes to the end
  abbrev EndedAs : Site Queue T → Site Queue S → Ending → Bool → Type 0
  EndedAs start new ending wanted =
      AlikeTo Alike new.state (λ u. EndsWithin queue_kind other budget start (moved new u) ending wanted)

  ends_as : (start new : Site Queue S) (t : T) (ending : Ending) (wanted : Bool) → Alike start.state t
      → EndsWithin queue_kind device budget start new ending wanted
      → EndedAs (moved start t) new ending wanted
  ends_as start new t ending wanted alike p =
      let e : EndsAlikeBy queue_kind other Alike (moved start t) new ending wanted
      (chains_of p.ends.runs.chains) =
      end_alike queue_kind device other Alike likewise start new t ending wanted alike p.ends in
      record {
        state = e.way.state;
        alike = e.way.alike;
        served = record {
          ends = e.way.ends;
          within = subst (λ (chains : List (List Buffer)). IsInBudget budget ending chains) (sym e.same) p.within;
        };
      }

  -- or is a service in one piece
  abbrev WholeAs : Site Queue T → Site Queue S → Ending → Bool → Type 0
  WholeAs old new ending wanted =
      AlikeTo Alike new.state (λ u. IsServiceWithin queue_kind other budget old (moved new u) ending wanted)

  whole_at : (fault : Option Fault) (old new : Site Queue S) (t : T) (ending : Ending) (wanted : Bool)
      → queue_kind.opening_fault old.memory old.ring ≡ fault → Alike old.state t
      → IsServiceWithin queue_kind device budget old new ending wanted
      → WholeAs (moved old t) new ending wanted
  whole_at None old new t ending wanted opens alike h =
      along (ends_as (open_site queue_kind device old) new t ending wanted alike (h.within opens))
      (λ u ends. record {
        service = opened_to_end queue_kind other (moved old t) (moved new u) ending wanted opens ends.ends;
        within = λ o. ends;
      })
  whole_at (Some fault) old new t ending wanted opens alike h =
      let w : ServedAs queue_kind device other Alike likewise (moved old t) new ending wanted =
      service_as queue_kind device other Alike likewise old new t ending wanted alike h.service in
      record {
        state = w.state;
        alike = w.alike;
        served = record { service = w.service; within = λ o. absurd (cc (o, opens)) };
      }

  -- or nothing happens
  idle_as : (ending : Ending) (old new : Memory) (before after : WindowState) (s s' : S) (t : T) → Alike s t
      → (ending ≡ Spent) × NothingHappens old new before after s s'
      → AlikeTo Alike s' (λ u. (ending ≡ Spent) × NothingHappens old new before after t u)
  idle_as ending old new before after s s' t alike idle = record {
    state = t;
    alike = subst (λ (x : S). Alike x t) (sym idle.1.state) alike;
    served = (idle.0, record { memory = idle.1.memory; window = idle.1.window; state = refl });
  }

  -- ---- as a window shows them

  abbrev pub PieceAs : Stage → ℕ → Option Queue → Progress → Memory → Memory → WindowState → WindowState → S
      → T → Type 0
  PieceAs stage q queue progress old new before after s' t =
      AlikeTo Alike s' (λ u. ServesTo stage other budget q queue progress old new before after t u)

  pub piece_as : (stage : Stage) (q : ℕ) (queue : Option Queue) (progress : Progress) (old new : Memory)
      (before after : WindowState) (s s' : S) (t : T) → Alike s t
      → ServesTo stage device budget q queue progress old new before after s s'
      → PieceAs stage q queue progress old new before after s' t
  piece_as First q None Done old new before after s s' t alike h =
      along (idle_as h.ending old new before after s s' t alike h.notified)
      (λ u idle. record { ending = h.ending; notified = idle })
  piece_as First q (Some queue) Done old new before after s s' t alike h =
      let n = h.notified in
      along (whole_at (queue_kind.opening_fault old queue) (record { memory = old; ring = queue; state = s })
      (record { memory = new; ring = n.last; state = s' }) t h.ending n.wanted refl alike n.service)
      (λ u service. record {
        ending = h.ending;
        notified = record { last = n.last; wanted = n.wanted; service = service; window = n.window };
      })
  piece_as First q None More old new before after s s' t alike h = absurd h
  piece_as First q (Some queue) More old new before after s s' t alike h =
      along (pauses_as (open_site queue_kind device (record { memory = old; ring = queue; state = s }))
      (record { memory = new; ring = h.last; state = s' }) t alike h.begins.pauses)
      (λ u pauses. record {
        last = h.last;
        begins = record { opens = h.begins.opens; pauses = pauses };
        window = h.window;
      })
  piece_as Next q None Done old new before after s s' t alike h =
      along (idle_as h.ending old new before after s s' t alike h.finished)
      (λ u idle. record { ending = h.ending; finished = idle })
  piece_as Next q (Some queue) Done old new before after s s' t alike h =
      let f = h.finished in
      along (ends_as (record { memory = old; ring = queue; state = s })
      (record { memory = new; ring = f.last; state = s' }) t h.ending f.wanted alike f.ends)
      (λ u ends. record {
        ending = h.ending;
        finished = record { last = f.last; wanted = f.wanted; ends = ends; window = f.window };
      })
  piece_as Next q None More old new before after s s' t alike h = absurd h
  piece_as Next q (Some queue) More old new before after s s' t alike h =
      along (pauses_as (record { memory = old; ring = queue; state = s })
      (record { memory = new; ring = h.last; state = s' }) t alike h.pauses)
      (λ u pauses. record { last = h.last; pauses = pauses; window = h.window })

  -- and one that is refused
  abbrev pub RefusedAs : Stage → ℕ → Option Queue → Memory → Memory → WindowState → WindowState → S → T
      → Type 0
  RefusedAs stage q queue old new before after s' t =
      AlikeTo Alike s' (λ u. IsRefusedAt stage other budget q queue old new before after t u)

  pub refused_as : (stage : Stage) (q : ℕ) (queue : Option Queue) (old new : Memory)
      (before after : WindowState) (s s' : S) (t : T) → Alike s t
      → IsRefusedAt stage device budget q queue old new before after s s'
      → RefusedAs stage q queue old new before after s' t
  refused_as First q None old new before after s s' t alike h = let never = h.0 in absurd (cc)
  refused_as First q (Some queue) old new before after s s' t alike h =
      along (whole_at (queue_kind.opening_fault old queue) (record { memory = old; ring = queue; state = s })
      (record { memory = new; ring = h.last; state = s' }) t Refused h.wanted refl alike h.service)
      (λ u service. record { last = h.last; wanted = h.wanted; service = service; window = h.window })
  refused_as Next q None old new before after s s' t alike h = let never = h.0 in absurd (cc)
  refused_as Next q (Some queue) old new before after s s' t alike h =
      along (ends_as (record { memory = old; ring = queue; state = s })
      (record { memory = new; ring = h.last; state = s' }) t Refused h.wanted alike h.ends)
      (λ u ends. record { last = h.last; wanted = h.wanted; ends = ends; window = h.window })
