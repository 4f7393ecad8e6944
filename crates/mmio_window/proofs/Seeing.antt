-- A device whose state is seen through a function as that of another device, as an image is seen as a disk:
-- each piece of a service of the one is one of the other.
use Rattle.std.proofs.Common.{◌≡◌, ℕ, Bool, Option, Some, None, List, refl, sym, ap, subst, ◌∙◌}
use Rattle.std.specs.Prelude.{◌&&◌}
use Rattle.guest_memory.specs.Memory.{Memory}
use Rattle.chain.specs.declared.budget.Budget.{Budget}
use Rattle.chain.specs.declared.budget.Progress.{Progress}
use Rattle.chain.specs.declared.budget.Progress.TheVariants.{More, Done}
use Rattle.chain.specs.declared.segment.Buffer.{Buffer}
use Rattle.chain.specs.Budget.{AreWithin, IsSpent, chains_of, left_after}
use Rattle.chain.specs.Pieces.{BeginsWithin, EndsWithin, IsInBudget, IsServiceWithin, Pauses}
use Rattle.chain.specs.Service.{Course, Device, Ending, IsService, ServesAll, Served, Site, open_site, stop}
use Rattle.chain.proofs.Simulating.{DoesAs, ServedAlike, ServedAs, ending_as, moved, serves_as, service_as, stop_as, stop_state}
use Rattle.mmio_window.specs.declared.queue.Queue.{Queue}
use Rattle.mmio_window.specs.declared.stage.Stage.{Stage}
use Rattle.mmio_window.specs.declared.stage.Stage.TheVariants.{First, Next}
use Rattle.mmio_window.specs.Leaving.{site_at}
use Rattle.mmio_window.specs.Pieces.{CompletesAt, EndsAt, PausesAt, ServesTo}
use Rattle.mmio_window.specs.Queue.{queue_kind}
use Rattle.mmio_window.specs.Window.{WindowState}
use Rattle.mmio_window.proofs.Stages.{completes_as, pauses_as}

module _ {S T : Type 0} (device : Device S) (other : Device T) (seen : S → T)
    (likewise : DoesAs device other (λ s t. t ≡ seen s)) where
  -- where it stands, with the other device's state
  abbrev at : Site Queue S → Site Queue T
  at site = moved site (seen site.state)

  -- the chains of the one are chains of the other, of the same buffers
  record SeenChains (start now : Site Queue S) (buffers : List (List Buffer)) : Type 0 where
    chains : List (Served T)
    serves : ServesAll queue_kind other (at start) chains (at now)
    same : chains_of chains ≡ buffers

  chains_seen : (start now : Site Queue S) (chains : List (Served S))
      → ServesAll queue_kind device start chains now → SeenChains start now (chains_of chains)
  chains_seen start now chains serves =
      let served : ServedAlike queue_kind device other (λ s t. t ≡ seen s) likewise (at start) now
      (chains_of chains) =
      serves_as queue_kind device other (λ s t. t ≡ seen s) likewise start now chains
      (seen start.state) refl serves in
      record {
        chains = served.chains;
        serves = subst (λ (t : T). ServesAll queue_kind other (at start) served.chains (moved now t))
            served.alike served.serves;
        same = served.same;
      }

  pub course_seen : (start now : Site Queue S) → Course queue_kind device start now
      → Course queue_kind other (at start) (at now)
  course_seen start now c =
      let seen = chains_seen start now c.chains c.serves in
      record { chains = seen.chains; serves = seen.serves }

  -- of the same buffers
  pub course_chains : (start now : Site Queue S) → (c : Course queue_kind device start now)
      → chains_of (course_seen start now c).chains ≡ chains_of c.chains
  unfolding course_seen
  course_chains start now c = (chains_seen start now c.chains c.serves).same

  module _ (budget : Budget) where
    pauses_seen : (start now : Site Queue S) → Pauses queue_kind device budget start now
        → Pauses queue_kind other budget (at start) (at now)
    pauses_seen start now p =
        let served = chains_seen start now p.course.chains p.course.serves in
        record {
          course = record { chains = served.chains; serves = served.serves };
          within = subst (AreWithin budget) (sym served.same) p.within;
          spent = subst (λ l. IsSpent (left_after budget l)) (sym served.same) p.spent;
          ready = ap (λ b. b && queue_kind.offers now.memory now.ring)
              (likewise.takes now.state (seen now.state) refl) ∙ p.ready;
          buffers = p.buffers;
          entry = p.entry;
          offered = p.offered;
        }

    ends_seen : (start new : Site Queue S) (ending : Ending) (wanted : Bool)
        → EndsWithin queue_kind device budget start new ending wanted
        → EndsWithin queue_kind other budget (at start) (at new) ending wanted
    ends_seen start new ending wanted p =
        let runs = p.ends.runs in
        let served = chains_seen start runs.at runs.chains runs.serves in
        let here = stop_state queue_kind device other (λ s t. t ≡ seen s) likewise runs.at ending in
        record {
          ends = record {
            last = at p.ends.last;
            runs = record {
              chains = served.chains;
              at = at runs.at;
              serves = served.serves;
              ends = ending_as queue_kind device other (λ s t. t ≡ seen s) likewise runs.at
                  (seen runs.at.state) ending refl runs.ends;
              stands = ap at runs.stands
                  ∙ ap (λ s. moved {S = S} (stop queue_kind device runs.at ending) (seen s)) here
                  ∙ stop_as queue_kind device other (λ s t. t ≡ seen s) likewise runs.at
                  (seen runs.at.state) ending;
            };
            closed = ap at p.ends.closed;
            wanted_is = p.ends.wanted_is;
          };
          within = subst (IsInBudget budget ending) (sym served.same) p.within;
        }

    begins_seen : (old now : Site Queue S) → BeginsWithin queue_kind device budget old now
        → BeginsWithin queue_kind other budget (at old) (at now)
    begins_seen old now p = record {
      opens = p.opens;
      pauses = pauses_seen (open_site queue_kind device old) now p.pauses;
    }

    service_seen : (old new : Site Queue S) (ending : Ending) (wanted : Bool)
        → IsServiceWithin queue_kind device budget old new ending wanted
        → IsServiceWithin queue_kind other budget (at old) (at new) ending wanted
    service_seen old new ending wanted p =
        let served : ServedAs queue_kind device other (λ s t. t ≡ seen s) likewise (at old)
        new ending wanted =
        service_as queue_kind device other (λ s t. t ≡ seen s) likewise old new (seen old.state) ending
        wanted refl p.service in
        record {
          service = subst (λ (t : T). IsService queue_kind other (at old) (moved new t) ending wanted)
              served.alike served.service;
          within = λ opens. ends_seen (open_site queue_kind device old) new ending wanted (p.within opens);
        }

    -- a piece, whichever it is
    pauses_at_seen : (stage : Stage) (old now : Site Queue S) → PausesAt stage device budget old now
        → PausesAt stage other budget (at old) (at now)
    pauses_at_seen First old now p = begins_seen old now p
    pauses_at_seen Next old now p = pauses_seen old now p

    ends_at_seen : (stage : Stage) (old new : Site Queue S) (ending : Ending) (wanted : Bool)
        → EndsAt stage device budget old new ending wanted
        → EndsAt stage other budget (at old) (at new) ending wanted
    ends_at_seen First old new ending wanted p = service_seen old new ending wanted p
    ends_at_seen Next old new ending wanted p = ends_seen old new ending wanted p

    module _ (stage : Stage) (q : ℕ) (m m' : Memory) (w w' : WindowState) (s s' : S) where
      completes_seen : (found : Option Queue) (ending : Ending)
          → CompletesAt stage device budget q found ending m m' w w' s s'
          → CompletesAt stage other budget q found ending m m' w w' (seen s) (seen s')
      completes_seen found ending =
          completes_as device other budget q m m' w w' s s' (seen s) (seen s') stage found ending (ap seen)
          (λ queue last wanted. ends_at_seen stage (site_at m queue s) (site_at m' last s') ending wanted)

      paused_seen : (queue : Queue) → ServesTo stage device budget q (Some queue) More m m' w w' s s'
          → ServesTo stage other budget q (Some queue) More m m' w w' (seen s) (seen s')
      paused_seen queue =
          pauses_as device other budget q m m' w w' s s' (seen s) (seen s') stage queue
          (λ last. pauses_at_seen stage (site_at m queue s) (site_at m' last s'))

    pub serves_seen : (stage : Stage) (q : ℕ) (found : Option Queue) (progress : Progress) (m m' : Memory)
        (w w' : WindowState) (s s' : S)
        → ServesTo stage device budget q found progress m m' w w' s s'
        → ServesTo stage other budget q found progress m m' w w' (seen s) (seen s')
    serves_seen First q found Done m m' w w' s s' h =
        record {
          ending = h.ending;
          notified = completes_seen First q m m' w w' s s' found h.ending h.notified;
        }
    serves_seen Next q found Done m m' w w' s s' h =
        record {
          ending = h.ending;
          finished = completes_seen Next q m m' w w' s s' found h.ending h.finished;
        }
    serves_seen First q None More m m' w w' s s' h = h
    serves_seen Next q None More m m' w w' s s' h = h
    serves_seen First q (Some queue) More m m' w w' s s' h = paused_seen First q m m' w w' s s' queue h
    serves_seen Next q (Some queue) More m m' w w' s s' h = paused_seen Next q m m' w w' s s' queue h
