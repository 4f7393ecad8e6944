-- A transmit of a guest that stands still, for whose bytes its output has no room, begins with one service.
use Rattle.std.proofs.Common.{◌≡◌, ◌∙◌, ◌⊎◌, inl, inr, ℕ, Bool, true, false, Option, Some, None, List, [], ◌∷◌, ◌++◌, refl, sym, ap}
use Rattle.std.specs.Prelude.{◌&&◌}
use Rattle.guest_memory.specs.Memory.{Memory}
use Rattle.chain.specs.declared.fault.Fault.{Fault}
use Rattle.chain.specs.declared.segment.Buffer.{Buffer}
use Rattle.chain.specs.Service.{Ending, Entry, Faulted, IsService, Refused, Site, Spent, Works, open_site}
use Rattle.mmio_window.specs.declared.queue.Queue.{Queue}
use Rattle.mmio_window.specs.Queue.{queue_kind}
use Rattle.mmio_window.specs.Serving.{Notified, after_service, site_at}
use Rattle.mmio_window.specs.Soundness.{IsSound}
use Rattle.mmio_window.specs.Window.{WindowState, queue_at, with_ring}
use Rattle.mmio_window.proofs.Pieces.{with_ring_twice}
use Rattle.shared_memory.specs.Sightings.{Sightings, memory}
use Rattle.console_device.specs.declared.no_memory.NoMemory.{NoMemory}
use Rattle.console_device.specs.Device.{exact_transmit, transmit_within}
use Rattle.racing_service.specs.declared.service.Limits.{Limits}
use Rattle.racing_service.specs.declared.stage.Stage.TheVariants.{First, Again}
use Rattle.racing_service.specs.Laws.{site_of}
use Rattle.racing_service.specs.Service.{AreBusyRounds, AreRounds, Drained, Round, RunsUpTo, ServesSome, Standing, any_wanted, stage_behind, standing_at}
use Rattle.racing_service.proofs.Rounds.{left_service, one_service}
use Rattle.console_device.specs.Output.{NoRoom}
use Rattle.racing_window.specs.Queue.{racing_queue}
use Rattle.racing_window.proofs.Rings.{IsQueueSound, queue_stands_still}
use Rattle.racing_window.proofs.Sizes.{sound_queue}
use Rattle.racing_guest.specs.Console.{LacksRoom}
use Rattle.standing_guest.specs.Rest.{IsAtRest, OfferStands, WindowStands}
use Rattle.standing_guest.proofs.Beginning.{no_both, no_busy, none_served, opened_none}
use Rattle.standing_guest.proofs.Console.{IsBehind, no_more, transmits_alike}
use Rattle.standing_guest.proofs.Notifying.{if_some, rests_there, second_is_left}
use Rattle.standing_guest.proofs.Resting.{rest_behind}
use Rattle.standing_guest.proofs.Simulating.{all_too, service_too}

-- ---- what went out

pub record IsOutput (out out' : List ℕ) : Type 0 where
  pub output : List ℕ
  pub behind : out' ≡ out ++ output

module _ (limit : Option ℕ) where
  output_by : (opening : Option Fault) (a last : Site Queue (List ℕ))
      → Works queue_kind (transmit_within limit) opening a Refused last → IsOutput a.state last.state
  output_by (Some fault) a last w = let no : Refused ≡ Faulted fault = w.0 in cc
  output_by None a last w =
      let also = all_too queue_kind (transmit_within limit) exact_transmit (IsBehind a.state) (transmits_alike limit a.state)
      w.chains a w.at [] (no_more a.state) w.serves in
      record {
        output = also.state;
        behind = ap (λ (site : Site Queue (List ℕ)). site.state) w.stands ∙ also.alike;
      }

  refused_output : (old new : Memory) (queue last : Queue) (out out' : List ℕ) (wanted : Bool)
      → IsService queue_kind (transmit_within limit) (site_at old queue out) (site_at new last out') Refused wanted
      → IsOutput out out'
  refused_output old new queue last out out' wanted s =
      let o = output_by (queue_kind.opening_fault old queue)
      (open_site queue_kind (transmit_within limit) (site_at old queue out)) s.last s.works in
      record {
        output = o.output;
        behind = ap (λ (site : Site Queue (List ℕ)). site.state) s.closed ∙ o.behind;
      }

  spent_output : (a b : Site Queue (List ℕ)) (wanted : Bool)
      → IsService queue_kind (transmit_within limit) a b Spent wanted → IsOutput a.state b.state
  spent_output a b wanted s =
      let also = service_too queue_kind (transmit_within limit) exact_transmit (IsBehind a.state)
      (transmits_alike limit a.state) None a b wanted [] (no_more a.state) s in
      record { output = also.state; behind = also.alike }

  -- ---- what such a call begins with

  -- the first service ends with no chain on offer, or is refused
  abbrev pub EndsSo : Ending → Type 0
  EndsSo ending = (ending ≡ Spent) ⊎ (ending ≡ Refused)

  pub record BeginsLeft (old new : Memory) (before after : WindowState) (out out' : List ℕ) : Type 0 where
    pub memory : Memory
    pub window : WindowState
    pub waiting : List ℕ
    pub ending : Ending
    pub so : EndsSo ending
    pub notified : Notified (transmit_within limit) 1 (queue_at 1 before) ending old memory before window out waiting
    pub output : IsOutput out waiting
    pub whole : (ending ≡ Spent → WindowStands 1 old memory window)
        → (ending ≡ Refused) × (new ≡ memory) × (after ≡ window) × (out' ≡ waiting)

  -- at rest no chain is on offer up to which a service could run
  no_more_served : (buffers : List Buffer) (entry : Entry) (why : NoMemory) (a b : Standing Queue (List ℕ))
      → IsAtRest (transmit_within limit) (memory a.sightings) a.ring a.state
      → RunsUpTo racing_queue (transmit_within limit) false (NoRoom limit) Again buffers entry why a b → ⊥
  no_more_served buffers entry why a b rest r =
      by r.serves.between r.opened (opened_none (transmit_within limit) a r.opened r.opens rest) r.serves.at r.serves.serves
      r.serves.leaves.takes
      (queue_stands_still.told r.serves.at.sightings r.serves.leaves.taken r.serves.at.ring true r.serves.leaves.loads
      r.serves.leaves.told)
    where
      by : (between : List (Standing Queue (List ℕ))) (o : Standing Queue (List ℕ))
          → ((transmit_within limit).takes o.state && queue_kind.offers (memory o.sightings) o.ring) ≡ false
          → (at : Standing Queue (List ℕ)) → ServesSome racing_queue (transmit_within limit) false o between at
          → (transmit_within limit).takes at.state ≡ true → true ≡ queue_kind.offers (memory at.sightings) at.ring → ⊥
      by [] o none at serves takes offers =
          let here : true ≡ queue_kind.offers (memory o.sightings) o.ring = rw serves at offers in
          no_both ((transmit_within limit).takes o.state) (queue_kind.offers (memory o.sightings) o.ring) none takes (sym here)
      by (x ∷ between) o none at serves takes offers = none_served (transmit_within limit) o x none serves.0

  module _ (limits : Limits) (old new : Sightings) (before after : WindowState) (queue : Queue) (out out' : List ℕ)
      (sound : IsSound (memory old) before) (at : queue_at 1 before ≡ Some queue)
      (lacks : LacksRoom false limits limit queue old new before after out out') where
    first_sound : IsQueueSound (memory old) queue
    first_sound = sound_queue (memory old) before 1 queue sound at

    by_rounds : (rounds : List (Round Queue (List ℕ))) (there : Standing Queue (List ℕ))
        → AreRounds racing_queue (transmit_within limit) false First (standing_at old queue out limits.budget) rounds there
        → lacks.asked ≡ any_wanted rounds
        → RunsUpTo racing_queue (transmit_within limit) false (NoRoom limit) (stage_behind First rounds) lacks.buffers
        lacks.entry lacks.why there (standing_at lacks.stopped lacks.last out' lacks.left)
        → BeginsLeft (memory old) (memory new) before after out out'
    by_rounds [] there are asked runs =
        let up : RunsUpTo racing_queue (transmit_within limit) false (NoRoom limit) First lacks.buffers lacks.entry lacks.why
        (standing_at old queue out limits.budget) (standing_at lacks.stopped lacks.last out' lacks.left) = rw are at runs in
        let shut = queue_kind.shut lacks.last in
        let wanted = lacks.closes.wanted in
        let service = left_service queue_stands_still (transmit_within limit) (NoRoom limit) lacks.buffers lacks.entry lacks.why
        (λ s readable room. room) (standing_at old queue out limits.budget)
        (standing_at lacks.stopped lacks.last out' lacks.left) (standing_at new shut out' lacks.left) wanted first_sound up
        (record { closed = lacks.closes.closed; ring = refl; state = refl; left = refl }) in
        record {
          memory = memory new;
          window = after;
          waiting = out';
          ending = Refused;
          so = inr refl;
          notified = rw at (record {
            last = shut;
            wanted = wanted;
            service = service;
            window = lacks.closes.window ∙ rw (asked, with_ring_twice 1 before lacks.last shut) refl;
          });
          output = refused_output (memory old) (memory new) queue shut out out' wanted service;
          whole = λ stands. (refl, refl, refl, refl);
        }
    by_rounds (r ∷ rounds) there are asked runs =
        let first = r.after in
        let one = one_service queue_stands_still (transmit_within limit) Drained Spent
        (standing_at old queue out limits.budget) first r.wanted refl first_sound are.0 in
        let window = after_service Spent r.wanted (with_ring 1 before first.ring) in
        record {
          memory = memory first.sightings;
          window = window;
          waiting = first.state;
          ending = Spent;
          so = inl refl;
          notified = rw at (record { last = first.ring; wanted = r.wanted; service = one.service; window = refl });
          output = spent_output (site_of (standing_at old queue out limits.budget)) (site_of first) r.wanted one.service;
          whole = λ stands. absurd (no_end rounds are.1 runs (rest_behind (transmit_within limit) (memory old)
              (memory first.sightings) queue first.ring out first.state r.wanted one.service
              (if_some (OfferStands (memory old) (memory first.sightings)) _ first.ring
              (rests_there 1 second_is_left before queue first.ring r.wanted at) (stands refl))));
        }
      where
        no_end : (rounds : List (Round Queue (List ℕ)))
            → AreBusyRounds racing_queue (transmit_within limit) false r.after rounds there
            → RunsUpTo racing_queue (transmit_within limit) false (NoRoom limit) Again lacks.buffers lacks.entry lacks.why there
            (standing_at lacks.stopped lacks.last out' lacks.left)
            → IsAtRest (transmit_within limit) (memory r.after.sightings) r.after.ring r.after.state → ⊥
        no_end [] are runs rest =
            no_more_served lacks.buffers lacks.entry lacks.why r.after
            (standing_at lacks.stopped lacks.last out' lacks.left) rest (rw are at runs)
        no_end (x ∷ rounds) are runs rest = no_busy (transmit_within limit) r.after x.after x.wanted rest are.0

    pub begins_left : BeginsLeft (memory old) (memory new) before after out out'
    begins_left =
        let s = lacks.service in
        by_rounds s.rounds s.at s.serves s.wanted_is s.leaves
