-- A round of a piece of a slot's look: it found no further chain, or met a fault, and the queue was closed.
use Rattle.std.proofs.Common.{◌≡◌, ◌∙◌, Bool, false, Option, Some, None, refl, sym, ap, subst}
use Rattle.guest_memory.specs.Memory.{Memory}
use Rattle.chain.specs.declared.fault.Fault.{Fault}
use Rattle.chain.specs.Pieces.{GoesToEnd}
use Rattle.chain.specs.Service.{Ending, IsService, Runs, Spent}
use Rattle.chain.proofs.Pieces.{courses_join, opened_to_end}
use Rattle.mmio_window.specs.declared.queue.Queue.{Queue}
use Rattle.mmio_window.specs.declared.stage.Stage.{Stage}
use Rattle.mmio_window.specs.declared.stage.Stage.TheVariants as at_piece
use Rattle.mmio_window.specs.Pieces.{fault_at}
use Rattle.mmio_window.specs.Queue.{queue_kind}
use Rattle.shared_memory.specs.Sightings.{memory}
use Rattle.block_device.specs.declared.device.BlockDevice.{BlockDevice}
use Rattle.block_device.specs.Hosting.{hosted_device}
use Rattle.racing_service.specs.declared.stage.Stage.{Stage as RacingStage}
use Rattle.racing_service.specs.declared.stage.Stage.TheVariants.{First, Next, Again}
use Rattle.racing_service.specs.Laws.{site_of}
use Rattle.racing_service.specs.Service as services
use Rattle.racing_service.specs.Service.{AreRounds, Drained, EndsWith, Halt, IsFirstRound, IsRacingService, IsRound, IsSettled, LeavesOne, Met, Round, RunsUpTo, ServesSome, Works, progress_of}
use Rattle.racing_service.proofs.Coming.{busy_is_round}
use Rattle.racing_service.proofs.Rounds.{EndsAs, worked}
use Rattle.racing_window.specs.Queue.{racing_queue}
use Rattle.racing_window.proofs.Rings.{IsQueueSound, queue_stands_still}
use Rattle.standing_guest.specs.Rest.{IsAtRest, OfferStands}
use Rattle.standing_guest.proofs.Coming.{ComesTo, Here, IsOpen, Spot, opened_site, opened_too}
use Rattle.standing_guest.proofs.Resting.{counts_all, rest_at}

module _ (device : BlockDevice) where
  -- the service of a first piece, or what goes on from a queue that stands open
  abbrev pub EndsPiece : Stage → Spot → Spot → Ending → Bool → Type 0
  EndsPiece at_piece.First old new ending wanted = IsService queue_kind (hosted_device device) old new ending wanted
  EndsPiece at_piece.Next old new ending wanted = GoesToEnd queue_kind (hosted_device device) old new ending wanted

  -- Its last round is over, and the queue was closed. Where what is on offer stands as it did, it is at rest then.
  pub record IsOver (m : Memory) (piece : Stage) (old : Spot) (b : Here) (ending : Ending) (wanted : Bool) : Type 0 where
    pub ends : EndsPiece piece old (site_of b) ending wanted
    pub sound : IsQueueSound (memory b.sightings) b.ring
    pub last : Queue
    pub shut : b.ring ≡ queue_kind.shut last
    pub rests : ending ≡ Spent → OfferStands m (memory b.sightings) b.ring
        → IsAtRest (hosted_device device) (memory b.sightings) b.ring tt

  module _ (m : Memory) (piece : Stage) (old : Spot) where
    -- ---- one round

    from_start : (now : Here) (new : Spot) (ending : Ending) (wanted : Bool) → IsOpen device m piece old now
        → GoesToEnd queue_kind (hosted_device device) (site_of now) new ending wanted
        → GoesToEnd queue_kind (hosted_device device) (opened_site piece old) new ending wanted
    from_start now new ending wanted o g =
        let all = courses_join queue_kind (hosted_device device) (opened_site piece old) (site_of now) g.runs.at o.course
        (record { chains = g.runs.chains; serves = g.runs.serves }) in
        record {
          last = g.last;
          runs = record {
            chains = all.chains;
            at = g.runs.at;
            serves = all.serves;
            ends = g.runs.ends;
            stands = g.runs.stands;
          };
          closed = g.closed;
          wanted_is = g.wanted_is;
        }

    rests_over : (now last b : Here) → IsOpen device m piece old now
        → Runs queue_kind (hosted_device device) (site_of now) Spent (site_of last) → b.ring ≡ queue_kind.shut last.ring
        → OfferStands m (memory b.sightings) b.ring → IsAtRest (hosted_device device) (memory b.sightings) b.ring tt
    rests_over now last b o runs shut stands =
        let ring : last.ring ≡ runs.at.ring = ap (λ (s : Spot). s.ring) runs.stands in
        let is : b.ring ≡ queue_kind.shut runs.at.ring = shut ∙ ap queue_kind.shut ring in
        let counts = counts_all (hosted_device device) m runs.chains (site_of now) runs.at o.counts runs.serves in
        subst (λ (r : Queue). IsAtRest (hosted_device device) (memory b.sightings) r tt) (sym is)
        (rest_at (hosted_device device) m (memory b.sightings) runs.at.ring runs.at.memory tt counts runs.ends
        (subst (OfferStands m (memory b.sightings)) is stands))

    pub round_over : (at : RacingStage) (halt : Halt) (ending : Ending) (now b : Here) (wanted : Bool)
        → ComesTo device at m piece old now → EndsAs queue_stands_still (hosted_device device) halt ending
        → (r : IsRound racing_queue (hosted_device device) false at now halt b wanted)
        → services.fault_at racing_queue at (memory r.run.opened.sightings) now.ring ≡ None
        → IsOver m piece old b ending wanted
    round_over at halt ending now b wanted c e r calm =
        let o = r.run.opened in
        let there = opened_too device at m piece old now o c r.run.opens calm in
        let works : Works racing_queue (hosted_device device) false None o halt r.last = rw calm at r.run.works in
        let w = worked queue_stands_still (hosted_device device) None halt ending o r.last e there.sound works in
        let closes = r.closes in
        let closed = queue_stands_still.closed r.last.sightings b.sightings r.last.ring wanted closes.closed in
        let wants = queue_stands_still.wants r.last.sightings b.sightings r.last.ring wanted closes.closed in
        let goes : GoesToEnd queue_kind (hosted_device device) (site_of o) (site_of b) ending wanted = record {
          last = site_of r.last;
          runs = w.works;
          closed = rw (closed, closes.ring, closes.state) refl;
          wanted_is = rw closed at wants;
        } in
        record {
          ends = by piece old there.opens (from_start o (site_of b) ending wanted there goes);
          sound = rw (closed, closes.ring) (queue_stands_still.sound_shut _ r.last.ring
              (queue_stands_still.in_range (memory r.last.sightings) _ r.last.ring
              (queue_stands_still.closed_range (memory r.last.sightings) r.last.ring) w.sound));
          last = r.last.ring;
          shut = closes.ring;
          rests = λ spent stands. rests_over o r.last b there (rw spent at w.works) closes.ring stands;
        }
      where
        by : (stage : Stage) (old : Spot) → fault_at stage old.memory old.ring ≡ None
            → GoesToEnd queue_kind (hosted_device device) (opened_site stage old) (site_of b) ending wanted
            → EndsPiece stage old (site_of b) ending wanted
        by at_piece.First old opens goes = opened_to_end queue_kind (hosted_device device) old (site_of b) ending wanted opens goes
        by at_piece.Next old opens goes = goes

    none_met : (opening : Option Fault) (o last : Here) → Works racing_queue (hosted_device device) false opening o Drained last
        → opening ≡ None
    none_met None o last w = refl
    none_met (Some fault) o last w = let no : Drained ≡ Met fault = w.0 in cc

    is_round : (at : RacingStage) (now b : Here) (wanted : Bool)
        → IsFirstRound racing_queue (hosted_device device) false at now b wanted
        → IsRound racing_queue (hosted_device device) false at now Drained b wanted
    is_round First now b wanted r = r
    is_round Next now b wanted r = r
    is_round Again now b wanted r = busy_is_round racing_queue (hosted_device device) false now b wanted r

    pub drained_over : (at : RacingStage) (now b : Here) (wanted : Bool) → ComesTo device at m piece old now
        → IsFirstRound racing_queue (hosted_device device) false at now b wanted → IsOver m piece old b Spent wanted
    drained_over at now b wanted c first =
        let r = is_round at now b wanted first in
        round_over at Drained Spent now b wanted c refl r (none_met _ r.run.opened r.last r.run.works)
