-- Looks of a disk that stands still which find requests: where a round came to its end before a request the slot's look ends there.
-- Else a chain that asks is the slot's next one, and one that is answered belongs to the same piece.
use Rattle.std.proofs.Common.{◌≡◌, ◌∙◌, ℕ, Bool, false, Option, Some, None, List, [], ◌∷◌, set, refl, sym, ap, subst}
use Rattle.guest_memory.specs.Memory.{Memory}
use Rattle.chain.specs.declared.budget.Budget.{Budget}
use Rattle.chain.specs.declared.budget.Progress.TheVariants as progress
use Rattle.chain.specs.declared.segment.Buffer.{Buffer}
use Rattle.chain.specs.Service.{Entry}
use Rattle.mmio_window.specs.declared.queue.Queue.{Queue}
use Rattle.mmio_window.specs.declared.queue.Token.{Token}
use Rattle.mmio_window.specs.declared.stage.Stage.{Stage}
use Rattle.mmio_window.specs.declared.stage.Stage.TheVariants as at_piece
use Rattle.mmio_window.specs.Queue.{IsTaken, entry_of}
use Rattle.mmio_window.specs.Serving.{site_at}
use Rattle.mmio_window.specs.Window.{WindowState, with_ring}
use Rattle.shared_memory.specs.Sightings.{Sightings, memory}
use Rattle.block_device.specs.declared.device.BlockDevice.{BlockDevice}
use Rattle.block_device.specs.Hosting.{hosted_device}
use Rattle.racing_service.specs.declared.stage.Stage.{Stage as RacingStage}
use Rattle.racing_service.specs.declared.stage.Stage.TheVariants.{Again, Next}
use Rattle.racing_service.specs.Service.{AreRounds, IsRefusedService, Round, RunsUpTo, any_wanted}
use Rattle.racing_disk.specs.Looking.{FindsOneToAnswer}
use Rattle.racing_disk.specs.Telling.{IsLeft}
use Rattle.racing_window.specs.Queue.{racing_queue}
use Rattle.racing_hosted_disk.specs.declared.look.LookEnding.{LookEnding}
use Rattle.racing_hosted_disk.specs.declared.look.LookEnding.TheVariants as look
use Rattle.racing_hosted_disk.specs.declared.look.LookLimits.{LookLimits}
use Rattle.racing_hosted_disk.specs.Looking.{AreLooks, AsksIn, EndsLooks, FindsIn, Look, Place, place_at, progress_of, stage_behind}
use Rattle.block_device.specs.Tags.{InFlight, free_tag}
use Rattle.block_device.proofs.Freeing.{set_free}
use Rattle.racing_guest.specs.Block.{showing}
use Rattle.standing_guest.specs.Slot.{in_flight}
use Rattle.standing_guest.proofs.Asking.{answers_on, asks_next, next_opens}
use Rattle.standing_guest.proofs.Coming.{ComesTo, Here, IsOpen}
use Rattle.standing_guest.proofs.Ending.{ends_before}
use Rattle.standing_guest.proofs.Going.{EndsSo, FreshIfFull, Goes, Shows, Tags, ends_here, no_more, queue_of, shows_next}

behind_next : {Ring T : Type 0} (looks : List (Look Ring T)) → stage_behind Next looks ≡ Next
behind_next [] = refl
behind_next (l ∷ looks) = refl

module _ (device : BlockDevice) (limits : LookLimits) (stable : Bool) (first : Memory) (start w' : WindowState) (new : Sightings)
    (last : Queue) (left : Budget) (tags' : Tags) where
  abbrev GoesTo : Stage → Memory → WindowState → Tags → Type 0
  GoesTo piece m w tags = Goes device limits stable first start w' new last left tags' piece (queue_of m w tags)

  -- how the slot's look goes on behind a look that found a request, wherever its piece began
  abbrev GoesBehind : Place Queue Token → Type 0
  GoesBehind after =
      (piece : Stage) (m : Memory) (w : WindowState) (queue : Queue) → Shows start stable w queue
      → IsOpen device first piece (site_at m queue tt) after.service
      → FreshIfFull device limits stable first start w' new last left tags' m w queue after → GoesTo piece m w after.tags

  -- ---- one look

  module _ (stage : RacingStage) (piece : Stage) (m : Memory) (w : WindowState) (queue : Queue) (a after : Place Queue Token)
      (wanted : Bool) (s : Shows start stable w queue)
      (c : ComesTo device stage first piece (site_at m queue tt) a.service) (tag : ℕ)
      (free : free_tag a.tags ≡ Some tag) (behind : wanted ≡ false → GoesBehind after) where
    -- its first round came to an end
    before_it : {E : Type 0} (Refuses : Unit {0} → List ℕ → List Buffer → E → Type 0) (buffers : List Buffer) (entry : Entry)
        (why : E) (at : Here) (x : Round Queue (Unit {0})) (rounds : List (Round Queue (Unit {0})))
        → (r : IsRefusedService racing_queue (hosted_device device) false Refuses stage limits.rounds a.service at buffers
        entry why wanted) → r.rounds ≡ x ∷ rounds → GoesTo piece m w a.tags
    before_it Refuses buffers entry why at x rounds r is =
        let serves : AreRounds racing_queue (hosted_device device) false stage a.service (x ∷ rounds) r.at = rw is at r.serves in
        let up : RunsUpTo racing_queue (hosted_device device) false Refuses Again buffers entry why r.at at = rw is at r.leaves in
        ends_here device limits stable first start w' new last left tags' piece m w queue a.tags tag s free
        (ends_before device first piece (site_at m queue tt) Refuses buffers entry why
        (EndsSo device limits stable first start w' new last left tags' w a.tags) stage a.service r.at at x rounds c serves up)

    asked : (here : InFlight Token)
        → (asks : AsksIn racing_queue entry_of IsTaken device false stage limits.rounds stable here a.service after.service wanted)
        → after.tags ≡ set a.tags tag (Some here) → (rounds : List (Round Queue (Unit {0})))
        → asks.finds.finds.service.rounds ≡ rounds → GoesTo piece m w a.tags
    asked here asks put [] none =
        let n = memory after.service.sightings in
        let ring = after.service.ring in
        let unwanted : wanted ≡ false = asks.finds.finds.service.wanted_is ∙ ap any_wanted none in
        let opens = next_opens device first piece m w queue a.tags after.tags stage limits.rounds stable here a.service
        after.service wanted s.ready s.is_stable c asks none in
        let rest = behind unwanted at_piece.Next n (with_ring 0 w ring) ring (shows_next start stable w queue ring s) opens
        (λ full. (refl, refl, s.later ring)) in
        record {
          asked = in_flight here ∷ rest.asked;
          memory = rest.memory;
          window = rest.window;
          tags = rest.tags;
          looks = (
            queue_of n (with_ring 0 w ring) after.tags,
            asks_next device first piece m w queue a.tags after.tags stage limits.rounds stable here a.service after.service
                wanted s.ready s.is_stable c asks none tag free put,
            rest.looks,
          );
          whole = rest.whole;
          stands = rest.stands;
        }
    asked here asks put (x ∷ rounds) is =
        before_it (λ state readable buffers request. IsLeft device readable buffers request asks.finds.kept) asks.buffers
        (entry_of here.flight.token) asks.finds.request asks.finds.at x rounds asks.finds.finds.service is

    answered : (f : FindsOneToAnswer racing_queue device false stage limits.rounds a.service after.service wanted)
        → after.tags ≡ set a.tags tag None → (rounds : List (Round Queue (Unit {0}))) → f.finds.service.rounds ≡ rounds
        → GoesTo piece m w a.tags
    answered f put [] none =
        let kept : after.tags ≡ a.tags = put ∙ set_free a.tags tag None free refl in
        let unwanted : wanted ≡ false = f.finds.service.wanted_is ∙ ap any_wanted none in
        let goes = answers_on device first piece (site_at m queue tt) stage limits.rounds a.service after.service wanted c f none in
        let rest = behind unwanted piece m w queue s goes (λ full.
        let no : Some tag ≡ None = sym free ∙ ap free_tag (sym kept) ∙ full in absurd cc) in
        subst (λ (tags : Tags). GoesTo piece m w tags) kept rest
    answered f put (x ∷ rounds) is =
        before_it (λ state readable buffers request. IsLeft device readable buffers request f.kept) f.buffers f.entry f.request
        f.at x rounds f.finds.service is

    by_asks : (asks : Option (InFlight Token))
        → FindsIn racing_queue entry_of IsTaken device false stage limits.rounds stable asks a.service after.service wanted
        → after.tags ≡ set a.tags tag asks → GoesTo piece m w a.tags
    by_asks None f put = answered f put f.finds.service.rounds refl
    by_asks (Some here) f put = asked here f put f.finds.finds.service.rounds refl

  -- ---- all of them

  tail_ends : (stage : RacingStage) (ending : LookEnding) (l : Look Queue Token) (looks : List (Look Queue Token))
      (at b : Place Queue Token) (wanted : Bool) → progress_of ending ≡ progress.Done → l.wanted ≡ false
      → EndsLooks racing_queue entry_of IsTaken device false limits stable stage ending (l ∷ looks) at b wanted
      → EndsLooks racing_queue entry_of IsTaken device false limits stable Next ending looks at b wanted
  tail_ends stage (look.Served e) l looks at b wanted done none ends = record {
    tag = ends.tag;
    free = ends.free;
    asked = ends.asked;
    service = rw (behind_next looks) ends.service;
    tags = ends.tags;
    wanted_is = rw none at ends.wanted_is;
  }
  tail_ends stage look.Full l looks at b wanted done none ends = record {
    full = ends.full;
    stands = ends.stands;
    wanted_is = rw none at ends.wanted_is;
  }
  tail_ends stage look.Limited l looks at b wanted done none ends = cc
  tail_ends stage look.Idle l looks at b wanted done none ends = absurd ends

  module _ (ending : LookEnding) (wanted : Bool) (done : progress_of ending ≡ progress.Done)
      (shown : w' ≡ showing start last ending wanted) where
    abbrev Behind : Place Queue Token
    Behind = place_at new last left tags'

    goes_on : (looks : List (Look Queue Token)) (a at : Place Queue Token)
        → AreLooks racing_queue entry_of IsTaken device false limits stable Next a looks at
        → EndsLooks racing_queue entry_of IsTaken device false limits stable Next ending looks at Behind wanted → GoesBehind a
    goes_on [] a at are ends piece m w queue s c fresh =
        no_more device limits stable first start w' new last left tags' ending wanted done shown piece m w queue a s c fresh
        ending refl (rw are at ends)
    goes_on (l ∷ looks) a at are ends piece m w queue s c fresh =
        by_asks Next piece m w queue a l.after l.wanted s c are.0.tag are.0.free
        (λ none. goes_on looks l.after at are.1 (tail_ends Next ending l looks at Behind wanted done none ends))
        l.asks are.0.finds are.0.tags

    -- from a first look that finds a request
    pub goes_from : (l : Look Queue Token) (looks : List (Look Queue Token)) (stage : RacingStage) (a at : Place Queue Token)
        (piece : Stage) (m : Memory) (w : WindowState) (queue : Queue) → Shows start stable w queue
        → ComesTo device stage first piece (site_at m queue tt) a.service
        → AreLooks racing_queue entry_of IsTaken device false limits stable stage a (l ∷ looks) at
        → EndsLooks racing_queue entry_of IsTaken device false limits stable stage ending (l ∷ looks) at Behind wanted
        → GoesTo piece m w a.tags
    goes_from l looks stage a at piece m w queue s c are ends =
        by_asks stage piece m w queue a l.after l.wanted s c are.0.tag are.0.free
        (λ none. goes_on looks l.after at are.1 (tail_ends stage ending l looks at Behind wanted done none ends))
        l.asks are.0.finds are.0.tags
