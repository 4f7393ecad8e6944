-- Of a guest that stands still the host is told what it is told of any other such guest.
use Rattle.std.proofs.Common.{◌≡◌, ◌∙◌, ℕ, Bool, true, false, List, [], ◌∷◌, sym, ap, subst}
use Rattle.guest_memory.specs.Memory.{Memory, SameRange, put}
use Rattle.guest_memory.proofs.Ranges.{put_range}
use Rattle.chain.specs.declared.segment.Buffer.{Buffer}
use Rattle.chain.specs.Bytes.{readable_of}
use Rattle.chain.specs.Service.{Entry}
use Rattle.shared_memory.specs.Sightings.{Sightings, memory, still}
use Rattle.shared_memory.proofs.Sightings.{loads_none}
use Rattle.block_device.specs.Hosting.{hosted_device}
use Rattle.racing_service.proofs.LeftAlone.{LeftLaws, left_at_once}
use Rattle.chain_handler.proofs.Seeing.{readable_seen}
use Rattle.racing_disk.specs.Telling.{IsLeft}
use Rattle.block_device.specs.declared.device.BlockDevice.{BlockDevice}
use Rattle.block_device.specs.declared.operation.Verdict.{Verdict}
use Rattle.block_device.specs.Asking.{status_by}
use Rattle.block_device.specs.Request.{code_of}
use Rattle.block_device.specs.Operation.{IsToldToHost, runs_by, runs_for}
use Rattle.racing_service.specs.declared.stage.Stage.{Stage}
use Rattle.racing_service.specs.Queue.{RacingKind}
use Rattle.racing_service.specs.Service.{Standing}
use Rattle.racing_service.proofs.Rounds.{StandsStill}
use Rattle.chain_handler.proofs.Still.{one_still, read_still}
use Rattle.racing_disk.proofs.Standing.{left_still, runs_still, told_still}
use Rattle.racing_hosted_disk.specs.Laws.{IsAskedAlone, IsToldOf, LandsAsOne, moment_asked}
use Rattle.racing_hosted_disk.specs.Looking.{AsksIn, Place}
use Rattle.block_device.specs.Tags.{InFlight}
use Rattle.racing_hosted_disk.specs.Told.{Lands}

module _ {Ring T : Type 0} (kind : RacingKind Ring) (IsSound : Memory → Ring → Type 0) (stands : StandsStill kind IsSound)
    (entry_of : T → Entry) (device : BlockDevice) (stage : Stage) (most : ℕ) (stable : Bool) where
  pub told_of : (IsTaken : Ring → T → Type 0) (here : InFlight T) (a b : Standing Ring (Unit {0})) (wanted : Bool)
      (asks : AsksIn kind entry_of IsTaken device false stage most stable here a b wanted)
      → IsToldOf kind.still entry_of device stable (memory asks.finds.at.sightings) asks.finds.at.ring asks.buffers here
  told_of IsTaken here a b wanted asks =
      let finds = asks.finds in
      let up = finds.finds.service.leaves.serves in
      let one = up.leaves in
      let entry = entry_of here.flight.token in
      let buffers = asks.buffers in
      let good = stands.good up.at.sightings one.taken up.at.ring buffers entry one.offered in
      let same : memory finds.at.sightings ≡ memory one.taken = one_still one.taken finds.at.sightings one.refuses.reads in
      let seen : memory one.taken ≡ memory up.at.sightings = one_still up.at.sightings one.taken one.loads in
      let offered = stands.offered up.at.sightings one.taken up.at.ring buffers entry one.loads one.offered in
      let copied : one.refuses.readable ≡ readable_of (memory one.taken) buffers =
      read_still one.taken finds.at.sightings buffers one.refuses.readable good.inside one.refuses.reads
      one.refuses.each_read in
      let are : here.runs ≡ runs_by finds.request one.refuses.readable buffers =
      finds.runs_are one.refuses.readable one.refuses.refuses in
      let by : here.runs ≡ runs_for finds.request (memory one.taken) buffers =
      are ∙ ap (λ (l : List ℕ). runs_by finds.request l buffers) copied
      ∙ runs_still finds.request (memory one.taken) buffers in
      let told : IsToldToHost device (memory one.taken) buffers finds.request finds.kept =
      left_still device one.taken finds.at.sightings buffers finds.request finds.kept good one.refuses finds.asks in
      record {
        request = finds.request;
        kept = finds.kept;
        offered = rw (same ∙ seen, one.ring) offered;
        told = rw same told;
        operation_is = finds.operation_is;
        runs_are = rw same by;
        place = finds.place;
      }

  -- ---- a completion

  pub lands_as_one : (tag : ℕ) (verdict : Verdict) (a b : Place Ring T) (wanted : Bool)
      → IsSound (memory a.service.sightings) a.service.ring
      → (lands : Lands kind entry_of device false tag verdict a b wanted)
      → LandsAsOne kind.still entry_of verdict lands.here (memory a.service.sightings) (memory b.service.sightings)
      a.service.ring b.service.ring wanted
  lands_as_one tag verdict a b wanted sound lands =
      let back = lands.back in
      let entry = entry_of lands.here.flight.token in
      let m = memory a.service.sightings in
      let status : memory back.done ≡ put m lands.here.flight.status (code_of (status_by verdict) ∷ []) =
      back.completed.stored.stored
      ∙ ap (λ (n : Memory). put n lands.here.flight.status (code_of (status_by verdict) ∷ []))
      back.completed.stored.interference in
      let range : SameRange m (memory back.done) =
      subst (SameRange m) (sym status) (put_range m lands.here.flight.status (code_of (status_by verdict) ∷ [])) in
      record {
        done = memory back.done;
        given = memory lands.given;
        len = lands.len;
        behind = lands.behind;
        status = status;
        len_is = back.completed.len_is;
        used = stands.given back.done lands.given a.service.ring entry lands.len true
            (stands.in_range m (memory back.done) a.service.ring range sound) back.given;
        landed = back.landed;
        closed = stands.closed lands.given b.service.sightings lands.behind wanted lands.closes.closed;
        wants = stands.wants lands.given b.service.sightings lands.behind wanted lands.closes.closed;
        shut = lands.closes.ring;
      }

-- ---- a chain that its driver leaves alone while it is taken

module _ {Ring T : Type 0} {kind : RacingKind Ring}
    {Leaves : (old new : Sightings) (ring : Ring) (buffers : List Buffer) (entry : Entry)
    → kind.IsOffered old new ring buffers entry → Type 0} (laws : LeftLaws kind Leaves)
    (entry_of : T → Entry) (IsTaken : Ring → T → Type 0) (device : BlockDevice) (races : Bool) (stage : Stage) (most : ℕ)
    (stable : Bool) where
  pub told_at_once : (here : InFlight T) (a b : Standing Ring (Unit {0})) (wanted : Bool)
      (asks : AsksIn kind entry_of IsTaken device races stage most stable here a b wanted)
      → IsAskedAlone kind entry_of IsTaken device races stage most stable here a b wanted asks Leaves
      → IsToldOf kind.still entry_of device stable
      (moment_asked kind entry_of IsTaken device races stage most stable here a b wanted asks) asks.finds.at.ring asks.buffers here
  told_at_once here a b wanted asks alone =
      let finds = asks.finds in
      let up = finds.finds.service.leaves.serves in
      let entry = entry_of here.flight.token in
      let buffers = asks.buffers in
      let m = memory up.leaves.taken in
      let good = laws.good up.at.sightings up.leaves.taken up.at.ring buffers entry up.leaves.offered in
      let once = left_at_once laws (hosted_device device) races
      (λ state readable buffers request. IsLeft device readable buffers request finds.kept) buffers entry finds.request up.at
      finds.at up.leaves alone in
      record {
        request = finds.request;
        kept = finds.kept;
        offered = rw up.leaves.ring once.offered;
        told = told_still device (still m) (still m) buffers once.refuses.room finds.request finds.kept good
            (loads_none false (still m))
            (record {
              readable = readable_of m buffers;
              copy = readable_seen (still m) buffers good;
              judged = once.refuses.judged;
            }) once.refuses.all finds.asks;
        operation_is = finds.operation_is;
        runs_are = finds.runs_are (readable_of m buffers) once.refuses ∙ runs_still finds.request m buffers;
        place = finds.place;
      }
