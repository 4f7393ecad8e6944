-- A look at a queue comes to a request.
use Rattle.std.proofs.Common.{◌≡◌, ◌∙◌, ℕ, Bool, true, false, List, refl}
use Rattle.chain.specs.declared.budget.Budget.{Budget}
use Rattle.chain.specs.declared.segment.Buffer.{Buffer}
use Rattle.chain.specs.declared.segment.Segment.{Segment}
use Rattle.chain.specs.Bytes.{addresses_of}
use Rattle.chain.specs.Service.{Entry}
use Rattle.chain.proofs.Directions.{length-addresses_of}
use Rattle.shared_memory.specs.Sightings.{Sightings}
use Rattle.block_device.specs.declared.device.BlockDevice.{BlockDevice}
use Rattle.block_device.specs.declared.operation.Operation.{Operation}
use Rattle.block_device.specs.declared.request.Request.{Request}
use Rattle.block_device.specs.Asking.{asks_image}
use Rattle.block_device.specs.Operation.{operation_of, runs_by}
use Rattle.racing_service.specs.declared.stage.Stage.{Stage}
use Rattle.racing_service.specs.Queue.{RacingKind}
use Rattle.racing_service.specs.Service.{Standing, standing_at}
use Rattle.chain_handler.proofs.Seeing.{bytes_count}
use Rattle.racing_disk.specs.Answering.{IsAnsweredIn}
use Rattle.racing_disk.specs.Looking.{FindsOneThatAsks, FindsOneToAnswer, FindsRequest}
use Rattle.racing_disk.specs.Telling.{HasStatus, IsLeft, WasLeft}

module _ {Ring : Type 0} (queues : RacingKind Ring) (device : BlockDevice) (races : Bool) (stage : Stage)
    (most : ℕ) (a : Standing Ring (Unit {0})) (s : Sightings) (ring : Ring) (left : Budget) (buffers : List Buffer) (entry : Entry)
    (request : Request) (kept : List Segment) (wanted : Bool)
    (finds : FindsRequest queues device races stage most a (standing_at s ring tt left) buffers entry request kept wanted) where
  pub was_left : WasLeft device buffers request kept
  was_left =
      let found = finds.service.leaves.serves.leaves.refuses in
      record {
        readable = found.readable;
        long = bytes_count _ _ (addresses_of false buffers) found.readable found.each_read
            ∙ length-addresses_of false buffers;
        left = found.refuses;
      }

  pub one_asks : (Takes : Ring → Type 0) (stable : Bool) (next : Ring) (named : Entry) (operation : Operation) (status writable : ℕ)
      (runs : List Segment) → asks_image request ≡ true → operation ≡ operation_of stable request
      → ((readable : List ℕ) → IsLeft device readable buffers request kept → runs ≡ runs_by request readable buffers)
      → HasStatus buffers status writable → named ≡ entry → next ≡ queues.still.launched ring entry → Takes ring
      → FindsOneThatAsks queues device races stage most Takes stable a (standing_at s next tt left) named operation status writable
      buffers runs wanted
  one_asks Takes stable next named operation status writable runs asks told are place same launched taken =
      rw (same, launched) (record {
        at = standing_at s ring tt left;
        request = request;
        kept = kept;
        finds = finds;
        taken = taken;
        asks = asks;
        operation_is = told;
        runs_are = are;
        place = place;
        stands = refl;
      })

  pub one_answered : (t : Sightings) (next : Ring) (len : ℕ) → asks_image request ≡ false
      → ((readable : List ℕ) → IsLeft device readable buffers request kept
      → IsAnsweredIn queues device races s t readable buffers entry len ring next)
      → FindsOneToAnswer queues device races stage most a (standing_at t next tt left) wanted
  one_answered t next len asks answered = record {
    at = standing_at s ring tt left;
    buffers = buffers;
    entry = entry;
    request = request;
    kept = kept;
    finds = finds;
    asks = asks;
    len = len;
    answered = answered;
    left = refl;
  }
