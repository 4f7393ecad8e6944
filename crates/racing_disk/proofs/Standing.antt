-- A guest that stands still.
use Rattle.std.proofs.Common.{Bool, ◌≡◌, ◌∙◌, ℕ, ◌+◌, false, true, List, [], ◌∷◌, length, refl, sym, ap, subst}
use Rattle.guest_memory.specs.Memory.{Memory, put}
use Rattle.chain.specs.declared.segment.Buffer.{Buffer}
use Rattle.chain.specs.declared.segment.Segment.{Segment}
use Rattle.chain.specs.Buffers.{Good}
use Rattle.chain.specs.Bytes.{readable_of, writable_of}
use Rattle.chain.specs.Service.{Does}
use Rattle.shared_memory.specs.Sightings.{Sightings, Loads, memory}
use Rattle.block_device.specs.declared.device.BlockDevice.{BlockDevice}
use Rattle.block_device.specs.declared.request.Request.{Request}
use Rattle.block_device.specs.Asking.{asks_image, status_by}
use Rattle.block_device.specs.declared.hosting.Flight.{Flight}
use Rattle.block_device.specs.declared.operation.Verdict.{Verdict}
use Rattle.block_device.specs.Hosting.{hosted_device}
use Rattle.block_device.specs.Hosting as hosting
use Rattle.block_device.specs.Operation.{IsToldToHost, runs_by, runs_for, zeroes_in}
use Rattle.block_device.specs.Progress.{IsServable}
use Rattle.block_device.specs.Request.{code_of, payload_of, request_of}
use Rattle.block_device.proofs.Telling.{zeroes_are}
use Rattle.chain_handler.specs.Device.{DoesRaced, RefusesRaced}
use Rattle.chain_handler.proofs.Still.{does_still, read_still}
use Rattle.racing_disk.specs.Copying.{IsCopy}
use Rattle.racing_disk.specs.Answering.{IsAnswered}
use Rattle.racing_disk.specs.Completing.{IsCompleted}
use Rattle.racing_disk.specs.Judging.{IsJudged}
use Rattle.racing_disk.specs.Telling.{IsLeft}

-- the request is that of the one memory
pub request_still : (device : BlockDevice) (old new : Sightings) (buffers : List Buffer) (room : ℕ) (request : Request)
    (runs : List Segment) → Good (memory old) buffers → Loads false old new
    → IsJudged device old new buffers room request runs
    → request ≡ request_of device (readable_of (memory old) buffers) room
request_still device old new buffers room request runs good loads j =
    j.judged.is ∙ ap (λ (l : List ℕ). request_of device l room)
    (read_still old new buffers j.readable good.inside loads j.copy)

-- and what the host is told, too
pub told_still : (device : BlockDevice) (old new : Sightings) (buffers : List Buffer) (room : ℕ) (request : Request)
    (runs : List Segment) → Good (memory old) buffers → Loads false old new
    → IsJudged device old new buffers room request runs
    → length (writable_of buffers) ≡ room + 1 → asks_image request ≡ true
    → IsToldToHost device (memory old) buffers request runs
told_still device old new buffers room request runs good loads j all asks =
    let same = read_still old new buffers j.readable good.inside loads j.copy in
    record {
      asked = record {
        room = room;
        all = all;
        is = request_still device old new buffers room request runs good loads j;
        servable = subst (λ (l : List ℕ). IsServable device.extent.count request (payload_of l) room) same j.judged.servable;
        asks = asks;
      };
      zeroes = λ some. j.judged.zeroes some ∙ ap (λ (l : List ℕ). zeroes_in (payload_of l)) same
          ∙ sym (zeroes_are (zeroes_in (payload_of (readable_of (memory old) buffers))) request buffers some);
    }

-- what a service left
pub left_still : (device : BlockDevice) (old new : Sightings) (buffers : List Buffer) (request : Request)
    (kept : List Segment) → Good (memory old) buffers → RefusesRaced {State = Unit {0}}
    (λ state readable buffers request. IsLeft device readable buffers request kept) false old new buffers tt request
    → asks_image request ≡ true → IsToldToHost device (memory old) buffers request kept
left_still device old new buffers request kept good r asks =
    told_still device old new buffers r.refuses.room request kept good r.reads
    (record { readable = r.readable; copy = r.each_read; judged = r.refuses.judged }) r.refuses.all asks

pub runs_still : (request : Request) (m : Memory) (buffers : List Buffer)
    → runs_by request (readable_of m buffers) buffers ≡ runs_for request m buffers
runs_still request m buffers = refl

-- ---- an answer, and a completion

pub answer_served : (device : BlockDevice) (races : Bool) (old read new : Sightings) (readable : List ℕ)
    (buffers : List Buffer) (len : ℕ) → Loads races old read → IsCopy old read buffers readable
    → IsAnswered device races read new readable buffers len
    → DoesRaced (hosted_device device) races old new buffers tt tt len true
answer_served device races old read new readable buffers len reads copy h = record {
  readable = readable;
  written = h.written;
  read_to = read;
  reads = reads;
  each_read = copy;
  gives = h.gives;
  each = h.each;
  parts = h.parts;
  stores = h.stores;
  len_is = h.len_is;
  any_is = h.any_is;
}

pub answer_still : (device : BlockDevice) (old read new : Sightings) (readable : List ℕ) (buffers : List Buffer) (len : ℕ)
    → Good (memory old) buffers → Loads false old read → IsCopy old read buffers readable
    → IsAnswered device false read new readable buffers len
    → Does (hosted_device device) (memory old) (memory new) buffers tt tt len true
answer_still device old read new readable buffers len good reads copy h =
    does_still (hosted_device device) old new buffers tt tt len true good.inside
    (answer_served device false old read new readable buffers len reads copy h)

pub completed_still : {T : Type 0} (flight : Flight T) (verdict : Verdict) (old new : Sightings) (len : ℕ)
    → IsCompleted false old new flight.status flight.writable flight.operation.kind verdict len
    → hosting.IsCompleted flight verdict (memory old) (memory new) len
completed_still flight verdict old new len h = record {
  memory = h.stored.stored
      ∙ ap (λ (m : Memory). put m flight.status (code_of (status_by verdict) ∷ [])) h.stored.interference;
  len_is = h.len_is;
}
