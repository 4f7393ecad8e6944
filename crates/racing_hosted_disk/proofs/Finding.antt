-- What a look leaves in the tag that it was made for.
use Rattle.std.proofs.Common.{◌≡◌, ℕ, ◌-◌, ◌<◌, Bool, Option, Some, None, List, drop, length, length-drop, ap, arith}
use Rattle.std.specs.Prelude.{IfNone, IfSome}
use Rattle.guest_memory.specs.Memory.{Inside, Memory}
use Rattle.chain.specs.declared.segment.Buffer.{Buffer}
use Rattle.chain.specs.declared.segment.Segment.{Segment}
use Rattle.chain.specs.Bytes.{writable_of}
use Rattle.chain.specs.Service.{Entry}
use Rattle.block_device.specs.declared.device.BlockDevice.{BlockDevice}
use Rattle.block_device.specs.Operation.{LiesInside}
use Rattle.racing_service.specs.Flights.{FlightLaws, TagFits}
use Rattle.racing_service.specs.declared.stage.Stage.{Stage}
use Rattle.racing_service.specs.Queue.{RacingKind}
use Rattle.racing_service.specs.Service.{Standing}
use Rattle.block_device.specs.declared.hosting.Flight.{Flight}
use Rattle.racing_disk.specs.Looking.{FindsOneThatAsks, FindsOneToAnswer}
use Rattle.racing_disk.specs.Telling.{HasStatus}
use Rattle.racing_hosted_disk.specs.Looking.{FindsIn}
use Rattle.block_device.specs.Tags.{TagIsHeld, in_room, token_in}

-- a chain that has a place for its status has some writable byte
some_writable : (buffers : List Buffer) (status writable : ℕ) → HasStatus buffers status writable → 0 < writable
some_writable buffers status writable has =
    let one : length (drop (writable - 1) (writable_of buffers)) ≡ 1 = ap (λ (l : List ℕ). length l) has.last in
    omega (arith, one, has.long, length-drop (writable - 1) (writable_of buffers))

module _ {Ring Token : Type 0} (kind : RacingKind Ring) (entry_of : Token → Entry)
    (IsTaken : Ring → Token → Type 0) (device : BlockDevice) (races : Bool)
    (stage : Stage) (most : ℕ) (stable : Bool) (a b : Standing Ring (Unit {0})) (buffers : List Buffer) (runs : List Segment)
    (wanted : Bool) where
  -- the chain that was found asks by this flight
  abbrev Asks : Flight Token → Type 0
  Asks flight = FindsOneThatAsks kind device races stage most (λ ring. IsTaken ring flight.token) stable a b (entry_of flight.token) flight.operation
      flight.status flight.writable buffers runs wanted

  pub found_in : (flight : Option (Flight Token)) → IfSome flight Asks
      → IfNone flight (FindsOneToAnswer kind device races stage most a b wanted)
      → FindsIn kind entry_of IsTaken device races stage most stable (in_room flight runs) a b wanted
  found_in None asks answers = answers
  found_in (Some flight) asks answers = record { buffers = buffers; finds = asks }

  pub found_held : (flight : Option (Flight Token)) (capacity : ℕ) (m : Memory) → IfSome flight Asks
      → IfSome flight (λ f. LiesInside capacity m f.operation runs) → IfSome flight (λ f. Inside m f.status 1)
      → TagIsHeld capacity m (in_room flight runs)
  found_held None capacity m asks lies place = tt
  found_held (Some flight) capacity m asks lies place = record {
    status = place;
    some = some_writable buffers flight.status flight.writable asks.place;
    inside = lies;
  }

  pub found_fits : {IsAhead Fits : Ring → Token → Type 0} {ahead_of : Ring → ℕ}
      → FlightLaws kind entry_of IsAhead Fits ahead_of → (flight : Option (Flight Token)) (ring : Ring)
      → IfSome flight (λ f. IsAhead ring f.token) → TagFits Fits ring (token_in (in_room flight runs))
  found_fits laws None ring ahead = tt
  found_fits laws (Some flight) ring ahead = laws.ahead_fits ring flight.token ahead
