-- What is in flight of a sound session.
use Rattle.std.proofs.Common.{◌≡◌, ℕ, List, Option, Some, refl, subst}
use Rattle.std.specs.Prelude.{IfSome}
use Rattle.guest_memory.specs.Faults.{zeroed_regions}
use Rattle.guest_memory.specs.Memory.{Memory}
use Rattle.chain.specs.declared.segment.Segment.{Segment}
use Rattle.block_device.specs.declared.operation.Operation.{Operation}
use Rattle.block_device.specs.Operation.{LiesInside}
use Rattle.racing_session.specs.Session.{IsMemoryOf, RacingSession}
use Rattle.racing_ffi.specs.Disk.{IsInFlight, operation_of, runs_of}

module _ (session : RacingSession) (tag : ℕ) (asked : Operation) (runs : List Segment) where
  abbrev Lies : Memory → Operation → Type 0
  Lies m operation = LiesInside session.guest.block.disk.device.extent.count m operation runs

  pub told : operation_of tag session ≡ Some asked → runs ≡ runs_of tag session
      → ((m : Memory) → IsMemoryOf session m → IfSome (operation_of tag session) (Lies m))
      → IsInFlight tag asked runs session
  told flight are inside =
      let lies : (m : Memory) → IsMemoryOf session m → Lies m asked =
      λ m of. subst (λ (found : Option Operation). IfSome found (Lies m)) flight (inside m of) in
      record {
        flight = flight;
        runs_are = are;
        few = (lies (zeroed_regions session.regions) (record { base = refl; size = refl; gaps = refl })).few;
        inside = lies;
      }
