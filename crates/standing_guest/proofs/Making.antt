-- A new guest is a new slot, and its windows are read as that of a slot.
use Rattle.std.proofs.Common.{◌≡◌, ℕ, zero, suc, Option, None, List, [], ◌∷◌, map, replicate, refl, ap}
use Rattle.std.specs.Option.{option_map}
use Rattle.guest_memory.specs.declared.spec.RegionSpec.{RegionSpec}
use Rattle.guest_memory.specs.Faults.{zeroed_regions}
use Rattle.guest_memory.specs.Memory.{Memory}
use Rattle.block_device.specs.Flights as still
use Rattle.block_device.specs.Tags.{is_any}
use Rattle.racing_guest.specs.declared.reply.GuestWindow.{GuestWindow}
use Rattle.racing_guest.specs.declared.reply.GuestWindow.TheVariants.{Block, Console}
use Rattle.racing_guest.specs.declared.spec.GuestSpec.{GuestSpec}
use Rattle.racing_guest.specs.Guest.{RacingGuest, fresh_guest, register}
use Rattle.board.specs.declared.event.EventKind.TheVariants.{Read}
use Rattle.board.specs.declared.reply.Reply.TheVariants.{Value}
use Rattle.board.specs.Backing.{tags_in}
use Rattle.board.specs.Machine.{at_rest}
use Rattle.board.specs.Slot.{opened, state_of}
use Rattle.standing_guest.specs.Event.{IsEvent}
use Rattle.standing_guest.specs.Slot.{in_flight, slot_of, slot_spec, slot_window}
use Rattle.standing_guest.proofs.Console.{and_false}

none_taken : (depth : ℕ) → map (option_map in_flight) (replicate depth None) ≡ replicate depth None
none_taken zero = refl
none_taken (suc depth) = ap (λ (tags : List (Option still.InFlight)). None ∷ tags) (none_taken depth)

pub new_slot : (bytes : List ℕ) (regions : List RegionSpec) (spec : GuestSpec)
    → slot_of (zeroed_regions regions) (fresh_guest spec) ≡ state_of bytes (opened (slot_spec regions spec))
new_slot bytes regions spec = rw (none_taken spec.depth) refl

pub reads_too : {A : Type 0} (m : Memory) (guest : RacingGuest) (window : GuestWindow) (offset width : ℕ)
    → IsEvent {A = A} (slot_of m guest) (Read (slot_window window) offset width) (slot_of m guest)
    (Value (register window offset width guest)) []
reads_too m guest Block offset width = record {
  after = at_rest;
  gives = record {
    gives = rw (and_false (is_any (tags_in (slot_of m guest).host))) (record { alike = refl; image = refl });
    image = refl;
  };
}
reads_too m guest Console offset width = record {
  after = at_rest;
  gives = record {
    gives = rw (and_false (is_any (tags_in (slot_of m guest).host))) (record { alike = refl; image = refl });
    image = refl;
  };
}
