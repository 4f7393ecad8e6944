-- What a judging tells: which slot of a description can't be had, and which region of its memory.
use Rattle.std.specs.Prelude.{◌≡◌, ℕ, ◌==◌, ◌^◌, nat_le, not, if◌then◌else◌, List}
use Rattle.std.specs.List.{prefix_len}
use Rattle.guest_memory.specs.declared.fault.MemoryFault.TheVariants.{NoRegions}
use Rattle.board.specs.declared.fault.BoardFault.TheVariants.{Slot as AtSlot}
use Rattle.board.specs.declared.fault.SlotFault.TheVariants.{Memory}
use Rattle.session.specs.declared.fault.SessionFault.TheVariants.{BadDevice, BadExtent, BadOutlet, Board}
use Rattle.session.specs.ImageDisks.{has_bad_image_disk}
use Rattle.session.specs.Refusing.{has_bad_device}
use Rattle.board_ffi.specs.declared.config.Config.{Config}
use Rattle.board_ffi.specs.declared.config.ToldConfig.{ToldConfig}
use Rattle.c_values.specs.declared.slot.Slot.{Slot}
use Rattle.c_values.specs.Slot.{slot_size}
use Rattle.board_ffi.specs.Config.{Describes, IsVerdict, Verdict, Bad, config_size, guest_of, OtherSize, RunsOn, verdict_code}

-- how many bytes of a console's output may wait at most
abbrev pub most_waiting : ℕ
most_waiting = 2 ^ 24

-- the place of the first slot that says another size, and of the first whose outlet is too large
abbrev pub first_of_other_size : List Slot → ℕ
first_of_other_size = prefix_len (λ slot. slot.size == slot_size)

-- of the first whose guest runs on
abbrev pub first_that_runs : List Slot → ℕ
first_that_runs = prefix_len (λ slot. not slot.runs)

abbrev pub first_of_large_outlet : List Slot → ℕ
first_of_large_outlet = prefix_len (λ slot. nat_le slot.outlet most_waiting)

-- and of the first with a further device that no guest may have
abbrev pub first_of_bad_device : List Slot → ℕ
first_of_bad_device = prefix_len (λ slot. not (has_bad_device (guest_of slot)))

-- and of the first with a further disk over the image of sectors that it can't have
abbrev pub first_of_bad_image_disk : List Slot → ℕ
first_of_bad_image_disk = prefix_len (λ slot. not (has_bad_image_disk (guest_of slot)))

-- the slot that a verdict is about, where it is about one, and else what stood there
abbrev pub slot_told : ToldConfig → Verdict → ℕ → ℕ
slot_told config OtherSize before =
    if config.size == config_size then first_of_other_size config.slots.now else before
slot_told config RunsOn before = first_that_runs config.slots.now
slot_told config (Bad BadOutlet) before = first_of_large_outlet config.slots.now
slot_told config (Bad BadDevice) before = first_of_bad_device config.slots.now
slot_told config (Bad BadExtent) before = first_of_bad_image_disk config.slots.now
slot_told config (Bad (Board (AtSlot number fault))) before = number
slot_told config _ before = before

-- and the region of its memory
abbrev pub region_told : Verdict → ℕ → ℕ
region_told (Bad (Board (AtSlot number (Memory region NoRegions)))) before = before
region_told (Bad (Board (AtSlot number (Memory region fault)))) before = region
region_told _ before = before

-- The number is that of a verdict on what is described, and the slot and the region are told that it is about.
pub record Judges (told : ToldConfig) (code slot_old slot_new region_old region_new : ℕ) : Type 0 where
  pub verdict : Verdict
  pub holds : (config : Config) → Describes told config → IsVerdict config verdict
  pub code_is : code ≡ verdict_code verdict
  pub slot : slot_new ≡ slot_told told verdict slot_old
  pub region : region_new ≡ region_told verdict region_old
