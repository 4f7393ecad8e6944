-- Steps of a board by events that touch no memory, and which writes those are.
use Rattle.std.proofs.Common.{◌≡◌, ◌≢◌, ℕ, Bool, true, false, ◌==◌, Option, Some, None, List, refl, sym, ◌∙◌, ap}
use Rattle.std.specs.Prelude.{◌%◌, ◌^◌, if◌then◌else◌, nat_lt, slice_set}
use Rattle.std.specs.List.{slice_get}
use Rattle.std.specs.Option.{option_map_or}
use Rattle.std.proofs.lemmas.List.{set-set}
use Rattle.std.proofs.lemmas.Option.{same_Some}
use Rattle.guest_memory.specs.Memory.{Memory, SameRange}
use Rattle.mmio_window.specs.declared.action.Action.TheVariants as action
use Rattle.console_device.specs.Config.{emergency_write}
use Rattle.board.specs.declared.event.SlotWindow.{SlotWindow}
use Rattle.board.specs.declared.event.SlotWindow.TheVariants.{Block, Console}
use Rattle.mmio_window.specs.declared.register.Register.{Register}
use Rattle.mmio_window.specs.declared.register.Register.TheVariants.{QueueNotify, Status}
use Rattle.mmio_window.specs.Configuration.{is_configuration_access, narrowed}
use Rattle.mmio_window.specs.Reading.{configuration_offset}
use Rattle.mmio_window.specs.Registers.{register_at}
use Rattle.mmio_window.specs.Window.{WindowState}
use Rattle.mmio_window.specs.Writing.{register_action}
use Rattle.board.specs.declared.event.Event.{Event}
use Rattle.board.specs.declared.event.EventKind.TheVariants.{Write}
use Rattle.board.specs.declared.reply.Record.{Record}
use Rattle.board.specs.Machine.{window_of}
use Rattle.board.specs.Slot.{SlotState}
use Rattle.board.specs.Task.{Nothing, PutOut, task_of}
use Rattle.board.specs.Untouched.{outcome_over, over_memory, serves_queue, touches_memory, world_over}
use Rattle.board.specs.World.{SlotStep, Step, World}
use Rattle.board.proofs.Alone.{slot_step}
use Rattle.board.proofs.Lists.{get_set}
use Rattle.board.proofs.Seats.{step_there}
use Rattle.board.proofs.Untouched.{may_needs_none}

-- ---- a step

-- what stands in a place is put there again
again : {X : Type 0} (old new : List X) (h : ℕ) (one other last : X) → new ≡ slice_set old h one
    → slice_set new h last ≡ slice_set (slice_set old h other) h last
again old new h one other last is =
    ap (λ (xs : List _). slice_set xs h last) is ∙ (set-set old h one last ∙ sym (set-set old h other last))

left_there : {A : Type 0} (old new : World) (event : Event A) (written : Record A) (found after : SlotState)
    → slice_get old.slots event.slot ≡ Some found → slice_get new.slots event.slot ≡ Some after
    → (step : SlotStep old event.slot found event.what written new) → after ≡ step.outcome.state
left_there old new event written found after here there step =
    same_Some after step.outcome.state (sym there
    ∙ (ap (λ (slots : List SlotState). slice_get slots event.slot) step.slots
    ∙ get_set old.slots event.slot found step.outcome.state here))

pub step_over : {A : Type 0} (old new : World) (event : Event A) (written : Record A) (found after : SlotState)
    (m : Memory) → slice_get old.slots event.slot ≡ Some found → slice_get new.slots event.slot ≡ Some after
    → touches_memory event.what found ≡ false → SameRange found.memory m → Step old event written new
    → (after.memory ≡ found.memory)
    × Step (world_over event.slot found m old) event written (world_over event.slot after m new)
step_over old new event written found after m here there none range h =
    let step = slot_step old event written new found here h in
    let is = left_there old new event written found after here there step in
    let needs = may_needs_none found event.what old.health new.health none in
    let stays = needs.stays step.outcome step.given in (
      ap (λ (s : SlotState). s.memory) is ∙ stays,
      step_there (world_over event.slot found m old) (world_over event.slot after m new) event written
          (over_memory m found) (get_set old.slots event.slot found (over_memory m found) here)
          (record {
            outcome = outcome_over m step.outcome;
            given = (needs.same step.outcome m range stays).0 step.given;
            recorded = step.recorded;
            slots =
                again old.slots new.slots event.slot step.outcome.state (over_memory m found) (over_memory m after)
                step.slots
                ∙ ap (λ (s : SlotState). slice_set (slice_set old.slots event.slot (over_memory m found)) event.slot
                (over_memory m s)) is;
            disturbed = step.disturbed;
            outside = step.outside;
          }),
    )

-- ---- which writes

-- what isn't a notification leaves no queue to be served
emergency : (puts : Bool) (byte : ℕ) → serves_queue (if puts then PutOut byte else Nothing) ≡ false
emergency true byte = refl
emergency false byte = refl

configuration_leaves : (window : SlotWindow) (offset width value : ℕ) (is_answered : Bool)
    → serves_queue (task_of window
    (if is_answered then action.ConfigWrite offset width (narrowed width value) else action.None)) ≡ false
configuration_leaves Block offset width value true = refl
configuration_leaves Block offset width value false = refl
configuration_leaves Console offset width value true =
    emergency (offset == emergency_write) (narrowed width value % 2 ^ 8)
configuration_leaves Console offset width value false = refl

nothing_leaves : (window : SlotWindow) → serves_queue (task_of window action.None) ≡ false
nothing_leaves Block = refl
nothing_leaves Console = refl

status_leaves : (window : SlotWindow) (resets : Bool)
    → serves_queue (task_of window (if resets then action.Reset else action.None)) ≡ false
status_leaves Block true = refl
status_leaves Block false = refl
status_leaves Console true = refl
status_leaves Console false = refl

register_leaves : (window : SlotWindow) (found : Option Register) (value : ℕ) (w : WindowState)
    → found ≢ Some QueueNotify
    → serves_queue (task_of window (option_map_or (λ r. register_action r value w) found action.None)) ≡ false
register_leaves window None value w other = nothing_leaves window
register_leaves window (Some QueueNotify) value w other = absurd (other refl)
register_leaves window (Some Status) value w other = status_leaves window (value == 0)
register_leaves window (Some name) value w other = nothing_leaves window

write_leaves : (window : SlotWindow) (offset width value : ℕ) (w : WindowState) (control whole : Bool)
    → register_at offset ≢ Some QueueNotify
    → serves_queue (task_of window (if control
    then (if whole then option_map_or (λ r. register_action r value w) (register_at offset) action.None
    else action.None)
    else (if is_configuration_access offset width then action.ConfigWrite offset width (narrowed width value)
    else action.None))) ≡ false
write_leaves window offset width value w true true other =
    register_leaves window (register_at offset) value w other
write_leaves window offset width value w true false other = nothing_leaves window
write_leaves window offset width value w false whole other =
    configuration_leaves window offset width value (is_configuration_access offset width)

pub only_notify : (A : Type 0) (state : SlotState) (window : SlotWindow) (offset width value : ℕ)
    → register_at offset ≢ Some QueueNotify
    → touches_memory {A = A} (Write window offset width value) state ≡ false
only_notify A state window offset width value other =
    write_leaves window offset width value (window_of window state) (nat_lt offset configuration_offset) (width == 4)
    other
