-- A slot's windows stay those of its devices, and sound.
use Rattle.std.proofs.Common.{◌≡◌, ℕ, ◌≤◌, ◌∙◌, Bool, List, [], length, Option, Result, Ok, Err, ap, arith, refl}
use Rattle.std.proofs.lemmas.List.Elements.{All-nil}
use Rattle.std.specs.Prelude.{IfOk, OnErr}
use Rattle.guest_memory.specs.Memory.{Memory, SameRange}
use Rattle.chain.specs.declared.budget.Budget.{Budget}
use Rattle.chain.specs.declared.budget.Progress.{Progress}
use Rattle.chain.specs.Service.{Device}
use Rattle.mmio_window.specs.declared.queue.Queue.{Queue}
use Rattle.mmio_window.specs.declared.stage.Stage.{Stage}
use Rattle.mmio_window.specs.DeviceKind.{configuration_changes}
use Rattle.mmio_window.specs.Pieces.{IsRefusedAt, ServesTo}
use Rattle.mmio_window.specs.Soundness.{IsSound}
use Rattle.mmio_window.specs.Window.{WindowState, fresh_window}
use Rattle.mmio_window.specs.declared.device_kind.DeviceKind.TheVariants.{Block, Console}
use Rattle.block_device.specs.Config.{block_features}
use Rattle.mmio_window.proofs.Devices.{KeepsDevice, KeepsDevice-refused, KeepsDevice-served}
use Rattle.mmio_window.proofs.Soundness.{IsSound-same_range}
use Rattle.device_list.specs.Device.{DeviceState, IsSoundDevice}
use Rattle.device_list.specs.List.{AreSoundDevices}
use Rattle.device_list.proofs.Sound.{still_sound}
use Rattle.console_device.specs.Config.{console_features}
use Rattle.board.specs.Slot.{IsSoundSlot}

-- a piece of the transmit queue's service, however it ends
pub transmit_keeps : {E : Type 0} (stage : Stage) (served refused : Device (List ℕ)) (budget : Budget)
    (queue : Option Queue) (m m' : Memory) (w w' : WindowState) (s s' : List ℕ) (result : Result Progress E)
    → IfOk result (λ progress. ServesTo stage served budget 1 queue progress m m' w w' s s')
    → OnErr result (IsRefusedAt stage refused budget 1 queue m m' w w' s s') → KeepsDevice w w'
transmit_keeps stage served refused budget queue m m' w w' s s' (Ok progress) ok no_memory =
    KeepsDevice-served served budget 1 stage queue progress m m' w w' s s' ok
transmit_keeps stage served refused budget queue m m' w w' s s' (Err why) ok no_memory =
    KeepsDevice-refused refused budget 1 stage queue m m' w w' s s' no_memory

-- ---- a slot stays sound

-- where a further device was at work
pub devices_changed : (m m' : Memory) (read_only : Bool) (block console : WindowState) (pending : List ℕ)
    (devices devices' : List DeviceState) → IsSoundSlot m read_only block console pending devices → SameRange m m'
    → AreSoundDevices m' devices' → IsSoundSlot m' read_only block console pending devices'
devices_changed m m' read_only block console pending devices devices' sound range here = record {
  block_kind = sound.block_kind;
  block_offers = sound.block_offers;
  block_generation = sound.block_generation;
  console_kind = sound.console_kind;
  console_offers = sound.console_offers;
  block_sound = IsSound-same_range m m' block range sound.block_sound;
  console_sound = IsSound-same_range m m' console range sound.console_sound;
  pending_fits = sound.pending_fits;
  devices_sound = here;
}

-- where its memory changed
pub memory_changed : {devices : List DeviceState} (m m' : Memory) (read_only : Bool) (block console : WindowState)
    (pending : List ℕ)
    → IsSoundSlot m read_only block console pending devices → SameRange m m'
    → IsSoundSlot m' read_only block console pending devices
memory_changed {devices} m m' read_only block console pending sound range =
    devices_changed m m' read_only block console pending devices devices sound range
    (still_sound m m' devices range sound.devices_sound)

-- where its block device was at work
pub block_changed : {devices : List DeviceState} (m m' : Memory) (read_only : Bool) (block block' console : WindowState) (pending : List ℕ)
    → IsSoundSlot m read_only block console pending devices → KeepsDevice block block'
    → IsSound m' block' → SameRange m m'
    → IsSoundSlot m' read_only block' console pending devices
block_changed {devices} m m' read_only block block' console pending sound keeps here range = record {
  block_kind = keeps.kind ∙ sound.block_kind;
  block_offers = keeps.offered ∙ sound.block_offers;
  block_generation = keeps.generation (ap configuration_changes sound.block_kind) ∙ sound.block_generation;
  console_kind = sound.console_kind;
  console_offers = sound.console_offers;
  block_sound = here;
  console_sound = IsSound-same_range m m' console range sound.console_sound;
  pending_fits = sound.pending_fits;
  devices_sound = still_sound m m' devices range sound.devices_sound;
}

-- and where its console was
pub console_changed : {devices : List DeviceState} (m m' : Memory) (read_only : Bool) (block console console' : WindowState)
    (pending pending' : List ℕ)
    → IsSoundSlot m read_only block console pending devices → KeepsDevice console console'
    → IsSound m' console' → SameRange m m'
    → length pending' ≤ 4096 → IsSoundSlot m' read_only block console' pending' devices
console_changed {devices} m m' read_only block console console' pending pending' sound keeps here range fits = record {
  block_kind = sound.block_kind;
  block_offers = sound.block_offers;
  block_generation = sound.block_generation;
  console_kind = keeps.kind ∙ sound.console_kind;
  console_offers = keeps.offered ∙ sound.console_offers;
  block_sound = IsSound-same_range m m' block range sound.block_sound;
  console_sound = here;
  pending_fits = fits;
  devices_sound = still_sound m m' devices range sound.devices_sound;
}

-- and as it is opened
pub opened_sound : (m : Memory) (read_only : Bool) (block console : WindowState) (pending : List ℕ)
    (devices : List DeviceState) → block ≡ fresh_window Block (block_features read_only) 0
    → console ≡ fresh_window Console console_features 0 → pending ≡ [] → devices ≡ []
    → IsSoundSlot m read_only block console pending devices
opened_sound m read_only block console pending devices b c p d = rw (b, c, p, d) (record {
  block_kind = refl;
  block_offers = refl;
  block_generation = refl;
  console_kind = refl;
  console_offers = refl;
  block_sound = record { queue_0 = tt; queue_1 = tt };
  console_sound = record { queue_0 = tt; queue_1 = tt };
  pending_fits = omega arith;
  devices_sound = All-nil (IsSoundDevice m);
})
