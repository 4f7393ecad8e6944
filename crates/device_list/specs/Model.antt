-- What stands behind a device's window, by the type of device.
use Rattle.std.specs.Prelude.{◌≡◌, ◌+◌, ◌^◌, ◌==◌, ◌||◌, ⊤, ℕ, zero, suc, nat_le, nat_lt, Bool, false, Option, Some, None, List, [], replicate}
use Rattle.std.specs.Option.{option_and_then}
use Rattle.guest_memory.specs.Memory.{Memory}
use Rattle.chain.specs.declared.budget.Budget.{Budget}
use Rattle.chain.specs.declared.budget.Progress.{Progress}
use Rattle.chain.specs.declared.budget.Progress.TheVariants.{Done}
use Rattle.mmio_window.specs.declared.device_kind.DeviceKind.{DeviceKind}
use Rattle.mmio_window.specs.declared.device_kind.DeviceKind.TheVariants as kind
use Rattle.mmio_window.specs.declared.stage.Stage.{Stage}
use Rattle.mmio_window.specs.Serving.{IsNotified, NothingHappens}
use Rattle.mmio_window.specs.Window.{WindowState, queue_at}
use Rattle.negotiation.specs.Features.{device_features}
use Rattle.racing_service.specs.declared.service.Limits.{Limits}
use Rattle.served_memory.specs.World.{World, one_round, standing}
use Rattle.entropy_device.specs.Device.{entropy}
use Rattle.entropy_device.specs.Pool.{fitting, supplied}
use Rattle.entropy_device.specs.Waiting.{is_starved}
use Rattle.network_device.specs.Config as network
use Rattle.console_device.specs.Config as console
use Rattle.console_device.specs.Input as console_input
use Rattle.block_device.specs.declared.device.BlockDevice.{BlockDevice}
use Rattle.block_device.specs.Config as block
use Rattle.block_device.specs.Tags.{is_any}
use Rattle.hosted_disk.specs.Disk as hosted
use Rattle.hosted_disk.specs.Disk.{HoldsFlights, HostedDisk, ServesDisk, ServesDiskTo, fresh_disk}
use Rattle.device_list.specs.declared.model.DeviceModel.{DeviceModel}
use Rattle.device_list.specs.declared.model.DeviceModel.TheVariants as model
use Rattle.device_list.specs.declared.spec.DeviceSpec.{DeviceSpec}
use Rattle.device_list.specs.declared.spec.DeviceSpec.TheVariants as spec
use Rattle.device_list.specs.Card.{Card, CardServesIn, ServesCard, fresh_card, is_card_starving, oldest_of, without_oldest}
use Rattle.device_list.specs.Terminal.{Terminal, TerminalServesIn, ServesTerminal, fresh_terminal, is_terminal_starving, output_of, terminal_configured, with_typed, without_output}

-- An entropy device with its pool, a network card, a disk that the host serves, a console, or a disk over the image, whose
-- extent numbers the slot's spare sectors.
pub data ModelState : Type 0 where
  Entropy : List ℕ → ModelState
  Network : Card → ModelState
  Block : HostedDisk → ModelState
  Console : Terminal → ModelState
  Image : BlockDevice → ModelState

-- the same, wherever its memory is from
abbrev pub state_of : {A : Type 0} → DeviceModel A → ModelState
state_of (model.Entropy pool) = Entropy pool
state_of (model.Network card) = Network card
state_of (model.Block disk) = Block disk
state_of (model.Console terminal) = Console terminal
state_of (model.Image disk) = Image disk

-- whether a device is to have an MTU that is below the least (5.1.4.1)
abbrev pub has_bad_mtu : DeviceSpec → Bool
has_bad_mtu (spec.Network mac mtu) = nat_lt mtu 68
has_bad_mtu spec = false

-- whether a disk that the host serves is to have so many sectors that its bytes aren't counted in 64 bits, or another
-- depth than 1 to 64
abbrev pub has_bad_disk : DeviceSpec → Bool
has_bad_disk (spec.Block sectors read_only identity depth) = nat_le (2 ^ 55) sectors || (depth == 0 || nat_lt 64 depth)
has_bad_disk spec = false

-- one for which nothing waits
abbrev pub fresh_model : DeviceSpec → ModelState
fresh_model spec.Entropy = Entropy []
fresh_model (spec.Network mac mtu) = Network (fresh_card mac mtu)
fresh_model (spec.Block sectors read_only identity depth) = Block (fresh_disk sectors read_only identity depth)
fresh_model (spec.Console cols rows) = Console (fresh_terminal cols rows)
fresh_model (spec.Image extent read_only identity) =
    Image (record { extent = extent; read_only = read_only; identity = identity })

-- the type of device
abbrev pub kind_of : ModelState → DeviceKind
kind_of (Entropy pool) = kind.Entropy
kind_of (Network card) = kind.Network
kind_of (Block disk) = kind.Block
kind_of (Console terminal) = kind.Console
kind_of (Image disk) = kind.Block

-- the features that it offers: an entropy device has none of its own (5.4.3)
abbrev pub features_of : ModelState → ℕ
features_of (Entropy pool) = device_features
features_of (Network card) = network.offered + device_features
features_of (Block disk) = block.block_features disk.device.read_only
features_of (Console terminal) = console.console_features
features_of (Image disk) = block.block_features disk.read_only

-- its configuration space: an entropy device has no fields (5.4.4)
abbrev pub config_of : ModelState → List ℕ
config_of (Entropy pool) = replicate 64 0
config_of (Network card) = network.config_of card.network.configuration
config_of (Block disk) = block.config_of disk.device.extent.count
config_of (Console terminal) = console.config_of terminal.console.cols terminal.console.rows
config_of (Image disk) = block.config_of disk.extent.count

-- The pool's bytes go into the chains on offer (5.4.6).
pub record FillsChains (pool : List ℕ) (m m' : Memory) (w w' : WindowState) (model' : ModelState) : Type 0 where
  pub left : List ℕ
  pub notified : IsNotified entropy 0 (queue_at 0 w) m m' w w' pool left
  pub is : model' ≡ Entropy left

-- A card, a disk or a console serves its queue so, and is of its kind afterwards.
pub record ServesAs {State : Type 0} (kind : State → ModelState) (Does : State → Type 0) (model' : ModelState) : Type 0 where
  pub after : State
  pub serves : Does after
  pub is : model' ≡ kind after

-- What a device does whose queue of this number is notified. A disk over the image is served by whoever has the image.
abbrev pub Serves : ModelState → ℕ → Memory → Memory → WindowState → WindowState → ModelState → Type 0
Serves (Entropy pool) zero m m' w w' model' = FillsChains pool m m' w w' model'
Serves (Entropy pool) (suc q) m m' w w' model' = NothingHappens m m' w w' (Entropy pool) model'
Serves (Network card) q m m' w w' model' = ServesAs Network (ServesCard card q m m' w w') model'
Serves (Block disk) q m m' w w' model' = ServesAs Block (ServesDisk disk q m m' w w') model'
Serves (Console terminal) q m m' w w' model' = ServesAs Console (ServesTerminal terminal q m m' w w') model'
Serves (Image disk) q m m' w w' model' = NothingHappens m m' w w' (Image disk) model'

-- a piece of the filling of chains
pub record FillsChainsIn (world : World) (stage : Stage) (limits : Limits) (progress : Progress) (pool : List ℕ)
    (m m' : world.Seen) (w w' : WindowState) (model' : ModelState) : Type 0 where
  pub left : List ℕ
  pub served : world.ServesTo entropy stage limits 0 (queue_at 0 w) progress m m' w w' pool left
  pub is : model' ≡ Entropy left

-- A piece of a device's service of its queue of this number, within limits, and whether more is to come. A disk isn't served so.
abbrev pub ModelServesIn : (world : World) → Stage → Limits → Progress → ModelState → ℕ → world.Seen → world.Seen
    → WindowState → WindowState → ModelState → Type 0
ModelServesIn world stage limits progress (Entropy pool) zero m m' w w' model' =
    FillsChainsIn world stage limits progress pool m m' w w' model'
ModelServesIn world stage limits progress (Entropy pool) (suc q) m m' w w' model' = (progress ≡ Done)
    × world.NothingHappens m m' w w' (Entropy pool) model'
ModelServesIn world stage limits progress (Network card) q m m' w w' model' =
    ServesAs Network (CardServesIn world stage limits progress card q m m' w w') model'
ModelServesIn world stage limits progress (Block disk) q m m' w w' model' = (progress ≡ Done)
    × world.NothingHappens m m' w w' (Block disk) model'
ModelServesIn world stage limits progress (Console terminal) q m m' w w' model' =
    ServesAs Console (TerminalServesIn world stage limits progress terminal q m m' w w') model'
ModelServesIn world stage limits progress (Image disk) q m m' w w' model' = (progress ≡ Done)
    × world.NothingHappens m m' w w' (Image disk) model'

-- The same of a guest that stands still, within a budget: it has disks that their host serves.
abbrev pub ModelServesTo : Stage → Budget → Progress → ModelState → ℕ → Memory → Memory → WindowState → WindowState
    → ModelState → Type 0
ModelServesTo stage budget progress (Block disk) q m m' w w' model' =
    ServesAs Block (ServesDiskTo stage budget progress disk q m m' w w') model'
ModelServesTo stage budget progress model q m m' w w' model' =
    ModelServesIn standing stage (one_round budget) progress model q m m' w w' model'

-- The device once this value was written at this offset of its window's configuration: a console may take it.
abbrev pub configured : ℕ → ℕ → ModelState → ModelState
configured offset value (Console terminal) = Console (terminal_configured offset value terminal)
configured offset value model = model

-- how many bytes a device takes of those that its host supplies, random ones or input: the first ones that fit. Another
-- than an entropy device or a console takes none.
abbrev pub taken_of : ModelState → List ℕ → Option ℕ
taken_of (Entropy pool) bytes = Some (fitting pool bytes)
taken_of (Console terminal) bytes = Some (console_input.fitting terminal.console.pending bytes)
taken_of model bytes = None

-- and the device that took them
abbrev pub supplied_model : ModelState → List ℕ → ModelState
supplied_model (Entropy pool) bytes = Entropy (supplied pool bytes)
supplied_model (Console terminal) bytes = Console (with_typed bytes terminal)
supplied_model model bytes = model

-- the network card that it is, if it is one
abbrev pub card_of : ModelState → Option Card
card_of (Network card) = Some card
card_of model = None

-- the device with its card changed so, if it has one
abbrev pub with_card : (Card → Card) → ModelState → ModelState
with_card change (Network card) = Network (change card)
with_card change model = model

-- the console that it is, if it is one
abbrev pub terminal_of : ModelState → Option Terminal
terminal_of (Console terminal) = Some terminal
terminal_of model = None

-- the device with its console changed so, if it has one
abbrev pub with_terminal : (Terminal → Terminal) → ModelState → ModelState
with_terminal change (Console terminal) = Console (change terminal)
with_terminal change model = model

-- What the driver sent that the host takes now, if any of it waits: the oldest frame of a card, or all output of a console.
-- There is no answer of a device whose driver sends nothing.
abbrev pub outgoing_of : ModelState → Option (Option (List ℕ))
outgoing_of (Network card) = Some (oldest_of card)
outgoing_of (Console terminal) = Some (output_of terminal)
outgoing_of model = None

-- the same where it is all one whether nothing waits or nothing is sent
abbrev pub sent_of : ModelState → Option (List ℕ)
sent_of model = option_and_then (λ waits. waits) (outgoing_of model)

-- the device without what the host takes
abbrev pub without_sent : ModelState → ModelState
without_sent (Network card) = Network (without_oldest card)
without_sent (Console terminal) = Console (without_output terminal)
without_sent model = model

-- whether a chain is on offer that waits for what the host supplies or sends
abbrev pub is_starving : ModelState → Memory → WindowState → Bool
is_starving (Entropy pool) m w = is_starved m (queue_at 0 w) pool
is_starving (Network card) m w = is_card_starving card m w
is_starving (Block disk) m w = false
is_starving (Console terminal) m w = is_terminal_starving terminal m w
is_starving (Image disk) m w = false

-- ---- a disk that the host serves

-- the disk that it is, if it is one
abbrev pub disk_of : ModelState → Option HostedDisk
disk_of (Block disk) = Some disk
disk_of model = None

-- what is in flight of it is held
abbrev pub IsHeld : Memory → WindowState → ModelState → Type 0
IsHeld m w (Block disk) = HoldsFlights m w disk
IsHeld m w model = ⊤

-- Of the same type with the same features, and what is in flight of it is held where it was.
pub record KeepsModel (old new : ModelState) : Type 0 where
  pub kind : kind_of new ≡ kind_of old
  pub features : features_of new ≡ features_of old
  pub held : (m : Memory) (w : WindowState) → IsHeld m w old → IsHeld m w new

-- whether anything is in flight of it
abbrev pub is_at_work : ModelState → Bool
is_at_work (Block disk) = is_any disk.tags
is_at_work model = false

-- whether a write at this offset of its window waits for what is in flight
abbrev pub must_wait : ℕ → ModelState → Bool
must_wait offset (Block disk) = hosted.must_wait offset disk
must_wait offset model = false

-- ---- a disk over the image

-- the disk that it is, if it is one
abbrev pub image_of : ModelState → Option BlockDevice
image_of (Image disk) = Some disk
image_of model = None
