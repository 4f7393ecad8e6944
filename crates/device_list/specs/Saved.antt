-- What is saved of the devices' windows, and what the devices become that take it up. What waits in them stays here as
-- it is: `Waiting` has that.
use Rattle.std.specs.Prelude.{◌≡◌, ℕ, zero, suc, List, [], ◌∷◌, Option, Some, length, map, replicate, slice_set}
use Rattle.std.specs.List.{AllZip, slice_get}
use Rattle.std.specs.Option.{option_and_then, option_map}
use Rattle.guest_memory.specs.Memory.{Memory}
use Rattle.mmio_window.specs.DeviceKind.{device_id_of}
use Rattle.mmio_window.specs.Saved.{saved_window, window_restored}
use Rattle.mmio_window.specs.Window.{WindowState}
use Rattle.snapshot.specs.declared.saved.SavedDevice.{SavedDevice}
use Rattle.device_list.specs.Device.{DeviceState}
use Rattle.device_list.specs.Model.{ModelState, Block, Image, Network, kind_of}

-- the address and the MTU of a network card (5.1.4), and zeros of another device
abbrev pub mac_of : ModelState → List ℕ
mac_of (Network card) = card.network.configuration.mac
mac_of model = replicate 6 0

abbrev pub mtu_of : ModelState → ℕ
mtu_of (Network card) = card.network.configuration.mtu
mtu_of model = 0

-- how many sectors a disk has, and what it answers to GET_ID (5.2.6), and zeros of another device
abbrev pub sectors_of : ModelState → ℕ
sectors_of (Block disk) = disk.device.extent.count
sectors_of (Image disk) = disk.extent.count
sectors_of model = 0

abbrev pub identity_of : ModelState → List ℕ
identity_of (Block disk) = disk.device.identity
identity_of (Image disk) = disk.identity
identity_of model = replicate 20 0

-- what is saved of a device
abbrev pub saved_device : DeviceState → SavedDevice
saved_device d = record {
  device_id = device_id_of (kind_of d.model);
  mac = mac_of d.model;
  mtu = mtu_of d.model;
  sectors = sectors_of d.model;
  identity = identity_of d.model;
  window = saved_window d.window;
}

abbrev pub saved_devices : List DeviceState → List SavedDevice
saved_devices devices = map saved_device devices

-- The device is of the description that was saved: its type, its address and its MTU, its sectors and its identity, and the
-- features that it offers.
pub record SuitsDevice (saved : SavedDevice) (d : DeviceState) : Type 0 where
  pub device_id : saved.device_id ≡ device_id_of (kind_of d.model)
  pub mac : saved.mac ≡ mac_of d.model
  pub mtu : saved.mtu ≡ mtu_of d.model
  pub sectors : saved.sectors ≡ sectors_of d.model
  pub identity : saved.identity ≡ identity_of d.model
  pub offered : saved.window.negotiation.offered ≡ d.window.negotiation.offered

-- there are as many devices, and each suits
abbrev pub SuitDevices : List SavedDevice → List DeviceState → Type 0
SuitDevices saved devices = AllZip SuitsDevice saved devices

-- the device's window as it was saved, over this memory, if it can stand so
abbrev pub device_window_restored : Memory → SavedDevice → DeviceState → Option WindowState
device_window_restored m saved d = window_restored (kind_of d.model) m saved.window

-- over this memory what is saved of each device gives its window back
abbrev pub RestoresEach : Memory → List DeviceState → Type 0
RestoresEach m [] = Unit {0}
RestoresEach m (d ∷ ds) = (device_window_restored m (saved_device d) d ≡ Some d.window) × RestoresEach m ds

-- there are as many devices, and each stands on the same model
abbrev pub AreOfModels : List DeviceState → List DeviceState → Type 0
AreOfModels devices others = AllZip (λ d e. d.model ≡ e.model) devices others

-- the devices, of which one has this window
abbrev pub with_window : ℕ → WindowState → List DeviceState → Option (List DeviceState)
with_window n w devices = option_map (λ d. slice_set devices n (record d { window = w })) (slice_get devices n)

-- the first devices, so many, each with its window as it was saved, if all these windows can stand so
abbrev pub first_restored : Memory → ℕ → List SavedDevice → List DeviceState → Option (List DeviceState)
first_restored m zero saved devices = Some devices
first_restored m (suc n) saved devices =
    option_and_then (λ of_device.
    option_and_then (λ device.
    option_and_then (λ window. option_and_then (with_window n window) (first_restored m n saved devices))
    (device_window_restored m of_device device)) (slice_get devices n)) (slice_get saved n)

-- each device of these windows
abbrev pub devices_restored : Memory → List SavedDevice → List DeviceState → Option (List DeviceState)
devices_restored m saved devices = first_restored m (length saved) saved devices
