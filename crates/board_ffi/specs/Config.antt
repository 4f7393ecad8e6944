-- What a config describes, and what is wrong with it.
use Rattle.std.specs.Prelude.{◌≡◌, ◌≢◌, ◌⊎◌, ℕ, ◌/◌, ◌%◌, ◌==◌, if◌then◌else◌, Bool, false, List, [], ◌∷◌, Option, Some, None, All, length, map}
use Rattle.chain.specs.declared.budget.Budget.{Budget}
use Rattle.guest_bytes.specs.declared.loan.Loan.{Loan}
use Rattle.device_list.specs.declared.spec.DeviceSpec.{DeviceSpec}
use Rattle.c_values.specs.Limits.{budget_by}
use Rattle.c_values.specs.Slot.{depth_of, regions_of, slot_size}
use Rattle.board.specs.declared.spec.Backing.{Backing}
use Rattle.board.specs.Fault.{IsAccepted}
use Rattle.board.specs.Lent.{all_regions}
use Rattle.session.specs.declared.fault.SessionFault.{SessionFault}
use Rattle.session.specs.declared.guest.GuestSpec.{GuestSpec}
use Rattle.session.specs.Session.{SessionState, new_session, new_session_over, slots_of}
use Rattle.session.specs.ImageDisks.{AreImageDisks}
use Rattle.session.specs.Refusing.{AreDevices, AreOutlets, IsLentRefusedFor, IsRefusedFor}
use Rattle.board_ffi.specs.declared.config.Config.{Config}
use Rattle.board_ffi.specs.declared.config.ToldConfig.{ToldConfig}
use Rattle.board_ffi.specs.declared.config.ToldLoan.{ToldLoan}
use Rattle.c_values.specs.declared.slot.Device.{Device}
use Rattle.c_values.specs.declared.slot.Slot.{Slot}
use Rattle.board_ffi.specs.Codes.{fault_code}

-- who has the disk of a slot
abbrev pub backing_of : Bool → ℕ → Backing
backing_of hosted depth = if hosted then Backing.Host (depth_of depth) else Backing.Image

-- a further disk that the host serves
abbrev pub disk_of : Device → DeviceSpec
disk_of device = DeviceSpec.Block device.sectors device.read_only device.identity (depth_of device.depth)

-- and one over spare sectors of the image
abbrev pub image_disk_of : Device → DeviceSpec
image_disk_of device =
    DeviceSpec.Image (record { start = device.start; count = device.sectors }) device.read_only device.identity

-- A further device, if it is one, by its type (VIRTIO 1.2, 5): 1 is a network card, 2 a disk that the host serves, 3 a console,
-- and 4 an entropy device; 258 is a disk over the image. One of a type that isn't known is a card whose MTU no slot takes.
abbrev pub device_of : Device → Option DeviceSpec
device_of device =
    if device.kind == 0 then None
    else if device.kind == 4 then Some DeviceSpec.Entropy
    else if device.kind == 2 then Some (disk_of device)
    else if device.kind == 258 then Some (image_disk_of device)
    else if device.kind == 3 then Some (DeviceSpec.Console device.cols device.rows)
    else Some (DeviceSpec.Network device.mac (if device.kind == 1 then device.mtu else 0))

-- the guest of a slot that C describes
abbrev pub guest_of : Slot → GuestSpec
guest_of slot = record {
  slot = record {
    regions = regions_of slot.regions;
    extent = record { start = slot.start; count = slot.count };
    spare = slot.spare;
    backing = backing_of slot.hosted slot.depth;
    read_only = slot.read_only;
    cols = slot.cols;
    rows = slot.rows;
    identity = slot.identity;
  };
  outlet = slot.outlet;
  devices = map device_of slot.devices;
}

-- how many bytes a config has that this version describes
abbrev pub config_size : ℕ
config_size = 72

-- each slot says that it has so many
abbrev pub AreSized : List Slot → Type 0
AreSized slots = All (λ slot. slot.size ≡ slot_size) slots

-- and the config too
abbrev pub IsSized : Config → Type 0
IsSized config = (config.size ≡ config_size) × AreSized config.slots.now

-- none is of a guest whose CPUs run on while it is served: such a guest has a handle of its own
abbrev pub StandStill : List Slot → Type 0
StandStill slots = All (λ slot. slot.runs ≡ false) slots

abbrev pub guests_of : List Slot → List GuestSpec
guests_of slots = map guest_of slots

-- how much one call may serve
abbrev pub budget_of : Config → Budget
budget_of config = budget_by config.chains config.bytes

-- the bytes of each loan
abbrev pub lent_bytes : List Loan → List (List ℕ)
lent_bytes loans = map (λ loan. loan.items) loans

-- how many bytes each has
abbrev pub lens_of : List Loan → List ℕ
lens_of loans = map (λ run. length run) (lent_bytes loans)

-- and each region of the guests
abbrev pub region_lens : List GuestSpec → List ℕ
region_lens guests = map (λ region. region.len) (all_regions (slots_of guests))

-- there are no loans, or those of the regions
abbrev pub AreLent : List GuestSpec → List ℕ → Type 0
AreLent guests lens = (lens ≡ []) ⊎ (lens ≡ region_lens guests)

-- ---- by the guests, and the bytes that are lent: of none the library makes their memories

abbrev pub new_by : List GuestSpec → List (List ℕ) → List ℕ → Budget → SessionState
new_by guests [] = new_session guests
new_by guests (run ∷ bytes) = new_session_over guests (run ∷ bytes)

abbrev pub RefusedBy : List GuestSpec → List (List ℕ) → List ℕ → ℕ → Budget → SessionFault → Type 0
RefusedBy guests [] = IsRefusedFor guests
RefusedBy guests (run ∷ bytes) = IsLentRefusedFor guests (run ∷ bytes)

-- ---- of a config

-- the session that it describes
abbrev pub session_of : Config → SessionState
session_of config =
    new_by (guests_of config.slots.now) (lent_bytes config.loans.now) config.image.now (budget_of config)

-- such a session can be had
pub record IsGood (config : Config) : Type 0 where
  pub loans : AreLent (guests_of config.slots.now) (lens_of config.loans.now)
  pub whole : length config.image.now % 512 ≡ 0
  pub outlets : AreOutlets (guests_of config.slots.now)
  pub devices : AreDevices (guests_of config.slots.now)
  pub image_disks : AreImageDisks (guests_of config.slots.now)
  pub accepted :
      IsAccepted (length config.image.now / 512) (slots_of (guests_of config.slots.now)) config.cache

-- it can't be had for this, of which the first counts
abbrev pub IsRefused : Config → SessionFault → Type 0
IsRefused config =
    RefusedBy (guests_of config.slots.now) (lent_bytes config.loans.now) config.image.now config.cache
    (budget_of config)

-- ---- a config that is told: its loans aren't owned

abbrev pub told_lens : List ToldLoan → List ℕ
told_lens loans = map (λ loan. loan.len) loans

-- it describes each config of the same whose loans are as long
pub record Describes (told : ToldConfig) (config : Config) : Type 0 where
  pub size : config.size ≡ told.size
  pub slots : config.slots.now ≡ told.slots.now
  pub loans : lens_of config.loans.now ≡ told_lens told.loans.now
  pub image : config.image.now ≡ told.image.now
  pub cache : config.cache ≡ told.cache
  pub chains : config.chains ≡ told.chains
  pub bytes : config.bytes ≡ told.bytes

-- ---- the verdict

-- What is to be said of a config: a size is another version's, a guest runs on, it is good, or it can't be had for this.
pub data Verdict : Type 0 where
  OtherSize : Verdict
  RunsOn : Verdict
  Good : Verdict
  Bad : SessionFault → Verdict

abbrev pub IsVerdict : Config → Verdict → Type 0
IsVerdict config OtherSize = ¬ IsSized config
IsVerdict config RunsOn = IsSized config × ¬ StandStill config.slots.now
IsVerdict config Good = IsSized config × StandStill config.slots.now × IsGood config
IsVerdict config (Bad why) =
    IsSized config × StandStill config.slots.now × (why ≢ SessionFault.NoMemory) × IsRefused config why

abbrev pub verdict_code : Verdict → ℕ
verdict_code OtherSize = 17
verdict_code RunsOn = 34
verdict_code Good = 0
verdict_code (Bad why) = fault_code why
