-- Which traces have a text.
use Rattle.std.specs.Prelude.{◌≡◌, ℕ, ◌*◌, ◌^◌, ◌<◌, ◌≤◌, List, All, ⊤, length}
use Rattle.board.specs.declared.event.Event.{Event}
use Rattle.board.specs.declared.event.EventKind.{EventKind}
use Rattle.board.specs.declared.event.EventKind.TheVariants.{Read, Write, MemRead, MemWrite, Input, Resize, Restore, Host, Device}
use Rattle.block_device.specs.declared.operation.HostEvent.{HostEvent}
use Rattle.block_device.specs.declared.operation.HostEvent.TheVariants.{Complete}
use Rattle.board.specs.declared.event.DeviceEvent.{DeviceEvent}
use Rattle.board.specs.declared.event.DeviceEvent.TheVariants as device
use Rattle.board.specs.declared.spec.SlotSpec.{SlotSpec}
use Rattle.board.specs.declared.spec.Backing.{Backing}
use Rattle.board.specs.declared.spec.Backing.TheVariants.{Image}
use Rattle.trace.specs.declared.format.Format.{Format}
use Rattle.trace.specs.declared.format.Format.TheVariants.{Plain, Extended}
use Rattle.trace.specs.declared.format.Version.TheVariants.{One}
use Rattle.trace.specs.Text.{Content, word_for}
use Rattle.trace.specs.Format.{identity_in_version_1}
use Rattle.trace.specs.Words.{DepthInRange, IsWidth, IsWordOf, RegionInRange, SizeInRange, SpecInRange, StandsBeside}

-- an access to a register that has a spelling: its offset has three digits, and its width is 1, 2 or 4
pub record IsAccess (offset width : ℕ) : Type 0 where
  pub three_digits : offset < 0x1000
  pub wide : IsWidth width

-- a write that has a spelling: so has its access, and its value is within its width
pub record IsWriteAccess (offset width value : ℕ) : Type 0 where
  pub access : IsAccess offset width
  pub within : value < 2 ^ (8 * width)

-- what is done to a further device and has a spelling
abbrev pub IsPrintableDone : {A : Type 0} → DeviceEvent A → Type 0
IsPrintableDone (device.Read offset width) = IsAccess offset width
IsPrintableDone (device.Write offset width value) = IsWriteAccess offset width value
IsPrintableDone done = ⊤

-- what has a spelling
abbrev pub IsPrintableKind : {A : Type 0} → EventKind A → Type 0
IsPrintableKind (Read kind offset width) = IsAccess offset width
IsPrintableKind (Write kind offset width value) = IsWriteAccess offset width value
IsPrintableKind (MemRead addr len) = ⊤
IsPrintableKind (MemWrite addr bs) = ⊤
IsPrintableKind (Input bs) = ⊤
IsPrintableKind (Resize cols rows) = ⊤
IsPrintableKind (Restore bs) = ⊤
IsPrintableKind (Host said) = ⊤
IsPrintableKind (Device n done) = IsPrintableDone done

-- a memory of so many regions that has a spelling in a format: in a plain one there is one
abbrev pub IsPrintableMemory : Format → ℕ → Type 0
IsPrintableMemory (Plain version) count = count ≡ 1
IsPrintableMemory Extended count = 1 ≤ count

-- a disk, and so many spare sectors, that have a spelling in a format: in a plain one it is on the image, and there are none
abbrev pub IsPrintableDisk : Format → Backing → ℕ → Type 0
IsPrintableDisk (Plain version) backing spare = (backing ≡ Image) × (spare ≡ 0)
IsPrintableDisk Extended backing spare = StandsBeside backing spare

-- a slot that has a line in a format; version 1 leaves its identity out
pub record IsPrintableSlot (format : Format) (s : SlotSpec) : Type 0 where
  pub memory : IsPrintableMemory format (length s.regions)
  pub disk : IsPrintableDisk format s.backing s.spare
  pub identity : format ≡ Plain One → s.identity ≡ identity_in_version_1

-- a trace that has a text: each of its slots and events has a line, and each line's word is of its format
pub record IsPrintable {A : Type 0} (t : Content A) : Type 0 where
  pub slots : All (IsPrintableSlot t.format) t.slots
  pub events : All (λ e. IsPrintableKind e.what) t.events
  pub words : All (λ e. IsWordOf t.format (word_for e.what)) t.events

-- What the integers of a trace give by themselves, for a clause that speaks of every trace: in a clause
-- a number has no upper bound.
pub record SlotInRange (s : SlotSpec) : Type 0 where
  pub regions : All RegionInRange s.regions
  pub few : length s.regions ≤ 8
  pub start : s.extent.start < 2 ^ 64
  pub count : s.extent.count < 2 ^ 64
  pub spare : s.spare < 2 ^ 64
  pub depth : DepthInRange s.backing
  pub cols : s.cols < 2 ^ 16
  pub rows : s.rows < 2 ^ 16
  pub identity : All (λ b. b < 2 ^ 8) s.identity
  pub twenty : length s.identity ≡ 20

pub record RangeInRange (addr len : ℕ) : Type 0 where
  pub from : addr < 2 ^ 64
  pub size : len < 2 ^ 32

pub record BytesInRange (addr : ℕ) (bs : List ℕ) : Type 0 where
  pub from : addr < 2 ^ 64
  pub each : All (λ b. b < 2 ^ 8) bs

pub record EachInRange (bs : List ℕ) : Type 0 where
  pub each : All (λ b. b < 2 ^ 8) bs

pub record TagInRange (tag : ℕ) : Type 0 where
  pub small : tag < 2 ^ 8

abbrev pub HostInRange : HostEvent → Type 0
HostInRange (Complete tag verdict) = TagInRange tag
HostInRange said = ⊤

abbrev pub DoneInRange : {A : Type 0} → DeviceEvent A → Type 0
DoneInRange (device.Plug spec) = SpecInRange spec
DoneInRange (device.Supply bs) = EachInRange bs
DoneInRange (device.Receive bs) = EachInRange bs
DoneInRange (device.Resize cols rows) = SizeInRange cols rows
DoneInRange (device.Host said) = HostInRange said
DoneInRange done = ⊤

pub record DeviceInRange {A : Type 0} (n : ℕ) (done : DeviceEvent A) : Type 0 where
  pub number : n < 2 ^ 8
  pub range : DoneInRange done

abbrev pub KindInRange : {A : Type 0} → EventKind A → Type 0
KindInRange (Read kind offset width) = ⊤
KindInRange (Write kind offset width value) = ⊤
KindInRange (MemRead addr len) = RangeInRange addr len
KindInRange (MemWrite addr bs) = BytesInRange addr bs
KindInRange (Input bs) = EachInRange bs
KindInRange (Resize cols rows) = SizeInRange cols rows
KindInRange (Restore bs) = EachInRange bs
KindInRange (Host said) = HostInRange said
KindInRange (Device n done) = DeviceInRange n done

pub record EventInRange {A : Type 0} (e : Event A) : Type 0 where
  pub slot : e.slot < 2 ^ 8
  pub what : KindInRange e.what

pub record InRange {A : Type 0} (t : Content A) : Type 0 where
  pub cache : t.cache < 2 ^ 32
  pub slots : All SlotInRange t.slots
  pub events : All EventInRange t.events
