-- The table of a trace's lines: the word that each begins with, and what the fields after it say.
use Rattle.std.specs.Prelude.{◌≡◌, ℕ, ◌*◌, ◌^◌, ◌<◌, ◌≤◌, ◌⊎◌, ⊤, if◌then◌else◌, All, Bool, List, [], ◌∷◌, ◌++◌, bytes_eq, codes, length, map, slice_index_or}
use Rattle.guest_memory.specs.declared.spec.RegionSpec.{RegionSpec}
use Rattle.board.specs.declared.spec.Backing.{Backing}
use Rattle.board.specs.declared.spec.Backing.TheVariants.{Image, Host}
use Rattle.board.specs.declared.event.SlotWindow.{SlotWindow}
use Rattle.device_list.specs.declared.spec.DeviceSpec.{DeviceSpec}
use Rattle.device_list.specs.declared.spec.DeviceSpec.TheVariants as spec
use Rattle.device_list.specs.declared.spec.DeviceSpec.TheVariants.{Entropy, Network, Block, Console}
use Rattle.block_device.specs.declared.extent.Extent.{Extent}
use Rattle.block_device.specs.declared.operation.Verdict as operation
use Rattle.trace.specs.declared.format.Format.{Format}
use Rattle.trace.specs.declared.format.Format.TheVariants.{Plain, Extended}
use Rattle.trace.specs.declared.table.Field.{Field}
use Rattle.trace.specs.declared.table.Field.TheVariants as field
use Rattle.trace.specs.declared.table.BehindKind.{BehindKind}
use Rattle.trace.specs.declared.table.BehindKind.TheVariants.{Nothing, HostedDisk, ImageDisk}
use Rattle.trace.specs.declared.word.Word.{Word}
use Rattle.trace.specs.declared.word.Word.TheVariants.{Cache, Slot, Read, Write, MemRead, MemWrite, Input, Resize, Restore, Complete, Drop, Hold, Release, Plug, DeviceRead, DeviceWrite, Supply, Receive, TakeSent, DropSent, SetLink, DeviceResize, DeviceComplete, DeviceDrop, DeviceHold, DeviceRelease}
use Rattle.hexadecimal.specs.Fields.{IsBytesField, IsFixed, SpellsBytes, SpellsNumber}
use Rattle.trace.specs.Spelling.{window, width_digit, disk, mode, verdict, region_text, regions_text, card, console, device_kind, link_state}
use Rattle.trace.specs.Format.{IsExtended, if_extended, unless_version_1}

-- how many bytes a register access may have
abbrev pub IsWidth : ℕ → Type 0
IsWidth width = (width ≡ 1) ⊎ ((width ≡ 2) ⊎ (width ≡ 4))

-- the field is the width of a register access
pub record IsWidthField (field : List ℕ) (width : ℕ) : Type 0 where
  pub fits : IsWidth width
  pub spelled : field ≡ width_digit width

-- the field is exactly so many bytes
pub record IsBytesOf (count : ℕ) (field bs : List ℕ) : Type 0 where
  pub bytes_are : IsBytesField field bs
  pub as_many : length bs ≡ count

-- the field is an identity (5.2.6): exactly 20 bytes
abbrev pub IsIdentityField : List ℕ → List ℕ → Type 0
IsIdentityField = IsBytesOf 20

-- a region whose base and length have 64 bits
pub record RegionInRange (region : RegionSpec) : Type 0 where
  pub base : region.base < 2 ^ 64
  pub len : region.len < 2 ^ 64

-- the field is one region
pub record IsRegionField (field : List ℕ) (region : RegionSpec) : Type 0 where
  pub fits : RegionInRange region
  pub spelled : field ≡ region_text region

-- the field is the regions of a memory: one to eight
pub record IsRegionsField (field : List ℕ) (regions : List RegionSpec) : Type 0 where
  pub some : 1 ≤ length regions
  pub few : length regions ≤ 8
  pub fits : All RegionInRange regions
  pub spelled : field ≡ regions_text regions

-- a disk whose depth, where the host serves it, has 8 bits
abbrev pub DepthInRange : Backing → Type 0
DepthInRange Image = ⊤
DepthInRange (Host depth) = depth < 2 ^ 8

-- a slot's spare sectors have a spelling beside its disk: where the host serves that there are none
abbrev pub StandsBeside : Backing → ℕ → Type 0
StandsBeside Image spare = ⊤
StandsBeside (Host depth) spare = spare ≡ 0

-- a disk, and so many spare sectors
pub record DiskInRange (backing : Backing) (spare : ℕ) : Type 0 where
  pub depth : DepthInRange backing
  pub wide : spare < 2 ^ 64
  pub beside : StandsBeside backing spare

-- the field is who has a disk, and how many spare sectors there are
pub record IsDiskField (field : List ℕ) (backing : Backing) (spare : ℕ) : Type 0 where
  pub fits : DiskInRange backing spare
  pub spelled : field ≡ disk backing spare

-- the address of a network card, six bytes, and its MTU of 16 bits (5.1.4)
pub record CardInRange (mac : List ℕ) (mtu : ℕ) : Type 0 where
  pub each : All (λ b. b < 2 ^ 8) mac
  pub six : length mac ≡ 6
  pub wide : mtu < 2 ^ 16

-- how many sectors a further disk has, its identity of 20 bytes (5.2.6), and how many operations may be in flight
pub record FurtherDiskInRange (sectors : ℕ) (identity : List ℕ) (depth : ℕ) : Type 0 where
  pub count : sectors < 2 ^ 64
  pub each : All (λ b. b < 2 ^ 8) identity
  pub twenty : length identity ≡ 20
  pub deep : depth < 2 ^ 8

-- which of a slot's spare sectors a further disk over the image has, and its identity of 20 bytes (5.2.6)
pub record ImageDiskInRange (extent : Extent) (identity : List ℕ) : Type 0 where
  pub start : extent.start < 2 ^ 64
  pub count : extent.count < 2 ^ 64
  pub each : All (λ b. b < 2 ^ 8) identity
  pub twenty : length identity ≡ 20

-- the size of a console, of 16 bits each (5.3.4)
pub record SizeInRange (cols rows : ℕ) : Type 0 where
  pub across : cols < 2 ^ 16
  pub down : rows < 2 ^ 16

abbrev pub SpecInRange : DeviceSpec → Type 0
SpecInRange Entropy = ⊤
SpecInRange (Network mac mtu) = CardInRange mac mtu
SpecInRange (Block sectors read_only identity depth) = FurtherDiskInRange sectors identity depth
SpecInRange (Console cols rows) = SizeInRange cols rows
SpecInRange (spec.Image extent read_only identity) = ImageDiskInRange extent identity

-- the field is the address of a network card (5.1.4): exactly six bytes
abbrev pub IsAddressField : List ℕ → List ℕ → Type 0
IsAddressField = IsBytesOf 6

-- the field is a network card
pub record IsCardField (field mac : List ℕ) (mtu : ℕ) : Type 0 where
  pub fits : CardInRange mac mtu
  pub spelled : field ≡ card mac mtu

-- the field is a console
pub record IsConsoleField (field : List ℕ) (cols rows : ℕ) : Type 0 where
  pub fits : SizeInRange cols rows
  pub spelled : field ≡ console cols rows

-- the field is the kind of a further device; of a disk it says nothing else
pub record IsKindField (field : List ℕ) (spec : DeviceSpec) : Type 0 where
  pub fits : SpecInRange spec
  pub spelled : field ≡ device_kind spec

-- The shapes of fields. A value is read by the width that another field of its line says.
pub data Shape : Type 0 where
  Num : (bits : ℕ) → Shape
  Regions : Shape
  Disk : Shape
  Offset : Shape
  Window : Shape
  Width : Shape
  Value : (width_field : List ℕ) → Shape
  Mode : Shape
  Verdict : Shape
  Bytes : Shape
  Identity : Shape
  Kind : Shape
  Link : Shape

-- The field has a shape where some value of it is spelled so. A value has two digits for each byte of its
-- width; where there is no such width, any field may be one.
abbrev pub Says : Shape → List ℕ → Type 0
Says (Num bits) field = SpellsNumber bits field
Says Regions field = (regions : List RegionSpec) × IsRegionsField field regions
Says Disk field = (backing : Backing) × ((spare : ℕ) × IsDiskField field backing spare)
Says Offset field = (n : ℕ) × IsFixed 3 field n
Says Window field = (kind : SlotWindow) × (field ≡ window kind)
Says Width field = (width : ℕ) × IsWidthField field width
Says (Value width_field) field = (width : ℕ) → IsWidthField width_field width → (n : ℕ)
    × IsFixed (2 * width) field n
Says Mode field = (read_only : Bool) × (field ≡ mode read_only)
Says Verdict field = (came : operation.Verdict) × (field ≡ verdict came)
Says Bytes field = SpellsBytes field
Says Identity field = (bs : List ℕ) × IsIdentityField field bs
Says Kind field = (spec : DeviceSpec) × IsKindField field spec
Says Link field = (up : Bool) × (field ≡ link_state up)

-- how each word is spelled
abbrev pub spelled : Word → List ℕ
spelled Cache = codes "cache"
spelled Slot = codes "slot"
spelled Read = codes "r"
spelled Write = codes "w"
spelled MemRead = codes "mr"
spelled MemWrite = codes "mw"
spelled Input = codes "in"
spelled Resize = codes "sz"
spelled Restore = codes "st"
spelled Complete = codes "io"
spelled Drop = codes "drop"
spelled Hold = codes "hold"
spelled Release = codes "release"
spelled Plug = codes "plug"
spelled DeviceRead = codes "dr"
spelled DeviceWrite = codes "dw"
spelled Supply = codes "supply"
spelled Receive = codes "frame"
spelled TakeSent = codes "take"
spelled DropSent = codes "dsent"
spelled SetLink = codes "link"
spelled DeviceResize = codes "dsz"
spelled DeviceComplete = codes "dio"
spelled DeviceDrop = codes "ddrop"
spelled DeviceHold = codes "dhold"
spelled DeviceRelease = codes "drelease"

-- the words of a format: the extended one alone has those of restores, of what a host says of its disk and of
-- further devices, and the others are in each
abbrev pub IsWordOf : Format → Word → Type 0
IsWordOf format Restore = IsExtended format
IsWordOf format Complete = IsExtended format
IsWordOf format Drop = IsExtended format
IsWordOf format Hold = IsExtended format
IsWordOf format Release = IsExtended format
IsWordOf format Plug = IsExtended format
IsWordOf format DeviceRead = IsExtended format
IsWordOf format DeviceWrite = IsExtended format
IsWordOf format Supply = IsExtended format
IsWordOf format Receive = IsExtended format
IsWordOf format TakeSent = IsExtended format
IsWordOf format DropSent = IsExtended format
IsWordOf format SetLink = IsExtended format
IsWordOf format DeviceResize = IsExtended format
IsWordOf format DeviceComplete = IsExtended format
IsWordOf format DeviceDrop = IsExtended format
IsWordOf format DeviceHold = IsExtended format
IsWordOf format DeviceRelease = IsExtended format
IsWordOf format _ = ⊤

abbrev pub IsInEach : Word → Type 0
IsInEach word = (format : Format) → IsWordOf format word

-- the words of what is done to a further device
abbrev pub IsDeviceWord : Word → Type 0
IsDeviceWord Plug = ⊤
IsDeviceWord DeviceRead = ⊤
IsDeviceWord DeviceWrite = ⊤
IsDeviceWord Supply = ⊤
IsDeviceWord Receive = ⊤
IsDeviceWord TakeSent = ⊤
IsDeviceWord DropSent = ⊤
IsDeviceWord SetLink = ⊤
IsDeviceWord DeviceResize = ⊤
IsDeviceWord DeviceComplete = ⊤
IsDeviceWord DeviceDrop = ⊤
IsDeviceWord DeviceHold = ⊤
IsDeviceWord DeviceRelease = ⊤
IsDeviceWord word = ⊥

-- those of what the host says of a further disk
abbrev pub IsDiskWord : Word → Type 0
IsDiskWord DeviceComplete = ⊤
IsDiskWord DeviceDrop = ⊤
IsDiskWord DeviceHold = ⊤
IsDiskWord DeviceRelease = ⊤
IsDiskWord word = ⊥

-- the words whose last field is a value that is written by a width
abbrev pub HasValueField : Word → Type 0
HasValueField Write = ⊤
HasValueField DeviceWrite = ⊤
HasValueField word = ⊥

-- a slot's memory, in a format: base and size of its one region, or all its regions
abbrev pub memory_in : Format → List Field
memory_in (Plain version) = field.Base ∷ field.Size ∷ []
memory_in Extended = field.Regions ∷ []

-- who has its disk, where a format says so
abbrev pub disk_in : Format → List Field
disk_in format = if_extended format (field.Disk ∷ [])

-- what stands behind that
abbrev pub behind_disk : Format → List Field
behind_disk format =
    field.Start ∷ field.Count ∷ field.Mode ∷ field.Columns ∷ field.Rows
    ∷ unless_version_1 format (field.Identity ∷ [])

-- what stands behind the kind of a further device
abbrev pub behind_kind : BehindKind → List Field
behind_kind Nothing = []
behind_kind HostedDisk = field.Capacity ∷ field.Mode ∷ field.Identity ∷ field.Depth ∷ []
behind_kind ImageDisk = field.Start ∷ field.Count ∷ field.Mode ∷ field.Identity ∷ []

-- the fields after each word, in a format; where a kind is among them, by what stands behind it
abbrev pub fields_in : Format → Word → BehindKind → List Field
fields_in format Cache behind = field.Sectors ∷ []
fields_in format Slot behind = memory_in format ++ (disk_in format ++ behind_disk format)
fields_in format Read behind = field.Slot ∷ field.Window ∷ field.Offset ∷ field.Width ∷ []
fields_in format Write behind = field.Slot ∷ field.Window ∷ field.Offset ∷ field.Width ∷ field.Value ∷ []
fields_in format MemRead behind = field.Slot ∷ field.Address ∷ field.Length ∷ []
fields_in format MemWrite behind = field.Slot ∷ field.Address ∷ field.Bytes ∷ []
fields_in format Input behind = field.Slot ∷ field.Bytes ∷ []
fields_in format Resize behind = field.Slot ∷ field.Columns ∷ field.Rows ∷ []
fields_in format Restore behind = field.Slot ∷ field.Bytes ∷ []
fields_in format Complete behind = field.Slot ∷ field.Tag ∷ field.Verdict ∷ []
fields_in format Drop behind = field.Slot ∷ []
fields_in format Hold behind = field.Slot ∷ []
fields_in format Release behind = field.Slot ∷ []
fields_in format Plug behind = field.Slot ∷ field.Device ∷ field.Kind ∷ behind_kind behind
fields_in format DeviceRead behind = field.Slot ∷ field.Device ∷ field.Offset ∷ field.Width ∷ []
fields_in format DeviceWrite behind = field.Slot ∷ field.Device ∷ field.Offset ∷ field.Width ∷ field.Value ∷ []
fields_in format Supply behind = field.Slot ∷ field.Device ∷ field.Bytes ∷ []
fields_in format Receive behind = field.Slot ∷ field.Device ∷ field.Bytes ∷ []
fields_in format TakeSent behind = field.Slot ∷ field.Device ∷ []
fields_in format DropSent behind = field.Slot ∷ field.Device ∷ []
fields_in format SetLink behind = field.Slot ∷ field.Device ∷ field.Link ∷ []
fields_in format DeviceResize behind = field.Slot ∷ field.Device ∷ field.Columns ∷ field.Rows ∷ []
fields_in format DeviceComplete behind = field.Slot ∷ field.Device ∷ field.Tag ∷ field.Verdict ∷ []
fields_in format DeviceDrop behind = field.Slot ∷ field.Device ∷ []
fields_in format DeviceHold behind = field.Slot ∷ field.Device ∷ []
fields_in format DeviceRelease behind = field.Slot ∷ field.Device ∷ []

-- of the fields of a line, the one that may be a kind, and what stands behind that
abbrev pub kind_among : List (List ℕ) → List ℕ
kind_among fields = slice_index_or fields 2 []

abbrev pub behind_word : List ℕ → BehindKind
behind_word field =
    if bytes_eq field (codes "disk") then HostedDisk
    else (if bytes_eq field (codes "image") then ImageDisk else Nothing)

-- of the fields of a line, the one by which a value is read
abbrev pub width_among : List (List ℕ) → List ℕ
width_among fields = slice_index_or fields 3 []

-- the shape of a field, where a value is read by this width
abbrev pub shape_of : List ℕ → Field → Shape
shape_of width field.Sectors = Num 32
shape_of width field.Base = Num 64
shape_of width field.Size = Num 64
shape_of width field.Regions = Regions
shape_of width field.Disk = Disk
shape_of width field.Start = Num 64
shape_of width field.Count = Num 64
shape_of width field.Mode = Mode
shape_of width field.Columns = Num 16
shape_of width field.Rows = Num 16
shape_of width field.Identity = Identity
shape_of width field.Slot = Num 8
shape_of width field.Window = Window
shape_of width field.Offset = Offset
shape_of width field.Width = Width
shape_of width field.Value = Value width
shape_of width field.Address = Num 64
shape_of width field.Length = Num 32
shape_of width field.Bytes = Bytes
shape_of width field.Tag = Num 8
shape_of width field.Verdict = Verdict
shape_of width field.Device = Num 8
shape_of width field.Kind = Kind
shape_of width field.Link = Link
shape_of width field.Capacity = Num 64
shape_of width field.Depth = Num 8

-- the shapes of the fields after a word, in a format, where these are the fields
abbrev pub shapes : Format → Word → List (List ℕ) → List Shape
shapes format word fields =
    map (shape_of (width_among fields)) (fields_in format word (behind_word (kind_among fields)))

-- the fields are as many as the shapes, and each says a value of its own
abbrev pub AllRight : List Shape → List (List ℕ) → Type 0
AllRight [] [] = ⊤
AllRight [] (field ∷ fields) = ⊥
AllRight (shape ∷ more) [] = ⊥
AllRight (shape ∷ more) (field ∷ fields) = Says shape field × AllRight more fields

-- the fields are those that a word has in a format
abbrev pub AreRight : Format → Word → List (List ℕ) → Type 0
AreRight format word fields = AllRight (shapes format word fields) fields
