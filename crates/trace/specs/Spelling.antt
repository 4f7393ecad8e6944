-- How each field of a trace and of the records is spelled, as a list of ASCII bytes.
use Rattle.std.specs.Prelude.{ℕ, zero, suc, ◌+◌, ◌*◌, Bool, true, false, List, [], ◌∷◌, ◌++◌, codes, map}
use Rattle.std.specs.List.{join_with_byte}
use Rattle.guest_memory.specs.declared.spec.RegionSpec.{RegionSpec}
use Rattle.board.specs.declared.spec.Backing.{Backing}
use Rattle.board.specs.declared.spec.Backing.TheVariants.{Image, Host}
use Rattle.hexadecimal.specs.Spelling.{num, fixed, bytes}
use Rattle.block_device.specs.declared.operation.Verdict as operation
use Rattle.block_device.specs.declared.operation.Verdict.TheVariants.{Done, Failed}
use Rattle.board.specs.declared.event.SlotWindow.{SlotWindow}
use Rattle.board.specs.declared.event.SlotWindow.TheVariants.{Block, Console}
use Rattle.device_list.specs.declared.spec.DeviceSpec.{DeviceSpec}
use Rattle.device_list.specs.declared.spec.DeviceSpec.TheVariants as spec
use Rattle.trace.specs.declared.print.line.LineFields.{LineFields}
use Rattle.trace.specs.declared.table.Field.{Field}
use Rattle.trace.specs.declared.table.Field.TheVariants as field
use Rattle.trace.specs.declared.table.BehindKind.{BehindKind}
use Rattle.trace.specs.declared.table.BehindKind.TheVariants.{Nothing, HostedDisk, ImageDisk}
use Rattle.trace.specs.declared.value.FieldValue.{FieldValue}
use Rattle.trace.specs.declared.value.FieldValue.TheVariants.{Number, Disk, Mode, Window, Offset, Width, Value, Identity, Verdict, Kind, Link, Spelled}

-- a region of a guest's memory: its base and its length, with `+` (43) between them
abbrev pub region_text : RegionSpec → List ℕ
region_text region = num region.base ++ 43 ∷ num region.len

-- the regions of a memory, with `,` (44) between each two
abbrev pub regions_text : List RegionSpec → List ℕ
regions_text regions = join_with_byte 44 (map region_text regions)

-- the window of a kind of device
abbrev pub window : SlotWindow → List ℕ
window Block = codes "b"
window Console = codes "c"

-- who has a slot's disk, and how many spare sectors of the image the slot has, where it has some; of a disk that the host
-- serves, how many operations may be in flight
abbrev pub disk : Backing → ℕ → List ℕ
disk Image zero = codes "image"
disk Image (suc more) = codes "image+" ++ num (suc more)
disk (Host depth) spare = codes "host:" ++ num depth

-- whether a slot is read-only
abbrev pub mode : Bool → List ℕ
mode false = codes "rw"
mode true = codes "ro"

-- what came of an operation
abbrev pub verdict : operation.Verdict → List ℕ
verdict Done = codes "done"
verdict Failed = codes "failed"

-- a network card: its address by two digits for each byte and its MTU, with `:` (58) between them
abbrev pub card : List ℕ → ℕ → List ℕ
card mac mtu = bytes mac ++ 58 ∷ num mtu

-- a console: its columns and its rows, with `:` (58) between them
abbrev pub console : ℕ → ℕ → List ℕ
console cols rows = num cols ++ 58 ∷ num rows

-- what a further device is to be, of which a disk's fields stand behind this one
abbrev pub device_kind : DeviceSpec → List ℕ
device_kind spec.Entropy = codes "entropy"
device_kind (spec.Network mac mtu) = codes "network:" ++ card mac mtu
device_kind (spec.Block sectors read_only identity depth) = codes "disk"
device_kind (spec.Console cols rows) = codes "console:" ++ console cols rows
device_kind (spec.Image extent read_only identity) = codes "image"

-- what those say
abbrev pub behind_of : DeviceSpec → BehindKind
behind_of spec.Entropy = Nothing
behind_of (spec.Network mac mtu) = Nothing
behind_of (spec.Block sectors read_only identity depth) = HostedDisk
behind_of (spec.Console cols rows) = Nothing
behind_of (spec.Image extent read_only identity) = ImageDisk

-- those of a disk that the host serves: how many sectors it has, whether it is read-only, its identity, and how many
-- operations may be in flight; those of one over the image: the first of its sectors and how many, whether it is read-only,
-- and its identity
abbrev pub spec_fields : DeviceSpec → List (List ℕ)
spec_fields spec.Entropy = []
spec_fields (spec.Network mac mtu) = []
spec_fields (spec.Console cols rows) = []
spec_fields (spec.Block sectors read_only identity depth) =
    num sectors ∷ mode read_only ∷ bytes identity ∷ num depth ∷ []
spec_fields (spec.Image extent read_only identity) =
    num extent.start ∷ num extent.count ∷ mode read_only ∷ bytes identity ∷ []

-- whether the link of a network card is up
abbrev pub link_state : Bool → List ℕ
link_state true = codes "up"
link_state false = codes "down"

-- the width of a register access, which is one digit (48 is `0`)
abbrev pub width_digit : ℕ → List ℕ
width_digit width = (48 + width) ∷ []

-- the value of a field, by its kind
abbrev pub value_text : FieldValue → List ℕ
value_text (Number n) = num n
value_text (Disk backing spare) = disk backing spare
value_text (Mode read_only) = mode read_only
value_text (Window kind) = window kind
value_text (Offset offset) = fixed 3 offset
value_text (Width width) = num width
value_text (Value width value) = fixed (2 * width) value
value_text (Identity bs) = bytes bs
value_text (Verdict came) = verdict came
value_text (Kind spec) = device_kind spec
value_text (Link up) = link_state up
value_text (Spelled field) = field.now

-- a field of a line, by what its fields say
abbrev pub field_text : LineFields → Field → List ℕ
field_text says field.Sectors = num says.sectors
field_text says field.Base = num says.base
field_text says field.Size = num says.size
field_text says field.Regions = regions_text says.regions.now
field_text says field.Disk = disk says.backing says.spare
field_text says field.Start = num says.start
field_text says field.Count = num says.count
field_text says field.Mode = mode says.read_only
field_text says field.Columns = num says.columns
field_text says field.Rows = num says.rows
field_text says field.Identity = bytes says.identity
field_text says field.Slot = num says.slot
field_text says field.Window = window says.window
field_text says field.Offset = fixed 3 says.offset
field_text says field.Width = num says.width
field_text says field.Value = fixed (2 * says.width) says.value
field_text says field.Address = num says.address
field_text says field.Length = num says.length
field_text says field.Bytes = bytes says.bytes.now
field_text says field.Tag = num says.tag
field_text says field.Verdict = verdict says.verdict
field_text says field.Device = num says.device
field_text says field.Kind = device_kind says.kind
field_text says field.Link = link_state says.up
field_text says field.Capacity = num says.capacity
field_text says field.Depth = num says.depth
