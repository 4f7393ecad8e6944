-- The one text of a trace: its lines in order, each ended by a line feed.
use Rattle.std.specs.Prelude.{ℕ, ◌*◌, List, [], ◌∷◌, ◌++◌, map, codes}
use Rattle.std.specs.List.{flat_map, join_with_byte}
use Rattle.board.specs.declared.event.SlotWindow.{SlotWindow}
use Rattle.board.specs.declared.event.Event.{Event}
use Rattle.board.specs.declared.event.EventKind.{EventKind}
use Rattle.board.specs.declared.event.EventKind.TheVariants as what
use Rattle.block_device.specs.declared.operation.HostEvent.{HostEvent}
use Rattle.block_device.specs.declared.operation.HostEvent.TheVariants as host
use Rattle.board.specs.declared.event.DeviceEvent.{DeviceEvent}
use Rattle.board.specs.declared.event.DeviceEvent.TheVariants as device
use Rattle.board.specs.declared.spec.SlotSpec.{SlotSpec}
use Rattle.board.specs.declared.spec.Backing.{Backing}
use Rattle.guest_memory.specs.declared.spec.RegionSpec.{RegionSpec}
use Rattle.trace.specs.declared.format.Format.{Format}
use Rattle.trace.specs.declared.format.Format.TheVariants.{Plain, Extended}
use Rattle.trace.specs.declared.format.Version.TheVariants.{One, Two}
use Rattle.trace.specs.declared.trace.Trace.{Trace}
use Rattle.trace.specs.declared.word.Word.{Word}
use Rattle.trace.specs.declared.word.Word.TheVariants.{Cache, Slot, Read, Write, MemRead, MemWrite, Input, Resize, Restore, Complete, Drop, Hold, Release, Plug, DeviceRead, DeviceWrite, Supply, Receive, TakeSent, DropSent, SetLink, DeviceResize, DeviceComplete, DeviceDrop, DeviceHold, DeviceRelease}
use Rattle.hexadecimal.specs.Spelling.{num, fixed, bytes}
use Rattle.trace.specs.Spelling.{window, width_digit, disk, mode, verdict, regions_text, device_kind, spec_fields, link_state}
use Rattle.trace.specs.Format.{if_extended, unless_version_1}
use Rattle.trace.specs.Words.{spelled}

-- a trace without where it lies in memory
pub record Content (A : Type 0) : Type 0 where
  pub format : Format
  pub cache : ℕ
  pub slots : List SlotSpec
  pub events : List (Event A)

abbrev pub content : {A : Type 0} → Trace A → Content A
content t = record { format = t.format; cache = t.cache; slots = t.slots.items; events = t.events.items }

-- a line of fields: a space stands between two of them
abbrev pub line : List (List ℕ) → List ℕ
line fields = join_with_byte 32 fields

-- the first line, which names the format
abbrev pub header : Format → List ℕ
header (Plain One) = codes "vreplay 1"
header (Plain Two) = codes "vreplay 2"
header Extended = codes "kalyubos 1"

-- the second line: how many sectors the cache before the image keeps
abbrev pub cache_fields : ℕ → List (List ℕ)
cache_fields sectors = spelled Cache ∷ num sectors ∷ []

-- the memory of a slot, in a format: its region by two fields, or all its regions by one
abbrev pub region_fields : RegionSpec → List (List ℕ)
region_fields region = num region.base ∷ num region.len ∷ []

abbrev pub memory_fields : Format → List RegionSpec → List (List ℕ)
memory_fields (Plain version) regions = flat_map region_fields regions
memory_fields Extended regions = regions_text regions ∷ []

-- who has its disk, and how many spare sectors it has, where a format says so
abbrev pub disk_fields : Format → Backing → ℕ → List (List ℕ)
disk_fields format backing spare = if_extended format (disk backing spare ∷ [])

-- a slot, in a format
abbrev pub slot_fields : Format → SlotSpec → List (List ℕ)
slot_fields format s =
    spelled Slot ∷ (memory_fields format s.regions ++ (disk_fields format s.backing s.spare
    ++ (num s.extent.start ∷ num s.extent.count ∷ mode s.read_only ∷ num s.cols ∷ num s.rows
    ∷ unless_version_1 format (bytes s.identity ∷ []))))

-- a read and a write of a register, a read and a write of memory
abbrev pub read_fields : ℕ → SlotWindow → ℕ → ℕ → List (List ℕ)
read_fields slot kind offset width = spelled Read ∷ num slot ∷ window kind ∷ fixed 3 offset
    ∷ width_digit width ∷ []

abbrev pub write_fields : ℕ → SlotWindow → ℕ → ℕ → ℕ → List (List ℕ)
write_fields slot kind offset width value =
    spelled Write ∷ num slot ∷ window kind ∷ fixed 3 offset ∷ width_digit width ∷ fixed (2 * width) value ∷ []

abbrev pub mem_read_fields : ℕ → ℕ → ℕ → List (List ℕ)
mem_read_fields slot addr len = spelled MemRead ∷ num slot ∷ num addr ∷ num len ∷ []

abbrev pub mem_write_fields : ℕ → ℕ → List ℕ → List (List ℕ)
mem_write_fields slot addr bs = spelled MemWrite ∷ num slot ∷ num addr ∷ bytes bs ∷ []

-- console input, and a new size of the console
abbrev pub input_fields : ℕ → List ℕ → List (List ℕ)
input_fields slot bs = spelled Input ∷ num slot ∷ bytes bs ∷ []

abbrev pub resize_fields : ℕ → ℕ → ℕ → List (List ℕ)
resize_fields slot cols rows = spelled Resize ∷ num slot ∷ num cols ∷ num rows ∷ []

-- a snapshot that a slot takes up
abbrev pub restore_fields : ℕ → List ℕ → List (List ℕ)
restore_fields slot bs = spelled Restore ∷ num slot ∷ bytes bs ∷ []

-- what a host says of a slot's disk: an operation in flight, by its tag, came to its end; nothing is in flight any
-- more; no further chain is taken; chains are taken again
abbrev pub host_word : HostEvent → Word
host_word (host.Complete tag came) = Complete
host_word host.Drop = Drop
host_word host.Hold = Hold
host_word host.Release = Release

abbrev pub host_fields : ℕ → HostEvent → List (List ℕ)
host_fields slot (host.Complete tag came) = spelled Complete ∷ num slot ∷ num tag ∷ verdict came ∷ []
host_fields slot host.Drop = spelled Drop ∷ num slot ∷ []
host_fields slot host.Hold = spelled Hold ∷ num slot ∷ []
host_fields slot host.Release = spelled Release ∷ num slot ∷ []

-- the same of a further disk
abbrev pub device_host_word : HostEvent → Word
device_host_word (host.Complete tag came) = DeviceComplete
device_host_word host.Drop = DeviceDrop
device_host_word host.Hold = DeviceHold
device_host_word host.Release = DeviceRelease

abbrev pub device_host_fields : ℕ → ℕ → HostEvent → List (List ℕ)
device_host_fields slot n (host.Complete tag came) =
    spelled DeviceComplete ∷ num slot ∷ num n ∷ num tag ∷ verdict came ∷ []
device_host_fields slot n host.Drop = spelled DeviceDrop ∷ num slot ∷ num n ∷ []
device_host_fields slot n host.Hold = spelled DeviceHold ∷ num slot ∷ num n ∷ []
device_host_fields slot n host.Release = spelled DeviceRelease ∷ num slot ∷ num n ∷ []

-- what is done to a further device: it is given to the slot; its driver reads or writes its window; the host supplies
-- it with bytes, hands it a frame, takes or drops what it put out, sets its link or its size, and says something of a
-- disk that it serves
abbrev pub device_word : {A : Type 0} → DeviceEvent A → Word
device_word (device.Plug spec) = Plug
device_word (device.Read offset width) = DeviceRead
device_word (device.Write offset width value) = DeviceWrite
device_word (device.Supply bs) = Supply
device_word (device.Receive bs) = Receive
device_word device.TakeSent = TakeSent
device_word device.DropSent = DropSent
device_word (device.SetLink up) = SetLink
device_word (device.Resize cols rows) = DeviceResize
device_word (device.Host said) = device_host_word said

abbrev pub device_fields : {A : Type 0} → ℕ → ℕ → DeviceEvent A → List (List ℕ)
device_fields slot n (device.Plug spec) = spelled Plug ∷ num slot ∷ num n ∷ device_kind spec ∷ spec_fields spec
device_fields slot n (device.Read offset width) =
    spelled DeviceRead ∷ num slot ∷ num n ∷ fixed 3 offset ∷ width_digit width ∷ []
device_fields slot n (device.Write offset width value) =
    spelled DeviceWrite ∷ num slot ∷ num n ∷ fixed 3 offset ∷ width_digit width ∷ fixed (2 * width) value ∷ []
device_fields slot n (device.Supply bs) = spelled Supply ∷ num slot ∷ num n ∷ bytes bs ∷ []
device_fields slot n (device.Receive bs) = spelled Receive ∷ num slot ∷ num n ∷ bytes bs ∷ []
device_fields slot n device.TakeSent = spelled TakeSent ∷ num slot ∷ num n ∷ []
device_fields slot n device.DropSent = spelled DropSent ∷ num slot ∷ num n ∷ []
device_fields slot n (device.SetLink up) = spelled SetLink ∷ num slot ∷ num n ∷ link_state up ∷ []
device_fields slot n (device.Resize cols rows) =
    spelled DeviceResize ∷ num slot ∷ num n ∷ num cols ∷ num rows ∷ []
device_fields slot n (device.Host said) = device_host_fields slot n said

-- the word of what a slot does
abbrev pub word_for : {A : Type 0} → EventKind A → Word
word_for (what.Read kind offset width) = Read
word_for (what.Write kind offset width value) = Write
word_for (what.MemRead addr len) = MemRead
word_for (what.MemWrite addr bs) = MemWrite
word_for (what.Input bs) = Input
word_for (what.Resize cols rows) = Resize
word_for (what.Restore bs) = Restore
word_for (what.Host said) = host_word said
word_for (what.Device n done) = device_word done

-- the fields of what a slot does
abbrev pub what_fields : {A : Type 0} → ℕ → EventKind A → List (List ℕ)
what_fields slot (what.Read kind offset width) = read_fields slot kind offset width
what_fields slot (what.Write kind offset width value) = write_fields slot kind offset width value
what_fields slot (what.MemRead addr len) = mem_read_fields slot addr len
what_fields slot (what.MemWrite addr bs) = mem_write_fields slot addr bs
what_fields slot (what.Input bs) = input_fields slot bs
what_fields slot (what.Resize cols rows) = resize_fields slot cols rows
what_fields slot (what.Restore bs) = restore_fields slot bs
what_fields slot (what.Host said) = host_fields slot said
what_fields slot (what.Device n done) = device_fields slot n done

abbrev pub event_fields : {A : Type 0} → Event A → List (List ℕ)
event_fields e = what_fields e.slot e.what

-- the line of a slot, and that of an event
unfoldable pub slot_line : Format → SlotSpec → List ℕ
slot_line format s = line (slot_fields format s)

unfoldable pub event_line : {A : Type 0} → Event A → List ℕ
event_line e = line (event_fields e)

unfoldable pub cache_line : ℕ → List ℕ
cache_line sectors = line (cache_fields sectors)

-- the lines of a trace: the header, its cache, the slots, the events
unfoldable pub trace_lines : {A : Type 0} → Content A → List (List ℕ)
trace_lines t = header t.format ∷ cache_line t.cache ∷ map (slot_line t.format) t.slots
    ++ map event_line t.events

-- lines as a text, each ended by a line feed
abbrev pub ended : List ℕ → List ℕ
ended l = l ++ 10 ∷ []

unfoldable pub joined : List (List ℕ) → List ℕ
joined lines = flat_map ended lines

-- the text of a trace
abbrev pub text : {A : Type 0} → Content A → List ℕ
text t = joined (trace_lines t)

-- its first two lines
abbrev pub front_text : Format → ℕ → List ℕ
front_text format cache = ended (header format) ++ ended (cache_line cache)

-- the same trace as one of a format
abbrev pub as_format : {A : Type 0} → Format → Content A → Content A
as_format format t = record t { format = format }
