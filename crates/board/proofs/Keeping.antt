-- What stays of a slot whose block event met an image that failed.
use Rattle.std.proofs.Common.{◌≡◌, ◌⊎◌, inl, inr, ℕ, zero, suc, ◌+◌, ◌*◌, ◌<◌, ◌≤◌, Bool, true, false, Option, Some, None, List, [], ◌∷◌, ◌++◌, length, replicate, take, refl, sym, ap, subst, ◌∙◌, arith, length-append, length-take}
use Rattle.std.specs.Prelude.{if◌then◌else◌, slice_set, MatchOption}
use Rattle.std.specs.List.{AllByRecursion, slice_get}
use Rattle.std.proofs.lemmas.List.{length-replicate}
use Rattle.std.specs.Option.{option_map}
use Rattle.guest_memory.specs.Memory.{Memory, SameRange}
use Rattle.guest_memory.proofs.Ranges.{put_range, same_trans}
use Rattle.chain.specs.Bytes.{readable_of, writable_of}
use Rattle.chain.specs.Service.{Given, Device, Site, Served, Ending, Refused, after, ServesAll}
use Rattle.sector_cache.specs.Disk.{Disk, written}
use Rattle.sector_cache.specs.Sector.{with_sector}
use Rattle.sector_cache.proofs.Sectors.{length-with_sector}
use Rattle.mmio_window.specs.declared.action.Action.TheVariants as action
use Rattle.board.specs.declared.event.SlotWindow.TheVariants.{Console}
use Rattle.mmio_window.specs.declared.queue.Queue.{Queue}
use Rattle.mmio_window.specs.Queue.{queue_kind}
use Rattle.mmio_window.specs.Window.{WindowState, queue_at}
use Rattle.device_list.specs.Device.{DeviceState}
use Rattle.block_device.specs.declared.device.BlockDevice.{BlockDevice}
use Rattle.block_device.specs.declared.request.Request.{Request}
use Rattle.block_device.specs.declared.request.Request.TheVariants.{Rejected, Read, Write, Flush, GetId, WriteZeroes}
use Rattle.block_device.specs.Progress.{IsServable}
use Rattle.block_device.specs.Request.{request_of, payload_of}
use Rattle.block_device.specs.Outcome.{Outcome, with_sectors, completed, Fails, Ends}
use Rattle.block_device.specs.Device.{block_device, GivesBy}
use Rattle.mmio_window.specs.Serving.{IsNotified, Notified}
use Rattle.console_device.specs.Config.{emergency_write}
use Rattle.console_device.specs.Device.{transmit}
use Rattle.mmio_window.specs.Configuration.{is_configuration_access, narrowed}
use Rattle.block_device.specs.Zeroes.{all_sectors, segments_in, zeroed_sectors}
use Rattle.block_device.proofs.Extents.{length-with_sectors}
use Rattle.block_device.proofs.Requests.{gives_counted}
use Rattle.block_device.proofs.SomeAnswer.{servable}
use Rattle.block_device.proofs.Zeroing.{all-below, front-below}
use Rattle.board.specs.declared.event.Event.{Event}
use Rattle.board.specs.declared.event.EventKind.{EventKind}
use Rattle.board.specs.declared.event.EventKind.TheVariants as event
use Rattle.board.specs.declared.reply.Reply.TheVariants.{BadSlot, NoMemory}
use Rattle.board.specs.declared.reply.Record.{Record}
use Rattle.board.specs.declared.event.DeviceEvent.{DeviceEvent}
use Rattle.board.specs.Image.{Health, disk_with}
use Rattle.board.specs.ImageDisks.{IsFailedAtImage, bytes_in, device_readied, image_asked, image_device}
use Rattle.board.specs.Outcome.{Outcome as Came, replies}
use Rattle.board.specs.Slot.{SlotState, KeepsBesideDisk, KeepsBesideFurtherDisk, KeepsBesideTransmit}
use Rattle.board.specs.Task.{task_of, device_of}
use Rattle.board.proofs.OnHost.{failing_over_image, lacking_over_image}
use Rattle.board.specs.World.{World, IsFailedService, IsRefusedTransmit, IsCutShort, IsRefused, MayGive, MayGiveOverImage, SlotStep, MissingStep, Step, KeepsBoard}
use Rattle.board.proofs.Alone.{slot_step}
use Rattle.board.proofs.AtDevice.{IsLeftBy, image_left}
use Rattle.board.proofs.Beside.{same_range}
use Rattle.board.proofs.Chains.{kept}
use Rattle.board.proofs.Lists.{get_set, set_same}
use Rattle.board.proofs.Refusals.{Failed, FailedImage, Unput, Unread, Unsent, was_refused}
use Rattle.board.proofs.Writes.{notified_left}

-- ---- a request keeps how many bytes the disk tells

-- the disk tells this many bytes
record TellsMany (n : ℕ) (disk : Disk) : Type 0 where
  bytes : List ℕ
  contents : disk.contents ≡ Some bytes
  size : length bytes ≡ n

filled_many : (n : ℕ) (disk other : Disk) (sector : ℕ) (new : List ℕ) → TellsMany n disk
    → other.contents ≡ option_map (λ bytes. with_sectors bytes sector new) disk.contents
    → 512 * sector + length new ≤ n → TellsMany n other
filled_many n disk other sector new many is fits =
    let size : length many.bytes ≡ n = many.size in
    let room : 512 * sector + length new ≤ length many.bytes = omega arith in
    record {
      bytes = with_sectors many.bytes sector new;
      contents = is ∙ ap (λ (o : Option (List ℕ)). option_map (λ bytes. with_sectors bytes sector new) o)
          many.contents;
      size = length-with_sectors many.bytes sector new room ∙ size;
    }

same_many : (n : ℕ) (disk other : Disk) → TellsMany n disk → other.contents ≡ disk.contents
    → TellsMany n other
same_many n disk other many is =
    record { bytes = many.bytes; contents = is ∙ many.contents; size = many.size }

-- so do zeros in some sectors
written_many : (n capacity sector : ℕ) (new : List ℕ) (disk : Disk) → 512 * capacity ≤ n → sector < capacity
    → length new ≡ 512 → TellsMany n disk → TellsMany n (written sector new disk)
written_many n capacity sector new disk small below whole many = record {
  bytes = with_sector many.bytes sector new;
  contents = ap (λ (o : Option (List ℕ)). option_map (λ bytes. with_sector bytes sector new) o) many.contents;
  size = length-with_sector many.bytes sector new (omega (arith, many.size)) whole ∙ many.size;
}

zeroed_many : (n capacity : ℕ) (sectors : List ℕ) (disk : Disk) → 512 * capacity ≤ n
    → AllByRecursion (λ sector. sector < capacity) sectors → TellsMany n disk
    → TellsMany n (zeroed_sectors sectors disk)
zeroed_many n capacity [] disk small below many = many
zeroed_many n capacity (sector ∷ sectors) disk small below many =
    let zeros : List ℕ = replicate 512 0 in
    zeroed_many n capacity sectors (written sector zeros disk) small below.1
    (written_many n capacity sector zeros disk small below.0 (length-replicate {A = ℕ} 512 0) many)

completed_many : (n : ℕ) (capacity : ℕ) (request : Request) (payload found : List ℕ) (disk : Disk) (room : ℕ)
    → 512 * capacity ≤ n → IsServable capacity request payload room → TellsMany n disk
    → TellsMany n (completed request payload found disk).disk
completed_many n capacity (Write sector count) payload found disk room small fits many =
    let inside : 512 * sector + length payload ≤ 512 * capacity = omega (arith, fits.0, fits.1) in
    filled_many n disk (completed (Write sector count) payload found disk).disk sector payload
    many refl (omega arith)
completed_many n capacity Flush payload found disk room small fits many =
    same_many n disk (completed Flush payload found disk).disk many refl
completed_many n capacity (WriteZeroes segments) payload found disk room small fits many =
    same_many n (zeroed_sectors (all_sectors (segments_in payload)) disk)
    (completed (WriteZeroes segments) payload found disk).disk
    (zeroed_many n capacity (all_sectors (segments_in payload)) disk small
    (all-below capacity (segments_in payload) fits.1) many) refl
completed_many n capacity _ payload found disk room small fits many = many

failed_many : (n : ℕ) (capacity : ℕ) (request : Request) (payload : List ℕ) (disk : Disk) (outcome : Outcome)
    (room : ℕ) → 512 * capacity ≤ n → IsServable capacity request payload room → TellsMany n disk
    → Fails request payload disk outcome → TellsMany n outcome.disk
failed_many n capacity (Rejected status) payload disk outcome room small fits many h = absurd h
failed_many n capacity (Read sector count) payload disk outcome room small fits many h =
    same_many n disk outcome.disk many (ap (λ (o : Outcome). o.disk.contents) h.is)
failed_many n capacity (Write sector count) payload disk outcome room small fits many (inl h) =
    let inside : 512 * sector + length payload ≤ 512 * capacity = omega (arith, fits.0, fits.1) in
    let whole : 512 * count ≤ length payload = omega (arith, fits.1) in
    let torn : length h.torn ≡ 512 = h.whole in
    let sooner : h.done < count = h.sooner in
    let written : length (take (512 * h.done) payload ++ h.torn) ≤ 512 * count =
    simp (length-append, length-take) (omega arith) in
    filled_many n disk outcome.disk sector (take (512 * h.done) payload
    ++ h.torn) many (ap (λ (o : Outcome). o.disk.contents) h.is) (omega arith)
failed_many n capacity (Write sector count) payload disk outcome room small fits many (inr h) =
    let inside : 512 * sector + length payload ≤ 512 * capacity = omega (arith, fits.0, fits.1) in
    filled_many n disk outcome.disk sector payload many
    (ap (λ (o : Outcome). o.disk.contents) h) (omega arith)
failed_many n capacity Flush payload disk outcome room small fits many h =
    same_many n disk outcome.disk many (ap (λ (o : Outcome). o.disk.contents) h)
failed_many n capacity GetId payload disk outcome room small fits many h = absurd h
failed_many n capacity (WriteZeroes segments) payload disk outcome room small fits many (inl h) =
    let sectors = all_sectors (segments_in payload) in
    let s = h.stopped in
    let below = front-below capacity s.before s.sector s.later
    (subst (λ l. AllByRecursion (λ sector. sector < capacity) l) s.listed
    (all-below capacity (segments_in payload) fits.1)) in
    let left : TellsMany n (written s.sector s.torn.left (zeroed_sectors s.before disk)) =
    written_many n capacity s.sector s.torn.left (zeroed_sectors s.before disk) small below.1 s.torn.whole
    (zeroed_many n capacity s.before disk small below.0 many) in
    same_many n (written s.sector s.torn.left (zeroed_sectors s.before disk)) outcome.disk left
    (ap (λ (o : Outcome). o.disk.contents) h.is ∙ ap (λ (d : Disk). d.contents) s.torn.torn)
failed_many n capacity (WriteZeroes segments) payload disk outcome room small fits many (inr h) =
    same_many n (zeroed_sectors (all_sectors (segments_in payload)) disk) outcome.disk
    (zeroed_many n capacity (all_sectors (segments_in payload)) disk small
    (all-below capacity (segments_in payload) fits.1) many)
    (ap (λ (o : Outcome). o.disk.contents) h)

ends_many : {identity : List ℕ} (n : ℕ) (capacity : ℕ) (request : Request) (payload : List ℕ) (disk : Disk)
    (outcome : Outcome) (room : ℕ) → 512 * capacity ≤ n → IsServable capacity request payload room
    → TellsMany n disk → Ends identity request payload disk outcome → TellsMany n outcome.disk
ends_many n capacity request payload disk outcome room small fits many (inl h) =
    subst (λ (o : Outcome). TellsMany n o.disk) (sym h.is)
    (completed_many n capacity request payload h.found disk room small fits many)
ends_many n capacity request payload disk outcome room small fits many (inr h) =
    failed_many n capacity request payload disk outcome room small fits many h

gives_many : (n : ℕ) (device : BlockDevice) (disk : Disk) (readable : List ℕ) (w : ℕ) (given : Given Disk)
    → 512 * device.extent.count ≤ n → TellsMany n disk
    → GivesBy (Ends device.identity) device disk readable w given → TellsMany n given.state
gives_many n device disk readable zero given small many h =
    subst (λ (d : Disk). TellsMany n d) (sym (ap (λ (g : Given Disk). g.state) h)) many
gives_many n device disk readable (suc room) given small many h =
    subst (λ (d : Disk). TellsMany n d) (sym (ap (λ (g : Given Disk). g.state) h.given_is))
    (ends_many n device.extent.count (request_of device readable room) (payload_of readable) disk h.outcome
    room small (servable device readable room) many h.is)

-- ---- a service of a queue

-- along it the memory keeps its range
notified_range : {State : Type 0} (device : Device State) (q : ℕ) (queue : Option Queue) (ending : Ending)
    (old new : Memory) (before after : WindowState) (s t : State)
    → Notified device q queue ending old new before after s t → SameRange old new
notified_range device q queue ending old new before after s t h =
    notified_left SameRange (record { none = same_range; both = same_trans; put = put_range }) device q queue ending
    old new before after s t h

-- and along the requests of the block device the disk tells as many bytes as before
notified_many : (n : ℕ) (device : BlockDevice) (queue : Option Queue) (old new : Memory)
    (before after : WindowState) (s t : Disk) → 512 * device.extent.count ≤ n → TellsMany n s
    → IsNotified (block_device device) 0 queue old new before after s t → TellsMany n t
notified_many n device queue old new before after s t small many h =
    kept (block_device device) (λ (m : Memory) (d : Disk). TellsMany n d)
    (record {
      chain = λ start served serves tells.
          gives_many n device start.state (readable_of start.memory served.buffers)
          (length (writable_of served.buffers)) served.given small tells serves.gives;
      closed = λ memory ring d tells. tells;
    })
    0 queue h.ending old new before after s t h.notified many

-- ---- an event

service_beside : {A : Type 0} (old : SlotState) (before after : Health) (outcome : Came A)
    → IsFailedService old before after outcome → KeepsBesideDisk old outcome.state
service_beside {A} old before after outcome h =
    let small : 512 * (device_of old).extent.count ≤ length old.extent = omega arith in
    let many : TellsMany (length old.extent) (disk_with outcome.state.extent after) =
    notified_many (length old.extent) (device_of old) (queue_at 0 old.block) old.memory outcome.state.memory
    old.block outcome.state.block (disk_with old.extent before) (disk_with outcome.state.extent after)
    small (record { bytes = old.extent; contents = refl; size = refl }) h.service.notified in
    let contents : Some outcome.state.extent ≡ Some many.bytes = many.contents in
    let same : outcome.state.extent ≡ many.bytes = cc contents in
    record {
      rest = ap (λ (o : Came A). o.state) h.service.is;
      memory =
          notified_range (block_device (device_of old)) 0 (queue_at 0 old.block) h.service.notified.ending
          old.memory outcome.state.memory old.block outcome.state.block (disk_with old.extent before)
          (disk_with outcome.state.extent after) h.service.notified.notified;
      extent = ap (λ (bs : List ℕ). length bs) same ∙ many.size;
    }

-- and of a further disk over the image
image_beside : {A : Type 0} (n : ℕ) (asked : DeviceEvent A) (state : SlotState) (disk : BlockDevice)
    (before after : Health) (outcome : Came A) → image_asked n asked state ≡ Some disk
    → IsFailedAtImage n disk (device_readied n asked state) before after outcome
    → KeepsBesideFurtherDisk state outcome.state
image_beside n asked state disk before after outcome by h =
    let s = h.service.serves in
    let left : IsLeftBy n state.devices outcome.state.devices disk =
    image_left n asked state outcome.state disk _ before after by s in
    record {
      number = n;
      before = left.before;
      after = left.after;
      disk = disk;
      there = left.there;
      is_disk = left.is_disk;
      model = left.model;
      rest = s.is ∙ ap (λ (l : List DeviceState).
          record state { memory = outcome.state.memory; spare_bytes = outcome.state.spare_bytes; devices = l })
          (sym (ap (λ (t : SlotState). t.devices) s.is) ∙ left.is);
      outside = s.outside;
      memory =
          notified_range (block_device (image_device disk)) 0 (queue_at 0 s.device.window) s.serves.ending
          state.memory outcome.state.memory s.device.window s.window (disk_with (bytes_in disk state.spare_bytes) before)
          (disk_with (bytes_in disk outcome.state.spare_bytes) after) s.serves.notified;
    }

never : (before after : Health) → before.failures < after.failures → after ≡ before → ⊥
never before after rose is = let same : after.failures ≡ before.failures =
    ap (λ (h : Health). h.failures) is in omega arith

-- one of its disks over the image
abbrev KeepsBesideOne : SlotState → SlotState → Type 0
KeepsBesideOne old new = KeepsBesideDisk old new ⊎ KeepsBesideFurtherDisk old new

beside_over_image : {A : Type 0} (state : SlotState) (what : EventKind A) (before after : Health)
    (outcome : Came A) → before.failures < after.failures → MayGiveOverImage state what before after outcome
    → KeepsBesideOne state outcome.state
beside_over_image state what before after outcome rose (inl h) = let same : after.failures ≡ before.failures =
    h.failures in absurd (omega arith)
beside_over_image state what before after outcome rose (inr h) =
    elim (was_refused state what before after outcome h) [
      | Failed block h ↦
          let kept = service_beside (record state { block = block }) before after outcome h in
          inl (record { rest = kept.rest; memory = kept.memory; extent = kept.extent })
      | FailedImage n disk asked is by h ↦ inr (image_beside n asked state disk before after outcome by h)
      | Unsent console puts h ↦ absurd (never before after rose h.image)
      | Unput console puts h ↦ absurd (never before after rose h.image)
      | Unread is h ↦ absurd (never before after rose h.image)
    ]

given_beside : {A : Type 0} (state : SlotState) (what : EventKind A) (before after : Health)
    (outcome : Came A) → before.failures < after.failures → MayGive state what before after outcome
    → KeepsBesideOne state outcome.state
given_beside state what before after outcome rose h =
    elim (failing_over_image state what before after outcome h) [
      | inl given ↦ beside_over_image state what before after outcome rose given
      | inr same ↦ absurd (never before after rose same)
    ]

-- the slot's own step leaves it as it is then
left_as : {A : Type 0} (old new : World) (e : Event A) (written : Record A) (before after : SlotState)
    → (taken : SlotStep old e.slot before e.what written new) → slice_get old.slots e.slot ≡ Some before
    → slice_get new.slots e.slot ≡ Some after
    → taken.outcome.state ≡ after
left_as old new e written before after taken here there =
    let came : slice_get new.slots e.slot ≡ Some taken.outcome.state =
    ap (λ (slots : List SlotState). slice_get slots e.slot) taken.slots
    ∙ get_set old.slots e.slot before taken.outcome.state here in
    let both : Some taken.outcome.state ≡ Some after = sym came ∙ there in
    cc both

pub failed_event_keeps : {A : Type 0} (old new : World) (e : Event A) (written : Record A)
    (before after : SlotState) → Step old e written new → old.health.failures < new.health.failures
    → slice_get old.slots e.slot ≡ Some before → slice_get new.slots e.slot ≡ Some after
    → KeepsBesideOne before after
failed_event_keeps {A} old new e written before after step rose here there =
    let taken : SlotStep old e.slot before e.what written new =
    slot_step old e written new before here step in
    let same = left_as old new e written before after taken here there in
    subst (λ (s : SlotState). KeepsBesideOne before s) same
    (given_beside before e.what old.health new.health taken.outcome rose taken.given)

-- each request counts one failure at most
pub passes_counted : (device : BlockDevice) (start at : Site Queue Disk) (chains : List (Served Disk))
    → ServesAll queue_kind (block_device device) start chains at
    → at.state.failures ≤ start.state.failures + length chains
passes_counted device start at [] p = let same : start.state.failures ≡ at.state.failures =
    ap (λ (s : Site Queue Disk). s.state.failures) p in omega arith
passes_counted device start at (s ∷ chains) p =
    let rest : at.state.failures ≤ s.given.state.failures + length chains =
    passes_counted device (after queue_kind (block_device device) start s) at chains p.1 in
    elim (gives_counted device start.state (readable_of start.memory s.buffers)
    (length (writable_of s.buffers)) s.given p.0.gives) [
      | inl same ↦ omega (arith, same, rest)
      | inr more ↦ omega (arith, more, rest)
    ]

-- ---- a read that found no memory

-- the slot stays, nothing is put out, and the image stays
record Stays {A : Type 0} (state : SlotState) (old new : Health) (outcome : Came A) : Type 0 where
  slot : outcome.state ≡ state
  output : outcome.output ≡ []
  image : new ≡ old

stays_of : {A : Type 0} (state : SlotState) (old new : Health) (outcome : Came A)
    → outcome ≡ replies state NoMemory → new ≡ old → Stays state old new outcome
stays_of state old new outcome is image =
    record { slot = ap (λ o. o.state) is; output = ap (λ o. o.output) is; image = image }

-- so does all that can be seen of the board, where it does whenever memory is wanting
board_stays : {A : Type 0} (old new : World) (h : ℕ) (state : SlotState) (what : EventKind A)
    (written : Record A) → ((outcome : Came A) → IsRefused state what old.health new.health outcome
    → Stays state old.health new.health outcome)
    → slice_get old.slots h ≡ Some state → (step : SlotStep old h state what written new)
    → written.reply ≡ NoMemory → KeepsBoard old written new
board_stays {A} old new h state what written stays here step lacks =
    by_given (lacking_over_image state what old.health new.health step.outcome said step.given)
  where
    said : step.outcome.reply ≡ NoMemory
    said = sym (ap (λ w. w.reply) step.recorded) ∙ lacks

    by_given : MayGiveOverImage state what old.health new.health step.outcome → KeepsBoard old written new
    by_given (inl served) = absurd (served.answered said)
    by_given (inr refused) =
        let same = stays step.outcome refused in
        record {
          slots = step.slots ∙ (ap (λ (s : SlotState). slice_set old.slots h s) same.slot
              ∙ set_same old.slots h state state here refl);
          outside = step.outside;
          health = same.image;
          output = ap (λ w. w.output) step.recorded ∙ same.output;
        }

board_stays_at : {A : Type 0} (old new : World) (h : ℕ) (what : EventKind A) (written : Record A)
    → ((state : SlotState) (outcome : Came A) → IsRefused state what old.health new.health outcome
    → Stays state old.health new.health outcome)
    → (o : Option SlotState) → slice_get old.slots h ≡ o
    → MatchOption o (MissingStep old h written new) (λ s. SlotStep old h s what written new)
    → written.reply ≡ NoMemory → KeepsBoard old written new
board_stays_at old new h what written stays None here step lacks = let said : BadSlot ≡ NoMemory =
    sym (ap (λ w. w.reply) step.recorded) ∙ lacks in absurd (cc said)
board_stays_at old new h what written stays (Some state) here step lacks =
    board_stays old new h state what written (stays state) here step lacks

-- a read of memory
pub read_without_memory : {A : Type 0} (old new : World) (h addr len : ℕ) (written : Record A)
    → Step old (record { slot = h; what = event.MemRead addr len }) written new → written.reply ≡ NoMemory
    → KeepsBoard old written new
read_without_memory {A} old new h addr len written step lacks =
    board_stays_at old new h (event.MemRead addr len) written
    (λ state outcome refused. stays_of state old.health new.health outcome refused.unchanged
    refused.image) (slice_get old.slots h) refl step lacks

-- an emergency write
unput : {A : Type 0} (state : SlotState) (answered : Bool) (width value : ℕ)
    (old new : Health) (outcome : Came A)
    → IsCutShort (task_of Console (if answered then action.ConfigWrite emergency_write width value else
    action.None)) state old new outcome → Stays state old new outcome
unput state true width value old new outcome h = stays_of state old new outcome h.alike h.image
unput state false width value old new outcome h = absurd h

pub byte_without_memory : {A : Type 0} (old new : World) (h width value : ℕ) (written : Record A)
    → Step old (record { slot = h; what = event.Write Console emergency_write width value }) written new
    → written.reply ≡ NoMemory → KeepsBoard old written new
byte_without_memory {A} old new h width value written step lacks =
    board_stays_at old new h (event.Write Console emergency_write width value) written
    (λ state outcome refused. unput state (is_configuration_access emergency_write width) width
    (narrowed width value) old.health new.health outcome refused) (slice_get old.slots h) refl step lacks

-- ---- what stays of a slot whose event found no memory

transmit_beside : {A : Type 0} (state : SlotState) (old new : Health) (outcome : Came A)
    → IsRefusedTransmit state old new outcome → KeepsBesideTransmit state outcome.state
transmit_beside {A} state old new outcome h = record {
  rest = ap (λ (o : Came A). o.state) h.is;
  memory = notified_range transmit 1 (queue_at 1 state.console) Refused state.memory outcome.state.memory
      state.console outcome.state.console [] outcome.output h.notified;
}

unchanged_beside : {A : Type 0} (state : SlotState) (outcome : Came A) → outcome ≡ replies state NoMemory
    → KeepsBesideTransmit state outcome.state
unchanged_beside {A} state outcome is =
    subst (λ (o : Came A). KeepsBesideTransmit state o.state) (sym is)
    (record { rest = refl; memory = same_range state.memory })

-- what a refusal keeps, and that the image has no part in it
record Lacks {A : Type 0} (state : SlotState) (old new : Health) (outcome : Came A) : Type 0 where
  slot : KeepsBesideTransmit state outcome.state
  image : new ≡ old

lacks_over_image : {A : Type 0} (state : SlotState) (what : EventKind A) (old new : Health)
    (outcome : Came A) → outcome.reply ≡ NoMemory → MayGiveOverImage state what old new outcome
    → Lacks state old new outcome
lacks_over_image state what old new outcome lacks (inl h) = absurd (h.answered lacks)
lacks_over_image state what old new outcome lacks (inr h) =
    elim (was_refused state what old new outcome h) [
      -- the block device is never without memory
      | Failed block h ↦ let said = sym (ap (λ o. o.reply) h.service.is) ∙ lacks in absurd (cc said)
      | FailedImage n disk asked is by h ↦
          let said = sym (ap (λ o. o.reply) h.service.is) ∙ lacks in absurd (cc said)
      | Unsent console puts h ↦
          let kept = transmit_beside (record state { console = console }) old new outcome h in
          record { slot = record { rest = kept.rest; memory = kept.memory }; image = h.image }
      | Unput console puts h ↦
          let kept = unchanged_beside (record state { console = console }) outcome h.alike in
          record { slot = record { rest = kept.rest; memory = kept.memory }; image = h.image }
      | Unread is h ↦ record { slot = unchanged_beside state outcome h.alike; image = h.image }
    ]

pub lacking_event_keeps : {A : Type 0} (old new : World) (e : Event A) (written : Record A)
    (before after : SlotState) → Step old e written new → written.reply ≡ NoMemory
    → slice_get old.slots e.slot ≡ Some before → slice_get new.slots e.slot ≡ Some after
    → KeepsBesideTransmit before after × (new.health ≡ old.health)
lacking_event_keeps {A} old new e written before after step lacks here there =
    let taken : SlotStep old e.slot before e.what written new =
    slot_step old e written new before here step in
    let same = left_as old new e written before after taken here there in
    let lacked = sym (ap (λ w. w.reply) taken.recorded) ∙ lacks in
    let kept = lacks_over_image before e.what old.health new.health taken.outcome lacked
    (lacking_over_image before e.what old.health new.health taken.outcome lacked taken.given) in
    (subst (λ (s : SlotState). KeepsBesideTransmit before s) same kept.slot, kept.image)
