-- The one-slot machine is deterministic, and how its image fared before an event is never seen.
use Rattle.std.proofs.Common.{◌≡◌, ℕ, Bool, true, false, Option, Some, None, List, [], refl, sym, ◌∙◌, ap, subst}
use Rattle.std.specs.Prelude.{slice_set}
use Rattle.std.proofs.lemmas.Option.{same_Some}
use Rattle.mmio_window.specs.Serving.{IsNotified}
use Rattle.device_list.specs.Device.{DeviceState}
use Rattle.guest_memory.specs.Memory.{Memory}
use Rattle.chain.specs.Service.{Site, HasAtMostOneAnswer}
use Rattle.chain.proofs.Servicing.{at_most_one_service, never_refused}
use Rattle.sector_cache.specs.Disk.{Disk}
use Rattle.mmio_window.specs.declared.queue.Queue.{Queue}
use Rattle.mmio_window.specs.Queue.{queue_kind}
use Rattle.mmio_window.specs.Window.{WindowState, queue_at}
use Rattle.mmio_window.proofs.OneEnd.{SameEnd, HasOneService, one_end}
use Rattle.mmio_window.proofs.QueueKind.{has_at_most_one_chain}
use Rattle.block_device.specs.declared.device.BlockDevice.{BlockDevice}
use Rattle.block_device.specs.Device.{exact_device}
use Rattle.block_device.proofs.OneService.{at_most_one_exact_service}
use Rattle.console_device.specs.Device.{receive, exact_transmit}
use Rattle.console_device.specs.Input.{fitting}
use Rattle.console_device.proofs.Services.{receive_once, receive_never_refused}
use Rattle.board.specs.declared.event.EventKind.{EventKind}
use Rattle.block_device.specs.declared.operation.HostEvent.{HostEvent}
use Rattle.board.specs.declared.event.EventKind.TheVariants.{Write, Input, Restore}
use Rattle.board.specs.declared.event.EventKind.TheVariants as event
use Rattle.board.specs.declared.reply.Reply.{Reply}
use Rattle.board.specs.declared.reply.Reply.TheVariants.{Done, Took}
use Rattle.board.specs.declared.reply.Record.{Record}
use Rattle.board.specs.declared.pause.Service.TheVariants.{Block, Receive, Transmit, Further}
use Rattle.hosted_disk.specs.Disk.{HostedDisk}
use Rattle.board.specs.Hosting.{HostOrGives, LooksOrGives, OwnGives, is_block_task, notifies_block, told_in, waits_now}
use Rattle.board.specs.Image.{Health, disk_with}
use Rattle.board.specs.ImageDisks.{GivesAtDevice, IsImageDiskService, bytes_in, device_readied, image_asked, image_device}
use Rattle.board.specs.Machine.{task_at, with_write, with_input, Gives, GivesBy, GivesOverImage, IsNext, IsToldAlone, RunsOnItsOwn, record_of, at_rest}
use Rattle.board.specs.Outcome.{Outcome, replies, does}
use Rattle.board.specs.Slot.{SlotState}
use Rattle.board.specs.Task.{Task, Nothing, Serve, PutOut, device_of, IsBlockService, IsReceiveService, IsTransmitService, Finishes}
use Rattle.board.proofs.AtDevice.{asked_hosted, outside_once, serves_at_rest}
use Rattle.board.proofs.FurtherDevices.{device_anyhow, device_once}
use Rattle.board.proofs.Guests.{AtRest, exact_at_rest}
use Rattle.board.proofs.OneHosted.{hosted_once}
use Rattle.device_list.specs.List.{are_at_work}
use Rattle.board.proofs.Restoring.{unless_once}
use Rattle.board.proofs.Steps.{one_course}

-- ---- how the image fared is never seen

record FinishesAtRest {A : Type 0} (task : Task) (old : SlotState) (outcome : Outcome A) : Type 0 where
  health : Health
  finishes : Finishes task old at_rest health outcome

finishes_at_rest : {A : Type 0} (task : Task) (old : SlotState) (before after : Health) (outcome : Outcome A)
    → Finishes task old before after outcome → FinishesAtRest task old outcome
finishes_at_rest (Serve Block) old before after outcome h =
    let rested : AtRest (device_of old) (queue_at 0 old.block) old.memory outcome.state.memory old.block
    outcome.state.block old.extent outcome.state.extent =
    exact_at_rest (device_of old) (queue_at 0 old.block) old.memory outcome.state.memory old.block
    outcome.state.block old.extent outcome.state.extent before after h.notified in
    record { health = rested.health; finishes = record { notified = rested.notified; is = h.is } }
finishes_at_rest Nothing old before after outcome h =
    record { health = at_rest; finishes = record { alike = h.alike; image = refl } }
finishes_at_rest (PutOut byte) old before after outcome h =
    record { health = at_rest; finishes = record { alike = h.alike; image = refl } }
finishes_at_rest (Serve (Further n q)) old before after outcome h = absurd h
finishes_at_rest _ old before after outcome h =
    record { health = at_rest; finishes = record { notified = h.notified; is = h.is; image = refl } }

-- what an event gives over an image, taken from an image at rest
record RestsOverImage {A : Type 0} (state : SlotState) (what : EventKind A) (outcome : Outcome A) : Type 0 where
  after : Health
  gives : GivesOverImage state what at_rest after outcome

rests_over_image : {A : Type 0} (state : SlotState) (what : EventKind A) (before after : Health)
    (outcome : Outcome A) → GivesOverImage state what before after outcome → RestsOverImage state what outcome
rests_over_image state (Write window offset width value) before after outcome h =
    let rested : FinishesAtRest (task_at window offset width value state)
    (with_write window offset width value state) outcome =
    finishes_at_rest (task_at window offset width value state) (with_write window offset width value state)
    before after outcome h in
    record { after = rested.health; gives = rested.finishes }
rests_over_image state (Input bytes) before after outcome h =
    record { after = at_rest; gives = record { notified = h.notified; is = h.is; image = refl } }
rests_over_image state (event.Device n what) before after outcome h =
    by_asked (image_asked n what state) refl h
  where
    by_asked : (found : Option BlockDevice) → image_asked n what state ≡ found
        → GivesAtDevice found n what state before after outcome → RestsOverImage state (event.Device n what) outcome
    by_asked None none given = record {
      after = at_rest;
      gives = subst (λ (f : Option BlockDevice). GivesAtDevice f n what state at_rest at_rest outcome) (sym none)
          (device_anyhow n what state before after at_rest outcome given);
    }
    by_asked (Some disk) asked served =
        let rested = serves_at_rest n disk (device_readied n what state) before after outcome served in
        record {
          after = rested.health;
          gives = subst (λ (f : Option BlockDevice). GivesAtDevice f n what state at_rest rested.health outcome) (sym asked)
              rested.service;
        }
rests_over_image state _ before after outcome h =
    record { after = at_rest; gives = record { alike = h.alike; image = refl } }

-- the same of one that doesn't notify the block device: the image has no part in it
task_beside : {A : Type 0} (task : Task) (old : SlotState) (health : Health) (outcome : Outcome A)
    → is_block_task task ≡ false → Finishes task old health health outcome
    → Finishes task old at_rest at_rest outcome
task_beside (Serve Block) old health outcome quiet h = absurd (cc)
task_beside Nothing old health outcome quiet h = record { alike = h.alike; image = refl }
task_beside (PutOut byte) old health outcome quiet h = record { alike = h.alike; image = refl }
task_beside (Serve (Further n q)) old health outcome quiet h = absurd h
task_beside _ old health outcome quiet h = record { notified = h.notified; is = h.is; image = refl }

rests_beside : {A : Type 0} (state : SlotState) (own : HostedDisk) (what : EventKind A) (health : Health) (outcome : Outcome A)
    → state.host ≡ Some own → notifies_block what state ≡ false → GivesOverImage state what health health outcome
    → GivesOverImage state what at_rest at_rest outcome
rests_beside state own (Write window offset width value) health outcome hosted quiet h =
    task_beside (task_at window offset width value state) (with_write window offset width value state)
    health outcome quiet h
rests_beside state own (Input bytes) health outcome hosted quiet h =
    record { notified = h.notified; is = h.is; image = refl }
rests_beside {A} state own (event.Device n what) health outcome hosted quiet h =
    let none = asked_hosted n what state own hosted in
    subst (λ (f : Option BlockDevice). GivesAtDevice f n what state at_rest at_rest outcome) (sym none)
    (device_anyhow n what state health health at_rest outcome
    (subst (λ (f : Option BlockDevice). GivesAtDevice f n what state health health outcome) none h))
rests_beside state own _ health outcome hosted quiet h =
    record { alike = h.alike; image = refl }

-- an event comes out so where the disk has no part in it, and so of a guest whose disk the host serves
pub on_host_as : {A : Type 0} (One Other : Outcome A → Type 0) (state : SlotState) (what : EventKind A)
    (outcome : Outcome A) → (notifies_block what state ≡ false → One outcome → Other outcome)
    → HostOrGives One (told_in what) state what outcome
    → HostOrGives Other (told_in what) state what outcome
on_host_as {A} One Other state what outcome turn h = by_told (told_in what) h
  where
    by_ring : (rings : Bool) → notifies_block what state ≡ rings → LooksOrGives One rings state what outcome
        → LooksOrGives Other rings state what outcome
    by_ring true is given = given
    by_ring false is given = turn is given

    by_wait : (waits : Bool) → OwnGives One waits state what outcome → OwnGives Other waits state what outcome
    by_wait true given = given
    by_wait false given = by_ring (notifies_block what state) refl given

    by_told : (found : Option HostEvent) → HostOrGives One found state what outcome
        → HostOrGives Other found state what outcome
    by_told None given = by_wait (waits_now what state.host) given
    by_told (Some said) given = given

-- what an event gives is what comes of it for a guest alone
next_by : {A : Type 0} (host : Option HostedDisk) (state : SlotState) (what : EventKind A) (before after : Health)
    (outcome : Outcome A) → state.host ≡ host → GivesBy host state what before after outcome
    → IsNext state what outcome
next_by None state what before after outcome is h =
    let rested = rests_over_image state what before after outcome h in
    record {
      after = rested.after;
      gives = subst (λ (k : Option HostedDisk). GivesBy k state what at_rest rested.after outcome) (sym is)
          rested.gives;
    }
next_by {A} (Some disk) state what before after outcome is h =
    record {
      after = at_rest;
      gives = subst (λ (k : Option HostedDisk). GivesBy k state what at_rest at_rest outcome) (sym is) (record {
        gives = on_host_as (λ (o : Outcome A). GivesOverImage state what before before o)
            (λ (o : Outcome A). GivesOverImage state what at_rest at_rest o) state what outcome
            (λ quiet given. rests_beside state disk what before outcome is quiet given) h.gives;
        image = refl;
      });
    }

pub next_of : {A : Type 0} (state : SlotState) (what : EventKind A) (before after : Health)
    (outcome : Outcome A) → Gives state what before after outcome → IsNext state what outcome
next_of state what before after outcome h = next_by state.host state what before after outcome refl h

-- ---- there is at most one outcome

-- of the block device over a disk that tells its bytes
one_block : (device : BlockDevice) (bytes : List ℕ) (health : Health)
    → HasOneService (exact_device device) (disk_with bytes health)
one_block device bytes health m queue a b e f v w x y =
    at_most_one_exact_service device bytes
    (record { memory = m; ring = queue; state = disk_with bytes health }) a b e f v w refl x y

-- and of the console's queues
one_receive : (pending : List ℕ) → HasOneService receive pending
one_receive pending m queue a b e f v w x y =
    let old : Site Queue (List ℕ) = record { memory = m; ring = queue; state = pending } in
    let same = at_most_one_service queue_kind receive has_at_most_one_chain receive_once old a b e f v w
    (receive_never_refused queue_kind old a e v x) (receive_never_refused queue_kind old b f w y) x y in
    (same.site, same.ending, same.wanted)

exact_transmit_once : HasAtMostOneAnswer exact_transmit
exact_transmit_once = record { given = λ out readable w g h p q. p ∙ sym q }

one_transmit : (out : List ℕ) → HasOneService exact_transmit out
one_transmit out m queue a b e f v w x y =
    let old : Site Queue (List ℕ) = record { memory = m; ring = queue; state = out } in
    let same = at_most_one_service queue_kind exact_transmit has_at_most_one_chain
    exact_transmit_once old a b e f v w
    (never_refused queue_kind exact_transmit old a e v (λ s readable room lacks. lacks) x)
    (never_refused queue_kind exact_transmit old b f w (λ s readable room lacks. lacks) y) x y in
    (same.site, same.ending, same.wanted)

-- a slot with another memory, extent and block window
abbrev pub with_block : SlotState → Memory → List ℕ → WindowState → SlotState
with_block state memory extent block = record state { memory = memory; extent = extent; block = block }

pub same_block : (state : SlotState) (m n : Memory) (x y : List ℕ) (v w : WindowState) → m ≡ n → x ≡ y → v ≡ w
    → with_block state m x v ≡ with_block state n y w
same_block state m n x y v w p q r = rw (p, q, r) refl

block_once : {A : Type 0} (device : BlockDevice) (old : SlotState) (h k : Health) (one other : Outcome A)
    → IsBlockService (exact_device device) old at_rest h one
    → IsBlockService (exact_device device) old at_rest k other → one ≡ other
block_once device old h k one other a b =
    let end : SameEnd one.state.memory other.state.memory one.state.block other.state.block
    (disk_with one.state.extent h) (disk_with other.state.extent k) =
    one_end (exact_device device) 0 (queue_at 0 old.block) old.memory one.state.memory
    other.state.memory old.block one.state.block other.state.block (disk_with old.extent at_rest)
    (disk_with one.state.extent h) (disk_with other.state.extent k) (one_block device old.extent at_rest)
    a.notified b.notified in
    let contents : Some one.state.extent ≡ Some other.state.extent =
    ap (λ (d : Disk). d.contents) end.state in
    a.is ∙ (ap does (same_block old one.state.memory other.state.memory one.state.extent other.state.extent
    one.state.block other.state.block end.memory (cc contents) end.window) ∙ sym b.is)

-- a further disk over the image
abbrev pub with_image : SlotState → Memory → List ℕ → List DeviceState → SlotState
with_image state memory bytes devices = record state { memory = memory; spare_bytes = bytes; devices = devices }

pub same_image : (state : SlotState) (m n : Memory) (x y : List ℕ) (v w : List DeviceState) → m ≡ n → x ≡ y → v ≡ w
    → with_image state m x v ≡ with_image state n y w
same_image state m n x y v w p q r = rw (p, q, r) refl

image_once : {A : Type 0} (n : ℕ) (disk : BlockDevice) (old : SlotState) (h k : Health) (one other : Outcome A)
    → IsImageDiskService (exact_device (image_device disk)) n disk old at_rest h one
    → IsImageDiskService (exact_device (image_device disk)) n disk old at_rest k other → one ≡ other
image_once {A} n disk old h k one other a b =
    let x = a.serves in
    let y = b.serves in
    let same : y.device ≡ x.device = same_Some y.device x.device (sym y.there ∙ x.there) in
    let device = exact_device (image_device disk) in
    let bytes = bytes_in disk old.spare_bytes in
    let again : IsNotified device 0 (queue_at 0 x.device.window) old.memory other.state.memory x.device.window y.window
    (disk_with bytes at_rest) (disk_with (bytes_in disk other.state.spare_bytes) k) =
    subst (λ (d : DeviceState). IsNotified device 0 (queue_at 0 d.window) old.memory other.state.memory d.window y.window
    (disk_with bytes at_rest) (disk_with (bytes_in disk other.state.spare_bytes) k)) same y.serves in
    let end : SameEnd one.state.memory other.state.memory x.window y.window
    (disk_with (bytes_in disk one.state.spare_bytes) h) (disk_with (bytes_in disk other.state.spare_bytes) k) =
    one_end device 0 (queue_at 0 x.device.window) old.memory one.state.memory other.state.memory x.device.window x.window
    y.window (disk_with bytes at_rest) (disk_with (bytes_in disk one.state.spare_bytes) h)
    (disk_with (bytes_in disk other.state.spare_bytes) k) (one_block (image_device disk) bytes at_rest) x.serves again in
    let contents : Some (bytes_in disk one.state.spare_bytes) ≡ Some (bytes_in disk other.state.spare_bytes) =
    ap (λ (d : Disk). d.contents) end.state in
    let part : bytes_in disk one.state.spare_bytes ≡ bytes_in disk other.state.spare_bytes = cc contents in
    let spare : one.state.spare_bytes ≡ other.state.spare_bytes =
    outside_once disk.extent old.spare_bytes one.state.spare_bytes other.state.spare_bytes x.outside y.outside part in
    let devices : slice_set old.devices n (record x.device { window = x.window })
    ≡ slice_set old.devices n (record y.device { window = y.window }) =
    rw (same, end.window) refl in
    a.is ∙ (ap does (x.is ∙ same_image old one.state.memory other.state.memory one.state.spare_bytes other.state.spare_bytes
    (slice_set old.devices n (record x.device { window = x.window }))
    (slice_set old.devices n (record y.device { window = y.window })) end.memory spare devices ∙ sym y.is) ∙ sym b.is)

-- a slot with another memory, console window and pending input
abbrev pub with_console : SlotState → Memory → WindowState → List ℕ → SlotState
with_console state memory console pending =
    record state { memory = memory; console = console; pending = pending }

pub same_console : (state : SlotState) (m n : Memory) (v w : WindowState) (x y : List ℕ) → m ≡ n → v ≡ w → x ≡ y
    → with_console state m v x ≡ with_console state n w y
same_console state m n v w x y p q r = rw (p, q, r) refl

received_once : {A : Type 0} (old : SlotState) (reply : Reply A) (h k : Health) (one other : Outcome A)
    → IsReceiveService old reply at_rest h one → IsReceiveService old reply at_rest k other → one ≡ other
received_once old reply h k one other a b =
    let end : SameEnd one.state.memory other.state.memory one.state.console other.state.console
    one.state.pending other.state.pending =
    one_end receive 0 (queue_at 0 old.console) old.memory one.state.memory other.state.memory
    old.console one.state.console other.state.console old.pending one.state.pending other.state.pending
    (one_receive old.pending) a.notified b.notified in
    a.is ∙ (ap (λ (s : SlotState). replies s reply)
    (same_console old one.state.memory other.state.memory one.state.console other.state.console
    one.state.pending other.state.pending end.memory end.window end.state) ∙ sym b.is)

-- a slot with another memory and console window, and what was put out
abbrev transmitted : {A : Type 0} → SlotState → Memory → WindowState → List ℕ → Outcome A
transmitted state memory console output =
    record { state = record state { memory = memory; console = console }; reply = Done; output = output }

same_transmitted : {A : Type 0} (state : SlotState) (m n : Memory) (v w : WindowState) (x y : List ℕ) → m ≡ n
    → v ≡ w → x ≡ y → transmitted {A = A} state m v x ≡ transmitted state n w y
same_transmitted state m n v w x y p q r = rw (p, q, r) refl

transmitted_once : {A : Type 0} (old : SlotState) (h k : Health) (one other : Outcome A)
    → IsTransmitService old at_rest h one → IsTransmitService old at_rest k other → one ≡ other
transmitted_once old h k one other a b =
    let end : SameEnd one.state.memory other.state.memory one.state.console other.state.console
    one.output other.output =
    one_end exact_transmit 1 (queue_at 1 old.console) old.memory one.state.memory other.state.memory
    old.console one.state.console other.state.console [] one.output other.output (one_transmit [])
    a.notified b.notified in
    a.is ∙ (same_transmitted old one.state.memory other.state.memory one.state.console other.state.console
    one.output other.output end.memory end.window end.state ∙ sym b.is)

finishes_once : {A : Type 0} (task : Task) (old : SlotState) (h k : Health) (one other : Outcome A)
    → Finishes task old at_rest h one → Finishes task old at_rest k other → one ≡ other
finishes_once (Serve Block) old h k one other a b = block_once (device_of old) old h k one other a b
finishes_once (Serve Receive) old h k one other a b = received_once old Done h k one other a b
finishes_once (Serve Transmit) old h k one other a b = transmitted_once old h k one other a b
finishes_once (Serve (Further n q)) old h k one other a b = absurd a
finishes_once _ old h k one other a b = a.alike ∙ sym b.alike

-- an event has at most one outcome over an image
over_image_once : {A : Type 0} (state : SlotState) (what : EventKind A) (h k : Health) (one other : Outcome A)
    → GivesOverImage state what at_rest h one → GivesOverImage state what at_rest k other → one ≡ other
over_image_once state (Write window offset width value) h k one other a b =
    finishes_once (task_at window offset width value state) (with_write window offset width value state)
    h k one other a b
over_image_once state (Input bytes) h k one other a b =
    received_once (with_input bytes state) (Took (fitting state.pending bytes)) h k one other a b
over_image_once state (Restore bytes) h k one other a b =
    unless_once (are_at_work state.devices) state bytes one other a.alike b.alike
over_image_once state (event.Device n what) h k one other a b = by_asked (image_asked n what state) a b
  where
    by_asked : (found : Option BlockDevice) → GivesAtDevice found n what state at_rest h one
        → GivesAtDevice found n what state at_rest k other → one ≡ other
    by_asked None a b = device_once n what state at_rest h k one other a b
    by_asked (Some disk) a b = image_once n disk (device_readied n what state) h k one other a b
over_image_once state _ h k one other a b = a.alike ∙ sym b.alike

-- and whoever has the guest's disk
once_by : {A : Type 0} (host : Option HostedDisk) (state : SlotState) (what : EventKind A) (h k : Health)
    (one other : Outcome A) → GivesBy host state what at_rest h one → GivesBy host state what at_rest k other
    → one ≡ other
once_by None state what h k one other a b = over_image_once state what h k one other a b
once_by {A} (Some disk) state what h k one other a b =
    hosted_once (λ (o : Outcome A). GivesOverImage state what at_rest at_rest o) state what one other
    (λ x y. over_image_once state what at_rest at_rest one other x y) a.gives b.gives

pub next_once : {A : Type 0} (state : SlotState) (what : EventKind A) (one other : Outcome A)
    → IsNext state what one → IsNext state what other → one ≡ other
next_once state what one other a b =
    once_by state.host state what a.after b.after one other a.gives b.gives

told_once : {A : Type 0} (g : ℕ) (state one other : SlotState) (what : EventKind A) (p q : Record A)
    → IsToldAlone g state what p one → IsToldAlone g state what q other → (p ≡ q) × (one ≡ other)
told_once {A} g state one other what p q x y =
    let same = next_once state what x.outcome y.outcome x.is_next y.is_next in (
      x.recorded ∙ (ap (λ (o : Outcome A). record_of g o) same ∙ sym y.recorded),
      x.left ∙ (ap (λ (o : Outcome A). o.state) same ∙ sym y.left),
    )

-- and so has a whole run
pub one_run : {A : Type 0} (g : ℕ) (state one other : SlotState) (events : List (EventKind A))
    (records records' : List (Record A)) → RunsOnItsOwn g state events records one
    → RunsOnItsOwn g state events records' other → (records ≡ records') × (one ≡ other)
one_run g state one other events records records' a b =
    one_course (IsToldAlone g) (told_once g) state events records records' one other a b
