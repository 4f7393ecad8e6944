-- What is done to a further device, by whether it asks a disk over the image for a service.
use Rattle.std.proofs.Common.{◌≡◌, ℕ, ◌+◌, ◌*◌, Bool, true, false, zero, suc, Option, Some, None, List, ◌++◌, take, drop, length, refl, sym, ap, ◌∙◌, arith}
use Rattle.std.specs.Prelude.{IsSome, ⊤, if◌then◌else◌, is_none, nat_le, slice_set}
use Rattle.std.specs.List.{slice_get}
use Rattle.std.specs.Option.{option_and_then, option_map, option_map_or}
use Rattle.std.proofs.lemmas.List.{drop-drop, set-set, take-append-drop}
use Rattle.std.proofs.lemmas.Option.{same_Some}
use Rattle.guest_memory.specs.Memory.{Memory}
use Rattle.mmio_window.specs.declared.action.Action.{Action}
use Rattle.mmio_window.specs.declared.action.Action.TheVariants.{ConfigWrite}
use Rattle.mmio_window.specs.declared.queue.Queue.{Queue}
use Rattle.mmio_window.specs.Window.{WindowState, queue_at}
use Rattle.mmio_window.specs.Writing.{action_of}
use Rattle.sector_cache.specs.Disk.{Disk}
use Rattle.sector_cache.specs.Sector.{extent_of}
use Rattle.block_device.specs.declared.device.BlockDevice.{BlockDevice}
use Rattle.block_device.specs.declared.extent.Extent.{Extent}
use Rattle.block_device.specs.Device.{exact_device}
use Rattle.block_device.specs.Extent.{SameOutside}
use Rattle.device_list.specs.Card.{Card, receive_refusal}
use Rattle.device_list.specs.Device.{DeviceState, device_written, received, supplied, supply_taken, taking, with_model}
use Rattle.device_list.specs.List.{card_at, changed_at, has_more_sent_at, image_at, notified_at, sent_by}
use Rattle.device_list.specs.Model.{ModelState, card_of, image_of, taken_of, without_sent}
use Rattle.device_list.specs.Model as model
use Rattle.board.specs.declared.event.DeviceEvent.{DeviceEvent}
use Rattle.board.specs.declared.event.DeviceEvent.TheVariants.{Write, Supply, Receive, DropSent}
use Rattle.board.specs.declared.pause.Pause.{Pause}
use Rattle.board.specs.declared.pause.Service.{Service}
use Rattle.board.specs.declared.pause.Service.TheVariants.{Block, Receive, Transmit, Further}
use Rattle.hosted_disk.specs.Disk.{HostedDisk}
use Rattle.board.specs.Devices.{GivesDevice, IsUnmet, device_asks, devices_readied, further_service, waits_there}
use Rattle.board.specs.Image.{Health}
use Rattle.board.specs.ImageDisks.{GivesAtDevice, IsFailedAtImage, IsImageDiskService, IsRefusedAtDevice, ServesImageDisk, bytes_in, device_readied, image_asked, image_device, image_disk_of, image_served}
use Rattle.board.specs.Machine.{at_rest}
use Rattle.board.specs.Outcome.{Outcome}
use Rattle.board.specs.Slot.{SlotState}
use Rattle.board.proofs.Guests.{AtRest, exact_at_rest}
use Rattle.board.proofs.Lists.{get_set}

-- ---- by whether a disk over the image is asked

pub by_image : {A P : Type 0} (n : ℕ) (what : DeviceEvent A) (state : SlotState) (before after : Health)
    (outcome : Outcome A) (found : Option BlockDevice)
    → (found ≡ None → GivesDevice n what state before after outcome → P)
    → ((disk : BlockDevice) → found ≡ Some disk
    → IsImageDiskService (exact_device (image_device disk)) n disk (device_readied n what state) before after outcome → P)
    → GivesAtDevice found n what state before after outcome → P
by_image n what state before after outcome None beside image h = beside refl h
by_image n what state before after outcome (Some disk) beside image h = image disk refl h

pub refused_by_image : {A P : Type 0} (n : ℕ) (what : DeviceEvent A) (state : SlotState) (before after : Health)
    (outcome : Outcome A) (found : Option BlockDevice)
    → (found ≡ None → IsUnmet n what state before after outcome → P)
    → ((disk : BlockDevice) → found ≡ Some disk
    → IsFailedAtImage n disk (device_readied n what state) before after outcome → P)
    → IsRefusedAtDevice found n what state before after outcome → P
refused_by_image n what state before after outcome None beside image h = beside refl h
refused_by_image n what state before after outcome (Some disk) beside image h = image disk refl h

-- a slot whose own disk the host serves has none
none_hosted : (host : Option HostedDisk) (disk : HostedDisk) (spare : ℕ) (found : Option BlockDevice) → host ≡ Some disk
    → image_disk_of host spare found ≡ None
none_hosted host disk spare found is = rw is refl

pub served_hosted : (n q : ℕ) (state : SlotState) (disk : HostedDisk) → state.host ≡ Some disk
    → image_served (Further n q) state ≡ None
served_hosted n zero state disk is = none_hosted state.host disk state.spare (image_at n state.devices) is
served_hosted n (suc q) state disk is = refl

-- where none is there
pub none_there : (host : Option HostedDisk) (spare : ℕ) (found : Option BlockDevice) → found ≡ None
    → image_disk_of host spare found ≡ None
none_there None spare found is = rw is refl
none_there (Some disk) spare found is = refl

-- a device that is none over the image serves none
pub served_other : (n q : ℕ) (state : SlotState) → image_at n state.devices ≡ None → image_served (Further n q) state ≡ None
served_other n zero state none = none_there state.host state.spare (image_at n state.devices) none
served_other n (suc q) state none = refl

pub image_found : (n : ℕ) (devices : List DeviceState) (d : DeviceState) → slice_get devices n ≡ Some d
    → image_at n devices ≡ image_of d.model
image_found n devices d there = ap (option_and_then (λ (e : DeviceState). image_of e.model)) there

-- only a write asks for a service of such a disk
abbrev pub IsWrite : {A : Type 0} → DeviceEvent A → Type 0
IsWrite (Write offset width value) = ⊤
IsWrite what = ⊥

never_some : (found : Option BlockDevice) (disk : BlockDevice) → found ≡ None → found ≡ Some disk → ⊥
never_some found disk none is = cc (none, is)

supplied_none : (model : ModelState) (bytes : List ℕ) (taken : ℕ) → taken_of model bytes ≡ Some taken → image_of model ≡ None
supplied_none (model.Entropy pool) bytes taken is = refl
supplied_none (model.Network card) bytes taken is = refl
supplied_none (model.Block disk) bytes taken is = refl
supplied_none (model.Image disk) bytes taken is = absurd (cc is)
supplied_none (model.Console terminal) bytes taken is = refl

pub supply_is_no_image : (n : ℕ) (devices : List DeviceState) (bytes : List ℕ) (taken : ℕ)
    → option_and_then (supply_taken bytes) (slice_get devices n) ≡ Some taken → image_at n devices ≡ None
supply_is_no_image n devices bytes taken is = by_found (slice_get devices n) refl is
  where
    by_found : (found : Option DeviceState) → slice_get devices n ≡ found
        → option_and_then (supply_taken bytes) found ≡ Some taken → image_at n devices ≡ None
    by_found None there is = absurd (cc is)
    by_found (Some d) there is = image_found n devices d there ∙ supplied_none d.model bytes taken is

card_none : (model : ModelState) (card : Card) → card_of model ≡ Some card → image_of model ≡ None
card_none (model.Entropy pool) card is = refl
card_none (model.Network own) card is = refl
card_none (model.Block disk) card is = refl
card_none (model.Image disk) card is = absurd (cc is)
card_none (model.Console terminal) card is = refl

pub card_is_no_image : (n : ℕ) (devices : List DeviceState) (card : Card) → card_at n devices ≡ Some card
    → image_at n devices ≡ None
card_is_no_image n devices card is = by_found (slice_get devices n) refl is
  where
    by_found : (found : Option DeviceState) → slice_get devices n ≡ found
        → option_and_then (λ (d : DeviceState). card_of d.model) found ≡ Some card → image_at n devices ≡ None
    by_found None there is = absurd (cc is)
    by_found (Some d) there is = image_found n devices d there ∙ card_none d.model card is

asked_by : (found : Option ℕ) (n : ℕ) (state : SlotState) (disk : BlockDevice)
    → ((taken : ℕ) → found ≡ Some taken → image_at n state.devices ≡ None)
    → option_and_then (λ pause. image_served pause.service state)
    (option_map (λ taken. further_service n 0 (Some taken)) found) ≡ Some disk → ⊥
asked_by None n state disk none is = cc is
asked_by (Some taken) n state disk none is =
    never_some (image_served (Further n 0) state) disk (served_other n 0 state (none taken refl)) is

pub asked_write : {A : Type 0} (n : ℕ) (what : DeviceEvent A) (state : SlotState) (disk : BlockDevice)
    → image_asked n what state ≡ Some disk → IsWrite what
asked_write n (Write offset width value) state disk is = tt
asked_write n (Supply bytes) state disk is =
    absurd (asked_by (option_and_then (supply_taken bytes) (slice_get state.devices n)) n state disk
    (λ taken there. supply_is_no_image n state.devices bytes taken there) is)
asked_write n (Receive frame) state disk is = by_card (card_at n state.devices) refl is
  where
    by_card : (card : Option Card) → card_at n state.devices ≡ card
        → option_and_then (λ pause. image_served pause.service state)
        (if is_none (receive_refusal frame card) then Some (further_service n 0 (Some (length frame))) else None) ≡ Some disk
        → ⊥
    by_card None there is = cc is
    by_card (Some card) there is = by_refusal (is_none (receive_refusal frame (Some card))) is
      where
        by_refusal : (free : Bool) → option_and_then (λ pause. image_served pause.service state)
            (if free then Some (further_service n 0 (Some (length frame))) else None) ≡ Some disk → ⊥
        by_refusal true is =
            never_some (image_served (Further n 0) state) disk
            (served_other n 0 state (card_is_no_image n state.devices card there)) is
        by_refusal false is = cc is
asked_write n DropSent state disk is =
    by_more (has_more_sent_at n state.devices) (sent_by n state.devices) is
  where
    by_sent : (sent : Option (List ℕ)) → option_and_then (λ pause. image_served pause.service state)
        (option_map (λ (bytes : List ℕ). further_service n 1 (Some (length bytes))) sent) ≡ Some disk → ⊥
    by_sent None is = cc is
    by_sent (Some bytes) is = cc is

    by_more : (more : Bool) (sent : Option (List ℕ)) → option_and_then (λ pause. image_served pause.service state)
        (if more then None else option_map (λ (bytes : List ℕ). further_service n 1 (Some (length bytes))) sent)
        ≡ Some disk → ⊥
    by_more true sent is = cc is
    by_more false sent is = by_sent sent is
asked_write n _ state disk is = absurd (cc is)

-- and what is done to a device of a slot whose own disk the host serves asks none
pub asked_hosted : {A : Type 0} (n : ℕ) (what : DeviceEvent A) (state : SlotState) (own : HostedDisk)
    → state.host ≡ Some own → image_asked n what state ≡ None
asked_hosted n what state own hosted = by_asked (device_asks n what state)
  where
    by_service : (which : Service) → image_served which state ≡ None
    by_service Block = refl
    by_service Receive = refl
    by_service Transmit = refl
    by_service (Further k q) = served_hosted k q state own hosted

    by_asked : (asks : Option Pause) → option_and_then (λ pause. image_served pause.service state) asks ≡ None
    by_asked None = refl
    by_asked (Some pause) = by_service pause.service

-- nor does a write to a device that is none
pub write_of_other : (A : Type 0) (n offset width value : ℕ) (state : SlotState) → image_at n state.devices ≡ None
    → image_asked {A = A} n (Write offset width value) state ≡ None
write_of_other A n offset width value state none =
    by_wait (waits_there n offset state.devices) (option_and_then (notified_at offset width value) (slice_get state.devices n))
  where
    by_wait : (waits : Bool) (q : Option ℕ) → option_and_then (λ pause. image_served pause.service state)
        (if waits then None else option_map (λ q. further_service n q None) q) ≡ None
    by_wait true q = refl
    by_wait false None = refl
    by_wait false (Some q) = served_other n q state none

-- ---- a run of sectors, of which some changed

split_run : (bytes : List ℕ) (start count : ℕ)
    → bytes ≡ take (512 * start) bytes ++ (extent_of bytes start count ++ drop (512 * (start + count)) bytes)
split_run bytes start count =
    let behind : drop (512 * start) bytes ≡ extent_of bytes start count ++ drop (512 * (start + count)) bytes =
    sym (take-append-drop (512 * count) (drop (512 * start) bytes))
    ∙ ap (λ (rest : List ℕ). extent_of bytes start count ++ rest)
    (drop-drop (512 * count) (512 * start) bytes ∙ ap (λ k. drop k bytes) (omega arith)) in
    sym (take-append-drop (512 * start) bytes) ∙ ap (λ (rest : List ℕ). take (512 * start) bytes ++ rest) behind

-- what is the same outside of some sectors, and there
pub outside_once : (extent : Extent) (old one other : List ℕ) → SameOutside extent old one → SameOutside extent old other
    → extent_of one extent.start extent.count ≡ extent_of other extent.start extent.count → one ≡ other
outside_once extent old one other a b same =
    split_run one extent.start extent.count
    ∙ ap (λ (front : List ℕ). front
    ++ (extent_of one extent.start extent.count ++ drop (512 * (extent.start + extent.count)) one)) (a.before ∙ sym b.before)
    ∙ ap (λ (part : List ℕ). take (512 * extent.start) other ++ (part ++ drop (512 * (extent.start + extent.count)) one)) same
    ∙ ap (λ (rest : List ℕ). take (512 * extent.start) other ++ (extent_of other extent.start extent.count ++ rest))
    (a.behind ∙ sym b.behind)
    ∙ sym (split_run other extent.start extent.count)

-- ---- a service, from an image at rest

pub record ServesAtRest {A : Type 0} (n : ℕ) (disk : BlockDevice) (state : SlotState) (outcome : Outcome A) : Type 0 where
  pub health : Health
  pub service : IsImageDiskService (exact_device (image_device disk)) n disk state at_rest health outcome

pub serves_at_rest : {A : Type 0} (n : ℕ) (disk : BlockDevice) (state : SlotState) (before after : Health)
    (outcome : Outcome A) → IsImageDiskService (exact_device (image_device disk)) n disk state before after outcome
    → ServesAtRest n disk state outcome
serves_at_rest n disk state before after outcome h =
    let s = h.serves in
    let rest : AtRest (image_device disk) (queue_at 0 s.device.window) state.memory outcome.state.memory s.device.window
    s.window (bytes_in disk state.spare_bytes) (bytes_in disk outcome.state.spare_bytes) =
    exact_at_rest (image_device disk) (queue_at 0 s.device.window) state.memory outcome.state.memory s.device.window s.window
    (bytes_in disk state.spare_bytes) (bytes_in disk outcome.state.spare_bytes) before after s.serves in
    record {
      health = rest.health;
      service = record {
        serves = record {
          device = s.device;
          there = s.there;
          window = s.window;
          serves = rest.notified;
          outside = s.outside;
          is = s.is;
        };
        is = h.is;
      };
    }

-- ---- the disk over the image that is asked

-- it is device n, and none of the slot's disks is the host's but those of other devices
pub record IsAsked (n : ℕ) (state : SlotState) (disk : BlockDevice) : Type 0 where
  pub device : DeviceState
  pub there : slice_get state.devices n ≡ Some device
  pub is_disk : image_of device.model ≡ Some disk

image_disk_found : (host : Option HostedDisk) (spare : ℕ) (found : Option BlockDevice) (disk : BlockDevice)
    → image_disk_of host spare found ≡ Some disk → found ≡ Some disk
image_disk_found (Some own) spare found disk is = absurd (cc is)
image_disk_found None spare None disk is = absurd (cc is)
image_disk_found None spare (Some one) disk is = by_fit (nat_le (one.extent.start + one.extent.count) spare) is
  where
    by_fit : (fits : Bool) → ◌≡◌ {A = Option BlockDevice} (if fits then Some one else None) (Some disk)
        → ◌≡◌ {A = Option BlockDevice} (Some one) (Some disk)
    by_fit true is = is
    by_fit false is = absurd (cc is)

served_found : (n q : ℕ) (state : SlotState) (disk : BlockDevice) → image_served (Further n q) state ≡ Some disk
    → image_at n state.devices ≡ Some disk
served_found n zero state disk is = image_disk_found state.host state.spare (image_at n state.devices) disk is
served_found n (suc q) state disk is = absurd (cc is)

pub is_asked : (n : ℕ) (offset width value : ℕ) (A : Type 0) (state : SlotState) (disk : BlockDevice)
    → image_asked {A = A} n (Write offset width value) state ≡ Some disk → IsAsked n state disk
is_asked n offset width value A state disk is =
    by_wait (waits_there n offset state.devices) (slice_get state.devices n) refl is
  where
    by_queue : (d : DeviceState) → slice_get state.devices n ≡ Some d → (q : Option ℕ)
        → option_and_then (λ pause. image_served pause.service state) (option_map (λ q. further_service n q None) q) ≡ Some disk
        → IsAsked n state disk
    by_queue d there None is = absurd (cc is)
    by_queue d there (Some q) is =
        record {
          device = d;
          there = there;
          is_disk = sym (image_found n state.devices d there) ∙ served_found n q state disk is;
        }

    by_found : (found : Option DeviceState) → slice_get state.devices n ≡ found
        → option_and_then (λ pause. image_served pause.service state)
        (option_map (λ q. further_service n q None) (option_and_then (notified_at offset width value) found)) ≡ Some disk
        → IsAsked n state disk
    by_found None there is = absurd (cc is)
    by_found (Some d) there is = by_queue d there (notified_at offset width value d) is

    by_wait : (waits : Bool) (found : Option DeviceState) → slice_get state.devices n ≡ found
        → option_and_then (λ pause. image_served pause.service state)
        (if waits then None else option_map (λ q. further_service n q None)
        (option_and_then (notified_at offset width value) found)) ≡ Some disk → IsAsked n state disk
    by_wait true found there is = absurd (cc is)
    by_wait false found there is = by_found found there is

-- what is written to its window leaves its model
written_model : (action : Action) (model : ModelState) (disk : BlockDevice) → image_of model ≡ Some disk
    → taking action model ≡ model
written_model (ConfigWrite offset width value) (model.Image own) disk is = refl
written_model (ConfigWrite offset width value) (model.Entropy pool) disk is = absurd (cc is)
written_model (ConfigWrite offset width value) (model.Network card) disk is = absurd (cc is)
written_model (ConfigWrite offset width value) (model.Block own) disk is = absurd (cc is)
written_model (ConfigWrite offset width value) (model.Console terminal) disk is = absurd (cc is)
written_model _ model disk is = refl

-- the device as its service found it, and left it
pub record IsLeftBy (n : ℕ) (old new : List DeviceState) (disk : BlockDevice) : Type 0 where
  pub before : DeviceState
  pub after : DeviceState
  pub there : slice_get old n ≡ Some before
  pub is_disk : image_of before.model ≡ Some disk
  pub model : after.model ≡ before.model
  pub is : new ≡ slice_set old n after

pub image_left : {A : Type 0} (n : ℕ) (what : DeviceEvent A) (state new : SlotState) (disk : BlockDevice)
    (Serves : Option Queue → Memory → Memory → WindowState → WindowState → Disk → Disk → Type 0) (before after : Health)
    → image_asked n what state ≡ Some disk → ServesImageDisk Serves n disk (device_readied n what state) new before after
    → IsLeftBy n state.devices new.devices disk
image_left {A} n what state new disk Serves before after asked s = by_what what asked s
  where
    by_what : (what : DeviceEvent A) → image_asked n what state ≡ Some disk
        → ServesImageDisk Serves n disk (device_readied n what state) new before after
        → IsLeftBy n state.devices new.devices disk
    by_what (Write offset width value) asked s =
        let found = is_asked n offset width value A state disk asked in
        let d = found.device in
        let ready = device_written offset width value state.memory d in
        let set : devices_readied {A = A} n (Write offset width value) state.memory state.devices
        ≡ slice_set state.devices n ready =
        ap (λ (f : Option DeviceState). option_map_or (λ (e : DeviceState).
        slice_set state.devices n (device_written offset width value state.memory e)) f state.devices) found.there in
        let there : slice_get (slice_set state.devices n ready) n ≡ Some s.device =
        ap (λ (l : List DeviceState). slice_get l n) (sym set) ∙ s.there in
        let same : s.device ≡ ready =
        same_Some s.device ready (sym there ∙ get_set state.devices n d ready found.there) in
        let last : DeviceState = record s.device { window = s.window } in
        record {
          before = d;
          after = last;
          there = found.there;
          is_disk = found.is_disk;
          model = ap (λ (e : DeviceState). e.model) same
              ∙ written_model (action_of offset width value d.window) d.model disk found.is_disk;
          is = ap (λ (t : SlotState). t.devices) s.is
              ∙ (ap (λ (l : List DeviceState). slice_set l n last) set ∙ set-set state.devices n ready last);
        }
    by_what what asked s = absurd (asked_write n what state disk asked)

-- ---- as its service finds it, a device is the same disk over the image, or none as before

changed_image : (change : DeviceState → DeviceState) (n : ℕ) (devices : List DeviceState)
    → ((d : DeviceState) → image_of (change d).model ≡ image_of d.model)
    → image_at n (changed_at change n devices) ≡ image_at n devices
changed_image change n devices keeps = by_found (slice_get devices n) refl
  where
    by_found : (found : Option DeviceState) → slice_get devices n ≡ found
        → image_at n (option_map_or (λ d. slice_set devices n (change d)) found devices) ≡ image_at n devices
    by_found None there = refl
    by_found (Some d) there =
        image_found n (slice_set devices n (change d)) (change d) (get_set devices n d (change d) there)
        ∙ (keeps d ∙ sym (image_found n devices d there))

written_image : (action : Action) (model : ModelState) → image_of (taking action model) ≡ image_of model
written_image (ConfigWrite offset width value) (model.Console terminal) = refl
written_image (ConfigWrite offset width value) _ = refl
written_image _ model = refl

supplied_image : (bytes : List ℕ) (model : ModelState) → image_of (supplied bytes model) ≡ image_of model
supplied_image bytes (model.Entropy pool) = refl
supplied_image bytes (model.Console terminal) = refl
supplied_image bytes _ = refl

received_image : (frame : List ℕ) (model : ModelState) → image_of (received frame model) ≡ image_of model
received_image frame (model.Network card) = refl
received_image frame _ = refl

dropped_image : (model : ModelState) → image_of (without_sent model) ≡ image_of model
dropped_image (model.Network card) = refl
dropped_image (model.Console terminal) = refl
dropped_image _ = refl

pub readied_image : {A : Type 0} (n : ℕ) (what : DeviceEvent A) (m : Memory) (devices : List DeviceState)
    → image_at n (devices_readied n what m devices) ≡ image_at n devices
readied_image n (Write offset width value) m devices =
    changed_image (device_written offset width value m) n devices
    (λ d. written_image (action_of offset width value d.window) d.model)
readied_image n (Supply bytes) m devices =
    changed_image (with_model (supplied bytes)) n devices (λ d. supplied_image bytes d.model)
readied_image n (Receive frame) m devices =
    changed_image (with_model (received frame)) n devices (λ d. received_image frame d.model)
readied_image n DropSent m devices = changed_image (with_model without_sent) n devices (λ d. dropped_image d.model)
readied_image n _ m devices = refl

pub served_readied : {A : Type 0} (n q : ℕ) (what : DeviceEvent A) (state : SlotState)
    → image_served (Further n q) (device_readied n what state) ≡ image_served (Further n q) state
served_readied n zero what state =
    ap (image_disk_of state.host state.spare) (readied_image n what state.memory state.devices)
served_readied n (suc q) what state = refl

-- a slot whose own disk the host serves serves none over the image
pub hosted_serves_none : (which : Service) (state : SlotState) → IsSome state.host → image_served which state ≡ None
hosted_serves_none Block state hosted = refl
hosted_serves_none Receive state hosted = refl
hosted_serves_none Transmit state hosted = refl
hosted_serves_none (Further n q) state hosted = by_host state.host refl hosted
  where
    by_host : (host : Option HostedDisk) → state.host ≡ host → IsSome host → image_served (Further n q) state ≡ None
    by_host None is some = absurd (cc some)
    by_host (Some disk) is some = served_hosted n q state disk is
