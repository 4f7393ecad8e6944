-- The service that is asked for by what is done to a further device: at its end that was done.
use Rattle.chain.specs.Service.{Device as ChainDevice}
use Rattle.sector_cache.specs.Disk.{Disk}
use Rattle.mmio_window.specs.Window.{queue_at}
use Rattle.mmio_window.proofs.Pieces.{notified_once}
use Rattle.block_device.specs.declared.device.BlockDevice.{BlockDevice}
use Rattle.block_device.specs.Device.{block_device, exact_device}
use Rattle.board.specs.ImageDisks.{GivesAtDevice, IsImageDiskService, IsRefusedAtDevice, bytes_in, device_readied, image_asked, image_device, image_served}
use Rattle.board.proofs.AtDevice.{IsWrite, asked_write, served_readied}
use Rattle.std.proofs.Common.{◌≡◌, ◌≢◌, inl, inr, ℕ, Bool, true, false, Option, Some, None, List, [], length, refl, sym, ◌∙◌, ap, subst}
use Rattle.std.specs.Prelude.{if◌then◌else◌, is_none, is_some, unwrap_or}
use Rattle.std.specs.List.{slice_get}
use Rattle.std.specs.Option.{option_and_then, option_map, option_map_or}
use Rattle.std.proofs.lemmas.Option.{same_Some}
use Rattle.guest_memory.specs.Memory.{Memory}
use Rattle.chain.specs.declared.budget.Budget.{Budget}
use Rattle.chain.specs.declared.budget.Progress.TheVariants as progress
use Rattle.mmio_window.specs.declared.stage.Stage.TheVariants.{First}
use Rattle.device_list.specs.declared.refusal.ReceiveRefusal.{ReceiveRefusal}
use Rattle.device_list.specs.Card.{receive_refusal}
use Rattle.device_list.specs.Device.{DeviceState, Receives, ServesDevice, ServesNotified, TakesSent, Writes, device_written, has_more_sent, received, supplied, supply_taken, with_model}
use Rattle.device_list.specs.List.{At, card_at, changed_at, has_more_sent_at, notified_at, outgoing_at, sent_by, waits_at}
use Rattle.device_list.specs.Model.{card_of, outgoing_of, without_sent}
use Rattle.device_list.proofs.Pieces.{at_changed, changed_there, devices_once}
use Rattle.board.specs.declared.event.DeviceEvent.{DeviceEvent}
use Rattle.board.specs.declared.event.DeviceEvent.TheVariants.{Write, Supply, Receive, DropSent}
use Rattle.board.specs.declared.event.EventKind.TheVariants.{Device}
use Rattle.board.specs.declared.pause.Pause.{Pause}
use Rattle.board.specs.declared.pause.Service.{Service}
use Rattle.board.specs.declared.pause.Service.TheVariants.{Further}
use Rattle.board.specs.declared.pause.Turn.{Turn}
use Rattle.board.specs.declared.pause.Turn.TheVariants.{Answered, More}
use Rattle.board.specs.declared.reply.Reply.{Reply}
use Rattle.board.specs.declared.reply.Reply.TheVariants.{Done, Took, NoMemory}
use Rattle.board.specs.Devices.{DoesTo, device_asks, device_reply, devices_readied, further_service, received_reply, reply_at, waits_there}
use Rattle.board.specs.Image.{Health, disk_with}
use Rattle.board.specs.Machine.{GivesOverImage, readied}
use Rattle.board.specs.Outcome.{replies}
use Rattle.board.specs.Pausing.{BeginsOverImage, EndsBy, IsAnyImageDiskPiece, IsFurtherPiece, IsImageDiskPiece, IsPieceAtDevice, TurnsTo, reply_by}
use Rattle.board.specs.Slot.{SlotState}
use Rattle.board.specs.Within.{BeginsWithinOverImage, PieceBy, TurnWithin}
use Rattle.board.specs.World.{MayGiveOverImage}

-- What asks for a service of a further device: the device is there, this becomes of it first, and once its queue was served
-- that was done which was asked for.
pub record Asking {A : Type 0} (n : ℕ) (what : DeviceEvent A) (state : SlotState) (pause : Pause) : Type 0 where
  pub device : DeviceState
  pub there : slice_get state.devices n ≡ Some device
  pub queue : ℕ
  pub taken : Option ℕ
  pub is : pause ≡ further_service n queue taken
  pub change : DeviceState → DeviceState
  pub readied : devices_readied n what state.memory state.devices ≡ changed_at change n state.devices
  pub answers : reply_at n what state ≡ Some (reply_by taken)
  pub does : (m' : Memory) (new : List DeviceState)
      → At (λ m m' d d'. ServesDevice queue m m' (change d) d') n state.memory m' state.devices new
      → DoesTo what n state.memory m' state.devices new

pub reply_there : (A : Type 0) (taken : Option ℕ) → reply_by {A = A} taken ≢ NoMemory
reply_there A None = λ lacks. absurd (cc (lacks))
reply_there A (Some count) = λ lacks. absurd (cc (lacks))

-- ---- a write

-- the device is there that is written to, and this queue is notified
record Notified (n offset width value : ℕ) (devices : List DeviceState) (pause : Pause) : Type 0 where
  device : DeviceState
  there : slice_get devices n ≡ Some device
  queue : ℕ
  notified : notified_at offset width value device ≡ Some queue
  is : pause ≡ further_service n queue None

notified_in : (n offset width value : ℕ) (devices : List DeviceState) (pause : Pause) (found : Option DeviceState)
    → slice_get devices n ≡ found
    → option_map (λ q. further_service n q None) (option_and_then (notified_at offset width value) found) ≡ Some pause
    → Notified n offset width value devices pause
notified_in n offset width value devices pause None there asks = absurd (cc (asks))
notified_in n offset width value devices pause (Some d) there asks =
    by_queue (notified_at offset width value d) refl asks
  where
    by_queue : (q : Option ℕ) → notified_at offset width value d ≡ q
        → option_map (λ q. further_service n q None) q ≡ Some pause → Notified n offset width value devices pause
    by_queue None is asks = absurd (cc (asks))
    by_queue (Some q) is asks = record {
      device = d;
      there = there;
      queue = q;
      notified = is;
      is = sym (same_Some (further_service n q None) pause asks);
    }

-- the device that At speaks of is the one that is there
at_one : (P Q : Memory → Memory → DeviceState → DeviceState → Type 0) (n : ℕ) (m m' : Memory)
    (old new : List DeviceState) (d : DeviceState) → slice_get old n ≡ Some d
    → ((d' : DeviceState) → P m m' d d' → Q m m' d d') → At P n m m' old new → At Q n m m' old new
at_one P Q n m m' old new d there may h =
    let same : h.before ≡ d = same_Some h.before d (sym h.there ∙ there) in
    record {
      before = d;
      after = h.after;
      there = there;
      changes = may h.after (subst (λ (e : DeviceState). P m m' e h.after) same h.changes);
      is = h.is;
    }

write_asking : {A : Type 0} (n offset width value : ℕ) (state : SlotState) (pause : Pause) (waits : Bool)
    → waits_there n offset state.devices ≡ waits
    → (if waits then None
    else option_map (λ q. further_service n q None)
    (option_and_then (notified_at offset width value) (slice_get state.devices n))) ≡ Some pause
    → Asking {A = A} n (Write offset width value) state pause
write_asking n offset width value state pause true is asks = absurd (cc (asks))
write_asking {A} n offset width value state pause false is asks =
    let found = notified_in n offset width value state.devices pause (slice_get state.devices n) refl asks in
    let free : waits_at offset found.device ≡ false =
    sym (ap (λ (o : Option DeviceState). option_map_or (waits_at offset) o false) found.there) ∙ is in
    record {
      device = found.device;
      there = found.there;
      queue = found.queue;
      taken = None;
      is = found.is;
      change = device_written offset width value state.memory;
      readied = refl;
      answers = ap (λ (o : Option DeviceState). option_and_then (device_reply {A = A} (Write offset width value)) o) found.there
          ∙ rw free refl;
      does = λ m' new h.
          rw is (at_one (λ m m' d d'. ServesDevice found.queue m m' (device_written offset width value state.memory d) d')
          (Writes offset width value) n state.memory m' state.devices new found.device found.there
          (λ d' serves. rw found.notified serves) h);
    }

-- ---- what is supplied

-- the device is there that takes so many of these bytes
record Supplied (n : ℕ) (bytes : List ℕ) (devices : List DeviceState) (pause : Pause) : Type 0 where
  device : DeviceState
  there : slice_get devices n ≡ Some device
  taken : ℕ
  takes : supply_taken bytes device ≡ Some taken
  is : pause ≡ further_service n 0 (Some taken)

supplied_in : (n : ℕ) (bytes : List ℕ) (devices : List DeviceState) (pause : Pause) (found : Option DeviceState)
    → slice_get devices n ≡ found
    → option_map (λ taken. further_service n 0 (Some taken)) (option_and_then (supply_taken bytes) found) ≡ Some pause
    → Supplied n bytes devices pause
supplied_in n bytes devices pause None there asks = absurd (cc (asks))
supplied_in n bytes devices pause (Some d) there asks = by_taken (supply_taken bytes d) refl asks
  where
    by_taken : (taken : Option ℕ) → supply_taken bytes d ≡ taken
        → option_map (λ taken. further_service n 0 (Some taken)) taken ≡ Some pause → Supplied n bytes devices pause
    by_taken None is asks = absurd (cc (asks))
    by_taken (Some taken) is asks = record {
      device = d;
      there = there;
      taken = taken;
      takes = is;
      is = sym (same_Some (further_service n 0 (Some taken)) pause asks);
    }

supply_asking : {A : Type 0} (n : ℕ) (bytes : List ℕ) (state : SlotState) (pause : Pause)
    → device_asks {A = A} n (Supply bytes) state ≡ Some pause → Asking {A = A} n (Supply bytes) state pause
supply_asking {A} n bytes state pause asks =
    let found = supplied_in n bytes state.devices pause (slice_get state.devices n) refl asks in
    record {
      device = found.device;
      there = found.there;
      queue = 0;
      taken = Some found.taken;
      is = found.is;
      change = with_model (supplied bytes);
      readied = refl;
      answers = ap (λ (o : Option DeviceState). option_and_then (device_reply {A = A} (Supply bytes)) o) found.there
          ∙ ap (λ (o : Option ℕ). option_map Took o) found.takes;
      does = λ m' new h.
          record { before = h.before; after = h.after; there = h.there; changes = h.changes; is = h.is };
    }

-- ---- a frame

-- the device is there that takes a frame
record Receiving (n : ℕ) (devices : List DeviceState) : Type 0 where
  device : DeviceState
  there : slice_get devices n ≡ Some device

receiving_in : (frame : List ℕ) (n : ℕ) (devices : List DeviceState) (found : Option DeviceState)
    → slice_get devices n ≡ found
    → receive_refusal frame (option_and_then (λ (d : DeviceState). card_of d.model) found) ≡ None
    → Receiving n devices
receiving_in frame n devices None there takes = absurd (cc (takes))
receiving_in frame n devices (Some d) there takes = record { device = d; there = there }

receive_asking : {A : Type 0} (n : ℕ) (frame : List ℕ) (state : SlotState) (pause : Pause)
    (refused : Option ReceiveRefusal) → receive_refusal frame (card_at n state.devices) ≡ refused
    → (if is_none refused then Some (further_service n 0 (Some (length frame))) else None) ≡ Some pause
    → Asking {A = A} n (Receive frame) state pause
receive_asking n frame state pause (Some why) is asks = absurd (cc (asks))
receive_asking {A} n frame state pause None is asks =
    let found = receiving_in frame n state.devices (slice_get state.devices n) refl is in
    record {
      device = found.device;
      there = found.there;
      queue = 0;
      taken = Some (length frame);
      is = sym (same_Some (further_service n 0 (Some (length frame))) pause asks);
      change = with_model (received frame);
      readied = refl;
      answers = ap (λ (o : Option ReceiveRefusal). received_reply {A = A} frame o) is;
      does = λ m' new h.
          rw is (at_one (λ m m' d d'. ServesDevice 0 m m' (with_model (received frame) d) d') (Receives frame) n
          state.memory m' state.devices new found.device found.there (λ d' serves. serves) h);
    }

-- ---- what was sent is dropped

-- the device is there whose driver sent something
pub record Sender (n : ℕ) (devices : List DeviceState) : Type 0 where
  pub device : DeviceState
  pub there : slice_get devices n ≡ Some device

pub sender : (n : ℕ) (devices : List DeviceState) (found : Option DeviceState) → slice_get devices n ≡ found
    → is_some (option_and_then (λ waits. waits) (option_and_then (λ (d : DeviceState). outgoing_of d.model) found)) ≡ true
    → Sender n devices
sender n devices None there sent = absurd (cc (sent))
sender n devices (Some d) there sent = record { device = d; there = there }

pub outgoing_is : (found : Option (Option (List ℕ))) (sent : List ℕ) → option_and_then (λ waits. waits) found ≡ Some sent
    → found ≡ Some (Some sent)
outgoing_is None sent is = absurd (cc (is))
outgoing_is (Some waits) sent is = ap (λ (o : Option (List ℕ)). Some o) is

-- whether more waits is told by the device that is there
pub more_there : (n : ℕ) (devices : List DeviceState) (d : DeviceState) → slice_get devices n ≡ Some d
    → has_more_sent d ≡ has_more_sent_at n devices
more_there n devices d there = sym (ap (λ (o : Option DeviceState). option_map_or has_more_sent o false) there)

-- what was sent is taken, and the queue is served or nothing is
pub takes_by : (more : Bool) (m m' : Memory) (d d' : DeviceState) → has_more_sent d ≡ more
    → ServesNotified (if more then None else Some 1) m m' (with_model without_sent d) d' → TakesSent m m' d d'
takes_by more m m' d d' is h =
    subst (λ (b : Bool). ServesNotified (if b then None else Some 1) m m' (with_model without_sent d) d') (sym is) h

drop_asking : {A : Type 0} (n : ℕ) (state : SlotState) (pause : Pause) (more : Bool) (sent : Option (List ℕ))
    → has_more_sent_at n state.devices ≡ more → sent_by n state.devices ≡ sent
    → (if more then None else option_map (λ sent. further_service n 1 (Some (length sent))) sent) ≡ Some pause
    → Asking {A = A} n DropSent state pause
drop_asking n state pause true sent has is asks = absurd (cc (asks))
drop_asking n state pause false None has is asks = absurd (cc (asks))
drop_asking {A} n state pause false (Some sent) has is asks =
    let found = sender n state.devices (slice_get state.devices n) refl (ap (λ (o : Option (List ℕ)). is_some o) is) in
    record {
      device = found.device;
      there = found.there;
      queue = 1;
      taken = Some (length sent);
      is = sym (same_Some (further_service n 1 (Some (length sent))) pause asks);
      change = with_model without_sent;
      readied = refl;
      answers = ap (λ (o : Option (Option (List ℕ))). option_map (λ s. Took (length (unwrap_or s []))) o)
          (outgoing_is (outgoing_at n state.devices) sent is);
      does = λ m' new h.
          rw is (at_one (λ m m' d d'. ServesDevice 1 m m' (with_model without_sent d) d') TakesSent n state.memory m'
          state.devices new found.device found.there
          (λ d' serves. takes_by false state.memory m' found.device d'
          (more_there n state.devices found.device found.there ∙ has) serves) h);
    }

pub asking : {A : Type 0} (n : ℕ) (what : DeviceEvent A) (state : SlotState) (pause : Pause)
    → device_asks n what state ≡ Some pause → Asking n what state pause
asking n (Write offset width value) state pause asks =
    write_asking n offset width value state pause (waits_there n offset state.devices) refl asks
asking n (Supply bytes) state pause asks = supply_asking n bytes state pause asks
asking n (Receive frame) state pause asks =
    receive_asking n frame state pause (receive_refusal frame (card_at n state.devices)) refl asks
asking n DropSent state pause asks =
    drop_asking n state pause (has_more_sent_at n state.devices) (sent_by n state.devices) refl refl asks
asking n _ state pause asks = absurd (cc (asks))

-- ---- at the end

module _ {A : Type 0} (n : ℕ) (what : DeviceEvent A) (state : SlotState) (pause : Pause) (a : Asking n what state pause) where
  -- once the queue was served that was done which was asked for
  pub does_at : (m' : Memory) (new : List DeviceState)
      → At (ServesDevice a.queue) n state.memory m' (devices_readied n what state.memory state.devices) new
      → DoesTo what n state.memory m' state.devices new
  does_at m' new h =
      a.does m' new (at_changed a.change a.queue n state.memory m' state.devices new a.device a.there
      (subst (λ (l : List DeviceState). At (ServesDevice a.queue) n state.memory m' l new) a.readied h))

  -- the slot with another memory and other devices
  abbrev With : Memory → List DeviceState → SlotState
  With memory devices = record state { memory = memory; devices = devices }

  pub gives_at : (health : Health) (m' : Memory) (new : List DeviceState) → image_asked n what state ≡ None
      → At (ServesDevice a.queue) n state.memory m' (devices_readied n what state.memory state.devices) new
      → GivesOverImage {A = A} state (Device n what) health health (replies (With m' new) (reply_by a.taken))
  gives_at health m' new none h =
      subst (λ (f : Option BlockDevice). GivesAtDevice f n what state health health (replies {A = A} (With m' new)
      (reply_by a.taken))) (sym none)
      (rw a.answers (record { at = does_at m' new h; is = refl; image = refl }))

  -- the device is there as its service begins
  pub there_readied : slice_get (devices_readied n what state.memory state.devices) n ≡ Some (a.change a.device)
  there_readied =
      ap (λ (l : List DeviceState). slice_get l n) a.readied
      ∙ changed_there a.change n state.devices a.device a.there

  pub further_given : (budget : Budget) (before after : Health) (new : SlotState) (output : List ℕ)
      → image_asked n what state ≡ None
      → IsFurtherPiece n a.queue First budget progress.Done (readied (Device n what) state) before after new output
      → MayGiveOverImage {A = A} state (Device n what) before after
      (record { state = new; reply = reply_by a.taken; output = output })
  further_given budget before after new output none h =
      let whole = devices_once budget n a.queue state.memory new.memory
      (devices_readied n what state.memory state.devices) new.devices (a.change a.device) there_readied h.served in
      let is : record { state = new; reply = reply_by a.taken; output = output }
      ≡ replies {A = A} (With new.memory new.devices) (reply_by a.taken) = rw (h.is, h.silent) refl in
      inl (record {
        alike = rw (is, h.image) (gives_at before new.memory new.devices none whole);
        answered = reply_there A a.taken;
        failures = ap (λ (x : Health). x.failures) h.image;
      })

-- a disk over the image that is asked serves by that service
pub asked_is : {A : Type 0} (n : ℕ) (what : DeviceEvent A) (state : SlotState) (pause : Pause) (a : Asking n what state pause)
    → device_asks n what state ≡ Some pause → image_asked n what state ≡ image_served (Further n a.queue) state
asked_is n what state pause a asks =
    ap (λ (o : Option Pause). option_and_then (λ p. image_served p.service state) o) asks
    ∙ ap (λ (p : Pause). image_served p.service state) a.is

-- what asks it is a write, whose service was handed nothing
write_pause : {A : Type 0} (n : ℕ) (what : DeviceEvent A) (state : SlotState) (pause : Pause) → IsWrite what
    → device_asks n what state ≡ Some pause → reply_by {A = A} pause.taken ≡ Done
write_pause {A} n (Write offset width value) state pause is asks =
    by_wait (waits_there n offset state.devices) asks
  where
    by_wait : (waits : Bool) → (if waits then None
        else option_map (λ q. further_service n q None)
        (option_and_then (notified_at offset width value) (slice_get state.devices n))) ≡ Some pause
        → reply_by {A = A} pause.taken ≡ Done
    by_wait true asks = absurd (cc asks)
    by_wait false asks =
        let found = notified_in n offset width value state.devices pause (slice_get state.devices n) refl asks in
        ap (λ (p : Pause). reply_by p.taken) found.is
write_pause n _ state pause is asks = absurd is

-- the whole of its service
module _ {A : Type 0} (n : ℕ) (what : DeviceEvent A) (state : SlotState) (disk : BlockDevice)
    (asked : image_asked n what state ≡ Some disk) (budget : Budget) (before after : Health) (new : SlotState)
    (output : List ℕ) where
  served_whole : (device : ChainDevice Disk)
      → IsImageDiskPiece device n disk First budget progress.Done (device_readied n what state) before after new output
      → IsImageDiskService {A = A} device n disk (device_readied n what state) before after
      (record { state = new; reply = Done; output = output })
  served_whole device h =
      let s = h.serves in
      record {
        serves = record {
          device = s.device;
          there = s.there;
          window = s.window;
          serves = record {
            ending = s.serves.ending;
            notified = notified_once device budget 0 (queue_at 0 s.device.window) s.serves.ending state.memory new.memory
                s.device.window s.window (disk_with (bytes_in disk state.spare_bytes) before)
                (disk_with (bytes_in disk new.spare_bytes) after) s.serves.notified;
          };
          outside = s.outside;
          is = s.is;
        };
        is = ap (λ (out : List ℕ). record { state = new; reply = Done; output = out }) h.silent;
      }

  pub image_given :
      IsAnyImageDiskPiece n disk First budget progress.Done (device_readied n what state) before after new output
      → MayGiveOverImage {A = A} state (Device n what) before after (record { state = new; reply = Done; output = output })
  image_given (inl (exact, stood)) = inl (record {
    alike = subst (λ (f : Option BlockDevice). GivesAtDevice {A = A} f n what state before after
        (record { state = new; reply = Done; output = output })) (sym asked)
        (served_whole (exact_device (image_device disk)) exact);
    answered = λ lacks. absurd (cc lacks);
    failures = stood;
  })
  image_given (inr (failed, rose)) = inr (subst (λ (f : Option BlockDevice). IsRefusedAtDevice {A = A} f n what state before
      after (record { state = new; reply = Done; output = output })) (sym asked)
      (record { service = served_whole (block_device (image_device disk)) failed; failures = rose }))

-- its service puts nothing out, so an outlet decides nothing of it
pub device_within : {A : Type 0} (limit n : ℕ) (what : DeviceEvent A) (budget : Budget) (state : SlotState)
    (health : Health) (new : SlotState) (waiting : List ℕ) (turn : Turn A)
    → BeginsOverImage (Device n what) budget state health health new [] turn
    → BeginsWithinOverImage limit (Device n what) budget state new waiting waiting turn
device_within {A} limit n what budget state health new waiting turn h = by_service (device_asks n what state) refl turn h
  where
    by_pause : (which : Service) (pause : Pause) (turn : Turn A) (q : ℕ) → which ≡ Further n q
        → PieceBy which limit pause First budget (readied (Device n what) state) new waiting waiting turn
    by_pause which pause turn q is = rw is tt

    by_service : (asks : Option Pause) → device_asks n what state ≡ asks → (turn : Turn A)
        → TurnsTo (λ c. MayGiveOverImage state (Device n what) health health c) asks (Device n what) budget state health
        health new [] turn
        → TurnWithin limit asks (Device n what) budget state new waiting waiting turn
    by_service None is (Answered reply) h = tt
    by_service None is (More pause) h = absurd h
    by_service (Some pause) is turn h =
        let a = asking n what state pause is in
        by_pause pause.service pause turn a.queue (ap (λ (p : Pause). p.service) a.is)

-- an event that is answered in its first turn came to what it may come to
pub further_whole : {A : Type 0} (n : ℕ) (what : DeviceEvent A) (state : SlotState) (pause : Pause) (budget : Budget)
    (before after : Health) (new : SlotState) (output : List ℕ) (reply : Reply A)
    → device_asks n what state ≡ Some pause
    → EndsBy pause First budget (readied (Device n what) state) before after new output reply
    → MayGiveOverImage state (Device n what) before after (record { state = new; reply = reply; output = output })
further_whole {A} n what state pause budget before after new output reply asks h =
    let a = asking n what state pause asks in
    by_end a (subst (λ (p : Pause). EndsBy p First budget (readied (Device n what) state) before after new output reply) a.is h)
  where
    by_end : (a : Asking n what state pause)
        → EndsBy (further_service n a.queue a.taken) First budget (readied (Device n what) state) before after new output reply
        → MayGiveOverImage state (Device n what) before after (record { state = new; reply = reply; output = output })
    by_end a (inl (done, piece)) =
        by_found (image_served (Further n a.queue) (device_readied n what state)) refl piece
      where
        is : image_asked n what state ≡ image_served (Further n a.queue) (device_readied n what state)
        is = asked_is n what state pause a asks ∙ sym (served_readied n a.queue what state)

        by_found : (found : Option BlockDevice) → image_served (Further n a.queue) (device_readied n what state) ≡ found
            → IsPieceAtDevice found n a.queue First budget progress.Done (device_readied n what state) before after new output
            → MayGiveOverImage state (Device n what) before after (record { state = new; reply = reply; output = output })
        by_found None none h =
            rw done (further_given n what state pause a budget before after new output (is ∙ none) h)
        by_found (Some disk) some h =
            let asked = is ∙ some in
            let answer : reply ≡ Done =
            done ∙ (sym (ap (λ (p : Pause). reply_by p.taken) a.is)
            ∙ write_pause n what state pause (asked_write n what state disk asked) asks) in
            rw answer (image_given n what state disk asked budget before after new output h)
    by_end a (inr (lacks, (other, refused))) = absurd (cc (other))
