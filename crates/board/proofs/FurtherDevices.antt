-- What comes of what is done to a further device.
use Rattle.std.proofs.Common.{◌≡◌, ◌≢◌, inl, ℕ, Bool, true, false, Option, Some, None, List, [], refl, sym, ◌∙◌, ap, subst, length, ◌∷◌}
use Rattle.std.specs.Prelude.{if◌then◌else◌, ◌&&◌, IfSome, is_none, is_some, not, unwrap_or}
use Rattle.std.specs.List.{slice_get}
use Rattle.std.specs.Option.{option_and_then, option_map, option_map_or}
use Rattle.std.proofs.lemmas.Option.{same_Some}
use Rattle.guest_memory.specs.Memory.{Memory}
use Rattle.device_list.specs.declared.spec.DeviceSpec.{DeviceSpec}
use Rattle.mmio_window.specs.Ready.{may_stop_queues}
use Rattle.block_device.specs.declared.operation.HostEvent.{HostEvent}
use Rattle.block_device.specs.declared.operation.HostEvent.TheVariants.{Drop}
use Rattle.block_device.specs.Flights.{HostedQueue, InFlight}
use Rattle.block_device.specs.Tags.{freed, is_any}
use Rattle.hosted_disk.specs.Disk.{HostedDisk}
use Rattle.hosted_disk.specs.Told.{has_effect}
use Rattle.device_list.specs.Model.{ModelState, Block, Console, Entropy, Image, Network, disk_of, must_wait}
use Rattle.device_list.specs.Device.{DeviceState, Receives, TakesSent, Told, Writes, register_of, supply_taken}
use Rattle.device_list.specs.List.{At, card_at, disk_at, outgoing_at, sent_by, terminal_at, waits_at}
use Rattle.device_list.specs.Card.{Card, receive_refusal}
use Rattle.device_list.specs.Terminal.{Terminal}
use Rattle.network_device.specs.declared.refusal.FrameRefusal.TheVariants.{Full}
use Rattle.device_list.specs.declared.refusal.ReceiveRefusal.{ReceiveRefusal}
use Rattle.device_list.specs.declared.refusal.ReceiveRefusal.TheVariants.{Frame}
use Rattle.device_list.proofs.One.{reception_once, supply_once, taking_once, word_once, write_once}
use Rattle.board.specs.declared.event.DeviceEvent.{DeviceEvent}
use Rattle.board.specs.declared.event.DeviceEvent.TheVariants.{Plug, Read, Write, Supply, Receive, TakeSent, DropSent, SetLink, Resize, Host}
use Rattle.board.specs.declared.event.EventKind.TheVariants.{Device}
use Rattle.board.specs.declared.reply.Reply.{Reply}
use Rattle.board.specs.declared.reply.Reply.TheVariants.{Value, Done, Bytes, Took, BadDevice, Busy, Idle, NoMemory}
use Rattle.board.specs.Devices.{DoesTo, GivesByDevice, GivesDevice, AreSet, DoesIf, IsDeviceStep, IsUnmet, MayReplyDevice, StaysSo, TakesMemoryFor, can_plug, device_reply, has_effect_at, received_reply, reply_at, told_reply, waits_for_disk, waits_there}
use Rattle.board.specs.Waiting.{may_wait_there}
use Rattle.block_device.specs.declared.device.BlockDevice.{BlockDevice}
use Rattle.board.specs.Image.{Health}
use Rattle.board.specs.ImageDisks.{GivesAtDevice, image_asked}
use Rattle.board.specs.Outcome.{Outcome, replies}
use Rattle.board.specs.Slot.{SlotState}
use Rattle.board.specs.World.{MayGiveOverImage}
use Rattle.board.proofs.Lists.{get_set, set_same}

-- the slot with another memory and other devices
abbrev pub with_devices : SlotState → Memory → List DeviceState → SlotState
with_devices state memory devices = record state { memory = memory; devices = devices }

module _ {A : Type 0} (n : ℕ) (what : DeviceEvent A) (state : SlotState) where
  by_answer : (P : Outcome A → Type 0) (found : Option (Reply A)) (before after : Health) (outcome : Outcome A)
      → GivesByDevice found n what state before after outcome → P (replies state BadDevice)
      → ((reply : Reply A) → found ≡ Some reply → IsDeviceStep n what state reply before after outcome → P outcome)
      → P outcome
  by_answer P None before after outcome h bad step = subst P (sym h.alike) bad
  by_answer P (Some reply) before after outcome h bad step = step reply refl h

  -- a device takes it, or nothing happens
  pub of_device : (P : Outcome A → Type 0) (before after : Health) (outcome : Outcome A)
      → GivesDevice n what state before after outcome → P (replies state BadDevice)
      → ((reply : Reply A) → reply_at n what state ≡ Some reply → IsDeviceStep n what state reply before after outcome
      → P outcome) → P outcome
  of_device P before after outcome h bad step = by_answer P (reply_at n what state) before after outcome h bad step

  -- all else of the slot stays, and nothing is put out
  pub device_rest : (before after : Health) (outcome : Outcome A) → GivesDevice n what state before after outcome
      → outcome ≡ replies (with_devices state outcome.state.memory outcome.state.devices) outcome.reply
  device_rest before after outcome h =
      of_device (λ (o : Outcome A).
      o ≡ replies (with_devices state o.state.memory o.state.devices) o.reply) before after outcome h refl
      (λ reply found step. step.is
      ∙ ap (λ (r : Reply A). replies (with_devices state outcome.state.memory outcome.state.devices) r)
      (sym (ap (λ (o : Outcome A). o.reply) step.is)))

  image_by : (found : Option (Reply A)) (before after : Health) (outcome : Outcome A)
      → GivesByDevice found n what state before after outcome → after ≡ before
  image_by None before after outcome h = h.image
  image_by (Some reply) before after outcome h = h.image

  -- the image has no part in it
  pub device_image : (before after : Health) (outcome : Outcome A)
      → GivesDevice n what state before after outcome → after ≡ before
  device_image before after outcome h = image_by (reply_at n what state) before after outcome h

  anyhow_by : (found : Option (Reply A)) (before after one other : Health) (outcome : Outcome A) → other ≡ one
      → GivesByDevice found n what state before after outcome
      → GivesByDevice found n what state one other outcome
  anyhow_by None before after one other outcome still h = record { alike = h.alike; image = still }
  anyhow_by (Some reply) before after one other outcome still h =
      record { at = h.at; is = h.is; image = still }

  -- and how it fares is never seen
  pub device_anyhow : (before after one : Health) (outcome : Outcome A)
      → GivesDevice n what state before after outcome → GivesDevice n what state one one outcome
  device_anyhow before after one outcome h =
      anyhow_by (reply_at n what state) before after one one outcome refl h

-- which reply it is
took_by : {A : Type 0} (bytes : List ℕ) (found : Option ℕ) (reply : Reply A) → option_map Took found ≡ Some reply
    → MayReplyDevice (Supply bytes) reply
took_by bytes None reply is = absurd (cc)
took_by {A} bytes (Some taken) reply is =
    subst (λ (r : Reply A). MayReplyDevice (Supply bytes) r) (same_Some (Took taken) reply is) tt

answer_may : {A : Type 0} (what : DeviceEvent A) (d : DeviceState) (reply : Reply A)
    → device_reply what d ≡ Some reply → MayReplyDevice what reply
answer_may {A} (Read offset width) d reply is =
    subst (λ (r : Reply A). MayReplyDevice (Read offset width) r)
    (same_Some (Value (register_of offset width d)) reply is) tt
answer_may {A} (Write offset width value) d reply is =
    by_wait (waits_at offset d) is
  where
    by_wait : (waits : Bool) → Some (if waits then Busy else Done) ≡ Some reply
        → MayReplyDevice (Write offset width value) reply
    by_wait true is = subst (λ (r : Reply A). MayReplyDevice (Write offset width value) r) (same_Some Busy reply is) tt
    by_wait false is = subst (λ (r : Reply A). MayReplyDevice (Write offset width value) r) (same_Some Done reply is) tt
answer_may (Supply bytes) d reply is = took_by bytes (supply_taken bytes d) reply is
answer_may _ d reply is = absurd (cc)

found_may : {A : Type 0} (what : DeviceEvent A) (found : Option DeviceState) (reply : Reply A)
    → option_and_then (device_reply what) found ≡ Some reply → MayReplyDevice what reply
found_may what None reply is = absurd (cc)
found_may what (Some d) reply is = answer_may what d reply is

plug_may : {A : Type 0} (spec : DeviceSpec) (can : Bool) (reply : Reply A)
    → (if can then Some Done else None) ≡ Some reply → MayReplyDevice (Plug spec) reply
plug_may spec false reply is = absurd (cc)
plug_may {A} spec true reply is =
    subst (λ (r : Reply A). MayReplyDevice (Plug spec) r) (same_Some Done reply is) tt

received_may : {A : Type 0} (frame : List ℕ) (found : Option ReceiveRefusal) (reply : Reply A)
    → received_reply frame found ≡ Some reply → MayReplyDevice (Receive frame) reply
received_may {A} frame None reply is =
    subst (λ (r : Reply A). MayReplyDevice (Receive frame) r) (same_Some (Took (length frame)) reply is) tt
received_may {A} frame (Some (Frame Full)) reply is =
    subst (λ (r : Reply A). MayReplyDevice (Receive frame) r) (same_Some (Took 0) reply is) tt
received_may frame (Some _) reply is = absurd (cc)

taken_may : {A : Type 0} (found : Option (Option (List ℕ))) (reply : Reply A)
    → option_map (λ sent. Bytes (unwrap_or sent [])) found ≡ Some reply → MayReplyDevice TakeSent reply
taken_may None reply is = absurd (cc)
taken_may {A} (Some sent) reply is =
    subst (λ (r : Reply A). MayReplyDevice TakeSent r) (same_Some (Bytes (unwrap_or sent [])) reply is) tt

dropped_may : {A : Type 0} (found : Option (Option (List ℕ))) (reply : Reply A)
    → option_map (λ sent. Took (length (unwrap_or sent []))) found ≡ Some reply → MayReplyDevice DropSent reply
dropped_may None reply is = absurd (cc)
dropped_may {A} (Some sent) reply is =
    subst (λ (r : Reply A). MayReplyDevice DropSent r) (same_Some (Took (length (unwrap_or sent []))) reply is) tt

linked_may : {A : Type 0} (up : Bool) (found : Option Card) (reply : Reply A)
    → option_map (λ card. Done) found ≡ Some reply → MayReplyDevice (SetLink up) reply
linked_may up None reply is = absurd (cc)
linked_may {A} up (Some card) reply is =
    subst (λ (r : Reply A). MayReplyDevice (SetLink up) r) (same_Some Done reply is) tt

resized_may : {A : Type 0} (cols rows : ℕ) (found : Option Terminal) (reply : Reply A)
    → option_map (λ terminal. Done) found ≡ Some reply → MayReplyDevice (Resize cols rows) reply
resized_may cols rows None reply is = absurd (cc)
resized_may {A} cols rows (Some terminal) reply is =
    subst (λ (r : Reply A). MayReplyDevice (Resize cols rows) r) (same_Some Done reply is) tt

told_may : {A : Type 0} (said : HostEvent) (found : Option Bool) (reply : Reply A)
    → option_map told_reply found ≡ Some reply → MayReplyDevice (Host said) reply
told_may said None reply is = absurd (cc)
told_may {A} said (Some true) reply is =
    subst (λ (r : Reply A). MayReplyDevice (Host said) r) (same_Some Done reply is) tt
told_may {A} said (Some false) reply is =
    subst (λ (r : Reply A). MayReplyDevice (Host said) r) (same_Some Idle reply is) tt

reply_may : {A : Type 0} (n : ℕ) (what : DeviceEvent A) (state : SlotState) (reply : Reply A)
    → reply_at n what state ≡ Some reply → MayReplyDevice what reply
reply_may n (Plug spec) state reply is = plug_may spec (can_plug n spec state) reply is
reply_may n (Read offset width) state reply is =
    found_may (Read offset width) (slice_get state.devices n) reply is
reply_may n (Write offset width value) state reply is =
    found_may (Write offset width value) (slice_get state.devices n) reply is
reply_may n (Supply bytes) state reply is = found_may (Supply bytes) (slice_get state.devices n) reply is
reply_may n (Receive frame) state reply is =
    received_may frame (receive_refusal frame (card_at n state.devices)) reply is
reply_may n TakeSent state reply is = taken_may (outgoing_at n state.devices) reply is
reply_may n DropSent state reply is = dropped_may (outgoing_at n state.devices) reply is
reply_may n (SetLink up) state reply is = linked_may up (card_at n state.devices) reply is
reply_may n (Resize cols rows) state reply is = resized_may cols rows (terminal_at n state.devices) reply is
reply_may n (Host said) state reply is = told_may said (has_effect_at n said state.devices) reply is

bad_may : {A : Type 0} (what : DeviceEvent A) → MayReplyDevice what BadDevice
bad_may (Plug spec) = tt
bad_may (Read offset width) = tt
bad_may (Write offset width value) = tt
bad_may (Supply bytes) = tt
bad_may (Receive frame) = tt
bad_may TakeSent = tt
bad_may DropSent = tt
bad_may (SetLink up) = tt
bad_may (Resize cols rows) = tt
bad_may (Host said) = tt

pub device_replies : {A : Type 0} (n : ℕ) (what : DeviceEvent A) (state : SlotState) (before after : Health)
    (outcome : Outcome A) → GivesDevice n what state before after outcome → MayReplyDevice what outcome.reply
device_replies {A} n what state before after outcome h =
    of_device n what state (λ (o : Outcome A). MayReplyDevice what o.reply) before after outcome h (bad_may what)
    (λ reply found step. subst (λ (r : Reply A). MayReplyDevice what r)
    (sym (ap (λ (o : Outcome A). o.reply) step.is))
    (reply_may n what state reply found))

-- where there was no memory for it
unmet_may : {A : Type 0} (n : ℕ) (what : DeviceEvent A) (state : SlotState) → TakesMemoryFor n what state
    → MayReplyDevice what NoMemory
unmet_may n (Plug spec) state takes = tt
unmet_may n TakeSent state takes = tt
unmet_may n _ state takes = absurd takes

pub unmet_replies : {A : Type 0} (n : ℕ) (what : DeviceEvent A) (state : SlotState) (before after : Health)
    (outcome : Outcome A) → IsUnmet n what state before after outcome → MayReplyDevice what outcome.reply
unmet_replies {A} n what state before after outcome h =
    subst (λ (o : Outcome A). MayReplyDevice what o.reply) (sym h.unchanged) (unmet_may n what state h.takes)

-- what a slot gives for it may be given over an image
pub device_given : {A : Type 0} (n : ℕ) (what : DeviceEvent A) (old new : SlotState) (reply : Reply A)
    (health : Health) → image_asked n what old ≡ None → reply ≢ NoMemory
    → GivesDevice n what old health health (replies new reply)
    → MayGiveOverImage old (Device n what) health health (replies new reply)
device_given {A} n what old new reply health none answered h =
    inl (record {
      alike = subst (λ (f : Option BlockDevice). GivesAtDevice f n what old health health (replies {A = A} new reply)) (sym none) h;
      answered = answered;
      failures = refl;
    })

-- ---- there is at most one outcome

set_once : (wanted : List DeviceState) (m one other : Memory) (new new' : List DeviceState)
    → AreSet wanted m one new → AreSet wanted m other new' → (one ≡ other) × (new ≡ new')
set_once wanted m one other new new' a b = (a.memory ∙ sym b.memory, a.devices ∙ sym b.devices)

still_once : (n : ℕ) (m one other : Memory) (old new new' : List DeviceState)
    → At StaysSo n m one old new → At StaysSo n m other old new' → (one ≡ other) × (new ≡ new')
still_once n m one other old new new' a b =
    let same : new ≡ old = a.is ∙ set_same old n a.before a.after a.there a.changes.device in
    let same' : new' ≡ old = b.is ∙ set_same old n b.before b.after b.there b.changes.device in
    (a.changes.memory ∙ sym b.changes.memory, same ∙ sym same')

does_if_once : (cause : Bool) (Changes : Memory → Memory → DeviceState → DeviceState → Type 0) (n : ℕ)
    (m one other : Memory) (old new new' : List DeviceState)
    → (At Changes n m one old new → At Changes n m other old new' → (one ≡ other) × (new ≡ new'))
    → DoesIf cause Changes n m one old new → DoesIf cause Changes n m other old new'
    → (one ≡ other) × (new ≡ new')
does_if_once true Changes n m one other old new new' once a b = once a b
does_if_once false Changes n m one other old new new' once a b = set_once old m one other new new' a b

alters_once : {A : Type 0} (what : DeviceEvent A) (n : ℕ) (m one other : Memory) (old new new' : List DeviceState)
    → DoesTo what n m one old new → DoesTo what n m other old new' → (one ≡ other) × (new ≡ new')
alters_once (Plug spec) n m one other old new new' a b = set_once _ m one other new new' a b
alters_once (SetLink up) n m one other old new new' a b = set_once _ m one other new new' a b
alters_once (Resize cols rows) n m one other old new new' a b = set_once _ m one other new new' a b
alters_once (Receive frame) n m one other old new new' a b =
    does_if_once (is_none (receive_refusal frame (card_at n old))) (Receives frame) n m one other old new new'
    (reception_once frame n m one other old new new') a b
alters_once TakeSent n m one other old new new' a b =
    does_if_once (is_some (sent_by n old)) TakesSent n m one other old new new'
    (taking_once n m one other old new new') a b
alters_once DropSent n m one other old new new' a b =
    does_if_once (is_some (sent_by n old)) TakesSent n m one other old new new'
    (taking_once n m one other old new new') a b
alters_once (Read offset width) n m one other old new new' a b =
    still_once n m one other old new new'
    (record { before = a.before; after = a.after; there = a.there; changes = a.changes; is = a.is })
    (record { before = b.before; after = b.after; there = b.there; changes = b.changes; is = b.is })
alters_once (Write offset width value) n m one other old new new' a b =
    does_if_once (not (waits_there n offset old)) (Writes offset width value) n m one other old new new'
    (write_once offset width value n m one other old new new') a b
alters_once (Host said) n m one other old new new' a b =
    does_if_once (unwrap_or (has_effect_at n said old) false) (Told said) n m one other old new new'
    (word_once said n m one other old new new') a b
alters_once (Supply bytes) n m one other old new new' a b =
    supply_once bytes n m one other old new new'
    (record { before = a.before; after = a.after; there = a.there; changes = a.changes; is = a.is })
    (record { before = b.before; after = b.after; there = b.there; changes = b.changes; is = b.is })

same_devices : {A : Type 0} (state : SlotState) (m n : Memory) (x y : List DeviceState) (reply : Reply A) → m ≡ n
    → x ≡ y → replies (with_devices state m x) reply ≡ replies (with_devices state n y) reply
same_devices state m n x y reply p q = rw (p, q) refl

once_by : {A : Type 0} (n : ℕ) (what : DeviceEvent A) (state : SlotState) (found : Option (Reply A))
    (h k l : Health) (one other : Outcome A) → GivesByDevice found n what state h k one
    → GivesByDevice found n what state h l other → one ≡ other
once_by n what state None h k l one other a b = a.alike ∙ sym b.alike
once_by n what state (Some reply) h k l one other a b =
    let same = alters_once what n state.memory one.state.memory other.state.memory state.devices one.state.devices
    other.state.devices a.at b.at in
    a.is ∙ same_devices state one.state.memory other.state.memory one.state.devices other.state.devices reply same.0
    same.1 ∙ sym b.is

pub device_once : {A : Type 0} (n : ℕ) (what : DeviceEvent A) (state : SlotState) (h k l : Health)
    (one other : Outcome A) → GivesDevice n what state h k one → GivesDevice n what state h l other → one ≡ other
device_once n what state h k l one other a b = once_by n what state (reply_at n what state) h k l one other a b

-- ---- what the calls answer is it

read_at : (A : Type 0) (n offset width value : ℕ) (state : SlotState) (health : Health) (found : Option DeviceState)
    → slice_get state.devices n ≡ found → option_map (register_of offset width) found ≡ Some value
    → GivesByDevice {A = A} (option_and_then (device_reply (Read offset width)) found) n (Read offset width) state
    health health (replies state (Value value))
read_at A n offset width value state health None there is = absurd (cc)
read_at A n offset width value state health (Some d) there is = record {
  at = record {
    before = d;
    after = d;
    there = there;
    changes = record { memory = refl; device = refl };
    is = sym (set_same state.devices n d d there refl);
  };
  is = ap (λ (v : ℕ). replies {A = A} state (Value v)) (sym (same_Some (register_of offset width d) value is));
  image = refl;
}

pub read_given : (A : Type 0) (n offset width value : ℕ) (state : SlotState) (health : Health)
    → Some value ≡ option_map (register_of offset width) (slice_get state.devices n)
    → GivesDevice {A = A} n (Read offset width) state health health (replies state (Value value))
read_given A n offset width value state health is =
    read_at A n offset width value state health (slice_get state.devices n) refl (sym is)

-- ---- a busy answer and an idle one change nothing

set_back : {A : Type 0} (state : SlotState) (outcome : Outcome A) (reply : Reply A)
    → outcome ≡ replies (with_devices state outcome.state.memory outcome.state.devices) reply
    → AreSet state.devices state.memory outcome.state.memory outcome.state.devices → outcome ≡ replies state reply
set_back state outcome reply is set =
    is ∙ same_devices state outcome.state.memory state.memory outcome.state.devices state.devices reply set.memory
    set.devices

-- a write that is told to wait does
write_waits : {A : Type 0} (offset width value : ℕ) (found : Option DeviceState)
    → option_and_then (device_reply {A = A} (Write offset width value)) found ≡ Some Busy
    → option_map_or (waits_at offset) found false ≡ true
write_waits offset width value None is = absurd (cc)
write_waits {A} offset width value (Some d) is = by_wait (waits_at offset d) is
  where
    by_wait : (waits : Bool) → ◌≡◌ {A = Option (Reply A)} (Some (if waits then Busy else Done)) (Some Busy)
        → waits ≡ true
    by_wait true is = refl
    by_wait false is = absurd (cc is)

-- and what the host is told that there is nothing to do for has no effect
no_effect : {A : Type 0} (found : Option Bool) → ◌≡◌ {A = Option (Reply A)} (option_map told_reply found) (Some Idle)
    → unwrap_or found false ≡ false
no_effect None is = absurd (cc)
no_effect (Some true) is = absurd (cc)
no_effect (Some false) is = refl

busy_at : {A : Type 0} (n : ℕ) (what : DeviceEvent A) (state : SlotState) (outcome : Outcome A)
    → reply_at n what state ≡ Some Busy
    → DoesTo what n state.memory outcome.state.memory state.devices outcome.state.devices
    → AreSet state.devices state.memory outcome.state.memory outcome.state.devices
    × (waits_for_disk what n state.devices ≡ true)
busy_at {A} n (Write offset width value) state outcome is does =
    let waits = write_waits {A = A} offset width value (slice_get state.devices n) is in
    (rw waits at does, waits)
busy_at n what state outcome is does = absurd (never_waiting n what state is)
  where
    never_waiting : {A : Type 0} (n : ℕ) (what : DeviceEvent A) (state : SlotState)
        → reply_at n what state ≡ Some Busy → MayReplyDevice what Busy
    never_waiting n what state is = reply_may n what state Busy is

idle_at : {A : Type 0} (n : ℕ) (what : DeviceEvent A) (state : SlotState) (outcome : Outcome A)
    → reply_at n what state ≡ Some Idle
    → DoesTo what n state.memory outcome.state.memory state.devices outcome.state.devices
    → AreSet state.devices state.memory outcome.state.memory outcome.state.devices
idle_at {A} n (Host said) state outcome is does =
    rw (no_effect {A = A} (has_effect_at n said state.devices) is) at does
idle_at n what state outcome is does = absurd (reply_may n what state Idle is)

pub device_busy : {A : Type 0} (n : ℕ) (what : DeviceEvent A) (state : SlotState) (before after : Health)
    (outcome : Outcome A) → GivesDevice n what state before after outcome → outcome.reply ≡ Busy
    → (outcome ≡ replies state Busy) × (waits_for_disk what n state.devices ≡ true)
device_busy {A} n what state before after outcome h =
    of_device n what state
    (λ (o : Outcome A). o.reply ≡ Busy → (o ≡ replies state Busy) × (waits_for_disk what n state.devices ≡ true))
    before after outcome h (λ is. absurd (cc is)) (λ reply found step is.
    let told : reply ≡ Busy = sym (ap (λ (o : Outcome A). o.reply) step.is) ∙ is in
    let still = busy_at n what state outcome (found ∙ ap (λ (r : Reply A). Some r) told) step.at in (
      set_back state outcome Busy (step.is ∙ ap (λ (r : Reply A).
          replies (with_devices state outcome.state.memory outcome.state.devices) r) told) still.0,
      still.1,
    ))

pub device_idle : {A : Type 0} (n : ℕ) (what : DeviceEvent A) (state : SlotState) (before after : Health)
    (outcome : Outcome A) → GivesDevice n what state before after outcome → outcome.reply ≡ Idle
    → outcome ≡ replies state Idle
device_idle {A} n what state before after outcome h =
    of_device n what state (λ (o : Outcome A). o.reply ≡ Idle → o ≡ replies state Idle)
    before after outcome h (λ is. absurd (cc is)) (λ reply found step is.
    let told : reply ≡ Idle = sym (ap (λ (o : Outcome A). o.reply) step.is) ∙ is in
    let still = idle_at n what state outcome (found ∙ ap (λ (r : Reply A). Some r) told) step.at in
    set_back state outcome Idle (step.is ∙ ap (λ (r : Reply A).
    replies (with_devices state outcome.state.memory outcome.state.devices) r) told) still)

-- a write that may wait may stop a queue
waiting_stops : (offset : ℕ) (model : ModelState) → must_wait offset model ≡ true → may_stop_queues offset ≡ true
waiting_stops offset (Block disk) waits = both_true (is_any disk.tags) (may_stop_queues offset) waits
  where
    both_true : (any stops : Bool) → (any && stops) ≡ true → stops ≡ true
    both_true true stops is = is
    both_true false stops is = absurd (cc is)
waiting_stops offset (Entropy pool) waits = absurd (cc waits)
waiting_stops offset (Network card) waits = absurd (cc waits)
waiting_stops offset (Image disk) waits = absurd (cc waits)
waiting_stops offset (Console terminal) waits = absurd (cc waits)

pub device_may_wait : {A : Type 0} (n : ℕ) (what : DeviceEvent A) (devices : List DeviceState)
    → waits_for_disk what n devices ≡ true → may_wait_there what ≡ true
device_may_wait n (Write offset width value) devices waits = by_found (slice_get devices n) waits
  where
    by_found : (found : Option DeviceState) → option_map_or (waits_at offset) found false ≡ true
        → may_stop_queues offset ≡ true
    by_found None waits = absurd (cc waits)
    by_found (Some d) waits = waiting_stops offset d.model waits
device_may_wait n _ devices waits = absurd (cc waits)

-- behind a drop nothing is in flight of the disk

pub freed_none : (tags : List (Option InFlight)) → is_any (freed tags) ≡ false
freed_none [] = refl
freed_none (tag ∷ tags) = freed_none tags

disk_in : (devices : List DeviceState) (n : ℕ) (d : DeviceState) → slice_get devices n ≡ Some d
    → disk_at n devices ≡ disk_of d.model
disk_in devices n d there = ap (λ found. option_and_then (λ (e : DeviceState). disk_of e.model) found) there

idle_disk : (found : Option HostedDisk) → option_map (has_effect Drop) found ≡ Some false
    → IfSome found (λ disk. is_any disk.tags ≡ false)
idle_disk None is = tt
idle_disk (Some disk) is = same_Some (is_any disk.tags) false is

-- what is there behind a drop of device n
drop_left : (effect : Option Bool) (n : ℕ) (m m' : Memory) (old new : List DeviceState)
    → option_map (has_effect Drop) (disk_at n old) ≡ effect
    → DoesIf (unwrap_or effect false) (Told Drop) n m m' old new → (found : Bool) → effect ≡ Some found
    → IfSome (disk_at n new) (λ disk. is_any disk.tags ≡ false)
drop_left None n m m' old new is does found there = absurd (cc there)
drop_left (Some false) n m m' old new is does found there =
    rw does.devices (idle_disk (disk_at n old) is)
drop_left (Some true) n m m' old new is does found there =
    let told = does.changes in
    let put : slice_get new n ≡ Some does.after =
    ap (λ (l : List DeviceState). slice_get l n) does.is ∙ get_set old n does.before does.after does.there in
    let disk : disk_at n new ≡ Some told.after = disk_in new n does.after put ∙ ap disk_of told.is in
    let tags : told.after.tags ≡ freed told.before.tags = ap (λ (q : HostedQueue). q.tags) told.does.queue in
    rw disk (ap is_any tags ∙ freed_none told.before.tags)

pub dropped_disk : {A : Type 0} (n : ℕ) (state : SlotState) (before after : Health) (outcome : Outcome A)
    → GivesDevice {A = A} n (Host Drop) state before after outcome
    → IfSome (disk_at n outcome.state.devices) (λ disk. is_any disk.tags ≡ false)
dropped_disk {A} n state before after outcome h = by_effect (has_effect_at n Drop state.devices) refl h
  where
    by_effect : (effect : Option Bool) → has_effect_at n Drop state.devices ≡ effect
        → GivesByDevice {A = A} (option_map told_reply effect) n (Host Drop) state before after outcome
        → IfSome (disk_at n outcome.state.devices) (λ disk. is_any disk.tags ≡ false)
    by_effect None is h =
        rw (ap (λ (o : Outcome A). o.state.devices) h.alike) (no_disk (disk_at n state.devices) is)
      where
        no_disk : (found : Option HostedDisk) → option_map (has_effect Drop) found ≡ None
            → IfSome found (λ disk. is_any disk.tags ≡ false)
        no_disk None is = tt
        no_disk (Some disk) is = absurd (cc is)
    by_effect (Some found) is h =
        drop_left (Some found) n state.memory outcome.state.memory state.devices outcome.state.devices is
        (rw is at h.at) found refl
