-- What an event of a slot comes to by who has its disk.
use Rattle.std.proofs.Common.{◌≡◌, ◌≢◌, ◌⊎◌, inl, inr, ℕ, zero, Bool, true, false, Option, Some, None, List, [], refl, sym, ap, subst, append-nil}
use Rattle.std.specs.Prelude.{◌&&◌, ◌||◌, if◌then◌else◌, IfErr, IsSome, OnErr, OnOk, Ok, Err, Result, is_some}
use Rattle.chain.specs.declared.budget.Budget.{Budget}
use Rattle.block_device.specs.Tags.{is_any}
use Rattle.board.specs.declared.event.SlotWindow.{SlotWindow}
use Rattle.board.specs.declared.event.SlotWindow.TheVariants.{Block}
use Rattle.board.specs.declared.event.EventKind.{EventKind}
use Rattle.block_device.specs.declared.operation.HostEvent.{HostEvent}
use Rattle.board.specs.declared.event.DeviceEvent.{DeviceEvent}
use Rattle.board.specs.declared.event.EventKind.TheVariants.{Write, Input, Restore, Host, Device}
use Rattle.board.specs.declared.pause.Pause.{Pause}
use Rattle.board.specs.declared.pause.Service.{Service}
use Rattle.mmio_window.specs.declared.stage.Stage.TheVariants.{First, Next}
use Rattle.board.specs.declared.pause.Turn.{Turn}
use Rattle.board.specs.declared.pause.Turn.TheVariants.{Answered, More}
use Rattle.board.specs.declared.reply.Reply.{Reply}
use Rattle.board.specs.declared.reply.Reply.TheVariants.{Busy, NoMemory}
use Rattle.hosted_disk.specs.Disk.{HostedDisk}
use Rattle.board.specs.Backing.{tags_in}
use Rattle.board.specs.Hosting.{HostGives, HostOrGives, LooksAtQueue, OwnGives, has_part, is_block_task, must_wait, notifies_block, told_in, waits_now}
use Rattle.board.specs.Image.{Health, sectors_of}
use Rattle.board.specs.Outcome.{Outcome, does, replies}
use Rattle.board.specs.Pausing.{Begins, BeginsOverImage, ComesTo, GoesOn, GoesOnBy, PausesByLimit, ServesTurn, TurnsTo, asked_over_image, input_service, is_hosts, readied, reply_of}
use Rattle.board.specs.declared.pause.Service.TheVariants as service
use Rattle.board.specs.Machine.{action_at, task_at, with_input}
use Rattle.board.specs.Quiet.{BeginsAtDevice, BeginsQuietly}
use Rattle.board.specs.Devices.{TakesMemoryFor}
use Rattle.board.specs.InPlace.{done_in}
use Rattle.board.specs.declared.in_place.DeviceInPlace.{DeviceInPlace}
use Rattle.board.specs.declared.in_place.DeviceInPlace.TheVariants as slice
use Rattle.board.specs.Restoring.{refusal_of, restore_reply, taken_up_reply}
use Rattle.board.specs.Saved.{IsCauseOf, IsRestored}
use Rattle.board.specs.declared.saved.RestoreFault.{RestoreFault}
use Rattle.board.specs.declared.saved.RestoreRefusal.{RestoreRefusal}
use Rattle.board.specs.declared.saved.RestoreRefusal.TheVariants as refusal
use Rattle.board.specs.Slot.{KeepsPlace, BoardSlot, SlotState, state_of}
use Rattle.device_list.specs.List.{are_at_work}
use Rattle.board.proofs.Restoring.{restore_given, restore_waits}
use Rattle.board.specs.Task.{Task, PutOut, Serve, task_of}
use Rattle.mmio_window.specs.declared.action.Action.{Action}
use Rattle.mmio_window.specs.declared.action.Action.TheVariants as action
use Rattle.board.specs.Within.{BeginsWithin, BeginsWithinOverImage, TakesWithin, TurnWithin}
use Rattle.board.specs.World.{MayGive, MayGiveBy, MayGiveOverImage}
use Rattle.board.proofs.OnHost.{passes_by, turns_as}
use Rattle.board.proofs.Ways.{must_by}

-- ---- whether the host has a part in it

pub no_host : {A : Type 0} (host : Option HostedDisk) (what : EventKind A) (state : SlotState) → host ≡ None
    → has_part host what state ≡ false
no_host None what state is = refl
no_host (Some disk) what state is = absurd (cc)

-- it has in what the host says, in what waits, and in a notification of the block device
pub part_by_host : {A : Type 0} (host : Option HostedDisk) (what : EventKind A) (state : SlotState)
    (said : HostEvent) → IsSome host → told_in what ≡ Some said → has_part host what state ≡ true
part_by_host None what state said hosted is = absurd (cc)
part_by_host (Some disk) what state said hosted is = rw is refl

waits_by : (v waits rings : Bool) → waits ≡ true → (v || (waits || rings)) ≡ true
waits_by true waits rings is = refl
waits_by false true rings is = refl
waits_by false false rings is = absurd (cc)

rings_by : (v waits rings : Bool) → rings ≡ true → (v || (waits || rings)) ≡ true
rings_by true waits rings is = refl
rings_by false true rings is = refl
rings_by false false true is = refl
rings_by false false false is = absurd (cc)

part_waiting : {A : Type 0} (host : Option HostedDisk) (what : EventKind A) (state : SlotState) → IsSome host
    → waits_now what state.host ≡ true → has_part host what state ≡ true
part_waiting None what state hosted waits = absurd (cc)
part_waiting (Some disk) what state hosted waits =
    waits_by (is_some (told_in what)) (waits_now what state.host) (notifies_block what state) waits

-- only a disk of its own has what is in flight
pub waits_hosted : {A : Type 0} (what : EventKind A) (host : Option HostedDisk) → waits_now what host ≡ true
    → IsSome host
waits_hosted what None waits = absurd (cc waits)
waits_hosted what (Some disk) waits = refl

pub part_by_wait : {A : Type 0} (what : EventKind A) (state : SlotState) → waits_now what state.host ≡ true
    → has_part state.host what state ≡ true
part_by_wait what state waits = part_waiting state.host what state (waits_hosted what state.host waits) waits

pub part_by_ring : {A : Type 0} (host : Option HostedDisk) (what : EventKind A) (state : SlotState)
    → IsSome host → notifies_block what state ≡ true → has_part host what state ≡ true
part_by_ring None what state hosted rings = absurd (cc)
part_by_ring (Some disk) what state hosted rings =
    rings_by (is_some (told_in what)) (waits_now what state.host) (notifies_block what state) rings

pub no_part : {A : Type 0} (host : Option HostedDisk) (what : EventKind A) (state : SlotState)
    → told_in what ≡ None → waits_now what state.host ≡ false
    → notifies_block what state ≡ false → has_part host what state ≡ false
no_part None what state own free quiet = refl
no_part (Some disk) what state own free quiet = rw (own, free, quiet) refl

pub no_wait : (b : Bool) → (b && false) ≡ false
no_wait true = refl
no_wait false = refl

-- in what is typed it has none
pub input_passes : (A : Type 0) (host : Option HostedDisk) (bytes : List ℕ) (state : SlotState)
    → has_part {A = A} host (Input bytes) state ≡ false
input_passes A host bytes state =
    no_part {A = A} host (Input bytes) state refl (no_wait (is_any (tags_in state.host))) refl

-- of a slot of which only memory and devices change the sectors lie where they did
place_of : (old new : BoardSlot) → new ≡ record old { memory = new.memory; devices = new.devices } → KeepsPlace old new
place_of old new rest = (ap (λ (s : BoardSlot). s.extent) rest, ap (λ (s : BoardSlot). s.spare) rest)

-- a service of the console goes on as over an image
pub goes_on : (host : Option HostedDisk) (which : Service) → which ≢ service.Block
    → is_hosts host which ≡ false
goes_on None which other = refl
goes_on (Some disk) service.Block other = absurd (other refl)
goes_on (Some disk) service.Receive other = refl
goes_on (Some disk) service.Transmit other = refl
goes_on (Some disk) (service.Further n q) other = refl

pub serves_on : {A : Type 0} (pause : Pause) (budget : Budget) (state : SlotState) (before after : Health)
    (new : SlotState) (turn : Turn A) (out out' : List ℕ) → is_hosts state.host pause.service ≡ false
    → ServesTurn (ComesTo pause Next budget) state before after new turn out out'
    → ServesTurn (GoesOn pause budget) state before after new turn out out'
serves_on pause budget state before after new turn out out' is h = record {
  output = h.output;
  comes = subst (λ (b : Bool). GoesOnBy b pause budget state before after new h.output turn) (sym is) h.comes;
  appended = h.appended;
}

-- ---- it has none

-- what a turn comes to over an image that stays as it is
pub begins_passing : {A : Type 0} (what : EventKind A) (budget : Budget) (state : SlotState)
    (health : Health) (new : SlotState) (output : List ℕ) (turn : Turn A)
    → has_part state.host what state ≡ false
    → BeginsOverImage what budget state health health new output turn
    → Begins what budget state health health new output turn
begins_passing {A} what budget state health new output turn free h =
    let passing = turns_as (λ (o : Outcome A). MayGiveOverImage state what health health o)
    (λ (o : Outcome A). MayGive state what health health o)
    (λ o given. passes_by state.host state what health o free given) (asked_over_image what state) what budget
    state health health new output turn h in
    subst (λ (b : Bool). TurnsTo (λ (o : Outcome A). MayGive state what health health o)
    (if b then None else asked_over_image what state) what budget state health health new output turn)
    (sym free) passing

-- no limit
abbrev pub unlimited : Budget
unlimited = record { chains = None; bytes = None }

-- so what is done to a further device begins, whoever has the slot's disk
pub device_begins : {A : Type 0} (n : ℕ) (what : DeviceEvent A) (budget : Budget) (old new : BoardSlot) (turn : Turn A)
    → turn ≢ Answered NoMemory → BeginsAtDevice n what budget old new turn
    → BeginsQuietly old (Device n what) budget new turn
device_begins n what budget old new turn answered does = record {
  begins = λ image health.
      begins_passing (Device n what) budget (state_of image old) health (state_of image new) [] turn
      (no_part old.host (Device n what) (state_of image old) refl (no_wait (is_any (tags_in old.host))) refl)
      (does.begins image health);
  place = place_of old new does.rest;
  disturbed = ap (λ (s : BoardSlot). s.disturbed) does.rest;
  limited = does.limited;
  there = does.there;
  in_range = does.in_range;
  answered = answered;
}

-- what is done to a device in a slice takes no memory
pub takes_none : (A : Type 0) (n : ℕ) (what : DeviceInPlace) (state : SlotState) → TakesMemoryFor {A = A} n (done_in what) state
    → ⊥
takes_none A n (slice.Write offset width value) state h = h
takes_none A n (slice.Supply bytes) state h = h
takes_none A n slice.DropSent state h = h
takes_none A n (slice.Receive frame) state h = h

-- and what is typed
pub input_begins : {A : Type 0} (bytes : List ℕ) (budget : Budget) (old new : BoardSlot) (turn : Turn A)
    → ((image : List ℕ) (health : Health) → ComesTo (input_service old.pending bytes) First budget
    (with_input bytes (state_of image old)) health health (state_of image new) [] turn)
    → new ≡ record old { memory = new.memory; console = new.console; pending = new.pending }
    → PausesByLimit budget turn
    → (turn ≡ More (input_service old.pending bytes)) ⊎ (turn ≡ Answered (reply_of (input_service old.pending bytes)))
    → BeginsQuietly old (Input bytes) budget new turn
input_begins {A} bytes budget old new turn comes rest limited took = record {
  begins = λ image health.
      begins_passing (Input bytes) budget (state_of image old) health (state_of image new) [] turn
      (input_passes A old.host bytes (state_of image old)) (comes image health);
  place = (ap (λ (s : BoardSlot). s.extent) rest, ap (λ (s : BoardSlot). s.spare) rest);
  disturbed = ap (λ (s : BoardSlot). s.disturbed) rest;
  limited = limited;
  there = λ bad. elim took [ inl is ↦ absurd (cc (is, bad)) | inr is ↦ absurd (cc (is, bad)) ];
  in_range = λ bad. elim took [ inl is ↦ absurd (cc (is, bad)) | inr is ↦ absurd (cc (is, bad)) ];
  answered = λ lacks. elim took [ inl is ↦ absurd (cc (is, lacks)) | inr is ↦ absurd (cc (is, lacks)) ];
}

pub serves_passing : {A : Type 0} (what : EventKind A) (budget : Budget) (state : SlotState)
    (health : Health) (new : SlotState) (turn : Turn A) (out out' : List ℕ)
    → has_part state.host what state ≡ false
    → ServesTurn (BeginsOverImage what budget) state health health new turn out out'
    → ServesTurn (Begins what budget) state health health new turn out out'
serves_passing what budget state health new turn out out' free h = record {
  output = h.output;
  comes = begins_passing what budget state health new h.output turn free h.comes;
  appended = h.appended;
}

-- and over an image that serves it
pub serves_image : {A : Type 0} (what : EventKind A) (budget : Budget) (state : SlotState)
    (before after : Health) (new : SlotState) (turn : Turn A) (out out' : List ℕ) → state.host ≡ None
    → ServesTurn (BeginsOverImage what budget) state before after new turn out out'
    → ServesTurn (Begins what budget) state before after new turn out out'
serves_image {A} what budget state before after new turn out out' none h = record {
  output = h.output;
  comes =
      subst (λ (b : Bool). TurnsTo (λ (o : Outcome A). MayGive state what before after o)
      (if b then None else asked_over_image what state) what budget state before after new h.output turn)
      (sym (no_host state.host what state none))
      (turns_as (λ (o : Outcome A). MayGiveOverImage state what before after o)
      (λ (o : Outcome A). MayGive state what before after o)
      (λ o given. subst (λ (k : Option HostedDisk). MayGiveBy k state what before after o) (sym none) given)
      (asked_over_image what state) what budget state before after new h.output turn h.comes);
  appended = h.appended;
}

pub within_passing : {A : Type 0} (limit : ℕ) (what : EventKind A) (budget : Budget)
    (state new : SlotState) (waiting left : List ℕ) (turn : Turn A) → has_part state.host what state ≡ false
    → BeginsWithinOverImage limit what budget state new waiting left turn
    → BeginsWithin limit what budget state new waiting left turn
within_passing limit what budget state new waiting left turn free h =
    subst (λ (b : Bool). TurnWithin limit (if b then None else asked_over_image what state) what budget state new
    waiting left turn) (sym free) h

-- ---- it has one

pub serves_part : {A : Type 0} (what : EventKind A) (budget : Budget) (state : SlotState) (health : Health)
    (new : SlotState) (reply : Reply A) (out : List ℕ) → has_part state.host what state ≡ true
    → MayGive state what health health (replies new reply)
    → ServesTurn (Begins what budget) state health health new (Answered reply) out out
serves_part {A} what budget state health new reply out part given = record {
  output = [];
  comes =
      subst (λ (b : Bool). TurnsTo (λ (o : Outcome A). MayGive state what health health o)
      (if b then None else asked_over_image what state) what budget state health health new []
      (Answered reply)) (sym part) given;
  appended = sym (append-nil out);
}

pub within_part : {A : Type 0} (limit : ℕ) (what : EventKind A) (budget : Budget) (state new : SlotState)
    (waiting left : List ℕ) (reply : Reply A) → has_part state.host what state ≡ true
    → TakesWithin limit state what new waiting left reply
    → BeginsWithin limit what budget state new waiting left (Answered reply)
within_part limit what budget state new waiting left reply part h =
    subst (λ (b : Bool). TurnWithin limit (if b then None else asked_over_image what state) what budget state new
    waiting left (Answered reply)) (sym part) h

-- a write to the block window asks for no service of the console, and puts nothing out
block_asks : (act : Action) → task_of Block act ≡ Serve service.Transmit → ⊥
block_asks (action.Notify zero) is = absurd (cc)
block_asks _ is = absurd (cc)

block_puts : (act : Action) (byte : ℕ) → task_of Block act ≡ PutOut byte → ⊥
block_puts (action.Notify zero) byte is = absurd (cc)
block_puts _ byte is = absurd (cc)

-- what the host has a part in puts nothing out
silent_write : {A : Type 0} (limit : ℕ) (state new : SlotState) (offset width value : ℕ) (waiting : List ℕ)
    (reply : Reply A) (task : Task) → task_at Block offset width value state ≡ task
    → TakesWithin limit state (Write Block offset width value) new waiting waiting reply
silent_write limit state new offset width value waiting reply (Serve service.Transmit) is =
    absurd (block_asks (action_at Block offset width value state) is)
silent_write limit state new offset width value waiting reply (PutOut byte) is =
    absurd (block_puts (action_at Block offset width value state) byte is)
silent_write limit state new offset width value waiting reply _ is = rw is tt

ring_silent : {A : Type 0} (limit : ℕ) (state new : SlotState) (window : SlotWindow) (offset width value : ℕ)
    (waiting : List ℕ) (reply : Reply A) (task : Task) → task_at window offset width value state ≡ task
    → is_block_task task ≡ true
    → TakesWithin limit state (Write window offset width value) new waiting waiting reply
ring_silent limit state new window offset width value waiting reply (Serve service.Block) is rings = rw is tt
ring_silent limit state new window offset width value waiting reply _ is rings = absurd (cc)

pub waiting_silent : {A : Type 0} (limit : ℕ) (state new : SlotState) (what : EventKind A)
    (waiting : List ℕ) (reply : Reply A) → must_wait what ≡ true
    → TakesWithin limit state what new waiting waiting reply
waiting_silent limit state new (Write Block offset width value) waiting reply waits =
    silent_write limit state new offset width value waiting reply (task_at Block offset width value state) refl
waiting_silent limit state new (Restore bytes) waiting reply waits = tt
waiting_silent limit state new _ waiting reply waits = absurd (cc)

pub ringing_silent : {A : Type 0} (limit : ℕ) (state new : SlotState) (what : EventKind A)
    (waiting : List ℕ) (reply : Reply A) → notifies_block what state ≡ true
    → TakesWithin limit state what new waiting waiting reply
ringing_silent limit state new (Write window offset width value) waiting reply rings =
    ring_silent limit state new window offset width value waiting reply
    (task_at window offset width value state) refl rings
ringing_silent limit state new _ waiting reply rings = absurd (cc)

-- ---- what comes of it

given_at : {A : Type 0} (host : Option HostedDisk) (state : SlotState) (what : EventKind A) (health : Health)
    (outcome : Outcome A) → IsSome host
    → HostOrGives (λ (o : Outcome A). MayGiveOverImage state what health health o) (told_in what) state what
    outcome
    → MayGiveBy host state what health health outcome
given_at None state what health outcome hosted h = absurd (cc)
given_at (Some disk) state what health outcome hosted h = record { gives = h; image = refl }

pub told_given : {A : Type 0} (state : SlotState) (said : HostEvent) (health : Health) (outcome : Outcome A)
    → IsSome state.host → HostGives said state outcome → MayGive state (Host said) health health outcome
told_given state said health outcome hosted h =
    given_at state.host state (Host said) health outcome hosted h

-- only an own event waits, or notifies the block device
pub waiting_own : {A : Type 0} (what : EventKind A) → must_wait what ≡ true → told_in what ≡ None
waiting_own (Host said) waits = absurd (cc)
waiting_own _ waits = refl

pub ringing_own : {A : Type 0} (what : EventKind A) (state : SlotState) → notifies_block what state ≡ true
    → told_in what ≡ None
ringing_own (Host said) state rings = absurd (cc)
ringing_own _ state rings = refl

own_given : {A : Type 0} (state : SlotState) (what : EventKind A) (health : Health) (outcome : Outcome A)
    → IsSome state.host → told_in what ≡ None
    → OwnGives (λ (o : Outcome A). MayGiveOverImage state what health health o) (waits_now what state.host) state
    what outcome
    → MayGive state what health health outcome
own_given {A} state what health outcome hosted own h =
    given_at state.host state what health outcome hosted (rw own h)

pub busy_given : {A : Type 0} (state : SlotState) (what : EventKind A) (health : Health)
    → waits_now what state.host ≡ true → MayGive state what health health (replies state Busy)
busy_given {A} state what health waits =
    own_given state what health (replies state Busy) (waits_hosted what state.host waits)
    (waiting_own what (must_by (is_any (tags_in state.host)) (must_wait what) waits)) (rw waits refl)

looks_given : {A : Type 0} (state : SlotState) (what : EventKind A) (health : Health) (new : SlotState)
    → IsSome state.host → waits_now what state.host ≡ false → notifies_block what state ≡ true
    → LooksAtQueue (readied what state) new → MayGive state what health health (does new)
looks_given {A} state what health new hosted free rings h =
    own_given state what health (does new) hosted (ringing_own what state rings) (rw (free, rings) (h, refl))

-- an event by which the host says nothing is the guest's own
pub own_of : {A : Type 0} (what : EventKind A)
    → ((said : HostEvent) → what ≡ Host said → ⊥) → told_in what ≡ None
own_of (Host said) never = absurd (never said refl)
own_of _ never = refl

-- a notification, behind its write
pub notified_given : {A : Type 0} (state mid new : SlotState) (what : EventKind A) (health : Health)
    → IsSome state.host → waits_now what state.host ≡ false
    → notifies_block what state ≡ true → mid ≡ readied what state → LooksAtQueue mid new
    → MayGive state what health health (does new)
notified_given state mid new what health hosted free rings ready looks =
    looks_given state what health new hosted free rings
    (subst (λ (s : SlotState). LooksAtQueue s new) ready looks)

-- where the host has no disk
pub not_hosted : (host : Option HostedDisk) → is_some host ≡ false → host ≡ None
not_hosted None is = refl
not_hosted (Some disk) is = absurd (cc)

-- ---- a restore

same_reply : (A : Type 0) (r : Result (Unit {0}) RestoreFault)
    → restore_reply {A = A} (refusal_of r) ≡ taken_up_reply r
same_reply A (Ok done) = refl
same_reply A (Err why) = refl

pub restore_passes : (A : Type 0) (image : List ℕ) (slot new : BoardSlot) (bytes : List ℕ)
    (r : Result (Unit {0}) RestoreFault) (said : Result (Unit {0}) RestoreRefusal) (health : Health)
    → is_any (tags_in slot.host) ≡ false → are_at_work slot.devices ≡ false → said ≡ refusal_of r
    → sectors_of (state_of image slot).extent ≡ slot.extent.count
    → OnOk r (IsRestored slot bytes new) → IfErr r (IsCauseOf slot bytes) → OnErr r (new ≡ slot)
    → MayGive {A = A} (state_of image slot) (Restore bytes) health health
    (replies (state_of image new) (restore_reply said))
restore_passes A image slot new bytes r said health rests idle is filled ok fault kept =
    let state = state_of image slot in
    rw (is, same_reply A r)
    (passes_by state.host state (Restore bytes) health (replies (state_of image new) (taken_up_reply r))
    (no_part {A = A} state.host (Restore bytes) state refl (rw rests refl) refl)
    (restore_given A image slot new bytes r health idle filled ok fault kept))

-- it takes no memory
pub restore_answered : (A : Type 0) (said : Result (Unit {0}) RestoreRefusal)
    → restore_reply {A = A} said ≢ NoMemory
restore_answered A (Ok done) lacks = absurd (cc (lacks))
restore_answered A (Err refusal.BadSlot) lacks = absurd (cc (lacks))
restore_answered A (Err refusal.Busy) lacks = absurd (cc (lacks))
restore_answered A (Err (refusal.Fault why)) lacks = absurd (cc (lacks))

-- while something is in flight of any disk it waits
pub restore_busy : (A : Type 0) (state : SlotState) (bytes : List ℕ) (health : Health)
    → (is_any (tags_in state.host) || are_at_work state.devices) ≡ true
    → MayGive {A = A} state (Restore bytes) health health (replies state Busy)
restore_busy A state bytes health works = by_own (is_any (tags_in state.host)) refl works
  where
    by_own : (any : Bool) → is_any (tags_in state.host) ≡ any → (any || are_at_work state.devices) ≡ true
        → MayGive {A = A} state (Restore bytes) health health (replies state Busy)
    by_own true some works = busy_given {A = A} state (Restore bytes) health (rw some refl)
    by_own false none works =
        passes_by state.host state (Restore bytes) health (replies state Busy)
        (no_part {A = A} state.host (Restore bytes) state refl (rw none refl) refl)
        (restore_waits A state bytes health works)

-- neither part of it does
pub both_idle : (own further : Bool) → (own || further) ≡ false → (own ≡ false) × (further ≡ false)
both_idle true further none = absurd (cc none)
both_idle false further none = (refl, none)
