-- What waits for what is in flight, and what doesn't end it.
use Rattle.std.proofs.Common.{◌≡◌, ◌≢◌, ℕ, Bool, true, false, Option, Some, None, get_or, sym, ◌∙◌, ap, refl, subst}
use Rattle.std.specs.Prelude.{◌||◌}
use Rattle.std.specs.Option.{option_and_then}
use Rattle.block_device.specs.declared.device.BlockDevice.{BlockDevice}
use Rattle.block_device.specs.declared.operation.HostEvent.{HostEvent}
use Rattle.block_device.specs.Flights.{HostedQueue, InFlight}
use Rattle.block_device.specs.Tags.{is_any}
use Rattle.hosted_disk.specs.Told.{QueueTold}
use Rattle.board.specs.declared.event.EventKind.{EventKind}
use Rattle.board.specs.declared.event.EventKind.TheVariants.{Restore, Device}
use Rattle.block_device.specs.declared.operation.HostEvent.TheVariants.{Complete, Drop, Hold, Release}
use Rattle.block_device.specs.declared.operation.Verdict.{Verdict}
use Rattle.board.specs.declared.reply.Reply.TheVariants.{Busy, Idle}
use Rattle.hosted_disk.specs.Disk.{HostedDisk, queue_of}
use Rattle.board.specs.Backing.{tags_in}
use Rattle.board.specs.HostedDisks.{LeavesTagOf, said_of}
use Rattle.board.specs.Units.{SlotDisk, disk_for, in_flight_of}
use Rattle.board.specs.Hosting.{must_wait, tag_of, waits_now}
use Rattle.board.specs.Image.{Health}
use Rattle.board.specs.Outcome.{Outcome, replies}
use Rattle.board.specs.Slot.{SlotState}
use Rattle.board.specs.World.{MayGive, MayGiveBy, MayGiveOverImage}
use Rattle.board.proofs.Flights.{same_tags}
use Rattle.board.proofs.DiskSteps.{Comes, IsLooked, IsLookedTo, IsTold, Retakes, Stays, StepsTo, steps}
use Rattle.hosted_disk.proofs.Looking.{KeepsTag, keeps_tag, landing_keeps, look_left, unless_left, unless_to_left}
use Rattle.board.specs.Waiting.{may_wait, waits_beside}
use Rattle.board.proofs.FurtherDevices.{device_may_wait}
use Rattle.board.proofs.Replies.{busy_over_image, idle_over_image}
use Rattle.board.proofs.Ways.{Looks, Passes, Rests, Says, Waits, Way, by_disk, must_by}

-- ---- what doesn't end it

-- the completion is of another tag
other_tag : (found : Option HostEvent) (its : ℕ) (verdict : Verdict) (tag : ℕ)
    → found ≡ Some (Complete its verdict) → option_and_then tag_of found ≢ Some tag → tag ≢ its
other_tag found its verdict tag is other = λ same. other (ap (option_and_then tag_of) is ∙ ap Some (sym same))

-- what the host says leaves each other operation
word_keeps : (found : Option HostEvent) (said : HostEvent) (tag : ℕ) (device : BlockDevice) (on_hold : Bool)
    (q q' : HostedQueue) → found ≡ Some said → option_and_then tag_of found ≢ Some tag → found ≢ Some Drop
    → QueueTold said device on_hold q q' → KeepsTag tag q q'
word_keeps found (Complete its verdict) tag device on_hold q q' is other no_drop told = λ here taken.
    unless_left (KeepsTag tag) (keeps_tag tag) on_hold device told.landed q' told.looks here
    (landing_keeps tag its verdict q told.landed (other_tag found its verdict tag is other) told.lands here taken)
word_keeps found Drop tag device on_hold q q' is other no_drop told = absurd (no_drop is)
word_keeps found Hold tag device on_hold q q' is other no_drop told =
    subst (KeepsTag tag q) (sym told) (λ here taken. taken)
word_keeps found Release tag device on_hold q q' is other no_drop told =
    look_left (KeepsTag tag) (keeps_tag tag) device q q' told

module _ {A : Type 0} (disk : SlotDisk) (old : SlotState) (tag : ℕ) (here : InFlight) (what : EventKind A) where
  abbrev tag_in : Option HostedDisk → Option InFlight
  tag_in host = get_or (tags_in host) tag None

  pub outlasts_by : (new : SlotState) → get_or (in_flight_of disk old) tag None ≡ Some here → LeavesTagOf disk tag what
      → StepsTo disk what old new → get_or (in_flight_of disk new) tag None ≡ Some here
  outlasts_by new taken other (Stays same) = ap tag_in same ∙ taken
  outlasts_by new taken other (Retakes restores kept) =
      ap (λ l. get_or l tag None) (same_tags (disk_for disk old) (disk_for disk new) kept) ∙ taken
  outlasts_by new taken other (Comes none) =
      let clash : None ≡ Some here = sym (ap tag_in none) ∙ taken in
      absurd (cc clash)
  outlasts_by new taken other (IsLooked d after m m' w w' looks from to) =
      ap tag_in to
      ∙ unless_left (KeepsTag tag) (keeps_tag tag) d.on_hold d.device (queue_of m w d) (queue_of m' w' after) looks.looks
      here (sym (ap tag_in from) ∙ taken)
  outlasts_by new taken other (IsLookedTo stage budget progress d after m m' w w' looks from to) =
      ap tag_in to
      ∙ unless_to_left (KeepsTag tag) (keeps_tag tag) d.on_hold d.device stage budget progress (queue_of m w d)
      (queue_of m' w' after) looks.looks here (sym (ap tag_in from) ∙ taken)
  outlasts_by new taken other (IsTold said is d after m m' w w' told from to) =
      ap tag_in to
      ∙ word_keeps (said_of disk what) said tag d.device d.on_hold (queue_of m w d) (queue_of m' w' after) is other.other
      other.no_drop told.queue here
      (sym (ap tag_in from) ∙ taken)

  pub outlasts : (before after : Health) (outcome : Outcome A) → get_or (in_flight_of disk old) tag None ≡ Some here
      → LeavesTagOf disk tag what → MayGive old what before after outcome
      → get_or (in_flight_of disk outcome.state) tag None ≡ Some here
  outlasts before after outcome taken other h =
      outlasts_by outcome.state taken other (steps disk what old before after outcome h)

-- ---- what a busy answer says, and an idle one

-- whether an event waits for what is in flight of any disk
abbrev pub waits_for_any : {A : Type 0} → EventKind A → SlotState → Bool
waits_for_any what old = waits_now what old.host || waits_beside what old

-- the event waits for what is in flight, and nothing changes
pub record Waited {A : Type 0} (old : SlotState) (what : EventKind A) (outcome : Outcome A) : Type 0 where
  pub waits : waits_for_any what old ≡ true
  pub is : outcome ≡ replies old Busy

own_or : (own : Bool) → own ≡ true → (beside : Bool) → (own || beside) ≡ true
own_or true is beside = refl
own_or false is beside = absurd (cc is)

beside_or : (own beside : Bool) → beside ≡ true → (own || beside) ≡ true
beside_or true beside is = refl
beside_or false beside is = is

waited_by : {A : Type 0} (old : SlotState) (what : EventKind A) (before : Health) (outcome : Outcome A)
    → Way (λ (o : Outcome A). MayGiveOverImage old what before before o) old what outcome
    → outcome.reply ≡ Busy → Waited old what outcome
waited_by old what before outcome (Waits waits h) is =
    record { waits = own_or (waits_now what old.host) waits (waits_beside what old); is = h }
waited_by old what before outcome (Passes own free quiet h) is =
    let busy = busy_over_image old what before before outcome h is in
    record { waits = beside_or (waits_now what old.host) (waits_beside what old) busy.1.0; is = busy.0 }
waited_by old what before outcome (Looks rings looks h) is =
    let done = ap (λ o. o.reply) h in absurd (cc)
waited_by old what before outcome (Rests said tells h) is =
    let idle = ap (λ o. o.reply) h in absurd (cc)
waited_by old what before outcome (Says said tells says h) is =
    let done = ap (λ o. o.reply) h in absurd (cc)

-- and the image has no part in it
pub waited : {A : Type 0} (host : Option HostedDisk) (old : SlotState) (what : EventKind A) (before after : Health)
    (outcome : Outcome A) → MayGiveBy host old what before after outcome → outcome.reply ≡ Busy
    → Waited old what outcome × (after ≡ before)
waited {A} host old what before after outcome h is =
    by_disk host old what before after outcome
    (λ given. let busy = busy_over_image old what before after outcome given is in (
      record { waits = beside_or (waits_now what old.host) (waits_beside what old) busy.1.0; is = busy.0 },
      busy.1.1,
    ))
    (λ image ways. (waited_by old what before outcome ways is, image)) h

-- what waits may wait
beside_may : {A : Type 0} (what : EventKind A) (old : SlotState) → waits_beside what old ≡ true → may_wait what ≡ true
beside_may (Restore bytes) old waits = refl
beside_may (Device n what) old waits = device_may_wait n what old.devices waits
beside_may _ old waits = absurd (cc waits)

must_may : {A : Type 0} (what : EventKind A) → must_wait what ≡ true → may_wait what ≡ true
must_may (Device n what) must = absurd (cc must)
must_may _ must = must

may_by : {A : Type 0} (what : EventKind A) (old : SlotState) → waits_for_any what old ≡ true → may_wait what ≡ true
may_by what old waits = by_own (waits_now what old.host) refl waits
  where
    by_own : (own : Bool) → waits_now what old.host ≡ own → (own || waits_beside what old) ≡ true
        → may_wait what ≡ true
    by_own true is waits = must_may what (must_by (is_any (tags_in old.host)) (must_wait what) is)
    by_own false is waits = beside_may what old waits

pub busy_stays : {A : Type 0} (old : SlotState) (what : EventKind A) (before after : Health)
    (outcome : Outcome A) → MayGive old what before after outcome → outcome.reply ≡ Busy
    → (outcome.state ≡ old) × (may_wait what ≡ true)
busy_stays old what before after outcome h is =
    let found = (waited old.host old what before after outcome h is).0 in
    (ap (λ o. o.state) found.is, may_by what old found.waits)

rested_by : {A : Type 0} (old : SlotState) (what : EventKind A) (before : Health) (outcome : Outcome A)
    → Way (λ (o : Outcome A). MayGiveOverImage old what before before o) old what outcome
    → outcome.reply ≡ Idle → outcome ≡ replies old Idle
rested_by old what before outcome (Waits waits h) is =
    let busy = ap (λ o. o.reply) h in absurd (cc)
rested_by old what before outcome (Passes own free quiet h) is =
    (idle_over_image old what before before outcome h is).0
rested_by old what before outcome (Looks rings looks h) is =
    let done = ap (λ o. o.reply) h in absurd (cc)
rested_by old what before outcome (Rests said tells h) is = h
rested_by old what before outcome (Says said tells says h) is =
    let done = ap (λ o. o.reply) h in absurd (cc)

pub rested : {A : Type 0} (host : Option HostedDisk) (old : SlotState) (what : EventKind A) (before after : Health)
    (outcome : Outcome A) → MayGiveBy host old what before after outcome → outcome.reply ≡ Idle
    → (outcome ≡ replies old Idle) × (after ≡ before)
rested host old what before after outcome h is =
    by_disk host old what before after outcome (λ given. idle_over_image old what before after outcome given is)
    (λ image ways. (rested_by old what before outcome ways is, image)) h

pub idle_stays : {A : Type 0} (old : SlotState) (what : EventKind A) (before after : Health)
    (outcome : Outcome A) → MayGive old what before after outcome → outcome.reply ≡ Idle
    → outcome.state ≡ old
idle_stays old what before after outcome h is =
    ap (λ o. o.state) (rested old.host old what before after outcome h is).0
