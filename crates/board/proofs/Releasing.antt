-- A release makes up for a notification on hold, of each disk of a slot.
use Rattle.block_device.specs.declared.device.BlockDevice.{BlockDevice}
use Rattle.board.proofs.AtDevice.{image_found, write_of_other}
use Rattle.board.specs.ImageDisks.{GivesAtDevice, image_asked}
use Rattle.std.proofs.Common.{◌≡◌, inl, inr, ℕ, zero, ◌==◌, Bool, true, false, Option, Some, None, List, refl, sym, ◌∙◌, ap, subst}
use Rattle.std.specs.Prelude.{IsSome, if◌then◌else◌, not, slice_set, ◌&&◌}
use Rattle.std.specs.List.{slice_get}
use Rattle.std.specs.Option.{option_and_then, option_map, option_map_or}
use Rattle.std.proofs.lemmas.Bool.Decides.{eqb_tells}
use Rattle.std.proofs.lemmas.List.{set-set}
use Rattle.std.proofs.lemmas.Option.{same_Some}
use Rattle.guest_memory.specs.Memory.{Memory}
use Rattle.mmio_window.specs.declared.action.Action.{Action}
use Rattle.mmio_window.specs.declared.action.Action.TheVariants.{Notify}
use Rattle.mmio_window.specs.Window.{WindowState}
use Rattle.mmio_window.specs.Writing.{action_of, written}
use Rattle.block_device.specs.declared.operation.HostEvent.TheVariants.{Release}
use Rattle.block_device.specs.Flights.{HostedQueue}
use Rattle.block_device.specs.Tags.{is_any}
use Rattle.hosted_disk.specs.Disk.{HostedDisk, LooksAtQueue}
use Rattle.hosted_disk.specs.Told.{DoesAsTold, has_effect}
use Rattle.device_list.specs.Device.{DeviceState, ServesNotified, Writes, notified_by, taking}
use Rattle.device_list.specs.List.{At, waits_at}
use Rattle.device_list.specs.Model.{Block, Console, Entropy, Image, ModelState, Network, Serves, disk_of, must_wait}
use Rattle.board.specs.declared.event.DeviceEvent.{DeviceEvent}
use Rattle.board.specs.declared.event.DeviceEvent.TheVariants as device
use Rattle.board.specs.declared.event.EventKind.{EventKind}
use Rattle.board.specs.declared.event.SlotWindow.TheVariants.{Block as BlockWindow, Console as ConsoleWindow}
use Rattle.board.specs.declared.event.EventKind.TheVariants.{Device, Host, Write}
use Rattle.board.specs.declared.reply.Reply.{Reply}
use Rattle.board.specs.declared.reply.Reply.TheVariants.{Busy, Done}
use Rattle.board.specs.Backing.{held_disk, tags_in}
use Rattle.board.specs.Devices.{DoesIf, GivesByDevice, GivesDevice, device_reply, reply_at, waits_for_disk, waits_there}
use Rattle.board.specs.HostedDisks.{asks_service, held_so, held_unit, notifies_disk, notifies_there, saying, waits_for}
use Rattle.board.specs.Units.{DiskUnit, DoesAsSaid, DoesToDisk, Further, Own, SlotDisk, unit_at, unit_of, with_disk}
use Rattle.board.specs.Hosting.{OwnGives, notifies_block, waits_now}
use Rattle.board.specs.Image.{Health}
use Rattle.board.specs.Machine.{GivesBy, GivesOverImage, IsNext, at_rest, readied}
use Rattle.board.specs.Outcome.{Outcome, replies}
use Rattle.board.specs.Slot.{SlotState}
use Rattle.board.proofs.HostedDisks.{further_does}
use Rattle.board.proofs.Hosts.{ringing_own}
use Rattle.board.proofs.Identities.{readied_fixed}
use Rattle.board.proofs.OneHosted.{look_once}
use Rattle.board.proofs.Units.{behind_window, disk_there}
use Rattle.board.proofs.Ways.{told_says}
use Rattle.board.proofs.Lists.{get_set}

-- ---- where a disk was put

put_there : (disk : SlotDisk) (state : SlotState) (m : Memory) (unit : DiskUnit) → IsSome (unit_at disk state)
    → unit_at disk (record (with_disk disk unit state) { memory = m }) ≡ Some unit
put_there Own state m unit some = refl
put_there (Further n) state m unit some = by_device (slice_get state.devices n) refl some
  where
    device_put : DeviceState
    device_put = record { window = unit.window; model = Block unit.disk }

    by_device : (found : Option DeviceState) → slice_get state.devices n ≡ found → IsSome (option_and_then unit_of found)
        → option_and_then unit_of (slice_get (slice_set state.devices n device_put) n) ≡ Some unit
    by_device None is some = absurd (cc some)
    by_device (Some d) is some = ap (option_and_then unit_of) (get_set state.devices n d device_put is)

put_again : (disk : SlotDisk) (state : SlotState) (m n : Memory) (first other : DiskUnit)
    → ◌≡◌ {A = SlotState} (record (with_disk disk other (record (with_disk disk first state) { memory = m })) { memory = n })
    (record (with_disk disk other state) { memory = n })
put_again Own state m n first other = refl
put_again (Further k) state m n first other =
    ap (λ (l : List DeviceState). record state { memory = n; devices = l })
    (set-set state.devices k (record { window = first.window; model = Block first.disk })
    (record { window = other.window; model = Block other.disk }))

-- ---- what comes of what is done to a further device of a guest that is alone

given_over : {A P : Type 0} (host : Option HostedDisk) (n : ℕ) (what : DeviceEvent A) (old : SlotState)
    (before after : Health) (outcome : Outcome A)
    → image_asked n what old ≡ None → ((one other : Health) → GivesDevice n what old one other outcome → P)
    → GivesBy host old (Device n what) before after outcome → P
given_over {A} {P} None n what old before after outcome none over h =
    over before after (subst (λ (f : Option BlockDevice). GivesAtDevice f n what old before after outcome) none h)
given_over {A} {P} (Some disk) n what old before after outcome none over h = by_wait (is_any (tags_in old.host)) h.gives
  where
    beside : GivesOverImage old (Device n what) before before outcome → P
    beside h =
        over before before (subst (λ (f : Option BlockDevice). GivesAtDevice f n what old before before outcome) none h)

    by_wait : (any : Bool)
        → OwnGives (λ (o : Outcome A). GivesOverImage old (Device n what) before before o) (any && false) old
        (Device n what) outcome → P
    by_wait true h = beside h
    by_wait false h = beside h

-- ---- a release of a disk on hold

own_release : {A : Type 0} (host : Option HostedDisk) (old : SlotState) (served : HostedDisk) (before after : Health)
    (outcome : Outcome A) → old.host ≡ host → host ≡ Some served → served.on_hold ≡ true
    → GivesBy host old (Host Release) before after outcome → DoesAsSaid Own Release old outcome.state
own_release None old served before after outcome is there on_hold h = absurd (cc there)
own_release (Some disk) old served before after outcome is there on_hold h =
    told_says (option_map_or (has_effect Release) old.host false) Release old outcome
    (ap (λ (k : Option HostedDisk). option_map_or (has_effect Release) k false) (is ∙ there) ∙ on_hold) h.gives

release_does : {A : Type 0} (disk : SlotDisk) (old : SlotState) (unit : DiskUnit) (outcome : Outcome A)
    → unit_at disk old ≡ Some unit → unit.disk.on_hold ≡ true → IsNext old (saying disk Release) outcome
    → DoesAsSaid disk Release old outcome.state
release_does Own old unit outcome there on_hold next =
    own_release old.host old unit.disk at_rest next.after outcome refl (disk_there Own old unit there) on_hold next.gives
release_does (Further n) old unit outcome there on_hold next =
    given_over old.host n (device.Host Release) old at_rest next.after outcome refl
    (λ one other h. further_does n Release old unit one other outcome there on_hold h) next.gives

-- ---- it makes up for a notification of the disk, behind whose write the slot stands so

module _ (disk : SlotDisk) (mid : SlotState) (unit : DiskUnit) (some : IsSome (unit_at disk mid)) where
  abbrev noted : Bool → SlotState
  noted on_hold = record (with_disk disk (held_unit on_hold unit) mid) { memory = mid.memory }

  noted_there : (on_hold : Bool) → unit_at disk (noted on_hold) ≡ Some (held_unit on_hold unit)
  noted_there on_hold = put_there disk mid mid.memory (held_unit on_hold unit) some

  -- what such a disk does
  from_noted : (Does : HostedDisk → Memory → Memory → WindowState → WindowState → HostedDisk → Type 0) (on_hold : Bool)
      (new : SlotState) (h : DoesToDisk Does disk (noted on_hold) new)
      → Does (held_disk on_hold unit.disk) mid.memory new.memory unit.window h.after.window h.after.disk
  from_noted Does on_hold new h =
      let held = held_unit on_hold unit in
      subst (λ (u : DiskUnit). Does u.disk mid.memory new.memory u.window h.after.window h.after.disk)
      (same_Some h.before held (sym h.there ∙ noted_there on_hold)) h.does

  -- on hold nothing comes of it
  stays_noted : (new : SlotState) → DoesToDisk LooksAtQueue disk (noted true) new → new ≡ noted true
  stays_noted new h =
      let held = held_disk true unit.disk in
      let does = from_noted LooksAtQueue true new h in
      h.is
      ∙ (put_again disk mid mid.memory new.memory (held_unit true unit) h.after
      ∙ (ap (λ (d : HostedDisk). record (with_disk disk (behind_window h.after.window d) mid) { memory = new.memory }) does.is
      ∙ ap (λ (q : HostedQueue). record (with_disk disk (behind_window q.window (record held { tags = q.tags })) mid) {
        memory = q.memory;
      }) does.looks))

  -- and the release looks at the queue
  looks_released : (new : SlotState) → DoesAsSaid disk Release (noted true) new
      → DoesToDisk LooksAtQueue disk (noted false) new
  looks_released new h =
      let does = from_noted (DoesAsTold Release) true new h in
      record {
        before = held_unit false unit;
        after = h.after;
        there = noted_there false;
        does = record { looks = does.queue; is = does.is };
        is = h.is
            ∙ (put_again disk mid mid.memory new.memory (held_unit true unit) h.after
            ∙ sym (put_again disk mid mid.memory new.memory (held_unit false unit) h.after));
      }

  makes_up : {A : Type 0} (waited late prompt : Outcome A) → DoesToDisk LooksAtQueue disk (noted true) waited.state
      → IsNext waited.state (saying disk Release) late → DoesToDisk LooksAtQueue disk (noted false) prompt.state
      → late.state ≡ prompt.state
  makes_up {A} waited late prompt waits release looks =
      look_once disk (noted false) late.state prompt.state
      (looks_released late.state
      (release_does disk (noted true) (held_unit true unit) late (noted_there true) refl
      (subst (λ (s : SlotState). IsNext {A = A} s (saying disk Release) late) (stays_noted waited.state waits) release)))
      looks

-- ---- the slot's own

-- a notification is looked at
looks_next : {A : Type 0} (host : Option HostedDisk) (old : SlotState) (what : EventKind A) (before after : Health)
    (outcome : Outcome A) → IsSome host → notifies_block what old ≡ true → waits_now what old.host ≡ false
    → GivesBy host old what before after outcome → DoesToDisk LooksAtQueue Own (readied what old) outcome.state
looks_next None old what before after outcome hosted rings free h = absurd (cc)
looks_next (Some disk) old what before after outcome hosted rings free h =
    let own = ringing_own what old rings in
    (rw (own, free, rings) at h.gives).0

module _ {A : Type 0} (old : SlotState) (disk : HostedDisk) (is : old.host ≡ Some disk) (what : EventKind A) where
  -- the slot with its disk on hold, or not
  abbrev own_so : Bool → SlotState
  own_so on_hold = record old { host = Some (held_disk on_hold disk) }

  held_own : (on_hold : Bool) → held_so on_hold Own old ≡ own_so on_hold
  held_own on_hold =
      ap (λ (found : Option DiskUnit). option_map_or (λ unit. with_disk Own (held_unit on_hold unit) old) found old)
      (ap (option_map (behind_window old.block)) is)

  -- of which nothing depends in what a write does to its registers
  rings_so : (on_hold : Bool) (k : EventKind A) → notifies_block k (own_so on_hold) ≡ notifies_block k old
  rings_so on_hold (Write BlockWindow offset width value) = refl
  rings_so on_hold _ = refl

  readied_so : (on_hold : Bool) (k : EventKind A)
      → readied k (own_so on_hold) ≡ record (readied k old) { host = Some (held_disk on_hold disk) }
  readied_so on_hold (Write BlockWindow offset width value) = refl
  readied_so on_hold (Write ConsoleWindow offset width value) = refl
  readied_so on_hold _ = refl

  own_looks : (on_hold : Bool) (outcome : Outcome A) → notifies_block what old ≡ true → waits_now what old.host ≡ false
      → IsNext (held_so on_hold Own old) what outcome
      → DoesToDisk LooksAtQueue Own (record (readied what old) { host = Some (held_disk on_hold disk) }) outcome.state
  own_looks on_hold outcome rings free next =
      let there = subst (λ (s : SlotState). IsNext s what outcome) (held_own on_hold) next in
      subst (λ (s : SlotState). DoesToDisk LooksAtQueue Own s outcome.state) (readied_so on_hold what)
      (looks_next (Some (held_disk on_hold disk)) (own_so on_hold) what at_rest there.after outcome refl
      (rings_so on_hold what ∙ rings) (ap (waits_now what) (sym is) ∙ free) there.gives)

  own_makes_up : (waited late prompt : Outcome A) → notifies_block what old ≡ true → waits_now what old.host ≡ false
      → IsNext (held_so true Own old) what waited → IsNext waited.state (saying Own Release) late
      → IsNext (held_so false Own old) what prompt → late.state ≡ prompt.state
  own_makes_up waited late prompt rings free w l p =
      let ready = readied what old in
      let host : ready.host ≡ Some disk = (readied_fixed what old rings).kept tt ∙ is in
      makes_up Own ready (behind_window ready.block disk)
      (subst (λ (k : Option HostedDisk). IsSome (option_map (behind_window ready.block) k)) (sym host) refl) waited late
      prompt (own_looks true waited rings free w) l (own_looks false prompt rings free p)

own_release_makes_up : {A : Type 0} (host : Option HostedDisk) (old : SlotState) (what : EventKind A)
    (waited late prompt : Outcome A) → old.host ≡ host → IsSome (option_map (behind_window old.block) host)
    → notifies_block what old ≡ true
    → waits_now what old.host ≡ false → IsNext (held_so true Own old) what waited
    → IsNext waited.state (saying Own Release) late → IsNext (held_so false Own old) what prompt
    → late.state ≡ prompt.state
own_release_makes_up None old what waited late prompt is some rings free w l p = absurd (cc some)
own_release_makes_up (Some disk) old what waited late prompt is some rings free w l p =
    own_makes_up old disk is what waited late prompt rings free w l p

-- ---- a further disk

is_block : (model : ModelState) (disk : HostedDisk) → disk_of model ≡ Some disk → model ≡ Block disk
is_block (Block other) disk is = ap Block (same_Some other disk is)
is_block (Entropy pool) disk is = absurd (cc is)
is_block (Network card) disk is = absurd (cc is)
is_block (Console terminal) disk is = absurd (cc is)
is_block (Image other) disk is = absurd (cc is)

-- what a notification leaves to be done is the service of queue 0
serves_asked : (action : Action) (m m' : Memory) (w : WindowState) (model : ModelState) (d' : DeviceState)
    → asks_service action ≡ true
    → ServesNotified (notified_by action) m m' (record { window = w; model = taking action model }) d'
    → Serves model 0 m m' w d'.window d'.model
serves_asked (Notify zero) m m' w model d' asks h = h
serves_asked _ m m' w model d' asks h = absurd (cc asks)

module _ (n offset width value : ℕ) (old : SlotState) (d : DeviceState) (disk : HostedDisk)
    (there : slice_get old.devices n ≡ Some d) (block : d.model ≡ Block disk)
    (asks : asks_service (action_of offset width value d.window) ≡ true) (free : waits_at offset d ≡ false) where
  abbrev device_so : Bool → DeviceState
  device_so on_hold = record { window = d.window; model = Block (held_disk on_hold disk) }

  abbrev slot_so : Bool → SlotState
  slot_so on_hold = record old { devices = slice_set old.devices n (device_so on_hold) }

  -- the disk as the driver's write leaves it
  abbrev written_unit : DiskUnit
  written_unit = behind_window (written offset width value old.memory d.window) disk

  found : unit_at (Further n) old ≡ Some (behind_window d.window disk)
  found =
      ap (option_and_then unit_of) there ∙ ap (λ (m : ModelState). option_map (behind_window d.window) (disk_of m)) block

  some_there : IsSome (unit_at (Further n) old)
  some_there = subst (λ (u : Option DiskUnit). IsSome u) (sym found) refl

  held_further : (on_hold : Bool) → held_so on_hold (Further n) old ≡ slot_so on_hold
  held_further on_hold =
      ap (λ (u : Option DiskUnit). option_map_or (λ unit. with_disk (Further n) (held_unit on_hold unit) old) u old) found

  there_so : (on_hold : Bool) → slice_get (slot_so on_hold).devices n ≡ Some (device_so on_hold)
  there_so on_hold = get_set old.devices n d (device_so on_hold) there

  free_so : (on_hold : Bool) → waits_at offset (device_so on_hold) ≡ false
  free_so on_hold = ap (must_wait offset) (sym block) ∙ free

  abbrev LooksSo : Bool → SlotState → Type 0
  LooksSo on_hold new = DoesToDisk LooksAtQueue (Further n) (noted (Further n) old written_unit some_there on_hold) new

  wrote_so : {A : Type 0} (on_hold : Bool) (outcome : Outcome A) (reply : Reply A)
      → At (Writes offset width value) n old.memory outcome.state.memory (slot_so on_hold).devices
      outcome.state.devices
      → outcome
      ≡ replies (record old { memory = outcome.state.memory; devices = outcome.state.devices }) reply
      → LooksSo on_hold outcome.state
  wrote_so {A} on_hold outcome reply at is =
      let new = outcome.state in
      let was : at.before ≡ device_so on_hold =
      same_Some at.before (device_so on_hold) (sym at.there ∙ there_so on_hold) in
      let finishes : Writes offset width value old.memory new.memory (device_so on_hold) at.after =
      subst (λ (e : DeviceState). Writes offset width value old.memory new.memory e at.after) was at.changes in
      let serves : Serves (Block (held_disk on_hold disk)) 0 old.memory new.memory written_unit.window at.after.window
      at.after.model =
      serves_asked (action_of offset width value d.window) old.memory new.memory written_unit.window
      (Block (held_disk on_hold disk)) at.after asks finishes in
      record {
        before = held_unit on_hold written_unit;
        after = behind_window at.after.window serves.after;
        there = noted_there (Further n) old written_unit some_there on_hold;
        does = serves.serves;
        is = ap (λ (o : Outcome A). o.state) is
            ∙ ap (λ (l : List DeviceState). record old { memory = new.memory; devices = l })
            (at.is ∙ (set-set old.devices n (device_so on_hold) at.after
            ∙ (ap (λ (m : ModelState). slice_set old.devices n (record at.after { model = m })) serves.is
            ∙ sym (set-set old.devices n (record { window = written_unit.window; model = Block (held_disk on_hold disk) })
            (record { window = at.after.window; model = Block serves.after })))));
      }

  given_so : {A : Type 0} (on_hold : Bool) (before after : Health) (outcome : Outcome A)
      → GivesDevice n (device.Write offset width value) (slot_so on_hold) before after outcome
      → LooksSo on_hold outcome.state
  given_so {A} on_hold before after outcome h =
      let answered : Option (Reply A) = Some (if waits_at offset (device_so on_hold) then Busy else Done) in
      let found : reply_at {A = A} n (device.Write offset width value) (slot_so on_hold) ≡ answered =
      ap (option_and_then (device_reply {A = A} (device.Write offset width value))) (there_so on_hold) in
      let step = subst (λ (f : Option (Reply A)).
      GivesByDevice f n (device.Write offset width value) (slot_so on_hold) before after outcome) found h in
      let passes : waits_there n offset (slot_so on_hold).devices ≡ false =
      ap (λ (f : Option DeviceState). option_map_or (waits_at offset) f false) (there_so on_hold) ∙ free_so on_hold in
      wrote_so on_hold outcome (if waits_at offset (device_so on_hold) then Busy else Done)
      (subst (λ (b : Bool). DoesIf (not b) (Writes offset width value) n old.memory outcome.state.memory
      (slot_so on_hold).devices outcome.state.devices) passes step.at) step.is

  next_so : {A : Type 0} (on_hold : Bool) (outcome : Outcome A)
      → IsNext (held_so on_hold (Further n) old) (Device n (device.Write offset width value)) outcome
      → LooksSo on_hold outcome.state
  next_so {A} on_hold outcome next =
      let slot = slot_so on_hold in
      let there = subst (λ (s : SlotState). IsNext s (Device n (device.Write offset width value)) outcome)
      (held_further on_hold) next in
      given_over slot.host n (device.Write offset width value) slot at_rest there.after outcome
      (write_of_other A n offset width value slot
      (image_found n slot.devices (device_so on_hold) (there_so on_hold)))
      (λ one other h. given_so on_hold one other outcome h) there.gives

  further_makes_up : {A : Type 0} (waited late prompt : Outcome A)
      → IsNext (held_so true (Further n) old) (Device n (device.Write offset width value)) waited
      → IsNext waited.state (saying (Further n) Release) late
      → IsNext (held_so false (Further n) old) (Device n (device.Write offset width value)) prompt
      → late.state ≡ prompt.state
  further_makes_up waited late prompt w l p =
      makes_up (Further n) old written_unit some_there waited late prompt (next_so true waited w) l (next_so false prompt p)

-- by what is there
by_model : {A : Type 0} (n offset width value : ℕ) (old : SlotState) (d : DeviceState) (found : Option HostedDisk)
    (waited late prompt : Outcome A) → slice_get old.devices n ≡ Some d → disk_of d.model ≡ found
    → IsSome (option_map (behind_window d.window) found)
    → asks_service (action_of offset width value d.window) ≡ true → waits_at offset d ≡ false
    → IsNext (held_so true (Further n) old) (Device n (device.Write offset width value)) waited
    → IsNext waited.state (Device n (device.Host Release)) late
    → IsNext (held_so false (Further n) old) (Device n (device.Write offset width value)) prompt
    → late.state ≡ prompt.state
by_model n offset width value old d None waited late prompt there is some asks free w l p = absurd (cc some)
by_model n offset width value old d (Some disk) waited late prompt there is some asks free w l p =
    further_makes_up n offset width value old d disk there (is_block d.model disk is) asks free waited late prompt
    w l p

by_device : {A : Type 0} (n offset width value : ℕ) (old : SlotState) (found : Option DeviceState)
    (waited late prompt : Outcome A) → slice_get old.devices n ≡ found → IsSome (option_and_then unit_of found)
    → option_map_or (notifies_there {A = A} (device.Write offset width value)) found false ≡ true
    → option_map_or (waits_at offset) found false ≡ false
    → IsNext (held_so true (Further n) old) (Device n (device.Write offset width value)) waited
    → IsNext waited.state (Device n (device.Host Release)) late
    → IsNext (held_so false (Further n) old) (Device n (device.Write offset width value)) prompt
    → late.state ≡ prompt.state
by_device n offset width value old None waited late prompt there some asks free w l p = absurd (cc some)
by_device n offset width value old (Some d) waited late prompt there some asks free w l p =
    by_model n offset width value old d (disk_of d.model) waited late prompt there refl some asks free w l p

-- only a write notifies
unnoted : (found : Option DeviceState) → option_map_or (λ (d : DeviceState). false) found false ≡ true → ⊥
unnoted None is = absurd (cc is)
unnoted (Some d) is = absurd (cc is)

by_kind : {A : Type 0} (n : ℕ) (what : DeviceEvent A) (old : SlotState) (waited late prompt : Outcome A)
    → IsSome (unit_at (Further n) old)
    → option_map_or (notifies_there what) (slice_get old.devices n) false ≡ true
    → waits_for_disk what n old.devices ≡ false
    → IsNext (held_so true (Further n) old) (Device n what) waited
    → IsNext waited.state (Device n (device.Host Release)) late
    → IsNext (held_so false (Further n) old) (Device n what) prompt → late.state ≡ prompt.state
by_kind n (device.Write offset width value) old waited late prompt some asks free w l p =
    by_device n offset width value old (slice_get old.devices n) waited late prompt refl some asks free w l p
by_kind n _ old waited late prompt some asks free w l p = absurd (unnoted (slice_get old.devices n) asks)

both_true : (one other : Bool) → (one && other) ≡ true → (one ≡ true) × (other ≡ true)
both_true true other is = (refl, is)
both_true false other is = absurd (cc is)

further_release : {A : Type 0} (n : ℕ) (what : EventKind A) (old : SlotState) (waited late prompt : Outcome A)
    → IsSome (unit_at (Further n) old) → notifies_disk (Further n) what old ≡ true
    → waits_for (Further n) what old ≡ false → IsNext (held_so true (Further n) old) what waited
    → IsNext waited.state (saying (Further n) Release) late → IsNext (held_so false (Further n) old) what prompt
    → late.state ≡ prompt.state
further_release {A} n (Device k what) old waited late prompt some notes free w l p =
    let both = both_true (k == n) (option_map_or (notifies_there what) (slice_get old.devices n) false) notes in
    elim (eqb_tells k n) [
      | inl same ↦
          let is : ◌≡◌ {A = EventKind A} (Device k what) (Device n what) = ap (λ (j : ℕ). Device j what) same.1 in
          by_kind n what old waited late prompt some both.1
          (ap (λ (j : ℕ). waits_for_disk what j old.devices) (sym same.1) ∙ free)
          (subst (λ (e : EventKind A). IsNext (held_so true (Further n) old) e waited) is w) l
          (subst (λ (e : EventKind A). IsNext (held_so false (Further n) old) e prompt) is p)
      | inr other ↦ let clash : false ≡ true = sym other.0 ∙ both.0 in absurd (cc clash)
    ]
further_release n _ old waited late prompt some notes free w l p = absurd (cc notes)

-- ---- each disk

pub release_makes_up : {A : Type 0} (disk : SlotDisk) (old : SlotState) (what : EventKind A)
    (waited late prompt : Outcome A) → IsSome (unit_at disk old) → notifies_disk disk what old ≡ true
    → waits_for disk what old ≡ false → IsNext (held_so true disk old) what waited
    → IsNext waited.state (saying disk Release) late → IsNext (held_so false disk old) what prompt
    → late.state ≡ prompt.state
release_makes_up Own old what waited late prompt some notes free w l p =
    own_release_makes_up old.host old what waited late prompt refl some notes free w l p
release_makes_up (Further n) old what waited late prompt some notes free w l p =
    further_release n what old waited late prompt some notes free w l p
