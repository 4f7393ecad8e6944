-- A drop and a hold.
use Rattle.std.proofs.Common.{◌≡◌, ◌≢◌, ◌∙◌, inl, inr, ℕ, zero, suc, Bool, true, false, Option, Some, None, List, [], ◌∷◌, refl, sym, ap, subst}
use Rattle.std.specs.Prelude.{IfSome, ◌&&◌, ◌||◌, get_or}
use Rattle.std.specs.Option.{option_map, option_map_or}
use Rattle.std.proofs.lemmas.Bool.{cases_eq}
use Rattle.std.proofs.lemmas.Option.{same_Some}
use Rattle.block_device.specs.declared.device.BlockDevice.{BlockDevice}
use Rattle.block_device.specs.declared.operation.HostEvent.{HostEvent}
use Rattle.block_device.specs.declared.operation.Verdict.{Verdict}
use Rattle.block_device.specs.Flights.{HostedQueue, InFlight, IsLanding, given_up}
use Rattle.block_device.specs.Tags.{freed, is_any}
use Rattle.hosted_disk.specs.Disk.{HostedDisk, LooksUnless, LooksUnlessTo, queue_of}
use Rattle.hosted_disk.specs.Told.{DoesAsTold, QueueTold, has_effect, held_by}
use Rattle.block_device.proofs.Landing.{landed_free, landed_others}
use Rattle.board.specs.declared.event.EventKind.{EventKind}
use Rattle.board.specs.declared.event.EventKind.TheVariants.{Host, Device}
use Rattle.board.specs.declared.event.DeviceEvent.TheVariants as device
use Rattle.device_list.specs.List.{disk_at}
use Rattle.board.specs.Waiting.{waits_beside}
use Rattle.board.proofs.FurtherDevices.{dropped_disk, freed_none}
use Rattle.block_device.specs.declared.operation.HostEvent.TheVariants.{Complete, Drop, Hold, Release}
use Rattle.board.specs.declared.reply.Reply.TheVariants.{Busy}
use Rattle.board.specs.Backing.{is_held, tags_in}
use Rattle.board.specs.HostedDisks.{said_of}
use Rattle.board.specs.Units.{DiskUnit, DoesAsSaid, Own, SlotDisk, disk_for, in_flight_of, on_hold_of}
use Rattle.board.specs.Hosting.{IsNoRestore, ToldGives, dropped, must_wait, with_queue}
use Rattle.board.specs.Image.{Health}
use Rattle.board.specs.Outcome.{Outcome}
use Rattle.board.specs.Slot.{SlotState}
use Rattle.board.specs.World.{MayGive, MayGiveBy, MayGiveOverImage}
use Rattle.board.proofs.DiskSteps.{Comes, IsLooked, IsLookedTo, IsTold, Retakes, Stays, StepsTo, steps}
use Rattle.board.proofs.Flights.{same_tags}
use Rattle.board.proofs.Identities.{given_fixed}
use Rattle.board.proofs.Waiting.{waited}
use Rattle.board.proofs.Ways.{Looks, Passes, Rests, Says, Waits, Way, by_disk, must_by, told_says}
use Rattle.board.proofs.Units.{behind_window}

-- ---- a drop

-- there is something to drop where anything is in flight
drops_any : (host : Option HostedDisk) → option_map_or (has_effect Drop) host false ≡ is_any (tags_in host)
drops_any None = refl
drops_any (Some disk) = refl

gives_free : {A : Type 0} (effect : Bool) (old : SlotState) (outcome : Outcome A) → is_any (tags_in old.host) ≡ effect
    → ToldGives effect Drop old outcome → is_any (tags_in outcome.state.host) ≡ false
gives_free false old outcome is h = ap (λ o. is_any (tags_in o.state.host)) h ∙ is
gives_free true old outcome is h =
    ap (λ (s : SlotState). is_any (tags_in s.host)) h.0.is
    ∙ (ap (λ (q : HostedQueue). is_any q.tags) h.0.does.queue ∙ freed_none h.0.before.disk.tags)

free_by : {A : Type 0} (host : Option HostedDisk) (old : SlotState) (before after : Health) (outcome : Outcome A)
    → old.host ≡ host → MayGiveBy host old (Host Drop) before after outcome
    → is_any (tags_in outcome.state.host) ≡ false
free_by None old before after outcome is h =
    ap (λ (k : Option HostedDisk). is_any (tags_in k)) ((given_fixed old (Host Drop) before after outcome h).kept tt ∙ is)
free_by (Some disk) old before after outcome is h =
    gives_free (option_map_or (has_effect Drop) old.host false) old outcome (sym (drops_any old.host)) h.gives

pub dropped_free : {A : Type 0} (old : SlotState) (before after : Health) (outcome : Outcome A)
    → MayGive old (Host Drop) before after outcome → is_any (tags_in outcome.state.host) ≡ false
dropped_free old before after outcome h = free_by old.host old before after outcome refl h

-- and so nothing waits behind it but for a further disk
pub dropped_passes : {A : Type 0} (old : SlotState) (what : EventKind A) (before mid mid' after : Health)
    (drop outcome : Outcome A) → MayGive old (Host Drop) before mid drop
    → MayGive drop.state what mid' after outcome → outcome.reply ≡ Busy → waits_beside what drop.state ≡ true
dropped_passes old what before mid mid' after drop outcome h later busy =
    let free = dropped_free old before mid drop h in
    let waits = (waited drop.state.host drop.state what mid' after outcome later busy).0.waits in
    beside (is_any (tags_in drop.state.host)) (must_wait what) (waits_beside what drop.state) free waits
  where
    beside : (any must further : Bool) → any ≡ false → ((any && must) || further) ≡ true → further ≡ true
    beside true must further free waits = absurd (cc free)
    beside false must further free waits = waits

-- what was in flight is given up
whole_by : (old new : SlotState) (disk : HostedDisk) → old.host ≡ Some disk → DoesAsSaid Own Drop old new → new ≡ dropped old
whole_by old new disk is h =
    let put : HostedQueue → SlotState = λ (q : HostedQueue). record old {
      memory = q.memory;
      block = q.window;
      host = Some (record disk { tags = q.tags });
    } in
    let back : Option HostedDisk → SlotState = λ (host : Option HostedDisk). with_queue
    (given_up (record { memory = old.memory; window = old.block; tags = tags_in host })) (record old { host = host }) in
    let same : h.before ≡ behind_window old.block disk =
    same_Some h.before (behind_window old.block disk) (sym h.there ∙ ap (option_map (behind_window old.block)) is) in
    let does : DoesAsTold Drop disk old.memory new.memory old.block h.after.window h.after.disk =
    subst (λ (u : DiskUnit). DoesAsTold Drop u.disk old.memory new.memory u.window h.after.window h.after.disk) same
    h.does in
    h.is
    ∙ (ap (λ (d : HostedDisk). record old { memory = new.memory; block = h.after.window; host = Some d }) does.is
    ∙ (ap put does.queue ∙ ap back (sym is)))

whole_at : {A : Type 0} (host : Option HostedDisk) (old : SlotState) (before after : Health) (outcome : Outcome A)
    → old.host ≡ host → is_any (tags_in old.host) ≡ true → MayGiveBy host old (Host Drop) before after outcome
    → outcome.state ≡ dropped old
whole_at None old before after outcome is any h =
    let none : is_any (tags_in old.host) ≡ false = ap (λ (k : Option HostedDisk). is_any (tags_in k)) is in
    absurd (cc (any, none))
whole_at (Some disk) old before after outcome is any h =
    whole_by old outcome.state disk is
    (told_says (option_map_or (has_effect Drop) old.host false) Drop old outcome (drops_any old.host ∙ any) h.gives)

pub dropped_whole : {A : Type 0} (old : SlotState) (before after : Health) (outcome : Outcome A)
    → is_any (tags_in old.host) ≡ true → MayGive old (Host Drop) before after outcome
    → outcome.state ≡ dropped old
dropped_whole old before after outcome any h = whole_at old.host old before after outcome refl any h

-- of a further disk nothing is in flight either behind a drop
further_over : {A : Type 0} (n : ℕ) (old : SlotState) (before after : Health) (outcome : Outcome A)
    → MayGiveOverImage old (Device n (device.Host Drop)) before after outcome
    → IfSome (disk_at n outcome.state.devices) (λ disk. is_any disk.tags ≡ false)
further_over n old before after outcome (inl served) = dropped_disk n old before after outcome served.alike
further_over n old before after outcome (inr unmet) = absurd unmet.takes

further_by : {A : Type 0} (n : ℕ) (old : SlotState) (before : Health) (outcome : Outcome A)
    → Way (λ (o : Outcome A). MayGiveOverImage old (Device n (device.Host Drop)) before before o) old
    (Device n (device.Host Drop)) outcome
    → IfSome (disk_at n outcome.state.devices) (λ disk. is_any disk.tags ≡ false)
further_by n old before outcome (Passes own free quiet h) = further_over n old before before outcome h
further_by n old before outcome (Waits waits h) =
    let must = must_by (is_any (tags_in old.host)) false waits in absurd (cc must)
further_by n old before outcome (Looks rings looks h) = absurd (cc rings)
further_by n old before outcome (Rests said tells h) = absurd (cc tells)
further_by n old before outcome (Says said tells says h) = absurd (cc tells)

pub dropped_further : {A : Type 0} (n : ℕ) (old : SlotState) (before after : Health) (outcome : Outcome A)
    → MayGive old (Device n (device.Host Drop)) before after outcome
    → IfSome (disk_at n outcome.state.devices) (λ disk. is_any disk.tags ≡ false)
dropped_further {A} n old before after outcome h =
    by_disk old.host old (Device n (device.Host Drop)) before after outcome
    (λ given. further_over n old before after outcome given)
    (λ image ways. further_by n old before outcome ways) h

-- ---- a hold

all_free : (tags : List (Option InFlight)) (tag : ℕ)
    → get_or (freed tags) tag None ≡ None
all_free [] tag = refl
all_free (here ∷ tags) zero = refl
all_free (here ∷ tags) (suc tag) = all_free tags tag

abbrev TagIn : HostedQueue → ℕ → Option InFlight
TagIn q tag = get_or q.tags tag None

-- a landing frees its tag and no other
landing_free : (tag its : ℕ) (verdict : Verdict) (q landed q' : HostedQueue) → IsLanding its verdict q landed
    → q' ≡ landed → TagIn q tag ≡ None → TagIn q' tag ≡ None
landing_free tag its verdict q landed q' lands still free =
    ap (λ (l : HostedQueue). TagIn l tag) still
    ∙ elim (cases_eq tag its) [
      | inl same ↦ ap (λ k. TagIn landed k) same ∙ landed_free its verdict q landed lands
      | inr apart ↦ landed_others its tag verdict q landed lands apart ∙ free
    ]

-- what the host says of a queue on hold leaves its free tags, but for a release
word_free : (found : Option HostEvent) (said : HostEvent) (tag : ℕ) (device : BlockDevice) (q q' : HostedQueue)
    → found ≡ Some said → found ≢ Some Release → QueueTold said device true q q' → TagIn q tag ≡ None
    → TagIn q' tag ≡ None
word_free found (Complete its verdict) tag device q q' is other told free =
    landing_free tag its verdict q told.landed q' told.lands told.looks free
word_free found Drop tag device q q' is other told free =
    ap (λ (l : HostedQueue). TagIn l tag) told ∙ all_free q.tags tag
word_free found Hold tag device q q' is other told free = ap (λ (l : HostedQueue). TagIn l tag) told ∙ free
word_free found Release tag device q q' is other told free = absurd (other is)

word_holds : (found : Option HostEvent) (said : HostEvent) (on_hold : Bool) → found ≡ Some said
    → found ≢ Some Release → on_hold ≡ true → held_by said on_hold ≡ true
word_holds found Hold on_hold is other holds = refl
word_holds found Release on_hold is other holds = absurd (other is)
word_holds found _ on_hold is other holds = holds

module _ {A : Type 0} (disk : SlotDisk) (old : SlotState) (what : EventKind A) where
  abbrev tag_in : ℕ → Option HostedDisk → Option InFlight
  tag_in tag host = get_or (tags_in host) tag None

  free_from : (tag : ℕ) (new : SlotState) → on_hold_of disk old ≡ true → said_of disk what ≢ Some Release
      → get_or (in_flight_of disk old) tag None ≡ None → StepsTo disk what old new
      → get_or (in_flight_of disk new) tag None ≡ None
  free_from tag new on_hold other free (Stays same) = ap (tag_in tag) same ∙ free
  free_from tag new on_hold other free (Retakes restores kept) =
      ap (λ l. get_or l tag None) (same_tags (disk_for disk old) (disk_for disk new) kept) ∙ free
  free_from tag new on_hold other free (Comes none) =
      let clash : false ≡ true = sym (ap is_held none) ∙ on_hold in absurd (cc clash)
  free_from tag new on_hold other free (IsLooked d after m m' w w' looks from to) =
      let same : queue_of m' w' after ≡ queue_of m w d =
      subst (λ (b : Bool). LooksUnless b d.device (queue_of m w d) (queue_of m' w' after)) (sym (ap is_held from) ∙ on_hold)
      looks.looks in
      ap (tag_in tag) to ∙ (ap (λ (l : HostedQueue). TagIn l tag) same ∙ (sym (ap (tag_in tag) from) ∙ free))
  free_from tag new on_hold other free (IsLookedTo stage budget progress d after m m' w w' looks from to) =
      let same : queue_of m' w' after ≡ queue_of m w d =
      (subst (λ (b : Bool). LooksUnlessTo b d.device stage budget progress (queue_of m w d) (queue_of m' w' after))
      (sym (ap is_held from) ∙ on_hold) looks.looks).1 in
      ap (tag_in tag) to ∙ (ap (λ (l : HostedQueue). TagIn l tag) same ∙ (sym (ap (tag_in tag) from) ∙ free))
  free_from tag new on_hold other free (IsTold said is d after m m' w w' told from to) =
      ap (tag_in tag) to
      ∙ word_free (said_of disk what) said tag d.device (queue_of m w d) (queue_of m' w' after) is other
      (subst (λ (b : Bool). QueueTold said d.device b (queue_of m w d) (queue_of m' w' after))
      (sym (ap is_held from) ∙ on_hold) told.queue)
      (sym (ap (tag_in tag) from) ∙ free)

  pub hold_free : (tag : ℕ) (before after : Health) (outcome : Outcome A) → on_hold_of disk old ≡ true
      → said_of disk what ≢ Some Release → get_or (in_flight_of disk old) tag None ≡ None
      → MayGive old what before after outcome → get_or (in_flight_of disk outcome.state) tag None ≡ None
  hold_free tag before after outcome on_hold other free h =
      free_from tag outcome.state on_hold other free (steps disk what old before after outcome h)

  -- ---- it stays

  stays_by : (new : SlotState) → on_hold_of disk old ≡ true → said_of disk what ≢ Some Release → IsNoRestore what
      → StepsTo disk what old new → on_hold_of disk new ≡ true
  stays_by new on_hold other keeps (Stays same) = ap is_held same ∙ on_hold
  stays_by new on_hold other keeps (Retakes restores kept) = absurd (restores keeps)
  stays_by new on_hold other keeps (Comes none) =
      let clash : false ≡ true = sym (ap is_held none) ∙ on_hold in absurd (cc clash)
  stays_by new on_hold other keeps (IsLooked d after m m' w w' looks from to) =
      ap is_held to ∙ (ap (λ (k : HostedDisk). k.on_hold) looks.is ∙ (sym (ap is_held from) ∙ on_hold))
  stays_by new on_hold other keeps (IsLookedTo stage budget progress d after m m' w w' looks from to) =
      ap is_held to ∙ (ap (λ (k : HostedDisk). k.on_hold) looks.is ∙ (sym (ap is_held from) ∙ on_hold))
  stays_by new on_hold other keeps (IsTold said is d after m m' w w' told from to) =
      ap is_held to
      ∙ (ap (λ (k : HostedDisk). k.on_hold) told.is
      ∙ word_holds (said_of disk what) said d.on_hold is other (sym (ap is_held from) ∙ on_hold))

  pub hold_stays : (before after : Health) (outcome : Outcome A) → on_hold_of disk old ≡ true
      → said_of disk what ≢ Some Release → IsNoRestore what → MayGive old what before after outcome
      → on_hold_of disk outcome.state ≡ true
  hold_stays before after outcome on_hold other keeps h =
      stays_by outcome.state on_hold other keeps (steps disk what old before after outcome h)
