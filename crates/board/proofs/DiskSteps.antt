-- In an event of its slot a disk that the host serves stays as it is, or its queue is looked at, or it does as its host says.
use Rattle.std.proofs.Common.{◌≡◌, inl, inr, ℕ, zero, suc, Bool, true, false, Option, Some, None, List, [], ◌∷◌, ◌++◌, length, refl, sym, ◌∙◌, ap, subst}
use Rattle.std.specs.Prelude.{if◌then◌else◌, slice_set}
use Rattle.std.specs.List.{slice_get}
use Rattle.std.specs.Option.{option_and_then, option_map, option_map_or}
use Rattle.std.proofs.lemmas.Bool.Decides.{eqb_tells}
use Rattle.std.proofs.lemmas.Option.{same_Some}
use Rattle.guest_memory.specs.Memory.{Memory}
use Rattle.chain.specs.declared.budget.Budget.{Budget}
use Rattle.chain.specs.declared.budget.Progress.{Progress}
use Rattle.mmio_window.specs.declared.stage.Stage.{Stage}
use Rattle.mmio_window.specs.declared.action.Action.{Action}
use Rattle.mmio_window.specs.declared.action.Action.TheVariants.{ConfigWrite}
use Rattle.mmio_window.specs.Window.{WindowState}
use Rattle.mmio_window.specs.Writing.{action_of}
use Rattle.block_device.specs.declared.device.BlockDevice.{BlockDevice}
use Rattle.block_device.specs.declared.operation.HostEvent.{HostEvent}
use Rattle.hosted_disk.specs.Disk.{HostedDisk, LooksAtQueue, LooksAtQueueTo, ServesDisk, ServesDiskTo}
use Rattle.hosted_disk.specs.Told.{DoesAsTold}
use Rattle.device_list.specs.Card.{Card, with_frame, with_link}
use Rattle.device_list.specs.Device.{DeviceState, Receives, ServesDevice, ServesNotified, TakesSent, Told, Writes, device_written, freed_by, linked, notified_by, resized, taking, with_model}
use Rattle.device_list.specs.List.{At, are_at_work, changed_at, disk_at}
use Rattle.device_list.specs.Model.{Block, Console, Entropy, Image, ModelState, Network, Serves, configured, disk_of, supplied_model, with_card, with_terminal, without_sent}
use Rattle.device_list.specs.Terminal.{Terminal, with_size}
use Rattle.board.specs.declared.event.DeviceEvent.{DeviceEvent}
use Rattle.board.specs.declared.event.DeviceEvent.TheVariants.{Plug, Read, Write, Supply, Receive, TakeSent, DropSent, SetLink, Resize, Host}
use Rattle.board.specs.declared.event.EventKind.{EventKind}
use Rattle.board.specs.declared.event.EventKind.TheVariants as event
use Rattle.board.specs.Backing.{KeepsHost}
use Rattle.board.specs.Devices.{DoesIf, DoesTo}
use Rattle.board.specs.HostedDisks.{said_of, said_there}
use Rattle.board.specs.Units.{Further, Own, SlotDisk, disk_for}
use Rattle.board.specs.Hosting.{IsNoRestore}
use Rattle.board.specs.Image.{Health}
use Rattle.board.specs.ImageDisks.{image_asked}
use Rattle.board.proofs.AtDevice.{IsLeftBy, by_image, image_left, refused_by_image}
use Rattle.board.specs.Machine.{readied}
use Rattle.board.specs.Outcome.{Outcome}
use Rattle.board.specs.Restoring.{IsTakenUp, RestoresUnless}
use Rattle.board.specs.Slot.{SlotState}
use Rattle.board.specs.World.{MayGive, MayGiveOverImage}
use Rattle.board.proofs.FurtherDevices.{of_device}
use Rattle.board.proofs.HostedDisks.{further_over}
use Rattle.board.proofs.Identities.{IsBesideDevices, given_fixed, readied_fixed}
use Rattle.board.proofs.Lists.{get_set, others_kept}
use Rattle.board.proofs.TakenUp.{host_at, taken_hosts}
use Rattle.board.proofs.Units.{disk_there}
use Rattle.board.proofs.Ways.{Looks, Passes, Rests, Says, Waits, Way, by_disk}

-- The disk stays; a snapshot says whether it is on hold; it isn't there yet; its queue is looked at, whole or in a piece; or the
-- host says this of it, as may be.
pub data DiskSteps (May : HostEvent → Type 0) (Restores : Type 0) (old new : Option HostedDisk) : Type 0 where
  Stays : new ≡ old → DiskSteps May Restores old new
  Retakes : Restores → KeepsHost old new → DiskSteps May Restores old new
  Comes : old ≡ None → DiskSteps May Restores old new
  IsLooked :
      (disk after : HostedDisk) (m m' : Memory) (w w' : WindowState) → LooksAtQueue disk m m' w w' after
      → old ≡ Some disk → new ≡ Some after → DiskSteps May Restores old new
  IsLookedTo :
      (stage : Stage) (budget : Budget) (progress : Progress) (disk after : HostedDisk) (m m' : Memory)
      (w w' : WindowState) → LooksAtQueueTo stage budget progress disk m m' w w' after
      → old ≡ Some disk → new ≡ Some after → DiskSteps May Restores old new
  IsTold :
      (said : HostEvent) → May said → (disk after : HostedDisk) (m m' : Memory) (w w' : WindowState)
      → DoesAsTold said disk m m' w w' after → old ≡ Some disk → new ≡ Some after → DiskSteps May Restores old new

-- a disk of a slot in an event
abbrev pub StepsTo : {A : Type 0} → SlotDisk → EventKind A → SlotState → SlotState → Type 0
StepsTo disk what old new =
    DiskSteps (λ said. said_of disk what ≡ Some said) (IsNoRestore what → ⊥) (disk_for disk old) (disk_for disk new)

-- ---- the slot's own

own_passes : {A : Type 0} (what : EventKind A) (old new : SlotState) → KeepsHost old.host new.host
    → (IsNoRestore what → new.host ≡ old.host) → StepsTo Own what old new
own_passes (event.Restore bytes) old new host keeps = Retakes (λ never. never) host
own_passes _ old new host keeps = Stays (keeps tt)

own_way : {A : Type 0} (what : EventKind A) (old : SlotState) (before : Health) (outcome : Outcome A)
    → Way (λ (o : Outcome A). MayGiveOverImage old what before before o) old what outcome
    → StepsTo Own what old outcome.state
own_way {A} what old before outcome (Waits waits h) = Stays (ap (λ (o : Outcome A). o.state.host) h)
own_way what old before outcome (Passes own free quiet h) =
    let kept = given_fixed old what before before outcome h in
    own_passes what old outcome.state kept.host kept.kept
own_way what old before outcome (Looks rings looks h) =
    let ready = readied what old in
    IsLooked looks.before.disk looks.after.disk ready.memory outcome.state.memory looks.before.window looks.after.window
    looks.does
    (sym ((readied_fixed what old rings).kept tt) ∙ disk_there Own ready looks.before looks.there)
    (ap (λ (s : SlotState). s.host) looks.is)
own_way {A} what old before outcome (Rests said is h) = Stays (ap (λ (o : Outcome A). o.state.host) h)
own_way what old before outcome (Says said is says h) =
    IsTold said is says.before.disk says.after.disk old.memory outcome.state.memory says.before.window says.after.window
    says.does (disk_there Own old says.before says.there) (ap (λ (s : SlotState). s.host) says.is)

own_steps : {A : Type 0} (what : EventKind A) (old : SlotState) (before after : Health) (outcome : Outcome A)
    → MayGive old what before after outcome → StepsTo Own what old outcome.state
own_steps what old before after outcome h =
    by_disk old.host old what before after outcome
    (λ given. let kept = given_fixed old what before after outcome given in
    own_passes what old outcome.state kept.host kept.kept)
    (λ image ways. own_way what old before outcome ways) h

-- ---- what stands behind the window of a further device

-- the disk of a device that is there
disk_of_device : (n : ℕ) (state : SlotState) (d : DeviceState) → slice_get state.devices n ≡ Some d
    → disk_for (Further n) state ≡ disk_of d.model
disk_of_device n state d there =
    ap (λ (found : Option DeviceState). option_and_then (λ (e : DeviceState). disk_of e.model) found) there

-- it stays, its queue is looked at, or the host says this of it, as may be
abbrev pub ModelSteps : (HostEvent → Type 0) → ModelState → ModelState → Type 0
ModelSteps May one other = DiskSteps May ⊥ (disk_of one) (disk_of other)

module _ (May : HostEvent → Type 0) where
  pub same_model : (one other : ModelState) → other ≡ one → ModelSteps May one other
  same_model one other is = Stays (ap disk_of is)

  pub disk_serves : (disk : HostedDisk) (q : ℕ) (m m' : Memory) (w w' : WindowState) (after : HostedDisk)
      → ServesDisk disk q m m' w w' after → (other : ModelState) → other ≡ Block after
      → ModelSteps May (Block disk) other
  disk_serves disk zero m m' w w' after h other is = IsLooked disk after m m' w w' h refl (ap disk_of is)
  disk_serves disk (suc q) m m' w w' after h other is =
      same_model (Block disk) other (is ∙ ap Block h.state)

  pub piece_serves : (stage : Stage) (budget : Budget) (progress : Progress) (disk : HostedDisk) (q : ℕ) (m m' : Memory)
      (w w' : WindowState) (after : HostedDisk) → ServesDiskTo stage budget progress disk q m m' w w' after
      → (other : ModelState) → other ≡ Block after → ModelSteps May (Block disk) other
  piece_serves stage budget progress disk zero m m' w w' after h other is =
      IsLookedTo stage budget progress disk after m m' w w' h refl (ap disk_of is)
  piece_serves stage budget progress disk (suc q) m m' w w' after h other is =
      same_model (Block disk) other (is ∙ ap Block h.1.state)

  serves_steps : (model : ModelState) (q : ℕ) (m m' : Memory) (w w' : WindowState) (other : ModelState)
      → Serves model q m m' w w' other → ModelSteps May model other
  serves_steps (Entropy pool) zero m m' w w' other h = Stays (ap disk_of h.is)
  serves_steps (Entropy pool) (suc q) m m' w w' other h = same_model (Entropy pool) other h.state
  serves_steps (Network card) q m m' w w' other h = Stays (ap disk_of h.is)
  serves_steps (Block disk) q m m' w w' other h = disk_serves disk q m m' w w' h.after h.serves other h.is
  serves_steps (Image disk) q m m' w w' other h = same_model (Image disk) other h.state
  serves_steps (Console terminal) q m m' w w' other h = Stays (ap disk_of h.is)

  -- a change that leaves disks alone, and then that
  changed_steps : (one changed other : ModelState) → disk_of changed ≡ disk_of one → ModelSteps May changed other
      → ModelSteps May one other
  changed_steps one changed other same steps =
      subst (λ (disk : Option HostedDisk). DiskSteps May ⊥ disk (disk_of other)) same steps

-- what changes the other types leaves a disk
abbrev pub LeavesDisks : (ModelState → ModelState) → Type 0
LeavesDisks change = (model : ModelState) → disk_of (change model) ≡ disk_of model

pub cards_leave : (change : Card → Card) → LeavesDisks (with_card change)
cards_leave change (Network card) = refl
cards_leave change _ = refl

terminals_leave : (change : Terminal → Terminal) → LeavesDisks (with_terminal change)
terminals_leave change (Console terminal) = refl
terminals_leave change _ = refl

pub sent_leaves : LeavesDisks without_sent
sent_leaves (Network card) = refl
sent_leaves (Console terminal) = refl
sent_leaves _ = refl

pub supplied_leaves : (bytes : List ℕ) → LeavesDisks (λ model. supplied_model model bytes)
supplied_leaves bytes (Entropy pool) = refl
supplied_leaves bytes (Console terminal) = refl
supplied_leaves bytes _ = refl

configured_leaves : (offset value : ℕ) → LeavesDisks (configured offset value)
configured_leaves offset value (Console terminal) = refl
configured_leaves offset value _ = refl

-- ---- a further device

-- what there is of device n behind what was done to device k, if device n was this
pub record Left {A : Type 0} (k : ℕ) (what : DeviceEvent A) (n : ℕ) (d : DeviceState) (new : List DeviceState)
    : Type 0 where
  pub after : DeviceState
  pub there : slice_get new n ≡ Some after
  pub steps : ModelSteps (λ said. (k ≡ n) × (said_there what ≡ Some said)) d.model after.model

module _ {A : Type 0} (k : ℕ) (what : DeviceEvent A) (n : ℕ) (d : DeviceState) where
  abbrev pub May : HostEvent → Type 0
  May said = (k ≡ n) × (said_there what ≡ Some said)

  pub unchanged : (old new : List DeviceState) → slice_get old n ≡ Some d → new ≡ old → Left k what n d new
  unchanged old new there is = record {
    after = d;
    there = ap (λ (devices : List DeviceState). slice_get devices n) is ∙ there;
    steps = same_model May d.model d.model refl;
  }

  -- device k became this
  pub at_left : (old new : List DeviceState) (before after : DeviceState) → slice_get old n ≡ Some d
      → slice_get old k ≡ Some before → new ≡ slice_set old k after
      → (k ≡ n → ModelSteps May before.model after.model) → Left k what n d new
  at_left old new before after there was is steps =
      elim (eqb_tells k n) [
        | inl same ↦
            let here : slice_get old n ≡ Some before =
            ap (λ (j : ℕ). slice_get old j) (sym same.1) ∙ was in
            let this : before ≡ d = same_Some before d (sym here ∙ there) in
            record {
              after = after;
              there = ap (λ (devices : List DeviceState). slice_get devices n) is
                  ∙ (ap (λ (j : ℕ). slice_get (slice_set old j after) n) same.1 ∙ get_set old n before after here);
              steps = subst (λ (x : DeviceState). ModelSteps May x.model after.model) this (steps same.1);
            }
        | inr other ↦
            record {
              after = d;
              there = ap (λ (devices : List DeviceState). slice_get devices n) is
                  ∙ (others_kept old k after n (λ same. other.1 (sym same)) ∙ there);
              steps = same_model May d.model d.model refl;
            }
      ]

  done_left : (Changes : Memory → Memory → DeviceState → DeviceState → Type 0) (m m' : Memory)
      (old new : List DeviceState) → slice_get old n ≡ Some d → At Changes k m m' old new
      → ((before after : DeviceState) → k ≡ n → Changes m m' before after → ModelSteps May before.model after.model)
      → Left k what n d new
  done_left Changes m m' old new there at steps =
      at_left old new at.before at.after there at.there at.is (λ same. steps at.before at.after same at.changes)

  if_left : (cause : Bool) (Changes : Memory → Memory → DeviceState → DeviceState → Type 0) (m m' : Memory)
      (old new : List DeviceState) → slice_get old n ≡ Some d → DoesIf cause Changes k m m' old new
      → ((before after : DeviceState) → k ≡ n → Changes m m' before after → ModelSteps May before.model after.model)
      → Left k what n d new
  if_left true Changes m m' old new there at steps = done_left Changes m m' old new there at steps
  if_left false Changes m m' old new there set steps = unchanged old new there set.devices

  pub changed_left : (change : DeviceState → DeviceState) (old new : List DeviceState) → slice_get old n ≡ Some d
      → new ≡ changed_at change k old → ((e : DeviceState) → ModelSteps May e.model (change e).model)
      → Left k what n d new
  changed_left change old new there is steps = by_found (slice_get old k) refl is
    where
      by_found : (found : Option DeviceState) → slice_get old k ≡ found
          → new ≡ option_map_or (λ e. slice_set old k (change e)) found old → Left k what n d new
      by_found None was is = unchanged old new there is
      by_found (Some e) was is = at_left old new e (change e) there was is (λ same. steps e)

  appended : (old new more : List DeviceState) → slice_get old n ≡ Some d → new ≡ old ++ more → Left k what n d new
  appended old new more there is = record {
    after = d;
    there = ap (λ (devices : List DeviceState). slice_get devices n) is ∙ in_front old n there;
    steps = same_model May d.model d.model refl;
  }
    where
      in_front : (devices : List DeviceState) (i : ℕ) → slice_get devices i ≡ Some d
          → slice_get (devices ++ more) i ≡ Some d
      in_front [] i there = absurd (cc there)
      in_front (e ∷ devices) zero there = there
      in_front (e ∷ devices) (suc i) there = in_front devices i there

-- what its driver writes changes it so, and then a queue that is notified is served
pub taking_leaves : (action : Action) → LeavesDisks (taking action)
taking_leaves (ConfigWrite offset width value) model = configured_leaves offset value model
taking_leaves _ model = refl

notified_steps : (May : HostEvent → Type 0) (q : Option ℕ) (m m' : Memory) (d d' : DeviceState)
    → ServesNotified q m m' d d' → ModelSteps May d.model d'.model
notified_steps May (Some q) m m' d d' h = serves_steps May d.model q m m' d.window d'.window d'.model h
notified_steps May None m m' d d' h = same_model May d.model d'.model (ap (λ (e : DeviceState). e.model) h.1)

written_steps : (May : HostEvent → Type 0) (offset width value : ℕ) (m m' : Memory) (d d' : DeviceState)
    → Writes offset width value m m' d d' → ModelSteps May d.model d'.model
written_steps May offset width value m m' d d' h =
    let action = action_of offset width value d.window in
    changed_steps May d.model (taking action d.model) d'.model (taking_leaves action d.model)
    (notified_steps May (notified_by action) m m' (device_written offset width value m d) d' h)

-- the host changes it so, and then its queue is served
after_steps : (May : HostEvent → Type 0) (change : ModelState → ModelState) (q : ℕ) (m m' : Memory)
    (d d' : DeviceState) → LeavesDisks change → ServesDevice q m m' (with_model change d) d'
    → ModelSteps May d.model d'.model
after_steps May change q m m' d d' leaves h =
    changed_steps May d.model (change d.model) d'.model (leaves d.model)
    (serves_steps May (change d.model) q m m' d.window d'.window d'.model h)

-- the host takes what was sent, and then the queue is served for which there is room
sent_steps : (May : HostEvent → Type 0) (m m' : Memory) (d d' : DeviceState) → TakesSent m m' d d'
    → ModelSteps May d.model d'.model
sent_steps May m m' d d' h =
    changed_steps May d.model (without_sent d.model) d'.model (sent_leaves d.model)
    (notified_steps May (freed_by d) m m' (with_model without_sent d) d' h)

told_steps : (May : HostEvent → Type 0) (said : HostEvent) (m m' : Memory) (d d' : DeviceState) → May said
    → Told said m m' d d' → ModelSteps May d.model d'.model
told_steps May said m m' d d' may told =
    IsTold said may told.before told.after m m' d.window d'.window told.does (ap disk_of told.there) (ap disk_of told.is)

does_left : {A : Type 0} (k n : ℕ) (what : DeviceEvent A) (d : DeviceState) (m m' : Memory)
    (old new : List DeviceState) → slice_get old n ≡ Some d → DoesTo what k m m' old new → Left k what n d new
does_left k n (Plug spec) d m m' old new there h = appended k (Plug spec) n d old new _ there h.devices
does_left k n (SetLink up) d m m' old new there h =
    changed_left k (SetLink up) n d (linked up) old new there h.devices (λ e.
    Stays (cards_leave (with_link up) e.model))
does_left k n (Resize cols rows) d m m' old new there h =
    changed_left k (Resize cols rows) n d (resized cols rows) old new there h.devices (λ e.
    Stays (terminals_leave (with_size cols rows) e.model))
does_left {A} k n (Receive frame) d m m' old new there h =
    if_left k (Receive frame) n d _ (Receives frame) m m' old new there h (λ e e' same received.
    after_steps _ (with_card (with_frame frame)) 0 m m' e e' (cards_leave (with_frame frame)) received)
does_left {A} k n TakeSent d m m' old new there h =
    if_left k TakeSent n d _ TakesSent m m' old new there h (λ e e' same taken. sent_steps _ m m' e e' taken)
does_left {A} k n DropSent d m m' old new there h =
    if_left k DropSent n d _ TakesSent m m' old new there h (λ e e' same taken. sent_steps _ m m' e e' taken)
does_left {A} k n (Write offset width value) d m m' old new there h =
    if_left k (Write offset width value) n d _ (Writes offset width value) m m' old new there h
    (λ e e' same wrote. written_steps _ offset width value m m' e e' wrote)
does_left {A} k n (Host said) d m m' old new there h =
    if_left k (Host said) n d _ (Told said) m m' old new there h (λ e e' same told.
    told_steps _ said m m' e e' (same, refl) told)
does_left {A} k n (Supply bytes) d m m' old new there h =
    at_left k (Supply bytes) n d old new h.before h.after there h.there h.is (λ same.
    after_steps _ (λ model. supplied_model model bytes) 0 m m' h.before h.after (supplied_leaves bytes) h.changes)
does_left {A} k n (Read offset width) d m m' old new there h =
    at_left k (Read offset width) n d old new h.before h.after there h.there h.is (λ same.
    same_model _ h.before.model h.after.model (ap (λ (e : DeviceState). e.model) h.changes.device))

-- ---- a further disk

-- what the host says of the device it says of the disk
said_here : {A : Type 0} (k n : ℕ) (what : DeviceEvent A) (said : HostEvent) → k ≡ n → said_there what ≡ Some said
    → said_of (Further n) (event.Device k what) ≡ Some said
said_here k n what said same told =
    elim (eqb_tells k n) [
      | inl is ↦ ap (λ (b : Bool). if b then said_there what else None) is.0 ∙ told
      | inr other ↦ absurd (other.1 same)
    ]

pub model_steps : {A : Type 0} (k n : ℕ) (what : DeviceEvent A) (old new : SlotState) (d : DeviceState)
    → slice_get old.devices n ≡ Some d → Left k what n d new.devices
    → StepsTo (Further n) (event.Device k what) old new
model_steps {A} k n what old new d there left = by_steps left.steps
  where
    was : disk_for (Further n) old ≡ disk_of d.model
    was = disk_of_device n old d there

    is : disk_for (Further n) new ≡ disk_of left.after.model
    is = disk_of_device n new left.after left.there

    by_steps : ModelSteps (λ said. (k ≡ n) × (said_there what ≡ Some said)) d.model left.after.model
        → StepsTo (Further n) (event.Device k what) old new
    by_steps (Stays kept) = Stays (is ∙ (kept ∙ sym was))
    by_steps (Retakes never kept) = absurd never
    by_steps (Comes none) = Comes (was ∙ none)
    by_steps (IsLooked disk after m m' w w' looks from to) =
        IsLooked disk after m m' w w' looks (was ∙ from) (is ∙ to)
    by_steps (IsLookedTo stage budget progress disk after m m' w w' looks from to) =
        IsLookedTo stage budget progress disk after m m' w w' looks (was ∙ from) (is ∙ to)
    by_steps (IsTold said may disk after m m' w w' told from to) =
        IsTold said (said_here k n what said may.0 may.1) disk after m m' w w' told (was ∙ from) (is ∙ to)

pub further_stays : {A : Type 0} (n : ℕ) (what : EventKind A) (old new : SlotState) → new.devices ≡ old.devices
    → StepsTo (Further n) what old new
further_stays n what old new is = Stays (ap (disk_at n) is)

pub comes : {A : Type 0} (n : ℕ) (what : EventKind A) (old new : SlotState) → slice_get old.devices n ≡ None
    → StepsTo (Further n) what old new
comes n what old new none =
    Comes (ap (λ (f : Option DeviceState). option_and_then (λ (e : DeviceState). disk_of e.model) f) none)

image_steps : {A : Type 0} (n k : ℕ) (what : DeviceEvent A) (old new : SlotState) (d : DeviceState) (disk : BlockDevice)
    → slice_get old.devices n ≡ Some d → IsLeftBy k old.devices new.devices disk
    → StepsTo (Further n) (event.Device k what) old new
image_steps n k what old new d disk there left =
    model_steps k n what old new d there
    (at_left k what n d old.devices new.devices left.before left.after there left.there left.is
    (λ same. same_model _ left.before.model left.after.model left.model))

device_steps : {A : Type 0} (n k : ℕ) (what : DeviceEvent A) (old : SlotState) (before after : Health)
    (outcome : Outcome A) (found : Option DeviceState) → slice_get old.devices n ≡ found
    → MayGiveOverImage old (event.Device k what) before after outcome
    → StepsTo (Further n) (event.Device k what) old outcome.state
device_steps n k what old before after outcome None none h = comes n (event.Device k what) old outcome.state none
device_steps {A} n k what old before after outcome (Some d) there (inl served) =
    by_image k what old before after outcome (image_asked k what old)
    (λ none given. of_device k what old (λ (o : Outcome A). StepsTo (Further n) (event.Device k what) old o.state) before after
    outcome given (further_stays n (event.Device k what) old old refl)
    (λ reply is step. model_steps k n what old outcome.state d there
    (does_left k n what d old.memory outcome.state.memory old.devices outcome.state.devices there step.at)))
    (λ disk asked h. image_steps n k what old outcome.state d disk there
    (image_left k what old outcome.state disk _ before after asked h.serves)) served.alike
device_steps {A} n k what old before after outcome (Some d) there (inr refused) =
    refused_by_image k what old before after outcome (image_asked k what old)
    (λ none unmet. further_stays n (event.Device k what) old outcome.state
    (ap (λ (o : Outcome A). o.state.devices) unmet.unchanged))
    (λ disk asked h. image_steps n k what old outcome.state d disk there
    (image_left k what old outcome.state disk _ before after asked h.service.serves)) refused

-- ---- a restore

taken_up : (A : Type 0) (n : ℕ) (old new : SlotState) (bytes : List ℕ) → IsTakenUp old bytes new
    → StepsTo {A = A} (Further n) (event.Restore bytes) old new
taken_up A n old new bytes h =
    let takes = h.restored.takes_up in
    Retakes (λ never. never) (host_at n old.devices new.devices
    (taken_hosts old.memory h.restored.saved.devices.items h.restored.waiting old.devices new.devices takes.devices))

restore_steps : {A : Type 0} (works : Bool) (n : ℕ) (bytes : List ℕ) (old : SlotState) (outcome : Outcome A)
    → RestoresUnless works old bytes outcome → StepsTo {A = A} (Further n) (event.Restore bytes) old outcome.state
restore_steps {A} true n bytes old outcome h =
    further_stays {A = A} n (event.Restore bytes) old outcome.state (ap (λ (o : Outcome A). o.state.devices) h)
restore_steps {A} false n bytes old outcome (inl h) =
    taken_up A n old outcome.state bytes h.0
restore_steps {A} false n bytes old outcome (inr h) =
    further_stays {A = A} n (event.Restore bytes) old outcome.state (ap (λ (o : Outcome A). o.state.devices) h.1)

restore_over : {A : Type 0} (n : ℕ) (bytes : List ℕ) (old : SlotState) (before after : Health) (outcome : Outcome A)
    → MayGiveOverImage old (event.Restore bytes) before after outcome
    → StepsTo {A = A} (Further n) (event.Restore bytes) old outcome.state
restore_over n bytes old before after outcome (inl served) =
    restore_steps (are_at_work old.devices) n bytes old outcome served.alike.alike
restore_over n bytes old before after outcome (inr refused) = absurd refused

-- ---- any other event leaves the further devices

way_devices : {A : Type 0} (what : EventKind A) (old : SlotState) (before : Health) (outcome : Outcome A)
    → IsBesideDevices what → Way (λ (o : Outcome A). MayGiveOverImage old what before before o) old what outcome
    → outcome.state.devices ≡ old.devices
way_devices {A} what old before outcome beside (Waits waits h) = ap (λ (o : Outcome A). o.state.devices) h
way_devices what old before outcome beside (Passes own free quiet h) =
    (given_fixed old what before before outcome h).devices beside
way_devices what old before outcome beside (Looks rings looks h) =
    ap (λ (s : SlotState). s.devices) looks.is ∙ (readied_fixed what old rings).devices tt
way_devices {A} what old before outcome beside (Rests said is h) = ap (λ (o : Outcome A). o.state.devices) h
way_devices what old before outcome beside (Says said is says h) = ap (λ (s : SlotState). s.devices) says.is

beside_devices : {A : Type 0} (what : EventKind A) (old : SlotState) (before after : Health) (outcome : Outcome A)
    → IsBesideDevices what → MayGive old what before after outcome → outcome.state.devices ≡ old.devices
beside_devices what old before after outcome beside h =
    by_disk old.host old what before after outcome
    (λ given. (given_fixed old what before after outcome given).devices beside)
    (λ image ways. way_devices what old before outcome beside ways) h

restore_way : {A : Type 0} (n : ℕ) (bytes : List ℕ) (old : SlotState) (before : Health) (outcome : Outcome A)
    → Way (λ (o : Outcome A). MayGiveOverImage old (event.Restore bytes) before before o) old (event.Restore bytes)
    outcome → StepsTo {A = A} (Further n) (event.Restore bytes) old outcome.state
restore_way {A} n bytes old before outcome (Waits waits h) =
    further_stays {A = A} n (event.Restore bytes) old outcome.state (ap (λ (o : Outcome A). o.state.devices) h)
restore_way n bytes old before outcome (Passes own free quiet h) = restore_over n bytes old before before outcome h
restore_way n bytes old before outcome (Looks rings looks h) = absurd (cc rings)
restore_way n bytes old before outcome (Rests said is h) = absurd (cc is)
restore_way n bytes old before outcome (Says said is says h) = absurd (cc is)

further_steps : {A : Type 0} (n : ℕ) (what : EventKind A) (old : SlotState) (before after : Health)
    (outcome : Outcome A) → MayGive old what before after outcome → StepsTo (Further n) what old outcome.state
further_steps n (event.Device k what) old before after outcome h =
    further_over k what old before after outcome
    (λ one other given. device_steps n k what old one other outcome (slice_get old.devices n) refl given) h
further_steps n (event.Restore bytes) old before after outcome h =
    by_disk old.host old (event.Restore bytes) before after outcome
    (λ given. restore_over n bytes old before after outcome given)
    (λ image ways. restore_way n bytes old before outcome ways) h
further_steps n what old before after outcome h =
    further_stays n what old outcome.state (beside_devices what old before after outcome tt h)

-- in each event of the slot
pub steps : {A : Type 0} (disk : SlotDisk) (what : EventKind A) (old : SlotState) (before after : Health)
    (outcome : Outcome A) → MayGive old what before after outcome → StepsTo disk what old outcome.state
steps Own what old before after outcome h = own_steps what old before after outcome h
steps (Further n) what old before after outcome h = further_steps n what old before after outcome h
