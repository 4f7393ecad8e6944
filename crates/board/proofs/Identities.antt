-- What no event changes: an identity, and over an image who has a guest's disk. Only a restore changes whether the
-- slot is on hold, and only that and what is done to them the further devices.
use Rattle.std.proofs.Common.{◌≡◌, inl, inr, ℕ, false, List, [], ◌∷◌, Option, Some, None, refl, sym, ap, subst, ◌∙◌, true}
use Rattle.std.specs.Prelude.{⊤}
use Rattle.std.specs.Option.{option_map, option_map_or}
use Rattle.std.proofs.Math.Seq.{map-set_same}
use Rattle.board.specs.declared.event.SlotWindow.{SlotWindow}
use Rattle.board.specs.declared.event.SlotWindow.TheVariants.{Block, Console}
use Rattle.board.specs.declared.event.Event.{Event}
use Rattle.board.specs.declared.event.EventKind.{EventKind}
use Rattle.board.specs.declared.event.EventKind.TheVariants.{Write, MemRead, MemWrite, Input, Restore, Device}
use Rattle.board.specs.declared.reply.Record.{Record}
use Rattle.board.specs.declared.pause.Service.TheVariants as service
use Rattle.board.specs.Backing.{KeepsHost, held_disk}
use Rattle.board.specs.Hosting.{IsNoRestore, notifies_block}
use Rattle.board.specs.Units.{DoesToDisk, Own}
use Rattle.guest_memory.specs.Memory.{Memory}
use Rattle.mmio_window.specs.Window.{WindowState}
use Rattle.block_device.specs.declared.device.BlockDevice.{BlockDevice}
use Rattle.hosted_disk.specs.Disk.{HostedDisk, LooksAtQueue}
use Rattle.hosted_disk.specs.Told.{DoesAsTold}
use Rattle.device_list.specs.Device.{DeviceState}
use Rattle.board.specs.Image.{Health}
use Rattle.board.specs.ImageDisks.{image_asked}
use Rattle.board.specs.Line.{Move, IsLine}
use Rattle.board.specs.Machine.{task_at, with_write}
use Rattle.board.specs.Outcome.{Outcome}
use Rattle.board.specs.Slot.{SlotState}
use Rattle.board.specs.Task.{Task, Nothing, Serve, PutOut, Finishes}
use Rattle.board.specs.World.{World, MayGive, Step, identities_of}
use Rattle.std.proofs.lemmas.Option.{get_or_from_slice_get}
use Rattle.board.proofs.AtDevice.{by_image}
use Rattle.board.proofs.FurtherDevices.{device_rest}
use Rattle.board.proofs.Replies.{of_read, of_write}
use Rattle.device_list.specs.List.{are_at_work}
use Rattle.board.proofs.Restoring.{restored_host, restored_named}
use Rattle.board.proofs.Refusals.{Failed, FailedImage, Unput, Unread, Unsent, was_refused}
use Rattle.board.specs.Machine.{GivesOverImage, readied}
use Rattle.board.specs.World.{MayGiveOverImage}
use Rattle.board.proofs.Seats.{by_slot}
use Rattle.board.proofs.Units.{disk_there}
use Rattle.board.proofs.Ways.{Looks, Passes, Rests, Says, Waits, Way, by_disk}

-- an event that does nothing to a further device
abbrev pub IsBesideDevices : {A : Type 0} → EventKind A → Type 0
IsBesideDevices (Restore bytes) = ⊥
IsBesideDevices (Device n what) = ⊥
IsBesideDevices what = ⊤

-- both stay, and whether the disk is on hold, and the further devices, where the event keeps those
pub record Fixed (Keeps Beside : Type 0) (old new : SlotState) : Type 0 where
  pub identity : new.identity ≡ old.identity
  pub host : KeepsHost old.host new.host
  pub kept : Keeps → new.host ≡ old.host
  pub devices : Beside → new.devices ≡ old.devices

-- an outcome that is this one has them
fixed : {A Keeps Beside : Type 0} (state : SlotState) (outcome wanted : Outcome A) → outcome ≡ wanted
    → wanted.state.identity ≡ state.identity → wanted.state.host ≡ state.host
    → (Beside → wanted.state.devices ≡ state.devices) → Fixed Keeps Beside state outcome.state
fixed {A} state outcome wanted is identity host devices = record {
  identity = ap (λ (o : Outcome A). o.state.identity) is ∙ identity;
  host = ap (option_map (held_disk false)) (ap (λ (o : Outcome A). o.state.host) is ∙ host);
  kept = λ keeps. ap (λ (o : Outcome A). o.state.host) is ∙ host;
  devices = λ beside. ap (λ (o : Outcome A). o.state.devices) is ∙ devices beside;
}

-- where they are the same to the letter
alike : {Keeps Beside : Type 0} (state new : SlotState) → new.identity ≡ state.identity → new.host ≡ state.host
    → new.devices ≡ state.devices → Fixed Keeps Beside state new
alike state new identity host devices = record {
  identity = identity;
  host = ap (option_map (held_disk false)) host;
  kept = λ keeps. host;
  devices = λ beside. devices;
}

-- a write of a window's registers
write_fixed : {Keeps Beside : Type 0} (window : SlotWindow) (offset width value : ℕ) (state : SlotState)
    → Fixed Keeps Beside state (with_write window offset width value state)
write_fixed Block offset width value state = alike state _ refl refl refl
write_fixed Console offset width value state = alike state _ refl refl refl

-- and so before the block device looks at its queue
pub readied_fixed : {A : Type 0} (what : EventKind A) (state : SlotState) → notifies_block what state ≡ true
    → Fixed ⊤ ⊤ state (readied what state)
readied_fixed (Write window offset width value) state rings = write_fixed window offset width value state
readied_fixed _ state rings = absurd (cc (rings))

behind : {Keeps Beside : Type 0} (a b c : SlotState) → Fixed Keeps Beside a b → Fixed Keeps Beside b c
    → Fixed Keeps Beside a c
behind a b c x y = record {
  identity = y.identity ∙ x.identity;
  host = y.host ∙ x.host;
  kept = λ keeps. y.kept keeps ∙ x.kept keeps;
  devices = λ beside. y.devices beside ∙ x.devices beside;
}

-- what a device does then, where nothing is refused
finished_fixed : {A Keeps Beside : Type 0} (task : Task) (state : SlotState) (old new : Health) (outcome : Outcome A)
    → Finishes task state old new outcome → Fixed Keeps Beside state outcome.state
finished_fixed Nothing state old new outcome h = fixed state outcome _ h.alike refl refl (λ beside. refl)
finished_fixed (PutOut byte) state old new outcome h = fixed state outcome _ h.alike refl refl (λ beside. refl)
finished_fixed (Serve service.Block) state old new outcome h =
    fixed state outcome _ h.is refl refl (λ beside. refl)
finished_fixed (Serve (service.Further n q)) state old new outcome h = absurd h
finished_fixed _ state old new outcome h = fixed state outcome _ h.is refl refl (λ beside. refl)

-- what a further disk over the image leaves
image_fixed : {Keeps : Type 0} (state new : SlotState) (memory : Memory) (bytes : List ℕ) (devices : List DeviceState)
    → new ≡ record state { memory = memory; spare_bytes = bytes; devices = devices } → Fixed Keeps ⊥ state new
image_fixed state new memory bytes devices is = record {
  identity = ap (λ (s : SlotState). s.identity) is;
  host = ap (λ (s : SlotState). option_map (held_disk false) s.host) is;
  kept = λ keeps. ap (λ (s : SlotState). s.host) is;
  devices = λ beside. absurd beside;
}

-- an event of a slot over an image
served_fixed : {A : Type 0} (state : SlotState) (what : EventKind A) (old new : Health) (outcome : Outcome A)
    → GivesOverImage state what old new outcome → Fixed (IsNoRestore what) (IsBesideDevices what) state outcome.state
served_fixed state (Write window offset width value) old new outcome h =
    behind state (with_write window offset width value state) outcome.state
    (write_fixed window offset width value state)
    (finished_fixed (task_at window offset width value state) (with_write window offset width value state) old
    new outcome h)
served_fixed {A} state (MemRead addr len) old new outcome h =
    of_read (λ (o : Outcome A). Fixed ⊤ ⊤ state o.state) state addr len outcome h.alike
    (alike state state refl refl refl) (alike state state refl refl refl)
served_fixed {A} state (MemWrite addr bytes) old new outcome h =
    of_write (λ (o : Outcome A). Fixed ⊤ ⊤ state o.state) state addr bytes outcome h.alike
    (alike state _ refl refl refl) (alike state state refl refl refl)
served_fixed state (Input bytes) old new outcome h = fixed state outcome _ h.is refl refl (λ beside. refl)
served_fixed state (Restore bytes) old new outcome h = record {
  identity = restored_named (are_at_work state.devices) state bytes outcome h.alike;
  host = restored_host (are_at_work state.devices) state bytes outcome h.alike;
  kept = λ keeps. absurd keeps;
  devices = λ beside. absurd beside;
}
served_fixed state (Device n what) old new outcome h =
    by_image n what state old new outcome (image_asked n what state)
    (λ none given. fixed state outcome _ (device_rest n what state old new outcome given) refl refl
    (λ beside. absurd beside))
    (λ disk asked served. image_fixed state outcome.state _ _ _ served.serves.is) h
served_fixed state _ old new outcome h = fixed state outcome _ h.alike refl refl (λ beside. refl)

pub given_fixed : {A : Type 0} (state : SlotState) (what : EventKind A) (old new : Health)
    (outcome : Outcome A) → MayGiveOverImage state what old new outcome
    → Fixed (IsNoRestore what) (IsBesideDevices what) state outcome.state
given_fixed state what old new outcome (inl h) = served_fixed state what old new outcome h.alike
given_fixed {A} state what old new outcome (inr h) =
    elim (was_refused state what old new outcome h) [
      | Failed block h ↦ fixed state outcome _ h.service.is refl refl (λ beside. refl)
      | FailedImage n disk asked is by h ↦
          subst (λ (k : EventKind A). Fixed (IsNoRestore k) (IsBesideDevices k) state outcome.state) (sym is)
          (image_fixed state outcome.state _ _ _ h.service.serves.is)
      | Unsent console puts h ↦ fixed state outcome _ h.is refl refl (λ beside. refl)
      | Unput console puts h ↦ fixed state outcome _ h.alike refl refl (λ beside. refl)
      | Unread is h ↦ fixed state outcome _ h.alike refl refl (λ beside. refl)
    ]

-- ---- a guest whose disk the host serves

-- what GET_ID gives
abbrev name_of : Option HostedDisk → List ℕ → List ℕ
name_of host identity = option_map_or (λ (disk : HostedDisk). disk.device.identity) host identity

abbrev name : SlotState → List ℕ
name state = name_of state.host state.identity

-- which a hold has no part in
unheld : (host : Option HostedDisk) (identity : List ℕ)
    → name_of (option_map (held_disk false) host) identity ≡ name_of host identity
unheld None identity = refl
unheld (Some disk) identity = refl

fixed_name : {Keeps Beside : Type 0} (old new : SlotState) → Fixed Keeps Beside old new → name new ≡ name old
fixed_name old new is =
    sym (unheld new.host new.identity)
    ∙ (ap (λ (host : Option HostedDisk). name_of host new.identity) is.host
    ∙ (ap (name_of (option_map (held_disk false) old.host)) is.identity ∙ unheld old.host old.identity))

-- nor what the disk does
does_name : (Does : HostedDisk → Memory → Memory → WindowState → WindowState → HostedDisk → Type 0)
    (old new : SlotState) (h : DoesToDisk Does Own old new) → h.after.disk.device ≡ h.before.disk.device
    → name new ≡ name old
does_name Does old new h device =
    ap name h.is
    ∙ (ap (λ (d : BlockDevice). d.identity) device
    ∙ ap (λ (host : Option HostedDisk). name_of host old.identity) (sym (disk_there Own old h.before h.there)))

on_host_named : {A : Type 0} (state : SlotState) (what : EventKind A) (old : Health) (outcome : Outcome A)
    → Way (λ (o : Outcome A). MayGiveOverImage state what old old o) state what outcome
    → name outcome.state ≡ name state
on_host_named state what old outcome (Waits waits h) = ap (λ o. name o.state) h
on_host_named state what old outcome (Passes own free quiet h) =
    fixed_name state outcome.state (given_fixed state what old old outcome h)
on_host_named state what old outcome (Looks rings looks h) =
    does_name LooksAtQueue (readied what state) outcome.state looks
    (ap (λ (disk : HostedDisk). disk.device) looks.does.is)
    ∙ fixed_name state (readied what state) (readied_fixed what state rings)
on_host_named state what old outcome (Rests said is h) = ap (λ o. name o.state) h
on_host_named state what old outcome (Says said is says h) =
    does_name (DoesAsTold said) state outcome.state says (ap (λ (disk : HostedDisk). disk.device) says.does.is)

given_named : {A : Type 0} (state : SlotState) (what : EventKind A) (old new : Health) (outcome : Outcome A)
    → MayGive state what old new outcome → name outcome.state ≡ name state
given_named state what old new outcome h =
    by_disk state.host state what old new outcome
    (λ given. fixed_name state outcome.state (given_fixed state what old new outcome given))
    (λ image ways. on_host_named state what old outcome ways) h

-- an event of the board
step_named : {A : Type 0} (old : World) (event : Event A) (written : Record A) (new : World)
    → Step old event written new → identities_of new.slots ≡ identities_of old.slots
step_named old event written new step =
    by_slot old event written new (λ missing. ap (λ (w : World). identities_of w.slots) missing.same)
    (λ state there own. ap identities_of own.slots
    ∙ map-set_same name old.slots event.slot own.outcome.state state
    (given_named state event.what old.health new.health own.outcome own.given
    ∙ ap name (sym (get_or_from_slice_get old.slots event.slot state state there)))) step

-- and of all events of a line
pub line_named : {A : Type 0} (old new : World) (moves : List (Move A)) → IsLine old moves new
    → identities_of new.slots ≡ identities_of old.slots
line_named old new [] is = ap (λ (w : World). identities_of w.slots) is
line_named old new (move ∷ moves) line = line_named move.after new moves line.1
    ∙ step_named old move.event move.written move.after line.0
