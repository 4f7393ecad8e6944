-- What becomes of a disk that the host serves in an event of its slot, whether it is the slot's own or a further one.
use Rattle.std.proofs.Common.{◌≡◌, inl, inr, ℕ, Bool, true, false, Option, Some, None, List, refl, sym, ◌∙◌, ap, subst}
use Rattle.std.specs.Prelude.{if◌then◌else◌, slice_set, unwrap_or}
use Rattle.std.specs.Option.{option_and_then, option_map, option_map_or}
use Rattle.std.proofs.lemmas.Bool.Decides.{eqb_tells}
use Rattle.std.proofs.lemmas.Option.{same_Some}
use Rattle.block_device.specs.declared.operation.HostEvent.{HostEvent}
use Rattle.block_device.specs.Tags.{is_any}
use Rattle.hosted_disk.specs.Disk.{HostedDisk}
use Rattle.hosted_disk.specs.Told.{has_effect}
use Rattle.device_list.specs.Device.{DeviceState, Told}
use Rattle.device_list.specs.List.{At}
use Rattle.device_list.specs.Model.{Block, ModelState, disk_of}
use Rattle.board.specs.declared.event.DeviceEvent.{DeviceEvent}
use Rattle.board.specs.declared.event.DeviceEvent.TheVariants as device
use Rattle.board.specs.declared.event.EventKind.{EventKind}
use Rattle.board.specs.declared.event.EventKind.TheVariants.{Device}
use Rattle.board.specs.declared.reply.Reply.{Reply}
use Rattle.board.specs.Backing.{tags_in}
use Rattle.board.specs.Devices.{DoesIf, GivesByDevice, GivesDevice, IsDeviceStep, has_effect_at, told_reply}
use Rattle.board.specs.HostedDisks.{said_of, said_there}
use Rattle.board.specs.Units.{DiskUnit, DoesAsSaid, Further, Own, SlotDisk, unit_at, unit_of}
use Rattle.board.specs.Hosting.{HostOrGives, told_in}
use Rattle.board.specs.Image.{Health}
use Rattle.board.specs.Outcome.{Outcome, replies}
use Rattle.board.specs.Slot.{SlotState}
use Rattle.board.specs.World.{MayGive, MayGiveBy, MayGiveOverImage}
use Rattle.board.proofs.Units.{behind_window, disk_there}
use Rattle.board.proofs.Ways.{Looks, Passes, Rests, Says, Waits, Way, by_disk, must_by, told_says}

-- ---- the slot's own does as its host says

own_says : {A : Type 0} (host : Option HostedDisk) (old : SlotState) (unit : DiskUnit) (said : HostEvent)
    (what : EventKind A) (before after : Health) (outcome : Outcome A) → old.host ≡ host → host ≡ Some unit.disk
    → has_effect said unit.disk ≡ true → told_in what ≡ Some said
    → MayGiveBy host old what before after outcome → DoesAsSaid Own said old outcome.state
own_says None old unit said what before after outcome is there effect told h = absurd (cc there)
own_says {A} (Some disk) old unit said what before after outcome is there effect told h =
    let Beside : Outcome A → Type 0 = λ (o : Outcome A). MayGiveOverImage old what before before o in
    told_says (option_map_or (has_effect said) old.host false) said old outcome
    (ap (λ (k : Option HostedDisk). option_map_or (has_effect said) k false) (is ∙ there) ∙ effect)
    (subst (λ (f : Option HostEvent). HostOrGives Beside f old what outcome) told h.gives)

-- ---- and so does a further one

-- what is done to a further device is never the own disk's
pub further_over : {A P : Type 0} (n : ℕ) (what : DeviceEvent A) (old : SlotState) (before after : Health)
    (outcome : Outcome A)
    → ((one other : Health) → MayGiveOverImage old (Device n what) one other outcome → P)
    → MayGive old (Device n what) before after outcome → P
further_over {A} {P} n what old before after outcome over h =
    by_disk old.host old (Device n what) before after outcome (λ given. over before after given)
    (λ image ways. by_way ways) h
  where
    by_way : Way (λ (o : Outcome A). MayGiveOverImage old (Device n what) before before o) old (Device n what) outcome
        → P
    by_way (Passes own free quiet h) = over before before h
    by_way (Waits waits h) = let must = must_by (is_any (tags_in old.host)) false waits in absurd (cc must)
    by_way (Looks rings looks h) = absurd (cc rings)
    by_way (Rests said tells h) = absurd (cc tells)
    by_way (Says said tells does h) = absurd (cc tells)

unit_in : (d : DeviceState) (disk : HostedDisk) → d.model ≡ Block disk
    → unit_of d ≡ Some (behind_window d.window disk)
unit_in d disk is = ap (λ (model : ModelState). option_map (behind_window d.window) (disk_of model)) is

device_is : (d : DeviceState) (disk : HostedDisk) → d.model ≡ Block disk
    → d ≡ record { window = d.window; model = Block disk }
device_is d disk is = ap (λ (model : ModelState). record d { model = model }) is

told_does : {A : Type 0} (n : ℕ) (said : HostEvent) (old : SlotState) (reply : Reply A) (outcome : Outcome A)
    → At (Told said) n old.memory outcome.state.memory old.devices outcome.state.devices
    → outcome ≡ replies (record old { memory = outcome.state.memory; devices = outcome.state.devices }) reply
    → DoesAsSaid (Further n) said old outcome.state
told_does {A} n said old reply outcome at is =
    let told = at.changes in
    record {
      before = behind_window at.before.window told.before;
      after = behind_window at.after.window told.after;
      there = ap (option_and_then unit_of) at.there ∙ unit_in at.before told.before told.there;
      does = told.does;
      is = ap (λ (o : Outcome A). o.state) is
          ∙ ap (λ (devices : List DeviceState). record old { memory = outcome.state.memory; devices = devices })
          (at.is ∙ ap (λ (d : DeviceState). slice_set old.devices n d)
          (device_is at.after told.after told.is));
    }

pub further_does : {A : Type 0} (n : ℕ) (said : HostEvent) (old : SlotState) (unit : DiskUnit) (before after : Health)
    (outcome : Outcome A) → unit_at (Further n) old ≡ Some unit → has_effect said unit.disk ≡ true
    → GivesDevice n (device.Host said) old before after outcome → DoesAsSaid (Further n) said old outcome.state
further_does {A} n said old unit before after outcome there effect h =
    let effect_is : has_effect_at n said old.devices ≡ Some true =
    ap (option_map (has_effect said)) (disk_there (Further n) old unit there) ∙ ap Some effect in
    let step : IsDeviceStep n (device.Host said) old (told_reply true) before after outcome =
    subst (λ (f : Option Bool).
    GivesByDevice (option_map told_reply f) n (device.Host said) old before after outcome) effect_is h in
    told_does n said old (told_reply true) outcome
    (subst (λ (f : Option Bool). DoesIf (unwrap_or f false) (Told said) n old.memory outcome.state.memory old.devices
    outcome.state.devices) effect_is step.at) step.is

further_said : {A : Type 0} (n : ℕ) (what : DeviceEvent A) (said : HostEvent) (old : SlotState) (unit : DiskUnit)
    (before after : Health) (outcome : Outcome A) → unit_at (Further n) old ≡ Some unit
    → has_effect said unit.disk ≡ true → said_there what ≡ Some said
    → MayGiveOverImage old (Device n what) before after outcome → DoesAsSaid (Further n) said old outcome.state
further_said n (device.Host its) said old unit before after outcome there effect told (inl served) =
    let same : its ≡ said = same_Some its said told in
    further_does n said old unit before after outcome there effect
    (subst (λ (s : HostEvent). GivesDevice n (device.Host s) old before after outcome) same served.alike)
further_said n (device.Host its) said old unit before after outcome there effect told (inr unmet) =
    absurd unmet.takes
further_said n _ said old unit before after outcome there effect told h = absurd (cc told)

further_says : {A : Type 0} (n : ℕ) (old : SlotState) (unit : DiskUnit) (said : HostEvent) (what : EventKind A)
    (before after : Health) (outcome : Outcome A) → unit_at (Further n) old ≡ Some unit
    → has_effect said unit.disk ≡ true → said_of (Further n) what ≡ Some said
    → MayGive old what before after outcome → DoesAsSaid (Further n) said old outcome.state
further_says {A} n old unit said (Device k what) before after outcome there effect told h =
    elim (eqb_tells k n) [
      | inl same ↦
          further_over n what old before after outcome
          (λ one other given. further_said n what said old unit one other outcome there effect
          (ap (λ (b : Bool). if b then said_there what else None) (sym same.0) ∙ told) given)
          (subst (λ (j : ℕ). MayGive {A = A} old (Device j what) before after outcome) same.1 h)
      | inr other ↦
          let none : None ≡ Some said =
          ap (λ (b : Bool). if b then said_there what else None) (sym other.0) ∙ told in
          absurd (cc none)
    ]
further_says n old unit said _ before after outcome there effect told h = absurd (cc told)

-- either does
pub says : {A : Type 0} (disk : SlotDisk) (old : SlotState) (unit : DiskUnit) (said : HostEvent) (what : EventKind A)
    (before after : Health) (outcome : Outcome A) → unit_at disk old ≡ Some unit → has_effect said unit.disk ≡ true
    → said_of disk what ≡ Some said → MayGive old what before after outcome → DoesAsSaid disk said old outcome.state
says Own old unit said what before after outcome there effect told h =
    own_says old.host old unit said what before after outcome refl (disk_there Own old unit there) effect told h
says (Further n) old unit said what before after outcome there effect told h =
    further_says n old unit said what before after outcome there effect told h
