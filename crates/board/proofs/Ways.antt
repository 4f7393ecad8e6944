-- What comes of an event of a guest whose disk the host serves, said apart.
use Rattle.std.proofs.Common.{◌≡◌, Bool, true, false, Option, Some, None, refl}
use Rattle.std.specs.Prelude.{◌&&◌}
use Rattle.std.specs.Option.{option_map_or}
use Rattle.board.specs.declared.event.EventKind.{EventKind}
use Rattle.block_device.specs.declared.operation.HostEvent.{HostEvent}
use Rattle.hosted_disk.specs.Told.{has_effect}
use Rattle.board.specs.declared.reply.Reply.TheVariants.{Busy, Idle}
use Rattle.hosted_disk.specs.Disk.{HostedDisk}
use Rattle.board.specs.Hosting.{HostOrGives, LooksAtQueue, LooksOrGives, OwnGives, ToldGives, notifies_block, told_in, waits_now}
use Rattle.board.specs.Units.{DoesAsSaid, Own}
use Rattle.board.specs.Image.{Health}
use Rattle.board.specs.Machine.{readied}
use Rattle.board.specs.Outcome.{Outcome, does, replies}
use Rattle.board.specs.Slot.{SlotState}
use Rattle.board.specs.World.{MayGiveBy, MayGiveOverImage}

-- It waits for what is in flight, or the disk has no part in it; its notification is looked at; or the host says
-- something: there is nothing to do, or the disk does it.
pub data Way {A : Type 0} (Beside : Outcome A → Type 0) (old : SlotState) (what : EventKind A)
    (outcome : Outcome A) : Type 0 where
  Waits : waits_now what old.host ≡ true → outcome ≡ replies old Busy → Way Beside old what outcome
  Passes :
      told_in what ≡ None → waits_now what old.host ≡ false → notifies_block what old ≡ false
      → Beside outcome → Way Beside old what outcome
  Looks :
      notifies_block what old ≡ true → LooksAtQueue (readied what old) outcome.state
      → outcome ≡ does outcome.state → Way Beside old what outcome
  Rests : (said : HostEvent) → told_in what ≡ Some said → outcome ≡ replies old Idle → Way Beside old what outcome
  Says :
      (said : HostEvent) → told_in what ≡ Some said → DoesAsSaid Own said old outcome.state
      → outcome ≡ does outcome.state → Way Beside old what outcome

-- where there is something to do, the disk does it
pub told_says : {A : Type 0} (effect : Bool) (said : HostEvent) (old : SlotState) (outcome : Outcome A) → effect ≡ true
    → ToldGives effect said old outcome → DoesAsSaid Own said old outcome.state
told_says true said old outcome is h = h.0
told_says false said old outcome is h = absurd (cc is)

-- what waits now is of those that must
pub must_by : (any waits : Bool) → (any && waits) ≡ true → waits ≡ true
must_by true waits is = is
must_by false waits is = absurd (cc is)

module _ {A : Type 0} (Beside : Outcome A → Type 0) (old : SlotState) (what : EventKind A)
    (outcome : Outcome A) where
  looks_way : (rings : Bool) → told_in what ≡ None → waits_now what old.host ≡ false
      → notifies_block what old ≡ rings → LooksOrGives Beside rings old what outcome
      → Way Beside old what outcome
  looks_way true own free is h = Looks is h.0 h.1
  looks_way false own free is h = Passes own free is h

  own_way : (waits : Bool) → told_in what ≡ None → waits_now what old.host ≡ waits
      → OwnGives Beside waits old what outcome → Way Beside old what outcome
  own_way true own is h = Waits is h
  own_way false own is h = looks_way (notifies_block what old) own is refl h

  told_way : (effect : Bool) (said : HostEvent) → told_in what ≡ Some said → ToldGives effect said old outcome
      → Way Beside old what outcome
  told_way false said is h = Rests said is h
  told_way true said is h = Says said is h.0 h.1

  way_by : (found : Option HostEvent) → told_in what ≡ found → HostOrGives Beside found old what outcome
      → Way Beside old what outcome
  way_by None is h = own_way (waits_now what old.host) is refl h
  way_by (Some said) is h = told_way (option_map_or (has_effect said) old.host false) said is h

  pub way : HostOrGives Beside (told_in what) old what outcome → Way Beside old what outcome
  way h = way_by (told_in what) refl h

-- What comes of an event is what may over an image, or it comes in one of these ways, and the image stays.
pub by_disk : {A : Type 0} {P : Type 0} (host : Option HostedDisk) (old : SlotState) (what : EventKind A)
    (before after : Health) (outcome : Outcome A) → (MayGiveOverImage old what before after outcome → P)
    → (after ≡ before → Way (λ (o : Outcome A). MayGiveOverImage old what before before o) old what outcome → P)
    → MayGiveBy host old what before after outcome → P
by_disk None old what before after outcome over_image on_host h = over_image h
by_disk {A} (Some disk) old what before after outcome over_image on_host h =
    on_host h.image (way (λ (o : Outcome A). MayGiveOverImage old what before before o) old what outcome h.gives)
