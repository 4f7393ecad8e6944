-- An event of a guest whose disk the host serves has one outcome, where those beside the disk have.
use Rattle.std.proofs.Common.{◌≡◌, Bool, true, false, Option, Some, None, refl, sym, ap, subst, ◌∙◌}
use Rattle.std.specs.Option.{option_map_or}
use Rattle.std.proofs.lemmas.Option.{same_Some}
use Rattle.guest_memory.specs.Memory.{Memory}
use Rattle.mmio_window.specs.Window.{WindowState}
use Rattle.mmio_window.proofs.OneEnd.{SameEnd}
use Rattle.block_device.specs.declared.operation.HostEvent.{HostEvent}
use Rattle.hosted_disk.specs.Disk.{HostedDisk, LooksAtQueue}
use Rattle.hosted_disk.specs.Told.{DoesAsTold, has_effect}
use Rattle.hosted_disk.proofs.One.{serve_disk, tell_disk}
use Rattle.board.specs.declared.event.EventKind.{EventKind}
use Rattle.board.specs.declared.reply.Reply.{Reply}
use Rattle.board.specs.declared.reply.Reply.TheVariants.{Done}
use Rattle.board.specs.Hosting.{HostOrGives, LooksOrGives, OwnGives, ToldGives, notifies_block, told_in, waits_now}
use Rattle.board.specs.Machine.{readied}
use Rattle.board.specs.Outcome.{Outcome, replies}
use Rattle.board.specs.Slot.{SlotState}
use Rattle.board.specs.Units.{DiskUnit, DoesAsSaid, DoesToDisk, Own, SlotDisk, with_disk}
use Rattle.board.proofs.Units.{behind_window}

-- ---- what a disk does

put_same : (disk : SlotDisk) (old : SlotState) (m n : Memory) (v w : WindowState) (one other : HostedDisk) → m ≡ n
    → v ≡ w → one ≡ other
    → ◌≡◌ {A = SlotState} (record (with_disk disk (behind_window v one) old) { memory = m })
    (record (with_disk disk (behind_window w other) old) { memory = n })
put_same disk old m n v w one other p q r = rw (p, q, r) refl

-- where its queue, its window and itself have one end, the slot has
unit_once : (Does : HostedDisk → Memory → Memory → WindowState → WindowState → HostedDisk → Type 0) (disk : SlotDisk)
    (old one other : SlotState)
    → ((u x y : DiskUnit) → Does u.disk old.memory one.memory u.window x.window x.disk
    → Does u.disk old.memory other.memory u.window y.window y.disk
    → SameEnd one.memory other.memory x.window y.window x.disk y.disk)
    → DoesToDisk Does disk old one → DoesToDisk Does disk old other → one ≡ other
unit_once Does disk old one other ends x y =
    let same : y.before ≡ x.before = same_Some y.before x.before (sym y.there ∙ x.there) in
    let end = ends x.before x.after y.after x.does
    (subst (λ (u : DiskUnit). Does u.disk old.memory other.memory u.window y.after.window y.after.disk) same y.does) in
    x.is
    ∙ put_same disk old one.memory other.memory x.after.window y.after.window x.after.disk y.after.disk end.memory
    end.window end.state
    ∙ sym y.is

pub look_once : (disk : SlotDisk) (old one other : SlotState) → DoesToDisk LooksAtQueue disk old one
    → DoesToDisk LooksAtQueue disk old other → one ≡ other
look_once disk old one other looks again =
    unit_once LooksAtQueue disk old one other
    (λ u x y. serve_disk u.disk x.disk y.disk 0 old.memory one.memory other.memory u.window x.window y.window) looks again

says_once : (said : HostEvent) (disk : SlotDisk) (old one other : SlotState) → DoesAsSaid disk said old one
    → DoesAsSaid disk said old other → one ≡ other
says_once said disk old one other says again =
    unit_once (DoesAsTold said) disk old one other
    (λ u x y. tell_disk said u.disk x.disk y.disk old.memory one.memory other.memory u.window x.window y.window) says again

-- ---- an event

answered : {A : Type 0} (one other : Outcome A) (reply : Reply A) → one.state ≡ other.state
    → one ≡ replies one.state reply → other ≡ replies other.state reply → one ≡ other
answered {A} one other reply same x y = x ∙ ap (λ (s : SlotState). replies {A = A} s reply) same ∙ sym y

module _ {A : Type 0} (Beside : Outcome A → Type 0) (old : SlotState) (what : EventKind A)
    (one other : Outcome A) (beside : Beside one → Beside other → one ≡ other) where
  looking_once : (rings : Bool) → LooksOrGives Beside rings old what one → LooksOrGives Beside rings old what other
      → one ≡ other
  looking_once true x y =
      answered one other Done (look_once Own (readied what old) one.state other.state x.0 y.0) x.1 y.1
  looking_once false x y = beside x y

  waiting_once : (waits : Bool) → OwnGives Beside waits old what one → OwnGives Beside waits old what other
      → one ≡ other
  waiting_once true x y = x ∙ sym y
  waiting_once false x y = looking_once (notifies_block what old) x y

  told_once : (effect : Bool) (said : HostEvent) → ToldGives effect said old one → ToldGives effect said old other
      → one ≡ other
  told_once false said x y = x ∙ sym y
  told_once true said x y = answered one other Done (says_once said Own old one.state other.state x.0 y.0) x.1 y.1

  once_by : (found : Option HostEvent) → HostOrGives Beside found old what one
      → HostOrGives Beside found old what other → one ≡ other
  once_by None x y = waiting_once (waits_now what old.host) x y
  once_by (Some said) x y = told_once (option_map_or (has_effect said) old.host false) said x y

pub hosted_once : {A : Type 0} (Beside : Outcome A → Type 0) (old : SlotState) (what : EventKind A)
    (one other : Outcome A) → (Beside one → Beside other → one ≡ other)
    → HostOrGives Beside (told_in what) old what one
    → HostOrGives Beside (told_in what) old what other → one ≡ other
hosted_once Beside old what one other beside x y = once_by Beside old what one other beside (told_in what) x y
