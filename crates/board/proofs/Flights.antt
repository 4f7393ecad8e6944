-- What is in flight is held: no event that doesn't wait changes where memory lies, nor which queues may be served.
use Rattle.std.proofs.Common.{◌≡◌, Bool, true, false, Option, Some, None, refl, sym, ◌∙◌, ap, subst}
use Rattle.std.specs.Prelude.{IsSome, ◌&&◌}
use Rattle.std.specs.Option.{option_map}
use Rattle.std.proofs.lemmas.Option.{same_Some}
use Rattle.guest_memory.specs.Memory.{Memory, SameRange}
use Rattle.board.specs.declared.event.SlotWindow.TheVariants.{Block}
use Rattle.mmio_window.specs.Ready.{KeepsQueues}
use Rattle.mmio_window.specs.Window.{WindowState}
use Rattle.mmio_window.proofs.ReadyLemmas.{ready_queue_outlasts}
use Rattle.block_device.specs.Tags.{is_any}
use Rattle.block_device.proofs.Freeing.{none_in_flight}
use Rattle.hosted_disk.specs.Disk as hosted
use Rattle.hosted_disk.specs.Disk.{HostedDisk}
use Rattle.hosted_disk.proofs.Flights.{idle_held, keeps_all, still_held}
use Rattle.board.specs.declared.event.EventKind.{EventKind}
use Rattle.board.specs.declared.event.EventKind.TheVariants.{Write, Restore, Host}
use Rattle.board.specs.Backing.{HoldsHost, KeepsHost, held_disk, tags_in}
use Rattle.board.specs.Flights.{KeepsFlights}
use Rattle.board.specs.Hosting.{HoldsFlights, block_beside, must_wait, waits_now}
use Rattle.board.specs.declared.spec.Backing.{Backing}
use Rattle.board.specs.declared.spec.Backing.TheVariants.{Image, Host}
use Rattle.board.specs.declared.spec.SlotSpec.{SlotSpec}
use Rattle.board.specs.Lent.{opened_over}
use Rattle.board.specs.Slot.{BoardSlot, host_by}

-- ---- an event that doesn't wait

-- it keeps the queues of the block window
keeps_queues : {A : Type 0} (what : EventKind A) (slot : BoardSlot) → must_wait what ≡ false
    → KeepsQueues slot.block (block_beside what slot)
keeps_queues (Write Block offset width value) slot free =
    ready_queue_outlasts offset width value slot.memory slot.block free
keeps_queues (Restore bytes) slot free = absurd (cc)
keeps_queues _ slot free = keeps_all slot.block

-- A slot that keeps its disk, where its memory lies and its queues holds what it held.
pub held_by : (slot new : BoardSlot) → KeepsHost slot.host new.host → SameRange slot.memory new.memory
    → KeepsQueues slot.block new.block → HoldsFlights slot → HoldsFlights new
held_by slot new host same keeps held = by_host slot.host new.host host held
  where
    by_host : (old host : Option HostedDisk) → KeepsHost old host → HoldsHost slot.memory slot.block old
        → HoldsHost new.memory new.block host
    by_host None None is held = tt
    by_host (Some disk) None is held = absurd (cc is)
    by_host None (Some disk) is held = absurd (cc is)
    by_host (Some old) (Some disk) is held =
        subst (λ (d : HostedDisk). hosted.HoldsFlights new.memory new.block d)
        (sym (same_Some (held_disk false disk) (held_disk false old) is))
        (still_held slot.memory new.memory slot.block new.block old same keeps held)

pub held_quietly : (slot new : BoardSlot) → new.host ≡ slot.host → SameRange slot.memory new.memory
    → new.block ≡ slot.block → HoldsFlights slot → HoldsFlights new
held_quietly slot new host same block held =
    held_by slot new (ap (option_map (held_disk false)) host) same
    (subst (λ (w : WindowState). KeepsQueues slot.block w) (sym block) (keeps_all slot.block)) held

-- ---- nothing is in flight

pub held_none : (slot : BoardSlot) → is_any (tags_in slot.host) ≡ false → HoldsFlights slot
held_none slot none = by_host slot.host none
  where
    by_host : (host : Option HostedDisk) → is_any (tags_in host) ≡ false → HoldsHost slot.memory slot.block host
    by_host None none = tt
    by_host (Some disk) none = idle_held slot.memory slot.block disk none

-- a disk that stays has in flight what it had
pub same_tags : (old new : Option HostedDisk) → KeepsHost old new → tags_in new ≡ tags_in old
same_tags None None is = refl
same_tags (Some disk) None is = absurd (cc is)
same_tags None (Some disk) is = absurd (cc is)
same_tags (Some old) (Some disk) is =
    ap (λ (d : HostedDisk). d.tags) (same_Some (held_disk false disk) (held_disk false old) is)

-- and is still there
pub still_hosted : (old new : Option HostedDisk) → KeepsHost old new → IsSome old → IsSome new
still_hosted None new is some = absurd (cc some)
still_hosted (Some disk) None is some = absurd (cc is)
still_hosted (Some disk) (Some other) is some = refl

-- so it is of a slot that was just opened
opened_none : (backing : Backing) (spec : SlotSpec) → is_any (tags_in (host_by backing spec)) ≡ false
opened_none Image spec = refl
opened_none (Host depth) spec = none_in_flight _ depth

pub held_opened : (spec : SlotSpec) (memory : Memory) (slot : BoardSlot) → slot ≡ opened_over spec memory
    → HoldsFlights slot
held_opened spec memory slot is =
    held_none slot (ap (λ (s : BoardSlot). is_any (tags_in s.host)) is ∙ opened_none spec.backing spec)

-- An event that doesn't wait leaves what is in flight held.
pub held_beside : {A : Type 0} (what : EventKind A) (slot new : BoardSlot)
    → waits_now what slot.host ≡ false → KeepsFlights what slot new → HoldsFlights slot → HoldsFlights new
held_beside {A} what slot new free keeps held =
    by_tags (is_any (tags_in slot.host)) refl (must_wait what) refl free
  where
    by_tags : (any : Bool) → is_any (tags_in slot.host) ≡ any → (waits : Bool)
        → must_wait what ≡ waits → (any && waits) ≡ false → HoldsFlights new
    by_tags false none waits is free =
        held_none new (ap is_any (same_tags slot.host new.host keeps.host) ∙ none)
    by_tags true some true is free = absurd (cc)
    by_tags true some false is free =
        held_by slot new keeps.host keeps.range
        (subst (λ (w : WindowState). KeepsQueues slot.block w) (sym (keeps.block is)) (keeps_queues what slot is))
        held
