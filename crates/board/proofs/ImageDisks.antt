-- The disks over a slot's sectors of the image: what each leaves of the others', and what a piece of a service comes to.
use Rattle.std.proofs.Common.{◌≡◌, ◌≢◌, ◌⊎◌, inl, inr, ℕ, zero, suc, ◌+◌, ◌*◌, ◌≤◌, Bool, true, false, Option, Some, None, Result, Ok, Err, List, [], length, take, drop, refl, sym, ap, subst, ◌∙◌, append-nil, arith, length-take, length-drop}
use Rattle.std.specs.Prelude.{◌-◌, IfErr, IfOk, OnErr, is_err, if◌then◌else◌, nat_le, nat_lt, is_some, IsSome, IfSome}
use Rattle.std.specs.Option.{option_map}
use Rattle.std.proofs.lemmas.Bool.{cases_eq}
use Rattle.std.proofs.lemmas.Bool.Decides.{nat_tests}
use Rattle.std.proofs.lemmas.Option.{same_Some}
use Rattle.std.proofs.lemmas.List.{drop-drop, drop-take, take-take}
use Rattle.guest_memory.specs.Memory.{Memory}
use Rattle.chain.specs.declared.budget.Budget.{Budget}
use Rattle.chain.specs.declared.budget.Progress.{Progress}
use Rattle.mmio_window.specs.declared.stage.Stage.{Stage}
use Rattle.mmio_window.specs.Pieces.{ServesTo}
use Rattle.mmio_window.specs.Window.{queue_at}
use Rattle.sector_cache.specs.Disk.{Disk, IsWhole}
use Rattle.sector_cache.specs.Sector.{extent_of}
use Rattle.sector_cache.specs.Stop.{DiffersWithin}
use Rattle.sector_cache.proofs.Stops as stops
use Rattle.block_device.specs.declared.device.BlockDevice.{BlockDevice}
use Rattle.block_device.specs.declared.extent.Extent.{Extent}
use Rattle.block_device.specs.declared.request.Request.{Request}
use Rattle.block_device.specs.Device.{device_by}
use Rattle.block_device.specs.Extent.{IsWithin, SameContentsOutside, SameOutside, StaysInExtent, TouchesExtent, extent_disk}
use Rattle.block_device.specs.Outcome.{Outcome, Completes, Ends}
use Rattle.device_list.specs.Device.{DeviceState}
use Rattle.device_list.specs.Image.{DevicesServeImageTo, ServesIfImage, ServesImageTo, moved, placed}
use Rattle.device_list.specs.List.{At, image_at}
use Rattle.board.specs.declared.event.DeviceEvent.{DeviceEvent}
use Rattle.board.specs.declared.event.EventKind.{EventKind}
use Rattle.board.specs.declared.event.EventKind.TheVariants.{Write, Input, Device}
use Rattle.board.specs.declared.pause.Pause.{Pause}
use Rattle.board.specs.declared.pause.Turn.{Turn}
use Rattle.board.specs.declared.pause.Turn.TheVariants.{Answered}
use Rattle.board.specs.declared.reply.Reply.TheVariants.{BadRange, BadSlot, NoMemory}
use Rattle.board.specs.declared.pause.Service.{Service}
use Rattle.board.specs.declared.pause.Service.TheVariants.{Block, Receive, Transmit, Further}
use Rattle.hosted_disk.specs.Disk.{HostedDisk}
use Rattle.board.specs.Backing.{held_disk}
use Rattle.board.specs.Image.{Health, Tells, bytes_of, health_of, disk_with}
use Rattle.board.specs.ImageDisks.{bytes_in, image_device, image_disk_of, image_served, image_served_in}
use Rattle.board.specs.Flights.{KeepsFlights}
use Rattle.board.specs.Machine.{at_rest, task_at, with_write}
use Rattle.board.specs.Quiet.{AsksImageDisk, BeginsAtDevice}
use Rattle.board.specs.Within.{BeginsWithinOverImage}
use Rattle.board.specs.Task.{Task, Nothing, Serve, PutOut}
use Rattle.board.specs.World.{HasBytesToPutOut, MayLackMemory, TakesMemory}
use Rattle.board.specs.Pausing.{BeginsOverImage, ComesTo, PausesByLimit, ServesTurn, IsImageDiskPiece, IsAnyImageDiskPiece, IsFurtherPiece, IsPiece, IsPieceAtDevice, asked_by, asked_over_image, input_service, readied, turn_of}
use Rattle.board.specs.Slot.{BoardSlot, IsUnnoted, SlotState, state_of, spare_start, whole_extent}
use Rattle.board.proofs.AtDevice.{hosted_serves_none}
use Rattle.board.proofs.Blocks.{seen_disk}
use Rattle.board.proofs.Beside.{range_of}
use Rattle.board.proofs.FurtherPieces.{asking, device_within}
use Rattle.board.proofs.Parts.{part_of_run}
use Rattle.board.proofs.Turns.{comes_to, exact_piece, piece_anywhere}

-- ---- a part of an extent

module _ (inner outer : Extent) (from : outer.start ≤ inner.start)
    (to : inner.start + inner.count ≤ outer.start + outer.count) where
  differs_outside : (old new : List ℕ) → SameOutside inner old new
      → DiffersWithin (512 * outer.start) (512 * (outer.start + outer.count)) old new
  differs_outside old new h =
      stops.differs_wider (512 * outer.start) (512 * (outer.start + outer.count)) (512 * inner.start)
      (512 * (inner.start + inner.count)) old new (omega (arith, from)) (omega (arith, to))
      (record { before = h.before; behind = h.behind })

  contents_wider : (old new : Option (List ℕ)) → SameContentsOutside inner old new → SameContentsOutside outer old new
  contents_wider None None h = h
  contents_wider None (Some new) h = h
  contents_wider (Some old) None h = h
  contents_wider (Some old) (Some new) h =
      let d = differs_outside old new h in
      record { before = d.before; behind = d.behind; size = h.size }

  -- what stays in it stays in the whole
  pub stays_wider : (old new : Disk) → StaysInExtent inner old new → StaysInExtent outer old new
  stays_wider old new h = record {
    rises = h.rises;
    clean = h.clean;
    outside = record {
      sectors = h.outside.sectors;
      contents = contents_wider old.contents new.contents h.outside.contents;
    };
  }

  -- and what touches it alone touches the whole alone
  pub touches_wider : {I : Type 0} (moment : I → ℕ) (may_leave : I → List ℕ → Type 0) (left_since : I → ℕ → List ℕ → Type 0)
      (old new : I) → TouchesExtent moment may_leave left_since inner old new
      → TouchesExtent moment may_leave left_since outer old new
  touches_wider moment may_leave left_since old new h =
      stops.touches_wider (512 * outer.start) (512 * (outer.start + outer.count)) (omega (arith, from)) (omega (arith, to)) h

-- ---- what stays of the image's bytes

-- the image goes on telling its bytes, and those outside of the extent stay
pub record KeptBytes (extent : Extent) (old new : Disk) : Type 0 where
  pub tells : Tells new
  pub same : SameOutside extent (bytes_of old) (bytes_of new)

kept_contents : (extent : Extent) (old new : Disk) (was is : Option (List ℕ)) → old.contents ≡ was → new.contents ≡ is
    → IsSome was → SameContentsOutside extent was is → KeptBytes extent old new
kept_contents extent old new None is old_is new_is tells h = absurd (cc)
kept_contents extent old new (Some xs) None old_is new_is tells h = absurd h
kept_contents extent old new (Some xs) (Some ys) old_is new_is tells h = record {
  tells = rw new_is refl;
  same = rw (old_is, new_is) h;
}

pub kept_bytes : (extent : Extent) (old new : Disk) → Tells old → StaysInExtent extent old new
    → KeptBytes extent old new
kept_bytes extent old new tells h =
    kept_contents extent old new old.contents new.contents refl refl tells h.outside.contents

differs : (extent : Extent) (old new : List ℕ) → SameOutside extent old new
    → DiffersWithin (512 * extent.start) (512 * (extent.start + extent.count)) old new
differs extent old new h = record { before = h.before; behind = h.behind }

-- sectors before an extent, or behind it
pub before_same : (extent : Extent) (old new : List ℕ) (start count : ℕ) → start + count ≤ extent.start
    → SameOutside extent old new → extent_of new start count ≡ extent_of old start count
before_same extent old new start count before h =
    stops.extent_apart (512 * extent.start) (512 * (extent.start + extent.count)) start count old new
    (differs extent old new h) (inl (omega (arith, before)))

pub behind_same : (extent : Extent) (old new : List ℕ) (start count : ℕ) → extent.start + extent.count ≤ start
    → SameOutside extent old new → extent_of new start count ≡ extent_of old start count
behind_same extent old new start count behind h =
    stops.extent_apart (512 * extent.start) (512 * (extent.start + extent.count)) start count old new
    (differs extent old new h) (inr (omega (arith, behind)))

-- the first sectors of a run, and the last
front_of : (bytes : List ℕ) (start few count : ℕ) → few ≤ count
    → take (512 * few) (extent_of bytes start count) ≡ extent_of bytes start few
front_of bytes start few count inside =
    take-take (512 * few) (512 * count) (drop (512 * start) bytes) (omega (arith, inside))

back_of : (bytes : List ℕ) (start few count : ℕ) → few ≤ count
    → drop (512 * few) (extent_of bytes start count) ≡ extent_of bytes (start + few) (count - few)
back_of bytes start few count inside =
    let long : 512 * count ≡ 512 * few + 512 * (count - few) = omega (arith, inside) in
    ap (λ k. drop (512 * few) (take k (drop (512 * start) bytes))) long
    ∙ drop-take (512 * few) (512 * (count - few)) (drop (512 * start) bytes)
    ∙ ap (take (512 * (count - few))) (drop-drop (512 * few) (512 * start) bytes)
    ∙ ap (λ k. take (512 * (count - few)) (drop k bytes)) (omega arith)

-- so what stays outside of a part of some sectors, as of those sectors
pub outside_in_part : (base spare : ℕ) (extent : Extent) (old new : List ℕ) → extent.start + extent.count ≤ spare
    → SameOutside (moved base extent) old new
    → SameOutside extent (extent_of old base spare) (extent_of new base spare)
outside_in_part base spare extent old new inside h =
    let end : ℕ = extent.start + extent.count in
    record {
      before =
          front_of new base extent.start spare (omega (arith, inside))
          ∙ before_same (moved base extent) old new base extent.start (omega arith) h
          ∙ sym (front_of old base extent.start spare (omega (arith, inside)));
      behind =
          back_of new base end spare inside
          ∙ behind_same (moved base extent) old new (base + end) (spare - end) (omega arith) h
          ∙ sym (back_of old base end spare inside);
      size =
          let long : length new ≡ length old = h.size in
          simp (length-take, length-drop, long) refl;
    }

-- ---- the slot's own disk

module _ (slot : BoardSlot) (old new : Disk) (stays : StaysInExtent slot.extent old new) where
  -- it leaves the spare sectors
  pub own_leaves_spare : Tells old
      → (state_of (bytes_of new) slot).spare_bytes ≡ (state_of (bytes_of old) slot).spare_bytes
  own_leaves_spare tells =
      behind_same slot.extent (bytes_of old) (bytes_of new) (spare_start slot) slot.spare (omega arith)
      (kept_bytes slot.extent old new tells stays).same

  pub own_stays : StaysInExtent (whole_extent slot) old new
  own_stays = stays_wider slot.extent (whole_extent slot) (omega arith) (omega arith) old new stays

pub own_touches : {I : Type 0} (moment : I → ℕ) (may_leave : I → List ℕ → Type 0) (left_since : I → ℕ → List ℕ → Type 0)
    (slot : BoardSlot) (old new : I) → TouchesExtent moment may_leave left_since slot.extent old new
    → TouchesExtent moment may_leave left_since (whole_extent slot) old new
own_touches moment may_leave left_since slot old new touches =
    touches_wider slot.extent (whole_extent slot) (omega arith) (omega arith) moment may_leave left_since old new touches

-- ---- which disk it is

-- the slot has this disk over the image, and serves its queue by this service
pub record IsImageDisk (n q : ℕ) (slot : BoardSlot) : Type 0 where
  pub disk : BlockDevice
  pub found : image_at n slot.devices ≡ Some disk
  pub within : disk.extent.start + disk.extent.count ≤ slot.spare
  pub host : slot.host ≡ None
  pub served : (image : List ℕ) → image_served (Further n q) (state_of image slot) ≡ Some disk

-- what the image has doesn't matter for that
pub served_any : (service : Service) (slot : BoardSlot) (image : List ℕ)
    → image_served service (state_of image slot) ≡ image_served_in service slot
served_any Block slot image = refl
served_any Receive slot image = refl
served_any Transmit slot image = refl
served_any (Further n zero) slot image = refl
served_any (Further n (suc q)) slot image = refl

record Found (host : Option HostedDisk) (spare : ℕ) (found : Option BlockDevice) : Type 0 where
  pub disk : BlockDevice
  pub found_is : found ≡ Some disk
  pub within : disk.extent.start + disk.extent.count ≤ spare
  pub host_is : host ≡ None
  pub is : image_disk_of host spare found ≡ Some disk

found_disk : (host : Option HostedDisk) (spare : ℕ) (found : Option BlockDevice)
    → IsSome (image_disk_of host spare found) → Found host spare found
found_disk (Some host) spare found some = absurd (cc)
found_disk None spare None some = absurd (cc)
found_disk None spare (Some disk) some =
    by_room (nat_le (disk.extent.start + disk.extent.count) spare) refl some
  where
    by_room : (fits : Bool) → nat_le (disk.extent.start + disk.extent.count) spare ≡ fits
        → IsSome (if fits then Some disk else None) → Found None spare (Some disk)
    by_room true fits some = record {
      disk = disk;
      found_is = refl;
      within = grind (arith, nat_tests, fits);
      host_is = refl;
      is = rw fits refl;
    }
    by_room false fits some = absurd (cc)

pub image_disk : (n q : ℕ) (slot : BoardSlot) → IsSome (image_served_in (Further n q) slot) → IsImageDisk n q slot
image_disk n zero slot some =
    let f = found_disk slot.host slot.spare (image_at n slot.devices) some in
    record { disk = f.disk; found = f.found_is; within = f.within; host = f.host_is; served = λ image. f.is }
image_disk n (suc q) slot some = absurd (cc)

pub is_found : (o : Option BlockDevice) → true ≡ is_some o → IsSome o
is_found None is = absurd (cc (is))
is_found (Some disk) is = refl

-- a disk over the image is no console
pub no_transmit : (service : Service) (slot : BoardSlot) → IsSome (image_served_in service slot) → service ≢ Transmit
no_transmit Transmit slot some is = cc some
no_transmit Block slot some is = cc is
no_transmit Receive slot some is = cc is
no_transmit (Further n q) slot some is = cc is

-- an event whose service finds no memory may
pub lacks_in_service : {A : Type 0} (what : EventKind A) (state : SlotState) (pause : Pause)
    → asked_over_image what state ≡ Some pause → pause.service ≡ Transmit
    → HasBytesToPutOut (readied what state).memory (readied what state).console → MayLackMemory state what
lacks_in_service {A} (Write window offset width value) state pause asks sends has =
    by_task (task_at window offset width value state) asks
  where
    by_task : (task : Task) → asked_by task ≡ Some pause → TakesMemory task (with_write window offset width value state)
    by_task Nothing asks = absurd (cc asks)
    by_task (PutOut byte) asks = tt
    by_task (Serve service) asks =
        let is : service ≡ Transmit =
        ap (λ (p : Pause). p.service) (same_Some (record { service = service; taken = None }) pause asks) ∙ sends in
        rw is has
lacks_in_service (Device n what) state pause asks sends has =
    let a = asking n what state pause asks in
    let is = sym (ap (λ (p : Pause). p.service) a.is) ∙ sends in
    absurd (cc is)
lacks_in_service (Input bytes) state pause asks sends has =
    let is = ap (λ (p : Pause). p.service) (same_Some (input_service state.pending bytes) pause asks) ∙ sends in
    absurd (cc is)
lacks_in_service _ state pause asks sends has = absurd (cc asks)

-- ---- a piece of the service of another device

pub further_piece : (slot : BoardSlot) (image : List ℕ) (n q : ℕ) (stage : Stage) (budget : Budget) (progress : Progress)
    (health : Health) (new : SlotState) (output : List ℕ) → image_served_in (Further n q) slot ≡ None
    → IsFurtherPiece n q stage budget progress (state_of image slot) health health new output
    → IsPiece (Further n q) stage budget progress (state_of image slot) health health new output
further_piece slot image n q stage budget progress health new output none h =
    subst (λ (o : Option BlockDevice). IsPieceAtDevice o n q stage budget progress (state_of image slot) health health new
    output) (sym (served_any (Further n q) slot image ∙ none)) h

-- ---- a piece of its service

-- the slot after it
abbrev pub image_disk_served : BoardSlot → Memory → List DeviceState → BoardSlot
image_disk_served slot memory devices = record slot { memory = memory; devices = devices }

module _ (slot : BoardSlot) (n : ℕ) (disk : BlockDevice) (stage : Stage) (budget : Budget) (progress : Progress)
    (memory : Memory) (devices : List DeviceState) (old new : Disk) (tells : Tells old) (whole : IsWhole old)
    (whole' : IsWhole new) (lies : IsWithin old.sector_count (whole_extent slot))
    (within : disk.extent.start + disk.extent.count ≤ slot.spare)
    (stays : StaysInExtent (moved (spare_start slot) disk.extent) old new) where
  abbrev place : Extent
  place = moved (spare_start slot) disk.extent

  kept : KeptBytes place old new
  kept = kept_bytes place old new tells stays

  lies_old : IsWithin old.sector_count place
  lies_old = omega (arith, lies, within)

  lies_new : IsWithin new.sector_count place
  lies_new = omega (arith, lies, within, stays.outside.sectors)

  -- its sectors as its guest sees them
  seen_part : (d : Disk) → Tells d → IsWhole d → IsWithin d.sector_count place
      → extent_disk place d ≡ disk_with (bytes_in disk (state_of (bytes_of d) slot).spare_bytes) (health_of d)
  seen_part d tells_d whole_d lies_d =
      seen_disk place d tells_d whole_d lies_d
      ∙ ap (λ bytes. disk_with bytes (health_of d))
      (sym (part_of_run (bytes_of d) (spare_start slot) slot.spare disk.extent.start disk.extent.count within))

  seen_image_piece : (Way : Request → List ℕ → Disk → Outcome → Type 0)
      → At (λ m m' d d'. ServesTo stage (device_by Way (placed (spare_start slot) disk)) budget 0 (queue_at 0 d.window)
      progress m m' d.window d'.window (extent_disk place old) (extent_disk place new) × (d'.model ≡ d.model))
      n slot.memory memory slot.devices devices
      → IsImageDiskPiece (device_by Way (image_device disk)) n disk stage budget progress (state_of (bytes_of old) slot)
      (health_of old) (health_of new) (state_of (bytes_of new) (image_disk_served slot memory devices)) []
  seen_image_piece Way at =
      let before = at.before in
      let after = at.after in
      let guest = piece_anywhere Way (placed (spare_start slot) disk) stage budget (queue_at 0 before.window) progress
      slot.memory memory before.window after.window (extent_disk place old) (extent_disk place new) at.changes.0 in
      let from = bytes_of old in
      let to = bytes_of new in
      let own : extent_of to slot.extent.start slot.extent.count ≡ extent_of from slot.extent.start slot.extent.count =
      before_same place from to slot.extent.start slot.extent.count (omega arith) kept.same in
      record {
        serves = record {
          device = before;
          there = at.there;
          window = after.window;
          serves =
              subst (λ (d : Disk). ServesTo stage (device_by Way (image_device disk)) budget 0 (queue_at 0 before.window)
              progress slot.memory memory before.window after.window d
              (disk_with (bytes_in disk (state_of to slot).spare_bytes) (health_of new)))
              (seen_part old tells whole lies_old)
              (subst (λ (d : Disk). ServesTo stage (device_by Way (image_device disk)) budget 0 (queue_at 0 before.window)
              progress slot.memory memory before.window after.window (extent_disk place old) d)
              (seen_part new kept.tells whole' lies_new) guest);
          outside = outside_in_part (spare_start slot) slot.spare disk.extent from to within kept.same;
          is =
              let device_is : after ≡ record before { window = after.window } =
              ap (λ model. record { window = after.window; model = model }) at.changes.1 in
              rw (own, at.is, ← device_is) refl;
        };
        silent = refl;
      }

  pub any_image_piece : At (ServesImageTo stage budget progress (placed (spare_start slot) disk) old new)
      n slot.memory memory slot.devices devices
      → IsAnyImageDiskPiece n disk stage budget progress (state_of (bytes_of old) slot)
      (health_of old) (health_of new) (state_of (bytes_of new) (image_disk_served slot memory devices)) []
  any_image_piece at = either (cases_eq new.failures old.failures)
    where
      either : (new.failures ≡ old.failures) ⊎ (new.failures ≢ old.failures)
          → IsAnyImageDiskPiece n disk stage budget progress (state_of (bytes_of old) slot)
          (health_of old) (health_of new) (state_of (bytes_of new) (image_disk_served slot memory devices)) []
      either (inl stood) = inl (
        seen_image_piece (Completes disk.identity) (record {
          before = at.before;
          after = at.after;
          there = at.there;
          changes = (
            exact_piece (placed (spare_start slot) disk) stage budget (queue_at 0 at.before.window) progress
                slot.memory memory at.before.window at.after.window (extent_disk place old) (extent_disk place new) stood
                at.changes.served,
            at.changes.model,
          );
          is = at.is;
        }),
        stood,
      )
      either (inr rose) = inr (
        seen_image_piece (Ends disk.identity) (record {
          before = at.before;
          after = at.after;
          there = at.there;
          changes = (at.changes.served, at.changes.model);
          is = at.is;
        }),
        let rises = stays.rises in grind (arith, nat_tests, rises, rose),
      )

-- of the disk that serves its queue by this service
pub image_piece : (slot : BoardSlot) (n q : ℕ) (stage : Stage) (budget : Budget) (progress : Progress)
    (memory : Memory) (devices : List DeviceState) (old new : Disk)
    → IsSome (image_served_in (Further n q) slot) → Tells old → IsWhole old → IsWhole new
    → IsWithin old.sector_count (whole_extent slot)
    → DevicesServeImageTo stage budget progress n (spare_start slot) slot.memory memory slot.devices devices old new
    → IfSome (image_at n slot.devices) (λ disk. StaysInExtent (moved (spare_start slot) disk.extent) old new)
    → IsPiece (Further n q) stage budget progress (state_of (bytes_of old) slot) (health_of old) (health_of new)
    (state_of (bytes_of new) (image_disk_served slot memory devices)) []
image_piece slot n q stage budget progress memory devices old new some tells whole whole' lies served stays =
    let f = image_disk n q slot some in
    let at = subst (λ (o : Option BlockDevice). ServesIfImage o stage budget progress n (spare_start slot) slot.memory memory
    slot.devices devices old new) f.found served in
    let in_part = subst (λ (o : Option BlockDevice). IfSome o (λ disk.
    StaysInExtent (moved (spare_start slot) disk.extent) old new)) f.found stays in
    subst (λ (o : Option BlockDevice). IsPieceAtDevice o n q stage budget progress (state_of (bytes_of old) slot)
    (health_of old) (health_of new) (state_of (bytes_of new) (image_disk_served slot memory devices)) [])
    (sym (f.served (bytes_of old)))
    (any_image_piece slot n f.disk stage budget progress memory devices old new tells whole whole' lies f.within in_part at)

-- so it is of a slot that was seen so
module _ (view slot : BoardSlot) (seen_so : view ≡ slot) (n q : ℕ) (pause : Pause) (is : pause.service ≡ Further n q)
    (some : IsSome (image_served_in pause.service slot)) (memory : Memory) (devices : List DeviceState) (old new : Disk)
    (stays : IfSome (image_at n view.devices) (λ disk. StaysInExtent (moved (spare_start view) disk.extent) old new)) where
  found_in : IsImageDisk n q view
  found_in =
      image_disk n q view (subst (λ (s : BoardSlot). IsSome (image_served_in (Further n q) s)) (sym seen_so)
      (subst (λ (service : Service). IsSome (image_served_in service slot)) is some))

  pub image_comes : {A : Type 0} (stage : Stage) (budget : Budget) (progress : Progress) (turn : Turn A)
      → turn ≡ turn_of pause progress → Tells old → IsWhole old → IsWhole new
      → IsWithin old.sector_count (whole_extent slot)
      → DevicesServeImageTo stage budget progress n (spare_start view) view.memory memory view.devices devices old new
      → ComesTo pause stage budget (state_of (bytes_of old) slot) (health_of old) (health_of new)
      (state_of (bytes_of new) (image_disk_served view memory devices)) [] turn
  image_comes {A} stage budget progress turn turn_is tells whole whole' lies served =
      let piece = image_piece view n q stage budget progress memory devices old new
      (subst (λ (s : BoardSlot). IsSome (image_served_in (Further n q) s)) (sym seen_so)
      (subst (λ (service : Service). IsSome (image_served_in service slot)) is some))
      tells whole whole'
      (subst (λ (s : BoardSlot). IsWithin old.sector_count (whole_extent s)) (sym seen_so) lies) served stays in
      let after = state_of (bytes_of new) (image_disk_served view memory devices) in
      subst (λ (t : Turn A). ComesTo pause stage budget (state_of (bytes_of old) slot) (health_of old) (health_of new)
      after [] t) (sym turn_is)
      (comes_to A pause stage budget progress (state_of (bytes_of old) slot) (health_of old) (health_of new) after []
      (subst (λ (service : Service). IsPiece service stage budget progress (state_of (bytes_of old) slot) (health_of old)
      (health_of new) after []) (sym is)
      (subst (λ (s : BoardSlot). IsPiece (Further n q) stage budget progress (state_of (bytes_of old) s) (health_of old)
      (health_of new) after []) seen_so piece)))

  stays_so : StaysInExtent (whole_extent view) old new
  stays_so =
      stays_wider (moved (spare_start view) found_in.disk.extent) (whole_extent view) (omega arith)
      (let within = found_in.within in omega (arith, within)) old new
      (subst (λ (o : Option BlockDevice). IfSome o (λ disk. StaysInExtent (moved (spare_start view) disk.extent) old new))
      found_in.found stays)

  pub image_unnoted : (failed : Bool) → failed ≡ nat_lt old.failures new.failures
      → IsUnnoted slot (image_disk_served view memory devices) old new failed
  image_unnoted failed counted = record {
    stays = record {
      place = (ap (λ (s : BoardSlot). s.extent) seen_so, ap (λ (s : BoardSlot). s.spare) seen_so);
      image = subst (λ (s : BoardSlot). StaysInExtent (whole_extent s) old new) seen_so stays_so;
    };
    disturbed = ap (λ (s : BoardSlot). s.disturbed) seen_so;
    counted = counted;
  }

  pub image_touches : {I : Type 0} (moment : I → ℕ) (may_leave : I → List ℕ → Type 0)
      (left_since : I → ℕ → List ℕ → Type 0) (before after : I)
      → IfSome (image_at n view.devices) (λ disk.
      TouchesExtent moment may_leave left_since (moved (spare_start view) disk.extent) before after)
      → TouchesExtent moment may_leave left_since (whole_extent slot) before after
  image_touches moment may_leave left_since before after touches =
      subst (λ (s : BoardSlot). TouchesExtent moment may_leave left_since (whole_extent s) before after) seen_so
      (touches_wider (moved (spare_start view) found_in.disk.extent) (whole_extent view) (omega arith)
      (let within = found_in.within in omega (arith, within)) moment may_leave left_since before after
      (subst (λ (o : Option BlockDevice). IfSome o (λ disk.
      TouchesExtent moment may_leave left_since (moved (spare_start view) disk.extent) before after)) found_in.found touches))

-- ---- what is done to a further device, but for a service over the image

-- an event of it that asks for none is answered, and one that does waits for that
module _ {A : Type 0} (n : ℕ) (what : DeviceEvent A) (budget : Budget) (old new : BoardSlot) where
  abbrev Begun : Result (Turn A) Pause → Type 0
  Begun r = IfOk r (BeginsAtDevice n what budget old new)

  abbrev Asked : Result (Turn A) Pause → Type 0
  Asked r = IfErr r (AsksImageDisk (Device n what) old new)

  -- the block device wasn't notified
  pub device_notified : (r : Result (Turn A) Pause) → Asked r → IsSome old.host → false ≡ is_err r
  device_notified (Ok turn) asks hosted = refl
  device_notified (Err pause) asks hosted =
      let host : new.host ≡ old.host = ap (λ (s : BoardSlot). s.host) asks.rest in
      let none = hosted_serves_none pause.service (state_of [] new) (subst (λ (h : Option HostedDisk). IsSome h) (sym host) hosted) in
      let never : IsSome {T = BlockDevice} None = subst (λ (o : Option BlockDevice). IsSome o) none asks.image in absurd (cc never)

  pub device_asked : (r : Result (Turn A) Pause) → Asked r
      → IfErr r (λ pause. (image : List ℕ) → asked_over_image (Device n what) (state_of image old) ≡ Some pause)
  device_asked (Ok turn) asks = tt
  device_asked (Err pause) asks = asks.asks

  pub device_ready : (r : Result (Turn A) Pause) → Asked r
      → OnErr r ((image : List ℕ) → state_of image new ≡ readied (Device n what) (state_of image old))
  device_ready (Ok turn) asks = tt
  device_ready (Err pause) asks = asks.readied

  pub device_silent : (r : Result (Turn A) Pause) (out : List ℕ) → OnErr r (out ≡ out)
  device_silent (Ok turn) out = tt
  device_silent (Err pause) out = refl

  pub device_serves : (r : Result (Turn A) Pause) (filled : List ℕ → Type 0) (out : List ℕ) → Begun r
      → IfOk r (λ turn. (image : List ℕ) (health : Health) → filled image → ServesTurn (BeginsOverImage (Device n what) budget)
      (state_of image old) health health (state_of image new) turn out out)
  device_serves (Ok turn) filled out begun = λ image health full.
      record { output = []; comes = begun.begins image health; appended = sym (append-nil out) }
  device_serves (Err pause) filled out begun = tt

  pub device_decides : (r : Result (Turn A) Pause) (outlet : Option ℕ) (out : List ℕ) → Begun r
      → IfOk r (λ turn. (image : List ℕ) (limit : ℕ) → outlet ≡ Some limit →
      BeginsWithinOverImage limit (Device n what) budget (state_of image old) (state_of image new) out out turn)
  device_decides (Ok turn) outlet out begun = λ image limit limited.
      device_within limit n what budget (state_of image old) at_rest (state_of image new) out turn
      (begun.begins image at_rest)
  device_decides (Err pause) outlet out begun = tt

  pub device_limited : (r : Result (Turn A) Pause) → Begun r → IfOk r (PausesByLimit budget)
  device_limited (Ok turn) begun = begun.limited
  device_limited (Err pause) begun = tt

  pub device_keeps : (r : Result (Turn A) Pause) → Begun r → Asked r → KeepsFlights (Device n what) old new
  device_keeps (Ok turn) begun asks = record {
    block = λ free. ap (λ (s : BoardSlot). s.block) begun.rest;
    host = ap (λ (s : BoardSlot). option_map (held_disk false) s.host) begun.rest;
    range = begun.range;
    place = (ap (λ (s : BoardSlot). s.extent) begun.rest, ap (λ (s : BoardSlot). s.spare) begun.rest);
  }
  device_keeps (Err pause) begun asks = record {
    block = λ free. ap (λ (s : BoardSlot). s.block) asks.rest;
    host = ap (λ (s : BoardSlot). option_map (held_disk false) s.host) asks.rest;
    range = range_of old.memory new.memory (ap (λ (s : BoardSlot). s.memory) asks.rest);
    place = (ap (λ (s : BoardSlot). s.extent) asks.rest, ap (λ (s : BoardSlot). s.spare) asks.rest);
  }

  pub device_note : (r : Result (Turn A) Pause) → Begun r → Asked r → new.disturbed ≡ old.disturbed
  device_note (Ok turn) begun asks = ap (λ (s : BoardSlot). s.disturbed) begun.rest
  device_note (Err pause) begun asks = ap (λ (s : BoardSlot). s.disturbed) asks.rest

  pub device_there : (r : Result (Turn A) Pause) → Begun r → IfOk r (λ turn. turn ≢ Answered BadSlot)
  device_there (Ok turn) begun = begun.there
  device_there (Err pause) begun = tt

  pub device_in_range : (r : Result (Turn A) Pause) → Begun r
      → IfOk r (λ turn. turn ≡ Answered BadRange → new ≡ old)
  device_in_range (Ok turn) begun = λ bad. absurd (begun.in_range bad)
  device_in_range (Err pause) begun = tt

  pub device_memory : (r : Result (Turn A) Pause) → Begun r
      → IfOk r (λ turn. turn ≡ Answered NoMemory → (image : List ℕ) → MayLackMemory (state_of image old) (Device n what))
  device_memory (Ok turn) begun = begun.no_memory
  device_memory (Err pause) begun = tt
