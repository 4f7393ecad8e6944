-- A slot takes up the snapshot of every slot of its description.
use Rattle.std.proofs.Common.{◌≡◌, ◌∙◌, ◌+◌, ◌-◌, ◌<◌, ◌≤◌, ℕ, List, [], ◌∷◌, Option, Some, None, Result, Ok, Err, inl, inr, ltb, refl, sym, ap, subst, append_assoc, arith, drop, length, length-append, take}
use Rattle.std.proofs.lemmas.Bool.{cases_lt, lt-ltb}
use Rattle.std.proofs.lemmas.List.{append-nil, drop-append-le, drop-drop, drop_at, length-take-le, take-append-drop, take_at}
use Rattle.std.specs.Prelude.{◌++◌, ◌==◌, false, true, IfErr, IfOk, IfSome, IsOk, OnOk, if◌then◌else◌}
use Rattle.guest_memory.specs.Memory.{Memory}
use Rattle.mmio_window.specs.declared.device_kind.DeviceKind.{DeviceKind}
use Rattle.mmio_window.specs.declared.device_kind.DeviceKind.TheVariants.{Block, Console}
use Rattle.mmio_window.specs.Saved.{saved_window, window_restored}
use Rattle.mmio_window.specs.Soundness.{IsSound}
use Rattle.mmio_window.specs.Window.{WindowState}
use Rattle.mmio_window.proofs.Soundness.{IsSound-same_range}
use Rattle.snapshot.specs.declared.fault.SnapshotFault.{SnapshotFault}
use Rattle.snapshot.specs.declared.saved.SavedSlot.{SavedSlot}
use Rattle.snapshot.specs.Faults.{IsFirstFault}
use Rattle.snapshot.specs.Spelling.{IsSnapshot, WaitingFits, front_of, snapshot}
use Rattle.snapshot.proofs.OfSlot.{snapshot_once}
use Rattle.device_list.proofs.Sound.{still_sound}
use Rattle.device_list.specs.List.{AreSoundDevices}
use Rattle.device_list.specs.Device.{DeviceState}
use Rattle.device_list.specs.Saved.{RestoresEach, saved_devices}
use Rattle.device_list.specs.Waiting.{each_waiting, waiting_of}
use Rattle.board.specs.declared.saved.RestoreFault.{RestoreFault}
use Rattle.board.specs.declared.saved.RestoreFault.TheVariants.{Snapshot, OtherSlot, BadDevice, BadBlock, BadConsole, BadDeviceWindow, BadWaiting}
use Rattle.board.specs.Backing.{is_held}
use Rattle.board.specs.Saved.{IsAs, IsCauseOf, IsLike, IsRestored, IsSavedTo, IsSnapshotOf, IsTakenAgain, OffersFeatures, Prevents, RestoresIt, SuitsBesideDevices, TakesUp, as_devices, block_restored, console_restored, devices_taken_up, saved_slot, snapshot_of}
use Rattle.block_device.specs.Config.{block_features}
use Rattle.board.specs.Slot.{BoardSlot, IsSoundSlot}
use Rattle.board.proofs.SavedDevices.{devices_are, offering, suit_each, windows_are}

pub never_true : false ≡ true → ⊥
never_true is = absurd (cc is)

-- what a snapshot says: the slot, its pending input, and what waits in its further devices
abbrev pub Said : Type 0
Said = SavedSlot × List ℕ × Option (List ℕ)

abbrev pub said_of : SavedSlot → List ℕ → Option (List ℕ) → Said
said_of saved pending waiting = (saved, pending, waiting)

-- what that of a slot says
abbrev pub said_in : BoardSlot → Said
said_in slot = said_of (saved_slot slot) slot.pending (waiting_of slot.devices)

-- ---- what is saved

-- a window that is sound for a memory is given back over every memory of its range
restores_it : (kind : DeviceKind) (m : Memory) (w : WindowState) → IsSound m w → w.kind ≡ kind
    → ((other : Memory) → IsSound other w → window_restored w.kind other (saved_window w) ≡ Some w)
    → RestoresIt (window_restored kind) m w
restores_it kind m w sound is back other same =
    subst (λ (k : DeviceKind). window_restored k other (saved_window w) ≡ Some w) is
    (back other (IsSound-same_range m other w same sound))

-- where the generation is 0, the block device's is too
never_counted : (generation : ℕ) (restored : Option WindowState) → generation ≡ 0
    → (if generation == 0 then restored else None) ≡ restored
never_counted generation restored is = rw is refl

block_it : (m : Memory) (w : WindowState) → w.config_generation ≡ 0 → RestoresIt (window_restored Block) m w
    → RestoresIt block_restored m w
block_it m w never restores other same = never_counted w.config_generation _ never ∙ restores other same

pub offers_them : (slot : BoardSlot)
    → IsSoundSlot slot.memory slot.read_only slot.block slot.console slot.pending slot.devices → OffersFeatures slot
offers_them slot sound = record {
  block = sound.block_offers;
  console = sound.console_offers;
  devices = offering slot.memory slot.devices sound.devices_sound;
}

-- the snapshot of a slot that is sound
is_snapshot : (slot : BoardSlot) (bytes : List ℕ)
    → IsSoundSlot slot.memory slot.read_only slot.block slot.console slot.pending slot.devices
    → ((m : Memory) → IsSound m slot.block
    → window_restored slot.block.kind m (saved_window slot.block) ≡ Some slot.block)
    → ((m : Memory) → IsSound m slot.console → window_restored slot.console.kind m (saved_window slot.console)
    ≡ Some slot.console)
    → ((m : Memory) → AreSoundDevices m slot.devices → RestoresEach m slot.devices) → IsTakenAgain slot.devices
    → IsSnapshot bytes (saved_slot slot) slot.pending (waiting_of slot.devices) → IsSnapshotOf bytes slot
is_snapshot slot bytes sound block console devices waiting spelled = record {
  spelled = spelled;
  offers = offers_them slot sound;
  block = block_it slot.memory slot.block sound.block_generation
      (restores_it Block slot.memory slot.block sound.block_sound sound.block_kind block);
  console = restores_it Console slot.memory slot.console sound.console_sound sound.console_kind console;
  devices = λ m same. devices m (still_sound slot.memory m slot.devices same sound.devices_sound);
  waiting = waiting;
}

-- behind its front stands what waits in the further devices, if there are any
behind_front : (saved : SavedSlot) (pending : List ℕ) (devices : List DeviceState)
    → front_of saved pending (ltb 0 (length devices)) ++ each_waiting devices
    ≡ snapshot saved pending (waiting_of devices)
behind_front saved pending [] = append-nil (front_of saved pending false)
behind_front saved pending (d ∷ ds) = rw (lt-ltb 0 (length (d ∷ ds)) (omega arith)) refl

-- only in further devices something waits
waits_there : (slot : BoardSlot) → WaitingFits (saved_slot slot) (waiting_of slot.devices)
waits_there slot = by_devices slot.devices
  where
    by_devices : (devices : List DeviceState)
        → IfSome (waiting_of devices) (λ bytes. 1 ≤ length (saved_devices devices))
    by_devices [] = tt
    by_devices (d ∷ ds) = omega arith

-- so many bytes has the snapshot
pub saved_len : (slot : BoardSlot) (saved : SavedSlot) (pending : List ℕ) (further len count : ℕ)
    → saved ≡ saved_slot slot → pending ≡ slot.pending → further ≡ length slot.devices
    → len ≡ length (front_of saved pending (ltb 0 further)) → count ≡ length (each_waiting slot.devices)
    → len + count ≡ length (snapshot_of slot)
saved_len slot saved pending further len count is pending_is further_is len_is count_is =
    rw (len_is, count_is, is, pending_is, further_is)
    (sym (ap (λ (bytes : List ℕ). length bytes) (sym (behind_front (saved_slot slot) slot.pending slot.devices))
    ∙ length-append (front_of (saved_slot slot) slot.pending (ltb 0 (length slot.devices))) (each_waiting slot.devices)))

-- what is put at the front of a part of a buffer, and what is put behind that
both_put : (front behind old : List ℕ) (room : ℕ) → length front ≤ room → room + length behind ≡ length old
    → take (length front) ((front ++ drop (length front) (take room old)) ++ drop room old)
    ++ (behind ++ drop (length behind) (drop (length front) ((front ++ drop (length front) (take room old)) ++ drop room old)))
    ≡ (front ++ behind) ++ drop (length front + length behind) old
both_put front behind old room fits all =
    let len : length (take room old) ≡ room = length-take-le room old (omega (arith, all)) in
    let rest : drop (length front) (take room old) ++ drop room old ≡ drop (length front) old =
    sym (drop-append-le (length front) (take room old) (drop room old) (omega (arith, len, fits)))
    ∙ ap (drop (length front)) (take-append-drop room old) in
    rw (
      append_assoc front (drop (length front) (take room old)) (drop room old),
      rest,
      take_at front (drop (length front) old) (length front) refl,
      drop_at front (drop (length front) old) (length front) refl,
      drop-drop (length behind) (length front) old,
      append_assoc front behind (drop (length front + length behind) old),
    ) refl

-- what is put into a buffer: the front into the part that what waits leaves free, and what waits behind the front
pub saved_to : (slot : BoardSlot) (saved : SavedSlot) (pending old part put : List ℕ) (further len count behind : ℕ)
    → IsSoundSlot slot.memory slot.read_only slot.block slot.console slot.pending slot.devices → saved ≡ saved_slot slot
    → pending ≡ slot.pending
    → ((m : Memory) → IsSound m slot.block → window_restored slot.block.kind m saved.block ≡ Some slot.block)
    → ((m : Memory) → IsSound m slot.console → window_restored slot.console.kind m saved.console
    ≡ Some slot.console)
    → ((m : Memory) → AreSoundDevices m slot.devices → RestoresEach m slot.devices) → IsTakenAgain slot.devices
    → ((waiting : Option (List ℕ)) → WaitingFits saved waiting
    → IsSnapshot (snapshot saved pending waiting) saved pending waiting)
    → further ≡ length slot.devices → len ≡ length (front_of saved pending (ltb 0 further))
    → count ≡ length (each_waiting slot.devices) → count ≤ length old → len ≤ length old - count → behind ≡ count
    → part ≡ front_of saved pending (ltb 0 further) ++ drop len (take (length old - count) old)
    → put ≡ each_waiting slot.devices
    → IsSavedTo slot old
    (take len (part ++ drop (length old - count) old)
    ++ (put ++ drop behind (drop len (part ++ drop (length old - count) old)))) (len + count)
saved_to slot saved pending old part put further len count behind sound is pending_is block console devices again whole further_is len_is count_is room fits behind_is part_is put_is =
    let front = front_of saved pending (ltb 0 further) in
    let waiting = each_waiting slot.devices in
    let of_slot : IsSnapshot (snapshot_of slot) (saved_slot slot) slot.pending (waiting_of slot.devices) =
    rw (is, pending_is) at (whole (waiting_of slot.devices) (rw is (waits_there slot))) in
    let behind_it : front ++ waiting ≡ snapshot saved pending (waiting_of slot.devices) =
    rw further_is (behind_front saved pending slot.devices) in
    let same : snapshot saved pending (waiting_of slot.devices) ≡ snapshot_of slot = rw (is, pending_is) refl in
    let spelled : front ++ waiting ≡ snapshot_of slot = behind_it ∙ same in
    let both : take len (part ++ drop (length old - count) old)
    ++ (put ++ drop behind (drop len (part ++ drop (length old - count) old)))
    ≡ (front ++ waiting) ++ drop (len + count) old =
    rw (behind_is, part_is, put_is, len_is, count_is)
    (both_put front waiting old (length old - length waiting) (omega (arith, fits, len_is, count_is))
    (omega (arith, room, count_is))) in
    record {
      snapshot = is_snapshot slot (snapshot_of slot) sound (rw is at block) (rw is at console) devices again of_slot;
      len_is = rw (len_is, count_is, ← spelled) (sym (length-append front waiting));
      room = omega (arith, room, fits);
      text = both ∙ ap (λ (text : List ℕ). text ++ drop (len + count) old) spelled;
    }

-- a front that isn't refused fits
pub front_fits : (old front : List ℕ) (len count : ℕ) → count ≤ length old → len ≡ length front
    → ((length (take (length old - count) old) < length front) → false ≡ true) → len ≤ length old - count
front_fits old front len count room len_is short =
    elim (cases_lt (length (take (length old - count) old)) (length front)) [
      | inl less ↦ absurd (never_true (short less))
      | inr enough ↦ omega (arith, enough, len_is, length-take-le (length old - count) old (omega arith))
    ]

-- ---- what takes it up

pub same_value : {A : Type 0} (r : Option A) (x y : A) → r ≡ Some x → r ≡ Some y → x ≡ y
same_value r x y a b = cc

suits_it : (slot other : BoardSlot) (bytes : List ℕ) → IsSnapshotOf bytes slot → IsLike slot other
    → OffersFeatures other → SuitsBesideDevices (saved_slot slot) other
suits_it slot other bytes is like offers = record {
  base = sym like.memory.base;
  len = sym like.memory.size;
  sectors = sym like.sectors;
  read_only = sym like.read_only;
  identity = sym like.identity;
  block = is.offers.block ∙ ap block_features (sym like.read_only) ∙ sym offers.block;
  console = is.offers.console ∙ sym offers.console;
  on_hold = like.on_hold;
}

-- a slot that has taken it up is as the one that was saved
pub as_saved : (slot old new : BoardSlot) (bytes : List ℕ) (said : Said)
    → IsSnapshotOf bytes slot → IsLike slot old
    → said ≡ said_in slot → TakesUp old said.0 said.1 said.2 new → IsAs slot old new
as_saved slot old new bytes said is like e takes =
    let block_saved : said.0.block ≡ saved_window slot.block = ap (λ (x : Said). x.0.block) e in
    let console_saved : said.0.console ≡ saved_window slot.console = ap (λ (x : Said). x.0.console) e in
    let pending_saved : said.1 ≡ slot.pending = ap (λ (x : Said). x.1) e in
    let cols_saved : said.0.cols ≡ slot.cols = ap (λ (x : Said). x.0.cols) e in
    let rows_saved : said.0.rows ≡ slot.rows = ap (λ (x : Said). x.0.rows) e in
    let hold_saved : said.0.on_hold ≡ is_held slot.host = ap (λ (x : Said). x.0.on_hold) e in
    let block : new.block ≡ slot.block
    = same_value _ _ _ (ap (block_restored old.memory) (sym block_saved)
    ∙ takes.block) (is.block old.memory like.memory) in
    let console : new.console ≡ slot.console
    = same_value _ _ _ (ap (console_restored old.memory) (sym console_saved)
    ∙ takes.console) (is.console old.memory like.memory) in
    let devices : new.devices ≡ as_devices slot.devices old.devices
    = same_value _ _ _ (ap (λ (x : Said). devices_taken_up old.memory x.0.devices.items x.2 old.devices) (sym e)
    ∙ takes.devices)
    (devices_are old.memory slot.devices old.devices (is.devices old.memory like.memory) is.waiting like.devices) in
    takes.is
    ∙ rw (
      block,
      console,
      devices,
      pending_saved,
      cols_saved,
      rows_saved,
      hold_saved,
      like.read_only,
      like.identity,
    ) refl

pub none_some : {A : Type 0} (r : Option A) (x : A) → r ≡ None → r ≡ Some x → ⊥
none_some r x a b = cc

not_prevented : (slot old : BoardSlot) (bytes : List ℕ) (why : RestoreFault)
    → IsSnapshotOf bytes slot → IsLike slot old
    → OffersFeatures old → Prevents old (saved_slot slot) (waiting_of slot.devices) why → ⊥
not_prevented slot old bytes (Snapshot fault) is like offers prevents = prevents
not_prevented slot old bytes OtherSlot is like offers prevents =
    prevents (suits_it slot old bytes is like offers)
not_prevented slot old bytes BadDevice is like offers prevents =
    prevents.1 (suit_each slot.devices old.devices like.devices is.offers.devices offers.devices)
not_prevented slot old bytes BadBlock is like offers prevents =
    none_some _ _ prevents.1 (is.block old.memory like.memory)
not_prevented slot old bytes BadConsole is like offers prevents =
    none_some _ _ prevents.1.1 (is.console old.memory like.memory)
not_prevented slot old bytes BadDeviceWindow is like offers prevents =
    none_some _ _ prevents.1.1.1
    (windows_are old.memory slot.devices old.devices (is.devices old.memory like.memory) like.devices)
not_prevented slot old bytes BadWaiting is like offers prevents =
    none_some _ _ prevents.1.1.1.1
    (devices_are old.memory slot.devices old.devices (is.devices old.memory like.memory) is.waiting like.devices)

-- The outcome of taking up what was read, for the slot whose snapshot it is.
pub taken_up : (slot old new : BoardSlot) (bytes : List ℕ) (saved : SavedSlot) (pending : List ℕ)
    (waiting : Option (List ℕ)) (result : Result (Unit {0}) RestoreFault)
    → IsSnapshotOf bytes slot → IsLike slot old → OffersFeatures old
    → IsSnapshot bytes saved pending waiting
    → OnOk result (TakesUp old saved pending waiting new) → IfErr result (Prevents old saved waiting)
    → IsOk result × IsAs slot old new
taken_up slot old new bytes saved pending waiting (Ok done) is like offers read takes prevents = (
  refl,
  as_saved slot old new bytes (said_of saved pending waiting) is like (snapshot_once _ _ _ _ _ _ _ read is.spelled) takes,
)
taken_up slot old new bytes saved pending waiting (Err why) is like offers read takes prevents =
    let same : said_of saved pending waiting ≡ said_in slot = snapshot_once _ _ _ _ _ _ _ read is.spelled in
    absurd (not_prevented slot old bytes why is like offers
    (subst (λ (x : Said). Prevents old x.0 x.2 why) same prevents))

-- what was taken up, of the bytes
pub restored_of : (old new : BoardSlot) (bytes : List ℕ) (saved : SavedSlot) (pending : List ℕ)
    (waiting : Option (List ℕ)) (result : Result (Unit {0}) RestoreFault)
    → IsSnapshot bytes saved pending waiting → OnOk result (TakesUp old saved pending waiting new)
    → OnOk result (IsRestored old bytes new)
restored_of old new bytes saved pending waiting (Ok done) read takes =
    record { saved = saved; pending = pending; waiting = waiting; read = read; takes_up = takes }
restored_of old new bytes saved pending waiting (Err why) read takes = tt

-- and no snapshot of a slot is refused as none
pub not_refused : (slot : BoardSlot) (bytes : List ℕ) (fault : SnapshotFault) → IsSnapshotOf bytes slot
    → IsFirstFault bytes fault → ⊥
not_refused slot bytes fault is first =
    first.none (saved_slot slot) slot.pending (waiting_of slot.devices) is.spelled

-- why nothing was taken up, of the bytes
pub cause_of : (old : BoardSlot) (bytes : List ℕ) (saved : SavedSlot) (pending : List ℕ) (waiting : Option (List ℕ))
    (result : Result (Unit {0}) RestoreFault)
    → IsSnapshot bytes saved pending waiting → IfErr result (Prevents old saved waiting)
    → IfErr result (IsCauseOf old bytes)
cause_of old bytes saved pending waiting (Ok done) read prevents = tt
cause_of old bytes saved pending waiting (Err (Snapshot fault)) read prevents = absurd prevents
cause_of old bytes saved pending waiting _ read prevents =
    record { saved = saved; pending = pending; waiting = waiting; read = read; prevents = prevents }
