-- A restore as an event: it has one outcome, and a slot that takes up a snapshot gives it.
use Rattle.std.proofs.Common.{◌≡◌, ◌∙◌, inl, inr, ℕ, Bool, true, false, List, [], Option, Some, None, Result, Ok, Err, refl, sym, ap, subst}
use Rattle.std.specs.Prelude.{IfErr, IsSome, OnErr, OnOk}
use Rattle.std.specs.Option.{option_map}
use Rattle.sector_cache.specs.Sector.{extent_of}
use Rattle.snapshot.specs.declared.saved.SavedSlot.{SavedSlot}
use Rattle.snapshot.specs.Spelling.{IsSnapshot}
use Rattle.snapshot.proofs.First.{first_fault_once}
use Rattle.snapshot.proofs.OfSlot.{snapshot_once}
use Rattle.board.specs.declared.event.EventKind.TheVariants.{Restore}
use Rattle.device_list.specs.List.{are_at_work}
use Rattle.device_list.specs.Saved.{devices_restored}
use Rattle.board.specs.declared.reply.Reply.TheVariants.{BadState, Busy}
use Rattle.board.specs.declared.saved.RestoreFault.{RestoreFault}
use Rattle.board.specs.declared.saved.RestoreFault.TheVariants.{Snapshot, OtherSlot, BadDevice, BadBlock, BadConsole, BadDeviceWindow, BadWaiting}
use Rattle.board.specs.Image.{Health, sectors_of}
use Rattle.board.specs.Outcome.{Outcome, does, replies}
use Rattle.hosted_disk.specs.Disk.{HostedDisk}
use Rattle.board.specs.Backing.{KeepsHost, held_disk, sectors_by}
use Rattle.board.specs.Restoring.{IsRestoring, IsTakenUp, RestoresUnless, slot_in, taken_up_reply}
use Rattle.board.specs.Saved.{IsCauseOf, IsPrevented, IsRestored, Prevents, Suits, SuitsBesideDevices, TakesUp}
use Rattle.board.specs.Slot.{BoardSlot, SlotState, state_of, spare_start}
use Rattle.board.specs.World.{MayGiveOverImage}
use Rattle.board.proofs.SavedDevices.{no_windows}
use Rattle.board.proofs.Saving.{Said, none_some, said_of, same_value}

-- ---- there is at most one outcome

takes_once : (old : BoardSlot) (said : Said) (one other : BoardSlot) → TakesUp old said.0 said.1 said.2 one
    → TakesUp old said.0 said.1 said.2 other → one ≡ other
takes_once old said one other a b =
    let block : one.block ≡ other.block = same_value _ _ _ a.block b.block in
    let console : one.console ≡ other.console = same_value _ _ _ a.console b.console in
    let devices : one.devices ≡ other.devices = same_value _ _ _ a.devices b.devices in
    a.is ∙ (rw (block, console, devices) refl ∙ sym b.is)

slot_once : (old : BoardSlot) (bytes : List ℕ) (one other : BoardSlot) → IsRestored old bytes one
    → IsRestored old bytes other → one ≡ other
slot_once old bytes one other a b =
    let same : said_of a.saved a.pending a.waiting ≡ said_of b.saved b.pending b.waiting =
    snapshot_once _ _ _ _ _ _ _ a.read b.read in
    takes_once old (said_of b.saved b.pending b.waiting) one other
    (subst (λ (x : Said). TakesUp old x.0 x.1 x.2 one) same a.takes_up) b.takes_up

-- what prevents it doesn't leave a slot that took it up
not_both : (old : BoardSlot) (said : Said) (new : BoardSlot) (why : RestoreFault)
    → TakesUp old said.0 said.1 said.2 new → Prevents old said.0 said.2 why → ⊥
not_both old said new (Snapshot fault) takes prevents = prevents
not_both old said new OtherSlot takes prevents = prevents takes.suits.beside
not_both old said new BadDevice takes prevents = prevents.1 takes.suits.devices
not_both old said new BadBlock takes prevents = none_some _ _ prevents.1 takes.block
not_both old said new BadConsole takes prevents = none_some _ _ prevents.1.1 takes.console
not_both old said new BadDeviceWindow takes prevents =
    no_windows (devices_restored old.memory said.0.devices.items old.devices) said.2 new.devices prevents.1.1.1 takes.devices
not_both old said new BadWaiting takes prevents = none_some _ _ prevents.1.1.1.1 takes.devices

not_prevented_too : (old : BoardSlot) (bytes : List ℕ) (new : BoardSlot) (why : RestoreFault)
    → IsRestored old bytes new → IsPrevented old bytes why → ⊥
not_prevented_too old bytes new why is cause =
    let same : said_of is.saved is.pending is.waiting ≡ said_of cause.saved cause.pending cause.waiting =
    snapshot_once _ _ _ _ _ _ _ is.read cause.read in
    not_both old (said_of cause.saved cause.pending cause.waiting) new why
    (subst (λ (x : Said). TakesUp old x.0 x.1 x.2 new) same is.takes_up) cause.prevents

no_cause : (old : BoardSlot) (bytes : List ℕ) (new : BoardSlot) (why : RestoreFault)
    → IsRestored old bytes new → IsCauseOf old bytes why → ⊥
no_cause old bytes new (Snapshot fault) is cause = cause.none is.saved is.pending is.waiting is.read
no_cause old bytes new why is cause = not_prevented_too old bytes new why is cause

-- ---- and one cause of a refusal

some_none : {A : Type 0} (r : Option A) → r ≡ None → IsSome r → ⊥
some_none None e h = absurd cc
some_none (Some x) e h = absurd cc

prevents_once : (slot : BoardSlot) (saved : SavedSlot) (waiting : Option (List ℕ)) (one other : RestoreFault)
    → Prevents slot saved waiting one → Prevents slot saved waiting other → one ≡ other
prevents_once slot saved waiting (Snapshot fault) other a b = absurd a
prevents_once slot saved waiting one (Snapshot fault) a b = absurd b
prevents_once slot saved waiting OtherSlot OtherSlot a b = refl
prevents_once slot saved waiting BadDevice BadDevice a b = refl
prevents_once slot saved waiting BadBlock BadBlock a b = refl
prevents_once slot saved waiting BadConsole BadConsole a b = refl
prevents_once slot saved waiting BadDeviceWindow BadDeviceWindow a b = refl
prevents_once slot saved waiting BadWaiting BadWaiting a b = refl
prevents_once slot saved waiting OtherSlot BadDevice a b = absurd (a b.0)
prevents_once slot saved waiting BadDevice OtherSlot a b = absurd (b a.0)
prevents_once slot saved waiting OtherSlot _ a b = absurd (a b.0.beside)
prevents_once slot saved waiting BadDevice _ a b = absurd (a.1 b.0.devices)
prevents_once slot saved waiting _ OtherSlot a b = absurd (b a.0.beside)
prevents_once slot saved waiting _ BadDevice a b = absurd (b.1 a.0.devices)
prevents_once slot saved waiting BadBlock _ a b = absurd (some_none _ a.1 b.1.0)
prevents_once slot saved waiting _ BadBlock a b = absurd (some_none _ b.1 a.1.0)
prevents_once slot saved waiting BadConsole _ a b = absurd (some_none _ a.1.1 b.1.1.0)
prevents_once slot saved waiting _ BadConsole a b = absurd (some_none _ b.1.1 a.1.1.0)
prevents_once slot saved waiting BadDeviceWindow BadWaiting a b = absurd (some_none _ a.1.1.1 b.1.1.1.0)
prevents_once slot saved waiting BadWaiting BadDeviceWindow a b = absurd (some_none _ b.1.1.1 a.1.1.1.0)

prevented_once : (slot : BoardSlot) (bytes : List ℕ) (one other : RestoreFault)
    → IsPrevented slot bytes one → IsPrevented slot bytes other → one ≡ other
prevented_once slot bytes one other a b =
    let same : said_of a.saved a.pending a.waiting ≡ said_of b.saved b.pending b.waiting =
    snapshot_once _ _ _ _ _ _ _ a.read b.read in
    prevents_once slot b.saved b.waiting one other
    (subst (λ (x : Said). Prevents slot x.0 x.2 one) same a.prevents) b.prevents

-- what was saved prevents it, where the bytes are a snapshot
prevented : (slot : BoardSlot) (bytes : List ℕ) (saved : SavedSlot) (pending : List ℕ) (waiting : Option (List ℕ))
    (why : RestoreFault) → IsSnapshot bytes saved pending waiting → IsCauseOf slot bytes why → IsPrevented slot bytes why
prevented slot bytes saved pending waiting (Snapshot fault) is cause = absurd (cause.none saved pending waiting is)
prevented slot bytes saved pending waiting _ is cause = cause

-- where the one cause is what was saved, so is the other
behind_prevented : (slot : BoardSlot) (bytes : List ℕ) (one other : RestoreFault)
    → IsPrevented slot bytes one → IsCauseOf slot bytes other → one ≡ other
behind_prevented slot bytes one other a cause =
    prevented_once slot bytes one other a (prevented slot bytes a.saved a.pending a.waiting other a.read cause)

pub cause_once : (slot : BoardSlot) (bytes : List ℕ) (one other : RestoreFault)
    → IsCauseOf slot bytes one → IsCauseOf slot bytes other → one ≡ other
cause_once slot bytes (Snapshot one) (Snapshot other) a b = ap Snapshot (first_fault_once bytes one other a b)
cause_once slot bytes one (Snapshot other) a b = behind_prevented slot bytes one (Snapshot other) a b
cause_once slot bytes one other a b = sym (behind_prevented slot bytes other one b a)

-- what a guest can see of a slot whose disk has these bytes
abbrev state_in : List ℕ → List ℕ → BoardSlot → SlotState
state_in extent bytes slot = record (state_of [] slot) { extent = extent; spare_bytes = bytes }

state_once : (state : SlotState) (bytes : List ℕ) (one other : SlotState) → IsTakenUp state bytes one
    → IsTakenUp state bytes other → one ≡ other
state_once state bytes one other a b =
    let slots : slot_in one ≡ slot_in other =
    slot_once (slot_in state) bytes (slot_in one) (slot_in other) a.restored b.restored in
    let extents : one.extent ≡ other.extent = a.extent ∙ sym b.extent in
    let spares : one.spare_bytes ≡ other.spare_bytes = a.spare ∙ sym b.spare in
    ap (λ (slot : BoardSlot). state_in one.extent one.spare_bytes slot) slots
    ∙ (ap (λ (extent : List ℕ). state_in extent one.spare_bytes (slot_in other)) extents
    ∙ ap (λ (bytes : List ℕ). state_in other.extent bytes (slot_in other)) spares)

restored_once : {A : Type 0} (state : SlotState) (bytes : List ℕ) (one other : Outcome A)
    → IsRestoring state bytes one → IsRestoring state bytes other → one ≡ other
restored_once state bytes one other (inl a) (inl b) =
    a.1 ∙ (ap does (state_once state bytes one.state other.state a.0 b.0) ∙ sym b.1)
restored_once state bytes one other (inl a) (inr b) =
    absurd (no_cause (slot_in state) bytes (slot_in one.state) b.0.why a.0.restored b.0.cause)
restored_once state bytes one other (inr a) (inl b) =
    absurd (no_cause (slot_in state) bytes (slot_in other.state) a.0.why b.0.restored a.0.cause)
restored_once state bytes one other (inr a) (inr b) = a.1 ∙ sym b.1

pub unless_once : {A : Type 0} (works : Bool) (state : SlotState) (bytes : List ℕ) (one other : Outcome A)
    → RestoresUnless works state bytes one → RestoresUnless works state bytes other → one ≡ other
unless_once true state bytes one other a b = a ∙ sym b
unless_once false state bytes one other a b = restored_once state bytes one other a b

-- it keeps the identity
pub restored_named : {A : Type 0} (works : Bool) (state : SlotState) (bytes : List ℕ) (outcome : Outcome A)
    → RestoresUnless works state bytes outcome → outcome.state.identity ≡ state.identity
restored_named true state bytes outcome a = ap (λ o. o.state.identity) a
restored_named false state bytes outcome (inl a) = ap (λ (slot : BoardSlot). slot.identity) a.0.restored.takes_up.is
restored_named false state bytes outcome (inr a) = ap (λ o. o.state.identity) a.1

-- and who has the disk
hold_kept : (on_hold : Bool) (host : Option HostedDisk) → KeepsHost host (option_map (held_disk on_hold) host)
hold_kept on_hold None = refl
hold_kept on_hold (Some disk) = refl

pub restored_host : {A : Type 0} (works : Bool) (state : SlotState) (bytes : List ℕ) (outcome : Outcome A)
    → RestoresUnless works state bytes outcome → KeepsHost state.host outcome.state.host
restored_host true state bytes outcome a = ap (λ o. option_map (held_disk false) o.state.host) a
restored_host false state bytes outcome (inl a) =
    ap (λ (slot : BoardSlot). option_map (held_disk false) slot.host) a.0.restored.takes_up.is
    ∙ hold_kept a.0.restored.saved.on_hold state.host
restored_host false state bytes outcome (inr a) = ap (λ o. option_map (held_disk false) o.state.host) a.1

-- ---- a slot gives it

-- the extent's bytes fill its sectors
abbrev IsCounted : List ℕ → BoardSlot → Type 0
IsCounted image slot = sectors_of (state_of image slot).extent ≡ slot.extent.count

beside_in : (image : List ℕ) (slot : BoardSlot) (saved : SavedSlot) → IsCounted image slot
    → SuitsBesideDevices saved slot → SuitsBesideDevices saved (slot_in (state_of image slot))
beside_in image slot saved counted suits = record {
  base = suits.base;
  len = suits.len;
  sectors = suits.sectors ∙ ap (λ n. sectors_by slot.host n) (sym counted);
  read_only = suits.read_only;
  identity = suits.identity;
  block = suits.block;
  console = suits.console;
  on_hold = suits.on_hold;
}

suits_in : (image : List ℕ) (slot : BoardSlot) (saved : SavedSlot) → IsCounted image slot → Suits saved slot
    → Suits saved (slot_in (state_of image slot))
suits_in image slot saved counted suits = record {
  beside = beside_in image slot saved counted suits.beside;
  devices = suits.devices;
}

beside_out : (image : List ℕ) (slot : BoardSlot) (saved : SavedSlot) → IsCounted image slot
    → SuitsBesideDevices saved (slot_in (state_of image slot)) → SuitsBesideDevices saved slot
beside_out image slot saved counted suits = record {
  base = suits.base;
  len = suits.len;
  sectors = suits.sectors ∙ ap (λ n. sectors_by slot.host n) counted;
  read_only = suits.read_only;
  identity = suits.identity;
  block = suits.block;
  console = suits.console;
  on_hold = suits.on_hold;
}

taken_in : (image : List ℕ) (slot new : BoardSlot) (bytes : List ℕ) → IsCounted image slot
    → IsRestored slot bytes new → IsTakenUp (state_of image slot) bytes (state_of image new)
taken_in image slot new bytes counted h = record {
  restored = record {
    saved = h.saved;
    pending = h.pending;
    waiting = h.waiting;
    read = h.read;
    takes_up = record {
      suits = suits_in image slot h.saved counted h.takes_up.suits;
      block = h.takes_up.block;
      console = h.takes_up.console;
      devices = h.takes_up.devices;
      is = ap (λ (s : BoardSlot). slot_in (state_of image s)) h.takes_up.is;
    };
  };
  extent = ap (λ (s : BoardSlot). extent_of image s.extent.start s.extent.count) h.takes_up.is;
  spare = ap (λ (s : BoardSlot). extent_of image (spare_start s) s.spare) h.takes_up.is;
}

prevents_in : (image : List ℕ) (slot : BoardSlot) (saved : SavedSlot) (waiting : Option (List ℕ)) (why : RestoreFault)
    → IsCounted image slot → Prevents slot saved waiting why
    → Prevents (slot_in (state_of image slot)) saved waiting why
prevents_in image slot saved waiting (Snapshot fault) counted h = h
prevents_in image slot saved waiting OtherSlot counted h = λ suits. h (beside_out image slot saved counted suits)
prevents_in image slot saved waiting BadDevice counted h = (beside_in image slot saved counted h.0, h.1)
prevents_in image slot saved waiting BadBlock counted h = (suits_in image slot saved counted h.0, h.1)
prevents_in image slot saved waiting BadConsole counted h = (suits_in image slot saved counted h.0, h.1)
prevents_in image slot saved waiting BadDeviceWindow counted h = (suits_in image slot saved counted h.0, h.1)
prevents_in image slot saved waiting BadWaiting counted h = (suits_in image slot saved counted h.0, h.1)

prevented_in : (image : List ℕ) (slot : BoardSlot) (bytes : List ℕ) (why : RestoreFault) → IsCounted image slot
    → IsPrevented slot bytes why → IsPrevented (slot_in (state_of image slot)) bytes why
prevented_in image slot bytes why counted h = record {
  saved = h.saved;
  pending = h.pending;
  waiting = h.waiting;
  read = h.read;
  prevents = prevents_in image slot h.saved h.waiting why counted h.prevents;
}

cause_in : (image : List ℕ) (slot : BoardSlot) (bytes : List ℕ) (why : RestoreFault) → IsCounted image slot
    → IsCauseOf slot bytes why → IsCauseOf (slot_in (state_of image slot)) bytes why
cause_in image slot bytes (Snapshot fault) counted h = h
cause_in image slot bytes why counted h = prevented_in image slot bytes why counted h

-- A slot that takes up a snapshot, or doesn't, gives what comes of that event, where no further disk is at work.
pub restore_given : (A : Type 0) (image : List ℕ) (slot new : BoardSlot) (bytes : List ℕ)
    (result : Result (Unit {0}) RestoreFault) (health : Health) → are_at_work slot.devices ≡ false → IsCounted image slot
    → OnOk result (IsRestored slot bytes new) → IfErr result (IsCauseOf slot bytes)
    → OnErr result (new ≡ slot)
    → MayGiveOverImage {A = A} (state_of image slot) (Restore bytes) health health
    (replies (state_of image new) (taken_up_reply result))
restore_given A image slot new bytes (Ok done) health idle counted ok fault kept = inl (record {
  alike = record { alike = rw idle (inl (taken_in image slot new bytes counted ok, refl)); image = refl };
  answered = λ no. absurd (cc);
  failures = refl;
})
restore_given A image slot new bytes (Err why) health idle counted ok fault kept = inl (record {
  alike = record {
    alike = rw idle (inr (
      record { why = why; cause = cause_in image slot bytes why counted fault },
      ap (λ (s : BoardSlot). replies (state_of image s) BadState) kept,
    ));
    image = refl;
  };
  answered = λ no. absurd (cc);
  failures = refl;
})

-- And one of whose further disks is at work gives a busy answer.
pub restore_waits : (A : Type 0) (state : SlotState) (bytes : List ℕ) (health : Health)
    → are_at_work state.devices ≡ true
    → MayGiveOverImage {A = A} state (Restore bytes) health health (replies state Busy)
restore_waits A state bytes health works = inl (record {
  alike = record { alike = rw works refl; image = refl };
  answered = λ no. absurd (cc no);
  failures = refl;
})
