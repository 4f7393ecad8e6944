-- When each refusal comes of what is done to a further device, and of what the host says of a disk.
use Rattle.std.proofs.Common.{◌≡◌, ◌⊎◌, ◌↔◌, ℕ, ◌≤◌, false, List, length, Option, Some, None, refl, sym, ◌∙◌, ap, subst}
use Rattle.std.specs.Option.{option_map}
use Rattle.std.specs.Prelude.{IsErrOf, IsSomeAnd, Result}
use Rattle.std.specs.List.{slice_get}
use Rattle.board.specs.declared.event.DeviceEvent.{DeviceEvent}
use Rattle.board.specs.declared.event.DeviceEvent.TheVariants.{Host as DiskTold}
use Rattle.board.specs.declared.event.EventKind.TheVariants.{Device, Host}
use Rattle.block_device.specs.declared.operation.HostEvent.{HostEvent}
use Rattle.board.specs.declared.reply.Reply.{Reply}
use Rattle.hosted_disk.specs.Disk.{HostedDisk}
use Rattle.hosted_disk.specs.Told.{has_effect}
use Rattle.device_list.specs.List.{disk_at}
use Rattle.board.specs.Devices.{reply_at, told_reply, waits_for_disk}
use Rattle.board.specs.declared.slot_disk.SlotDisk.{SlotDisk}
use Rattle.board.specs.declared.slot_disk.SlotDisk.TheVariants.{Further, Own}
use Rattle.board.specs.HostedDisks.{saying}
use Rattle.board.specs.Slot.{BoardSlot, SlotState, state_of}
use Rattle.session.specs.declared.progress.Progress.{Progress}
use Rattle.session.specs.declared.refusal.Refusal.{Refusal}
use Rattle.session.specs.declared.refusal.Refusal.TheVariants as refusal
use Rattle.session.specs.declared.response.Response.{Response}
use Rattle.session.specs.declared.response.Response.TheVariants.{Answered, More, Busy, Idle}
use Rattle.session.specs.Answering.{Means, Suits, SuitsCall, served_response}
use Rattle.session.specs.Devices.{RefusesAtDevice, TakesNothing}
use Rattle.session.specs.Operations.{HasNoDisk, HasNothing, HoldsUp, IsSpare}
use Rattle.session.specs.Pausing.{IsEventCall, IsToldCall}
use Rattle.session.specs.Session.{IsIdle, SessionState}
use Rattle.session.proofs.Devices.{bad_exact, idle_exact, unanswered_asks}
use Rattle.session.proofs.Exact.{means_refused, only_paused, refusal_of, refused, refused_when, refuses, rests_by, said_call, says_bad_device, says_idle, served_pure}

-- ---- what is done to a further device

device_bad : {A : Type 0} (old new : SessionState) (slot n : ℕ) (what : DeviceEvent A)
    → length old.paused ≡ length old.slots → (response : Response A)
    → IsEventCall old slot (Device n what) response new
    → (refusal_of response ≡ Some refusal.BadDevice) ↔ (IsIdle slot old × TakesNothing slot n what old)
device_bad {A} old new slot n what many =
    said_call old new slot (Device n what) many refusal.BadDevice
    (λ one. reply_at n what (state_of old.image one) ≡ None)
    (λ one none. unanswered_asks n what (state_of old.image one) none) (λ is. cc (is)) (λ is. cc (is))
    (λ answer one came.
    let says = says_bad_device answer in
    let exact = bad_exact n what (state_of old.image one) _ came.after came.outcome came.given in
    (λ is. exact.0 (came.said ∙ says.0 is), λ bad. says.1 (sym came.said ∙ exact.1 bad)))

-- when each refusal comes of what is done to a further device
pub device_refuses : {A T : Type 0} (old new : SessionState) (slot n : ℕ) (what : DeviceEvent A)
    (response : Response A) (wanted : T → Response A) (r : Result T Refusal)
    → ((value : T) → refusal_of (wanted value) ≡ None) → Means wanted r response
    → length old.paused ≡ length old.slots → IsEventCall old slot (Device n what) response new
    → RefusesAtDevice slot n what ((¬ IsIdle slot old) ⊎ HoldsUp slot (Device n what) old) old r
device_refuses old new slot n what response wanted r pure means many call =
    let says = refuses old new slot (Device n what) response wanted r pure means many call in
    record {
      bad_slot = says.bad_slot;
      busy = says.busy;
      bad_device = refused_when wanted response r refusal.BadDevice pure means
          (device_bad old new slot n what many response call);
    }

-- and of what waits for no disk, with what is told of the call
pub device_told : {A T : Type 0} (old new : SessionState) (slot n : ℕ) (what : DeviceEvent A)
    (response : Response A) (wanted : T → Response A) (r : Result T Refusal)
    → ((value : T) → refusal_of (wanted value) ≡ None) → Means wanted r response
    → length old.paused ≡ length old.slots → IsEventCall old slot (Device n what) response new
    → ((state : SlotState) → waits_for_disk what n state.devices ≡ false)
    → IsToldCall old slot (Device n what) (Means wanted r) new × RefusesAtDevice slot n what (¬ IsIdle slot old) old r
device_told {A} old new slot n what response wanted r pure means many call free =
    let says = device_refuses old new slot n what response wanted r pure means many call in (
      record { response = response; call = call; told = means },
      record {
        bad_slot = says.bad_slot;
        busy = only_paused {A = A} old slot (Device n what) refl free says.busy;
        bad_device = says.bad_device;
      },
    )

-- ---- what the host says of a disk

-- there is nothing to do for what the host says of a slot's own disk
own_idle : {A : Type 0} (old new : SessionState) (slot : ℕ) (said : HostEvent) (response : Response A)
    (r : Result Progress Refusal) → Means served_response r response → length old.paused ≡ length old.slots
    → IsEventCall old slot (Host said) response new
    → IsErrOf r refusal.Idle ↔ (IsIdle slot old × HasNothing slot Own said old.slots)
own_idle {A} old new slot said response r means many call =
    refused_when served_response response r refusal.Idle (served_pure A) means
    (said_call old new slot (Host said) many refusal.Idle (λ one. IsSpare said one.host) (λ one spare. refl)
    (λ is. cc (is)) (λ is. cc (is))
    (λ answer one came.
    let says = says_idle answer in
    let rests = rests_by (state_of old.image one) came.outcome one.host said _ came.after refl came.given in
    (λ is. rests.0 (came.said ∙ says.0 is), λ rest. says.1 (sym came.said ∙ rests.1 rest))) response call)

-- and of a further one
further_idle : {A : Type 0} (old new : SessionState) (slot n : ℕ) (said : HostEvent) (response : Response A)
    (r : Result Progress Refusal) → Means served_response r response → length old.paused ≡ length old.slots
    → IsEventCall old slot (Device n (DiskTold said)) response new
    → IsErrOf r refusal.Idle ↔ (IsIdle slot old × HasNothing slot (Further n) said old.slots)
further_idle {A} old new slot n said response r means many call =
    refused_when served_response response r refusal.Idle (served_pure A) means
    (said_call old new slot (Device n (DiskTold said)) many refusal.Idle
    (λ one. IsSomeAnd (disk_at n one.devices) (λ disk. has_effect said disk ≡ false)) (λ one none. refl)
    (λ is. cc (is)) (λ is. cc (is))
    (λ answer one came.
    let says = says_idle answer in
    let exact = idle_exact n said (state_of old.image one) _ came.after came.outcome came.given in
    (λ is. exact.0 (came.said ∙ says.0 is), λ rest. says.1 (sym came.said ∙ exact.1 rest))) response call)

-- a slot's own is always there
own_there : {A : Type 0} (said : HostEvent) (response : Response A) (r : Result Progress Refusal)
    → Means served_response r response → SuitsCall (Host said) response → IsErrOf r refusal.BadDevice → ⊥
own_there {A} said response r means suits is =
    by_response response
    (means_refused served_response (served_pure A) r response means ∙ ap (λ (x : Result Progress Refusal). refused x) is)
    suits
  where
    by_response : (response : Response A) → refusal_of response ≡ Some refusal.BadDevice
        → SuitsCall (Host said) response → ⊥
    by_response (Answered answer) told suits =
        subst (λ (a : Reply A). Suits (Host said) a) ((says_bad_device answer).0 told) suits
    by_response More told suits = absurd (cc told)
    by_response Busy told suits = absurd (cc told)
    by_response Idle told suits = absurd (cc told)

-- and of a further one it is answered that there is none where there is none
no_reply : {A : Type 0} (said : HostEvent) (found : Option HostedDisk)
    → (option_map (told_reply {A = A}) (option_map (has_effect said) found) ≡ None) ↔ (found ≡ None)
no_reply said None = (λ is. refl, λ is. refl)
no_reply said (Some disk) = (λ is. absurd (cc is), λ is. absurd (cc is))

missing_by : (A : Type 0) (found : Option BoardSlot) (n : ℕ) (said : HostEvent) (image : List ℕ)
    → IsSomeAnd found (λ one. reply_at {A = A} n (DiskTold said) (state_of image one) ≡ None)
    ↔ IsSomeAnd found (λ one. disk_at n one.devices ≡ None)
missing_by A None n said image = (λ never. never, λ never. never)
missing_by A (Some one) n said image = no_reply {A = A} said (disk_at n one.devices)

-- what each refusal says that is answered to what the host says of a disk
pub record DiskRefuses (old : SessionState) (slot : ℕ) (disk : SlotDisk) (said : HostEvent) (r : Result Progress Refusal)
    : Type 0 where
  pub bad_slot : IsErrOf r refusal.BadSlot ↔ (length old.slots ≤ slot)
  pub busy : IsErrOf r refusal.Busy ↔ (¬ IsIdle slot old)
  pub bad_device : IsErrOf r refusal.BadDevice ↔ (IsIdle slot old × HasNoDisk slot disk old.slots)
  pub idle : IsErrOf r refusal.Idle ↔ (IsIdle slot old × HasNothing slot disk said old.slots)

pub disk_refuses : {A : Type 0} (old new : SessionState) (slot : ℕ) (disk : SlotDisk) (said : HostEvent)
    (response : Response A) (r : Result Progress Refusal) → Means served_response r response
    → SuitsCall (saying disk said) response → length old.paused ≡ length old.slots
    → IsEventCall old slot (saying disk said) response new → DiskRefuses old slot disk said r
disk_refuses {A} old new slot Own said response r means suits many call =
    let says = refuses old new slot (Host said) response served_response r (served_pure A) means many call in
    record {
      bad_slot = says.bad_slot;
      busy = only_paused {A = A} old slot (Host said) refl (λ state. refl) says.busy;
      bad_device = (λ is. absurd (own_there said response r means suits is), λ never. absurd never.1);
      idle = own_idle old new slot said response r means many call;
    }
disk_refuses {A} old new slot (Further n) said response r means suits many call =
    let says = device_refuses {A = A} old new slot n (DiskTold said) response served_response r (served_pure A) means
    many call in
    let missing = missing_by A (slice_get old.slots slot) n said old.image in
    record {
      bad_slot = says.bad_slot;
      busy = only_paused {A = A} old slot (Device n (DiskTold said)) refl (λ state. refl) says.busy;
      bad_device = (
        λ is. let bad = says.bad_device.0 is in (bad.0, missing.0 bad.1),
        λ none. says.bad_device.1 (none.0, missing.1 none.1),
      );
      idle = further_idle old new slot n said response r means many call;
    }
