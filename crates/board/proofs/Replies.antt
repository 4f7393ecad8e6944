-- Which replies an event of a slot may get.
use Rattle.std.proofs.Common.{◌≡◌, inl, inr, ℕ, Bool, true, false, Some, List, length, sym, ap, subst, refl, ◌∙◌}
use Rattle.std.specs.Prelude.{if◌then◌else◌}
use Rattle.guest_memory.specs.Memory.{is_inside, part_of, stored}
use Rattle.board.specs.declared.event.SlotWindow.{SlotWindow}
use Rattle.block_device.specs.declared.device.BlockDevice.{BlockDevice}
use Rattle.board.specs.declared.event.DeviceEvent.{DeviceEvent}
use Rattle.board.specs.declared.event.DeviceEvent.TheVariants as device
use Rattle.board.specs.Devices.{MayReplyDevice}
use Rattle.board.specs.declared.event.EventKind.{EventKind}
use Rattle.block_device.specs.declared.operation.HostEvent.{HostEvent}
use Rattle.board.specs.declared.event.EventKind.TheVariants.{Write, MemRead, MemWrite, Input, Restore, Host, Device}
use Rattle.board.specs.declared.reply.Reply.{Reply}
use Rattle.board.specs.declared.reply.Reply.TheVariants.{Done, Bytes, BadRange, BadState, Busy, Idle, NoMemory}
use Rattle.board.specs.declared.pause.Service.TheVariants.{Block, Further}
use Rattle.block_device.specs.Tags.{is_any}
use Rattle.board.specs.Backing.{tags_in}
use Rattle.board.specs.Hosting.{must_wait, notifies_block, told_in}
use Rattle.board.specs.Image.{Health}
use Rattle.board.specs.ImageDisks.{image_asked}
use Rattle.board.specs.Machine.{memory_read, memory_written}
use Rattle.board.specs.Outcome.{Outcome, does, replies}
use Rattle.board.specs.Replies.{MayReply, MayReplyOverImage}
use Rattle.device_list.specs.List.{are_at_work}
use Rattle.board.specs.Restoring.{RestoresUnless}
use Rattle.board.specs.Slot.{SlotState}
use Rattle.board.specs.Task.{Task, Nothing, Serve, PutOut, Finishes}
use Rattle.board.specs.World.{MayGive, MayGiveOverImage}
use Rattle.board.proofs.AtDevice.{IsWrite, asked_write, by_image, refused_by_image}
use Rattle.board.proofs.FurtherDevices.{device_busy, device_idle, device_image, device_replies, unmet_replies}
use Rattle.board.specs.Waiting.{waits_beside}
use Rattle.board.proofs.Refusals.{Failed, FailedImage, Unput, Unread, Unsent, WasRefused, was_refused}
use Rattle.board.proofs.Ways.{Looks, Passes, Rests, Says, Waits, Way, by_disk, must_by}

-- a task that is finished is done
finished_done : {A : Type 0} (task : Task) (state : SlotState) (before after : Health)
    (outcome : Outcome A) → Finishes task state before after outcome → outcome.reply ≡ Done
finished_done {A} Nothing state before after outcome f = ap (λ (o : Outcome A). o.reply) f.alike
finished_done {A} (PutOut byte) state before after outcome f = ap (λ (o : Outcome A). o.reply) f.alike
finished_done {A} (Serve Block) state before after outcome f = ap (λ (o : Outcome A). o.reply) f.is
finished_done (Serve (Further n q)) state before after outcome f = absurd f
finished_done {A} _ state before after outcome f = ap (λ (o : Outcome A). o.reply) f.is

by_reply : {A : Type 0} (what : EventKind A) (reply said : Reply A) → reply ≡ said → MayReplyOverImage what said
    → MayReplyOverImage what reply
by_reply {A} what reply said is may = subst (λ (r : Reply A). MayReplyOverImage what r) (sym is) may

-- what holds of an access to memory, whether or not it lies in it
of_access : {A : Type 0} (P : Outcome A → Type 0) (state : SlotState) (hit : Outcome A) (inside : Bool)
    (outcome : Outcome A) → outcome ≡ (if inside then hit else replies state BadRange) → P hit
    → P (replies state BadRange) → P outcome
of_access P state hit true outcome is h missed = subst P (sym is) h
of_access P state hit false outcome is h missed = subst P (sym is) missed

pub of_read : {A : Type 0} (P : Outcome A → Type 0) (state : SlotState) (addr len : ℕ) (outcome : Outcome A)
    → outcome ≡ memory_read state addr len → P (replies state (Bytes (part_of state.memory addr len)))
    → P (replies state BadRange) → P outcome
of_read P state addr len outcome =
    of_access P state (replies state (Bytes (part_of state.memory addr len)))
    (is_inside state.memory addr len) outcome

pub of_write : {A : Type 0} (P : Outcome A → Type 0) (state : SlotState) (addr : ℕ) (bytes : List ℕ)
    (outcome : Outcome A) → outcome ≡ memory_written state addr bytes
    → P (does (record state { memory = stored state.memory addr bytes }))
    → P (replies state BadRange) → P outcome
of_write P state addr bytes outcome =
    of_access P state (does (record state { memory = stored state.memory addr bytes }))
    (is_inside state.memory addr (length bytes)) outcome

restore_replies : {A : Type 0} (state : SlotState) (bytes : List ℕ) (outcome : Outcome A) (works : Bool) → RestoresUnless works state bytes outcome → MayReplyOverImage (Restore bytes) outcome.reply
restore_replies {A} state bytes outcome true h =
    by_reply (Restore bytes) outcome.reply Busy (ap (λ (o : Outcome A). o.reply) h) tt
restore_replies {A} state bytes outcome false (inl taken) =
    by_reply (Restore bytes) outcome.reply Done (ap (λ (o : Outcome A). o.reply) taken.1) tt
restore_replies {A} state bytes outcome false (inr refused) =
    by_reply (Restore bytes) outcome.reply BadState (ap (λ (o : Outcome A). o.reply) refused.1) tt

refused_replies : {A : Type 0} (window : SlotWindow) (offset width value : ℕ) (state : SlotState)
    (old new : Health) (outcome : Outcome A) → WasRefused state (Write window offset width value) old new
    outcome
    → MayReplyOverImage (Write window offset width value) outcome.reply
refused_replies {A} window offset width value state old new outcome (Failed block h) =
    by_reply (Write window offset width value) outcome.reply Done (ap (λ (o : Outcome A). o.reply)
    h.service.is) tt
refused_replies {A} window offset width value state old new outcome (Unsent console puts h) =
    by_reply (Write window offset width value) outcome.reply NoMemory (ap (λ (o : Outcome A). o.reply) h.is)
    tt
refused_replies {A} window offset width value state old new outcome (Unput console puts h) =
    by_reply (Write window offset width value) outcome.reply NoMemory (ap (λ (o : Outcome A). o.reply)
    h.alike) tt
refused_replies window offset width value state old new outcome (FailedImage n disk asked is by h) = absurd (cc is)
refused_replies window offset width value state old new outcome (Unread is h) = absurd is

-- a disk over the image that served is done
done_may : {A : Type 0} (what : DeviceEvent A) → IsWrite what → MayReplyDevice what Done
done_may (device.Write offset width value) is = tt
done_may _ is = absurd is

image_replies : {A : Type 0} (n : ℕ) (what : DeviceEvent A) (state : SlotState) (disk : BlockDevice) (outcome : Outcome A)
    → image_asked n what state ≡ Some disk → outcome ≡ does outcome.state → MayReplyDevice what outcome.reply
image_replies {A} n what state disk outcome asked is =
    rw (ap (λ (o : Outcome A). o.reply) is) (done_may what (asked_write n what state disk asked))

pub given_over_image : {A : Type 0} (state : SlotState) (what : EventKind A) (old new : Health)
    (outcome : Outcome A) → MayGiveOverImage state what old new outcome
    → MayReplyOverImage what outcome.reply
given_over_image state (Write window offset width value) old new outcome (inl served) =
    by_reply (Write window offset width value) outcome.reply Done
    (finished_done _ _ old new outcome served.alike) tt
given_over_image {A} state (MemRead addr len) old new outcome (inl served) =
    of_read (λ (o : Outcome A). MayReplyOverImage (MemRead addr len) o.reply) state addr len outcome
    served.alike.alike tt tt
given_over_image {A} state (MemWrite addr bytes) old new outcome (inl served) =
    of_write (λ (o : Outcome A). MayReplyOverImage (MemWrite addr bytes) o.reply) state addr bytes outcome
    served.alike.alike tt
    tt
given_over_image {A} state (Input bytes) old new outcome (inl served) =
    rw (ap (λ (o : Outcome A). o.reply) served.alike.is) tt
given_over_image state (Restore bytes) old new outcome (inl served) =
    restore_replies state bytes outcome (are_at_work state.devices) served.alike.alike
given_over_image state (Write window offset width value) old new outcome (inr refused) =
    refused_replies window offset width value state old new outcome
    (was_refused state (Write window offset width value) old new outcome refused)
given_over_image {A} state (MemRead addr len) old new outcome (inr unread) = rw unread.unchanged tt
given_over_image state (Device n what) old new outcome (inl served) =
    by_image n what state old new outcome (image_asked n what state)
    (λ none given. device_replies n what state old new outcome given)
    (λ disk asked h. image_replies n what state disk outcome asked h.is) served.alike
given_over_image state (Device n what) old new outcome (inr refused) =
    refused_by_image n what state old new outcome (image_asked n what state)
    (λ none unmet. unmet_replies n what state old new outcome unmet)
    (λ disk asked h. image_replies n what state disk outcome asked h.service.is) refused
given_over_image state _ old new outcome (inr never) = absurd never
given_over_image state _ old new outcome (inl served) = rw served.alike.alike tt

-- over an image an event that is told that its slot is busy waits for a further disk, and nothing changes
busy_restore : {A : Type 0} (works : Bool) (state : SlotState) (bytes : List ℕ) (outcome : Outcome A)
    → RestoresUnless works state bytes outcome → outcome.reply ≡ Busy
    → (outcome ≡ replies state Busy) × (works ≡ true)
busy_restore true state bytes outcome h is = (h, refl)
busy_restore {A} false state bytes outcome (inl taken) is =
    let done = ap (λ (o : Outcome A). o.reply) taken.1 in absurd (cc (done, is))
busy_restore {A} false state bytes outcome (inr refused) is =
    let bad = ap (λ (o : Outcome A). o.reply) refused.1 in absurd (cc (bad, is))

-- what is done is answered so, and what found no memory
never_done : {A : Type 0} (outcome : Outcome A) (reply : Reply A) → outcome ≡ does outcome.state → outcome.reply ≡ reply
    → ((Done ≡ reply) → ⊥) → ⊥
never_done {A} outcome reply is said other = other (sym (ap (λ (o : Outcome A). o.reply) is) ∙ said)

never_unmet : {A : Type 0} (state : SlotState) (outcome : Outcome A) (reply : Reply A) → outcome ≡ replies state NoMemory
    → outcome.reply ≡ reply → ((NoMemory ≡ reply) → ⊥) → ⊥
never_unmet {A} state outcome reply is said other = other (sym (ap (λ (o : Outcome A). o.reply) is) ∙ said)

pub busy_over_image : {A : Type 0} (state : SlotState) (what : EventKind A) (old new : Health)
    (outcome : Outcome A) → MayGiveOverImage state what old new outcome → outcome.reply ≡ Busy
    → (outcome ≡ replies state Busy) × ((waits_beside what state ≡ true) × (new ≡ old))
busy_over_image state (Restore bytes) old new outcome (inl served) is =
    let waits = busy_restore (are_at_work state.devices) state bytes outcome served.alike.alike is in
    (waits.0, (waits.1, served.alike.image))
busy_over_image state (Restore bytes) old new outcome (inr never) is = absurd never
busy_over_image state (Device n what) old new outcome (inl served) is =
    by_image n what state old new outcome (image_asked n what state)
    (λ none given. let waits = device_busy n what state old new outcome given is in
    (waits.0, (waits.1, device_image n what state old new outcome given)))
    (λ disk asked h. absurd (never_done outcome Busy h.is is (λ same. cc same))) served.alike
busy_over_image state (Device n what) old new outcome (inr refused) is =
    refused_by_image n what state old new outcome (image_asked n what state)
    (λ none unmet. absurd (never_unmet state outcome Busy unmet.unchanged is (λ same. cc same)))
    (λ disk asked h. absurd (never_done outcome Busy h.service.is is (λ same. cc same))) refused
busy_over_image {A} state what old new outcome h is =
    absurd (subst (λ (r : Reply A). MayReplyOverImage what r) is (given_over_image state what old new outcome h))

-- the host alone says what there is nothing to do for, nothing changes, and the image has no part in it
pub idle_over_image : {A : Type 0} (state : SlotState) (what : EventKind A) (old new : Health)
    (outcome : Outcome A) → MayGiveOverImage state what old new outcome → outcome.reply ≡ Idle
    → (outcome ≡ replies state Idle) × (new ≡ old)
idle_over_image state (Host said) old new outcome (inl served) is = (served.alike.alike, served.alike.image)
idle_over_image state (Host said) old new outcome (inr never) is = absurd never
idle_over_image state (Device n what) old new outcome (inl served) is =
    by_image n what state old new outcome (image_asked n what state)
    (λ none given. (device_idle n what state old new outcome given is, device_image n what state old new outcome given))
    (λ disk asked h. absurd (never_done outcome Idle h.is is (λ same. cc same))) served.alike
idle_over_image state (Device n what) old new outcome (inr refused) is =
    refused_by_image n what state old new outcome (image_asked n what state)
    (λ none unmet. absurd (never_unmet state outcome Idle unmet.unchanged is (λ same. cc same)))
    (λ disk asked h. absurd (never_done outcome Idle h.service.is is (λ same. cc same))) refused
idle_over_image {A} state what old new outcome h is =
    absurd (subst (λ (r : Reply A). MayReplyOverImage what r) is (given_over_image state what old new outcome h))

-- ---- whoever has the disk

-- what may be replied over an image may be
any_reply : {A : Type 0} (what : EventKind A) (reply : Reply A) → MayReplyOverImage what reply
    → MayReply what reply
any_reply (Write window offset width value) Busy may = tt
any_reply (Host said) Done may = tt
any_reply _ reply may = may

as_told : {A : Type 0} (what : EventKind A) (outcome wanted : Outcome A) → outcome ≡ wanted
    → MayReply what wanted.reply → MayReply what outcome.reply
as_told {A} what outcome wanted is may = subst (λ (o : Outcome A). MayReply what o.reply) (sym is) may

waiting_reply : {A : Type 0} (what : EventKind A) → must_wait what ≡ true → MayReply what Busy
waiting_reply (Write window offset width value) waits = tt
waiting_reply (Restore bytes) waits = tt
waiting_reply _ waits = absurd (cc)

ringing_reply : {A : Type 0} (what : EventKind A) (state : SlotState) → notifies_block what state ≡ true
    → MayReply what Done
ringing_reply (Write window offset width value) state rings = tt
ringing_reply _ state rings = absurd (cc)

told_reply : {A : Type 0} (what : EventKind A) (said : HostEvent) → told_in what ≡ Some said
    → MayReply what Done × MayReply what Idle
told_reply (Host said) other is = (tt, tt)
told_reply _ said is = absurd (cc)

on_host_replies : {A : Type 0} (state : SlotState) (what : EventKind A) (old : Health) (outcome : Outcome A)
    → Way (λ (o : Outcome A). MayGiveOverImage state what old old o) state what outcome
    → MayReply what outcome.reply
on_host_replies state what old outcome (Waits waits h) =
    as_told what outcome _ h
    (waiting_reply what (must_by (is_any (tags_in state.host)) (must_wait what) waits))
on_host_replies state what old outcome (Passes own free quiet h) =
    any_reply what outcome.reply (given_over_image state what old old outcome h)
on_host_replies state what old outcome (Looks rings looks h) =
    as_told what outcome _ h (ringing_reply what state rings)
on_host_replies state what old outcome (Rests said is h) = as_told what outcome _ h (told_reply what said is).1
on_host_replies state what old outcome (Says said is says h) = as_told what outcome _ h (told_reply what said is).0

pub given_replies : {A : Type 0} (state : SlotState) (what : EventKind A) (old new : Health)
    (outcome : Outcome A) → MayGive state what old new outcome → MayReply what outcome.reply
given_replies state what old new outcome h =
    by_disk state.host state what old new outcome
    (λ given. any_reply what outcome.reply (given_over_image state what old new outcome given))
    (λ image ways. on_host_replies state what old outcome ways) h
