-- An event of a guest whose disk the host serves, and one over an image.
use Rattle.std.proofs.Common.{◌≡◌, ◌⊎◌, inl, inr, Bool, true, false, ℕ, Option, Some, None, List, refl, sym, ap, subst}
use Rattle.std.specs.Prelude.{◌||◌, is_some}
use Rattle.chain.specs.declared.budget.Budget.{Budget}
use Rattle.board.specs.declared.event.EventKind.{EventKind}
use Rattle.block_device.specs.declared.operation.HostEvent.{HostEvent}
use Rattle.board.specs.declared.pause.Pause.{Pause}
use Rattle.board.specs.declared.pause.Turn.{Turn}
use Rattle.board.specs.declared.pause.Turn.TheVariants.{Answered, More}
use Rattle.board.specs.declared.reply.Reply.TheVariants.{NoMemory}
use Rattle.hosted_disk.specs.Disk.{HostedDisk}
use Rattle.board.specs.Hosting.{HostOrGives, has_part, notifies_block, told_in, waits_now}
use Rattle.board.specs.Image.{Health}
use Rattle.board.specs.Outcome.{Outcome}
use Rattle.board.specs.Pausing.{TurnsTo}
use Rattle.board.specs.Slot.{SlotState}
use Rattle.board.specs.World.{MayGive, MayGiveBy, MayGiveOverImage}
use Rattle.board.proofs.Ways.{Looks, Passes, Rests, Says, Waits, Way, by_disk}

-- ---- an event in which the host has no part

-- it is an own one, waits for nothing, and doesn't notify the block device
pub record IsBeside {A : Type 0} (what : EventKind A) (state : SlotState) : Type 0 where
  pub own : told_in what ≡ None
  pub free : waits_now what state.host ≡ false
  pub quiet : notifies_block what state ≡ false

pub is_beside : {A : Type 0} (disk : HostedDisk) (what : EventKind A) (state : SlotState)
    → has_part (Some disk) what state ≡ false → IsBeside what state
is_beside disk what state free = by_told (told_in what) refl free
  where
    by_rest : (waits rings : Bool) → waits_now what state.host ≡ waits
        → notifies_block what state ≡ rings → told_in what ≡ None → (waits || rings) ≡ false
        → IsBeside what state
    by_rest false false waits rings own none = record { own = own; free = waits; quiet = rings }
    by_rest true rings waits is own none = absurd (cc)
    by_rest false true waits rings own none = absurd (cc)

    by_told : (found : Option HostEvent) → told_in what ≡ found
        → (is_some found || (waits_now what state.host || notifies_block what state)) ≡ false
        → IsBeside what state
    by_told None own none =
        by_rest (waits_now what state.host) (notifies_block what state) refl refl own none
    by_told (Some said) own none = absurd (cc)

pub passes : {A : Type 0} (Beside : Outcome A → Type 0) (disk : HostedDisk) (state : SlotState)
    (what : EventKind A) (outcome : Outcome A) → has_part (Some disk) what state ≡ false → Beside outcome
    → HostOrGives Beside (told_in what) state what outcome
passes Beside disk state what outcome free h =
    let is = is_beside disk what state free in
    rw (is.own, is.free, is.quiet) h

-- an event that notifies the block device is none
pub ringing_part : {A : Type 0} (disk : HostedDisk) (what : EventKind A) (state : SlotState)
    → notifies_block what state ≡ true → has_part (Some disk) what state ≡ false → ⊥
ringing_part disk what state rings free =
    let quiet = (is_beside disk what state free).quiet in
    cc (rings, quiet)

-- what comes of it over an image that stays as it is comes of it
pub passes_by : {A : Type 0} (host : Option HostedDisk) (state : SlotState) (what : EventKind A)
    (health : Health) (outcome : Outcome A) → has_part host what state ≡ false
    → MayGiveOverImage state what health health outcome → MayGiveBy host state what health health outcome
passes_by None state what health outcome free h = h
passes_by {A} (Some disk) state what health outcome free h = record {
  gives = passes (λ (o : Outcome A). MayGiveOverImage state what health health o) disk state what outcome free h;
  image = refl;
}

-- and so the turn is the same
pub turns_as : {A : Type 0} (May Other : Outcome A → Type 0) → ((outcome : Outcome A) → May outcome → Other outcome)
    → (pause : Option Pause) (what : EventKind A) (budget : Budget) (old : SlotState) (before after : Health)
    (new : SlotState) (output : List ℕ) (turn : Turn A)
    → TurnsTo May pause what budget old before after new output turn
    → TurnsTo Other pause what budget old before after new output turn
turns_as May Other more (Some pause) what budget old before after new output turn h = h
turns_as May Other more None what budget old before after new output (Answered reply) h = more _ h
turns_as May Other more None what budget old before after new output (More pause) h = h

-- ---- and one that isn't served

-- where memory was wanting, it was over an image
lacking_way : {A : Type 0} (state : SlotState) (what : EventKind A) (before : Health) (outcome : Outcome A)
    → outcome.reply ≡ NoMemory
    → Way (λ (o : Outcome A). MayGiveOverImage state what before before o) state what outcome
    → MayGiveOverImage state what before before outcome
lacking_way state what before outcome lacks (Waits waits h) =
    let busy = ap (λ o. o.reply) h in absurd (cc)
lacking_way state what before outcome lacks (Passes own free quiet h) = h
lacking_way state what before outcome lacks (Looks rings looks h) =
    let done = ap (λ o. o.reply) h in absurd (cc)
lacking_way state what before outcome lacks (Rests said is h) =
    let idle = ap (λ o. o.reply) h in absurd (cc)
lacking_way state what before outcome lacks (Says said is says h) =
    let done = ap (λ o. o.reply) h in absurd (cc)

pub lacking_over_image : {A : Type 0} (state : SlotState) (what : EventKind A) (before after : Health)
    (outcome : Outcome A) → outcome.reply ≡ NoMemory → MayGive state what before after outcome
    → MayGiveOverImage state what before after outcome
lacking_over_image state what before after outcome lacks h =
    by_disk state.host state what before after outcome (λ given. given)
    (λ image ways. subst (λ (x : Health). MayGiveOverImage state what before x outcome) (sym image)
    (lacking_way state what before outcome lacks ways)) h

-- and where the image failed, it was of the image, or it stayed as it was
pub failing_over_image : {A : Type 0} (state : SlotState) (what : EventKind A) (before after : Health)
    (outcome : Outcome A) → MayGive state what before after outcome
    → MayGiveOverImage state what before after outcome ⊎ (after ≡ before)
failing_over_image state what before after outcome h =
    by_disk state.host state what before after outcome (λ given. inl given) (λ image ways. inr image) h
