-- What is done to a further device: what it is answered, and the call of its event.
use Rattle.std.proofs.Common.{◌≡◌, ◌≢◌, ◌↔◌, ◌⊎◌, inl, inr, ℕ, Bool, true, false, List, [], length, Option, Some, None, refl, sym, ◌∙◌, ap, subst}
use Rattle.std.specs.Prelude.{⊤, ◌&&◌, if◌then◌else◌, is_none, unwrap_or, IfOk, IsSome, IsSomeAnd, MatchOption, Result, Ok, Err, IfErr}
use Rattle.std.specs.List.{slice_get}
use Rattle.std.specs.Option.{option_and_then, option_map, option_map_or}
use Rattle.std.proofs.lemmas.Option.{same_Some}
use Rattle.block_device.specs.declared.device.BlockDevice.{BlockDevice}
use Rattle.block_device.specs.Tags.{is_any}
use Rattle.network_device.specs.declared.refusal.FrameRefusal.TheVariants.{Full}
use Rattle.device_list.specs.declared.refusal.ReceiveRefusal.{ReceiveRefusal}
use Rattle.device_list.specs.declared.refusal.ReceiveRefusal.TheVariants.{Frame}
use Rattle.device_list.specs.Card.{Card, receive_refusal}
use Rattle.device_list.specs.Device.{DeviceState, supply_taken}
use Rattle.device_list.specs.List.{card_at, disk_at, has_more_sent_at, outgoing_at, sent_by, notified_at, terminal_at, waits_at}
use Rattle.device_list.specs.Terminal.{Terminal}
use Rattle.hosted_disk.specs.Disk.{HostedDisk}
use Rattle.hosted_disk.specs.Told.{has_effect}
use Rattle.block_device.specs.declared.operation.HostEvent.{HostEvent}
use Rattle.board.specs.declared.event.DeviceEvent.{DeviceEvent}
use Rattle.board.specs.declared.event.DeviceEvent.TheVariants.{Plug, Read, Write, Supply, Receive, TakeSent, DropSent, SetLink, Resize, Host}
use Rattle.board.specs.declared.event.EventKind.TheVariants.{Device}
use Rattle.board.specs.declared.pause.Pause.{Pause}
use Rattle.board.specs.declared.reply.Record.{Record}
use Rattle.board.specs.declared.reply.Reply.{Reply}
use Rattle.board.specs.declared.reply.Reply.TheVariants.{Value, Done, Bytes, Took, BadSlot, BadDevice, NoMemory}
use Rattle.board.specs.declared.reply.Reply.TheVariants as told
use Rattle.board.specs.Backing.{tags_in}
use Rattle.board.specs.Devices.{GivesByDevice, MayReplyDevice, TakesMemoryFor, can_plug, device_asks, device_reply, further_service, has_effect_at, received_reply, reply_at, told_reply, waits_for_disk, waits_there}
use Rattle.board.specs.declared.slot_disk.SlotDisk.{SlotDisk}
use Rattle.board.specs.declared.slot_disk.SlotDisk.TheVariants.{Further, Own}
use Rattle.board.specs.HostedDisks.{saying}
use Rattle.board.specs.Hosting.{OwnGives}
use Rattle.board.specs.Image.{Health}
use Rattle.board.specs.ImageDisks.{GivesAtDevice, image_asked, image_served}
use Rattle.board.specs.Outcome.{Outcome}
use Rattle.board.specs.Slot.{SlotState}
use Rattle.board.specs.World.{Answers, MayGive, MayGiveBy, MayGiveOverImage, MissingStep, SlotStep, World}
use Rattle.board.proofs.AtDevice.{by_image, refused_by_image}
use Rattle.board.proofs.Replies.{given_replies}
use Rattle.session.specs.declared.response.Response.{Response}
use Rattle.session.specs.declared.response.Response.TheVariants.{Answered, More, Busy, Idle}
use Rattle.session.specs.declared.handed.Handed.{Handed}
use Rattle.session.specs.Answering.{IsDoneOrRefusing, IsHanding, IsReading, IsServing, Means, SuitsCall, handed_by, handed_response, served_response}
use Rattle.session.specs.declared.progress.Progress.{Progress}
use Rattle.session.specs.declared.progress.Progress.TheVariants as progress
use Rattle.session.specs.declared.refusal.Refusal.{Refusal}
use Rattle.session.specs.declared.refusal.Refusal.TheVariants as refusal
use Rattle.session.specs.Devices.{sent_at, sent_count}
use Rattle.session.specs.Pausing.{IsEventCall, IsWhole, taken_at}
use Rattle.session.specs.Session.{IsStep, SessionState, output_of, world_of}
use Rattle.session.proofs.ImageReplies.{image_done}
use Rattle.session.proofs.Paused.{drop_takes, frame_takes, pauses, seen_sent}
use Rattle.session.proofs.Suiting.{suits}

-- ---- what takes such a thing never answers that it doesn't

bad_took : (A : Type 0) (found : Option ℕ) → ◌≡◌ {A = Option (Reply A)} (option_map Took found) (Some BadDevice)
    → ⊥
bad_took A None is = absurd (cc (is))
bad_took A (Some taken) is = absurd (cc (is))

bad_write : (A : Type 0) (waits : Bool)
    → ◌≡◌ {A = Option (Reply A)} (Some (if waits then told.Busy else Done)) (Some BadDevice) → ⊥
bad_write A true is = absurd (cc (is))
bad_write A false is = absurd (cc (is))

bad_answer : {A : Type 0} (what : DeviceEvent A) (d : DeviceState) → device_reply what d ≡ Some BadDevice → ⊥
bad_answer (Read offset width) d is = absurd (cc (is))
bad_answer {A} (Write offset width value) d is = bad_write A (waits_at offset d) is
bad_answer {A} (Supply bytes) d is = bad_took A (supply_taken bytes d) is
bad_answer _ d is = absurd (cc (is))

bad_found : {A : Type 0} (what : DeviceEvent A) (found : Option DeviceState)
    → option_and_then (device_reply what) found ≡ Some BadDevice → ⊥
bad_found what None is = absurd (cc (is))
bad_found what (Some d) is = bad_answer what d is

bad_plug : {A : Type 0} (can : Bool)
    → ◌≡◌ {A = Option (Reply A)} (if can then Some Done else None) (Some BadDevice) → ⊥
bad_plug true is = absurd (cc (is))
bad_plug false is = absurd (cc (is))

bad_received : {A : Type 0} (frame : List ℕ) (why : Option ReceiveRefusal)
    → received_reply {A = A} frame why ≡ Some BadDevice → ⊥
bad_received frame None is = absurd (cc (is))
bad_received frame (Some (Frame Full)) is = absurd (cc (is))
bad_received frame (Some _) is = absurd (cc (is))

bad_card : {A X : Type 0} (answer : X → Reply A) (found : Option X) → ((x : X) → answer x ≡ BadDevice → ⊥)
    → option_map answer found ≡ Some BadDevice → ⊥
bad_card answer None never is = absurd (cc (is))
bad_card answer (Some x) never is = never x (same_Some (answer x) BadDevice is)

bad_word : (A : Type 0) (effect : Bool) → told_reply {A = A} effect ≡ BadDevice → ⊥
bad_word A true is = absurd (cc (is))
bad_word A false is = absurd (cc (is))

never_bad : {A : Type 0} (n : ℕ) (what : DeviceEvent A) (state : SlotState) → reply_at n what state ≡ Some BadDevice
    → ⊥
never_bad n (Plug spec) state is = bad_plug (can_plug n spec state) is
never_bad n (Read offset width) state is = bad_found (Read offset width) (slice_get state.devices n) is
never_bad n (Write offset width value) state is =
    bad_found (Write offset width value) (slice_get state.devices n) is
never_bad n (Supply bytes) state is = bad_found (Supply bytes) (slice_get state.devices n) is
never_bad n (Receive frame) state is = bad_received frame (receive_refusal frame (card_at n state.devices)) is
never_bad {A} n TakeSent state is =
    bad_card {A = A} (λ sent. Bytes (unwrap_or sent [])) (outgoing_at n state.devices)
    (λ sent same. absurd (cc (same))) is
never_bad {A} n DropSent state is =
    bad_card {A = A} (λ sent. Took (length (unwrap_or sent []))) (outgoing_at n state.devices)
    (λ sent same. absurd (cc (same))) is
never_bad {A} n (SetLink up) state is =
    bad_card {A = A} {X = Card} (λ card. Done) (card_at n state.devices) (λ card same. absurd (cc (same))) is
never_bad {A} n (Resize cols rows) state is =
    bad_card {A = A} {X = Terminal} (λ terminal. Done) (terminal_at n state.devices)
    (λ terminal same. absurd (cc (same))) is
never_bad {A} n (Host said) state is =
    bad_card {A = A} {X = Bool} told_reply (has_effect_at n said state.devices) (bad_word A) is

-- and where memory may be wanting for it, it is taken
plug_there : {A : Type 0} (can : Bool) → can ≡ true
    → ◌≡◌ {A = Option (Reply A)} (if can then Some Done else None) None → ⊥
plug_there true takes is = absurd (cc (is))
plug_there false takes is = absurd (cc (takes))

sent_there : {A : Type 0} (found : Option (Option (List ℕ))) → IsSome (option_and_then (λ sent. sent) found)
    → ◌≡◌ {A = Option (Reply A)} (option_map (λ sent. Bytes (unwrap_or sent [])) found) None → ⊥
sent_there None waits is = absurd (cc (waits))
sent_there (Some sent) waits is = absurd (cc (is))

taken_there : {A : Type 0} (n : ℕ) (what : DeviceEvent A) (state : SlotState) → TakesMemoryFor n what state
    → reply_at n what state ≡ None → ⊥
taken_there {A} n (Plug spec) state takes is = plug_there {A = A} (can_plug n spec state) takes is
taken_there {A} n TakeSent state takes is = sent_there {A = A} (outgoing_at n state.devices) takes is
taken_there n _ state takes is = absurd takes

-- ---- what it is answered

module _ {A : Type 0} (n : ℕ) (what : DeviceEvent A) (state : SlotState) where
  said_by : (found : Option (Reply A)) (before after : Health) (outcome : Outcome A)
      → GivesByDevice found n what state before after outcome → outcome.reply ≡ unwrap_or found BadDevice
  said_by None before after outcome h = ap (λ (o : Outcome A). o.reply) h.alike
  said_by (Some reply) before after outcome h = ap (λ (o : Outcome A). o.reply) h.is

  -- the host of the guest's disk has no part in it
  beside : (Beside : Outcome A → Type 0) (outcome : Outcome A) (any : Bool)
      → OwnGives Beside (any && false) state (Device n what) outcome → Beside outcome
  beside Beside outcome true h = h
  beside Beside outcome false h = h

  over_image : (host : Option HostedDisk) (before after : Health) (outcome : Outcome A)
      → MayGiveBy host state (Device n what) before after outcome
      → (later : Health) × MayGiveOverImage state (Device n what) before later outcome
  over_image None before after outcome h = (after, h)
  over_image (Some disk) before after outcome h = (
    before,
    beside (λ (o : Outcome A). MayGiveOverImage state (Device n what) before before o) outcome
        (is_any (tags_in state.host)) h.gives,
  )

  -- a disk over the image that is asked for a service is answered as the device is
  image_said : (disk : BlockDevice) (outcome : Outcome A) → image_asked n what state ≡ Some disk → outcome.reply ≡ Done
      → outcome.reply ≡ unwrap_or (reply_at n what state) BadDevice
  image_said disk outcome asked done =
      done ∙ sym (ap (λ (o : Option (Reply A)). unwrap_or o BadDevice) (image_done n what state disk asked))

  served_said : (before after : Health) (outcome : Outcome A)
      → GivesAtDevice (image_asked n what state) n what state before after outcome
      → outcome.reply ≡ unwrap_or (reply_at n what state) BadDevice
  served_said before after outcome served =
      by_image n what state before after outcome (image_asked n what state)
      (λ none given. said_by (reply_at n what state) before after outcome given)
      (λ disk asked s. image_said disk outcome asked (ap (λ (o : Outcome A). o.reply) s.is)) served

  -- where there is memory for the answer, it is that of the device, or that none takes such a thing
  said_over : (before after : Health) (outcome : Outcome A)
      → MayGiveOverImage state (Device n what) before after outcome → outcome.reply ≢ NoMemory
      → outcome.reply ≡ unwrap_or (reply_at n what state) BadDevice
  said_over before after outcome (inl served) found = served_said before after outcome served.alike
  said_over before after outcome (inr refused) found =
      refused_by_image n what state before after outcome (image_asked n what state)
      (λ none unmet. absurd (found (ap (λ (o : Outcome A). o.reply) unmet.unchanged)))
      (λ disk asked failed. image_said disk outcome asked (ap (λ (o : Outcome A). o.reply) failed.service.is)) refused

  pub said : (before after : Health) (outcome : Outcome A) → MayGive state (Device n what) before after outcome
      → outcome.reply ≢ NoMemory → outcome.reply ≡ unwrap_or (reply_at n what state) BadDevice
  said before after outcome h found =
      let way = over_image state.host before after outcome h in
      said_over before (way.0) outcome (way.1) found

  bad_by : (found : Option (Reply A)) → reply_at n what state ≡ found → (answer : Reply A)
      → answer ≡ unwrap_or found BadDevice → (answer ≡ BadDevice) ↔ (found ≡ None)
  bad_by None is answer same = (λ bad. refl, λ none. same)
  bad_by (Some reply) is answer same = (
    λ bad. absurd (never_bad n what state (is ∙ ap (λ (r : Reply A). Some r) (sym same ∙ bad))),
    λ none. absurd (cc (none)),
  )

  bad_over : (before after : Health) (outcome : Outcome A)
      → MayGiveOverImage state (Device n what) before after outcome
      → (outcome.reply ≡ BadDevice) ↔ (reply_at n what state ≡ None)
  bad_over before after outcome (inl served) =
      bad_by (reply_at n what state) refl outcome.reply (served_said before after outcome served.alike)
  bad_over before after outcome (inr refused) =
      refused_by_image n what state before after outcome (image_asked n what state)
      (λ _ unmet. (
        λ bad. absurd (let lacks : outcome.reply ≡ NoMemory = ap (λ (o : Outcome A). o.reply) unmet.unchanged in
            cc (lacks, bad)),
        λ none. absurd (taken_there n what state unmet.takes none),
      ))
      (λ disk asked failed. bad_by (reply_at n what state) refl outcome.reply
      (image_said disk outcome asked (ap (λ (o : Outcome A). o.reply) failed.service.is))) refused

  -- it is answered that the device is bad exactly where none takes it
  pub bad_exact : (before after : Health) (outcome : Outcome A) → MayGive state (Device n what) before after outcome
      → (outcome.reply ≡ BadDevice) ↔ (reply_at n what state ≡ None)
  bad_exact before after outcome h =
      let way = over_image state.host before after outcome h in bad_over before (way.0) outcome (way.1)

-- ---- what is answered that waits, and where there is nothing to do

write_waits : (A : Type 0) (offset width value : ℕ) (found : Option DeviceState)
    → option_map_or (waits_at offset) found false ≡ true
    → option_and_then (device_reply {A = A} (Write offset width value)) found ≡ Some told.Busy
write_waits A offset width value None waits = absurd (cc (waits))
write_waits A offset width value (Some d) waits = rw waits refl

-- nor does one that waits ask a disk over the image
waiting_never : (A : Type 0) (n offset width value : ℕ) (state : SlotState) (disk : BlockDevice)
    → waits_there n offset state.devices ≡ true → image_asked {A = A} n (Write offset width value) state ≡ Some disk → ⊥
waiting_never A n offset width value state disk waits asked =
    let none : image_asked {A = A} n (Write offset width value) state ≡ None =
    ap (λ (waits : Bool). option_and_then (λ (pause : Pause). image_served pause.service state) (if waits then None
    else option_map (λ q. further_service n q None)
    (option_and_then (notified_at offset width value) (slice_get state.devices n)))) waits in
    cc (none, asked)

pub waiting_gives : {A : Type 0} (n : ℕ) (what : DeviceEvent A) (state : SlotState) (before after : Health)
    (outcome : Outcome A) → waits_for_disk what n state.devices ≡ true
    → MayGiveOverImage state (Device n what) before after outcome → outcome.reply ≡ told.Busy
waiting_gives {A} n (Write offset width value) state before after outcome waits (inl served) =
    served_said n (Write offset width value) state before after outcome served.alike
    ∙ ap (λ (o : Option (Reply A)). unwrap_or o BadDevice)
    (write_waits A offset width value (slice_get state.devices n) waits)
waiting_gives {A} n (Write offset width value) state before after outcome waits (inr refused) =
    refused_by_image n (Write offset width value) state before after outcome
    (image_asked {A = A} n (Write offset width value) state)
    (λ none unmet. absurd unmet.takes)
    (λ disk asked failed. absurd (waiting_never A n offset width value state disk waits asked)) refused
waiting_gives n _ state before after outcome waits h = absurd (cc (waits))

word_rests : (A : Type 0) (said : HostEvent) (disk : Option HostedDisk) (answer : Reply A)
    → answer ≡ unwrap_or (option_map told_reply (option_map (has_effect said) disk)) BadDevice
    → (answer ≡ told.Idle) ↔ IsSomeAnd disk (λ d. has_effect said d ≡ false)
word_rests A said None answer is = (λ idle. absurd (cc (is, idle)), λ none. absurd none)
word_rests A said (Some d) answer is = by_effect (has_effect said d) is
  where
    by_effect : (effect : Bool) → answer ≡ told_reply effect → (answer ≡ told.Idle) ↔ (effect ≡ false)
    by_effect true is = (λ idle. absurd (cc (is, idle)), λ none. absurd (cc (none)))
    by_effect false is = (λ idle. refl, λ none. is)

pub idle_exact : {A : Type 0} (n : ℕ) (word : HostEvent) (state : SlotState) (before after : Health)
    (outcome : Outcome A) → MayGive state (Device n (Host word)) before after outcome
    → (outcome.reply ≡ told.Idle) ↔ IsSomeAnd (disk_at n state.devices) (λ disk. has_effect word disk ≡ false)
idle_exact {A} n word state before after outcome h =
    word_rests A word (disk_at n state.devices) outcome.reply
    (said n (Host word) state before after outcome h
    (λ lacks. subst (λ (r : Reply A). MayReplyDevice (Host word) r) lacks
    (given_replies state (Device n (Host word)) before after outcome h)))

-- ---- which responses there may be

pub reads_suit : {A : Type 0} (n offset width : ℕ) (r : Response A) → SuitsCall (Device n (Read offset width)) r
    → IsReading r
reads_suit n offset width (Answered (Value value)) suits = tt
reads_suit n offset width (Answered BadSlot) suits = tt
reads_suit n offset width (Answered BadDevice) suits = tt
reads_suit n offset width (Answered reply) suits = absurd suits
reads_suit n offset width More suits = absurd suits
reads_suit n offset width Busy suits = tt
reads_suit n offset width Idle suits = absurd suits

pub writes_suit : {A : Type 0} (n offset width value : ℕ) (r : Response A)
    → SuitsCall (Device n (Write offset width value)) r → IsServing r
writes_suit n offset width value (Answered Done) suits = tt
writes_suit n offset width value (Answered BadSlot) suits = tt
writes_suit n offset width value (Answered BadDevice) suits = tt
writes_suit n offset width value (Answered told.Busy) suits = tt
writes_suit n offset width value (Answered reply) suits = absurd suits
writes_suit n offset width value More suits = tt
writes_suit n offset width value Busy suits = tt
writes_suit n offset width value Idle suits = absurd suits

words_suit : {A : Type 0} (n : ℕ) (said : HostEvent) (r : Response A) → SuitsCall (Device n (Host said)) r
    → IsServing r
words_suit n said (Answered Done) suits = tt
words_suit n said (Answered BadSlot) suits = tt
words_suit n said (Answered BadDevice) suits = tt
words_suit n said (Answered told.Idle) suits = tt
words_suit n said (Answered reply) suits = absurd suits
words_suit n said More suits = absurd suits
words_suit n said Busy suits = tt
words_suit n said Idle suits = absurd suits

-- or of a slot's own
pub says_suit : {A : Type 0} (disk : SlotDisk) (said : HostEvent) (r : Response A) → SuitsCall (saying disk said) r
    → IsServing r
says_suit (Further n) said r suits = words_suit n said r suits
says_suit Own said (Answered Done) suits = tt
says_suit Own said (Answered BadSlot) suits = tt
says_suit Own said (Answered told.Idle) suits = tt
says_suit Own said (Answered reply) suits = absurd suits
says_suit Own said More suits = absurd suits
says_suit Own said Busy suits = tt
says_suit Own said Idle suits = absurd suits

-- none of these pauses
pub never_more : (A : Type 0) (disk : SlotDisk) (word : HostEvent) → SuitsCall (saying {A = A} disk word) More → ⊥
never_more A Own word never = never
never_more A (Further n) word never = never

pub at_once : {A : Type 0} (disk : SlotDisk) (said : HostEvent) (response : Response A) (r : Result Progress Refusal)
    → Means served_response r response → SuitsCall (saying disk said) response
    → IfOk r (λ came. came ≢ progress.More)
at_once disk said response (Ok progress.Done) means suits = λ is. cc (is)
at_once disk said response (Ok progress.Asks) means suits = λ is. cc (is)
at_once {A} disk said response (Ok progress.More) means suits =
    absurd (never_more A disk said (rw means at suits))
at_once disk said response (Err why) means suits = tt

pub links_suit : {A : Type 0} (n : ℕ) (up : Bool) (r : Response A) → SuitsCall (Device n (SetLink up)) r
    → IsDoneOrRefusing r
links_suit n up (Answered Done) suits = tt
links_suit n up (Answered BadSlot) suits = tt
links_suit n up (Answered BadDevice) suits = tt
links_suit n up (Answered reply) suits = absurd suits
links_suit n up More suits = absurd suits
links_suit n up Busy suits = tt
links_suit n up Idle suits = absurd suits

pub resizes_suit : {A : Type 0} (n cols rows : ℕ) (r : Response A) → SuitsCall (Device n (Resize cols rows)) r
    → IsDoneOrRefusing r
resizes_suit n cols rows (Answered Done) suits = tt
resizes_suit n cols rows (Answered BadSlot) suits = tt
resizes_suit n cols rows (Answered BadDevice) suits = tt
resizes_suit n cols rows (Answered reply) suits = absurd suits
resizes_suit n cols rows More suits = absurd suits
resizes_suit n cols rows Busy suits = tt
resizes_suit n cols rows Idle suits = absurd suits

pub supplies_suit : {A : Type 0} (n : ℕ) (bytes : List ℕ) (r : Response A) → SuitsCall (Device n (Supply bytes)) r
    → IsHanding r
supplies_suit n bytes (Answered (Took taken)) suits = tt
supplies_suit n bytes (Answered BadSlot) suits = tt
supplies_suit n bytes (Answered BadDevice) suits = tt
supplies_suit n bytes (Answered reply) suits = absurd suits
supplies_suit n bytes More suits = tt
supplies_suit n bytes Busy suits = tt
supplies_suit n bytes Idle suits = absurd suits

pub receives_suit : {A : Type 0} (n : ℕ) (frame : List ℕ) (r : Response A) → SuitsCall (Device n (Receive frame)) r
    → IsHanding r
receives_suit n frame (Answered (Took taken)) suits = tt
receives_suit n frame (Answered BadSlot) suits = tt
receives_suit n frame (Answered BadDevice) suits = tt
receives_suit n frame (Answered reply) suits = absurd suits
receives_suit n frame More suits = tt
receives_suit n frame Busy suits = tt
receives_suit n frame Idle suits = absurd suits

pub drops_suit : {A : Type 0} (n : ℕ) (r : Response A) → SuitsCall (Device n DropSent) r → IsHanding r
drops_suit n (Answered (Took taken)) suits = tt
drops_suit n (Answered BadSlot) suits = tt
drops_suit n (Answered BadDevice) suits = tt
drops_suit n (Answered reply) suits = absurd suits
drops_suit n More suits = tt
drops_suit n Busy suits = tt
drops_suit n Idle suits = absurd suits

-- and how such a call is refused
pub drops_refuse : {A : Type 0} (n : ℕ) (response : Response A) (r : Result Handed Refusal)
    → Means handed_response r response → SuitsCall (Device n DropSent) response
    → IfErr r (λ why. (why ≡ refusal.BadSlot) ⊎ (why ≡ refusal.Busy) ⊎ (why ≡ refusal.BadDevice))
drops_refuse n response (Ok handed) means suits = tt
drops_refuse n response (Err refusal.BadSlot) means suits = inl refl
drops_refuse n response (Err refusal.Busy) means suits = inr (inl refl)
drops_refuse n response (Err refusal.BadDevice) means suits = inr (inr refl)
drops_refuse n response (Err refusal.BadRange) means suits = absurd (rw means at suits)
drops_refuse n response (Err refusal.NoRoom) means suits = absurd (rw means at suits)
drops_refuse n response (Err refusal.Idle) means suits = absurd (rw means at suits)

-- ---- what is answered, by the slot's state

-- the slot isn't there, or it is in some state, and its device answers
abbrev IsSaid : {A : Type 0} → World → ℕ → ℕ → DeviceEvent A → Reply A → Type 0
IsSaid old slot n what reply =
    (reply ≡ BadSlot)
    ⊎ ((state : SlotState) × (slice_get old.slots slot ≡ Some state)
    × (reply ≡ unwrap_or (reply_at n what state) BadDevice))

module _ (A : Type 0) (old new : World) (slot n : ℕ) (what : DeviceEvent A) (reply : Reply A) (before after : List ℕ)
    (answers : Answers {A = A} old (record { slot = slot; what = Device n what }) reply before after new)
    (found : reply ≢ NoMemory) where
  said_at : (o : Option SlotState) → slice_get old.slots slot ≡ o
      → MatchOption o (MissingStep old slot answers.written new)
      (λ s. SlotStep old slot s (Device n what) answers.written new) → IsSaid old slot n what reply
  said_at None there step = inl (sym answers.replied ∙ ap (λ (w : Record A). w.reply) step.recorded)
  said_at (Some state) there step =
      let same : step.outcome.reply ≡ reply =
      sym (ap (λ (w : Record A). w.reply) step.recorded) ∙ answers.replied in
      inr (
        state,
        there,
        sym same
            ∙ said n what state _ _ step.outcome step.given (λ lacks. found (sym same ∙ lacks)),
      )

  said_so : IsSaid old slot n what reply
  said_so = said_at (slice_get old.slots slot) refl answers.step

-- ---- a frame is taken whole, or there is no room for it

abbrev IsTakenWhole : {A : Type 0} → List ℕ → Reply A → Type 0
IsTakenWhole frame (Took taken) = (taken ≡ length frame) ⊎ (taken ≡ 0)
IsTakenWhole frame reply = ⊤

whole_by : (A : Type 0) (frame : List ℕ) (why : Option ReceiveRefusal)
    → IsTakenWhole {A = A} frame (unwrap_or (received_reply frame why) BadDevice)
whole_by A frame None = inl refl
whole_by A frame (Some (Frame Full)) = inr refl
whole_by A frame (Some _) = tt

taken_whole : {A : Type 0} (old : World) (slot n : ℕ) (frame : List ℕ) (reply : Reply A)
    → IsSaid old slot n (Receive frame) reply → IsTakenWhole frame reply
taken_whole {A} old slot n frame reply (inl missing) = subst (λ (r : Reply A). IsTakenWhole frame r) (sym missing) tt
taken_whole {A} old slot n frame reply (inr (state, there, so)) =
    subst (λ (r : Reply A). IsTakenWhole frame r) (sym so)
    (whole_by A frame (receive_refusal frame (card_at n state.devices)))

-- as it is answered at once
pub whole_at_once : (A : Type 0) (old new : SessionState) (slot n : ℕ) (frame : List ℕ) (taken : ℕ)
    → IsStep {A = A} old (record { slot = slot; what = Device n (Receive frame) }) (Took taken) new
    → (taken ≡ length frame) ⊎ (taken ≡ 0)
whole_at_once A old new slot n frame taken step =
    taken_whole {A = A} (world_of old) slot n frame (Took taken)
    (said_so A (world_of old) (world_of new) slot n (Receive frame) (Took taken) (output_of slot old)
    (output_of slot new) step.answers (λ lacks. cc (lacks)))

-- or as its service pauses
pub frame_whole : {A : Type 0} (old new : SessionState) (slot n : ℕ) (frame : List ℕ) (response : Response A)
    (r : Result Handed Refusal) → IsEventCall old slot (Device n (Receive frame)) response new
    → Means handed_response r response
    → IfOk r (λ handed. handed.progress ≡ progress.More → taken_at slot new ≡ Some handed.taken)
    → IfOk r (λ handed. (handed.taken ≡ length frame) ⊎ (handed.taken ≡ 0))
frame_whole old new slot n frame response (Err why) call means taken = tt
frame_whole {A} old new slot n frame response (Ok handed) call means taken =
    by_progress handed.taken handed.progress means taken
  where
    answered : (count : ℕ) → response ≡ Answered (Took count) → (count ≡ length frame) ⊎ (count ≡ 0)
    answered count is =
        whole_at_once A old new slot n frame count
        (subst (λ (told : Response A). IsWhole old (record { slot = slot; what = Device n (Receive frame) }) told new) is
        call.whole)

    by_progress : (count : ℕ) (came : Progress) → response ≡ handed_by count came
        → (came ≡ progress.More → taken_at slot new ≡ Some count) → (count ≡ length frame) ⊎ (count ≡ 0)
    by_progress count progress.Done is paused = answered count is
    by_progress count progress.Asks is paused = answered count is
    by_progress count progress.More is paused =
        let p = pauses old new slot (Device n (Receive frame)) response is call.turn in
        inl (same_Some count (length frame) (sym (paused refl) ∙ frame_takes A old new slot n frame p))

-- ---- what was sent is dropped whole, if anything was

-- where something may be sent
counted_by : (A : Type 0) (found : Option (Option (List ℕ))) (count : ℕ)
    → ◌≡◌ {A = Reply A} (Took count)
    (unwrap_or (option_map (λ sent. Took (length (unwrap_or sent []))) found) BadDevice)
    → count ≡ sent_count (option_and_then (λ sent. sent) found)
counted_by A None count is = absurd (cc (is))
counted_by A (Some None) count is = cc (is)
counted_by A (Some (Some sent)) count is = cc (is)

counted : (A : Type 0) (old : SessionState) (slot n count : ℕ)
    → IsSaid {A = A} (world_of old) slot n DropSent (Took count) → count ≡ sent_count (sent_at slot n old.slots)
counted A old slot n count (inl missing) = absurd (cc (missing))
counted A old slot n count (inr (state, there, so)) =
    let same : sent_at slot n old.slots ≡ sent_by n state.devices =
    seen_sent old.slots old.image slot n
    ∙ ap (λ (o : Option SlotState). option_and_then (λ (s : SlotState). sent_by n s.devices) o) there in
    counted_by A (outgoing_at n state.devices) count so ∙ ap sent_count (sym same)

-- as it is answered at once
counted_at_once : (A : Type 0) (old new : SessionState) (slot n count : ℕ)
    → IsStep {A = A} old (record { slot = slot; what = Device n DropSent }) (Took count) new
    → count ≡ sent_count (sent_at slot n old.slots)
counted_at_once A old new slot n count step =
    counted A old slot n count
    (said_so A (world_of old) (world_of new) slot n DropSent (Took count) (output_of slot old) (output_of slot new)
    step.answers (λ lacks. cc (lacks)))

-- or as its service pauses
pub drop_counts : {A : Type 0} (old new : SessionState) (slot n : ℕ) (response : Response A) (r : Result Handed Refusal)
    → IsEventCall old slot (Device n DropSent) response new → Means handed_response r response
    → IfOk r (λ handed. handed.progress ≡ progress.More → taken_at slot new ≡ Some handed.taken)
    → IfOk r (λ handed. handed.taken ≡ sent_count (sent_at slot n old.slots))
drop_counts old new slot n response (Err why) call means taken = tt
drop_counts {A} old new slot n response (Ok handed) call means taken =
    by_progress handed.taken handed.progress means taken
  where
    answered : (count : ℕ) → response ≡ Answered (Took count) → count ≡ sent_count (sent_at slot n old.slots)
    answered count is =
        counted_at_once A old new slot n count
        (subst (λ (told : Response A). IsWhole old (record { slot = slot; what = Device n DropSent }) told new) is
        call.whole)

    by_progress : (count : ℕ) (came : Progress) → response ≡ handed_by count came
        → (came ≡ progress.More → taken_at slot new ≡ Some count) → count ≡ sent_count (sent_at slot n old.slots)
    by_progress count progress.Done is paused = answered count is
    by_progress count progress.Asks is paused = answered count is
    by_progress count progress.More is paused =
        let p = pauses old new slot (Device n DropSent) response is call.turn in
        same_Some count (sent_count (sent_at slot n old.slots)) (sym (paused refl) ∙ drop_takes A old new slot n p)

-- ---- an event that no device takes asks for no service

none_written : (A : Type 0) (n offset width value : ℕ) (waits : Bool) (found : Option DeviceState)
    → option_and_then (device_reply {A = A} (Write offset width value)) found ≡ None
    → (if waits then None
    else option_map (λ q. further_service n q None) (option_and_then (notified_at offset width value) found)) ≡ None
none_written A n offset width value true found none = refl
none_written A n offset width value false None none = refl
none_written A n offset width value false (Some d) none = absurd (cc (none))

none_taking : (A : Type 0) (n : ℕ) (taken : Option ℕ) → ◌≡◌ {A = Option (Reply A)} (option_map Took taken) None
    → option_map (λ count. further_service n 0 (Some count)) taken ≡ None
none_taking A n None none = refl
none_taking A n (Some count) none = absurd (cc (none))

none_supplied : (A : Type 0) (n : ℕ) (bytes : List ℕ) (found : Option DeviceState)
    → option_and_then (device_reply {A = A} (Supply bytes)) found ≡ None
    → option_map (λ count. further_service n 0 (Some count)) (option_and_then (supply_taken bytes) found) ≡ None
none_supplied A n bytes None none = refl
none_supplied A n bytes (Some d) none = none_taking A n (supply_taken bytes d) none

none_received : (A : Type 0) (n : ℕ) (frame : List ℕ) (why : Option ReceiveRefusal)
    → received_reply {A = A} frame why ≡ None
    → (if is_none why then Some (further_service n 0 (Some (length frame))) else None) ≡ None
none_received A n frame None none = absurd (cc (none))
none_received A n frame (Some why) none = refl

none_dropped : (A : Type 0) (n : ℕ) (more : Bool) (found : Option (Option (List ℕ)))
    → ◌≡◌ {A = Option (Reply A)} (option_map (λ sent. Took (length (unwrap_or sent []))) found) None
    → (if more then None
    else option_map (λ sent. further_service n 1 (Some (length sent))) (option_and_then (λ sent. sent) found)) ≡ None
none_dropped A n true found none = refl
none_dropped A n false None none = refl
none_dropped A n false (Some sent) none = absurd (cc (none))

pub unanswered_asks : {A : Type 0} (n : ℕ) (what : DeviceEvent A) (state : SlotState)
    → reply_at n what state ≡ None → device_asks n what state ≡ None
unanswered_asks {A} n (Write offset width value) state none =
    none_written A n offset width value (waits_there n offset state.devices) (slice_get state.devices n) none
unanswered_asks {A} n (Supply bytes) state none = none_supplied A n bytes (slice_get state.devices n) none
unanswered_asks {A} n (Receive frame) state none =
    none_received A n frame (receive_refusal frame (card_at n state.devices)) none
unanswered_asks {A} n DropSent state none =
    none_dropped A n (has_more_sent_at n state.devices) (outgoing_at n state.devices) none
unanswered_asks n what state none = refl

-- and none does that waits
pub waiting_asks : {A : Type 0} (n : ℕ) (what : DeviceEvent A) (state : SlotState)
    → waits_for_disk what n state.devices ≡ true → device_asks n what state ≡ None
waiting_asks n (Write offset width value) state waits = rw waits refl
waiting_asks n what state waits = absurd (cc (waits))
