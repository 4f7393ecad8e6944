-- A piece of a service of a slot comes to one thing, where no call of the image fails.
use Rattle.std.proofs.Common.{◌≡◌, ◌≢◌, inl, inr, ℕ, ◌<◌, Bool, true, false, Option, Some, None, List, ◌++◌, refl, sym, ◌∙◌, ap, ap₂, subst, arith}
use Rattle.std.specs.Prelude.{slice_set}
use Rattle.std.proofs.lemmas.Option.{same_Some}
use Rattle.guest_memory.specs.Memory.{Memory}
use Rattle.chain.specs.declared.budget.Budget.{Budget}
use Rattle.chain.specs.declared.budget.Progress.{Progress}
use Rattle.chain.specs.declared.budget.Progress.TheVariants as progress
use Rattle.chain.specs.Service.{Ending, Spent, Faulted, Refused}
use Rattle.sector_cache.specs.Disk.{Disk}
use Rattle.mmio_window.specs.declared.queue.Queue.{Queue}
use Rattle.mmio_window.specs.declared.stage.Stage.{Stage}
use Rattle.mmio_window.specs.declared.stage.Stage.TheVariants.{Next}
use Rattle.mmio_window.specs.Pieces.{PieceTo, ServesTo}
use Rattle.mmio_window.specs.Window.{WindowState, queue_at}
use Rattle.block_device.specs.declared.device.BlockDevice.{BlockDevice}
use Rattle.block_device.specs.Device.{exact_device}
use Rattle.block_device.proofs.OneService.{SameContents, device_with_contents, does_with_contents, once_with_contents}
use Rattle.console_device.specs.Device.{receive, transmit_within}
use Rattle.console_device.proofs.Deciding.{within_decides}
use Rattle.console_device.proofs.Services.{receive_once, within_once}
use Rattle.device_list.specs.Device.{DeviceState}
use Rattle.device_list.proofs.OnePiece.{SameProgress, devices_serve_once, one_piece, progress_once}
use Rattle.device_list.proofs.Services.{answers, piece_fits}
use Rattle.board.specs.declared.pause.Pause.{Pause}
use Rattle.board.specs.declared.pause.Service.{Service}
use Rattle.board.specs.declared.pause.Service.TheVariants.{Block, Receive, Transmit, Further}
use Rattle.board.specs.declared.pause.Turn.{Turn}
use Rattle.board.specs.declared.pause.Turn.TheVariants.{Answered, More}
use Rattle.board.specs.declared.reply.Reply.{Reply}
use Rattle.board.specs.declared.reply.Reply.TheVariants.{NoMemory}
use Rattle.board.specs.Image.{Health, disk_with}
use Rattle.board.specs.ImageDisks.{bytes_in, image_device, image_served}
use Rattle.board.specs.Machine.{at_rest}
use Rattle.board.specs.Pausing.{ComesTo, GoesOnBy, IsBlockPiece, IsFurtherPiece, IsImageDiskPiece, IsPiece, IsPieceAtDevice, IsReceivePiece, reply_of, turn_of}
use Rattle.board.specs.Slot.{SlotState}
use Rattle.board.specs.Task.{device_of}
use Rattle.board.specs.Within.{GoesOnWithin, PieceBy, PieceWithin, SameTurn, SendsWithin}
use Rattle.board.proofs.Alike.{PieceAs, piece_as}
use Rattle.board.proofs.AtDevice.{outside_once}
use Rattle.board.proofs.Guests.{rested}
use Rattle.board.proofs.OneRun.{same_block, same_console, same_image}

-- ---- the transmit queue, whose outlet may be full

-- what a piece of it is answered, by how it ends
abbrev pub turn_by : {A : Type 0} → Pause → Option Ending → Turn A
turn_by pause None = More pause
turn_by pause (Some Refused) = Answered NoMemory
turn_by pause (Some ending) = Answered (reply_of pause)

record Sent {A : Type 0} (limit : ℕ) (pause : Pause) (stage : Stage) (budget : Budget) (old new : SlotState)
    (waiting left : List ℕ) (turn : Turn A) : Type 0 where
  how : Option Ending
  piece : PieceTo stage (transmit_within (Some limit)) budget 1 (queue_at 1 old.console) how old.memory new.memory
      old.console new.console waiting left
  is : new ≡ record old { memory = new.memory; console = new.console }
  turn_is : turn ≡ turn_by pause how

answered_by : {A : Type 0} (pause : Pause) (ending : Ending) (reply : Reply A) → ending ≢ Refused
    → reply ≡ reply_of pause → Answered reply ≡ turn_by pause (Some ending)
answered_by pause Spent reply n is = ap (λ r. Answered r) is
answered_by pause (Faulted fault) reply n is = ap (λ r. Answered r) is
answered_by pause Refused reply n is = absurd (n refl)

sent : {A : Type 0} (limit : ℕ) (pause : Pause) (stage : Stage) (budget : Budget) (old new : SlotState)
    (waiting left : List ℕ) (turn : Turn A) → ((next : Pause) → turn ≡ More next → next ≡ pause)
    → SendsWithin limit pause stage budget old new waiting left turn
    → Sent limit pause stage budget old new waiting left turn
sent {A} limit pause stage budget old new waiting left (More next) stays h = record {
  how = None;
  piece = piece_fits (transmit_within (Some limit)) budget 1 old.memory new.memory old.console new.console waiting left
      stage (queue_at 1 old.console) progress.More h.served;
  is = h.is;
  turn_is = (let more : Pause → Turn A = λ p. More p in ap more (stays next refl));
}
sent limit pause stage budget old new waiting left (Answered reply) stays (inl (is, h)) =
    let a = answers (transmit_within (Some limit)) budget 1 old.memory new.memory old.console new.console waiting left
    stage (queue_at 1 old.console) h.served in
    record {
      how = Some a.ending;
      piece = a.completes;
      is = h.is;
      turn_is = answered_by pause a.ending reply a.answered is;
    }
sent {A} limit pause stage budget old new waiting left (Answered reply) stays (inr (is, h)) = record {
  how = Some Refused;
  piece = h.refused;
  is = h.is;
  turn_is = ap (λ (r : Reply A). Answered r) is;
}

abbrev with_console : SlotState → Memory → WindowState → SlotState
with_console state memory console = record state { memory = memory; console = console }

-- A piece of the transmit queue has one outcome: it pauses, ends, or finds no room.
sent_once : {A : Type 0} (limit : ℕ) (pause : Pause) (stage : Stage) (budget : Budget) (old new new' : SlotState)
    (waiting left left' : List ℕ) (turn turn' : Turn A) → ((next : Pause) → turn ≡ More next → next ≡ pause)
    → ((next : Pause) → turn' ≡ More next → next ≡ pause)
    → SendsWithin limit pause stage budget old new waiting left turn
    → SendsWithin limit pause stage budget old new' waiting left' turn' → SameTurn new new' left left' turn turn'
sent_once {A} limit pause stage budget old new new' waiting left left' turn turn' stays stays' a b =
    let x = sent limit pause stage budget old new waiting left turn stays a in
    let y = sent limit pause stage budget old new' waiting left' turn' stays' b in
    let same = one_piece (transmit_within (Some limit)) (within_once (Some limit)) (within_decides limit) stage budget 1
    (queue_at 1 old.console) x.how y.how old.memory new.memory new'.memory old.console new.console new'.console waiting
    left left' x.piece y.piece in
    record {
      state = x.is ∙ ap₂ (with_console old) same.memory same.window ∙ sym y.is;
      waiting = same.state;
      answer = x.turn_is ∙ ap (λ (how : Option Ending). turn_by {A = A} pause how) same.how ∙ sym y.turn_is;
    }

-- ---- the receive queue

-- what two pieces agree in that put out nothing
record SameLeft (x y : Progress) (new new' : SlotState) (output output' : List ℕ) : Type 0 where
  progress : x ≡ y
  state : new ≡ new'
  put : output ≡ output'

received_once : (stage : Stage) (budget : Budget) (x y : Progress) (old new new' : SlotState)
    (before after before' after' : Health) (output output' : List ℕ)
    → IsReceivePiece stage budget x old before after new output
    → IsReceivePiece stage budget y old before' after' new' output' → SameLeft x y new new' output output'
received_once stage budget x y old new new' before after before' after' output output' a b =
    let same = progress_once receive
    (one_piece receive receive_once (record { never_both = λ s readable k g gives lacks. lacks })) stage budget 0
    (queue_at 0 old.console) x y old.memory new.memory new'.memory old.console new.console new'.console old.pending
    new.pending new'.pending a.served b.served in
    record {
      progress = same.progress;
      state = a.is ∙ same_console old new.memory new'.memory new.console new'.console new.pending new'.pending
          same.memory same.window same.state ∙ sym b.is;
      put = a.silent ∙ sym b.silent;
    }

-- ---- a disk over an image none of whose calls fails

-- a piece of it as one of a disk that tells its bytes, from the image at rest
record TellsPiece (device : BlockDevice) (stage : Stage) (budget : Budget) (queue : Option Queue) (progress : Progress)
    (m m' : Memory) (w w' : WindowState) (bytes left : List ℕ) : Type 0 where
  last : Disk
  contents : last.contents ≡ Some left
  served : ServesTo stage (device_with_contents device) budget 0 queue progress m m' w w' (disk_with bytes at_rest) last

tells_piece : (device : BlockDevice) (stage : Stage) (budget : Budget) (queue : Option Queue) (progress : Progress)
    (m m' : Memory) (w w' : WindowState) (bytes left : List ℕ) (before after : Health)
    → ServesTo stage (exact_device device) budget 0 queue progress m m' w w' (disk_with bytes before) (disk_with left after)
    → TellsPiece device stage budget queue progress m m' w w' bytes left
tells_piece device stage budget queue progress m m' w w' bytes left before after h =
    let r = rested device stage budget progress queue m m' w w' bytes left before after at_rest h in
    let p : PieceAs (exact_device device) (device_with_contents device) SameContents (does_with_contents device) budget
    stage 0 queue progress m m' w w' (disk_with left r.health) (disk_with bytes at_rest) =
    piece_as (exact_device device) (device_with_contents device) SameContents (does_with_contents device) budget stage 0
    queue progress m m' w w' (disk_with bytes at_rest) (disk_with left r.health) (disk_with bytes at_rest)
    (record { same = refl; contents = record { bytes = bytes; is = refl } }) r.served in
    record {
      last = p.state;
      contents = ap (λ (d : Disk). d.contents) (sym p.alike.same);
      served = p.served;
    }

exact_once : (device : BlockDevice) (stage : Stage) (budget : Budget) (queue : Option Queue) (x y : Progress)
    (m n o : Memory) (u v w : WindowState) (bytes one other : List ℕ) (before after before' after' : Health)
    → ServesTo stage (exact_device device) budget 0 queue x m n u v (disk_with bytes before) (disk_with one after)
    → ServesTo stage (exact_device device) budget 0 queue y m o u w (disk_with bytes before') (disk_with other after')
    → SameProgress x y n o v w one other
exact_once device stage budget queue x y m n o u v w bytes one other before after before' after' a b =
    let p = tells_piece device stage budget queue x m n u v bytes one before after a in
    let r = tells_piece device stage budget queue y m o u w bytes other before' after' b in
    let told = device_with_contents device in
    let same = progress_once told
    (one_piece told (once_with_contents device) (record { never_both = λ s readable k g gives lacks. lacks })) stage
    budget 0 queue x y m n o u v w (disk_with bytes at_rest) p.last r.last p.served r.served in
    record {
      progress = same.progress;
      memory = same.memory;
      window = same.window;
      state = same_Some one other (sym p.contents ∙ ap (λ (d : Disk). d.contents) same.state ∙ r.contents);
    }

block_once : (stage : Stage) (budget : Budget) (x y : Progress) (old new new' : SlotState)
    (before after before' after' : Health) (output output' : List ℕ)
    → IsBlockPiece (exact_device (device_of old)) stage budget x old before after new output
    → IsBlockPiece (exact_device (device_of old)) stage budget y old before' after' new' output'
    → SameLeft x y new new' output output'
block_once stage budget x y old new new' before after before' after' output output' a b =
    let same = exact_once (device_of old) stage budget (queue_at 0 old.block) x y old.memory new.memory new'.memory
    old.block new.block new'.block old.extent new.extent new'.extent before after before' after' a.served b.served in
    record {
      progress = same.progress;
      state = a.is ∙ same_block old new.memory new'.memory new.extent new'.extent new.block new'.block same.memory
          same.state same.window ∙ sym b.is;
      put = a.silent ∙ sym b.silent;
    }

image_once : (n : ℕ) (disk : BlockDevice) (stage : Stage) (budget : Budget) (x y : Progress) (old new new' : SlotState)
    (before after before' after' : Health) (output output' : List ℕ)
    → IsImageDiskPiece (exact_device (image_device disk)) n disk stage budget x old before after new output
    → IsImageDiskPiece (exact_device (image_device disk)) n disk stage budget y old before' after' new' output'
    → SameLeft x y new new' output output'
image_once n disk stage budget x y old new new' before after before' after' output output' a b =
    let s = a.serves in
    let t = b.serves in
    let found : t.device ≡ s.device = same_Some t.device s.device (sym t.there ∙ s.there) in
    let device = image_device disk in
    let bytes = bytes_in disk old.spare_bytes in
    let again : ServesTo stage (exact_device device) budget 0 (queue_at 0 s.device.window) y old.memory new'.memory
    s.device.window t.window (disk_with bytes before') (disk_with (bytes_in disk new'.spare_bytes) after') =
    subst (λ (d : DeviceState). ServesTo stage (exact_device device) budget 0 (queue_at 0 d.window) y old.memory
    new'.memory d.window t.window (disk_with bytes before') (disk_with (bytes_in disk new'.spare_bytes) after')) found
    t.serves in
    let same = exact_once device stage budget (queue_at 0 s.device.window) x y old.memory new.memory new'.memory
    s.device.window s.window t.window bytes (bytes_in disk new.spare_bytes) (bytes_in disk new'.spare_bytes) before after
    before' after' s.serves again in
    let spare : new.spare_bytes ≡ new'.spare_bytes =
    outside_once disk.extent old.spare_bytes new.spare_bytes new'.spare_bytes s.outside t.outside same.state in
    let devices : slice_set old.devices n (record s.device { window = s.window })
    ≡ slice_set old.devices n (record t.device { window = t.window }) =
    rw (found, same.window) refl in
    record {
      progress = same.progress;
      state = s.is ∙ same_image old new.memory new'.memory new.spare_bytes new'.spare_bytes
          (slice_set old.devices n (record s.device { window = s.window }))
          (slice_set old.devices n (record t.device { window = t.window })) same.memory spare devices ∙ sym t.is;
      put = a.silent ∙ sym b.silent;
    }

-- ---- a further device

abbrev with_devices : SlotState → Memory → List DeviceState → SlotState
with_devices state memory devices = record state { memory = memory; devices = devices }

further_once : (n q : ℕ) (stage : Stage) (budget : Budget) (x y : Progress) (old new new' : SlotState)
    (before after before' after' : Health) (output output' : List ℕ)
    → IsFurtherPiece n q stage budget x old before after new output
    → IsFurtherPiece n q stage budget y old before' after' new' output' → SameLeft x y new new' output output'
further_once n q stage budget x y old new new' before after before' after' output output' a b =
    let same = devices_serve_once stage budget x y n q old.memory new.memory new'.memory old.devices new.devices
    new'.devices a.served b.served in
    record {
      progress = same.progress;
      state = a.is ∙ ap₂ (with_devices old) same.memory same.devices ∙ sym b.is;
      put = a.silent ∙ sym b.silent;
    }

-- ---- a piece, of whatever service

never_failed : (before after : Health) → after.failures ≡ before.failures → before.failures < after.failures → ⊥
never_failed before after stood failed = omega (arith, stood, failed)

at_device_once : (found : Option BlockDevice) (n q : ℕ) (stage : Stage) (budget : Budget) (x y : Progress)
    (old new new' : SlotState) (before after before' after' : Health) (output output' : List ℕ)
    → after.failures ≡ before.failures → after'.failures ≡ before'.failures
    → IsPieceAtDevice found n q stage budget x old before after new output
    → IsPieceAtDevice found n q stage budget y old before' after' new' output' → SameLeft x y new new' output output'
at_device_once None n q stage budget x y old new new' before after before' after' output output' stood stood' a b =
    further_once n q stage budget x y old new new' before after before' after' output output' a b
at_device_once (Some disk) n q stage budget x y old new new' before after before' after' output output' stood stood'
    (inl a) (inl b) =
    image_once n disk stage budget x y old new new' before after before' after' output output' a.0 b.0
at_device_once (Some disk) n q stage budget x y old new new' before after before' after' output output' stood stood'
    (inl a) (inr b) = absurd (never_failed before' after' stood' b.1)
at_device_once (Some disk) n q stage budget x y old new new' before after before' after' output output' stood stood'
    (inr a) b = absurd (never_failed before after stood a.1)

-- one that puts out nothing
silent_once : (service : Service) (stage : Stage) (budget : Budget) (x y : Progress) (old new new' : SlotState)
    (before after before' after' : Health) (output output' : List ℕ) → service ≢ Transmit
    → after.failures ≡ before.failures → after'.failures ≡ before'.failures
    → IsPiece service stage budget x old before after new output
    → IsPiece service stage budget y old before' after' new' output' → SameLeft x y new new' output output'
silent_once Block stage budget x y old new new' before after before' after' output output' quiet stood stood' (inl a)
    (inl b) =
    block_once stage budget x y old new new' before after before' after' output output' a.piece b.piece
silent_once Block stage budget x y old new new' before after before' after' output output' quiet stood stood' (inl a)
    (inr b) = absurd (never_failed before' after' stood' b.failures)
silent_once Block stage budget x y old new new' before after before' after' output output' quiet stood stood' (inr a)
    b = absurd (never_failed before after stood a.failures)
silent_once Receive stage budget x y old new new' before after before' after' output output' quiet stood stood' a b =
    received_once stage budget x y old new new' before after before' after' output output' a b
silent_once Transmit stage budget x y old new new' before after before' after' output output' quiet stood stood' a b =
    absurd (quiet refl)
silent_once (Further n q) stage budget x y old new new' before after before' after' output output' quiet stood stood' a
    b =
    at_device_once (image_served (Further n q) old) n q stage budget x y old new new' before after before' after' output
    output' stood stood' a b

-- ---- a turn

record Silent {A : Type 0} (pause : Pause) (stage : Stage) (budget : Budget) (old : SlotState) (before after : Health)
    (new : SlotState) (output : List ℕ) (turn : Turn A) : Type 0 where
  progress : Progress
  piece : IsPiece pause.service stage budget progress old before after new output
  is : turn ≡ turn_of pause progress

silent : {A : Type 0} (pause : Pause) (stage : Stage) (budget : Budget) (old : SlotState) (before after : Health)
    (new : SlotState) (output : List ℕ) (turn : Turn A) → pause.service ≢ Transmit
    → ComesTo pause stage budget old before after new output turn
    → Silent pause stage budget old before after new output turn
silent {A} pause stage budget old before after new output (Answered reply) quiet (inl h) =
    record { progress = progress.Done; piece = h.1; is = ap (λ (r : Reply A). Answered r) h.0 }
silent pause stage budget old before after new output (Answered reply) quiet (inr h) = absurd (quiet h.1.0)
silent {A} pause stage budget old before after new output (More next) quiet h =
    let more : Pause → Turn A = λ p. More p in
    record { progress = progress.More; piece = h.1; is = ap more h.0 }

stays : {A : Type 0} (pause : Pause) (stage : Stage) (budget : Budget) (old : SlotState) (before after : Health)
    (new : SlotState) (output : List ℕ) (turn : Turn A) → ComesTo pause stage budget old before after new output turn
    → (next : Pause) → turn ≡ More next → next ≡ pause
stays pause stage budget old before after new output (Answered reply) h next is = absurd (cc is)
stays pause stage budget old before after new output (More last) h next is = let same = h.0 in cc (is, same)

-- The lemma: a turn of a paused service has one outcome, where no call of the image fails, by what waits of the output.
pub comes_once : {A : Type 0} (limit : ℕ) (pause : Pause) (stage : Stage) (budget : Budget) (old new new' : SlotState)
    (before after before' after' : Health) (waiting left left' output output' : List ℕ) (turn turn' : Turn A)
    → after.failures ≡ before.failures → after'.failures ≡ before'.failures
    → left ≡ waiting ++ output → left' ≡ waiting ++ output'
    → ComesTo pause stage budget old before after new output turn
    → ComesTo pause stage budget old before' after' new' output' turn'
    → PieceWithin limit pause stage budget old new waiting left turn
    → PieceWithin limit pause stage budget old new' waiting left' turn' → SameTurn new new' left left' turn turn'
comes_once {A} limit pause stage budget old new new' before after before' after' waiting left left' output output' turn
    turn' stood stood' behind behind' a b = by_service pause.service refl
  where
    quietly : pause.service ≢ Transmit → SameTurn new new' left left' turn turn'
    quietly quiet =
        let x = silent pause stage budget old before after new output turn quiet a in
        let y = silent pause stage budget old before' after' new' output' turn' quiet b in
        let same = silent_once pause.service stage budget x.progress y.progress old new new' before after before' after'
        output output' quiet stood stood' x.piece y.piece in
        record {
          state = same.state;
          waiting = behind ∙ ap (λ (put : List ℕ). waiting ++ put) same.put ∙ sym behind';
          answer = x.is ∙ ap (λ (p : Progress). turn_of {A = A} pause p) same.progress ∙ sym y.is;
        }

    by_service : (service : Service) → pause.service ≡ service
        → PieceBy service limit pause stage budget old new waiting left turn
        → PieceBy service limit pause stage budget old new' waiting left' turn'
        → SameTurn new new' left left' turn turn'
    by_service Block is v w = quietly (λ sends. cc (is, sends))
    by_service Receive is v w = quietly (λ sends. cc (is, sends))
    by_service Transmit is v w =
        sent_once limit pause stage budget old new new' waiting left left' turn turn'
        (stays pause stage budget old before after new output turn a)
        (stays pause stage budget old before' after' new' output' turn' b) v w
    by_service (Further n q) is v w = quietly (λ sends. cc (is, sends))

-- so as it goes on, whoever has the disk that it serves
pub goes_on_once : {A : Type 0} (hosts : Bool) (limit : ℕ) (pause : Pause) (budget : Budget) (old new new' : SlotState)
    (before after before' after' : Health) (waiting left left' output output' : List ℕ) (turn turn' : Turn A)
    → after.failures ≡ before.failures → after'.failures ≡ before'.failures
    → left ≡ waiting ++ output → left' ≡ waiting ++ output'
    → GoesOnBy hosts pause budget old before after new output turn
    → GoesOnBy hosts pause budget old before' after' new' output' turn'
    → GoesOnWithin limit pause budget old new waiting left turn
    → GoesOnWithin limit pause budget old new' waiting left' turn' → SameTurn new new' left left' turn turn'
goes_on_once true limit pause budget old new new' before after before' after' waiting left left' output output' turn
    turn' stood stood' behind behind' a b v w =
    record {
      state = a.same ∙ sym b.same;
      waiting = behind ∙ ap (λ (put : List ℕ). waiting ++ put) (a.silent ∙ sym b.silent) ∙ sym behind';
      answer = a.answered ∙ sym b.answered;
    }
goes_on_once false limit pause budget old new new' before after before' after' waiting left left' output output' turn
    turn' stood stood' behind behind' a b v w =
    comes_once limit pause Next budget old new new' before after before' after' waiting left left' output output' turn
    turn' stood stood' behind behind' a b v w
