-- A turn of a slot, from what its devices did.
use Rattle.std.proofs.Common.{◌≡◌, ◌≢◌, ◌⊎◌, inl, inr, ℕ, ◌+◌, ◌≤◌, Option, Some, None, Result, Ok, Err, List, [], ◌∷◌, ◌++◌, length, refl, sym, ap, subst, ◌∙◌, arith, append_assoc, append-nil}
use Rattle.std.specs.Prelude.{OnErr, OnOk}
use Rattle.std.proofs.lemmas.Bool.{cases_eq}
use Rattle.std.proofs.lemmas.Bool.Decides.{nat_tests}
use Rattle.guest_memory.specs.Memory.{Memory}
use Rattle.chain.specs.declared.budget.Budget.{Budget}
use Rattle.chain.specs.declared.budget.Progress.{Progress}
use Rattle.chain.specs.declared.budget.Progress.TheVariants as progress
use Rattle.chain.specs.Service.{Device, Given, Ending, Refused, Site}
use Rattle.chain.proofs.Servicing.{refused_service}
use Rattle.chain.proofs.Simulating.{DoesAs, Matches}
use Rattle.mmio_window.specs.declared.stage.Stage.{Stage}
use Rattle.mmio_window.specs.declared.stage.Stage.TheVariants.{First, Next}
use Rattle.sector_cache.specs.Disk.{Disk, IsWhole}
use Rattle.mmio_window.specs.declared.queue.Queue.{Queue}
use Rattle.mmio_window.specs.Pieces.{FinishesWithin, IsRefusedAt, ServesTo}
use Rattle.mmio_window.specs.Queue.{queue_kind}
use Rattle.mmio_window.specs.Window.{WindowState, queue_at}
use Rattle.mmio_window.proofs.Pieces.{notified_once}
use Rattle.mmio_window.proofs.PiecesExact.{finishes_within_exact, goes_on_in_exact, notified_within_exact, pauses_in_exact}
use Rattle.mmio_window.proofs.Services.{notified_not_refused}
use Rattle.block_device.specs.declared.device.BlockDevice.{BlockDevice}
use Rattle.block_device.specs.declared.request.Request.{Request}
use Rattle.block_device.specs.Device.{block_device, device_by, exact_device}
use Rattle.block_device.specs.Extent.{IsWithin, extent_disk}
use Rattle.block_device.specs.Outcome.{Outcome, Completes, Ends}
use Rattle.block_device.proofs.Exact.{exact_unless}
use Rattle.block_device.proofs.Guests.{Same, does_anywhere, guest_device}
use Rattle.console_device.specs.Device.{Fits, MayRefuse, exact_transmit, transmit, transmit_fitting, transmit_within, transmitted}
use Rattle.board.specs.declared.event.SlotWindow.{SlotWindow}
use Rattle.board.specs.declared.event.EventKind.{EventKind}
use Rattle.board.specs.declared.event.EventKind.TheVariants.{Write}
use Rattle.board.specs.declared.pause.Pause.{Pause}
use Rattle.board.specs.declared.pause.Service.TheVariants.{Block, Transmit}
use Rattle.board.specs.declared.pause.Turn.{Turn}
use Rattle.board.specs.declared.pause.Turn.TheVariants.{Answered}
use Rattle.board.specs.declared.reply.Reply.{Reply}
use Rattle.board.specs.declared.reply.Reply.TheVariants.{Done, NoMemory}
use Rattle.board.specs.Image.{Health, Tells, bytes_of, health_of, sectors_of, disk_with}
use Rattle.board.specs.Pausing.{BeginsOverImage, IsBlockPiece, IsPiece, ComesTo, TurnsTo, ServesTurn, asked_by, asked_over_image, readied, turn_of}
use Rattle.board.specs.Slot.{SlotState, BoardSlot, state_of}
use Rattle.board.specs.Machine.{task_at, with_write}
use Rattle.board.specs.Outcome.{Outcome as Came, replies, does}
use Rattle.board.specs.Task.{Task, Nothing, PutOut, Finishes, device_of, puts_out}
use Rattle.board.specs.Within.{BeginsWithinOverImage, PieceWithin, PutsOutWithin, PutsWithin, TurnWithin}
use Rattle.board.specs.World.{HasBytesToPutOut, IsCutShort, MayGiveOverImage}
use Rattle.board.proofs.Alike.{PieceAs, RefusedAs, piece_as, refused_as}
use Rattle.board.proofs.Blocks.{image_device, block_served, count_of, counted_device, seen_disk}

-- a piece comes to the turn of its progress
pub comes_to : (A : Type 0) (pause : Pause) (stage : Stage) (budget : Budget) (progress : Progress)
    (old : SlotState) (before after : Health) (new : SlotState) (output : List ℕ)
    → IsPiece pause.service stage budget progress old before after new output
    → ComesTo {A = A} pause stage budget old before after new output (turn_of pause progress)
comes_to A pause stage budget progress.Done old before after new output piece = inl (refl, piece)
comes_to A pause stage budget progress.More old before after new output piece = (refl, piece)

-- ---- the block device

-- where no call of the image failed, the piece is one of the exact device
finishing_not_refused : (device : BlockDevice) (budget : Budget) (queue : Option Queue) (ending : Ending)
    (m m' : Memory) (w w' : WindowState) (s t : Disk)
    → FinishesWithin (block_device device) budget 0 queue ending m m' w w' s t → ending ≢ Refused
finishing_not_refused device budget None ending m m' w w' s t h is = let spent = h.0 in cc
finishing_not_refused device budget (Some queue) Refused m m' w w' s t h is =
    absurd h.ends.ends.runs.ends.lacks_memory
finishing_not_refused device budget (Some queue) Ending.Spent m m' w w' s t h is = cc
finishing_not_refused device budget (Some queue) (Ending.Faulted fault) m m' w w' s t h is = cc

pub exact_piece : (device : BlockDevice) (stage : Stage) (budget : Budget) (queue : Option Queue)
    (progress : Progress) (m m' : Memory) (w w' : WindowState) (s t : Disk) → t.failures ≡ s.failures
    → ServesTo stage (block_device device) budget 0 queue progress m m' w w' s t
    → ServesTo stage (exact_device device) budget 0 queue progress m m' w w' s t
exact_piece device First budget queue progress.Done m m' w w' s t stood h =
    let whole = notified_once (block_device device) budget 0 queue h.ending m m' w w' s t h.notified in
    let answered = notified_not_refused (block_device device) (λ disk readable places lacks. lacks) 0 queue
    h.ending m m' w w' s t whole in
    record {
      ending = h.ending;
      notified = notified_within_exact (block_device device) (exact_device device) (λ disk. disk.failures)
          (exact_unless device) budget 0 queue h.ending m m' w w' s t answered stood h.notified;
    }
exact_piece device First budget None progress.More m m' w w' s t stood h = absurd h
exact_piece device First budget (Some queue) progress.More m m' w w' s t stood h =
    pauses_in_exact (block_device device) (exact_device device) (λ disk. disk.failures) (exact_unless device)
    budget 0 queue m m' w w' s t stood h
exact_piece device Next budget queue progress.Done m m' w w' s t stood h =
    record {
      ending = h.ending;
      finished =
          finishes_within_exact (block_device device) (exact_device device) (λ disk. disk.failures)
          (exact_unless device) budget 0 queue h.ending m m' w w' s t
          (finishing_not_refused device budget queue h.ending m m' w w' s t h.finished) stood h.finished;
    }
exact_piece device Next budget None progress.More m m' w w' s t stood h = absurd h
exact_piece device Next budget (Some queue) progress.More m m' w w' s t stood h =
    goes_on_in_exact (block_device device) (exact_device device) (λ disk. disk.failures) (exact_unless device)
    budget 0 queue m m' w w' s t stood h

-- where the extent lies is never seen
pub piece_anywhere : (Way : Request → List ℕ → Disk → Outcome → Type 0) (device : BlockDevice) (stage : Stage)
    (budget : Budget) (queue : Option Queue) (progress : Progress) (m m' : Memory)
    (w w' : WindowState) (s t : Disk)
    → ServesTo stage (device_by Way device) budget 0 queue progress m m' w w' s t
    → ServesTo stage (device_by Way (guest_device device)) budget 0 queue progress m m' w w' s t
piece_anywhere Way device stage budget queue progress m m' w w' s t h =
    let p : PieceAs (device_by Way device) (device_by Way (guest_device device)) Same
    (does_anywhere Way device) budget stage 0 queue progress m m' w w' t s =
    piece_as (device_by Way device) (device_by Way (guest_device device)) Same (does_anywhere Way device)
    budget stage 0 queue progress m m' w w' s t s refl h in
    subst (λ (d : Disk). ServesTo stage (device_by Way (guest_device device)) budget 0 queue progress m m' w
    w' s d) p.alike p.served

-- what was served of the slot, as its guest sees it
seen_piece : (Way : Request → List ℕ → Disk → Outcome → Type 0) (slot : BoardSlot) (stage : Stage)
    (budget : Budget) (progress : Progress) (memory : Memory) (block : WindowState) (old new : Disk)
    → Tells old → Tells new → IsWhole old → IsWhole new → IsWithin old.sector_count slot.extent
    → IsWithin new.sector_count slot.extent → (state_of (bytes_of new) slot).spare_bytes ≡ (state_of (bytes_of old) slot).spare_bytes
    → ServesTo stage (device_by Way (image_device slot)) budget 0 (queue_at 0 slot.block) progress slot.memory
    memory slot.block block (extent_disk slot.extent old) (extent_disk slot.extent new)
    → IsBlockPiece (device_by Way (device_of (state_of (bytes_of old) slot))) stage budget progress
    (state_of (bytes_of old) slot) (health_of old) (health_of new)
    (state_of (bytes_of new) (block_served slot memory block)) []
seen_piece Way slot stage budget progress memory block old new tells tells' whole whole' lies lies' spare h =
    let start = state_of (bytes_of old) slot in
    let count : slot.extent.count ≡ sectors_of start.extent =
    sym (count_of slot.extent old tells whole lies) in
    let guest = piece_anywhere Way (image_device slot) stage budget (queue_at 0 slot.block) progress
    slot.memory memory slot.block block (extent_disk slot.extent old) (extent_disk slot.extent new) h in
    let own = subst (λ c. ServesTo stage (device_by Way (counted_device slot c)) budget 0
    (queue_at 0 slot.block) progress slot.memory memory slot.block block (extent_disk slot.extent old)
    (extent_disk slot.extent new)) count guest in
    record {
      served =
          subst (λ (d : Disk). ServesTo stage (device_by Way (device_of start)) budget 0
          (queue_at 0 slot.block) progress slot.memory memory slot.block block d
          (disk_with (state_of (bytes_of new) slot).extent (health_of new)))
          (seen_disk slot.extent old tells whole lies)
          (subst (λ (d : Disk). ServesTo stage (device_by Way (device_of start)) budget 0
          (queue_at 0 slot.block) progress slot.memory memory slot.block block
          (extent_disk slot.extent old) d)
          (seen_disk slot.extent new tells' whole' lies') own);
      is = rw spare refl;
      size = count_of slot.extent new tells' whole' lies' ∙ count;
      silent = refl;
    }

-- a piece of the block device's service
pub block_piece : (slot : BoardSlot) (stage : Stage) (budget : Budget) (progress : Progress) (memory : Memory)
    (block : WindowState) (old new : Disk)
    → Tells old → Tells new → IsWhole old → IsWhole new → IsWithin old.sector_count slot.extent
    → IsWithin new.sector_count slot.extent → old.failures ≤ new.failures
    → (state_of (bytes_of new) slot).spare_bytes ≡ (state_of (bytes_of old) slot).spare_bytes
    → ServesTo stage (block_device (image_device slot)) budget 0 (queue_at 0 slot.block) progress slot.memory
    memory slot.block block (extent_disk slot.extent old) (extent_disk slot.extent new)
    → IsPiece Block stage budget progress (state_of (bytes_of old) slot) (health_of old) (health_of new)
    (state_of (bytes_of new) (block_served slot memory block)) []
block_piece slot stage budget progress memory block old new tells tells' whole whole' lies lies' rises
    spare served = either (cases_eq new.failures old.failures)
  where
    either : (new.failures ≡ old.failures) ⊎ (new.failures ≢ old.failures)
        → IsPiece Block stage budget progress (state_of (bytes_of old) slot) (health_of old) (health_of new)
        (state_of (bytes_of new) (block_served slot memory block)) []
    either (inl stood) = inl (record {
      piece =
          seen_piece (Completes slot.identity) slot stage budget progress memory block old new tells tells'
          whole whole' lies lies' spare
          (exact_piece (image_device slot) stage budget (queue_at 0 slot.block) progress slot.memory memory
          slot.block block (extent_disk slot.extent old) (extent_disk slot.extent new) stood served);
      failures = stood;
    })
    either (inr rose) = inr (record {
      piece = seen_piece (Ends slot.identity) slot stage budget progress memory block old new tells tells'
          whole whole' lies lies' spare served;
      failures = grind (arith, nat_tests, rises, rose);
    })

-- ---- what the console puts out

-- what stands behind what was there before
abbrev Behind : List ℕ → List ℕ → List ℕ → Type 0
Behind before out sent = out ≡ before ++ sent

-- a chain that is put out behind what was there
behind : (other : Device (List ℕ)) (before out sent readable : List ℕ) (w : ℕ) (given : Given (List ℕ))
    → ((g : Given (List ℕ)) → g ≡ transmitted sent readable w → other.Gives sent readable w g)
    → Behind before out sent → given ≡ transmitted out readable w
    → Matches other (Behind before) sent readable w given
behind other before out sent readable w given puts alike is = record {
  state = sent ++ readable;
  alike = ap (λ (g : Given (List ℕ)). g.state) is ∙ ap (λ l. l ++ readable) alike
      ∙ append_assoc before sent readable;
  gives = puts _ (ap (λ (g : Given (List ℕ)). record { state = sent ++ readable; written = g.written }) is);
}

fitting_behind : (limit : Option ℕ) (before : List ℕ)
    → DoesAs (transmit_fitting limit) exact_transmit (Behind before)
fitting_behind limit before = record {
  takes = λ out sent alike. refl;
  gives = λ out sent readable w given alike h.
      behind exact_transmit before out sent readable w given (λ g puts. puts) alike h.0;
  lacks_memory = λ out sent readable w alike h. h;
}

within_behind : (limit : Option ℕ) (before : List ℕ) → DoesAs (transmit_within limit) transmit (Behind before)
within_behind limit before = record {
  takes = λ out sent alike. refl;
  gives = λ out sent readable w given alike h.
      behind transmit before out sent readable w given (λ g puts. puts) alike h.0;
  lacks_memory = λ out sent readable w alike h. h.0;
}

-- the slot with what a transmit reaches
abbrev pub sent : SlotState → Memory → WindowState → SlotState
sent state memory console = record state { memory = memory; console = console }

pub sends : {A : Type 0} (state : SlotState) (pause : Pause) (stage : Stage) (budget : Budget)
    (progress : Progress) (limit : Option ℕ) (health : Health) (memory : Memory) (console : WindowState)
    (before after : List ℕ) → pause.service ≡ Transmit
    → ServesTo stage (transmit_fitting limit) budget 1 (queue_at 1 state.console) progress state.memory memory
    state.console console before after
    → ServesTurn {A = A} (ComesTo pause stage budget) state health health (sent state memory console)
    (turn_of pause progress) before after
sends {A} state pause stage budget progress limit health memory console before after is h =
    let p : PieceAs (transmit_fitting limit) exact_transmit (Behind before) (fitting_behind limit before)
    budget stage 1 (queue_at 1 state.console) progress state.memory memory
    state.console console after [] =
    piece_as (transmit_fitting limit) exact_transmit (Behind before) (fitting_behind limit before) budget
    stage 1 (queue_at 1 state.console) progress state.memory memory state.console console before after []
    (sym (append-nil before)) h in
    let piece : IsPiece pause.service stage budget progress state health health
    (sent state memory console) p.state =
    rw is (record { served = p.served; is = refl; image = refl }) in
    record {
      output = p.state;
      comes = comes_to A pause stage budget progress state health health (sent state memory console) p.state
          piece;
      appended = p.alike;
    }

pub refuses : {A : Type 0} (state : SlotState) (pause : Pause) (stage : Stage) (budget : Budget)
    (limit : Option ℕ) (health : Health) (memory : Memory) (console : WindowState) (before after : List ℕ)
    → pause.service ≡ Transmit
    → IsRefusedAt stage (transmit_within limit) budget 1 (queue_at 1 state.console) state.memory memory
    state.console console before after
    → ServesTurn {A = A} (ComesTo pause stage budget) state health health (sent state memory console)
    (Answered NoMemory) before after
refuses state pause stage budget limit health memory console before after is h =
    let p : RefusedAs (transmit_within limit) transmit (Behind before) (within_behind limit before) budget
    stage 1 (queue_at 1 state.console) state.memory memory state.console console after [] =
    refused_as (transmit_within limit) transmit (Behind before) (within_behind limit before) budget stage 1
    (queue_at 1 state.console) state.memory memory state.console console before after []
    (sym (append-nil before)) h in
    record {
      output = p.state;
      comes = inr (refl, (is, record { refused = p.served; is = refl; image = refl }));
      appended = p.alike;
    }

-- what puts out nothing
pub silent_turn : {A : Type 0} (pause : Pause) (stage : Stage) (budget : Budget) (progress : Progress)
    (old : SlotState) (before after : Health) (new : SlotState) (out : List ℕ)
    → IsPiece pause.service stage budget progress old before after new []
    → ServesTurn {A = A} (ComesTo pause stage budget) old before after new (turn_of pause progress) out out
silent_turn {A} pause stage budget progress old before after new out piece =
    record {
      output = [];
      comes = comes_to A pause stage budget progress old before after new [] piece;
      appended = sym (append-nil out);
    }

-- ---- which pieces find no memory

never_lacks_at : (A : Type 0) (pause : Pause) (taken : Option ℕ) (progress : Progress) → pause.taken ≡ taken
    → turn_of {A = A} pause progress ≡ Answered NoMemory → ⊥
never_lacks_at A pause None progress.Done is lacks = cc (is, lacks)
never_lacks_at A pause (Some taken) progress.Done is lacks = cc (is, lacks)
never_lacks_at A pause taken progress.More is lacks = cc

pub never_lacks : {A : Type 0} (pause : Pause) (progress : Progress)
    → turn_of {A = A} pause progress ≡ Answered NoMemory → ⊥
never_lacks {A} pause progress lacks = never_lacks_at A pause pause.taken progress refl lacks

bytes_at : (budget : Budget) (limit : Option ℕ) (queue : Option Queue) (m m' : Memory) (w w' : WindowState)
    (before after : List ℕ) → queue_at 1 w ≡ queue
    → IsRefusedAt First (transmit_within limit) budget 1 queue m m' w w' before after → HasBytesToPutOut m w
bytes_at budget limit None m m' w w' before after is h = let never = h.0 in absurd (cc)
bytes_at budget limit (Some queue) m m' w w' before after is h =
    let p : RefusedAs (transmit_within limit) transmit (Behind before) (within_behind limit before) budget
    First 1 (Some queue) m m' w w' after [] =
    refused_as (transmit_within limit) transmit (Behind before) (within_behind limit before) budget First 1
    (Some queue) m m' w w' before after [] (sym (append-nil before)) h in
    let start : Site Queue (List ℕ) = record { memory = m; ring = queue; state = [] } in
    let end : Site Queue (List ℕ) = record { memory = m'; ring = p.served.last; state = p.state } in
    record {
      queue = queue;
      ready = is;
      end = end;
      wanted = p.served.wanted;
      stops = refused_service queue_kind transmit start end p.served.wanted p.served.service.service;
    }

pub has_bytes : (stage : Stage) (budget : Budget) (limit : Option ℕ) (m m' : Memory) (w w' : WindowState)
    (before after : List ℕ) → stage ≡ First
    → IsRefusedAt stage (transmit_within limit) budget 1 (queue_at 1 w) m m' w w' before after
    → HasBytesToPutOut m w
has_bytes First budget limit m m' w w' before after first h =
    bytes_at budget limit (queue_at 1 w) m m' w w' before after refl h
has_bytes Next budget limit m m' w w' before after first h = absurd (cc)

-- ---- an event

-- the service that it asks for takes its first piece
pub begins_by : {A : Type 0} (what : EventKind A) (pause : Pause) (budget : Budget) (state mid : SlotState)
    (old new : Health) (after : SlotState) (turn : Turn A) (out out' : List ℕ) → asked_over_image what state ≡ Some pause
    → mid ≡ readied what state
    → ServesTurn (ComesTo pause First budget) mid old new after turn out out'
    → ServesTurn (BeginsOverImage what budget) state old new after turn out out'
begins_by what pause budget state mid old new after turn out out' is ready h = record {
  output = h.output;
  comes =
      subst (λ (o : Option Pause). TurnsTo (λ c. MayGiveOverImage state what old new c) o what budget state old new
      after h.output turn) (sym is)
      (subst (λ (s : SlotState). ComesTo pause First budget s old new after h.output turn) ready h.comes);
  appended = h.appended;
}

-- and puts nothing out
pub comes_first : {A : Type 0} (what : EventKind A) (pause : Pause) (budget : Budget) (state : SlotState)
    (old new : Health) (after : SlotState) (turn : Turn A) (out : List ℕ) → asked_over_image what state ≡ Some pause
    → ComesTo pause First budget (readied what state) old new after [] turn
    → ServesTurn (BeginsOverImage what budget) state old new after turn out out
comes_first what pause budget state old new after turn out is comes =
    begins_by what pause budget state (readied what state) old new after turn out out is refl
    (record { output = []; comes = comes; appended = sym (append-nil out) })

-- An outcome that it may have, whose output was appended to what was put out before.
pub record ServesOverImage {A : Type 0} (state : SlotState) (what : EventKind A) (old new : Health)
    (after : SlotState) (reply : Reply A) (out_before out_after : List ℕ) : Type 0 where
  pub output : List ℕ
  pub given :
      MayGiveOverImage state what old new (record { state = after; reply = reply; output = output })
  pub appended : out_after ≡ out_before ++ output

-- it asks for none
pub at_once : {A : Type 0} (what : EventKind A) (budget : Budget) (state : SlotState) (old new : Health)
    (after : SlotState) (reply : Reply A) (out out' : List ℕ) → asked_over_image what state ≡ None
    → ServesOverImage state what old new after reply out out'
    → ServesTurn (BeginsOverImage what budget) state old new after (Answered reply) out out'
at_once what budget state old new after reply out out' is h = record {
  output = h.output;
  comes = subst (λ (o : Option Pause). TurnsTo (λ c. MayGiveOverImage state what old new c) o what budget state old
      new after h.output (Answered reply)) (sym is) h.given;
  appended = h.appended;
}

-- what comes of a write, by the task that it leaves
pub task_given : {A : Type 0} (state : SlotState) (window : SlotWindow) (task : Task) (offset width value : ℕ)
    (old new : Health) (outcome : Came A) → task_at window offset width value state ≡ task
    → (Finishes task (with_write window offset width value state) old new outcome
    × ((outcome.reply ≢ NoMemory) × (new.failures ≡ old.failures)))
    ⊎ IsCutShort task (with_write window offset width value state) old new outcome
    → MayGiveOverImage state (Write window offset width value) old new outcome
task_given {A} state window task offset width value old new outcome is (inl h) = inl (record {
  alike = subst (λ (t : Task). Finishes t (with_write window offset width value state) old new
      outcome) (sym is) h.0;
  answered = h.1.0;
  failures = h.1.1;
})
task_given {A} state window task offset width value old new outcome is (inr h) =
    inr (subst (λ (t : Task). IsCutShort t (with_write window offset width value state) old new
    outcome) (sym is) h)

-- a write that leaves nothing
pub nothing_turn : {A : Type 0} (state : SlotState) (window : SlotWindow) (offset width value : ℕ)
    (budget : Budget) (health : Health) (out : List ℕ) → task_at window offset width value state ≡ Nothing
    → ServesTurn (BeginsOverImage {A = A} (Write window offset width value) budget) state health health
    (with_write window offset width value state) (Answered Done) out out
nothing_turn {A} state window offset width value budget health out is =
    let after = with_write window offset width value state in
    at_once (Write window offset width value) budget state health health after Done out out
    (ap asked_by is) (record {
      output = [];
      given = task_given state window Nothing offset width value health health (does after) is
          (inl (record { alike = refl; image = refl }, (λ none. cc, refl)));
      appended = sym (append-nil out);
    })

-- or a byte to be put out
pub put_out_turn : {A E : Type 0} (state : SlotState) (window : SlotWindow) (offset width value byte : ℕ)
    (budget : Budget) (health : Health) (before after : List ℕ) (r : Result (Unit {0}) E) (reply : Reply A)
    → task_at window offset width value state ≡ PutOut byte
    → OnOk r (after ≡ before ++ byte ∷ []) → OnErr r (after ≡ before) → OnOk r (reply ≡ Done)
    → OnErr r (reply ≡ NoMemory)
    → ServesTurn (BeginsOverImage (Write window offset width value) budget) state health health
    (with_write window offset width value state) (Answered reply) before after
put_out_turn {A} {E} state window offset width value byte budget health before after (Ok x) reply is
    out kept done none =
    let mid = with_write window offset width value state in
    at_once (Write window offset width value) budget state health health mid reply before after
    (ap asked_by is) (record {
      output = byte ∷ [];
      given = rw done (task_given state window (PutOut byte) offset width value health health
          (puts_out byte mid) is (inl (record { alike = refl; image = refl }, (λ lacks. cc, refl))));
      appended = out;
    })
put_out_turn {A} {E} state window offset width value byte budget health before after (Err x) reply is
    out kept done none =
    let mid = with_write window offset width value state in
    at_once (Write window offset width value) budget state health health mid reply before after
    (ap asked_by is) (record {
      output = [];
      given = rw none (task_given state window (PutOut byte) offset width value health health
          (replies mid NoMemory) is (inr (record { alike = refl; image = refl })));
      appended = kept ∙ sym (append-nil before);
    })

-- an event that asks for no service, and puts nothing out
pub silent_answer : {A : Type 0} (what : EventKind A) (budget : Budget) (state : SlotState) (old new : Health)
    (after : SlotState) (reply : Reply A) (out : List ℕ) → asked_over_image what state ≡ None
    → MayGiveOverImage state what old new (replies after reply)
    → ServesTurn (BeginsOverImage what budget) state old new after (Answered reply) out out
silent_answer what budget state old new after reply out is given =
    at_once what budget state old new after reply out out is
    (record { output = []; given = given; appended = sym (append-nil out) })

-- ---- within a limit

pub begins_within : {A : Type 0} (limit : ℕ) (what : EventKind A) (pause : Pause) (budget : Budget)
    (state mid after : SlotState) (waiting left : List ℕ) (turn : Turn A) → asked_over_image what state ≡ Some pause
    → mid ≡ readied what state
    → PieceWithin limit pause First budget mid after waiting left turn
    → BeginsWithinOverImage limit what budget state after waiting left turn
begins_within limit what pause budget state mid after waiting left turn is ready h =
    subst (λ (o : Option Pause). TurnWithin limit o what budget state after waiting left turn) (sym is)
    (subst (λ (s : SlotState). PieceWithin limit pause First budget s after waiting left turn) ready h)

put_within : {A E : Type 0} (limit : ℕ) (o : Option ℕ) (byte : ℕ) (state : SlotState) (waiting left : List ℕ)
    (r : Result (Unit {0}) E) (reply : Reply A) → o ≡ Some limit
    → OnOk r (left ≡ waiting ++ byte ∷ []) → OnOk r (Fits o (length waiting + 1)) → OnErr r (left ≡ waiting)
    → OnErr r (MayRefuse o (length waiting + 1))
    → OnOk r (reply ≡ Done) → OnErr r (reply ≡ NoMemory)
    → PutsWithin limit byte state state waiting left reply
put_within limit o byte state waiting left (Ok x) reply limited put fits kept past done none =
    let room : Fits (Some limit) (length waiting + 1) = rw limited at fits in
    record { stays = refl; fits = λ some. (put, done); refused = λ full. absurd (omega (arith, room, full)) }
put_within limit o byte state waiting left (Err x) reply limited put fits kept past done none =
    let full : MayRefuse (Some limit) (length waiting + 1) = rw limited at past in
    record { stays = refl; fits = λ some. absurd (omega (arith, full, some)); refused = λ past. (kept, none) }

pub put_out_within : {A E : Type 0} (limit : ℕ) (o : Option ℕ) (state : SlotState) (window : SlotWindow)
    (offset width value byte : ℕ) (budget : Budget) (waiting left : List ℕ) (r : Result (Unit {0}) E)
    (reply : Reply A) → o ≡ Some limit
    → task_at window offset width value state ≡ PutOut byte
    → OnOk r (left ≡ waiting ++ byte ∷ []) → OnOk r (Fits o (length waiting + 1)) → OnErr r (left ≡ waiting)
    → OnErr r (MayRefuse o (length waiting + 1))
    → OnOk r (reply ≡ Done) → OnErr r (reply ≡ NoMemory)
    → BeginsWithinOverImage limit (Write window offset width value) budget state
    (with_write window offset width value state) waiting left (Answered reply)
put_out_within {A} limit o state window offset width value byte budget waiting left r reply limited is put
    fits kept past done none =
    let mid = with_write window offset width value state in
    subst (λ (a : Option Pause). TurnWithin {A = A} limit a (Write window offset width value) budget state mid
    waiting left (Answered reply)) (sym (ap asked_by is))
    (subst (λ (t : Task). PutsOutWithin limit t mid mid waiting left reply) (sym is)
    (put_within limit o byte mid waiting left r reply limited put fits kept past done none))
