-- A piece of a further device's service comes to one thing: it pauses or ends, and leaves one device and one memory.
use Rattle.std.proofs.Common.{◌≡◌, ◌≢◌, inl, inr, ℕ, zero, suc, Option, Some, None, List, refl, sym, ◌∙◌, ap, ap₂, subst}
use Rattle.std.specs.List.{slice_get}
use Rattle.std.specs.Prelude.{slice_set}
use Rattle.guest_memory.specs.Memory.{Memory}
use Rattle.chain.specs.declared.budget.Budget.{Budget}
use Rattle.chain.specs.declared.budget.Progress.{Progress}
use Rattle.chain.specs.declared.budget.Progress.TheVariants.{Done, More}
use Rattle.chain.specs.Service.{Decides, Device, Ending, Spent, Faulted, Refused, HasAtMostOneAnswer}
use Rattle.mmio_window.specs.declared.queue.Queue.{Queue}
use Rattle.mmio_window.specs.declared.stage.Stage.{Stage}
use Rattle.mmio_window.specs.declared.stage.Stage.TheVariants.{First, Next}
use Rattle.mmio_window.specs.Pieces.{HasOnePiece, PieceTo, SamePiece, ServesTo}
use Rattle.mmio_window.specs.Serving.{NothingHappens}
use Rattle.mmio_window.specs.Window.{WindowState, queue_at}
use Rattle.mmio_window.proofs.OnePiece.{piece_is_one}
use Rattle.entropy_device.specs.Device.{entropy}
use Rattle.entropy_device.proofs.Services.{once as entropy_once}
use Rattle.console_device.specs.Device.{receive as receive_input, transmit_within}
use Rattle.console_device.proofs.Deciding.{within_decides}
use Rattle.console_device.proofs.Services.{receive_once as input_once, within_once}
use Rattle.network_device.specs.Device.{Passing, emptied, passing, receive, transmit}
use Rattle.network_device.specs.Receiving.{ReceivesTo}
use Rattle.network_device.proofs.Answering.{receive_once, transmit_once}
use Rattle.hosted_disk.specs.Disk.{HostedDisk, ServesDiskTo}
use Rattle.hosted_disk.proofs.One.{piece_disk}
use Rattle.device_list.specs.Card.{Card, CardServesTo, ReceivesFramesTo, card_limits}
use Rattle.device_list.specs.Device.{DeviceServesTo, DeviceState}
use Rattle.device_list.specs.List.{At, DevicesServeTo, IsNoneServed, ServesAny}
use Rattle.device_list.specs.Model.{ModelServesTo, ModelState, Entropy, Network as NetworkModel, Block as BlockModel, Console as ConsoleModel, Image as ImageModel, ServesAs}
use Rattle.device_list.specs.Terminal.{Terminal, TerminalServesTo, terminal_limit}
use Rattle.device_list.proofs.Cards.{receive_decides, transmit_decides}
use Rattle.device_list.proofs.Services.{answers, piece_fits}

-- what two pieces leave is the same, and of both more is to come or of none
pub record SameProgress {State : Type 0} (x y : Progress) (m n : Memory) (v w : WindowState) (s t : State)
    : Type 0 where
  pub progress : x ≡ y
  pub memory : m ≡ n
  pub window : v ≡ w
  pub state : s ≡ t

-- whether more is to come
abbrev pub progress_by : Option Ending → Progress
progress_by None = More
progress_by (Some ending) = Done

pub one_piece : {State : Type 0} (device : Device State) → HasAtMostOneAnswer device → Decides device
    → HasOnePiece device
one_piece device once decides stage budget q = piece_is_one device once decides budget q stage

-- ---- a piece by its progress

record Came {State : Type 0} (device : Device State) (stage : Stage) (budget : Budget) (q : ℕ) (queue : Option Queue)
    (progress : Progress) (old new : Memory) (before after : WindowState) (s s' : State) : Type 0 where
  how : Option Ending
  piece : PieceTo stage device budget q queue how old new before after s s'
  is : progress ≡ progress_by how

came : {State : Type 0} (device : Device State) (stage : Stage) (budget : Budget) (q : ℕ) (queue : Option Queue)
    (progress : Progress) (old new : Memory) (before after : WindowState) (s s' : State)
    → ServesTo stage device budget q queue progress old new before after s s'
    → Came device stage budget q queue progress old new before after s s'
came device First budget q queue Done old new before after s s' h =
    record { how = Some h.ending; piece = h.notified; is = refl }
came device Next budget q queue Done old new before after s s' h =
    record { how = Some h.ending; piece = h.finished; is = refl }
came device First budget q queue More old new before after s s' h = record { how = None; piece = h; is = refl }
came device Next budget q queue More old new before after s s' h = record { how = None; piece = h; is = refl }

pub progress_once : {State : Type 0} (device : Device State) → HasOnePiece device → (stage : Stage) (budget : Budget)
    (q : ℕ) (queue : Option Queue) (x y : Progress) (old m n : Memory) (before v w : WindowState) (s0 s t : State)
    → ServesTo stage device budget q queue x old m before v s0 s
    → ServesTo stage device budget q queue y old n before w s0 t → SameProgress x y m n v w s t
progress_once device one stage budget q queue x y old m n before v w s0 s t a b =
    let p = came device stage budget q queue x old m before v s0 s a in
    let r = came device stage budget q queue y old n before w s0 t b in
    let same = one stage budget q queue p.how r.how old m n before v w s0 s t p.piece r.piece in
    record {
      progress = p.is ∙ ap progress_by same.how ∙ sym r.is;
      memory = same.memory;
      window = same.window;
      state = same.state;
    }

-- and what is made of the state in which it leaves its device
made_once : {State Whole : Type 0} (device : Device State) → HasAtMostOneAnswer device → Decides device
    → (stage : Stage) (budget : Budget) (q : ℕ) (made : State → Whole) (x y : Progress) (m n o : Memory)
    (u v w : WindowState) (s0 s t : State) (one other : Whole)
    → ServesTo stage device budget q (queue_at q u) x m n u v s0 s
    → ServesTo stage device budget q (queue_at q u) y m o u w s0 t
    → one ≡ made s → other ≡ made t → SameProgress x y n o v w one other
made_once device once decides stage budget q made x y m n o u v w s0 s t one other a b is is' =
    let same = progress_once device (one_piece device once decides) stage budget q (queue_at q u) x y m n o u v w s0 s t
    a b in
    record {
      progress = same.progress;
      memory = same.memory;
      window = same.window;
      state = is ∙ ap made same.state ∙ sym is';
    }

neither_serves : {State : Type 0} (x y : Progress) (m n o : Memory) (u v w : WindowState) (s one other : State)
    → (x ≡ Done) × NothingHappens m n u v s one → (y ≡ Done) × NothingHappens m o u w s other
    → SameProgress x y n o v w one other
neither_serves x y m n o u v w s one other a b = record {
  progress = a.0 ∙ sym b.0;
  memory = a.1.memory ∙ sym b.1.memory;
  window = a.1.window ∙ sym b.1.window;
  state = a.1.state ∙ sym b.1.state;
}

-- ---- a card

-- what waits behind a piece of the receive queue
kept : Option Ending → Passing → Passing
kept (Some Refused) waiting = emptied waiting
kept how waiting = waiting

kept_all : (ending : Ending) (waiting : Passing) → ending ≢ Refused → waiting ≡ kept (Some ending) waiting
unfolding kept
kept_all Spent waiting n = refl
kept_all (Faulted fault) waiting n = refl
kept_all Refused waiting n = absurd (n refl)

record Received (stage : Stage) (budget : Budget) (queue : Option Queue) (progress : Progress) (old new : Memory)
    (before after : WindowState) (waiting left : Passing) : Type 0 where
  how : Option Ending
  last : Passing
  piece : PieceTo stage receive budget 0 queue how old new before after waiting last
  left_is : left ≡ kept how last
  is : progress ≡ progress_by how

received_fits : (stage : Stage) (budget : Budget) (queue : Option Queue) (progress : Progress) (old new : Memory)
    (before after : WindowState) (waiting left : Passing)
    → ServesTo stage (record { takes = receive.takes; Gives = receive.Gives; LacksMemory = λ waiting readable w. ⊥ })
    budget 0 queue progress old new before after waiting left
    → Received stage budget queue progress old new before after waiting left
unfolding kept
received_fits stage budget queue Done old new before after waiting left h =
    let a = answers receive budget 0 old new before after waiting left stage queue h in
    record {
      how = Some a.ending;
      last = left;
      piece = a.completes;
      left_is = kept_all a.ending left a.answered;
      is = refl;
    }
received_fits stage budget queue More old new before after waiting left h =
    record {
      how = None;
      last = left;
      piece = piece_fits receive budget 0 old new before after waiting left stage queue More h;
      left_is = refl;
      is = refl;
    }

received_by : (stage : Stage) (budget : Budget) (queue : Option Queue) (progress : Progress) (old new : Memory)
    (before after : WindowState) (waiting left : Passing)
    → ReceivesTo stage budget queue progress old new before after waiting left
    → Received stage budget queue progress old new before after waiting left
unfolding kept
received_by stage budget queue progress old new before after waiting left (inl fits) =
    received_fits stage budget queue progress old new before after waiting left fits
received_by stage budget queue progress old new before after waiting left (inr (is, drops)) = record {
  how = Some Refused;
  last = drops.last;
  piece = drops.refused;
  left_is = drops.dropped;
  is = is;
}

receives_once : (stage : Stage) (budget : Budget) (x y : Progress) (card : Card) (m n o : Memory)
    (u v w : WindowState) (one other : Card) → ReceivesFramesTo stage budget x card m n u v one
    → ReceivesFramesTo stage budget y card m o u w other → SameProgress x y n o v w one other
receives_once stage budget x y card m n o u v w one other a b =
    let start = card.network.waiting in
    let p = received_by stage budget (queue_at 0 u) x m n u v start a.left a.served in
    let r = received_by stage budget (queue_at 0 u) y m o u w start b.left b.served in
    let same = one_piece receive receive_once receive_decides stage budget 0 (queue_at 0 u) p.how r.how m n o u v w start
    p.last r.last p.piece r.piece in
    let left : a.left ≡ b.left = p.left_is ∙ ap₂ kept same.how same.state ∙ sym r.left_is in
    record {
      progress = p.is ∙ ap progress_by same.how ∙ sym r.is;
      memory = same.memory;
      window = same.window;
      state = a.is ∙ ap (λ (left : Passing). record card { network = record card.network { waiting = left } }) left
          ∙ sym b.is;
    }

card_once : (stage : Stage) (budget : Budget) (x y : Progress) (card : Card) (q : ℕ) (m n o : Memory)
    (u v w : WindowState) (one other : Card) → CardServesTo stage budget x card q m n u v one
    → CardServesTo stage budget y card q m o u w other → SameProgress x y n o v w one other
card_once stage budget x y card zero m n o u v w one other a b =
    receives_once stage budget x y card m n o u v w one other a b
card_once stage budget x y card (suc zero) m n o u v w one other a b =
    made_once (transmit card_limits) (transmit_once card_limits) (transmit_decides card_limits) stage budget 1
    (λ out. record { network = record card.network { dropped = out.dropped }; sent = out.frames }) x y m n o u v w
    (passing card.sent card.network.dropped) a.out b.out one other a.served b.served a.is b.is
card_once stage budget x y card (suc (suc q)) m n o u v w one other a b =
    neither_serves x y m n o u v w card one other a b

-- ---- a console

terminal_once : (stage : Stage) (budget : Budget) (x y : Progress) (terminal : Terminal) (q : ℕ) (m n o : Memory)
    (u v w : WindowState) (one other : Terminal) → TerminalServesTo stage budget x terminal q m n u v one
    → TerminalServesTo stage budget y terminal q m o u w other → SameProgress x y n o v w one other
terminal_once stage budget x y terminal zero m n o u v w one other a b =
    made_once receive_input input_once (record { never_both = λ s readable k g gives lacks. lacks }) stage budget 0
    (λ left. record terminal { console = record terminal.console { pending = left } }) x y m n o u v w
    terminal.console.pending a.left b.left one other a.served b.served a.is b.is
terminal_once stage budget x y terminal (suc zero) m n o u v w one other a b =
    made_once (transmit_within (Some terminal_limit)) (within_once (Some terminal_limit))
    (within_decides terminal_limit) stage budget 1 (λ out. record terminal { waiting = out }) x y m n o u v w
    terminal.waiting a.out b.out one other a.served b.served a.is b.is
terminal_once stage budget x y terminal (suc (suc q)) m n o u v w one other a b =
    neither_serves x y m n o u v w terminal one other a b

-- ---- a device, whichever it is

as_once : {State : Type 0} (kind : State → ModelState) (Does Would : State → Type 0) (x y : Progress) (m n : Memory)
    (v w : WindowState) (one other : ModelState)
    → ((s t : State) → Does s → Would t → SameProgress x y m n v w s t) → ServesAs kind Does one
    → ServesAs kind Would other → SameProgress x y m n v w one other
as_once kind Does Would x y m n v w one other once a b =
    let same = once a.after b.after a.serves b.serves in
    record {
      progress = same.progress;
      memory = same.memory;
      window = same.window;
      state = a.is ∙ ap kind same.state ∙ sym b.is;
    }

model_once : (stage : Stage) (budget : Budget) (x y : Progress) (model : ModelState) (q : ℕ) (m n o : Memory)
    (u v w : WindowState) (one other : ModelState) → ModelServesTo stage budget x model q m n u v one
    → ModelServesTo stage budget y model q m o u w other → SameProgress x y n o v w one other
model_once stage budget x y (Entropy pool) zero m n o u v w one other a b =
    made_once entropy entropy_once (record { never_both = λ s readable k g gives lacks. lacks }) stage budget 0 Entropy
    x y m n o u v w pool a.left b.left one other a.served b.served a.is b.is
model_once stage budget x y (Entropy pool) (suc q) m n o u v w one other a b =
    neither_serves x y m n o u v w (Entropy pool) one other a b
model_once stage budget x y (NetworkModel card) q m n o u v w one other a b =
    as_once NetworkModel (CardServesTo stage budget x card q m n u v) (CardServesTo stage budget y card q m o u w) x y n
    o v w one other (λ s t k l. card_once stage budget x y card q m n o u v w s t k l) a b
model_once stage budget x y (BlockModel disk) q m n o u v w one other a b =
    as_once BlockModel (ServesDiskTo stage budget x disk q m n u v) (ServesDiskTo stage budget y disk q m o u w) x y n o
    v w one other (λ s t k l. (let same = piece_disk stage budget x y disk s t q m n o u v w k l in record {
      progress = same.progress;
      memory = same.ends.memory;
      window = same.ends.window;
      state = same.ends.state;
    })) a b
model_once stage budget x y (ConsoleModel terminal) q m n o u v w one other a b =
    as_once ConsoleModel (TerminalServesTo stage budget x terminal q m n u v)
    (TerminalServesTo stage budget y terminal q m o u w) x y n o v w one other
    (λ s t k l. terminal_once stage budget x y terminal q m n o u v w s t k l) a b
model_once stage budget x y (ImageModel disk) q m n o u v w one other a b =
    neither_serves x y m n o u v w (ImageModel disk) one other a b

-- ---- and a list of them

same_device : (one other : DeviceState) → one.window ≡ other.window → one.model ≡ other.model → one ≡ other
same_device one other p q = ap₂ made p q
  where
    made : WindowState → ModelState → DeviceState
    made w model = record { window = w; model = model }

pub record SameDevices (x y : Progress) (n o : Memory) (new new' : List DeviceState) : Type 0 where
  pub progress : x ≡ y
  pub memory : n ≡ o
  pub devices : new ≡ new'

any_once : (found : Option DeviceState) (stage : Stage) (budget : Budget) (x y : Progress) (i q : ℕ) (m n o : Memory)
    (old new new' : List DeviceState) → ServesAny found stage budget x i q m n old new
    → ServesAny found stage budget y i q m o old new' → SameDevices x y n o new new'
any_once None stage budget x y i q m n o old new new' a b = record {
  progress = a.done ∙ sym b.done;
  memory = a.memory ∙ sym b.memory;
  devices = a.devices ∙ sym b.devices;
}
any_once (Some d) stage budget x y i q m n o old new new' a b =
    let found : Some a.before ≡ Some b.before = sym a.there ∙ b.there in
    let before : b.before ≡ a.before = cc (found) in
    let same = model_once stage budget x y a.before.model q m n o a.before.window a.after.window b.after.window
    a.after.model b.after.model a.changes
    (subst (λ (d : DeviceState). DeviceServesTo stage budget y q m o d b.after) before b.changes) in
    record {
      progress = same.progress;
      memory = same.memory;
      devices = a.is
          ∙ ap (λ (d : DeviceState). slice_set old i d) (same_device a.after b.after same.window same.state)
          ∙ sym b.is;
    }

-- The lemma: a piece of a further device's service has one outcome.
pub devices_serve_once : (stage : Stage) (budget : Budget) (x y : Progress) (i q : ℕ) (m n o : Memory)
    (old new new' : List DeviceState) → DevicesServeTo stage budget x i q m n old new
    → DevicesServeTo stage budget y i q m o old new' → SameDevices x y n o new new'
devices_serve_once stage budget x y i q m n o old new new' a b =
    any_once (slice_get old i) stage budget x y i q m n o old new new' a b
