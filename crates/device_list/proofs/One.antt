-- What is done to a device decides what becomes of it and of the memory.
use Rattle.std.proofs.Common.{◌≡◌, ℕ, zero, suc, Option, Some, None, List, sym, ◌∙◌, ap, ap₂, subst}
use Rattle.std.specs.Prelude.{slice_set}
use Rattle.guest_memory.specs.Memory.{Memory}
use Rattle.chain.proofs.Servicing.{one_decided_service}
use Rattle.chain.specs.Service.{Decides, Device, Ending, HasAtMostOneAnswer, Site}
use Rattle.mmio_window.specs.declared.queue.Queue.{Queue}
use Rattle.mmio_window.specs.Queue.{queue_kind}
use Rattle.mmio_window.specs.Serving.{IsNotified, NothingHappens, Notified}
use Rattle.mmio_window.specs.Window.{WindowState, queue_at}
use Rattle.mmio_window.specs.Writing.{action_of}
use Rattle.mmio_window.proofs.OneEnd.{HasOneService, SameEnd, one_end}
use Rattle.mmio_window.proofs.QueueKind.{has_at_most_one_chain}
use Rattle.entropy_device.specs.Device.{entropy}
use Rattle.entropy_device.proofs.Services.{once as entropy_once}
use Rattle.console_device.specs.Device.{receive as receive_input, transmit_within}
use Rattle.console_device.proofs.Deciding.{within_decides}
use Rattle.console_device.proofs.Services.{receive_once as input_once, within_once}
use Rattle.network_device.specs.Device.{Passing, passing, receive, transmit}
use Rattle.network_device.proofs.Answering.{receive_once, transmit_once}
use Rattle.block_device.specs.declared.operation.HostEvent.{HostEvent}
use Rattle.hosted_disk.specs.Disk.{HostedDisk, ServesDisk}
use Rattle.hosted_disk.specs.Told.{DoesAsTold}
use Rattle.hosted_disk.proofs.One.{serve_disk, tell_disk}
use Rattle.device_list.specs.Card.{Card, ReceivesFrames, ServesCard, TransmitsFrames, card_limits, kept_behind}
use Rattle.device_list.specs.Device.{DeviceState, Receives, ServesAfter, ServesNotified, Supplies, TakesSent, Told, Writes, device_written, freed_by, notified_by, received, supplied, with_model}
use Rattle.device_list.specs.List.{At}
use Rattle.device_list.specs.Model.{ModelState, Entropy, Network as NetworkModel, Block as BlockModel, Console as ConsoleModel, Image as ImageModel, Serves, ServesAs, without_sent}
use Rattle.device_list.specs.Terminal.{ReceivesInput, ServesTerminal, Terminal, TransmitsOutput, terminal_limit}
use Rattle.device_list.proofs.Cards.{receive_decides, transmit_decides}

-- a device that decides has one service
one_service : {State : Type 0} (device : Device State) → HasAtMostOneAnswer device → Decides device → (s : State)
    → HasOneService device s
one_service {State} device once decides s m queue a b e f v w x y =
    let old : Site Queue State = record { memory = m; ring = queue; state = s } in
    let same = one_decided_service queue_kind device has_at_most_one_chain once decides old a b e f v w x y in
    (same.site, same.ending, same.wanted)

-- and it ends in one way
one_ending : {State : Type 0} (device : Device State) (q : ℕ) (queue : Option Queue) (old m n : Memory)
    (before v w : WindowState) (s0 s t : State) (e f : Ending) → HasOneService device s0
    → Notified device q queue e old m before v s0 s → Notified device q queue f old n before w s0 t → e ≡ f
one_ending device q None old m n before v w s0 s t e f once a b = a.0 ∙ sym b.0
one_ending {State} device q (Some queue) old m n before v w s0 s t e f once a b =
    let one : Site Queue State = record { memory = m; ring = a.last; state = s } in
    let other : Site Queue State = record { memory = n; ring = b.last; state = t } in
    (once old queue one other e f a.wanted b.wanted a.service b.service).1

neither_happens : {State : Type 0} (m n o : Memory) (u v w : WindowState) (s one other : State)
    → NothingHappens m n u v s one → NothingHappens m o u w s other → SameEnd n o v w one other
neither_happens m n o u v w s one other a b = record {
  memory = a.memory ∙ sym b.memory;
  window = a.window ∙ sym b.window;
  state = a.state ∙ sym b.state;
}

-- what is made of the state in which a service leaves its device is the same
made_once : {State Whole : Type 0} (device : Device State) → HasAtMostOneAnswer device → Decides device → (q : ℕ)
    (made : State → Whole) (m n o : Memory) (u v w : WindowState) (s0 s t : State) (one other : Whole)
    → IsNotified device q (queue_at q u) m n u v s0 s → IsNotified device q (queue_at q u) m o u w s0 t
    → one ≡ made s → other ≡ made t → SameEnd n o v w one other
made_once device once decides q made m n o u v w s0 s t one other a b x y =
    let end = one_end device q (queue_at q u) m n o u v w s0 s t (one_service device once decides s0) a b in
    record { memory = end.memory; window = end.window; state = x ∙ ap made end.state ∙ sym y }

-- ---- a card

receives_once : (card : Card) (m n o : Memory) (u v w : WindowState) (one other : Card)
    → ReceivesFrames card m n u v one → ReceivesFrames card m o u w other → SameEnd n o v w one other
receives_once card m n o u v w one other a b =
    let start = card.network.waiting in
    let only = one_service receive receive_once receive_decides start in
    let end = one_end receive 0 (queue_at 0 u) m n o u v w start a.last b.last only
    (record { ending = a.ending; notified = a.notified }) (record { ending = b.ending; notified = b.notified }) in
    let ending = one_ending receive 0 (queue_at 0 u) m n o u v w start a.last b.last a.ending b.ending only
    a.notified b.notified in
    record {
      memory = end.memory;
      window = end.window;
      state = a.is ∙ ap₂ made ending end.state ∙ sym b.is;
    }
  where
    made : Ending → Passing → Card
    made ending last = record card { network = record card.network { waiting = kept_behind ending last } }

transmits_once : (card : Card) (m n o : Memory) (u v w : WindowState) (one other : Card)
    → TransmitsFrames card m n u v one → TransmitsFrames card m o u w other → SameEnd n o v w one other
transmits_once card m n o u v w one other a b =
    made_once (transmit card_limits) (transmit_once card_limits) (transmit_decides card_limits) 1
    (λ out. record { network = record card.network { dropped = out.dropped }; sent = out.frames }) m n o u v w
    (passing card.sent card.network.dropped) a.out b.out one other a.notified b.notified a.is b.is

card_once : (card : Card) (q : ℕ) (m n o : Memory) (u v w : WindowState) (one other : Card)
    → ServesCard card q m n u v one → ServesCard card q m o u w other → SameEnd n o v w one other
card_once card zero m n o u v w one other a b = receives_once card m n o u v w one other a b
card_once card (suc zero) m n o u v w one other a b = transmits_once card m n o u v w one other a b
card_once card (suc (suc q)) m n o u v w one other a b = neither_happens m n o u v w card one other a b

-- ---- a console

inputs_once : (terminal : Terminal) (m n o : Memory) (u v w : WindowState) (one other : Terminal)
    → ReceivesInput terminal m n u v one → ReceivesInput terminal m o u w other → SameEnd n o v w one other
inputs_once terminal m n o u v w one other a b =
    made_once receive_input input_once (record { never_both = λ s readable k g gives lacks. lacks }) 0
    (λ left. record terminal { console = record terminal.console { pending = left } }) m n o u v w
    terminal.console.pending a.left b.left one other a.notified b.notified a.is b.is

outputs_once : (terminal : Terminal) (m n o : Memory) (u v w : WindowState) (one other : Terminal)
    → TransmitsOutput terminal m n u v one → TransmitsOutput terminal m o u w other → SameEnd n o v w one other
outputs_once terminal m n o u v w one other a b =
    made_once (transmit_within (Some terminal_limit)) (within_once (Some terminal_limit))
    (within_decides terminal_limit) 1 (λ out. record terminal { waiting = out }) m n o u v w terminal.waiting a.out
    b.out one other a.notified b.notified a.is b.is

terminal_once : (terminal : Terminal) (q : ℕ) (m n o : Memory) (u v w : WindowState) (one other : Terminal)
    → ServesTerminal terminal q m n u v one → ServesTerminal terminal q m o u w other → SameEnd n o v w one other
terminal_once terminal zero m n o u v w one other a b = inputs_once terminal m n o u v w one other a b
terminal_once terminal (suc zero) m n o u v w one other a b = outputs_once terminal m n o u v w one other a b
terminal_once terminal (suc (suc q)) m n o u v w one other a b =
    neither_happens m n o u v w terminal one other a b

-- ---- a device, whichever it is

as_once : {State : Type 0} (kind : State → ModelState) (Does Would : State → Type 0) (m n : Memory) (v w : WindowState)
    (one other : ModelState) → ((s t : State) → Does s → Would t → SameEnd m n v w s t) → ServesAs kind Does one
    → ServesAs kind Would other → SameEnd m n v w one other
as_once kind Does Would m n v w one other once a b =
    let same = once a.after b.after a.serves b.serves in
    record { memory = same.memory; window = same.window; state = a.is ∙ ap kind same.state ∙ sym b.is }

serves_once : (model : ModelState) (q : ℕ) (m n o : Memory) (u v w : WindowState) (one other : ModelState)
    → Serves model q m n u v one → Serves model q m o u w other → SameEnd n o v w one other
serves_once (Entropy pool) zero m n o u v w one other a b =
    made_once entropy entropy_once (record { never_both = λ s readable k g gives lacks. lacks }) 0 Entropy m n o u v w
    pool a.left b.left one other a.notified b.notified a.is b.is
serves_once (Entropy pool) (suc q) m n o u v w one other a b =
    neither_happens m n o u v w (Entropy pool) one other a b
serves_once (NetworkModel card) q m n o u v w one other a b =
    as_once NetworkModel (ServesCard card q m n u v) (ServesCard card q m o u w) n o v w one other
    (λ s t x y. card_once card q m n o u v w s t x y) a b
serves_once (BlockModel disk) q m n o u v w one other a b =
    as_once BlockModel (ServesDisk disk q m n u v) (ServesDisk disk q m o u w) n o v w one other
    (λ s t x y. serve_disk disk s t q m n o u v w x y) a b
serves_once (ConsoleModel terminal) q m n o u v w one other a b =
    as_once ConsoleModel (ServesTerminal terminal q m n u v) (ServesTerminal terminal q m o u w) n o v w one other
    (λ s t x y. terminal_once terminal q m n o u v w s t x y) a b
serves_once (ImageModel disk) q m n o u v w one other a b =
    neither_happens m n o u v w (ImageModel disk) one other a b

notified_serves_once : (queue : Option ℕ) (m n o : Memory) (old one other : DeviceState)
    → ServesNotified queue m n old one → ServesNotified queue m o old other
    → SameEnd n o one.window other.window one.model other.model
notified_serves_once (Some q) m n o old one other a b =
    serves_once old.model q m n o old.window one.window other.window one.model other.model a b
notified_serves_once None m n o old one other a b = record {
  memory = a.0 ∙ sym b.0;
  window = ap (λ (d : DeviceState). d.window) (a.1 ∙ sym b.1);
  state = ap (λ (d : DeviceState). d.model) (a.1 ∙ sym b.1);
}

same_device : (m n : Memory) (one other : DeviceState)
    → SameEnd m n one.window other.window one.model other.model → one ≡ other
same_device m n one other same = ap₂ made same.window same.state
  where
    made : WindowState → ModelState → DeviceState
    made w model = record { window = w; model = model }

-- one device of a list is decided, and so is the list
at_once : (Changes : Memory → Memory → DeviceState → DeviceState → Type 0)
    → ((m n o : Memory) (old one other : DeviceState) → Changes m n old one → Changes m o old other
    → SameEnd n o one.window other.window one.model other.model)
    → (i : ℕ) (m n o : Memory) (old new new' : List DeviceState) → At Changes i m n old new
    → At Changes i m o old new' → (n ≡ o) × (new ≡ new')
at_once Changes once i m n o old new new' a b =
    let found : Some a.before ≡ Some b.before = sym a.there ∙ b.there in
    let before : b.before ≡ a.before = cc (found) in
    let same = once m n o a.before a.after b.after a.changes
    (subst (λ (d : DeviceState). Changes m o d b.after) before b.changes) in (
      same.memory,
      a.is ∙ ap (λ (d : DeviceState). slice_set old i d) (same_device n o a.after b.after same)
          ∙ sym b.is,
    )

pub write_once : (offset width value : ℕ) (i : ℕ) (m n o : Memory) (old new new' : List DeviceState)
    → At (Writes offset width value) i m n old new → At (Writes offset width value) i m o old new'
    → (n ≡ o) × (new ≡ new')
write_once offset width value =
    at_once (Writes offset width value) (λ m n o old one other a b.
    notified_serves_once (notified_by (action_of offset width value old.window)) m n o
    (device_written offset width value m old) one other a b)

-- what the host changes decides it too
after_once : (change : ModelState → ModelState) (q : ℕ) (i : ℕ) (m n o : Memory) (old new new' : List DeviceState)
    → At (ServesAfter change q) i m n old new → At (ServesAfter change q) i m o old new'
    → (n ≡ o) × (new ≡ new')
after_once change q =
    at_once (ServesAfter change q) (λ m n o old one other a b.
    serves_once (change old.model) q m n o old.window one.window other.window one.model other.model a b)

pub supply_once : (bytes : List ℕ) (i : ℕ) (m n o : Memory) (old new new' : List DeviceState)
    → At (Supplies bytes) i m n old new → At (Supplies bytes) i m o old new' → (n ≡ o) × (new ≡ new')
supply_once bytes = after_once (supplied bytes) 0

pub reception_once : (frame : List ℕ) (i : ℕ) (m n o : Memory) (old new new' : List DeviceState)
    → At (Receives frame) i m n old new → At (Receives frame) i m o old new' → (n ≡ o) × (new ≡ new')
reception_once frame = after_once (received frame) 0

pub taking_once : (i : ℕ) (m n o : Memory) (old new new' : List DeviceState) → At TakesSent i m n old new
    → At TakesSent i m o old new' → (n ≡ o) × (new ≡ new')
taking_once =
    at_once TakesSent (λ m n o old one other a b.
    notified_serves_once (freed_by old) m n o (with_model without_sent old) one other a b)

-- and what the host says of a disk
told_once : (said : HostEvent) (m n o : Memory) (old one other : DeviceState) → Told said m n old one
    → Told said m o old other → SameEnd n o one.window other.window one.model other.model
told_once said m n o old one other a b =
    let found : BlockModel a.before ≡ BlockModel b.before = sym a.there ∙ b.there in
    let before : b.before ≡ a.before = cc (found) in
    let same = tell_disk said a.before a.after b.after m n o old.window one.window other.window a.does
    (subst (λ (d : HostedDisk). DoesAsTold said d m o old.window other.window b.after) before b.does) in
    record { memory = same.memory; window = same.window; state = a.is ∙ ap BlockModel same.state ∙ sym b.is }

pub word_once : (said : HostEvent) (i : ℕ) (m n o : Memory) (old new new' : List DeviceState)
    → At (Told said) i m n old new → At (Told said) i m o old new' → (n ≡ o) × (new ≡ new')
word_once said = at_once (Told said) (λ m n o old one other a b. told_once said m n o old one other a b)
