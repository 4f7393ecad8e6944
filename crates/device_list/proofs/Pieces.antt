-- The pieces of a device's service of a queue: joined they are one service of it.
use Rattle.std.proofs.Common.{◌≡◌, ◌≢◌, ◌⊎◌, inl, inr, ℕ, zero, suc, Bool, true, false, Option, Some, None, List, [], ◌∷◌, refl, sym, ap, subst, ◌∙◌}
use Rattle.std.specs.Prelude.{slice_set}
use Rattle.std.specs.List.{slice_get}
use Rattle.std.specs.Option.{option_map_or}
use Rattle.guest_memory.specs.Memory.{Memory}
use Rattle.chain.specs.declared.budget.Budget.{Budget}
use Rattle.chain.specs.declared.budget.Progress.{Progress}
use Rattle.chain.specs.declared.budget.Progress.TheVariants.{Done, More}
use Rattle.mmio_window.specs.declared.stage.Stage.{Stage}
use Rattle.mmio_window.specs.declared.stage.Stage.TheVariants.{First, Next}
use Rattle.mmio_window.specs.Pieces.{ServesTo}
use Rattle.mmio_window.specs.Window.{WindowState, queue_at}
use Rattle.mmio_window.proofs.Devices.{KeepsDevice, KeepsDevice-refused, KeepsDevice-self, KeepsDevice-served}
use Rattle.mmio_window.proofs.Pieces.{notified_once}
use Rattle.mmio_window.proofs.Underway as underway
use Rattle.entropy_device.specs.Device.{entropy}
use Rattle.console_device.specs.Device as console
use Rattle.network_device.specs.Device.{Passing, passing, receive, receive_fitting, transmit}
use Rattle.hosted_disk.specs.Disk.{HostedDisk, ServesDisk, ServesDiskTo}
use Rattle.hosted_disk.proofs.Pieces.{DiskUnderWay, disk_again, disk_by_limit, disk_ended, disk_first, disk_keeps, disk_once}
use Rattle.device_list.specs.Card.{Card, CardServesTo, ReceivesFramesTo, ServesCard, card_limits}
use Rattle.device_list.specs.Device.{DeviceServesTo, DeviceState, ServesDevice}
use Rattle.device_list.specs.List.{At, DevicesServeTo, ServesAny, changed_at}
use Rattle.device_list.specs.Model.{ModelState, Entropy, Network, Block, Console, Image, ModelServesTo, Serves, ServesAs}
use Rattle.device_list.specs.Terminal.{ServesTerminal, Terminal, TerminalServesTo, terminal_limit}
use Rattle.device_list.proofs.Cards.{receives_whole, with_sent, with_waiting}
use Rattle.device_list.proofs.Joining.{IsUnderWay, Joins, Pieces, as_type, at_once, by_device}
use Rattle.device_list.proofs.Services.{nothing_keeps, piece_fits, spends_limit}

-- ---- a service under way

abbrev with_pending : Terminal → List ℕ → Terminal
with_pending terminal pending = record terminal { console = record terminal.console { pending = pending } }

abbrev with_output : Terminal → List ℕ → Terminal
with_output terminal out = record terminal { waiting = out }

-- what a card had sent and dropped at its start
abbrev sent_of : Card → Passing
sent_of card = passing card.sent card.network.dropped

abbrev pub CardUnderWay : Card → ℕ → Memory → Memory → WindowState → WindowState → Card → Type 0
CardUnderWay card zero m m' w w' card' =
    IsUnderWay receive 0 (with_waiting card) card.network.waiting m m' w w' card'
CardUnderWay card (suc zero) m m' w w' card' =
    IsUnderWay (transmit card_limits) 1 (with_sent card) (sent_of card) m m' w w' card'
CardUnderWay card (suc (suc q)) m m' w w' card' = ⊥

abbrev pub TerminalUnderWay : Terminal → ℕ → Memory → Memory → WindowState → WindowState → Terminal → Type 0
TerminalUnderWay terminal zero m m' w w' terminal' =
    IsUnderWay console.receive 0 (with_pending terminal) terminal.console.pending m m' w w' terminal'
TerminalUnderWay terminal (suc zero) m m' w w' terminal' =
    IsUnderWay (console.transmit_within (Some terminal_limit)) 1 (with_output terminal) terminal.waiting m m' w w'
    terminal'
TerminalUnderWay terminal (suc (suc q)) m m' w w' terminal' = ⊥

abbrev pub ModelUnderWay : ModelState → ℕ → Memory → Memory → WindowState → WindowState → ModelState → Type 0
ModelUnderWay (Entropy pool) zero m m' w w' model' = IsUnderWay entropy 0 Entropy pool m m' w w' model'
ModelUnderWay (Entropy pool) (suc q) m m' w w' model' = ⊥
ModelUnderWay (Network card) q m m' w w' model' = ServesAs Network (CardUnderWay card q m m' w w') model'
ModelUnderWay (Block disk) q m m' w w' model' = ServesAs Block (DiskUnderWay disk q m m' w w') model'
ModelUnderWay (Console terminal) q m m' w w' model' =
    ServesAs Console (TerminalUnderWay terminal q m m' w w') model'
ModelUnderWay (Image disk) q m m' w w' model' = ⊥

abbrev pub DeviceUnderWay : ℕ → Memory → Memory → DeviceState → DeviceState → Type 0
DeviceUnderWay q m m' d d' = ModelUnderWay d.model q m m' d.window d'.window d'.model

-- Some pieces of device n's service of its queue q were served, and the queue stands open.
abbrev pub DevicesUnderWay : ℕ → ℕ → Memory → Memory → List DeviceState → List DeviceState → Type 0
DevicesUnderWay n q m m' old new = At (DeviceUnderWay q) n m m' old new

-- ---- pieces of a card's service

abbrev CardPieces : ℕ → Pieces Card
CardPieces q stage budget progress card m m' w w' after = CardServesTo stage budget progress card q m m' w w' after

-- a piece of the receive queue that pauses, or goes on and pauses again
goes_on : (stage : Stage) (budget : Budget) (card : Card) (left : Passing) (m m' : Memory) (w w' : WindowState) (after : Card)
    (piece : ReceivesFramesTo stage budget More (with_waiting card left) m m' w w' after)
    → ServesTo stage receive_fitting budget 0 (queue_at 0 w) More m m' w w' left piece.left
goes_on stage budget card left m m' w w' after piece = elim piece.served [
  | inl fits ↦ fits
  | inr ends ↦ let done = ends.0 in absurd (cc (done))
]

receives : (card : Card) → Joins (CardPieces 0) card (CardUnderWay card 0) (ServesCard card 0)
receives card = record {
  once = λ budget m m' w w' after h.
      receives_whole First budget card start m m m' w w w' after
      (λ ending last completes. notified_once receive budget 0 (queue_at 0 w) ending m m' w w' start last completes) h;
  first = λ budget m m' w w' after h. record {
    left = h.left;
    way = underway.first receive 0 budget (piece_fits receive budget 0 m m' w w' start h.left First (queue_at 0 w) More
        (goes_on First budget card start m m' w w' after h));
    is = h.is;
  };
  again = λ budget m0 m1 m2 w0 w1 w2 now after u h.
      (let p = behind budget More u.left m1 m2 w1 w2 now after u.is h in
      record {
        left = p.left;
        way = underway.again receive 0 budget u.way (piece_fits receive budget 0 m1 m2 w1 w2 u.left p.left Next
            (queue_at 0 w1) More (goes_on Next budget card u.left m1 m2 w1 w2 after p));
        is = p.is;
      });
  ended = λ budget m0 m1 m2 w0 w1 w2 now after u h.
      receives_whole Next budget card u.left m0 m1 m2 w0 w1 w2 after
      (λ ending last finishes.
      underway.ended_so receive 0 budget ending m0 m1 m2 w0 w1 w2 start u.left last u.way finishes)
      (behind budget Done u.left m1 m2 w1 w2 now after u.is h);
  by_limit = λ stage budget m m' w w' after h.
      spends_limit receive_fitting budget 0 m m' w w' start h.left stage (queue_at 0 w)
      (goes_on stage budget card start m m' w w' after h);
  keeps = λ stage budget progress m m' w w' after h. elim h.served [
    | inl fits ↦ KeepsDevice-served receive_fitting budget 0 stage (queue_at 0 w) progress m m' w w' start h.left fits
    | inr ends ↦ KeepsDevice-refused receive budget 0 stage (queue_at 0 w) m m' w w' start ends.1.last ends.1.refused
  ];
}
  where
    start : Passing
    start = card.network.waiting

    behind : (budget : Budget) (progress : Progress) (left : Passing) (m m' : Memory) (w w' : WindowState)
        (now after : Card) → now ≡ with_waiting card left
        → ReceivesFramesTo Next budget progress now m m' w w' after
        → ReceivesFramesTo Next budget progress (with_waiting card left) m m' w w' after
    behind budget progress left m m' w w' now after is h =
        subst (λ (c : Card). ReceivesFramesTo Next budget progress c m m' w w' after) is h

card_joins : (card : Card) (q : ℕ) → Joins (CardPieces q) card (CardUnderWay card q) (ServesCard card q)
card_joins card zero = receives card
card_joins card (suc zero) =
    by_device (CardPieces 1) (transmit card_limits) 1 (with_sent card)
    (λ stage budget progress left m m' w w' after h. record { left = h.out; served = h.served; is = h.is })
    (sent_of card) (ServesCard card 1)
    (λ m m' w w' after left notified is. record { out = left; notified = notified; is = is })
card_joins card (suc (suc q)) =
    at_once (CardPieces (suc (suc q))) card (ServesCard card (suc (suc q)))
    (λ stage budget progress m m' w w' after h. h) (λ m m' w w' after h. nothing_keeps m m' w w' card after h)

-- ---- of a console's

abbrev TerminalPieces : ℕ → Pieces Terminal
TerminalPieces q stage budget progress terminal m m' w w' after =
    TerminalServesTo stage budget progress terminal q m m' w w' after

terminal_joins : (terminal : Terminal) (q : ℕ)
    → Joins (TerminalPieces q) terminal (TerminalUnderWay terminal q) (ServesTerminal terminal q)
terminal_joins terminal zero =
    by_device (TerminalPieces 0) console.receive 0 (with_pending terminal)
    (λ stage budget progress left m m' w w' after h. record { left = h.left; served = h.served; is = h.is })
    terminal.console.pending (ServesTerminal terminal 0)
    (λ m m' w w' after left notified is. record { left = left; notified = notified; is = is })
terminal_joins terminal (suc zero) =
    by_device (TerminalPieces 1) (console.transmit_within (Some terminal_limit)) 1 (with_output terminal)
    (λ stage budget progress left m m' w w' after h. record { left = h.out; served = h.served; is = h.is })
    terminal.waiting (ServesTerminal terminal 1)
    (λ m m' w w' after left notified is. record { out = left; notified = notified; is = is })
terminal_joins terminal (suc (suc q)) =
    at_once (TerminalPieces (suc (suc q))) terminal (ServesTerminal terminal (suc (suc q)))
    (λ stage budget progress m m' w w' after h. h) (λ m m' w w' after h. nothing_keeps m m' w w' terminal after h)

-- ---- of a disk's that its host serves

abbrev DiskPieces : ℕ → Pieces HostedDisk
DiskPieces q stage budget progress disk m m' w w' after = ServesDiskTo stage budget progress disk q m m' w w' after

disk_joins : (disk : HostedDisk) (q : ℕ) → Joins (DiskPieces q) disk (DiskUnderWay disk q) (ServesDisk disk q)
disk_joins disk q = record {
  once = λ budget m m' w w' after h. disk_once budget disk q m m' w w' after h;
  first = λ budget m m' w w' after h. disk_first budget disk q m m' w w' after h;
  again = λ budget m0 m1 m2 w0 w1 w2 now after u h. disk_again budget disk q m0 m1 m2 w0 w1 w2 now after u h;
  ended = λ budget m0 m1 m2 w0 w1 w2 now after u h. disk_ended budget disk q m0 m1 m2 w0 w1 w2 now after u h;
  by_limit = λ stage budget m m' w w' after h. disk_by_limit stage budget disk q m m' w w' after h;
  keeps = λ stage budget progress m m' w w' after h. disk_keeps stage budget progress disk q m m' w w' after h;
}

-- ---- of a device's, whichever it is

abbrev ModelPieces : ℕ → Pieces ModelState
ModelPieces q stage budget progress model m m' w w' after = ModelServesTo stage budget progress model q m m' w w' after

pub model_joins : (model : ModelState) (q : ℕ) → Joins (ModelPieces q) model (ModelUnderWay model q) (Serves model q)
model_joins (Entropy pool) zero =
    by_device (ModelPieces 0) entropy 0 Entropy
    (λ stage budget progress left m m' w w' after h. record { left = h.left; served = h.served; is = h.is })
    pool (Serves (Entropy pool) 0)
    (λ m m' w w' after left notified is. record { left = left; notified = notified; is = is })
model_joins (Entropy pool) (suc q) =
    at_once (ModelPieces (suc q)) (Entropy pool) (Serves (Entropy pool) (suc q))
    (λ stage budget progress m m' w w' after h. h)
    (λ m m' w w' after h. nothing_keeps m m' w w' (Entropy pool) after h)
model_joins (Network card) q =
    as_type Network (CardPieces q) (ModelPieces q) (λ stage budget progress now m m' w w' after h. h) card
    (CardUnderWay card q) (ServesCard card q) (card_joins card q)
model_joins (Block disk) q =
    as_type Block (DiskPieces q) (ModelPieces q) (λ stage budget progress now m m' w w' after h. h) disk
    (DiskUnderWay disk q) (ServesDisk disk q) (disk_joins disk q)
model_joins (Console terminal) q =
    as_type Console (TerminalPieces q) (ModelPieces q) (λ stage budget progress now m m' w w' after h. h) terminal
    (TerminalUnderWay terminal q) (ServesTerminal terminal q) (terminal_joins terminal q)
model_joins (Image disk) q =
    at_once (ModelPieces q) (Image disk) (Serves (Image disk) q) (λ stage budget progress m m' w w' after h. h)
    (λ m m' w w' after h. nothing_keeps m m' w w' (Image disk) after h)

-- ---- a list of devices

found_again : (l : List DeviceState) (n : ℕ) (x y : DeviceState) → slice_get l n ≡ Some x
    → slice_get (slice_set l n y) n ≡ Some y
found_again [] n x y there = absurd (cc (there))
found_again (z ∷ l) zero x y there = refl
found_again (z ∷ l) (suc n) x y there = found_again l n x y there

set_twice : (l : List DeviceState) (n : ℕ) (x y : DeviceState) → slice_set (slice_set l n x) n y ≡ slice_set l n y
set_twice [] n x y = refl
set_twice (z ∷ l) zero x y = refl
set_twice (z ∷ l) (suc n) x y = ap (λ (r : List DeviceState). z ∷ r) (set_twice l n x y)

abbrev Change : Type 1
Change = Memory → Memory → DeviceState → DeviceState → Type 0

-- two changes of one device, of which the other comes where the one left off
joined : (One Other Both : Change) (n : ℕ) (m0 m1 m2 : Memory) (l0 l1 l2 : List DeviceState)
    → ((d0 d1 d2 : DeviceState) → One m0 m1 d0 d1 → Other m1 m2 d1 d2 → Both m0 m2 d0 d2)
    → At One n m0 m1 l0 l1 → At Other n m1 m2 l1 l2 → At Both n m0 m2 l0 l2
joined One Other Both n m0 m1 m2 l0 l1 l2 join a b =
    let found : Some b.before ≡ Some a.after =
    sym b.there ∙ ap (λ (l : List DeviceState). slice_get l n) a.is ∙ found_again l0 n a.before a.after a.there in
    let same : b.before ≡ a.after = cc (found) in
    record {
      before = a.before;
      after = b.after;
      there = a.there;
      changes = join a.before a.after b.after a.changes
          (subst (λ (d : DeviceState). Other m1 m2 d b.after) same b.changes);
      is = b.is ∙ ap (λ (l : List DeviceState). slice_set l n b.after) a.is ∙ set_twice l0 n a.after b.after;
    }

at_so : (One Other : Change) (n : ℕ) (m m' : Memory) (old new : List DeviceState)
    → ((d d' : DeviceState) → One m m' d d' → Other m m' d d') → At One n m m' old new → At Other n m m' old new
at_so One Other n m m' old new so a = record {
  before = a.before;
  after = a.after;
  there = a.there;
  changes = so a.before a.after a.changes;
  is = a.is;
}

module _ (stage : Stage) (budget : Budget) (n q : ℕ) (m m' : Memory) (old new : List DeviceState) where
  -- what is served of a device that is there
  served_there : (progress : Progress) (d : DeviceState) → slice_get old n ≡ Some d
      → DevicesServeTo stage budget progress n q m m' old new
      → At (DeviceServesTo stage budget progress q) n m m' old new
  served_there progress d there h =
      subst (λ (found : Option DeviceState). ServesAny found stage budget progress n q m m' old new) there h

  -- one that pauses is there
  pauses_there : (found : Option DeviceState) → ServesAny found stage budget More n q m m' old new
      → At (DeviceServesTo stage budget More q) n m m' old new
  pauses_there None h = let done = h.done in absurd (cc (done))
  pauses_there (Some d) h = h

  pub pauses_by_limit : DevicesServeTo stage budget More n q m m' old new
      → (budget.chains ≢ None) ⊎ (budget.bytes ≢ None)
  pauses_by_limit h =
      let a = pauses_there (slice_get old n) h in
      (model_joins a.before.model q).by_limit stage budget m m' a.before.window a.after.window a.after.model a.changes

-- the first piece of a service that pauses
pub devices_first : (budget : Budget) (n q : ℕ) (m m' : Memory) (old new : List DeviceState)
    → DevicesServeTo First budget More n q m m' old new → DevicesUnderWay n q m m' old new
devices_first budget n q m m' old new h =
    at_so (DeviceServesTo First budget More q) (DeviceUnderWay q) n m m' old new
    (λ d d' changes. (model_joins d.model q).first budget m m' d.window d'.window d'.model changes)
    (pauses_there First budget n q m m' old new (slice_get old n) h)

-- one that goes on and pauses again
pub devices_again : (budget : Budget) (n q : ℕ) (m0 m1 m2 : Memory) (d0 d1 d2 : List DeviceState)
    → DevicesUnderWay n q m0 m1 d0 d1 → DevicesServeTo Next budget More n q m1 m2 d1 d2
    → DevicesUnderWay n q m0 m2 d0 d2
devices_again budget n q m0 m1 m2 d0 d1 d2 way h =
    joined (DeviceUnderWay q) (DeviceServesTo Next budget More q) (DeviceUnderWay q) n m0 m1 m2 d0 d1 d2
    (λ d now d' u piece. (model_joins d.model q).again budget m0 m1 m2 d.window now.window d'.window now.model
    d'.model u piece) way (pauses_there Next budget n q m1 m2 d1 d2 (slice_get d1 n) h)

-- and one that goes on to the end
pub devices_ended : (budget : Budget) (n q : ℕ) (m0 m1 m2 : Memory) (d0 d1 d2 : List DeviceState)
    → DevicesUnderWay n q m0 m1 d0 d1 → DevicesServeTo Next budget Done n q m1 m2 d1 d2
    → At (ServesDevice q) n m0 m2 d0 d2
devices_ended budget n q m0 m1 m2 d0 d1 d2 way h =
    joined (DeviceUnderWay q) (DeviceServesTo Next budget Done q) (ServesDevice q) n m0 m1 m2 d0 d1 d2
    (λ d now d' u piece. (model_joins d.model q).ended budget m0 m1 m2 d.window now.window d'.window now.model
    d'.model u piece) way
    (served_there Next budget n q m1 m2 d1 d2 Done way.after
    (ap (λ (l : List DeviceState). slice_get l n) way.is ∙ found_again d0 n way.before way.after way.there) h)

-- a service in one piece
pub devices_once : (budget : Budget) (n q : ℕ) (m m' : Memory) (old new : List DeviceState) (d : DeviceState)
    → slice_get old n ≡ Some d → DevicesServeTo First budget Done n q m m' old new
    → At (ServesDevice q) n m m' old new
devices_once budget n q m m' old new d there h =
    at_so (DeviceServesTo First budget Done q) (ServesDevice q) n m m' old new
    (λ d d' changes. (model_joins d.model q).once budget m m' d.window d'.window d'.model changes)
    (served_there First budget n q m m' old new Done d there h)

-- ---- a device that changed before

pub changed_so : (change : DeviceState → DeviceState) (n : ℕ) (old : List DeviceState) (d : DeviceState)
    → slice_get old n ≡ Some d → changed_at change n old ≡ slice_set old n (change d)
changed_so change n old d there =
    ap (λ (found : Option DeviceState). option_map_or (λ d. slice_set old n (change d)) found old) there

pub changed_there : (change : DeviceState → DeviceState) (n : ℕ) (old : List DeviceState) (d : DeviceState)
    → slice_get old n ≡ Some d → slice_get (changed_at change n old) n ≡ Some (change d)
changed_there change n old d there =
    ap (λ (l : List DeviceState). slice_get l n) (changed_so change n old d there)
    ∙ found_again old n d (change d) there

pub at_changed : (change : DeviceState → DeviceState) (q n : ℕ) (m m' : Memory) (old new : List DeviceState)
    (d : DeviceState) → slice_get old n ≡ Some d → At (ServesDevice q) n m m' (changed_at change n old) new
    → At (λ m m' d d'. ServesDevice q m m' (change d) d') n m m' old new
at_changed change q n m m' old new d there a =
    let found : Some a.before ≡ Some (change d) = sym a.there ∙ changed_there change n old d there in
    let same : a.before ≡ change d = cc (found) in
    record {
      before = d;
      after = a.after;
      there = there;
      changes = subst (λ (b : DeviceState). ServesDevice q m m' b a.after) same a.changes;
      is = a.is ∙ ap (λ (l : List DeviceState). slice_set l n a.after) (changed_so change n old d there)
          ∙ set_twice old n (change d) a.after;
    }
