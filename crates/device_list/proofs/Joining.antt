-- Pieces of a service of a queue, joined to one service, whichever device serves it.
use Rattle.std.proofs.Common.{◌≡◌, ◌≢◌, ◌⊎◌, ℕ, None, subst}
use Rattle.guest_memory.specs.Memory.{Memory}
use Rattle.chain.specs.declared.budget.Budget.{Budget}
use Rattle.chain.specs.declared.budget.Progress.{Progress}
use Rattle.chain.specs.declared.budget.Progress.TheVariants.{Done, More}
use Rattle.chain.specs.Service.{Device}
use Rattle.mmio_window.specs.declared.stage.Stage.{Stage}
use Rattle.mmio_window.specs.declared.stage.Stage.TheVariants.{First, Next}
use Rattle.mmio_window.specs.Pieces.{ServesTo}
use Rattle.mmio_window.specs.Serving.{IsNotified}
use Rattle.mmio_window.specs.Window.{WindowState, queue_at}
use Rattle.mmio_window.proofs.Devices.{KeepsDevice, KeepsDevice-served}
use Rattle.mmio_window.proofs.Underway as underway
use Rattle.mmio_window.proofs.Underway.{OnItsWay}
use Rattle.device_list.specs.Model.{ModelState, ServesAs}
use Rattle.device_list.proofs.Services as services

-- what is done to a device at its start, of which this comes
abbrev pub Deed : Type 0 → Type 1
Deed Whole = Memory → Memory → WindowState → WindowState → Whole → Type 0

-- a piece of its service, by the device as it is then
abbrev pub Pieces : Type 0 → Type 1
Pieces Whole = Stage → Budget → Progress → Whole → Deed Whole

-- Pieces of a service join to one, which is under way between them. One that pauses has spent a limit, and each leaves the
-- window its device's.
pub record Joins {Whole : Type 0} (Piece : Pieces Whole) (start : Whole) (UnderWay Serves : Deed Whole) : Type 0 where
  pub once : (budget : Budget) (m m' : Memory) (w w' : WindowState) (after : Whole)
      → Piece First budget Done start m m' w w' after → Serves m m' w w' after
  pub first : (budget : Budget) (m m' : Memory) (w w' : WindowState) (after : Whole)
      → Piece First budget More start m m' w w' after → UnderWay m m' w w' after
  pub again : (budget : Budget) (m0 m1 m2 : Memory) (w0 w1 w2 : WindowState) (now after : Whole)
      → UnderWay m0 m1 w0 w1 now → Piece Next budget More now m1 m2 w1 w2 after → UnderWay m0 m2 w0 w2 after
  pub ended : (budget : Budget) (m0 m1 m2 : Memory) (w0 w1 w2 : WindowState) (now after : Whole)
      → UnderWay m0 m1 w0 w1 now → Piece Next budget Done now m1 m2 w1 w2 after → Serves m0 m2 w0 w2 after
  pub by_limit : (stage : Stage) (budget : Budget) (m m' : Memory) (w w' : WindowState) (after : Whole)
      → Piece stage budget More start m m' w w' after → (budget.chains ≢ None) ⊎ (budget.bytes ≢ None)
  pub keeps : (stage : Stage) (budget : Budget) (progress : Progress) (m m' : Memory) (w w' : WindowState)
      (after : Whole) → Piece stage budget progress start m m' w w' after → KeepsDevice w w'

-- ---- one whose chains a device serves

-- A piece in which the chains are served so, and what is made of the state that is left is there afterwards.
pub record PieceBy {State Whole : Type 0} (stage : Stage) (budget : Budget) (progress : Progress) (device : Device State)
    (q : ℕ) (made : State → Whole) (start : State) (m m' : Memory) (w w' : WindowState) (after : Whole) : Type 0 where
  pub left : State
  pub served : ServesTo stage device budget q (queue_at q w) progress m m' w w' start left
  pub is : after ≡ made left

-- Some pieces of a queue's service were served, the queue stands open, and what is made of the state is this now.
pub record IsUnderWay {State Whole : Type 0} (device : Device State) (q : ℕ) (made : State → Whole) (start : State)
    (m m' : Memory) (w w' : WindowState) (now : Whole) : Type 0 where
  pub left : State
  pub way : OnItsWay device q m m' w w' start left
  pub is : now ≡ made left

module _ {State Whole : Type 0} (Piece : Pieces Whole) (device : Device State) (q : ℕ) (made : State → Whole)
    (piece : (stage : Stage) (budget : Budget) (progress : Progress) (left : State) (m m' : Memory) (w w' : WindowState)
    (after : Whole) → Piece stage budget progress (made left) m m' w w' after
    → PieceBy stage budget progress device q made left m m' w w' after) (start : State) (Serves : Deed Whole)
    (serves : (m m' : Memory) (w w' : WindowState) (after : Whole) (left : State)
    → IsNotified device q (queue_at q w) m m' w w' start left → after ≡ made left → Serves m m' w w' after) where
  -- a piece behind some
  next : (budget : Budget) (progress : Progress) (left : State) (m m' : Memory) (w w' : WindowState) (now after : Whole)
      → now ≡ made left → Piece Next budget progress now m m' w w' after
      → PieceBy Next budget progress device q made left m m' w w' after
  next budget progress left m m' w w' now after is h =
      piece Next budget progress left m m' w w' after
      (subst (λ (s : Whole). Piece Next budget progress s m m' w w' after) is h)

  pub by_device : Joins Piece (made start) (IsUnderWay device q made start) Serves
  by_device = record {
    once = λ budget m m' w w' after h.
        (let p = piece First budget Done start m m' w w' after h in
        serves m m' w w' after p.left
        (services.once device budget q m m' w w' start p.left (queue_at q w) p.served) p.is);
    first = λ budget m m' w w' after h.
        (let p = piece First budget More start m m' w w' after h in
        record { left = p.left; way = underway.first device q budget p.served; is = p.is });
    again = λ budget m0 m1 m2 w0 w1 w2 now after u h.
        (let p = next budget More u.left m1 m2 w1 w2 now after u.is h in
        record { left = p.left; way = underway.again device q budget u.way p.served; is = p.is });
    ended = λ budget m0 m1 m2 w0 w1 w2 now after u h.
        (let p = next budget Done u.left m1 m2 w1 w2 now after u.is h in
        serves m0 m2 w0 w2 after p.left (underway.ended device q budget u.way p.served) p.is);
    by_limit = λ stage budget m m' w w' after h.
        (let p = piece stage budget More start m m' w w' after h in
        services.spends_limit device budget q m m' w w' start p.left stage (queue_at q w) p.served);
    keeps = λ stage budget progress m m' w w' after h.
        (let p = piece stage budget progress start m m' w w' after h in
        KeepsDevice-served device budget q stage (queue_at q w) progress m m' w w' start p.left p.served);
  }

-- ---- one that is done at once

pub at_once : {Whole : Type 0} (Piece : Pieces Whole) (start : Whole) (Serves : Deed Whole)
    → ((stage : Stage) (budget : Budget) (progress : Progress) (m m' : Memory) (w w' : WindowState) (after : Whole)
    → Piece stage budget progress start m m' w w' after → (progress ≡ Done) × Serves m m' w w' after)
    → ((m m' : Memory) (w w' : WindowState) (after : Whole) → Serves m m' w w' after → KeepsDevice w w')
    → Joins Piece start (λ m m' w w' now. ⊥) Serves
at_once Piece start Serves piece keeps = record {
  once = λ budget m m' w w' after h. (piece First budget Done m m' w w' after h).1;
  first = λ budget m m' w w' after h. (let done = (piece First budget More m m' w w' after h).0 in absurd (cc (done)));
  again = λ budget m0 m1 m2 w0 w1 w2 now after u h. absurd u;
  ended = λ budget m0 m1 m2 w0 w1 w2 now after u h. absurd u;
  by_limit = λ stage budget m m' w w' after h.
      (let done = (piece stage budget More m m' w w' after h).0 in absurd (cc (done)));
  keeps = λ stage budget progress m m' w w' after h.
      keeps m m' w w' after (piece stage budget progress m m' w w' after h).1;
}

-- ---- one of a type of device

module _ {State : Type 0} (kind : State → ModelState) (Inner : Pieces State) (Piece : Pieces ModelState)
    (piece : (stage : Stage) (budget : Budget) (progress : Progress) (now : State) (m m' : Memory) (w w' : WindowState)
    (after : ModelState) → Piece stage budget progress (kind now) m m' w w' after
    → ServesAs kind (Inner stage budget progress now m m' w w') after)
    (start : State) (UnderWay Serves : Deed State) (joins : Joins Inner start UnderWay Serves) where
  next_as : (budget : Budget) (progress : Progress) (u : State) (m m' : Memory) (w w' : WindowState)
      (now after : ModelState) → now ≡ kind u → Piece Next budget progress now m m' w w' after
      → ServesAs kind (Inner Next budget progress u m m' w w') after
  next_as budget progress u m m' w w' now after is h =
      piece Next budget progress u m m' w w' after
      (subst (λ (s : ModelState). Piece Next budget progress s m m' w w' after) is h)

  pub as_type : Joins Piece (kind start) (λ m m' w w' now. ServesAs kind (UnderWay m m' w w') now)
      (λ m m' w w' after. ServesAs kind (Serves m m' w w') after)
  as_type = record {
    once = λ budget m m' w w' after h.
        (let p = piece First budget Done start m m' w w' after h in
        record { after = p.after; serves = joins.once budget m m' w w' p.after p.serves; is = p.is });
    first = λ budget m m' w w' after h.
        (let p = piece First budget More start m m' w w' after h in
        record { after = p.after; serves = joins.first budget m m' w w' p.after p.serves; is = p.is });
    again = λ budget m0 m1 m2 w0 w1 w2 now after u h.
        (let p = next_as budget More u.after m1 m2 w1 w2 now after u.is h in
        record {
          after = p.after;
          serves = joins.again budget m0 m1 m2 w0 w1 w2 u.after p.after u.serves p.serves;
          is = p.is;
        });
    ended = λ budget m0 m1 m2 w0 w1 w2 now after u h.
        (let p = next_as budget Done u.after m1 m2 w1 w2 now after u.is h in
        record {
          after = p.after;
          serves = joins.ended budget m0 m1 m2 w0 w1 w2 u.after p.after u.serves p.serves;
          is = p.is;
        });
    by_limit = λ stage budget m m' w w' after h.
        (let p = piece stage budget More start m m' w w' after h in
        joins.by_limit stage budget m m' w w' p.after p.serves);
    keeps = λ stage budget progress m m' w w' after h.
        (let p = piece stage budget progress start m m' w w' after h in
        joins.keeps stage budget progress m m' w w' p.after p.serves);
  }
