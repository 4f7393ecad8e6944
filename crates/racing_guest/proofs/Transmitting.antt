-- What a service of the console's queues comes to, by whether the device may serve them.
use Rattle.std.proofs.Common.{◌≡◌, ◌∙◌, ℕ, Bool, Option, Some, None, List, refl, sym, ap, subst}
use Rattle.std.specs.Prelude.{IsSome}
use Rattle.guest_memory.specs.Memory.{Memory, SameRange}
use Rattle.chain.specs.declared.budget.Budget.{Budget}
use Rattle.chain.specs.declared.segment.Buffer.{Buffer}
use Rattle.chain.specs.Service.{Device}
use Rattle.mmio_window.specs.declared.queue.Queue.{Queue}
use Rattle.mmio_window.specs.declared.queue.Token.{Token}
use Rattle.mmio_window.specs.declared.queue.Queue.TheVariants.{Split, Packed}
use Rattle.mmio_window.specs.Queue.{entry_of, made_as, queue_kind}
use Rattle.mmio_window.specs.Soundness.{IsSound}
use Rattle.mmio_window.proofs.Soundness.{serving_keeps_sound}
use Rattle.mmio_window.specs.Window.{WindowState, queue_at, with_ring}
use Rattle.mmio_window.proofs.Pieces.{queue_stands_open}
use Rattle.shared_memory.specs.Sightings.{Sightings}
use Rattle.console_device.specs.declared.no_memory.NoMemory.{NoMemory}
use Rattle.console_device.specs.Device.{transmit_within}
use Rattle.racing_service.specs.declared.service.Limits.{Limits}
use Rattle.racing_service.specs.declared.service.Refused.{Refused}
use Rattle.console_device.specs.Output.{NoRoom}
use Rattle.racing_window.specs.Serving.{IsLeft}
use Rattle.racing_guest.specs.Console.{ClosesLeft, TransmitsUpTo}

-- a chain that is left stands in a queue which the device may serve
there_by : {State E : Type 0} (device : Device State) (Refuses : State → List ℕ → List Buffer → E → Type 0)
    (found : Option Queue) (races : Bool) (most q : ℕ) (budget : Budget) (buffers : List Buffer)
    (refused : Refused Token E) (old new : Sightings) (w w' : WindowState) (s s' : State) → queue_at q w ≡ found
    → IsLeft device Refuses races most q budget found buffers refused old new w w' s s' → IsSome (queue_at q w')
there_by device Refuses None races most q budget buffers refused old new w w' s s' is left = absurd left
there_by device Refuses (Some queue) races most q budget buffers refused old new w w' s s' is left =
    rw (left.window, queue_stands_open q w queue left.last is) refl

pub left_is_there : {State E : Type 0} (device : Device State) (Refuses : State → List ℕ → List Buffer → E → Type 0)
    (races : Bool) (most q : ℕ) (budget : Budget) (buffers : List Buffer) (refused : Refused Token E)
    (old new : Sightings) (w w' : WindowState) (s s' : State)
    → IsLeft device Refuses races most q budget (queue_at q w) buffers refused old new w w' s s' → IsSome (queue_at q w')
left_is_there device Refuses races most q budget buffers refused old new w w' s s' left =
    there_by device Refuses (queue_at q w) races most q budget buffers refused old new w w' s s' refl left

-- ---- a transmit that finds no room

module _ (races : Bool) (limits : Limits) (limit : Option ℕ) (old stopped new : Sightings) (w v w' : WindowState)
    (out out' : List ℕ) (buffers : List Buffer) (refused : Refused Token NoMemory) where
  closed_left : (queue : Queue) (found : Option Queue) → queue_at 1 v ≡ Some queue → queue_at 1 v ≡ found
      → ClosesLeft races found refused.wanted stopped new v w' → ClosesLeft races (Some queue) refused.wanted stopped new v w'
  closed_left queue found is same closes =
      subst (λ (o : Option Queue). ClosesLeft races o refused.wanted stopped new v w') (sym same ∙ is) closes

  up_to_by : (found : Option Queue) → queue_at 1 w ≡ found
      → IsLeft (transmit_within limit) (NoRoom limit) races limits.rounds 1 limits.budget found buffers refused old stopped w v
      out out' → ClosesLeft races (queue_at 1 v) refused.wanted stopped new v w'
      → TransmitsUpTo races limits limit found old new w w' out out'
  up_to_by None is left closes = left
  up_to_by (Some queue) is left closes =
      let there : queue_at 1 v ≡ Some left.last =
      ap (λ (u : WindowState). queue_at 1 u) left.window ∙ queue_stands_open 1 w queue left.last is in
      record {
        stopped = stopped;
        last = left.last;
        left = refused.left;
        buffers = buffers;
        entry = entry_of refused.token;
        why = refused.why;
        asked = refused.wanted;
        service = left.service;
        closes = subst (λ (u : WindowState). ClosesLeft races (Some left.last) refused.wanted stopped new u w') left.window
            (closed_left left.last (queue_at 1 v) there refl closes);
      }

  pub transmits_up_to :
      IsLeft (transmit_within limit) (NoRoom limit) races limits.rounds 1 limits.budget (queue_at 1 w) buffers refused old
      stopped w v out out' → ClosesLeft races (queue_at 1 v) refused.wanted stopped new v w'
      → TransmitsUpTo races limits limit (queue_at 1 w) old new w w' out out'
  transmits_up_to left closes = up_to_by (queue_at 1 w) refl left closes

-- ---- the closing itself

made_shut : (queue : Queue) → made_as (queue_kind.shut queue) ≡ made_as queue
made_shut (Split ring) = refl
made_shut (Packed ring) = refl

pub closed_sound : (m n : Memory) (w w' : WindowState) (queue first shut last : Queue) → IsSound m w → SameRange m n
    → Some queue ≡ queue_at 1 w → first ≡ queue → shut ≡ queue_kind.shut first → last ≡ shut
    → (IsSound n (with_ring 1 w last) → IsSound n w') → IsSound n w'
closed_sound m n w w' queue first shut last sound same is made_first shuts made_last keeps =
    keeps (serving_keeps_sound m n w 1 queue last sound same (sym is)
    (ap made_as made_last ∙ ap made_as shuts ∙ made_shut first ∙ ap made_as made_first))
