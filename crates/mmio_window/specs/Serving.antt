-- One service of a queue as its driver sees it, for any device: the memory, the window, and behind them the
-- device's own state.
use Rattle.std.specs.Prelude.{◌≡◌, ℕ, Bool, if◌then◌else◌, Option, None, Some}
use Rattle.guest_memory.specs.Memory.{Memory}
use Rattle.chain.specs.declared.fault.Fault.{Fault}
use Rattle.chain.specs.Service.{Device, Ending, Spent, Faulted, Refused, Site, IsService}
use Rattle.mmio_window.specs.declared.queue.Queue.{Queue}
use Rattle.mmio_window.specs.Queue.{queue_kind}
use Rattle.mmio_window.specs.Window.{WindowState, with_ring, with_used_interrupt, with_reset_asked}

-- where a service stands: the guest's memory, the queue, and the device's state
abbrev pub site_at : {State : Type 0} → Memory → Queue → State → Site Queue State
site_at m queue state = record { memory = m; ring = queue; state = state }

-- why a service ends that isn't refused, by the fault that it met
abbrev pub ending_of : Option Fault → Ending
ending_of None = Spent
ending_of (Some fault) = Faulted fault

-- after a fault, and after nothing else, the device asks to be reset (2.1.2)
abbrev pub after_ending : Ending → WindowState → WindowState
after_ending Spent w = w
after_ending (Faulted fault) w = with_reset_asked w
after_ending Refused w = w

-- The interrupts of a service: a used buffer where a notification is wanted, and the reset that is asked for.
-- A service that is refused owes its driver the notification of the chains before.
abbrev pub after_service : Ending → Bool → WindowState → WindowState
after_service ending wanted w = after_ending ending (if wanted then with_used_interrupt w else w)

-- The device serves this queue of the window, which has the number q, once; and the service ends so.
pub record ServesQueue {State : Type 0} (device : Device State) (q : ℕ) (queue : Queue) (ending : Ending)
    (old new : Memory) (before after : WindowState) (s s' : State) : Type 0 where
  pub last : Queue
  pub wanted : Bool
  pub service : IsService queue_kind device (site_at old queue s) (site_at new last s') ending wanted
  pub window : after ≡ after_service ending wanted (with_ring q before last)

-- nothing happens
pub record NothingHappens {State : Type 0} (old new : Memory) (before after : WindowState)
    (s s' : State) : Type 0 where
  pub memory : new ≡ old
  pub window : after ≡ before
  pub state : s' ≡ s

-- What a notification of the queue q does, by the queue that the device may serve: there is one where the
-- window is live and the queue ready. Where there is none nothing happens, and no chain is on offer.
abbrev pub Notified : {State : Type 0} → Device State → ℕ → Option Queue → Ending → Memory → Memory
    → WindowState → WindowState → State → State → Type 0
Notified device q None ending old new before after s s' = (ending ≡ Spent)
    × NothingHappens old new before after s s'
Notified device q (Some queue) ending old new before after s s' =
    ServesQueue device q queue ending old new before after s s'

-- The same where nobody is told why the service ended.
pub record IsNotified {State : Type 0} (device : Device State) (q : ℕ) (queue : Option Queue)
    (old new : Memory) (before after : WindowState) (s s' : State) : Type 0 where
  pub ending : Ending
  pub notified : Notified device q queue ending old new before after s s'
