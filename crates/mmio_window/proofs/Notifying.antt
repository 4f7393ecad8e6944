-- What a write to QueueNotify may change.
use Rattle.std.proofs.Common.{◌≡◌, ℕ, Bool, true, false, cond, refl}
use Rattle.std.specs.Prelude.{is_some}
use Rattle.mmio_window.specs.declared.action.Action.{Action}
use Rattle.mmio_window.specs.declared.action.Action.TheVariants.{Notify, None}
use Rattle.mmio_window.specs.Notifying.{NextPlaceIsIgnored, NotificationKeepsRegisters}
use Rattle.mmio_window.specs.Window.{WindowState, queue_at}

-- a notification of the queue that a bit chooses the name of, by the name
notifies : WindowState → ℕ → Action
notifies w q = cond (is_some (queue_at q w)) (Notify q) None

chosen : (w : WindowState) (low : Bool) (half half' whole whole' : ℕ) → low ≡ true → half ≡ half'
    → notifies w (cond low half whole) ≡ notifies w (cond low half' whole')
chosen w true half half' whole whole' is same = cc
chosen w false half half' whole whole' is same = cc

pub next_place_is_ignored : NextPlaceIsIgnored
unfolding notifies
next_place_is_ignored w first second taken same = chosen w _ _ _ first second taken same

pub notification_keeps_registers : NotificationKeepsRegisters
notification_keeps_registers w value m = refl
