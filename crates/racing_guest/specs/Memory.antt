-- Whether a guest can stand over another memory.
use Rattle.std.specs.Prelude.{◌&&◌, Bool}
use Rattle.guest_memory.specs.Memory.{Memory}
use Rattle.racing_window.specs.Memory.{window_fits}
use Rattle.racing_guest.specs.Guest.{RacingGuest}

-- whether each of its ready queues could be made ready there once more (4.2.2)
abbrev pub guest_fits : Memory → RacingGuest → Bool
guest_fits m guest = window_fits m guest.block.window && window_fits m guest.console.window
