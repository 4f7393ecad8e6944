-- Where the queues of a guest stand, and another place for one of which nothing is in flight.
use Rattle.std.specs.Prelude.{ℕ, Bool, false, Option}
use Rattle.std.specs.Option.{option_map}
use Rattle.block_device.specs.Tags.{is_any}
use Rattle.racing_window.specs.Place.{place_at, window_moved}
use Rattle.racing_guest.specs.declared.reply.GuestQueue.{GuestQueue}
use Rattle.racing_guest.specs.declared.reply.GuestQueue.TheVariants.{Block, Receive, Transmit}
use Rattle.racing_guest.specs.Block.{RacingBlock}
use Rattle.racing_guest.specs.Console.{RacingConsole}
use Rattle.racing_guest.specs.Guest.{RacingGuest}

-- whether chains of a queue are in flight: only the block device leaves any
abbrev pub has_flights : GuestQueue → RacingGuest → Bool
has_flights Block guest = is_any guest.block.disk.tags
has_flights queue guest = false

-- where a queue stands, if its device may serve it
abbrev pub place_in : GuestQueue → RacingGuest → Option ℕ
place_in Block guest = place_at 0 guest.block.window
place_in Receive guest = place_at 0 guest.console.window
place_in Transmit guest = place_at 1 guest.console.window

-- a device with its queue at this place, if it may serve it and its ring has the place: all else of it stays
abbrev pub block_moved : ℕ → RacingBlock → Option RacingBlock
block_moved place block = option_map (λ w. record block { window = w }) (window_moved 0 place block.window)

abbrev pub console_moved : ℕ → ℕ → RacingConsole → Option RacingConsole
console_moved q place console = option_map (λ w. record console { window = w }) (window_moved q place console.window)

-- the guest with that queue there: its other device stays
abbrev pub guest_moved : GuestQueue → ℕ → RacingGuest → Option RacingGuest
guest_moved Block place guest = option_map (λ block. record guest { block = block }) (block_moved place guest.block)
guest_moved Receive place guest = option_map (λ console. record guest { console = console }) (console_moved 0 place guest.console)
guest_moved Transmit place guest = option_map (λ console. record guest { console = console }) (console_moved 1 place guest.console)
