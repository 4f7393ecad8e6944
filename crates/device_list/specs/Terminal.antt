-- A console among the further devices (5.3): a console device, and the output that its host hasn't taken.
use Rattle.std.specs.Prelude.{◌≡◌, ◌%◌, ◌^◌, ◌==◌, ◌&&◌, ℕ, zero, suc, nat_lt, if◌then◌else◌, Bool, Option, Some, None, List, [], ◌∷◌, ◌++◌, length, take}
use Rattle.guest_memory.specs.Memory.{Memory}
use Rattle.chain.specs.declared.budget.Budget.{Budget}
use Rattle.chain.specs.declared.budget.Progress.{Progress}
use Rattle.chain.specs.declared.budget.Progress.TheVariants.{Done}
use Rattle.mmio_window.specs.declared.stage.Stage.{Stage}
use Rattle.mmio_window.specs.Offering.{is_offered}
use Rattle.mmio_window.specs.Serving.{IsNotified, NothingHappens}
use Rattle.mmio_window.specs.Window.{WindowState, queue_at}
use Rattle.console_device.specs.Config.{emergency_write}
use Rattle.console_device.specs.Console.{Console}
use Rattle.console_device.specs.Device.{receive, transmit_within}
use Rattle.console_device.specs.Input.{fitting}
use Rattle.racing_service.specs.declared.service.Limits.{Limits}
use Rattle.served_memory.specs.World.{World, one_round, standing}

-- the device, and the output that waits for the host, the first bytes first
pub record Terminal : Type 0 where
  pub console : Console
  pub waiting : List ℕ

-- how many bytes of output may wait: this project's choice
abbrev pub terminal_limit : ℕ
terminal_limit = 65536

-- a console of this size, for which nothing waits
abbrev pub fresh_terminal : ℕ → ℕ → Terminal
fresh_terminal cols rows = record {
  console = record { pending = []; cols = cols; rows = rows };
  waiting = [];
}

-- ---- its host

-- the console with what was typed: the first bytes that fit are behind pending input
abbrev pub with_typed : List ℕ → Terminal → Terminal
with_typed bytes terminal = record terminal {
  console = record terminal.console {
    pending = terminal.console.pending ++ take (fitting terminal.console.pending bytes) bytes;
  };
}

-- the console of this size (5.3.4)
abbrev pub with_size : ℕ → ℕ → Terminal → Terminal
with_size cols rows terminal =
    record terminal { console = record terminal.console { cols = cols; rows = rows } }

-- all output that waits for the host, if any does
abbrev pub output_of : Terminal → Option (List ℕ)
output_of terminal = if length terminal.waiting == 0 then None else Some terminal.waiting

-- the console without it
abbrev pub without_output : Terminal → Terminal
without_output terminal = record terminal { waiting = [] }

-- ---- its driver

-- The byte of an emergency write (5.3.4) goes behind the output that waits. Without room it is lost.
abbrev pub with_emergency : ℕ → Terminal → Terminal
with_emergency byte terminal =
    if nat_lt (length terminal.waiting) terminal_limit
    then record terminal { waiting = terminal.waiting ++ byte ∷ [] }
    else terminal

-- The console once this value was written at this offset of its window's configuration: a byte at emerg_wr goes out, and
-- nothing else is written.
abbrev pub terminal_configured : ℕ → ℕ → Terminal → Terminal
terminal_configured offset value terminal =
    if offset == emergency_write then with_emergency (value % 2 ^ 8) terminal else terminal

-- Pending input goes into the chains on offer in the receive queue (5.3.6).
pub record ReceivesInput (terminal : Terminal) (m m' : Memory) (w w' : WindowState) (terminal' : Terminal) : Type 0 where
  pub left : List ℕ
  pub notified : IsNotified receive 0 (queue_at 0 w) m m' w w' terminal.console.pending left
  pub is : terminal' ≡ record terminal { console = record terminal.console { pending = left } }

-- The bytes of the chains on offer in the transmit queue go behind the output that waits (5.3.6). The first chain for
-- whose bytes there is no room stays on offer.
pub record TransmitsOutput (terminal : Terminal) (m m' : Memory) (w w' : WindowState) (terminal' : Terminal) : Type 0 where
  pub out : List ℕ
  pub notified : IsNotified (transmit_within (Some terminal_limit)) 1 (queue_at 1 w) m m' w w' terminal.waiting out
  pub is : terminal' ≡ record terminal { waiting = out }

-- what a console does whose queue of this number is notified
abbrev pub ServesTerminal : Terminal → ℕ → Memory → Memory → WindowState → WindowState → Terminal → Type 0
ServesTerminal terminal zero m m' w w' terminal' = ReceivesInput terminal m m' w w' terminal'
ServesTerminal terminal (suc zero) m m' w w' terminal' = TransmitsOutput terminal m m' w w' terminal'
ServesTerminal terminal (suc (suc q)) m m' w w' terminal' = NothingHappens m m' w w' terminal terminal'

-- ---- their pieces

-- A piece of a service of the receive queue: pending input goes into the chains on offer, and more of it may be to come.
pub record ReceivesInputIn (world : World) (stage : Stage) (limits : Limits) (progress : Progress) (terminal : Terminal)
    (m m' : world.Seen) (w w' : WindowState) (terminal' : Terminal) : Type 0 where
  pub left : List ℕ
  pub served : world.ServesTo receive stage limits 0 (queue_at 0 w) progress m m' w w' terminal.console.pending left
  pub is : terminal' ≡ record terminal { console = record terminal.console { pending = left } }

-- and one of the transmit queue
pub record TransmitsOutputIn (world : World) (stage : Stage) (limits : Limits) (progress : Progress) (terminal : Terminal)
    (m m' : world.Seen) (w w' : WindowState) (terminal' : Terminal) : Type 0 where
  pub out : List ℕ
  pub served : world.DoneTo (transmit_within (Some terminal_limit)) stage limits 1 (queue_at 1 w) progress m m' w w'
      terminal.waiting out
  pub is : terminal' ≡ record terminal { waiting = out }

abbrev pub TerminalServesIn : (world : World) → Stage → Limits → Progress → Terminal → ℕ → world.Seen → world.Seen
    → WindowState → WindowState → Terminal → Type 0
TerminalServesIn world stage limits progress terminal zero m m' w w' terminal' =
    ReceivesInputIn world stage limits progress terminal m m' w w' terminal'
TerminalServesIn world stage limits progress terminal (suc zero) m m' w w' terminal' =
    TransmitsOutputIn world stage limits progress terminal m m' w w' terminal'
TerminalServesIn world stage limits progress terminal (suc (suc q)) m m' w w' terminal' = (progress ≡ Done)
    × world.NothingHappens m m' w w' terminal terminal'

-- the same of a guest that stands still
abbrev pub TerminalServesTo : Stage → Budget → Progress → Terminal → ℕ → Memory → Memory → WindowState → WindowState
    → Terminal → Type 0
TerminalServesTo stage budget = TerminalServesIn standing stage (one_round budget)

-- whether a chain is on offer in the receive queue and no input is pending for it
abbrev pub is_terminal_starving : Terminal → Memory → WindowState → Bool
is_terminal_starving terminal m w = length terminal.console.pending == 0 && is_offered m (queue_at 0 w)
