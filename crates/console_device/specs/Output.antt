-- What a service of the transmit queue puts out, and what it leaves.
use Rattle.std.specs.Prelude.{◌≡◌, ◌≢◌, Bool, ℕ, Option, List, [], ◌++◌, length}
use Rattle.guest_memory.specs.Memory.{Memory}
use Rattle.chain.specs.declared.segment.Buffer.{Buffer}
use Rattle.chain.specs.Bytes.{writable_of}
use Rattle.chain.specs.Service.{Device, Kind, Ending, Refused, IsService}
use Rattle.mmio_window.specs.declared.queue.Queue.{Queue}
use Rattle.mmio_window.specs.Serving.{Notified}
use Rattle.mmio_window.specs.Window.{WindowState}
use Rattle.console_device.specs.declared.no_memory.NoMemory.{NoMemory}
use Rattle.console_device.specs.Device.{transmit, transmit_within}

-- A service puts these bytes out behind what stood there before: they are those of the same service into an
-- empty output.
pub record PutsOut {Ring : Type 0} (kind : Kind Ring) (old new : Memory) (ring last : Ring)
    (before after : List ℕ) (ending : Ending) (wanted : Bool) : Type 0 where
  pub sent : List ℕ
  pub behind : after ≡ before ++ sent
  pub service : IsService kind transmit (record { memory = old; ring = ring; state = [] })
      (record { memory = new; ring = last; state = sent }) ending wanted

-- A notification of a queue whose service was not refused.
pub record IsUnrefused {State : Type 0} (device : Device State) (q : ℕ) (queue : Option Queue)
    (old new : Memory) (before after : WindowState) (s s' : State) : Type 0 where
  pub ending : Ending
  pub unrefused : ending ≢ Refused
  pub notified : Notified device q queue ending old new before after s s'

-- an outlet with this limit may refuse these readable bytes behind those that wait in it
abbrev pub NoRoom : Option ℕ → List ℕ → List ℕ → List Buffer → NoMemory → Type 0
NoRoom limit out readable buffers why = (transmit_within limit).LacksMemory out readable (length (writable_of buffers))
