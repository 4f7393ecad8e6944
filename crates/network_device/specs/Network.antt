-- A network device as its guest and its host see it between two events.
use Rattle.std.specs.Prelude.{ℕ, ◌+◌, ◌==◌, nat_lt, if◌then◌else◌, Option, Some, None, List, length}
use Rattle.network_device.specs.declared.configuration.NetworkConfiguration.{NetworkConfiguration}
use Rattle.network_device.specs.declared.limits.Limits.{Limits}
use Rattle.network_device.specs.declared.refusal.FrameRefusal.{FrameRefusal}
use Rattle.network_device.specs.declared.refusal.FrameRefusal.TheVariants.{Empty, TooLong, Full}
use Rattle.network_device.specs.Device.{Passing}
use Rattle.network_device.specs.Frames.{has_room}

-- its configuration; the frames that the host handed in and no chain has taken yet, with how many were dropped
-- of those, and how many may wait; and how many transmitted chains were dropped
pub record Network : Type 0 where
  pub configuration : NetworkConfiguration
  pub waiting : Passing
  pub limits : Limits
  pub dropped : ℕ

-- the header of Ethernet: two addresses and a type
abbrev pub ethernet_header_len : ℕ
ethernet_header_len = 14

-- Why the host's frame is refused, if it is. One that passes the MTU isn't handed to a driver (5.1.4.1).
abbrev pub refusal : Network → List ℕ → Option FrameRefusal
refusal network frame =
    if length frame == 0 then Some Empty
    else if nat_lt (network.configuration.mtu + ethernet_header_len) (length frame) then Some TooLong
    else if has_room network.limits network.waiting.frames (length frame) then None
    else Some Full
