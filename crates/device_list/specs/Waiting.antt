-- What waits in the devices: how it is saved, and the devices that take it up again.
use Rattle.std.specs.Prelude.{◌≡◌, ℕ, zero, suc, nat_le, Bool, true, false, if◌then◌else◌, Option, Some, None, List, [], ◌∷◌, ◌++◌, length}
use Rattle.std.specs.Int.{to_le_bytes, w16, w32, w64}
use Rattle.std.specs.List.{AllZip}
use Rattle.std.specs.Option.{option_map}
use Rattle.hosted_disk.specs.Disk.{HostedDisk}
use Rattle.network_device.specs.Device.{passing}
use Rattle.network_device.specs.Saved.{◌>>=◌, Reader, bytes_at, frames_at, number_at, saved_frames, tested}
use Rattle.device_list.specs.Card.{Card, card_limits}
use Rattle.device_list.specs.Device.{DeviceState}
use Rattle.device_list.specs.declared.card.saved.SavedCard.{SavedCard}
use Rattle.device_list.specs.Model.{ModelState, Block, Console, Entropy, Image, Network, kind_of}
use Rattle.device_list.specs.Terminal.{Terminal, fresh_terminal, terminal_limit}

-- ---- bytes

-- bytes behind their count
abbrev pub counted : List ℕ → List ℕ
counted bytes = to_le_bytes w32 (length bytes) ++ bytes

-- 0 for no, and 1 for yes
abbrev pub flag : Bool → List ℕ
flag on = (if on then 1 else 0) ∷ []

-- What waits in a card: its link, how many frames of its host and how many chains of its driver were dropped, and the
-- frames to each.
pub record CardWaits : Type 0 where
  pub link_up : Bool
  pub of_host : ℕ
  pub of_driver : ℕ
  pub to_driver : List (List ℕ)
  pub to_host : List (List ℕ)

abbrev pub card_waits : Card → CardWaits
card_waits card = record {
  link_up = card.network.configuration.link_up;
  of_host = card.network.waiting.dropped;
  of_driver = card.network.dropped;
  to_driver = card.network.waiting.frames;
  to_host = card.sent;
}

abbrev pub card_bytes : CardWaits → List ℕ
card_bytes waits =
    flag waits.link_up
    ++ (to_le_bytes w64 waits.of_host
    ++ (to_le_bytes w64 waits.of_driver ++ (saved_frames waits.to_driver ++ saved_frames waits.to_host)))

-- a console's size, its pending input and its output
abbrev pub waiting_in_terminal : Terminal → List ℕ
waiting_in_terminal terminal =
    to_le_bytes w16 terminal.console.cols
    ++ (to_le_bytes w16 terminal.console.rows
    ++ (counted terminal.console.pending ++ counted terminal.waiting))

-- what waits in a device: of a disk whether it is on hold, which one over the image never is
abbrev pub waiting_in : ModelState → List ℕ
waiting_in (Entropy pool) = counted pool
waiting_in (Network card) = card_bytes (card_waits card)
waiting_in (Block disk) = flag disk.on_hold
waiting_in (Console terminal) = waiting_in_terminal terminal
waiting_in (Image disk) = flag false

abbrev pub each_waiting : List DeviceState → List ℕ
each_waiting [] = []
each_waiting (d ∷ ds) = waiting_in d.model ++ each_waiting ds

-- what waits in the devices, if there are any
abbrev pub waiting_of : List DeviceState → Option (List ℕ)
waiting_of [] = None
waiting_of (d ∷ ds) = Some (each_waiting (d ∷ ds))

-- ---- a device that has something else waiting

abbrev pub card_with : CardWaits → Card → Card
card_with waits card = record {
  network = record card.network {
    configuration = record card.network.configuration { link_up = waits.link_up };
    waiting = passing waits.to_driver waits.of_host;
    dropped = waits.of_driver;
  };
  sent = waits.to_host;
}

abbrev pub terminal_with : ℕ → ℕ → List ℕ → List ℕ → Terminal
terminal_with cols rows pending output =
    record { console = record { pending = pending; cols = cols; rows = rows }; waiting = output }

abbrev pub disk_with : Bool → HostedDisk → HostedDisk
disk_with on_hold disk = record disk { on_hold = on_hold }

-- the second device with what waits in the first, where they are of one type
abbrev pub with_waiting_of : ModelState → ModelState → ModelState
with_waiting_of (Entropy pool) (Entropy other) = Entropy pool
with_waiting_of (Network card) (Network other) = Network (card_with (card_waits card) other)
with_waiting_of (Block disk) (Block other) = Block (disk_with disk.on_hold other)
with_waiting_of (Image disk) (Block other) = Block (disk_with false other)
with_waiting_of (Console terminal) (Console other) = Console terminal
with_waiting_of model other = other

abbrev pub with_waiting_of_each : List DeviceState → List DeviceState → List DeviceState
with_waiting_of_each (d ∷ ds) (e ∷ es) =
    record e { model = with_waiting_of d.model e.model } ∷ with_waiting_of_each ds es
with_waiting_of_each ds es = es

abbrev pub nothing_in_card : CardWaits
nothing_in_card = record { link_up = true; of_host = 0; of_driver = 0; to_driver = []; to_host = [] }

-- The device as it was made, but for a console's size: nothing waits in it, its link is up, and it isn't on hold.
abbrev pub emptied : ModelState → ModelState
emptied (Entropy pool) = Entropy []
emptied (Network card) = Network (card_with nothing_in_card card)
emptied (Block disk) = Block (disk_with false disk)
emptied (Console terminal) = Console (fresh_terminal 0 0)
emptied (Image disk) = Image disk

-- both are of one type of device, whoever serves a disk
abbrev pub AreOfOneType : ModelState → ModelState → Type 0
AreOfOneType one other = kind_of one ≡ kind_of other

-- as many devices, each of the other's type
abbrev pub AreOfTypes : List DeviceState → List DeviceState → Type 0
AreOfTypes devices others = AllZip (λ d e. AreOfOneType d.model e.model) devices others

-- as many devices, each as the other was made
abbrev pub AreMadeAlike : List DeviceState → List DeviceState → Type 0
AreMadeAlike devices others = AllZip (λ d e. emptied d.model ≡ emptied e.model) devices others

-- ---- reading

-- what came of reading so from the front of the bytes old: the bytes new are left
abbrev pub Reads : {X A : Type 0} → Reader A → (X → A) → List ℕ → Option X → List ℕ → Type 0
Reads read view old (Some x) new = read old ≡ Some (view x, new)
Reads read view old None new = read old ≡ None

-- the same where the value isn't wanted
abbrev pub ReadsPast : {X A : Type 0} → Reader A → List ℕ → Option X → List ℕ → Type 0
ReadsPast read old (Some x) new = option_map (λ found. found.1) (read old) ≡ Some new
ReadsPast read old None new = read old ≡ None

-- one value behind another
infixr 20 ◌&◌
abbrev pub ◌&◌ : {A B : Type 0} → Reader A → Reader B → Reader (A × B)
(first & second) bytes = do
  x ← first bytes
  y ← second x.1
  Some ((x.0, y.0), y.1)

-- a value made of what is read
abbrev pub made : {A B : Type 0} → (A → B) → Reader A → Reader B
made make read bytes = do
  x ← read bytes
  Some (make x.0, x.1)

abbrev pub flag_at : Reader Bool
flag_at (zero ∷ rest) = Some (false, rest)
flag_at (suc zero ∷ rest) = Some (true, rest)
flag_at bytes = None

-- at most so many bytes, behind their count
abbrev pub counted_at : ℕ → Reader (List ℕ)
counted_at most bytes = do
  count ← tested (λ n. nat_le n most) (number_at w32) bytes
  bytes_at count.0 count.1

-- what waits in a card, as a reader found it
abbrev pub waits_of : SavedCard → CardWaits
waits_of saved = record {
  link_up = saved.link_up;
  of_host = saved.dropped.0;
  of_driver = saved.dropped.1;
  to_driver = saved.to_driver;
  to_host = saved.to_host;
}

abbrev pub card_at : Reader CardWaits
card_at =
    made (λ x. record {
      link_up = x.0;
      of_host = x.1.0;
      of_driver = x.1.1.0;
      to_driver = x.1.1.1.0;
      to_host = x.1.1.1.1;
    }) (flag_at & number_at w64 & number_at w64 & frames_at card_limits & frames_at card_limits)

abbrev pub terminal_at : Reader Terminal
terminal_at =
    made (λ x. terminal_with x.0 x.1.0 x.1.1.0 x.1.1.1)
    (number_at w16 & number_at w16 & counted_at 4096 & counted_at terminal_limit)

-- The device with what these bytes say of it, and the bytes behind that. There is none where they can't be so.
abbrev pub refilled : ModelState → Reader ModelState
refilled (Entropy pool) = made Entropy (counted_at 4096)
refilled (Network card) = made (λ waits. Network (card_with waits card)) card_at
refilled (Block disk) = made (λ on_hold. Block (disk_with on_hold disk)) flag_at
refilled (Console terminal) = made Console terminal_at
refilled (Image disk) = made (λ on_hold. Image disk) flag_at

-- each device in turn
abbrev pub refilled_each : List DeviceState → Reader (List DeviceState)
refilled_each [] bytes = Some ([], bytes)
refilled_each (d ∷ ds) bytes =
    made (λ x. record d { model = x.0 } ∷ x.1) (refilled d.model & refilled_each ds) bytes

-- a value behind which nothing is left
abbrev pub whole : {A : Type 0} → Option (A × List ℕ) → Option A
whole None = None
whole (Some (x, [])) = Some x
whole (Some (x, byte ∷ rest)) = None

-- Each device with what these bytes say of it, behind which nothing is left. Without bytes the devices are as they were.
abbrev pub refilled_devices : Option (List ℕ) → List DeviceState → Option (List DeviceState)
refilled_devices None devices = Some devices
refilled_devices (Some bytes) devices = whole (refilled_each devices bytes)
