-- How the reader goes from left to right: what its private functions give. What comes of it is said by
-- `IsSnapshot` and `IsFirstFault`; a public clause cites `Gives` of this file alone.
use Rattle.std.specs.Prelude.{◌≡◌, ◌==◌, ◌&&◌, ℕ, zero, suc, Bool, true, false, List, [], ◌∷◌, length, take, drop, Option, Some, None, Result, Ok, Err, nat_le, nat_lt, if◌then◌else◌}
use Rattle.std.specs.Int.{Width, w16, w32, w64, byte_len, from_le_bytes}
use Rattle.arrayvec.specs.ArrayVec.{ArrayVec}
use Rattle.mmio_window.specs.declared.interrupts.Interrupts.{Interrupts}
use Rattle.mmio_window.specs.declared.saved.Reached.{Reached}
use Rattle.mmio_window.specs.declared.saved.SavedNegotiation.{SavedNegotiation}
use Rattle.mmio_window.specs.declared.saved.SavedQueue.{SavedQueue}
use Rattle.mmio_window.specs.declared.saved.SavedSelectors.{SavedSelectors}
use Rattle.mmio_window.specs.declared.saved.SavedWindow.{SavedWindow}
use Rattle.snapshot.specs.declared.fault.Stop.{Stop}
use Rattle.snapshot.specs.declared.fault.Why.{Why}
use Rattle.snapshot.specs.declared.fault.Why.TheVariants.{Short, Magic, Version, Choice, TooMuchInput, Trailing}
use Rattle.snapshot.specs.declared.saved.SavedDevice.{SavedDevice}
use Rattle.snapshot.specs.declared.saved.SavedSlot.{SavedSlot}
use Rattle.snapshot.specs.Spelling.{magic}

infixl 10 ◌>>=◌
abbrev pub ◌>>=◌ : {A B : Type 0} → Result A Stop → (A → Result B Stop) → Result B Stop
(Ok x) >>= f = f x
(Err e) >>= f = Err e

-- what a function returned, seen by view, is what reading gives
abbrev pub Gives : {X Y E : Type 0} → (X → Y) → Result X E → Result Y E → Type 0
Gives view (Ok x) read = read ≡ Ok (view x)
Gives view (Err why) read = read ≡ Err why

-- a value is read from the front of bytes, and the bytes behind it are left
abbrev pub Reader : Type 0 → Type 0
Reader A = List ℕ → Result (A × List ℕ) Stop

-- what came of reading so from the front of the bytes old: the bytes new are left
abbrev pub Reads : {A : Type 0} → Reader A → List ℕ → Result A Stop → List ℕ → Type 0
Reads read old (Ok x) new = read old ≡ Ok (x, new)
Reads read old (Err why) new = read old ≡ Err why

-- one field behind another
infixr 20 ◌&◌
abbrev pub ◌&◌ : {A B : Type 0} → Reader A → Reader B → Reader (A × B)
(first & second) bytes = do
  a ← first bytes
  b ← second a.1
  Ok ((a.0, b.0), b.1)

-- one field behind another, which is read as the first says
infixr 20 ◌&>◌
abbrev pub ◌&>◌ : {A B : Type 0} → Reader A → (A → Reader B) → Reader (A × B)
(first &> second) bytes = do
  a ← first bytes
  b ← second a.0 a.1
  Ok ((a.0, b.0), b.1)

-- a value made of what is read
abbrev pub made : {A B : Type 0} → (A → B) → Reader A → Reader B
made make read bytes = do
  x ← read bytes
  Ok (make x.0, x.1)

-- reading stops at the field at the front of these bytes
abbrev pub stop : {A : Type 0} → Why → List ℕ → Result A Stop
stop why bytes = Err (record { why = why; left = length bytes })

-- ---- fields: each is a value and the bytes behind it

abbrev pub byte_at : Reader ℕ
byte_at [] = stop Short []
byte_at (byte ∷ rest) = Ok (byte, rest)

abbrev pub number_at : Width → Reader ℕ
number_at w bytes =
    if nat_lt (length bytes) (byte_len w) then stop Short bytes
    else Ok (from_le_bytes w (take (byte_len w) bytes), drop (byte_len w) bytes)

-- a number that passes a test
abbrev pub tested_at : Width → (ℕ → Bool) → Why → Reader ℕ
tested_at w test why bytes = do
  found ← number_at w bytes
  if test found.0 then Ok found else stop why bytes

-- a number that has one value
abbrev pub constant_at : Width → ℕ → Why → Reader ℕ
constant_at w n = tested_at w (λ found. found == n)

-- so many bytes
abbrev pub bytes_at : ℕ → Reader (List ℕ)
bytes_at n bytes = if nat_lt (length bytes) n then stop Short bytes else Ok (take n bytes, drop n bytes)

unfoldable pub flag_at : Reader Bool
flag_at [] = stop Short []
flag_at (zero ∷ rest) = Ok (false, rest)
flag_at (suc zero ∷ rest) = Ok (true, rest)
flag_at (suc (suc b) ∷ rest) = stop Choice (suc (suc b) ∷ rest)

unfoldable pub interrupts_at : Reader Interrupts
interrupts_at [] = stop Short []
interrupts_at (zero ∷ rest) = Ok (record { used_buffer = false; configuration_change = false }, rest)
interrupts_at (suc zero ∷ rest) = Ok (record { used_buffer = true; configuration_change = false }, rest)
interrupts_at (suc (suc zero) ∷ rest) = Ok (record { used_buffer = false; configuration_change = true }, rest)
interrupts_at (suc (suc (suc zero)) ∷ rest) =
    Ok (record { used_buffer = true; configuration_change = true }, rest)
interrupts_at (suc (suc (suc (suc b))) ∷ rest) = stop Choice (suc (suc (suc (suc b))) ∷ rest)

-- how far a queue is served
unfoldable pub served_at : Reader Reached
served_at =
    made (λ x. record { place = x.0; pending = x.1.0; used_count = x.1.1.0; ahead = x.1.1.1 })
    (number_at w16 & number_at w16 & number_at w16 & number_at w16)

unfoldable pub reached_at : Reader (Option Reached)
reached_at [] = stop Short []
reached_at (zero ∷ rest) = Ok (None, rest)
reached_at (suc zero ∷ rest) = made Some served_at rest
reached_at (suc (suc b) ∷ rest) = stop Choice (suc (suc b) ∷ rest)

-- ---- a window

unfoldable pub queue_at : Reader SavedQueue
queue_at =
    made (λ x. record {
      number = x.0;
      descriptor_area = x.1.0;
      driver_area = x.1.1.0;
      device_area = x.1.1.1.0;
      reached = x.1.1.1.1;
    }) (number_at w32 & number_at w64 & number_at w64 & number_at w64 & reached_at)

unfoldable pub negotiation_at : Reader SavedNegotiation
negotiation_at =
    made (λ x. record { offered = x.0; status = x.1.0; accepted = x.1.1 })
    (number_at w64 & byte_at & number_at w64)

unfoldable pub selectors_at : Reader SavedSelectors
selectors_at =
    made (λ x. record { device_features = x.0; driver_features = x.1.0; queue = x.1.1.0; shm = x.1.1.1 })
    (number_at w32 & number_at w32 & number_at w32 & number_at w32)

unfoldable pub window_at : Reader SavedWindow
window_at =
    made (λ x. record {
      negotiation = x.0.0;
      selectors = x.0.1;
      queue_0 = x.1.0.0;
      queue_1 = x.1.0.1;
      interrupts = x.1.1.0;
      config_generation = x.1.1.1;
    }) ((negotiation_at & selectors_at) & (queue_at & queue_at) & (interrupts_at & number_at w32))

-- ---- the further devices

unfoldable pub device_at : Reader SavedDevice
device_at =
    made (λ x. record {
      device_id = x.0;
      mac = x.1.0;
      mtu = x.1.1.0;
      sectors = x.1.1.1.0;
      identity = x.1.1.1.1.0;
      window = x.1.1.1.1.1;
    }) (number_at w32 & bytes_at 6 & number_at w16 & number_at w64 & bytes_at 20 & window_at)

-- so many devices
abbrev pub many_at : ℕ → Reader (List SavedDevice)
many_at zero bytes = Ok ([], bytes)
many_at (suc n) bytes = made (λ x. x.0 ∷ x.1) (device_at & many_at n) bytes

-- how many there are
abbrev pub device_count_at : Reader ℕ
device_count_at = tested_at w32 (λ n. nat_le 1 n && nat_le n 6) Choice

-- the devices of a snapshot that has some, or that has none
unfoldable pub devices_at : Bool → Reader (ArrayVec SavedDevice)
devices_at false bytes = Ok (record { items = [] }, bytes)
devices_at true bytes = made (λ x. record { items = x.1 }) (device_count_at &> many_at) bytes

-- ---- a slot

unfoldable pub slot_at : Bool → Reader SavedSlot
slot_at further =
    made (λ x. record {
      base = x.0.0;
      len = x.0.1.0;
      sectors = x.0.1.1;
      read_only = x.1.0.0;
      identity = x.1.0.1.0;
      cols = x.1.0.1.1.0;
      rows = x.1.0.1.1.1.0;
      on_hold = x.1.0.1.1.1.1;
      block = x.1.1.0;
      console = x.1.1.1.0;
      devices = x.1.1.1.1;
    })
    ((number_at w64 & number_at w64 & number_at w64)
    & (flag_at & bytes_at 20 & number_at w16 & number_at w16 & flag_at)
    & (window_at & window_at & devices_at further))

-- ---- the snapshot

-- how much input is pending
abbrev pub count_at : Reader ℕ
count_at = tested_at w32 (λ count. nat_le count 4096) TooMuchInput

-- the version: 1, 2 or 3
abbrev pub version_at : Reader ℕ
version_at = tested_at w32 (λ n. nat_le 1 n && nat_le n 3) Version

-- All that stands before the pending input: the slot, whether what waits stands behind the input, and how much input is
-- pending. The first version is of a slot without further devices, and only the third has what waits.
unfoldable pub head_at : Reader (SavedSlot × Bool × ℕ)
head_at =
    made (λ x. (x.1.1.0, x.1.0 == 3, x.1.1.1))
    (constant_at w64 magic Magic & (version_at &> (λ version. slot_at (nat_lt 1 version) & count_at)))

-- the same with the pending input
unfoldable pub front_at : Reader (SavedSlot × Bool × List ℕ)
front_at = made (λ x. (x.0.0, x.0.1, x.1)) (head_at &> (λ head. bytes_at head.2))

-- what waits, to the end, where the snapshot has it
abbrev pub waiting_at : Bool → List ℕ → Result (Option (List ℕ)) Stop
waiting_at true rest = Ok (Some rest)
waiting_at false [] = Ok None
waiting_at false (byte ∷ rest) = stop Trailing (byte ∷ rest)

unfoldable pub whole_at : List ℕ → Result (SavedSlot × List ℕ × Option (List ℕ)) Stop
whole_at bytes = do
  front ← front_at bytes
  waiting ← waiting_at front.0.1 front.1
  Ok (front.0.0, front.0.2, waiting)
