-- Frames as they are saved, and how they are read again: how many there are, the length of each, and their bytes, the
-- oldest frame first.
use Rattle.std.specs.Prelude.{ℕ, ◌*◌, nat_le, nat_lt, Bool, if◌then◌else◌, Option, Some, None, List, ◌++◌, length, map, take, drop}
use Rattle.std.specs.Int.{Width, byte_len, from_le_bytes, to_le_bytes, w32}
use Rattle.std.specs.List.{concat, flat_map}
use Rattle.std.specs.Simd.{first_chunks}
use Rattle.network_device.specs.declared.limits.Limits.{Limits}
use Rattle.network_device.specs.Frames.{cut, sum_of}

-- numbers of 4 bytes, little-endian, one behind another
abbrev pub numbers : List ℕ → List ℕ
numbers ns = flat_map (to_le_bytes w32) ns

abbrev pub lens_of : List (List ℕ) → List ℕ
lens_of frames = map (λ frame. length frame) frames

abbrev pub saved_frames : List (List ℕ) → List ℕ
saved_frames frames = to_le_bytes w32 (length frames) ++ (numbers (lens_of frames) ++ concat frames)

-- ---- reading

-- A value is read from the front of bytes, and the bytes behind it are left. There is none where they can't be so.
abbrev pub Reader : Type 0 → Type 0
Reader A = List ℕ → Option (A × List ℕ)

infixl 10 ◌>>=◌
abbrev pub ◌>>=◌ : {A B : Type 0} → Option A → (A → Option B) → Option B
None >>= f = None
(Some x) >>= f = f x

-- so many bytes
abbrev pub bytes_at : ℕ → Reader (List ℕ)
bytes_at n bytes = if nat_lt (length bytes) n then None else Some (take n bytes, drop n bytes)

-- a number, little-endian
abbrev pub number_at : Width → Reader ℕ
number_at w bytes = do
  found ← bytes_at (byte_len w) bytes
  Some (from_le_bytes w found.0, found.1)

-- so many numbers of 4 bytes
abbrev pub numbers_at : ℕ → Reader (List ℕ)
numbers_at n bytes = do
  found ← bytes_at (4 * n) bytes
  Some (map (from_le_bytes w32) (first_chunks 4 n found.0), found.1)

-- a value that passes a test
abbrev pub tested : {A : Type 0} → (A → Bool) → Reader A → Reader A
tested test read bytes = do
  found ← read bytes
  if test found.0 then Some found else None

-- frames within these limits
abbrev pub frames_at : Limits → Reader (List (List ℕ))
frames_at limits bytes = do
  count ← tested (λ n. nat_le n limits.frames) (number_at w32) bytes
  lens ← tested (λ ns. nat_le (sum_of ns) limits.bytes) (numbers_at count.0) count.1
  all ← bytes_at (sum_of lens.0) lens.1
  Some (cut lens.0 all.0, all.1)
