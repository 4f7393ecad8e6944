-- Frames that wait, whole and in order, within limits of bytes and of number.
use Rattle.std.specs.Prelude.{ℕ, ◌+◌, ◌≤◌, ◌&&◌, nat_lt, nat_le, Bool, List, [], ◌∷◌, length, take, drop}
use Rattle.network_device.specs.declared.limits.Limits.{Limits}

-- how many bytes these frames have
abbrev pub total : List (List ℕ) → ℕ
total [] = 0
total (frame ∷ frames) = length frame + total frames

-- whether one more frame of this length may wait behind these
abbrev pub has_room : Limits → List (List ℕ) → ℕ → Bool
has_room limits frames len =
    nat_lt (length frames) limits.frames && nat_le (total frames + len) limits.bytes

-- these frames may wait together
pub record IsWithin (limits : Limits) (frames : List (List ℕ)) : Type 0 where
  pub count : length frames ≤ limits.frames
  pub bytes : total frames ≤ limits.bytes

-- What waits in a store: the frames, the bytes of one that is begun, and the limits.
pub record Store : Type 0 where
  pub frames : List (List ℕ)
  pub begun : List ℕ
  pub limits : Limits

-- the sum of some lengths
abbrev pub sum_of : List ℕ → ℕ
sum_of [] = 0
sum_of (n ∷ lens) = n + sum_of lens

-- a run of bytes as frames of these lengths, one after another
abbrev pub cut : List ℕ → List ℕ → List (List ℕ)
cut [] bytes = []
cut (n ∷ lens) bytes = take n bytes ∷ cut lens (drop n bytes)
