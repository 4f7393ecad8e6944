-- Places: how far in its ring a device has come, and the set of places that it passes in one go.
--
-- A split queue counts places modulo 65536, as the idx fields of its rings do (2.7.6, 2.7.8). A packed
-- queue of n descriptors counts them modulo 2n: n with a wrap counter of 1, then n with 0 (2.8.1).
use Rattle.std.specs.Prelude.{◌≡◌, ℕ, ◌+◌, ◌-◌, ◌%◌, ◌^◌, ◌<◌, nat_lt, if◌then◌else◌}

-- the idx fields of a split queue's rings, and so its places, count modulo this
abbrev pub idx_modulus : ℕ
idx_modulus = 2 ^ 16

-- the place to which so many steps lead from a place
abbrev pub place_ahead : ℕ → ℕ → ℕ → ℕ
place_ahead modulus place steps = (place + steps) % modulus

-- the place from which so many steps, at most one round, lead to a place
abbrev pub place_back : ℕ → ℕ → ℕ → ℕ
place_back modulus place steps = (place + (modulus - steps)) % modulus

-- a place is one of the count places from a place on, where places are counted modulo a number
pub record Passed (modulus from count place : ℕ) : Type 0 where
  pub steps : ℕ
  pub within : steps < count
  pub there : place ≡ place_ahead modulus from steps

-- the position in a packed ring of n descriptors that a place stands for
abbrev pub position_of : ℕ → ℕ → ℕ
position_of n place = place % n

-- the wrap counter of a place in a packed ring of n descriptors: 1 on the first run through it
abbrev pub wrap_counter_of : ℕ → ℕ → ℕ
wrap_counter_of n place = if nat_lt place n then 1 else 0
