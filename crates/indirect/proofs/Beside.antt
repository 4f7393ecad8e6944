-- Numbers that stand side by side in memory, written as one.
use Rattle.std.proofs.Common.{◌≡◌, ◌<◌, ℕ, ◌+◌, ◌*◌, ◌^◌, ◌++◌, arith, refl, sym, ap, ◌∙◌}
use Rattle.std.specs.Int.{byte_at}
use Rattle.byteorder.specs.Endian.{little_bytes}
use Rattle.guest_memory.specs.Memory.{Memory, Inside, put, put_num}
use Rattle.guest_memory.proofs.Ranges.{inside_part, inside_same, put-put, put_range}

-- the bytes of two numbers of 4 bytes each
bytes_of_two : (x y : ℕ) → x < 2 ^ 32 → little_bytes 8 (y * 2 ^ 32 + x) ≡ little_bytes 4 x ++ little_bytes 4 y
bytes_of_two x y below =
    let v = y * 2 ^ 32 + x in
    let a0 : byte_at 0 v ≡ byte_at 0 x = omega arith in
    let a1 : byte_at 1 v ≡ byte_at 1 x = omega arith in
    let a2 : byte_at 2 v ≡ byte_at 2 x = omega arith in
    let a3 : byte_at 3 v ≡ byte_at 3 x = omega arith in
    let b0 : byte_at 4 v ≡ byte_at 0 y = omega arith in
    let b1 : byte_at 5 v ≡ byte_at 1 y = omega arith in
    let b2 : byte_at 6 v ≡ byte_at 2 y = omega arith in
    let b3 : byte_at 7 v ≡ byte_at 3 y = omega arith in
    rw (a0, a1, a2, a3, b0, b1, b2, b3) refl

-- a write of 8 bytes writes both
pub two_beside : (m written : Memory) (a v x y : ℕ) → written ≡ put_num m a 8 v → v ≡ y * 2 ^ 32 + x
    → Inside m a 8 → x < 2 ^ 32 → written ≡ put_num (put_num m a 4 x) (a + 4) 4 y
two_beside m written a v x y is both inside below =
    is ∙ ap (put_num m a 8) both ∙ ap (put m a) (bytes_of_two x y below)
    ∙ sym (put-put m a (little_bytes 4 x) (little_bytes 4 y) inside)

-- the bytes of a number of 4 bytes and of two numbers of 2 bytes each
bytes_of_three : (x y z : ℕ) → x < 2 ^ 32 → y < 2 ^ 16
    → little_bytes 8 (z * 2 ^ 48 + y * 2 ^ 32 + x)
    ≡ little_bytes 4 x ++ (little_bytes 2 y ++ little_bytes 2 z)
bytes_of_three x y z first second =
    let v = z * 2 ^ 48 + y * 2 ^ 32 + x in
    let low : (byte_at 0 v ≡ byte_at 0 x) × (byte_at 1 v ≡ byte_at 1 x) × (byte_at 2 v ≡ byte_at 2 x)
    × (byte_at 3 v ≡ byte_at 3 x) = (omega arith, omega arith, omega arith, omega arith) in
    let high : (byte_at 4 v ≡ byte_at 0 y) × (byte_at 5 v ≡ byte_at 1 y) × (byte_at 6 v ≡ byte_at 0 z)
    × (byte_at 7 v ≡ byte_at 1 z) = (omega arith, omega arith, omega arith, omega arith) in
    rw (low.0, low.1, low.2, low.3, high.0, high.1, high.2, high.3) refl

-- a write of 8 bytes writes the three
pub three_beside : (m written : Memory) (a v x y z : ℕ) → written ≡ put_num m a 8 v
    → v ≡ z * 2 ^ 48 + y * 2 ^ 32 + x → Inside m a 8 → x < 2 ^ 32 → y < 2 ^ 16
    → written ≡ put_num (put_num (put_num m a 4 x) (a + 4) 2 y) (a + 4 + 2) 2 z
three_beside m written a v x y z is all inside first second =
    let xs = little_bytes 4 x in
    let ys = little_bytes 2 y in
    let zs = little_bytes 2 z in
    let behind : Inside (put m a xs) (a + 4) 4 =
    inside_same m (put m a xs) (a + 4) 4 (put_range m a xs)
    (inside_part inside (omega arith) (omega arith)) in
    is ∙ ap (put_num m a 8) all ∙ ap (put m a) (bytes_of_three x y z first second)
    ∙ sym (put-put m a xs (ys ++ zs) inside) ∙ sym (put-put (put m a xs) (a + 4) ys zs behind)
