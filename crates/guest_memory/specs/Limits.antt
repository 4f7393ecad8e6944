-- Which memories a guest may have. The standard leaves both to the machine; they are this project's choice.
use Rattle.std.specs.Prelude.{◌≡◌, ℕ, ◌+◌, ◌%◌, ◌^◌, ◌≤◌}

-- a size in bytes: whole pages of 4096, at least one, and at most 2^46 bytes in all
pub record IsSize (len : ℕ) : Type 0 where
  pub least : 4096 ≤ len
  pub most : len ≤ 2 ^ 46
  pub whole : len % 4096 ≡ 0

-- a base for that many bytes: at a page's border, and the last byte has an address of 64 bits
pub record IsBase (base len : ℕ) : Type 0 where
  pub aligned : base % 4096 ≡ 0
  pub below : base + len ≤ 2 ^ 64
