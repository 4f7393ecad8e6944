-- The header's version.
use Rattle.std.specs.Prelude.{ℕ, ◌+◌, ◌*◌}

-- the number of a major version, a minor one and a patch
abbrev pub version_number : ℕ → ℕ → ℕ → ℕ
version_number major minor patch = 10000 * major + 100 * minor + patch

-- 0.3.0
abbrev pub header_version : ℕ
header_version = version_number 0 3 0
