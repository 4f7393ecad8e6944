-- Access to a device's configuration (4.2.2.2): by widths of 1, 2 and 4, little-endian.
use Rattle.std.specs.Prelude.{ℕ, ◌+◌, ◌*◌, ◌%◌, ◌^◌, ◌==◌, ◌&&◌, ◌||◌, Bool, if◌then◌else◌, List, slice_index}

-- whether an access is answered: its width is 1, 2 or 4, and its offset a multiple of the width
abbrev pub is_configuration_access : ℕ → ℕ → Bool
is_configuration_access offset width = (width == 1 || width == 2 || width == 4) && offset % width == 0

-- the number in the bytes from a place on, as many as the width says; bytes past the end are 0
abbrev pub configuration_value : List ℕ → ℕ → ℕ → ℕ
configuration_value config at width =
    if width == 1 then slice_index config at
    else if width == 2 then slice_index config at + 2 ^ 8 * slice_index config (at + 1)
    else
    slice_index config at + 2 ^ 8 * slice_index config (at + 1)
    + 2 ^ 16 * slice_index config (at + 2) + 2 ^ 24 * slice_index config (at + 3)

-- a written value without its bits above the width
abbrev pub narrowed : ℕ → ℕ → ℕ
narrowed width value = if width == 1 then value % 2 ^ 8 else if width == 2 then value % 2 ^ 16 else value
