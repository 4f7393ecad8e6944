-- What a cache is seen as, once the sector that it lent is borrowed no more.
use Rattle.std.specs.Prelude.{◌≡◌, Result, OnOk, OnErr}
use Rattle.sector_cache.specs.Disk.{Disk, failed}

-- as it was, or with one failure more where none was lent
abbrev pub IsReadThrough : {X E : Type 0} → Result X E → (old new : Disk) → Type 0
IsReadThrough result old new = OnOk result (new ≡ old) × OnErr result (new ≡ failed old)
