-- The records that a weaver was given.
use Rattle.std.specs.Prelude.{ℕ, List, Option}
use Rattle.show.specs.Woven.{woven_records}
use Rattle.show.specs.declared.weave.weaver.Weaver.{Weaver}

-- those in what went out and what waits
abbrev pub weaver_records : {T W : Type 0} → (W → Option (List ℕ)) → Weaver T W → Option (List ℕ)
weaver_records contents weaver = woven_records contents weaver.woven
