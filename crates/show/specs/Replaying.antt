-- What is shown of a replay.
use Rattle.std.specs.Prelude.{ℕ, false, List, Option, Some}
use Rattle.sector_cache.specs.Disk.{Disk}
use Rattle.calls.specs.Replayed.{HasRun}
use Rattle.show.specs.Woven.{records_of}

-- The records in what was put out are those of a replay of this text that came to its end: of a run on the
-- board of the one trace with that text.
pub record ShowsRun (A : Type 0) (text : List ℕ) (old new : Option (List ℕ)) (before : Disk) : Type 0 where
  pub after : Disk
  pub run : HasRun A (Some text) (records_of false old) (records_of false new) before after
