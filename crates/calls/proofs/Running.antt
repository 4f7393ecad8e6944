-- What a replay that came to its end has run.
use Rattle.std.proofs.Common.{ℕ, List}
use Rattle.sector_cache.specs.Disk.{Disk}
use Rattle.board.specs.declared.event.Event.{Event}
use Rattle.board.specs.declared.spec.SlotSpec.{SlotSpec}
use Rattle.calls.specs.Replayed.{RanOver}

-- the same run, of whose text something else holds too
pub ran_more : {A : Type 0} (slots : List SlotSpec) (events : List (Event A)) (before after : Disk)
    (Old New : List ℕ → Type 0) → ((text : List ℕ) → Old text → New text)
    → RanOver slots events before after Old → RanOver slots events before after New
ran_more slots events before after Old New so run =
    record { told = run.told; ran = run.ran; output = so _ run.output }
