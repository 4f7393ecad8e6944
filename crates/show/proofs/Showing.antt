-- What is shown of a replay, whose records went through a weaver.
use Rattle.std.proofs.Common.{ℕ, false, List, Option, Some, Result, Ok, Err, OnOk}
use Rattle.std.specs.Io.KnownBytes.{Keeps}
use Rattle.std.proofs.KnownBytes.{Appends-kept}
use Rattle.sector_cache.specs.Disk.{Disk}
use Rattle.calls.specs.Replayed.{HasRun}
use Rattle.calls.proofs.Running.{ran_more}
use Rattle.show.specs.Replaying.{ShowsRun}
use Rattle.show.specs.Woven.{records_of}
use Rattle.show.proofs.Weaving.{then_more}

shown : {A : Type 0} (input old first last new : Option (List ℕ)) (before after : Disk) → Keeps old first
    → HasRun A input first last before after
    → Keeps last new → HasRun A input old new before after
shown input old first last new before after p run q = record {
  trace = run.trace;
  read = run.read;
  ran =
      ran_more run.trace.slots run.trace.events before after _ _
      (λ text out. Appends-kept old last new text (then_more old first last text p out) q) run.ran;
}

pub shows : {A T E : Type 0} (outcome : Result T E) (text : List ℕ) (old new first last : Option (List ℕ))
    (before after : Disk) → Keeps (records_of false old) first
    → HasRun A (Some text) first last before after → OnOk outcome (Keeps last (records_of false new))
    → OnOk outcome (ShowsRun A text old new before)
shows (Ok done) text old new first last before after p run q =
    record { after = after; run = shown (Some text) _ first last _ before after p run q }
shows (Err fault) text old new first last before after p run q = tt
