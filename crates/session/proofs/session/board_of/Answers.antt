-- A board that is there was not to be refused.
use Rattle.std.proofs.Common.{◌∙◌, ap}
use Rattle.sector_cache.specs.Disk.{Disk}
use Rattle.session.proofs.Refusals.{asked}
use Rattle.session.proofs.session.board_of.Goals as goal

pub returns-in-Ok-new-clause-bad_board : goal.returns-in-Ok-new-clause-bad_board
returns-in-Ok-new-clause-bad_board g c = λ fault other refused.
    absurd (c.in-Ok-new.ensures.exact fault other
    (asked _ _ _ _ c.args.cache fault (c.deref.ensures.value ∙ c.in-Ok.ensures)
    (ap (λ (d : Disk). d.sector_count) c.in_ok-image.ensures.made) refused))

pub returns-in-Ok-over_lent-clause-bad_board : goal.returns-in-Ok-over_lent-clause-bad_board
returns-in-Ok-over_lent-clause-bad_board g c = λ fault other refused.
    absurd (c.in-Ok-over_lent.ensures.exact fault other
    (asked _ _ _ _ c.args.cache fault (c.deref-in-Some.ensures.value ∙ c.in-Ok.ensures)
    (ap (λ (d : Disk). d.sector_count) c.in_ok-image.ensures.made) refused))
