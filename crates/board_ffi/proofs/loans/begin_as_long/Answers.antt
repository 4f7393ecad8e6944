use Rattle.std.proofs.Common.{length, take, sym, ap, ◌∙◌}
use Rattle.std.proofs.lemmas.List.{get_or-take}
use Rattle.std.proofs.Math.ListN.{get_or-map}
use Rattle.session.proofs.Loans.{same_at}
use Rattle.board_ffi.specs.Config.{told_lens}
use Rattle.board_ffi.proofs.loans.begin_as_long.Goals as goal

pub returns-then-loans-place : goal.returns-then-loans-place
returns-then-loans-place c =
    let regions = c.args.regions.now in
    let loans = c.args.loans.now in
    let place = c.loop-place.place in (
      λ t. absurd (cc (t)),
      λ same. absurd (c.if-loans-place.true
          (ap (λ loan. loan.len) (sym (get_or-take (length regions) loans place _ c.loop-place-test.true))
          ∙ sym (get_or-map (λ loan. loan.len) (take (length regions) loans) place _)
          ∙ same_at (told_lens (take (length regions) loans)) regions place _ _ same c.loop-place-test.true)),
    )
