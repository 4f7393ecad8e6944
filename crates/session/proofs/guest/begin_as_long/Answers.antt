use Rattle.std.proofs.Common.{length, take, arith, sym, ◌∙◌}
use Rattle.std.proofs.lemmas.List.{get_or-take}
use Rattle.session.proofs.Loans.{same_at, size_at, sizes}
use Rattle.session.proofs.guest.begin_as_long.Goals as goal

pub returns-then-len-regions : goal.returns-then-len-regions
returns-then-len-regions c =
    let regions = c.args.regions.now in
    let runs = take (length regions) c.args.bytes.now in
    let run = c.index-bytes-place.result in
    let place = c.loop-place.place in
    let here = c.index-bytes-place.is ∙ sym
    (get_or-take (length regions) c.args.bytes.now place run c.loop-place-test.true) in (
      λ t. absurd (cc (t)),
      λ same. absurd (c.if-len-regions.true (omega (
        arith,
        c.len.ensures,
        run.ok.0,
        sym (size_at runs place run here)
            ∙ same_at (sizes runs) regions place _ (record { base = 0; len = 0 }) same c.loop-place-test.true,
      ))),
    )
