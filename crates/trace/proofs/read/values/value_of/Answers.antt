use Rattle.std.proofs.Common.{refl, sym, ◌∙◌}
use Rattle.trace.proofs.Widths.{num_width}
use Rattle.trace.proofs.read.values.value_of.Goals as goal

pub returns-in_ok-width_of-in-Width-clause-some : goal.returns-in_ok-width_of-in-Width-clause-some
returns-in_ok-width_of-in-Width-clause-some c =
    let h = c.in_ok-width_of-in-Width.ensures.some in
    rw c.in-Width.is (record {
      is_of = (c.in_ok-width_of-in-Width.field-0, (refl, h.fits));
      spelled = h.spelled ∙ sym (num_width c.in_ok-width_of-in-Width.field-0 h.fits);
    })
