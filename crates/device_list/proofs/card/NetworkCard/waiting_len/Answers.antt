use Rattle.std.proofs.Common.{◌∙◌, ap, arith}
use Rattle.network_device.specs.declared.limits.Limits.{Limits}
use Rattle.device_list.proofs.card.NetworkCard.waiting_len.Goals as goal

pub overflow_add-result : goal.overflow_add-result
overflow_add-result g c =
    let limits = c.frames.ensures.limits ∙ c.self.invariant.0.1 in
    omega (arith, c.saved_len.ensures.most, ap (λ (l : Limits). l.bytes) limits, ap (λ (l : Limits). l.frames) limits)

pub overflow_add-result-2 : goal.overflow_add-result-2
overflow_add-result-2 g c =
    let one = c.frames.ensures.limits ∙ c.self.invariant.0.1 in
    let other = c.self.invariant.1 in
    omega (
      arith,
      c.saved_len.ensures.most,
      ap (λ (l : Limits). l.bytes) one,
      ap (λ (l : Limits). l.frames) one,
      c.saved_len-2.ensures.most,
      ap (λ (l : Limits). l.bytes) other,
      ap (λ (l : Limits). l.frames) other,
    )

pub returns-clause-most : goal.returns-clause-most
returns-clause-most g c =
    let one = c.frames.ensures.limits ∙ c.self.invariant.0.1 in
    let other = c.self.invariant.1 in
    omega (
      arith,
      c.saved_len.ensures.most,
      ap (λ (l : Limits). l.bytes) one,
      ap (λ (l : Limits). l.frames) one,
      c.saved_len-2.ensures.most,
      ap (λ (l : Limits). l.bytes) other,
      ap (λ (l : Limits). l.frames) other,
    )
