use Rattle.std.proofs.Common.{◌≡◌, ◌+◌, ◌-◌, arith, length, refl}
use Rattle.snapshot.proofs.Joining.{all_put, front_len, front_of_head}
use Rattle.snapshot.proofs.writing.write_into.Goals as goal

pub returns-then-into-len-clause-short : goal.returns-then-into-len-clause-short
returns-then-into-len-clause-short c =
    let long = front_len c.args.saved.now c.args.waits c.args.front.now c.args.back.now c.head_of-head.result.items _
    c.head_of-head.ensures.text refl in
    (λ is. omega (arith, long, c.len.ensures.value, c.if-into-len.true), λ less. refl)

pub returns-clause-len : goal.returns-clause-len
returns-clause-len c =
    let long = front_len c.args.saved.now c.args.waits c.args.front.now c.args.back.now c.head_of-head.result.items _
    c.head_of-head.ensures.text refl in
    omega (arith, long, c.len.ensures.value)

pub returns-clause-text : goal.returns-clause-text
returns-clause-text c =
    let n = length c.head_of-head.result.items in
    let f = length c.args.front.now in
    let b = length c.args.back.now in
    let one : c.len.result ≡ n = c.len.ensures.value in
    let two : c.len-2.result ≡ n = c.len-2.ensures.value in
    let three : c.len-3.result ≡ n = c.len-3.ensures.value in
    let width : n + f - n ≡ f = omega arith in
    let rest : n + f + b - (n + f) ≡ b = omega arith in
    let text = front_of_head c.args.saved.now c.args.waits c.args.front.now c.args.back.now c.head_of-head.result.items
    _ c.head_of-head.ensures.text refl in
    rw (
      one,
      two,
      three,
      width,
      rest,
      c.copy_from_slice.ensures.after,
      c.as_slice.ensures.value,
      c.copy_from_slice-2.ensures.after,
      c.copy_from_slice-3.ensures.after,
      text,
    )
    (all_put c.head_of-head.result.items c.args.front.now c.args.back.now c.args.into.now n
    f b refl refl refl)

pub returns-clause-short : goal.returns-clause-short
returns-clause-short c =
    let long = front_len c.args.saved.now c.args.waits c.args.front.now c.args.back.now c.head_of-head.result.items _
    c.head_of-head.ensures.text refl in (
      λ never. absurd (cc),
      λ less. absurd
          (omega (arith, long, c.len.ensures.value, c.if-into-len.false, less)),
    )
