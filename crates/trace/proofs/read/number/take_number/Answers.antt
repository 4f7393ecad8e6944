use Rattle.std.proofs.Common.{◌≡◌, ℕ, ◌<◌, [], get_or, length, length-take, take, refl, sym, ap, ◌∙◌, arith}
use Rattle.std.proofs.lemmas.List.{get_or-take}
use Rattle.hexadecimal.proofs.Numbers.{reads_more, room}
use Rattle.hexadecimal.specs.Spelling.{digit}
use Rattle.trace.proofs.Fronts.{not_zero, slot_one, stays_positive}
use Rattle.trace.proofs.read.number.take_number.Goals as goal

pub returns-in-48 : goal.returns-in-48
unfolding digit
returns-in-48 c = slot_one c.args.line.now 0 c.in-48.len_at_least (omega arith) (omega arith) (omega arith)

pub overflow_mul-n : goal.overflow_mul-n
overflow_mul-n c =
    let long = length-take c.min.result c.args.line.now in
    let r = room [] c.loop-i.i c.loop-i.n 16 c.loop-i.invariant.0.below (omega (arith, c.min.ensures, long)) in
    omega arith

pub overflow_add-n : goal.overflow_add-n
overflow_add-n c =
    let long = length-take c.min.result c.args.line.now in
    let r = room [] c.loop-i.i c.loop-i.n 16 c.loop-i.invariant.0.below (omega (arith, c.min.ensures, long)) in
    omega (arith, c.in-Some.ensures.some, c.from.ensures)

pub loop-i-preserved : goal.loop-i-preserved
loop-i-preserved c =
    let long = length-take c.min.result c.args.line.now in
    let within : c.loop-i.i < c.min.result = omega (arith, c.min.ensures, long) in
    let digit-is = c.in-Some.ensures.some.1
    ∙ get_or-take c.min.result c.args.line.now c.loop-i.i 0 within in
    rw c.from.ensures (
      reads_more c.args.line.now c.loop-i.i c.loop-i.n c.in-Some.digit (get_or c.args.line.now c.loop-i.i 0)
          c.loop-i.invariant.0 (omega (arith, c.min.ensures, long)) refl c.in-Some.ensures.some.0 digit-is
          c.loop-i.invariant.1,
      λ _. stays_positive c.loop-i.i c.loop-i.n c.in-Some.digit c.loop-i.invariant.1
          (λ none. not_zero c.in-Some.digit _ (digit-is ∙ ap (λ (k : ℕ). get_or c.args.line.now k 0) none)
          c.if-line-eq48.false),
    )
