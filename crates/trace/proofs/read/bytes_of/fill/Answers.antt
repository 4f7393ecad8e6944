use Rattle.std.proofs.Common.{length}
use Rattle.std.proofs.lemmas.Bool.{false≢true}
use Rattle.trace.proofs.BytesOf.{all_digits, pairs_read, two_each}
use Rattle.trace.proofs.read.bytes_of.fill.Goals as goal
use Rattle.trace.proofs.read.bytes_of.fill.Goals.{then-field-bytes-via-then-field-bytes, then-field-bytes-via-else-field-bytes+then-not-are_digits}

pub returns-then-field-bytes-clause-none : goal.returns-then-field-bytes-clause-none
returns-then-field-bytes-clause-none c bs h =
    elim c.then-field-bytes.branch [
      | then-field-bytes-via-then-field-bytes w ↦ w.if-field-bytes.true
          (two_each (length c.args.bytes.now) c.args.field.now bs c.requires.some h)
      | then-field-bytes-via-else-field-bytes+then-not-are_digits w ↦ false≢true
          (w.if-not-are_digits.ensures.1
          (all_digits (length c.args.bytes.now) c.args.field.now bs c.requires.some h))
    ]

pub returns-clause-some : goal.returns-clause-some
returns-clause-some c = pairs_read _ c.args.field.now c.read_pairs.new.bytes c.requires.some c.if-field-bytes.false
    c.read_pairs.ensures.spelled c.read_pairs.ensures.fits
