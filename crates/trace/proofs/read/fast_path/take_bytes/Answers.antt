use Rattle.std.proofs.Common.{arith}
use Rattle.trace.proofs.Fronts.{pairs_spell}
use Rattle.trace.proofs.read.fast_path.take_bytes.Goals as goal

pub returns-in-10-clause-says : goal.returns-in-10-clause-says
returns-in-10-clause-says c =
    pairs_spell c.args.text.now c.split_at.result.0.now c.digits_len-len.result c.split_at.ensures.front
    c.digits_len-len.ensures.within c.digits_len-len.ensures.digits
    (omega arith) (omega arith)
