use Rattle.std.proofs.Common.{arith, rules}
use Rattle.replay.proofs.Begun.{bit_beyond, bit_cleared}
use Rattle.replay.proofs.asking.without.Goals as goal

pub returns-then-tag-ge-MOST_TAGS : goal.returns-then-tag-ge-MOST_TAGS
returns-then-tag-ge-MOST_TAGS c all is = bit_beyond c.args.tags c.args.tag all (search rules) (omega arith) is

pub returns : goal.returns
returns c all is = bit_cleared c.args.tags c.args.tag all (search rules) (omega arith) is
