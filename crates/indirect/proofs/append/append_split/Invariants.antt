use Rattle.chain.specs.Buffers.{Good}
use Rattle.indirect.specs.Descriptors.{split_table}
use Rattle.indirect.specs.Walks.{Reached}
use Rattle.indirect.proofs.append.append_split.Given as goal

abbrev pub invariant-loop-count : goal.invariant-loop-count
invariant-loop-count g l = record {
  walk : Reached l.mem l.fn.chain (split_table l.mem l.addr) l.entries 0 l._count l.index l.chain;
  keeps : Good l.mem l.fn.chain → Good l.mem l.chain;
}
