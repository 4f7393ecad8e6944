use Rattle.chain.specs.Buffers.{Good}
use Rattle.indirect.proofs.Entries.{Gathered}
use Rattle.indirect.proofs.append.append_packed.Given as goal

abbrev pub invariant-loop-index : goal.invariant-loop-index
invariant-loop-index g l = record {
  gathered : Gathered l.mem l.addr l.fn.chain l.index l.chain;
  keeps : Good l.mem l.fn.chain → Good l.mem l.chain;
}
