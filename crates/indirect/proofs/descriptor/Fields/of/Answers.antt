use Rattle.std.proofs.Common.{arith}
use Rattle.indirect.proofs.Entries.{number_in, number_behind}
use Rattle.indirect.proofs.descriptor.Fields.of.Goals as goal

pub returns-clause-addr : goal.returns-clause-addr
returns-clause-addr c = number_in c.args.bytes.now c.args.at 8 c.read_u64.result _
    (omega (arith, c.requires)) (omega (arith, c.requires)) c.read_u64.ensures

pub returns-clause-len : goal.returns-clause-len
returns-clause-len c = number_behind c.args.bytes.now c.args.at 8 4 c.read_u32.result _
    (omega (arith, c.requires)) (omega (arith, c.requires)) c.read_u32.ensures

pub returns-clause-third : goal.returns-clause-third
returns-clause-third c = number_behind c.args.bytes.now c.args.at 12 2 c.read_u16.result _
    (omega (arith, c.requires)) (omega (arith, c.requires)) c.read_u16.ensures

pub returns-clause-last : goal.returns-clause-last
returns-clause-last c = number_behind c.args.bytes.now c.args.at 14 2 c.read_u16-2.result _
    (omega (arith, c.requires)) (omega (arith, c.requires)) c.read_u16-2.ensures
