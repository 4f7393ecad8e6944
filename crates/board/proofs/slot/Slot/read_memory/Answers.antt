use Rattle.std.proofs.Common.{◌≡◌, ◌<◌, arith, rules}
use Rattle.std.proofs.lemmas.Grind.{common_steps}
use Rattle.guest_memory.specs.Memory.{Inside, part_of}
use Rattle.board.specs.Slot.{state_of}
use Rattle.board.proofs.Reading.{reads, lacks, passes_over}
use Rattle.board.proofs.slot.Slot.read_memory.Goals as goal

pub returns-in_default-clause-given : goal.returns-in_default-clause-given
returns-in_default-clause-given g c = λ bytes health.
    passes_over g.row.A.Denot (state_of bytes c.args.self.now) c.args.addr c.args.len health (search rules)

pub returns-in-Ok-clause-given : goal.returns-in-Ok-clause-given
returns-in-Ok-clause-given g c = λ bytes health.
    let inside : Inside c.args.self.now.memory c.args.addr c.args.len = search rules in
    let is : c.from-in-Ok.result ≡ part_of c.args.self.now.memory c.args.addr c.args.len = search rules in
    reads g.row.A.Denot (state_of bytes c.args.self.now) c.args.addr c.args.len
    c.from-in-Ok.result health inside is

pub returns-in-Err-clause-given : goal.returns-in-Err-clause-given
returns-in-Err-clause-given g c = λ bytes health.
    let inside : Inside c.args.self.now.memory c.args.addr c.args.len = search rules in
    let some : 0 < c.args.len = first_of (search rules, grind (arith, common_steps)) in
    lacks g.row.A.Denot (state_of bytes c.args.self.now) c.args.addr c.args.len health inside some
