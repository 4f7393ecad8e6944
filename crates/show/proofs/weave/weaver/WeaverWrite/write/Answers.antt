use Rattle.std.proofs.KnownBytes.{Keeps-trans}
use Rattle.show.specs.Woven.{woven_records}
use Rattle.show.proofs.Weaving.{then_written}
use Rattle.show.proofs.weave.weaver.WeaverWrite.write.Goals as goal
use Rattle.show.proofs.weave.weaver.WeaverWrite.write.Goals.{then-not-is_inside+in_ok-say_next, else-not-is_inside}

pub returns-clause-bytes : goal.returns-clause-bytes
returns-clause-bytes g c =
    let contents = g.W.Write.contents in
    let first = woven_records contents c.args.self.now.woven in
    let passed = woven_records contents c.pass_on.new.self in
    let last = woven_records contents c.put.new.self in
    elim c.if-not-is_inside.branch [
      | then-not-is_inside+in_ok-say_next w ↦
          let said = woven_records contents w.say_next.new.self.woven in
          then_written first said last c.put.result c.args.bytes.now
          (Keeps-trans first passed said c.pass_on.ensures w.say_next.ensures)
          (rw w.self-is at c.put.ensures.bytes)
      | else-not-is_inside w ↦ then_written first passed last c.put.result c.args.bytes.now c.pass_on.ensures
          (rw w.self-is at c.put.ensures.bytes)
    ]
