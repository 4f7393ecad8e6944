use Rattle.trace.proofs.Passing.{put_cold}
use Rattle.trace.proofs.print.buffer.Buffer.put_full.Goals as goal

pub returns : goal.returns
returns g c =
    let contents = g.W.Write.contents in
    put_cold (contents c.args.out.now) (contents c.flush.new.out) (contents c.write_whole.new.out)
    c.args.self.now.is_broken c.add_growing.new.self.is_broken c.flush.new.self.is_broken c.add_growing.result
    c.add.result c.write_whole.result
    c.args.self.now.bytes c.add_growing.new.self.bytes c.flush.new.self.bytes c.add.new.self c.args.bytes.now
    c.if-add_growing.false c.add_growing.ensures.bytes c.add_growing.ensures.state
    c.flush.ensures.sends c.flush.ensures.empty c.if-self.false c.if-add.false c.add.ensures
    c.write_whole.ensures.whole c.write_whole.ensures.front
