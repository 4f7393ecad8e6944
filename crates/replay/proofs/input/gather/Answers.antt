use Rattle.std.proofs.Common.{rules}
use Rattle.std.proofs.KnownBytes.{Consumes-kept}
use Rattle.std.specs.Io.KnownBytes.{IsAtEnd}
use Rattle.replay.proofs.Gathering.{gathered_more, gathered_all}
use Rattle.replay.proofs.input.gather.Goals as goal
use Rattle.replay.proofs.input.gather.Goals.{in-Ok+in-Ok-extend_from_slice, in-Err+else-ne}

pub returns-in-Ok-eq0-clause-all : goal.returns-in-Ok-eq0-clause-all
returns-in-Ok-eq0-clause-all g c =
    let remaining = g.R.Read.remaining in
    let ended : IsAtEnd (remaining c.read.new.self) = search rules in
    gathered_all (remaining c.args.reader.now) (remaining c.loop.reader) (remaining c.read.new.self)
    c.loop.input.items c.read.new.buf c.in-Ok-eq0.field-0 (search rules) c.loop.invariant
    c.in-Ok-eq0.ensures.bytes.0 ended

pub loop-preserved : goal.loop-preserved
loop-preserved g c =
    let remaining = g.R.Read.remaining in
    elim c.match-read.branch [
      | in-Ok+in-Ok-extend_from_slice w ↦
          rw w.input-is (gathered_more (remaining c.args.reader.now) (remaining c.loop.reader)
          (remaining c.read.new.self) c.loop.input.items w.extend_from_slice.new.self.items _
          c.loop.invariant w.in-Ok.ensures.bytes.0 w.in-Ok-extend_from_slice.ensures.items)
      | in-Err+else-ne w ↦ rw w.input-is
          (Consumes-kept (remaining c.args.reader.now) (remaining c.loop.reader) (remaining c.read.new.self)
          c.loop.input.items c.loop.invariant w.in-Err.ensures.bytes)
    ]
