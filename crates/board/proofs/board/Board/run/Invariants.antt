use Rattle.std.proofs.Common.{length, take}
use Rattle.std.specs.Prelude.{All}
use Rattle.board.specs.Line.{AnswersMissing, HasInterruptWords, IsRun, KeepsIdle}
use Rattle.board.specs.Image.{Tells}
use Rattle.board.specs.World.{StaysInExtents, world_of}
use Rattle.board.proofs.board.Board.run.Given as goal

abbrev pub invariant-loop-done : goal.invariant-loop-done
invariant-loop-done g l = record {
  run : Tells (g.I.Image.disk l.fn.self.image)
      → IsRun (world_of g.I.Image.disk l.fn.self) (world_of g.I.Image.disk l.self) (take l.done l.events)
      l.fn.records.items l.records.items;
  words : All HasInterruptWords l.fn.records.items → All HasInterruptWords l.records.items;
  missing : All (AnswersMissing (length l.fn.self.slots)) l.fn.records.items
      → All (AnswersMissing (length l.fn.self.slots)) l.records.items;
  others : KeepsIdle (take l.done l.events) l.fn.self.slots l.self.slots;
  stays : StaysInExtents g.I.Image.disk l.fn.self l.self;
}
