use Rattle.std.proofs.Common.{◌+◌, ◌≤◌, vec_len, vec_capacity, refl, sym, ◌∙◌, arith}
use Rattle.board.specs.World.{world_of}
use Rattle.board.proofs.Runs.{idle_next, idle_whole, missing_more, run_next, run_none, run_whole, where_ok, words_more}
use Rattle.board.proofs.Seats.{stays_same, stays_still}
use Rattle.board.proofs.board.Board.run.Goals as goal

pub returns-then-is_err-clause-run : goal.returns-then-is_err-clause-run
returns-then-is_err-clause-run g c tells =
    rw c.reserve.ensures.items (c.loop-done.invariant.run tells)

pub returns-then-is_err-clause-words : goal.returns-then-is_err-clause-words
returns-then-is_err-clause-words g c =
    λ before. rw c.reserve.ensures.items (c.loop-done.invariant.words before)

pub returns-then-is_err-clause-missing : goal.returns-then-is_err-clause-missing
returns-then-is_err-clause-missing g c =
    λ before. rw c.reserve.ensures.items (c.loop-done.invariant.missing before)

pub put-requires : goal.put-requires
put-requires g c =
    let room : vec_len c.reserve.new.self + 1 ≤ vec_capacity c.reserve.new.self =
    where_ok c.reserve.result _ (sym c.is_err.ensures.value ∙ c.if-is_err.false) c.reserve.ensures.ok in
    omega (arith, room)

pub loop-done-init : goal.loop-done-init
loop-done-init g c = record {
  run = λ tells. run_none _ _;
  words = λ before. before;
  missing = λ before. before;
  others = λ other idle. refl;
  stays = stays_same g.I.Image.disk c.args.self.now;
}

pub loop-done-preserved : goal.loop-done-preserved
loop-done-preserved g c =
    let handled = c.handle-handled.result in
    let world = world_of g.I.Image.disk in
    record {
      run = λ tells.
          run_next (world c.args.self.now) (world c.loop-done.self) (world c.handle-handled.new.self)
          c.args.events.now c.loop-done.done c.index-events-done.result
          handled.reply handled.block_irq handled.console_irq c.handle-handled.new.out.items
          c.args.records.now.items c.loop-done.records.items c.put.new.records.items
          (omega arith) c.index-events-done.is (c.loop-done.invariant.run tells)
          (rw c.new-output.ensures.items at
          (c.handle-handled.ensures.handles (c.loop-done.invariant.stays.tells tells)))
          (rw (c.reserve.ensures.items, c.from.ensures) at c.put.ensures);
      words = λ before. words_more c.loop-done.records.items c.put.new.records.items _
          (rw (c.reserve.ensures.items, c.from.ensures) at c.put.ensures) (c.loop-done.invariant.words before)
          c.handle-handled.ensures.words;
      missing = λ before. missing_more c.args.self.now.slots c.loop-done.self.slots c.loop-done.records.items
          c.put.new.records.items c.index-events-done.result.slot
          handled.reply c.handle-handled.new.out.items handled.block_irq handled.console_irq
          (rw (c.reserve.ensures.items, c.from.ensures) at c.put.ensures)
          c.loop-done.invariant.stays.extents (c.loop-done.invariant.missing before)
          c.handle-handled.ensures.bad_slot.1
          (rw c.new-output.ensures.items at c.handle-handled.ensures.missing);
      others = idle_next c.args.events.now c.loop-done.done c.index-events-done.result _ _ _ (omega arith)
          c.index-events-done.is c.loop-done.invariant.others c.handle-handled.ensures.others;
      stays = stays_still g.I.Image.disk c.args.self.now c.loop-done.self c.handle-handled.new.self
          c.loop-done.invariant.stays c.handle-handled.ensures.stays;
    }

pub returns-clause-run : goal.returns-clause-run
returns-clause-run g c tells =
    run_whole _ _ c.args.events.now c.loop-done.done _ _ (omega arith) (c.loop-done.invariant.run tells)

pub returns-clause-others : goal.returns-clause-others
returns-clause-others g c =
    idle_whole c.args.events.now c.loop-done.done _ _ (omega arith) c.loop-done.invariant.others
