use Rattle.std.proofs.Common.{sym, subst}
use Rattle.guest_memory.proofs.Ranges.{same_trans}
use Rattle.mmio_window.specs.declared.stage.Stage.{Stage}
use Rattle.chain.specs.declared.budget.Progress.TheVariants.{Done}
use Rattle.block_device.specs.Flights.{HostedQueue}
use Rattle.block_device.proofs.Landing.{held_looked_to}
use Rattle.block_device.proofs.Looking.{IsLooking, looks_full, looks_no_more, looks_on}
use Rattle.block_device.proofs.device.BlockDevice.look_piece.Goals as goal

pub returns-in-Some-look_for-clause-looks : goal.returns-in-Some-look_for-clause-looks
returns-in-Some-look_for-clause-looks g c =
    looks_no_more c.args.self.now
    (record { memory = c.args.mem.now; window = c.args.window.now; tags = c.args.flights.now })
    (record { memory = c.loop-tag.mem; window = c.loop-tag.window; tags = c.loop-tag.flights })
    (record { memory = c.look_for.new.mem; window = c.look_for.new.window; tags = c.look_for.new.flights })
    c.args.stage c.args.budget c.loop-tag.stage c.loop-tag.left c.in-Some-look_for.progress c.in-Some.tag
    c.loop-tag.invariant.looking (sym c.in-Some.ensures) c.in-Some-look_for.ensures.stops

pub returns-in-Some-look_for-clause-held : goal.returns-in-Some-look_for-clause-held
returns-in-Some-look_for-clause-held g c =
    held_looked_to c.args.self.now c.args.self.now.extent.count c.args.stage c.args.budget c.in-Some-look_for.progress
    (record { memory = c.args.mem.now; window = c.args.window.now; tags = c.args.flights.now })
    (record { memory = c.look_for.new.mem; window = c.look_for.new.window; tags = c.look_for.new.flights })
    (returns-in-Some-look_for-clause-looks g c) c.requires.held c.look_for.ensures.each

pub loop-tag-preserved : goal.loop-tag-preserved
loop-tag-preserved g c =
    let start : HostedQueue =
    record { memory = c.args.mem.now; window = c.args.window.now; tags = c.args.flights.now } in
    let new : HostedQueue =
    record { memory = c.look_for.new.mem; window = c.look_for.new.window; tags = c.look_for.new.flights } in
    record {
      looking = subst (λ (stage : Stage). IsLooking c.args.self.now start c.args.stage c.args.budget stage
          c.look_for.new.budget new) (sym c.behind_a_chain-stage.ensures)
          (looks_on c.args.self.now start
          (record { memory = c.loop-tag.mem; window = c.loop-tag.window; tags = c.loop-tag.flights })
          new c.args.stage c.args.budget c.loop-tag.stage c.loop-tag.left c.look_for.new.budget
          c.loop-tag.invariant.looking c.in_default-look_for.ensures.asks);
      each = c.look_for.ensures.each;
      range = same_trans c.args.mem.now c.loop-tag.mem c.look_for.new.mem c.loop-tag.invariant.range
          c.look_for.ensures.range;
      sound = c.look_for.ensures.sound;
    }

pub returns-clause-looks : goal.returns-clause-looks
returns-clause-looks g c =
    looks_full c.args.self.now
    (record { memory = c.args.mem.now; window = c.args.window.now; tags = c.args.flights.now })
    (record { memory = c.loop-tag.mem; window = c.loop-tag.window; tags = c.loop-tag.flights })
    c.args.stage c.args.budget c.loop-tag.stage c.loop-tag.left c.loop-tag.invariant.looking (sym c.in_default.ensures)

pub returns-clause-held : goal.returns-clause-held
returns-clause-held g c =
    held_looked_to c.args.self.now c.args.self.now.extent.count c.args.stage c.args.budget Done
    (record { memory = c.args.mem.now; window = c.args.window.now; tags = c.args.flights.now })
    (record { memory = c.loop-tag.mem; window = c.loop-tag.window; tags = c.loop-tag.flights })
    (returns-clause-looks g c) c.requires.held c.loop-tag.invariant.each
