use Rattle.std.proofs.Common.{[]}
use Rattle.guest_memory.specs.Faults.{zeroed_regions}
use Rattle.hosted_disk.proofs.Windows.{gave_up_keeps}
use Rattle.hosted_disk.proofs.disk.HostedDisk.give_up.Goals as goal

pub returns-then-busy-clause-gives : goal.returns-then-busy-clause-gives
returns-then-busy-clause-gives g c = rw c.if-busy.true (λ m. rw (← c.self.view_is) (c.give_up.ensures.given_up m))

pub returns-then-busy-clause-kind : goal.returns-then-busy-clause-kind
returns-then-busy-clause-kind g c =
    (gave_up_keeps (zeroed_regions []) c.args.window.now c.give_up.new.window _ _ (c.give_up.ensures.given_up (zeroed_regions []))).kind

pub returns-then-busy-clause-offered : goal.returns-then-busy-clause-offered
returns-then-busy-clause-offered g c =
    (gave_up_keeps (zeroed_regions []) c.args.window.now c.give_up.new.window _ _ (c.give_up.ensures.given_up (zeroed_regions []))).offered

pub returns-then-busy-clause-held : goal.returns-then-busy-clause-held
returns-then-busy-clause-held g c = λ m held. c.give_up.ensures.held _ m
