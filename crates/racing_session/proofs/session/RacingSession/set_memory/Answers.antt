use Rattle.guest_memory.specs.Faults.{zeroed_regions}
use Rattle.guest_memory.specs.Pages.{bits_of}
use Rattle.racing_memory.proofs.Marks.{no_bits}
use Rattle.racing_session.proofs.Moving.{moved_so, none_flies, none_works}
use Rattle.racing_session.proofs.session.RacingSession.set_memory.Goals as goal

pub invariant_of-self : goal.invariant_of-self
invariant_of-self g c = let s = c.self.inside in (
  c.fits.ensures.sound c.if-not-fits.false
      (none_flies s.guest s.memory (bits_of s.pages.items) s.output s.due s.limits s.further c.args.self.now c.self.view_is c.is_busy.result
      c.is_busy.ensures c.if-is_busy.false) (zeroed_regions s.memory) c.self.invariant.0,
  c.devices_fit.ensures.sound c.if-not-devices_fit.false
      (none_works s.guest s.memory (bits_of s.pages.items) s.output s.due s.limits s.further c.args.self.now c.self.view_is c.is_busy.result
      c.is_busy.ensures c.if-is_busy.false) (zeroed_regions s.memory) c.self.invariant.1,
)

pub returns-clause-moved : goal.returns-clause-moved
returns-clause-moved g c =
    moved_so c.self.view_is c.new-memory.ensures (no_bits c.new.result.items c.new.ensures.items)
