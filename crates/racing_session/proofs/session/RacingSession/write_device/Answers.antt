use Rattle.guest_memory.specs.Pages.{bits_of}
use Rattle.racing_session.proofs.Calling.{devices_seen, devices_unseen, fresh_in, written_to}
use Rattle.racing_session.proofs.session.RacingSession.write_device.Goals as goal

pub write-written-requires : goal.write-written-requires
write-written-requires g c =
    let s = c.self.inside in
    record { sound = devices_unseen s.memory (bits_of s.pages.items) g.stood c.over.result s.further.devices (fresh_in c.over.ensures c.lent-pages.ensures) c.self.invariant.1 }

pub invariant_of-self-2 : goal.invariant_of-self-2
invariant_of-self-2 g c = (
  c.self.invariant.0,
  devices_seen c.self.inside.memory (bits_of c.self.inside.pages.items) g.stood c.over.result c.write-written.new.mem.0 c.write-written.new.self.devices (fresh_in c.over.ensures c.lent-pages.ensures)
      c.write-written.ensures.range c.write-written.ensures.sound,
)

pub returns-clause-writes : goal.returns-clause-writes
returns-clause-writes g c =
    let s = c.self.inside in
    written_to s.guest s.memory (bits_of s.pages.items) s.output s.due s.limits s.further c.args.self.now c.self.view_is g.stood c.args.device
    c.over.result c.write-written.new.mem.0 (fresh_in c.over.ensures c.lent-pages.ensures) c.service_limits-limits.result c.service_limits-limits.ensures c.write-written.new.self
    (bits_of c.into_pages.result.items) c.into_pages.ensures c.progress.result c.progress.ensures c.args.offset c.args.width c.args.value c.in_ok-written.ensures.writes
