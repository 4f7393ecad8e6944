use Rattle.racing_session.proofs.Calling.{devices_seen, devices_unseen, fresh_in, served_behind}
use Rattle.guest_memory.specs.Pages.{bits_of}
use Rattle.racing_session.proofs.session.RacingSession.serve_behind.Goals as goal

pub serve_notified-requires : goal.serve_notified-requires
serve_notified-requires g c =
    let s = c.self.inside in
    record { sound = devices_unseen s.memory (bits_of s.pages.items) g.stood c.over.result s.further.devices (fresh_in c.over.ensures c.lent-pages.ensures) c.self.invariant.1 }

pub invariant_of-self : goal.invariant_of-self
invariant_of-self g c = let served = c.serve_notified in (
  c.self.invariant.0,
  devices_seen c.self.inside.memory (bits_of c.self.inside.pages.items) g.stood c.over.result served.new.mem.0 served.new.self.devices (fresh_in c.over.ensures c.lent-pages.ensures)
      served.ensures.range served.ensures.sound,
)

pub returns : goal.returns
returns g c =
    let s = c.self.inside in let served = c.serve_notified in
    served_behind s.guest s.memory (bits_of s.pages.items) s.output s.due s.limits s.further c.args.self.now c.self.view_is g.stood c.args.device
    c.over.result served.new.mem.0 (fresh_in c.over.ensures c.lent-pages.ensures) c.service_limits-limits.result c.service_limits-limits.ensures served.new.self
    (bits_of c.into_pages.result.items) c.into_pages.ensures c.progress.result c.progress.ensures c.args.queue served.ensures.serves
