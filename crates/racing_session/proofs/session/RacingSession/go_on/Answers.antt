use Rattle.guest_memory.specs.Pages.{bits_of}
use Rattle.racing_session.proofs.Calling.{devices_after, devices_behind, fresh_in, goes_on, sound_behind, sound_unseen}
use Rattle.racing_session.proofs.session.RacingSession.go_on.Goals as goal

pub serve_if-block-requires : goal.serve_if-block-requires
serve_if-block-requires g c =
    let s = c.self.inside in
    record { sound = sound_unseen s.memory (bits_of s.pages.items) g.stood c.over.result s.guest (fresh_in c.over.ensures c.lent-pages.ensures) c.self.invariant.0 }

pub go_on-requires : goal.go_on-requires
go_on-requires g c =
    let s = c.self.inside in let a = c.serve_if-block in let b = c.serve_if-receive in let d = c.serve_if-transmit in
    record {
      sound = devices_behind s.guest s.memory (bits_of s.pages.items) s.output s.due s.limits s.further c.args.self.now c.self.view_is g.stood c.over.result
          a.new.mem b.new.mem d.new.mem (fresh_in c.over.ensures c.lent-pages.ensures) a.new.guest b.new.guest d.new.guest a.new.out b.new.out d.new.out a.result
          b.result d.result a.ensures.range b.ensures.range d.ensures.range c.self.invariant.1;
    }

pub invariant_of-self : goal.invariant_of-self
invariant_of-self g c =
    let s = c.self.inside in let a = c.serve_if-block in let b = c.serve_if-receive in let d = c.serve_if-transmit in (
      sound_behind s.guest s.memory (bits_of s.pages.items) s.output s.due s.limits s.further c.args.self.now c.self.view_is g.stood c.over.result a.new.mem
          b.new.mem d.new.mem (fresh_in c.over.ensures c.lent-pages.ensures) a.new.guest b.new.guest d.new.guest a.new.out b.new.out d.new.out a.result b.result
          d.result a.ensures.range b.ensures.range d.ensures.range d.ensures.sound,
      devices_after s.guest s.memory (bits_of s.pages.items) s.output s.due s.limits s.further c.args.self.now c.self.view_is g.stood c.over.result a.new.mem
          b.new.mem d.new.mem (fresh_in c.over.ensures c.lent-pages.ensures) a.new.guest b.new.guest d.new.guest a.new.out b.new.out d.new.out a.result b.result
          d.result a.ensures.range b.ensures.range d.ensures.range c.go_on.new.mem.0 c.go_on.ensures.range c.go_on.new.self.devices
          c.go_on.ensures.sound,
    )

pub returns-clause-goes_on : goal.returns-clause-goes_on
returns-clause-goes_on g c =
    let s = c.self.inside in let a = c.serve_if-block in let b = c.serve_if-receive in let d = c.serve_if-transmit in
    goes_on s.guest s.memory (bits_of s.pages.items) s.output s.due s.limits s.further c.args.self.now c.self.view_is g.stood c.over.result a.new.mem
    b.new.mem d.new.mem (fresh_in c.over.ensures c.lent-pages.ensures) a.new.guest b.new.guest d.new.guest a.new.out b.new.out d.new.out a.result b.result d.result
    c.after.result c.after-2.result c.after-self-inside.result c.none.result c.taken-before.result c.told.result.answer
    c.go_on.new.mem.0 c.go_on.new.self (bits_of c.into_pages.result.items) c.into_pages.ensures a.ensures.serves b.ensures.serves d.ensures.serves a.ensures.limit b.ensures.limit
    d.ensures.limit c.none.ensures c.after.ensures c.after-2.ensures c.after-self-inside.ensures c.taken-before.ensures
    c.service_limits.result c.service_limits.ensures c.go_on.ensures.serves c.told.ensures.answer
