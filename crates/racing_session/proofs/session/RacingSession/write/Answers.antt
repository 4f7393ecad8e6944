use Rattle.racing_session.proofs.Calling.{fresh_in, sound_seen, sound_unseen, written}
use Rattle.guest_memory.specs.Pages.{bits_of}
use Rattle.racing_session.proofs.session.RacingSession.write.Goals as goal

pub write-reply-requires : goal.write-reply-requires
write-reply-requires g c =
    let s = c.self.inside in
    record { sound = sound_unseen s.memory (bits_of s.pages.items) g.stood c.over-mem.result s.guest (fresh_in c.over-mem.ensures c.lent-pages.ensures) c.self.invariant.0 }

pub invariant_of-self : goal.invariant_of-self
invariant_of-self g c = (
  sound_seen c.self.inside.memory (bits_of c.self.inside.pages.items) g.stood c.over-mem.result c.write-reply.new.mem c.write-reply.new.self (fresh_in c.over-mem.ensures c.lent-pages.ensures)
      c.write-reply.ensures.range c.write-reply.ensures.sound,
  c.self.invariant.1,
)

pub returns-clause-writes : goal.returns-clause-writes
returns-clause-writes g c =
    let s = c.self.inside in
    written s.guest s.memory (bits_of s.pages.items) s.output s.due s.limits s.further c.args.self.now c.self.view_is g.stood c.over-mem.result c.write-reply.new.mem
    (fresh_in c.over-mem.ensures c.lent-pages.ensures) c.write-reply.new.self c.after-self-inside.result (bits_of c.into_pages.result.items) c.into_pages.ensures c.args.window c.args.offset c.args.width
    c.args.value c.write-reply.new.out c.write-reply.result c.taken-before.result c.told.result.answer
    c.write-reply.ensures.writes (cc c.write-reply.ensures.limit) c.after-self-inside.ensures c.taken-before.ensures
    c.told.ensures.answer
