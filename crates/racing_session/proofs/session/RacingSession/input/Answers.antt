use Rattle.racing_session.proofs.Calling.{fresh_in, sound_seen, sound_unseen, typed}
use Rattle.guest_memory.specs.Pages.{bits_of}
use Rattle.racing_session.proofs.session.RacingSession.input.Goals as goal

pub input-taken-requires : goal.input-taken-requires
input-taken-requires g c =
    let s = c.self.inside in
    record { sound = sound_unseen s.memory (bits_of s.pages.items) g.stood c.over-mem.result s.guest (fresh_in c.over-mem.ensures c.lent-pages.ensures) c.self.invariant.0 }

pub invariant_of-self : goal.invariant_of-self
invariant_of-self g c = (
  sound_seen c.self.inside.memory (bits_of c.self.inside.pages.items) g.stood c.over-mem.result c.input-taken.new.mem c.input-taken.new.self (fresh_in c.over-mem.ensures c.lent-pages.ensures)
      c.input-taken.ensures.range c.input-taken.ensures.sound,
  c.self.invariant.1,
)

pub returns-clause-typed : goal.returns-clause-typed
returns-clause-typed g c =
    let s = c.self.inside in
    typed s.guest s.memory (bits_of s.pages.items) s.output s.due s.limits s.further c.args.self.now c.self.view_is g.stood c.over-mem.result c.input-taken.new.mem
    (fresh_in c.over-mem.ensures c.lent-pages.ensures) c.input-taken.new.self c.by-self-inside.result (bits_of c.into_pages.result.items) c.into_pages.ensures c.args.bytes.now _ c.progress_by.result
    c.is_any_due.result c.input-taken.ensures.takes c.by-self-inside.ensures c.is_any_due.ensures c.progress_by.ensures
