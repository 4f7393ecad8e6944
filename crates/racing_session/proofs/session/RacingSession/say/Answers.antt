use Rattle.racing_session.proofs.Calling.{fresh_in, kept_so, left_unmarked, sound_seen, sound_unseen, told}
use Rattle.guest_memory.specs.Pages.{bits_of}
use Rattle.racing_session.proofs.session.RacingSession.say.Goals as goal

pub tell-told-requires : goal.tell-told-requires
tell-told-requires g c =
    let s = c.self.inside in
    record { sound = sound_unseen s.memory (bits_of s.pages.items) g.stood c.over-mem.result s.guest (fresh_in c.over-mem.ensures c.lent-pages.ensures) c.self.invariant.0 }

pub invariant_of-self-2 : goal.invariant_of-self-2
invariant_of-self-2 g c = (
  sound_seen c.self.inside.memory (bits_of c.self.inside.pages.items) g.stood c.over-mem.result c.tell-told.new.mem c.tell-told.new.self (fresh_in c.over-mem.ensures c.lent-pages.ensures)
      c.tell-told.ensures.range c.tell-told.ensures.sound,
  c.self.invariant.1,
)

pub returns-clause-said : goal.returns-clause-said
returns-clause-said g c =
    let s = c.self.inside in
    told s.guest s.memory (bits_of s.pages.items) s.output s.due s.limits s.further c.args.self.now c.self.view_is g.stood c.over-mem.result c.tell-told.new.mem
    (fresh_in c.over-mem.ensures c.lent-pages.ensures) c.tell-told.new.self c.by-self-inside.result (bits_of c.into_pages.result.items) c.into_pages.ensures c.args.said c.in-Some.so_far c.progress_by.result
    c.is_any_due.result c.has_asked_by-asks.result c.taken-before.result c.taken.result c.in-Some.ensures.does
    c.by-self-inside.ensures c.is_any_due.ensures c.taken-before.ensures c.taken.ensures c.has_asked_by-asks.ensures
    c.progress_by.ensures

pub returns-in_default-clause-kept : goal.returns-in_default-clause-kept
returns-in_default-clause-kept g c =
    kept_so c.self.view_is c.in_default.ensures.kept
    (left_unmarked c.tell-told.new.mem c.over-mem.ensures c.lent-pages.ensures c.in_default.ensures.unwritten c.into_pages.ensures)
