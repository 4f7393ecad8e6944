-- What the board comes to is what the session does.
use Rattle.std.proofs.Common.{◌≡◌, ◌<◌, length, refl, sym, ◌∙◌, arith, Some}
use Rattle.std.specs.List.{slice_get}
use Rattle.std.proofs.lemmas.List.{length-set}
use Rattle.std.proofs.lemmas.Option.{same_Some, slice_get_read}
use Rattle.sector_cache.specs.MemoryImage.{disk_of as memory_disk_of}
use Rattle.board.specs.Image.{bytes_of}
use Rattle.board.specs.Slot.{interrupt_words}
use Rattle.session.specs.Pacing.{response_to}
use Rattle.session.specs.Session.{SessionState}
use Rattle.session.proofs.Steps.{Turned, as_many, now, turn_past, turn_taken, was}
use Rattle.session.proofs.Telling.{turned_waits}
use Rattle.session.proofs.session.Session.turn.Goals as goal

pub returns-in_default-clause-whole : goal.returns-in_default-clause-whole
returns-in_default-clause-whole g c =
    rw (c.unmoved.ensures.response)
    (turn_past c.args.self.now c.args.slot c.args.kind (sym c.waiting.ensures.value ∙ c.in_default.is)
    (grind (arith, c.waiting.ensures.there, c.in_default.is))).whole

fits : (g : _) (c : goal.After-self-in-Ok-1 g) → c.args.slot < length c.self.inside.board.slots
fits g c = grind (arith, c.waiting.ensures.there, c.in-Some.is, c.self.view_is)

-- the output of that number
there : (g : _) (c : goal.After-self-in-Ok-1 g)
    → slice_get c.self.inside.outputs.items c.args.slot ≡ Some c.index_mut-output.result.now
there g c =
    slice_get_read c.self.inside.outputs.items (length c.self.inside.outputs.items) c.args.slot
    c.index_mut-output.result.now refl
    (omega (arith, fits g c, c.self.invariant.0)) c.index_mut-output.ensures.value

-- whose limit stays
limit : (g : _) (c : goal.After-self-in-Ok-1 g)
    → c.turn-taken.new.out.limit ≡ c.index_mut-output.result.now.limit
limit g c = same_Some _ _ c.turn-taken.ensures.limit

-- the turn of the board is one of the session
abbrev before : (g : _) (c : goal.After-self-in-Ok-1 g) → SessionState
before g c =
    was g.row.A.Denot c.self.inside.board.slots c.turn-taken.new.self.slots
    (bytes_of (memory_disk_of c.self.inside.board.image)) (bytes_of (memory_disk_of c.turn-taken.new.self.image))
    (memory_disk_of c.self.inside.board.image).dirty (memory_disk_of c.turn-taken.new.self.image).dirty
    c.self.inside.outputs.items c.self.inside.paused.items c.self.inside.budget c.args.slot
    c.index_mut-output.result.now c.turn-taken.new.out (there g c) (limit g c)
    c.turn-taken.ensures.others c.turn-taken.ensures.stays.extents c.self.invariant.0

abbrev behind : (g : _) (c : goal.After-self-in-Ok-1 g) → SessionState
behind g c =
    now g.row.A.Denot c.self.inside.board.slots c.turn-taken.new.self.slots
    (bytes_of (memory_disk_of c.self.inside.board.image)) (bytes_of (memory_disk_of c.turn-taken.new.self.image))
    (memory_disk_of c.self.inside.board.image).dirty (memory_disk_of c.turn-taken.new.self.image).dirty
    c.self.inside.outputs.items c.self.inside.paused.items c.self.inside.budget c.args.slot
    c.index_mut-output.result.now c.turn-taken.new.out (there g c) (limit g c)
    c.turn-taken.ensures.others c.turn-taken.ensures.stays.extents c.self.invariant.0 c.turn-taken.result.turn

taken : (g : _) (c : goal.After-self-in-Ok-1 g)
    → Turned (before g c) c.args.slot c.args.kind (response_to c.turn-taken.result.turn) (behind g c)
taken g c =
    let t = c.turn-taken in
    turn_taken g.row.A.Denot c.self.inside.board.slots t.new.self.slots _ _ _ _ c.self.inside.outputs.items
    c.self.inside.paused.items c.self.inside.budget c.args.slot c.index_mut-output.result.now t.new.out
    (there g c) (limit g c) t.ensures.others t.ensures.stays.extents c.self.invariant.0
    c.args.kind c.in-Some.paused c.in-Ok.work t.result.turn t.result.block_irq t.result.console_irq
    (rw (← c.self.view_is) at (sym c.waiting.ensures.value ∙ c.in-Some.is)) (sym c.work.ensures ∙ c.in-Ok.is)
    c.requires
    (record {
      takes = t.ensures.takes refl (fits g c);
      within = t.ensures.within _ refl;
      limited = t.ensures.limited;
      bad_slot = t.ensures.bad_slot;
      bad_range_keeps = λ is. rw (t.ensures.bad_range_keeps is) refl;
      no_memory = t.ensures.no_memory;
    })

pub invariant_of-self : goal.invariant_of-self
invariant_of-self g c =
    let many = sym (as_many c.self.inside.board.slots c.turn-taken.new.self.slots
    c.turn-taken.ensures.stays.extents) in (
      length-set c.self.inside.outputs.items c.args.slot c.turn-taken.new.out ∙ (c.self.invariant.0 ∙ many),
      length-set c.self.inside.paused.items c.args.slot c.note-response.new.paused ∙ (c.self.invariant.1 ∙ many),
    )

pub returns-in-Ok-clause-call : goal.returns-in-Ok-clause-call
returns-in-Ok-clause-call g c =
    rw (c.note-response.ensures.told, c.note-response.ensures.paused, ← c.self.view_is) (taken g c).call

pub returns-in-Ok-clause-whole : goal.returns-in-Ok-clause-whole
returns-in-Ok-clause-whole g c =
    rw (c.note-response.ensures.told, c.note-response.ensures.paused, ← c.self.view_is) (taken g c).whole

pub returns-in-Ok-clause-suits : goal.returns-in-Ok-clause-suits
returns-in-Ok-clause-suits g c = rw (c.note-response.ensures.told) (taken g c).suits

pub returns-in-Ok-clause-waits : goal.returns-in-Ok-clause-waits
returns-in-Ok-clause-waits g c =
    turned_waits interrupt_words c.turn-taken.new.self.slots c.self.inside.outputs.items c.args.slot
    c.index_mut-output.result.now c.turn-taken.new.out c.turn-taken.result.block_irq
    c.turn-taken.result.console_irq c.len-output.result
    (omega (
      arith,
      fits g c,
      as_many c.self.inside.board.slots c.turn-taken.new.self.slots
          c.turn-taken.ensures.stays.extents,
    )) (there g c) c.turn-taken.ensures.shown c.len-output.ensures
