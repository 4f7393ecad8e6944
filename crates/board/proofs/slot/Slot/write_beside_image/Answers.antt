use Rattle.std.proofs.Common.{◌≡◌, ℕ, List, [], Some, rules, sym, ap, subst, ◌∙◌, refl}
use Rattle.board.specs.declared.event.EventKind.{EventKind}
use Rattle.board.specs.declared.event.EventKind.TheVariants.{Write}
use Rattle.board.specs.declared.pause.Turn.TheVariants.{Answered}
use Rattle.board.specs.declared.pause.Pause.{Pause}
use Rattle.board.specs.ImageDisks.{image_served_in}
use Rattle.board.specs.Machine.{action_at, task_at, with_write}
use Rattle.board.specs.Pausing.{BeginsOverImage, ServesTurn, asked_by}
use Rattle.board.specs.Slot.{BoardSlot, state_of}
use Rattle.board.specs.Task.{Task, Serve}
use Rattle.board.specs.Within.{BeginsWithinOverImage}
use Rattle.board.specs.World.{TakesMemory}
use Rattle.board.proofs.Beside.{keeps_on, not_block, written_keeps}
use Rattle.board.proofs.Whole.{no_image}
use Rattle.board.proofs.Turns.{begins_by, begins_within, nothing_turn, put_out_turn, put_out_within}
use Rattle.board.proofs.slot.Slot.write_beside_image.Goals as goal

pub returns-in-Serve-Block-clause-keeps : goal.returns-in-Serve-Block-clause-keeps
returns-in-Serve-Block-clause-keeps g c =
    written_keeps c.args.window c.args.offset c.args.width c.args.value _ _
    c.write_registers.ensures.written c.write_registers.ensures.place

pub returns-in-PutOut-clause-keeps : goal.returns-in-PutOut-clause-keeps
returns-in-PutOut-clause-keeps g c =
    rw (c.emergency-put_out.ensures.same)
    (rw (c.self.view_is)
    (written_keeps c.args.window c.args.offset c.args.width c.args.value _ _
    c.write_registers.ensures.written c.write_registers.ensures.place))

pub returns-in-Nothing-clause-keeps : goal.returns-in-Nothing-clause-keeps
returns-in-Nothing-clause-keeps g c =
    written_keeps c.args.window c.args.offset c.args.width c.args.value _ _
    c.write_registers.ensures.written c.write_registers.ensures.place

pub returns-in-Serve-Block-clause-asks : goal.returns-in-Serve-Block-clause-asks
returns-in-Serve-Block-clause-asks g c = λ image.
    ap asked_by (sym (c.write_registers.ensures.task image) ∙ (c.in-Serve-Block.is ∙ ap Serve c.in-Serve-Block.field-0-is))
    ∙ ap (λ (p : Pause). Some p) (sym c.of.ensures)

pub serve_beside_image-requires : goal.serve_beside_image-requires
serve_beside_image-requires g c = record {
  beside = search rules;
  no_image =
      ap (λ (p : Pause). image_served_in p.service c.write_registers.new.self) c.of-in-Serve.ensures
      ∙ no_image c.args.window (action_at c.args.window c.args.offset c.args.width c.args.value
      (state_of [] c.args.self.now)) c.in-Serve.service (state_of [] c.write_registers.new.self)
      (sym (c.write_registers.ensures.task []) ∙ c.in-Serve.is);
}

pub returns-in-Serve : goal.returns-in-Serve
returns-in-Serve g c =
    let written = c.write_registers.ensures in
    let task : (image : List ℕ) → Task =
    λ image. task_at c.args.window c.args.offset c.args.width c.args.value
    (state_of image c.args.self.now) in
    let task_is : (image : List ℕ) → task image ≡ Serve c.in-Serve.service =
    λ image. sym (written.task image) ∙ c.in-Serve.is in
    let what : EventKind g.row.A.Denot = Write c.args.window c.args.offset c.args.width c.args.value in
    let served = c.serve_beside_image in
    let of : c.of-in-Serve.result.service ≡ c.in-Serve.service = ap (λ (p : Pause). p.service) c.of-in-Serve.ensures in
    let asked : (image : List ℕ) → asked_by (task image) ≡ Some c.of-in-Serve.result =
    λ image. ap asked_by (task_is image) ∙ ap (λ (p : Pause). Some p) (sym c.of-in-Serve.ensures) in
    record {
      notified = λ image. not_block (task image) c.in-Serve.service (task_is image)
          (λ is. served.ensures.beside (of ∙ is));
      asks = tt;
      readied = tt;
      silent = tt;
      serves = λ image health.
          begins_by what _ c.args.budget (state_of image c.args.self.now)
          (state_of image c.write_registers.new.self) health health
          (state_of image served.new.self) served.result _ _
          (asked image)
          (written.written image) (served.ensures.serves image health);
      within = λ image limit limited.
          begins_within limit what _ c.args.budget (state_of image c.args.self.now)
          (state_of image c.write_registers.new.self) (state_of image served.new.self) _ _ served.result
          (asked image)
          (written.written image) (served.ensures.within image limit limited);
      limited = served.ensures.limited;
      limit = served.ensures.limit;
      keeps = keeps_on {A = g.row.A.Denot} {what = what} c.args.self.now c.write_registers.new.self served.new.self
          (written_keeps {A = g.row.A.Denot} c.args.window c.args.offset c.args.width c.args.value c.args.self.now
          c.write_registers.new.self written.written written.place)
          served.ensures.block served.ensures.host served.ensures.range served.ensures.place;
      disturbed = served.ensures.disturbed ∙ written.disturbed;
      there = served.ensures.there;
      bad_range = λ refused. absurd (served.ensures.in_range refused);
      no_memory = λ lacking image.
          let state = state_of image c.args.self.now in
          let found = served.ensures.no_memory lacking refl in
          subst (λ (t : Task). TakesMemory t (with_write c.args.window c.args.offset c.args.width c.args.value
          state)) (sym (task_is image ∙ ap Serve (sym of ∙ found.0)))
          (rw (← written.written image) found.1);
    }

pub returns-in-PutOut-clause-serves : goal.returns-in-PutOut-clause-serves
returns-in-PutOut-clause-serves g c = λ image health.
    let state = state_of image c.args.self.now in
    let what : EventKind g.row.A.Denot = Write c.args.window c.args.offset c.args.width c.args.value in
    rw (c.emergency-put_out.ensures.same)
    (subst (λ (slot : BoardSlot). ServesTurn (BeginsOverImage what c.args.budget) state health health
    (state_of image slot) (Answered c.reply_to.result) (g.O.Outlet.bytes c.args.out.now)
    (g.O.Outlet.bytes c.emergency-put_out.new.out)) (sym c.self.view_is)
    (rw (c.write_registers.ensures.written image) (put_out_turn state c.args.window c.args.offset c.args.width
    c.args.value c.in-PutOut.byte c.args.budget health _ _ c.emergency-put_out.result c.reply_to.result
    (sym (c.write_registers.ensures.task image) ∙ c.in-PutOut.is)
    c.emergency-put_out.ensures.ok c.emergency-put_out.ensures.err c.reply_to.ensures.done
    c.reply_to.ensures.no_memory)))

pub returns-in-PutOut-clause-within : goal.returns-in-PutOut-clause-within
returns-in-PutOut-clause-within g c = λ image limit limited.
    let state = state_of image c.args.self.now in
    let what : EventKind g.row.A.Denot = Write c.args.window c.args.offset c.args.width c.args.value in
    rw (c.emergency-put_out.ensures.same)
    (subst (λ (slot : BoardSlot). BeginsWithinOverImage limit what c.args.budget state (state_of image slot)
    (g.O.Outlet.bytes c.args.out.now) (g.O.Outlet.bytes c.emergency-put_out.new.out)
    (Answered c.reply_to.result)) (sym c.self.view_is)
    (rw (c.write_registers.ensures.written image)
    (put_out_within limit (g.O.Outlet.limit c.args.out.now) state c.args.window c.args.offset c.args.width
    c.args.value c.in-PutOut.byte c.args.budget _ _ c.emergency-put_out.result c.reply_to.result limited
    (sym (c.write_registers.ensures.task image) ∙ c.in-PutOut.is)
    c.emergency-put_out.ensures.ok c.emergency-put_out.ensures.fits c.emergency-put_out.ensures.err
    c.emergency-put_out.ensures.refused c.reply_to.ensures.done c.reply_to.ensures.no_memory)))

pub returns-in-Nothing-clause-serves : goal.returns-in-Nothing-clause-serves
returns-in-Nothing-clause-serves g c = λ image health.
    let state = state_of image c.args.self.now in
    rw (c.write_registers.ensures.written image)
    (nothing_turn state c.args.window c.args.offset c.args.width c.args.value c.args.budget health _
    (sym (c.write_registers.ensures.task image) ∙ c.in-Nothing.is))
