use Rattle.std.proofs.Common.{[], sym, subst}
use Rattle.std.specs.Prelude.{IsSome}
use Rattle.board.specs.Slot.{BoardSlot, state_of}
use Rattle.board.proofs.AtDevice.{hosted_serves_none}
use Rattle.board.proofs.Hosts.{goes_on, serves_on}
use Rattle.board.proofs.guest.Guest.resume_hosted.Goals as goal

pub serve_beside_image-requires-clause-no_image : goal.serve_beside_image-requires-clause-no_image
serve_beside_image-requires-clause-no_image g c =
    hosted_serves_none c.args.pause.service (state_of [] c.self.inside.slot)
    (subst (λ (s : BoardSlot). IsSome s.host) (sym c.self.view_is) c.requires.hosted)

pub returns-in-Receive : goal.returns-in-Receive
returns-in-Receive g c =
    let served = c.serve_beside_image.ensures in
    let slot = c.self.inside.slot in
    rw (← c.self.view_is)
    (record {
      serves = λ image health.
          serves_on c.args.pause c.args.budget (state_of image slot) health health
          (state_of image c.serve_beside_image.new.self) c.serve_beside_image.result _ _
          (goes_on slot.host c.args.pause.service served.beside) (served.serves image health);
      within = served.within;
      limited = served.limited;
      limit = served.limit;
      place = served.place;
      disturbed = served.disturbed;
      there = served.there;
      in_range = served.in_range;
    })
