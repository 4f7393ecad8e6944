use Rattle.replay.proofs.running.do_in_place.Goals as goal

pub returns : goal.returns
returns g c =
    let stays = c.do_in_place.ensures.stays in
    record {
      answers = c.do_in_place.ensures.step;
      keeps = record { tells = stays.tells; extents = stays.extents };
    }
