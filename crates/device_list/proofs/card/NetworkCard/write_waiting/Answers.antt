use Rattle.std.proofs.Common.{◌∙◌, ℕ, List, ap, arith, subst}
use Rattle.network_device.specs.declared.limits.Limits.{Limits}
use Rattle.network_device.specs.Frames.{IsWithin}
use Rattle.device_list.specs.Card.{Card, card_limits}
use Rattle.device_list.proofs.Refilling.{card_back}
use Rattle.device_list.proofs.card.NetworkCard.write_waiting.Goals as goal

pub returns-clause-back : goal.returns-clause-back
returns-clause-back g c rest =
    let card = c.args.self.now in
    let dropped = c.dropped-of_host in
    let to_driver = subst (λ (l : Limits). IsWithin l c.frames-2.result.now.frames)
    (c.frames-2.ensures.limits ∙ c.self.invariant.0.1) c.save.ensures.within in
    let to_host = subst (λ (l : Limits). IsWithin l c.self.inside.sent.frames) c.self.invariant.1
    c.save-2.ensures.within in
    (card_back card (record {
      of_host = omega (arith, dropped.ensures.received, dropped.type_inv, ap (λ (k : Card). k.network.waiting.dropped) c.self.view_is);
      of_driver = omega (arith, dropped.ensures.transmitted, dropped.type_inv, ap (λ (k : Card). k.network.dropped) c.self.view_is);
      to_driver = subst (λ (frames : List (List ℕ)). IsWithin card_limits frames)
          (c.frames-2.ensures.frames ∙ ap (λ (k : Card). k.network.waiting.frames) c.self.view_is) to_driver;
      to_host = subst (λ (frames : List (List ℕ)). IsWithin card_limits frames)
          (ap (λ (k : Card). k.sent) c.self.view_is) to_host;
    })).back rest
