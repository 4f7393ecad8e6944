use Rattle.std.proofs.Common.{arith}
use Rattle.std.proofs.lemmas.Grind.{common_steps}
use Rattle.mmio_window.specs.contracts.window.Window.{the_view}
use Rattle.mmio_window.proofs.Saving.{window-back}
use Rattle.mmio_window.proofs.window.Window.saved.Goals as goal

pub returns-clause-back : goal.returns-clause-back
returns-clause-back c = λ m.
    rw (← c.self.view_is) (λ sound.
    window-back m (the_view c.self.inside)
    (record {
      negotiation = record { offered = c.bits.result; status = c.bits-2.result; accepted = c.bits-3.result };
      selectors = record {
        device_features = c.self.inside.device_features_sel;
        driver_features = c.self.inside.driver_features_sel;
        queue = c.self.inside.queue_sel;
        shm = c.self.inside.shm_sel;
      };
      queue_0 = c.saved.result;
      queue_1 = c.saved-2.result;
      interrupts = c.self.inside.interrupts;
      config_generation = c.self.inside.config_generation;
    }) (grind (arith, common_steps)) c.accepted.ensures.stands
    (rw c.saved.ensures.value at (c.saved.ensures.back m c.self.inside.negotiation sound.queue_0))
    (rw c.saved-2.ensures.value at (c.saved-2.ensures.back m c.self.inside.negotiation sound.queue_1)))
