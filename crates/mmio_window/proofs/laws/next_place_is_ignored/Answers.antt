use Rattle.mmio_window.proofs.Notifying as notifying
use Rattle.mmio_window.proofs.laws.next_place_is_ignored.Goals as goal

pub returns-clause-same : goal.returns-clause-same
returns-clause-same c = notifying.next_place_is_ignored

pub returns-clause-keeps : goal.returns-clause-keeps
returns-clause-keeps c = notifying.notification_keeps_registers
