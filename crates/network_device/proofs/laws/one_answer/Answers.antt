use Rattle.network_device.proofs.Answering.{receive_once, transmit_once}
use Rattle.network_device.proofs.laws.one_answer.Goals as goal

pub returns-clause-receive : goal.returns-clause-receive
returns-clause-receive c = receive_once

pub returns-clause-transmit : goal.returns-clause-transmit
returns-clause-transmit c = transmit_once
