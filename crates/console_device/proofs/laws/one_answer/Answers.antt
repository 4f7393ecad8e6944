use Rattle.console_device.proofs.Services.{receive_once, transmit_once, length-received, length-transmitted}
use Rattle.console_device.proofs.laws.one_answer.Goals as goal

pub returns : goal.returns
returns c = record {
  receive = receive_once;
  transmit = transmit_once;
  received = length-received;
  transmitted = length-transmitted;
}
