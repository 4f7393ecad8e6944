use Rattle.chain_handler.proofs.Doing.{used_len-none}
use Rattle.console_device.proofs.Services.{used_len-received}
use Rattle.console_device.proofs.laws.used_len_counts_what_was_received.Goals as goal

pub returns-clause-received : goal.returns-clause-received
returns-clause-received c = used_len-received

pub returns-clause-transmitted : goal.returns-clause-transmitted
returns-clause-transmitted c = λ out readable w. used_len-none w
