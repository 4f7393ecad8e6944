use Rattle.block_device.proofs.Requests.{gives_counted, gives_exact}
use Rattle.block_device.proofs.laws.one_failure_at_most.Goals as goal

pub returns-clause-counted : goal.returns-clause-counted
returns-clause-counted c = gives_counted

pub returns-clause-exact : goal.returns-clause-exact
returns-clause-exact c = gives_exact
