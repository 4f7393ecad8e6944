use Rattle.block_device.proofs.Requests.{gives_once}
use Rattle.block_device.proofs.SomeAnswer.{some_answer}
use Rattle.block_device.proofs.laws.one_answer.Goals as goal

pub returns-clause-at_most_one : goal.returns-clause-at_most_one
returns-clause-at_most_one c = gives_once

pub returns-clause-some : goal.returns-clause-some
returns-clause-some c = some_answer
