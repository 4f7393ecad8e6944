use Rattle.block_device.proofs.Durable.{committed_clean, serves_clean}
use Rattle.block_device.proofs.laws.an_answered_write_is_flushed.Goals as goal

pub returns-clause-clean : goal.returns-clause-clean
returns-clause-clean c = serves_clean

pub returns-clause-flushed : goal.returns-clause-flushed
returns-clause-flushed c = committed_clean
