use Rattle.standing_guest.proofs.Keeping.{own_served, own_told, own_written}
use Rattle.standing_guest.proofs.laws.a_disk_stays_its_own.Goals as goal

pub returns-clause-write : goal.returns-clause-write
returns-clause-write c = own_written

pub returns-clause-serve_again : goal.returns-clause-serve_again
returns-clause-serve_again c = own_served

pub returns-clause-told : goal.returns-clause-told
returns-clause-told c = own_told
