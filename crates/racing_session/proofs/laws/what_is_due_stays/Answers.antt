use Rattle.std.proofs.Common.{true, ◌≡◌, subst, sym}
use Rattle.racing_guest.specs.declared.reply.GuestQueue.TheVariants.{Block, Receive}
use Rattle.racing_session.specs.Due.{is_due}
use Rattle.racing_session.specs.Session.{RacingSession}
use Rattle.racing_session.proofs.Owing.{no_other, stays_after, stays_by}
use Rattle.racing_session.proofs.laws.what_is_due_stays.Goals as goal

pub returns-clause-write : goal.returns-clause-write
returns-clause-write c = λ queue stood window offset width value old new answer writes is.
    subst (λ (s : RacingSession). is_due queue s.due ≡ true) (sym writes.rest) (stays_after queue writes.reply old.due is)

pub returns-clause-input : goal.returns-clause-input
returns-clause-input c = λ queue stood bytes old new progress typed is.
    subst (λ (s : RacingSession). is_due queue s.due ≡ true) (sym typed.rest) (stays_by queue Receive typed.so_far old.due is)

pub returns-clause-told : goal.returns-clause-told
returns-clause-told c = λ queue stood said old new progress told is.
    subst (λ (s : RacingSession). is_due queue s.due ≡ true) (sym told.rest) (stays_by queue Block told.so_far old.due is)

pub returns-clause-go_on : goal.returns-clause-go_on
returns-clause-go_on c = λ queue stood old new answer goes is. no_other queue stood old new answer goes is
