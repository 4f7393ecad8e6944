use Rattle.board.proofs.Lasting.{answers, becomes, never_at_once, told_by}
use Rattle.board.proofs.laws.a_guest_is_told_what_its_host_says.Goals as goal

pub returns-clause-at_once : goal.returns-clause-at_once
returns-clause-at_once g c = never_at_once

pub returns-clause-becomes : goal.returns-clause-becomes
returns-clause-becomes g c = becomes

pub returns-clause-answered : goal.returns-clause-answered
returns-clause-answered g c = answers

pub returns-clause-told : goal.returns-clause-told
returns-clause-told g c = told_by
