use Rattle.mmio_window.proofs.Ahead.{AreAhead-landed, AreAhead-launched, AreAhead-past, AreAll-landed, AreAll-launched, ahead_past, is_ahead_in}
use Rattle.mmio_window.proofs.laws.what_is_in_flight_is_ahead.Goals as goal

pub returns-clause-launched : goal.returns-clause-launched
returns-clause-launched c = λ queue tags tag t there are free taken.
    AreAhead-launched queue tags tag t there are free taken

pub returns-clause-each : goal.returns-clause-each
returns-clause-each c = λ queue tags tag t there are is. is_ahead_in queue tags tag t there are is

pub returns-clause-landed : goal.returns-clause-landed
returns-clause-landed c = λ queue tags tag t there are is. AreAhead-landed queue tags tag t there are is

pub returns-clause-served : goal.returns-clause-served
returns-clause-served c = λ queue tags entry are. AreAhead-past queue entry tags are

pub returns-clause-all_launched : goal.returns-clause-all_launched
returns-clause-all_launched c = λ queue tags tag t there all free taken.
    AreAll-launched queue tags tag t there all free taken

pub returns-clause-all_landed : goal.returns-clause-all_landed
returns-clause-all_landed c = λ queue tags tag t there all are is. AreAll-landed queue tags tag t there all is are

pub returns-clause-none_served : goal.returns-clause-none_served
returns-clause-none_served c = λ queue entry. ahead_past queue entry
