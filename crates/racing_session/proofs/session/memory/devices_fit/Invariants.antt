use Rattle.std.proofs.Common.{[]}
use Rattle.racing_session.proofs.session.memory.devices_fit.Given as goal

-- whatever stands there
abbrev pub ghost-over : goal.ghost-over
ghost-over g a = []
