use Rattle.std.proofs.Common.{arith}
use Rattle.racing_session.proofs.Serving.{owed_past, owed_there}
use Rattle.racing_session.proofs.further.owe.Goals as goal

pub returns-then-place-ge-MOST_DEVICES : goal.returns-then-place-ge-MOST_DEVICES
returns-then-place-ge-MOST_DEVICES c =
    owed_past c.args.device c.args.queue c.args.progress c.args.due.now
    (omega (arith, c.told-due, c.from-place.ensures, c.if-place-ge-MOST_DEVICES.true))

pub returns : goal.returns
returns c =
    owed_there c.args.device c.from-place.result c.args.queue c.args.progress c.args.due.now _ c.by.result c.from-place.ensures
    (omega (arith, c.told-due, c.if-place-ge-MOST_DEVICES.false)) c.by.ensures
