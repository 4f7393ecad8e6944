use Rattle.std.proofs.Common.{arith}
use Rattle.snapshot.proofs.More.{more_read}
use Rattle.snapshot.proofs.reader.Reader.+more_devices.Goals as goal

pub returns : goal.returns
returns t c =
    more_read c.args.devices.items c.push.new.self.items c.args.count c.args.self.now.left.now
    c.device.new.self.left.now c.in_ok-device.field-0 c.more_devices.result c.more_devices.new.self.left.now
    (let some = c.if-count-eq0.false in omega arith) c.push.ensures.items c.in_ok-device.ensures
    c.more_devices.ensures
