use Rattle.board_ffi.proofs.Writing.{may_ask_at_end}
use Rattle.board_ffi.proofs.registers.write_device.Goals as goal

pub returns-clause-writes : goal.returns-clause-writes
returns-clause-writes c =
    may_ask_at_end c.args.slot _ _ c.write_device.result c.of_served-answer.result c.args.session.now
    c.write_device.new.self c.of_served-answer.ensures.number c.write_device.ensures.call c.write_device.ensures.asks
