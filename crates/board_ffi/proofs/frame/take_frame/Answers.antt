-- What a driver sent is moved out, and dropped.
use Rattle.board_ffi.proofs.Frames.{kept, takes_frame}
use Rattle.board_ffi.proofs.frame.take_frame.Goals as goal

pub returns-in-Ok-clause-taken : goal.returns-in-Ok-clause-taken
returns-in-Ok-clause-taken c = λ room.
    let dropped = c.drop_sent.ensures in
    takes_frame c.args.slot c.args.device c.args.session.now c.drop_sent.new.self c.args.into.now c.copy_sent.new.into
    c.in-Ok.field-0 c.handed.new.taken c.handed.result c.in-Ok.ensures.copied c.drop_sent.result dropped.call
    dropped.refuses.busy dropped.count dropped.taken dropped.never_asks c.handed.ensures.taken c.handed.ensures.number

pub returns-in-Ok-clause-kept : goal.returns-in-Ok-clause-kept
returns-in-Ok-clause-kept c =
    let dropped = c.drop_sent.ensures in
    kept c.args.slot c.args.device c.args.session.now c.drop_sent.new.self c.args.into.now c.copy_sent.new.into
    c.in-Ok.field-0 c.handed.new.taken c.handed.result c.in-Ok.ensures.copied c.drop_sent.result dropped.refuses.bad_slot
    dropped.refuses.busy dropped.refuses.bad_device dropped.refused dropped.never_asks c.handed.ensures.number
