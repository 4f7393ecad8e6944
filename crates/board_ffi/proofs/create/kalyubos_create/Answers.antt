use Rattle.board_ffi.proofs.Configs.{made_by, refused_by}
use Rattle.board_ffi.proofs.create.kalyubos_create.Goals as goal

pub returns-in-Ok-clause-verdict : goal.returns-in-Ok-clause-verdict
returns-in-Ok-clause-verdict c = λ empty.
    made_by c.args.config.now (c.is_sized.ensures.0 c.if-not-is_sized.false)
    (c.stand_still.ensures.0 c.if-not-stand_still.false) c.in-Ok.ensures.good

pub returns-in-Err-clause-verdict : goal.returns-in-Err-clause-verdict
returns-in-Err-clause-verdict c = λ empty.
    refused_by c.args.config.now c.in-Err.why c.of_fault.result c.of_fault.ensures
    (c.is_sized.ensures.0 c.if-not-is_sized.false) (c.stand_still.ensures.0 c.if-not-stand_still.false)
    c.in-Err.ensures.fault
