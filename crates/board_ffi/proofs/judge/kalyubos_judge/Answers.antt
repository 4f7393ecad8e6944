use Rattle.std.proofs.Common.{◌∙◌, ap}
use Rattle.board_ffi.specs.Codes.{fault_code}
use Rattle.board_ffi.specs.Config.{Bad}
use Rattle.board_ffi.proofs.Configs.{sized_told, still_told}
use Rattle.board_ffi.proofs.judge.kalyubos_judge.Goals as goal

pub returns-in-Err-clause-judges : goal.returns-in-Err-clause-judges
returns-in-Err-clause-judges c = λ some. record {
  verdict = Bad c.in-Err.why;
  holds = λ config same. (
    sized_told c.args.config.now config same (c.has_own_size.ensures.0 c.if-not-has_own_size.false)
        (c.are_sized.ensures.0 c.if-not-are_sized.false),
    still_told c.args.config.now config same (c.stand_still.ensures.0 c.if-not-stand_still.false),
    λ want. some (c.of_fault.ensures ∙ ap fault_code want),
    c.in-Err.ensures.fault config same,
  );
  code_is = c.of_fault.ensures;
  slot = c.tell.ensures.slot;
  region = c.tell.ensures.region;
}
