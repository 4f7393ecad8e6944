-- the loans before this place are as long as the regions before it
use Rattle.std.proofs.Common.{◌≡◌, take}
use Rattle.session.proofs.Loans.{lens}
use Rattle.board_ffi.specs.Config.{told_lens}
use Rattle.board_ffi.proofs.loans.begin_as_long.Given as goal

abbrev pub invariant-loop-place : goal.invariant-loop-place
invariant-loop-place l = told_lens (take l.place l.loans) ≡ lens (take l.place l.regions)
