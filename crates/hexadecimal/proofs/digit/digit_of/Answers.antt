use Rattle.std.proofs.Common.{refl}
use Rattle.hexadecimal.specs.Spelling.{digit}
use Rattle.hexadecimal.proofs.digit.digit_of.Goals as goal

pub returns : goal.returns
unfolding digit
returns c = refl
