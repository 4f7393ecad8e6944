use Rattle.std.proofs.Common.{◌*◌, arith, length}
use Rattle.std.proofs.lemmas.Nat.{pow_pos}
use Rattle.racing_memory.proofs.Changing.{low_bytes}
use Rattle.racing_memory.proofs.word.number_of.Goals as goal

pub returns : goal.returns
returns c =
    let len = length c.args.bytes.now in
    let masked = low_bytes c.from_le_bytes.result len c.requires.most in
    omega (arith, masked, pow_pos (8 * len))
