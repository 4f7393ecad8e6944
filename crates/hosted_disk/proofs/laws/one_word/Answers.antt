use Rattle.hosted_disk.proofs.One.{tell_disk}
use Rattle.hosted_disk.proofs.laws.one_word.Goals as goal

pub returns : goal.returns
returns c = λ said disk one other m n o u v w x y.
    let same = tell_disk said disk one other m n o u v w x y in (same.memory, (same.window, same.state))
