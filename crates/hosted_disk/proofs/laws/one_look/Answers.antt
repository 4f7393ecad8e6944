use Rattle.hosted_disk.proofs.One.{serve_disk}
use Rattle.hosted_disk.proofs.laws.one_look.Goals as goal

pub returns : goal.returns
returns c = λ disk one other q m n o u v w x y.
    let same = serve_disk disk one other q m n o u v w x y in (same.memory, (same.window, same.state))
