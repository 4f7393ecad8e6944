use Rattle.hosted_disk.proofs.One.{piece_disk}
use Rattle.hosted_disk.proofs.laws.one_piece.Goals as goal

pub returns : goal.returns
returns c = λ stage budget x y disk one other q m n o u v w p r.
    let same = piece_disk stage budget x y disk one other q m n o u v w p r in
    (same.progress, (same.ends.memory, (same.ends.window, same.ends.state)))
