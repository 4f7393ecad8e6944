use Rattle.block_device.proofs.WholeLooks.{piece_of_look_once}
use Rattle.block_device.proofs.laws.one_piece_of_a_look.Goals as goal

pub returns : goal.returns
returns c = λ device stage budget x y old one other asked others p q.
    let same = piece_of_look_once device stage budget x y old asked others one other p q in
    (same.progress, same.asked_is, same.queue)
