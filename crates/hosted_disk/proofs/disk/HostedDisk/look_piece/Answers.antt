use Rattle.std.proofs.Common.{false}
use Rattle.hosted_disk.proofs.Windows.{piece_keeps}
use Rattle.hosted_disk.proofs.disk.HostedDisk.look_piece.Goals as goal

pub returns-clause-kind : goal.returns-clause-kind
returns-clause-kind g c = (piece_keeps false _ _ _ _ _ _ c.look_piece.ensures.looks).kind

pub returns-clause-offered : goal.returns-clause-offered
returns-clause-offered g c = (piece_keeps false _ _ _ _ _ _ c.look_piece.ensures.looks).offered
