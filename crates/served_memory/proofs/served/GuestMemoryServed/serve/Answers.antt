use Rattle.served_memory.proofs.Leaving.{left_as}
use Rattle.served_memory.proofs.served.GuestMemoryServed.serve.Goals as goal

pub returns-clause-leaves : goal.returns-clause-leaves
returns-clause-leaves g c = left_as _ _ _ _ _ _ _ _ _ _ _ _ c.serve_piece.result c.serve_piece.ensures.leaves
