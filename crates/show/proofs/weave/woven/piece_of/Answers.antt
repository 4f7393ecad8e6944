use Rattle.std.proofs.Common.{false, length, sym, subst, le_refl, take_all}
use Rattle.show.specs.Woven.{IsPiece}
use Rattle.show.proofs.Weaving.{piece_to_end, piece_to_line}
use Rattle.show.proofs.weave.woven.piece_of.Goals as goal

pub returns-in-Some-clause-piece : goal.returns-in-Some-clause-piece
returns-in-Some-clause-piece c = piece_to_line c.args.bytes.now c.in-Some.i c.in-Some.ensures

pub returns-in-None-clause-piece : goal.returns-in-None-clause-piece
returns-in-None-clause-piece c =
    let bytes = c.args.bytes.now in
    subst (λ piece. IsPiece piece false) (sym (take_all (length bytes) bytes (le_refl _)))
    (piece_to_end bytes c.in-None.ensures)
