use Rattle.block_device.proofs.Looking.{done_looks, look_joins, never_cut}
use Rattle.block_device.proofs.laws.pieces_are_one_look.Goals as goal

pub returns-clause-pauses : goal.returns-clause-pauses
returns-clause-pauses c = λ device stage budget old mid new asked later h looks.
    look_joins device stage budget old asked mid later new h looks

pub returns-clause-ends : goal.returns-clause-ends
returns-clause-ends c = λ device stage budget old new asked h. done_looks device stage budget old asked new h

pub returns-clause-whole : goal.returns-clause-whole
returns-clause-whole c = λ device stage progress old new asked h. never_cut device stage progress old asked new h
