-- the runs before this place are as long as the regions before it
use Rattle.std.proofs.Common.{◌≡◌, ◌*◌, length, map, take}
use Rattle.std.specs.Vec.{vec_items}
use Rattle.racing_session.proofs.memory.are_words_of.Given as goal

abbrev pub invariant-loop-place : goal.invariant-loop-place
invariant-loop-place l = map (λ run. 8 * length run) (map vec_items (take l.place l.words))
    ≡ map (λ region. region.len) (take l.place l.regions)
