-- Runs: where places of one of a chain's two lists lie in guest memory (2.7.4), for somebody who moves their
-- bytes in place. Each run is a part of one buffer. Neighbours aren't joined, and none is empty.
use Rattle.std.specs.Prelude.{ℕ, ◌+◌, ◌-◌, nat_lt, min, Bool, List, [], ◌∷◌}
use Rattle.std.specs.List.{filter}
use Rattle.chain.specs.declared.segment.Segment.{Segment}

-- what a segment has of the places from `from` up to `to`, counted from its first one
abbrev pub cut : ℕ → ℕ → Segment → Segment
cut from to s = record { addr = s.addr + from; len = min to s.len - from }

-- the same of segments one after another, whose places go on from each to the next
abbrev pub cuts : ℕ → ℕ → List Segment → List Segment
cuts from to [] = []
cuts from to (s ∷ segments) = cut from to s ∷ cuts (from - s.len) (to - s.len) segments

abbrev pub has_bytes : Segment → Bool
has_bytes s = nat_lt 0 s.len

-- the runs of the places from `from` up to `to`
abbrev pub runs_of : ℕ → ℕ → List Segment → List Segment
runs_of from to segments = filter has_bytes (cuts from to segments)
