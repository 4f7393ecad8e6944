use Rattle.std.proofs.Common.{◌-◌, arith}
use Rattle.chain.specs.Bytes.{segments_of}
use Rattle.chain.proofs.Cutting.{runs_few, runs_inside, runs_listed, runs_some}
use Rattle.chain.proofs.Directions.{All-segments_of}
use Rattle.chain.proofs.laws.runs_are_of_their_places.Goals as goal

pub returns-clause-places : goal.returns-clause-places
returns-clause-places c writable buffers from to fits =
    runs_listed (to - from) (segments_of writable buffers) from to (omega arith) fits

pub returns-clause-inside : goal.returns-clause-inside
returns-clause-inside c m writable buffers from to a =
    runs_inside m (segments_of writable buffers) from to (All-segments_of m writable buffers a)

pub returns-clause-some : goal.returns-clause-some
returns-clause-some c writable buffers from to = runs_some (segments_of writable buffers) from to

pub returns-clause-few : goal.returns-clause-few
returns-clause-few c writable buffers from to = runs_few writable buffers from to
