-- The formats of a trace: the plain one, in two versions, and the extended one.
use Rattle.std.specs.Prelude.{◌≡◌, ◌≢◌, ℕ, ⊤, List, [], ◌++◌, codes, replicate}
use Rattle.trace.specs.declared.format.Format.{Format}
use Rattle.trace.specs.declared.format.Format.TheVariants.{Plain, Extended}
use Rattle.trace.specs.declared.format.Version.TheVariants.{One, Two}

abbrev pub IsExtended : Format → Type 0
IsExtended format = format ≡ Extended

-- what all but version 1 have
abbrev pub unless_version_1 : {X : Type 0} → Format → List X → List X
unless_version_1 (Plain One) xs = []
unless_version_1 (Plain Two) xs = xs
unless_version_1 Extended xs = xs

-- what the extended format alone has
abbrev pub if_extended : {X : Type 0} → Format → List X → List X
if_extended (Plain version) xs = []
if_extended Extended xs = xs

-- the identity of each slot of a version 1 trace, whose lines leave it out: a text, and NULs up to 20 bytes
abbrev pub identity_in_version_1 : List ℕ
identity_in_version_1 = codes "vreplay-block" ++ replicate 7 0

-- the second format has all that the first has, and a slot's identity where the first leaves it out
abbrev pub GoesInto : Format → Format → Type 0
GoesInto format (Plain One) = format ≡ Plain One
GoesInto format (Plain Two) = format ≢ Extended
GoesInto format Extended = ⊤
