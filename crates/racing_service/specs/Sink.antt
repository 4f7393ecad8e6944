-- The smallest device: it takes each chain, and writes nothing.
use Rattle.std.specs.Prelude.{◌≡◌, true, None, replicate}
use Rattle.chain.specs.Service.{Device}

abbrev pub sink : Device (Unit {0})
sink = record {
  takes = λ state. true;
  Gives = λ state readable w given. given.written ≡ replicate w None;
  LacksMemory = λ state readable w. ⊥;
}
