-- Whether areas lie in a memory hangs on its addresses alone, and is tested.
use Rattle.std.proofs.Common.{◌≡◌, Bool, true, false, arith}
use Rattle.std.specs.Prelude.{◌&&◌}
use Rattle.std.proofs.lemmas.Bool.Decides.{nat_tests}
use Rattle.guest_memory.specs.Memory.{Memory, SameRange}
use Rattle.guest_memory.proofs.Ranges.{inside_same, is_inside-tells}
use Rattle.chain.specs.declared.setup.Setup.{Setup}
use Rattle.chain.specs.declared.setup.Areas.{Areas}
use Rattle.chain.specs.Setup.{FitsIn, LiesIn, fits_in}

pub LiesIn-from_SameRange : (m m' : Memory) (setup : Setup) (areas : Areas) → SameRange m m'
    → LiesIn m setup areas → LiesIn m' setup areas
LiesIn-from_SameRange m m' setup areas same lies = record {
  desc = inside_same m m' setup.desc areas.desc same lies.desc;
  driver = inside_same m m' setup.driver areas.driver same lies.driver;
  device = inside_same m m' setup.device areas.device same lies.device;
}

fits : (m : Memory) (setup : Setup) (areas : Areas) → fits_in m setup areas ≡ true → FitsIn m setup areas
fits m setup areas test = record {
  aligned = record {
    desc = grind (arith, nat_tests);
    driver = grind (arith, nat_tests);
    device = grind (arith, nat_tests);
  };
  lies = record {
    desc = (is_inside-tells m setup.desc areas.desc).0 (grind (arith, nat_tests));
    driver = (is_inside-tells m setup.driver areas.driver).0 (grind (arith, nat_tests));
    device = (is_inside-tells m setup.device areas.device).0 (grind (arith, nat_tests));
  };
}

-- areas of a ring whose size and areas pass their tests lie in the memory
pub LiesIn-from_test : (m : Memory) (setup : Setup) (areas : Areas) (is_size : Bool)
    → is_size && fits_in m setup areas ≡ true → LiesIn m setup areas
LiesIn-from_test m setup areas true test = (fits m setup areas test).lies
LiesIn-from_test m setup areas false test = cc
