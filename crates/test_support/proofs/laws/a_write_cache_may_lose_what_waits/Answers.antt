use Rattle.test_support.proofs.WriteBacks.{begins, clean_only, loses, ones}
use Rattle.test_support.proofs.laws.a_write_cache_may_lose_what_waits.Goals as goal

pub returns-clause-loses : goal.returns-clause-loses
returns-clause-loses g c = λ image sector bytes waits inside long.
    loses image.memory.bytes.items image.waiting.items sector bytes waits inside long

pub returns-clause-ones : goal.returns-clause-ones
returns-clause-ones g c = ones

pub returns-clause-keeps : goal.returns-clause-keeps
returns-clause-keeps g c = λ image clean left may. clean_only image clean left may

pub returns-clause-begins : goal.returns-clause-begins
returns-clause-begins g c = begins
