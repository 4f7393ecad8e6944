use Rattle.std.proofs.Common.{refl}
use Rattle.test_support.specs.WriteBack.{number_of}
use Rattle.test_support.proofs.WriteBacks.{begins}
use Rattle.test_support.proofs.laws.a_cut_event_over_a_write_cache.Goals as goal

pub returns-clause-known : goal.returns-clause-known
returns-clause-known g c = λ old new slot own other bytes left touches here apart only past.
    c.a_cut_event_touches_no_other_disk.ensures.known old new slot (number_of old.image) own other bytes left
    touches here apart only (begins old.image) past

pub returns-clause-seen : goal.returns-clause-seen
returns-clause-seen g c = λ old new slot own other left touches here apart clean past.
    c.a_cut_event_touches_no_other_disk.ensures.seen old new slot (number_of old.image) own other left touches
    here apart refl clean (begins old.image) past
