use Rattle.std.proofs.Common.{refl}
use Rattle.chain.specs.Service.{Faulted}
use Rattle.racing_service.specs.Service.{Met}
use Rattle.racing_service.proofs.Rounds.{all_services, one_service, settled_there}
use Rattle.shared_memory.specs.Sightings.{memory}
use Rattle.racing_window.proofs.Rings.{queue_stands_still}
use Rattle.racing_window.proofs.Sizes.{is_sound}
use Rattle.racing_window.proofs.laws.a_queue_that_stands_still_is_served_by_services.Goals as goal

pub returns-clause-rounds : goal.returns-clause-rounds
returns-clause-rounds g c = λ setup rounds a b lies some r.
    (all_services queue_stands_still (g.D.ChainHandler.device setup) rounds a b
    (is_sound (memory a.sightings) a.ring lies some) r).services

pub returns-clause-broken : goal.returns-clause-broken
returns-clause-broken g c = λ setup fault wanted a b lies some r.
    (one_service queue_stands_still (g.D.ChainHandler.device setup) (Met fault) (Faulted fault) a b wanted refl
    (is_sound (memory a.sightings) a.ring lies some) r).service

pub returns-clause-look : goal.returns-clause-look
returns-clause-look g c = λ setup rounds wanted a at b r s.
    settled_there queue_stands_still (g.D.ChainHandler.device setup) rounds a at b wanted r s
