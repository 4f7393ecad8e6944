use Rattle.std.proofs.Common.{refl}
use Rattle.chain.specs.Service.{Faulted}
use Rattle.racing_service.specs.Service.{Met}
use Rattle.racing_service.proofs.Rings.{packed_stands_still}
use Rattle.racing_service.proofs.Rounds.{all_services, left_service, one_service, one_settled, settled_there}
use Rattle.racing_service.proofs.laws.a_packed_ring_that_stands_still_is_served_by_services.Goals as goal

pub returns-clause-rounds : goal.returns-clause-rounds
returns-clause-rounds g c = λ setup rounds a b some r.
    (all_services packed_stands_still (g.D.ChainHandler.device setup) rounds a b (record { some = some }) r).services

pub returns-clause-broken : goal.returns-clause-broken
returns-clause-broken g c = λ setup fault wanted a b some r.
    (one_service packed_stands_still (g.D.ChainHandler.device setup) (Met fault) (Faulted fault) a b wanted refl
    (record { some = some }) r).service

pub returns-clause-left : goal.returns-clause-left
returns-clause-left g c = λ setup backend buffers entry why wanted a at b some lacks r closing.
    left_service packed_stands_still (g.D.ChainHandler.device setup) (g.D.ChainHandler.Refuses setup backend) buffers entry why
    lacks a at b wanted (record { some = some }) r closing

pub returns-clause-look : goal.returns-clause-look
returns-clause-look g c = λ setup rounds wanted a at b r s.
    settled_there packed_stands_still (g.D.ChainHandler.device setup) rounds a at b wanted r s

pub returns-clause-one : goal.returns-clause-one
returns-clause-one g c = λ setup most wanted a b r service some only.
    one_settled packed_stands_still (g.D.ChainHandler.device setup) most a b wanted r service (record { some = some }) only
