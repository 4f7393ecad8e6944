use Rattle.test_support.specs.WriteBack.{number_of}
use Rattle.test_support.proofs.WriteBacks.{begins}
use Rattle.test_support.proofs.laws.a_cut_request_over_a_write_cache.Goals as goal

pub returns-clause-known : goal.returns-clause-known
returns-clause-known g c = λ device start at chains sector bytes left serves only past other.
    c.a_cut_request_touches_its_own_sectors.ensures.known device start at chains (number_of start.state) sector
    bytes left serves only (begins start.state) past other

pub returns-clause-contents : goal.returns-clause-contents
returns-clause-contents g c = λ device start at chains sector left serves clean past other.
    c.a_cut_request_touches_its_own_sectors.ensures.contents device start at chains (number_of start.state) sector
    left serves clean (begins start.state) past other

pub returns-clause-lasts : goal.returns-clause-lasts
returns-clause-lasts g c = λ device start at answered later sector left serves committed past other.
    c.a_cut_request_touches_its_own_sectors.ensures.lasts device start at answered later
    (number_of answered.given.state) sector left serves committed (begins answered.given.state) past other
