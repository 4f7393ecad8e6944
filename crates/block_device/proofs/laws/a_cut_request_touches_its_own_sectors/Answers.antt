use Rattle.block_device.proofs.Touching.{chains_known, chains_last, chains_seen, chains_leave_contents, chains_touch}
use Rattle.block_device.proofs.laws.a_cut_request_touches_its_own_sectors.Goals as goal

pub returns-clause-served : goal.returns-clause-served
returns-clause-served g c = λ device start at chains serves.
    chains_seen g.I.Image.disk g.I.Image.moment g.I.Image.may_leave g.I.Image.left_since device
    start at chains serves

pub returns-clause-touches : goal.returns-clause-touches
returns-clause-touches g c = λ device start at chains serves.
    chains_touch g.I.Image.disk g.I.Image.moment g.I.Image.may_leave g.I.Image.left_since device
    start at chains serves

pub returns-clause-known : goal.returns-clause-known
returns-clause-known g c = λ device start at chains since sector bytes left serves only begins past other.
    chains_known g.I.Image.disk g.I.Image.moment g.I.Image.may_leave g.I.Image.left_since device start at
    chains since sector left serves begins past other bytes only

pub returns-clause-contents : goal.returns-clause-contents
returns-clause-contents g c = λ device start at chains since sector left serves clean begins past other.
    chains_leave_contents g.I.Image.disk g.I.Image.moment g.I.Image.may_leave
    g.I.Image.left_since device start at
    chains since sector left serves begins past other (g.met.I.Image.durable start.state) clean

pub returns-clause-lasts : goal.returns-clause-lasts
returns-clause-lasts g c =
    λ device start at answered later since sector left serves committed begins past other.
    chains_last g.I.Image.disk g.I.Image.moment g.I.Image.may_leave g.I.Image.left_since device start at
    answered later since sector left serves committed begins past other
    (g.met.I.Image.durable answered.given.state)
