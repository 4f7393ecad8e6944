use Rattle.std.proofs.Common.{sym}
use Rattle.negotiation.specs.Features.{feature_bits}
use Rattle.negotiation.specs.Status.{status_bits}
use Rattle.negotiation.proofs.StatusLemmas.{settled_by_write}
use Rattle.negotiation.proofs.negotiation.Negotiation.write_status.Goals as goal

pub invariant_of-self : goal.invariant_of-self
invariant_of-self c =
    settled_by_write (status_bits c.self.inside.status) (feature_bits c.self.inside.offered)
    (feature_bits c.self.inside.accepted)
    c.args.value (status_bits c.settable_bits-written.result) (status_bits c.insert.new.self) c.args.self.now
    (sym c.self.view_is) c.self.invariant c.settable_bits-written.ensures (c.insert.ensures tt)
