-- A service that goes on asks the host for nothing.
use Rattle.session.proofs.Asking.{going_on_asks}
use Rattle.session.proofs.session.Session.go_on.Goals as goal

pub returns-clause-asks : goal.returns-clause-asks
returns-clause-asks g c =
    going_on_asks {A = g.row.A.Denot} c.args.self.now c.turn-response.new.self c.args.slot c.went_on.result
    (record {
      response = c.turn-response.result.response;
      call = c.turn-response.ensures.call;
      told = c.went_on.ensures;
    })
