use Rattle.std.proofs.Common.{◌∙◌, ap, sym}
use Rattle.racing_disk.proofs.Looking.{one_answered, one_asks, was_left}
use Rattle.racing_disk.proofs.disk.RacingDisk.look.Goals as goal

pub launch-flight-requires-clause-left : goal.launch-flight-requires-clause-left
launch-flight-requires-clause-left g c =
    rw c.serve.ensures.setup
    (was_left g.Q.RacingQueue.kind c.args.self.now.device _ _ _ _ _ _ _ c.serve.new.chain _ c.in-Err.refused.why
    c.serve.new.backend _ (record { service = c.in-Err.ensures.refuses }))

pub returns-then-asks-clause-asks : goal.returns-then-asks-clause-asks
returns-then-asks-clause-asks g c =
    one_asks g.Q.RacingQueue.kind c.args.self.now.device _ _ _ _ (g.M.Shared.sightings c.serve.new.mem) c.serve.new.queue
    c.in-Err.refused.left c.serve.new.chain (g.Q.RacingQueue.entry_of c.in-Err.refused.token) c.in-Err.refused.why
    c.serve.new.backend c.in-Err.refused.wanted (record { service = c.in-Err.ensures.refuses })
    (λ ring. g.Q.RacingQueue.IsTaken ring c.launch-flight.result.token) c.args.stable
    c.launch-flight.new.queue _ c.launch-flight.result.operation c.launch-flight.result.status
    c.launch-flight.result.writable c.launch-flight.new.runs (sym c.asks.ensures ∙ c.if-asks.true)
    c.launch-flight.ensures.operation (rw c.serve.ensures.setup at c.launch-flight.ensures.runs)
    c.launch-flight.ensures.status (ap g.Q.RacingQueue.entry_of c.launch-flight.ensures.token)
    c.launch-flight.ensures.launched (rw c.launch-flight.ensures.token c.in-Err.ensures.taken)

pub returns-then-asks-clause-inside : goal.returns-then-asks-clause-inside
returns-then-asks-clause-inside g c =
    rw c.serve.ensures.setup at (c.launch-flight.ensures.inside _ c.in-Err.ensures.good)

pub returns-then-asks-clause-place : goal.returns-then-asks-clause-place
returns-then-asks-clause-place g c = c.launch-flight.ensures.room _ c.in-Err.ensures.good

pub answer-requires-clause-left : goal.answer-requires-clause-left
answer-requires-clause-left g c =
    rw c.serve.ensures.setup
    (was_left g.Q.RacingQueue.kind c.args.self.now.device _ _ _ _ _ _ _ c.serve.new.chain _ c.in-Err.refused.why
    c.serve.new.backend _ (record { service = c.in-Err.ensures.refuses }))

pub returns-clause-answers : goal.returns-clause-answers
returns-clause-answers g c =
    one_answered g.Q.RacingQueue.kind c.args.self.now.device _ _ _ _ (g.M.Shared.sightings c.serve.new.mem) c.serve.new.queue
    c.in-Err.refused.left c.serve.new.chain (g.Q.RacingQueue.entry_of c.in-Err.refused.token) c.in-Err.refused.why
    c.serve.new.backend c.in-Err.refused.wanted (record { service = c.in-Err.ensures.refuses })
    (g.M.Shared.sightings c.answer.new.mem) c.answer.new.queue c.answer.result (sym c.asks.ensures ∙ c.if-asks.false)
    (rw c.serve.ensures.setup at c.answer.ensures.answered)
