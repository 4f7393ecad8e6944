use Rattle.std.proofs.Common.{sym}
use Rattle.racing_disk.proofs.Judging.{known_judged, short_judged, zeroes_judged}
use Rattle.racing_disk.proofs.disk.RacingDisk.request.Goals as goal

pub returns-then-readable-lt-HEADER_LEN-clause-judged :
    goal.returns-then-readable-lt-HEADER_LEN-clause-judged
returns-then-readable-lt-HEADER_LEN-clause-judged g c =
    short_judged c.args.self.now.device (g.M.Shared.sightings c.args.mem.now) c.args.chain.now c.args.room
    c.readable_len-readable.result c.args.runs.now c.requires.good (sym c.readable_len-readable.ensures.value)
    c.if-readable-lt-HEADER_LEN.true

pub returns-in-Known-clause-judged : goal.returns-in-Known-clause-judged
returns-in-Known-clause-judged g c =
    known_judged c.args.self.now.device g.M.Shared.races (g.M.Shared.sightings c.args.mem.now)
    (g.M.Shared.sightings c.read_header-header.new.mem) c.args.chain.now c.args.room c.readable_len-readable.result
    c.read_header-header.result.kind c.read_header-header.result.sector c.in-Known.request c.args.runs.now c.requires.good
    c.read_header-header.ensures.loads (sym c.readable_len-readable.ensures.value) c.if-readable-lt-HEADER_LEN.false
    c.read_header-header.ensures.header c.in-Known.ensures

pub returns-in-Zeroes-clause-judged : goal.returns-in-Zeroes-clause-judged
returns-in-Zeroes-clause-judged g c =
    zeroes_judged c.args.self.now.device g.M.Shared.races (g.M.Shared.sightings c.args.mem.now)
    (g.M.Shared.sightings c.read_header-header.new.mem) (g.M.Shared.sightings c.zeroes_request.new.mem) c.args.chain.now
    c.args.room c.readable_len-readable.result c.read_header-header.result.kind c.read_header-header.result.sector _
    c.zeroes_request.result c.zeroes_request.new.runs c.read_header-header.ensures.loads
    c.zeroes_request.ensures.loads (sym c.readable_len-readable.ensures.value)
    c.if-readable-lt-HEADER_LEN.false c.read_header-header.ensures.header c.in-Zeroes.ensures
    c.zeroes_request.ensures.zeroing
