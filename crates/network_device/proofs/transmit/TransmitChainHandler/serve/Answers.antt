use Rattle.std.proofs.Common.{rules, ◌∙◌}
use Rattle.chain.specs.Bytes.{readable_of}
use Rattle.chain_handler.proofs.Doing.{leaves}
use Rattle.shared_memory.specs.Sightings.{memory}
use Rattle.network_device.proofs.Transmitting.{drop_raced, left_now, send_raced, sendable_is}
use Rattle.network_device.proofs.transmit.TransmitChainHandler.serve.Goals as goal

pub returns-then-len-has_room-clause-does : goal.returns-then-len-has_room-clause-does
returns-then-len-has_room-clause-does g c =
    send_raced (g.O.FrameOutlet.limits c.args.out.now) g.M.Shared.races (g.M.Shared.sightings c.args.mem.now)
    (g.M.Shared.sightings c.put_out.new.mem) c.args.chain.now
    (g.O.FrameOutlet.frames c.args.out.now) (g.O.FrameOutlet.frames c.put_out.new.out) c.args.self.now.dropped
    c.readable_len-len.result c.saturating_sub-frame.result c.has_room.result c.requires.good
    c.put_out.ensures.loads c.put_out.ensures.sent c.readable_len-len.ensures.value
    c.saturating_sub-frame.ensures c.has_room.ensures (search rules)

pub returns-clause-does : goal.returns-clause-does
returns-clause-does g c =
    let m = memory (g.M.Shared.sightings c.args.mem.now) in
    drop_raced (g.O.FrameOutlet.limits c.args.out.now) g.M.Shared.races (g.M.Shared.sightings c.args.mem.now) c.args.chain.now
    (g.O.FrameOutlet.frames c.args.out.now) c.args.self.now.dropped c.saturating_add-self.result c.requires.good
    (sendable_is (g.O.FrameOutlet.limits c.args.out.now) (readable_of m c.args.chain.now)
    c.readable_len-len.result c.saturating_sub-frame.result c.admits.result
    (c.readable_len-len.ensures.list m c.requires.good.inside)
    c.saturating_sub-frame.ensures c.admits.ensures ∙ (search rules))
    c.saturating_add-self.ensures

pub returns-then-len-admits-clause-refuses : goal.returns-then-len-admits-clause-refuses
returns-then-len-admits-clause-refuses g c =
    let m = memory (g.M.Shared.sightings c.args.mem.now) in
    leaves _ g.M.Shared.races (g.M.Shared.sightings c.args.mem.now) c.args.chain.now _ _ c.requires.good
    (left_now (g.O.FrameOutlet.limits c.args.out.now) (g.O.FrameOutlet.frames c.args.out.now)
    (readable_of m c.args.chain.now)
    c.readable_len-len.result c.saturating_sub-frame.result c.has_room.result c.admits.result
    (c.readable_len-len.ensures.list m c.requires.good.inside)
    c.saturating_sub-frame.ensures c.has_room.ensures c.admits.ensures (search rules) (search rules))
