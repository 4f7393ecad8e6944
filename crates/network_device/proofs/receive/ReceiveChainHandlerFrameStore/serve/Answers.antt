use Rattle.std.proofs.Common.{◌<◌, arith, ap, length, ◌∙◌}
use Rattle.chain.specs.Bytes.{writable_of}
use Rattle.chain_handler.proofs.Doing.{leaves}
use Rattle.network_device.specs.Device.{misfits}
use Rattle.network_device.specs.Frames.{Store}
use Rattle.network_device.proofs.Fitting.{front_fits, front_is_some, misfits_le}
use Rattle.network_device.proofs.Receiving.{receive_raced}
use Rattle.network_device.proofs.receive.ReceiveChainHandlerFrameStore.serve.Goals as goal

pub unreachable-requires : goal.unreachable-requires
unreachable-requires g c =
    let few = misfits_le c.writable_len.result c.args.store.now.frames in
    let lt : c.misfits-skipped.result < length c.args.store.now.frames =
    omega (arith, few, c.misfits-skipped.ensures, c.count.ensures, c.if-skipped-count.false) in
    front_is_some c.args.store.now.frames c.skip.new.store.frames c.misfits-skipped.result lt
    (ap (λ (s : Store). s.frames) c.skip.ensures) c.in_default.ensures

pub write_frame-len-requires-clause-fits : goal.write_frame-len-requires-clause-fits
write_frame-len-requires-clause-fits g c =
    front_fits (length (writable_of c.args.chain.now)) c.args.store.now.frames c.skip.new.store.frames
    c.misfits-skipped.result c.in-Some.front.now c.in-Some.back.now
    (c.misfits-skipped.ensures ∙ ap (λ w. misfits w c.args.store.now.frames) c.writable_len.ensures)
    (ap (λ (s : Store). s.frames) c.skip.ensures) c.in-Some.ensures

pub returns-clause-does : goal.returns-clause-does
returns-clause-does g c =
    receive_raced g.M.Shared.races (g.M.Shared.sightings c.args.mem.now) (g.M.Shared.sightings c.write_frame-len.new.mem) c.args.chain.now c.args.store.now.frames
    c.skip.new.store.frames c.pop.new.self.frames c.args.self.now.dropped c.saturating_add-self.result
    c.misfits-skipped.result c.write_frame-len.result c.in-Some.front.now c.in-Some.back.now c.requires.good
    (c.misfits-skipped.ensures ∙ ap (λ w. misfits w c.args.store.now.frames) c.writable_len.ensures)
    (ap (λ (s : Store). s.frames) c.skip.ensures) c.in-Some.ensures
    (ap (λ (s : Store). s.frames) c.pop.ensures)
    c.write_frame-len.ensures.stored c.write_frame-len.ensures.len c.saturating_add-self.ensures

pub returns-then-skipped-count-clause-refuses : goal.returns-then-skipped-count-clause-refuses
returns-then-skipped-count-clause-refuses g c =
    let e = ap (λ w. misfits w c.args.store.now.frames) c.writable_len.ensures in
    leaves _ g.M.Shared.races (g.M.Shared.sightings c.args.mem.now) c.args.chain.now _ _ c.requires.good
    (omega (arith, e, c.misfits-skipped.ensures, c.count.ensures, c.if-skipped-count.true))
