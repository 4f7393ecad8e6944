use Rattle.std.proofs.Common.{ap}
use Rattle.mmio_window.specs.Window.{queue_at}
use Rattle.network_device.specs.Device.{passing, transmit}
use Rattle.network_device.specs.Network.{Network}
use Rattle.device_list.specs.Card.{Card, card_limits}
use Rattle.device_list.proofs.Worlds.{leaves_one, serves_each}
use Rattle.device_list.proofs.card.NetworkCard.serve_in.Goals.{in-Ok, in-Err}
use Rattle.device_list.proofs.card.NetworkCard.serve_in.Goals as goal

pub returns-in-0-clause-serves : goal.returns-in-0-clause-serves
returns-in-0-clause-serves g c =
    let card : Card = record { network = c.self.inside.network; sent = c.self.inside.sent.frames } in
    let served = c.serve_receive_in in
    rw (← c.self.view_is, c.in-0.is) (record {
      left = served.new.self.waiting;
      served = served.ensures.served;
      is = ap (λ (n : Network). record card { network = n }) served.ensures.rest;
    })

pub returns-after-serve_transmit_in-clause-serves :
    goal.returns-after-serve_transmit_in-clause-serves
returns-after-serve_transmit_in-clause-serves g c =
    let served = c.serve_transmit_in in
    let given = transmit c.self.inside.sent.limits in
    let same = ap transmit c.self.invariant.1 in
    let sent = passing c.self.inside.sent.frames c.self.inside.network.dropped in
    let out = passing served.new.out.frames served.new.self.dropped in
    let is = ap (λ (n : Network). record { network = n; sent = served.new.out.frames }) served.ensures.rest in
    let world = g.G.Served.world in
    let old = g.G.Served.seen c.args.mem.now in
    let new = g.G.Served.seen served.new.mem in
    let w = c.args.window.now in
    elim c.match-serve_transmit_in.branch [
      | in-Ok b ↦ rw (← c.self.view_is, c.in-1.is, b.result-is) (record {
        out = out;
        served = serves_each world g.G.Served.laws c.args.stage c.args.limits old new w served.new.window given
            (transmit card_limits) same 1 (queue_at 1 w) b.in-Ok.progress sent out b.in-Ok.ensures.ok;
        is = is;
      })
      | in-Err b ↦ rw (← c.self.view_is, c.in-1.is) (record {
        out = out;
        served = leaves_one world g.G.Served.laws c.args.stage c.args.limits old new w served.new.window given
            (transmit card_limits) same 1 (queue_at 1 w) c.match-serve_transmit_in.result sent out b.result-is
            b.in-Err.ensures.no_room;
        is = is;
      })
    ]
