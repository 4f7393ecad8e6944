use Rattle.std.proofs.Common.{ℕ, Some, ap}
use Rattle.mmio_window.specs.Window.{queue_at}
use Rattle.console_device.specs.Console.{Console}
use Rattle.console_device.specs.Device.{transmit_within}
use Rattle.device_list.specs.Terminal.{Terminal, terminal_limit}
use Rattle.device_list.proofs.Worlds.{leaves_one, serves_each}
use Rattle.device_list.proofs.terminal.Terminal.serve_in.Goals.{in-Ok, in-Err}
use Rattle.device_list.proofs.terminal.Terminal.serve_in.Goals as goal

pub returns-in-0-clause-serves : goal.returns-in-0-clause-serves
returns-in-0-clause-serves g c =
    let terminal : Terminal = record { console = c.self.inside.console; waiting = c.self.inside.output.bytes } in
    let served = c.serve_receive_in in
    rw (← c.self.view_is, c.in-0.is) (record {
      left = served.new.self.pending;
      served = served.ensures.served;
      is = ap (λ (c : Console). record terminal { console = c }) served.ensures.size;
    })

pub returns-after-serve_transmit_in-clause-serves :
    goal.returns-after-serve_transmit_in-clause-serves
returns-after-serve_transmit_in-clause-serves g c =
    let served = c.serve_transmit_in in
    let given = transmit_within (Some c.self.inside.output.limit) in
    let device = transmit_within (Some terminal_limit) in
    let same = ap (λ (limit : ℕ). transmit_within (Some limit)) c.self.invariant in
    let out = served.new.out.bytes in
    let is = ap (λ (c : Console). record { console = c; waiting = out }) served.ensures.same in
    let world = g.G.Served.world in
    let old = g.G.Served.seen c.args.mem.now in
    let new = g.G.Served.seen served.new.mem in
    let w = c.args.window.now in
    elim c.match-serve_transmit_in.branch [
      | in-Ok b ↦ rw (← c.self.view_is, c.in-1.is, b.result-is) (record {
        out = out;
        served = serves_each world g.G.Served.laws c.args.stage c.args.limits old new w served.new.window given device same 1
            (queue_at 1 w) b.in-Ok.progress c.self.inside.output.bytes out b.in-Ok.ensures.ok;
        is = is;
      })
      | in-Err b ↦ rw (← c.self.view_is, c.in-1.is) (record {
        out = out;
        served = leaves_one world g.G.Served.laws c.args.stage c.args.limits old new w served.new.window given device same 1
            (queue_at 1 w) c.match-serve_transmit_in.result c.self.inside.output.bytes out b.result-is
            b.in-Err.ensures.no_memory;
        is = is;
      })
    ]
