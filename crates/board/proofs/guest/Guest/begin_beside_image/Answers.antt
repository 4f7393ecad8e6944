use Rattle.std.proofs.Common.{[]}
use Rattle.std.proofs.lemmas.Result.{IfOk-weaker}
use Rattle.board.specs.declared.pause.Turn.{Turn}
use Rattle.board.proofs.Hosts.{device_begins, input_begins, takes_none}
use Rattle.board.proofs.guest.Guest.begin_beside_image.Goals as goal

pub returns-in-Input : goal.returns-in-Input
returns-in-Input g c =
    let typed = c.input.ensures in
    record {
      begins = rw (← c.self.view_is, c.in-Input.is)
          (input_begins _ c.args.budget c.self.inside.slot c.input.new.self c.input.result typed.comes typed.rest typed.limited
          typed.took);
      asks = tt;
    }

pub returns-in-Device : goal.returns-in-Device
returns-in-Device g c =
    let does = c.begin_at_device.ensures in
    record {
      begins = rw (← c.self.view_is, c.in-Device.is)
          (IfOk-weaker c.begin_at_device.result _ _ (λ (turn : Turn g.row.A.Denot) begun.
          device_begins _ _ c.args.budget c.self.inside.slot c.begin_at_device.new.self turn
          (λ lacks. takes_none g.row.A.Denot c.in-Device.device c.in-Device.what _ (begun.no_memory lacks [])) begun)
          does.begins);
      asks = rw (← c.self.view_is, c.in-Device.is) does.asks;
    }
