use Rattle.std.proofs.Common.{ap, arith, length}
use Rattle.device_list.specs.Terminal.{Terminal}
use Rattle.device_list.proofs.Refilling.{terminal_back}
use Rattle.device_list.proofs.terminal.Terminal.write_waiting.Goals as goal

pub returns-clause-back : goal.returns-clause-back
returns-clause-back g c rest =
    let size = c.size-cols in
    (terminal_back c.args.self.now (record {
      cols = omega (arith, size.ensures.cols, size.type_inv, ap (λ (t : Terminal). t.console.cols) c.self.view_is);
      rows = omega (arith, size.ensures.rows, size.type_inv, ap (λ (t : Terminal). t.console.rows) c.self.view_is);
      pending = omega (
        arith,
        c.pending_len.ensures.value,
        c.pending_len.ensures.most,
        ap (λ (t : Terminal). length t.console.pending) c.self.view_is,
      );
      output = omega (
        arith,
        c.waiting.ensures.limit,
        c.self.invariant,
        ap (λ (t : Terminal). length t.waiting) c.self.view_is,
      );
    })).back rest
