use Rattle.std.proofs.Common.{arith, rules, ◌≡◌, length}
use Rattle.snapshot.specs.Spelling.{device}
use Rattle.snapshot.proofs.Joining.{puts_then}
use Rattle.snapshot.proofs.head.put_device.Goals as goal

pub returns-clause-puts : goal.returns-clause-puts
unfolding device
returns-clause-puts c =
    let mac : length c.args.saved.now.mac ≡ 6 = search rules in
    let identity : length c.args.saved.now.identity ≡ 20 = search rules in
    let disk = puts_then c.put_u64.ensures.puts (puts_then c.put-2.ensures c.put_window.ensures.puts) in
    let all = puts_then c.put_u32.ensures.puts
    (puts_then c.put.ensures (puts_then c.put_u16.ensures.puts disk)) in
    record { text = all.text; len = omega (arith, mac, identity, all.len) }
