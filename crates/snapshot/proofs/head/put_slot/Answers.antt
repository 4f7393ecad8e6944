use Rattle.std.proofs.Common.{◌≡◌, ◌∙◌, arith, length, rules}
use Rattle.snapshot.specs.Spelling.{slot}
use Rattle.snapshot.proofs.Joining.{flag_spelled, puts_then}
use Rattle.snapshot.proofs.head.put_slot.Goals as goal

pub returns-clause-puts : goal.returns-clause-puts
unfolding slot
returns-clause-puts c =
    let sizes = puts_then c.put_u64.ensures.puts
    (puts_then c.put_u64-2.ensures.puts c.put_u64-3.ensures.puts) in
    let len : length c.args.saved.now.identity ≡ 20 = search rules in
    let flag = rw (c.from.ensures ∙ flag_spelled c.args.saved.now.read_only) at c.put_u8.ensures.puts in
    let on_hold = rw (c.from-2.ensures ∙ flag_spelled c.args.saved.now.on_hold) at c.put_u8-2.ensures.puts in
    let console = puts_then c.put_u16.ensures.puts (puts_then c.put_u16-2.ensures.puts on_hold) in
    let traits = puts_then flag (puts_then c.put.ensures console) in
    let windows = puts_then c.put_window.ensures.puts
    (puts_then c.put_window-2.ensures.puts (rw c.as_slice.ensures.value at c.put_devices.ensures.puts)) in
    let all = puts_then sizes (puts_then traits windows) in
    record { text = all.text; len = omega (arith, len, all.len) }

pub returns-clause-fits : goal.returns-clause-fits
returns-clause-fits c = (
  search rules,
  (
    search rules,
    (
      c.put_window.ensures.fits,
      (c.put_window-2.ensures.fits, rw c.as_slice.ensures.value at c.put_devices.ensures.fits),
    ),
  ),
)
