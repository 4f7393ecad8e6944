use Rattle.std.proofs.Common.{length, refl, sym, ◌∙◌, arith, rules}
use Rattle.std.proofs.lemmas.Bool.{eqb-false, eqb-true}
use Rattle.hexadecimal.proofs.ByteFields.{all_written, bytes_none, bytes_some, one_block}
use Rattle.hexadecimal.proofs.push.push_bytes.Goals as goal

pub returns-then-is_empty : goal.returns-then-is_empty
returns-then-is_empty g c =
    let e = bytes_none c.args.bytes.now (eqb-true (length c.args.bytes.now) 0 (sym c.if-is_empty.ensures)) in
    search rules

pub loop-rest-preserved : goal.loop-rest-preserved
loop-rest-preserved g c =
    rw c.split_at.ensures.back
    (one_block c.push_block.new.out.items c.loop-rest.out.items _ c.loop-rest.rest.now _ c.loop-rest.invariant
    (rw c.split_at.ensures.front at c.in_ok-push_block.ensures))

pub returns : goal.returns
returns g c =
    let e = bytes_some c.args.bytes.now
    (let some = eqb-false (length c.args.bytes.now) 0 (sym c.if-is_empty.ensures) in
    omega (arith, some)) in
    all_written c.loop-rest.out.items _ c.loop-rest.rest.now c.loop-rest.invariant
    (eqb-true (length c.loop-rest.rest.now) 0 (sym c.loop-rest-test.ensures)) ∙ rw e refl
