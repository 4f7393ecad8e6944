use Rattle.std.proofs.Common.{◌+◌, arith, get_or, length, refl}
use Rattle.std.specs.List.{range_with_len}
use Rattle.std.proofs.lemmas.List.{take_all}
use Rattle.std.proofs.lemmas.List.FromFn.{length-range_with_len}
use Rattle.guest_memory.proofs.Ranges.{inside_part, inside_same, same_trans}
use Rattle.shared_memory.proofs.Bytes.{byte_range, byte_stored, each_more, range_place}
use Rattle.shared_memory.proofs.memory.Shared.store.Goals as goal

pub store_u8-requires : goal.store_u8-requires
store_u8-requires g c =
    inside_part (inside_same _ _ _ _ c.loop-index.invariant.range c.requires) (omega arith)
    (omega (arith, c.loop-index-test.true))

pub loop-index-preserved : goal.loop-index-preserved
loop-index-preserved g c =
    let byte = get_or c.args.bytes.now c.loop-index.index 0 in
    let once = byte_stored _ _ _ _ byte (omega (arith, c.type_inv.bytes c.loop-index.index)) c.store_u8.ensures.stores in
    record {
      stored = each_more _ _ _ _ _ c.args.bytes.now c.loop-index.index (c.args.addr + c.loop-index.index) byte c.loop-index-test.true
          c.loop-index.invariant.stored
          (range_place c.args.addr (length c.args.bytes.now) c.loop-index.index c.loop-index-test.true) refl once;
      range = same_trans _ _ _ c.loop-index.invariant.range (byte_range _ _ _ _ _ once);
    }

pub returns-clause-stored : goal.returns-clause-stored
returns-clause-stored g c =
    let n = length c.args.bytes.now in
    let places = take_all c.loop-index.index (range_with_len c.args.addr n)
    (omega (arith, length-range_with_len c.args.addr n, c.loop-index-test.false)) in
    let row = take_all c.loop-index.index c.args.bytes.now (omega (arith, c.loop-index-test.false)) in
    rw (places, row) at c.loop-index.invariant.stored
