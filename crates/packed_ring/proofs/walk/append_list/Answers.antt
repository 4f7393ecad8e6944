use Rattle.std.proofs.Common.{[], ◌*◌, sym, ap, ◌∙◌, arith}
use Rattle.indirect.specs.declared.descriptor.Descriptor.{Descriptor}
use Rattle.indirect.proofs.Entries.{lent_by}
use Rattle.indirect.proofs.Walking.{reached_step}
use Rattle.packed_ring.specs.Ring.{ring_descriptor}
use Rattle.packed_ring.proofs.Positions.{next_below}
use Rattle.packed_ring.proofs.walk.append_list.Goals as goal

pub loop-count-preserved : goal.loop-count-preserved
loop-count-preserved g c =
    let m = c.args.mem.now in
    let a = c.args.table.addr in
    let n = c.args.table.size in
    let i = c.loop-count.index in
    let d = c.read_descriptor-descriptor.result in
    let lent = lent_by m a (16 * c.from.result) (16 * n) _ c.slice-ring.ensures.value
    (omega (arith, c.from.ensures)) in
    let e = c.read_descriptor-descriptor.ensures m a c.requires.area lent in
    let next = ap (λ (d : Descriptor). d.next) (sym e) ∙ c.in-Some.is in
    record {
      walk = reached_step m [] c.loop-count.chain c.push.new.self (ring_descriptor m a n) n c.args.first
          c.loop-count.count i c.in-Some.next
          d e c.loop-count.invariant.below c.if-descriptor.false c.in-Some.is
          c.in_ok-push.ensures.ok c.in_ok-push.ensures.pushed c.loop-count.invariant.walk;
      below = next_below m a n i c.in-Some.next c.loop-count.invariant.below next;
    }
