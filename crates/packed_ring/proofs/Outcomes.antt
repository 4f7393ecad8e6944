-- A packed ring has one chain or one fault at a place.
use Rattle.std.proofs.Common.{◌+◌}
use Rattle.chain.specs.Service.{HasAtMostOneChain, HasSomeChain}
use Rattle.indirect.specs.Lists.{packed_tables}
use Rattle.indirect.proofs.Totality.{never_offered, offered_or_fails, one_offer, packed_has_one_list}
use Rattle.packed_ring.specs.Ring.{descriptor_addr, id_of, table_of, head_of}
use Rattle.packed_ring.specs.Kind.{entry_of, packed_kind}

pub has_at_most_one_chain : HasAtMostOneChain packed_kind
has_at_most_one_chain = record {
  buffers = λ m ring a b e f x y. (one_offer packed_tables packed_has_one_list ring.setup.indirect m
      (table_of m ring) ring.setup.size (head_of ring) _ a b e f x y).0;
  entry = λ m ring a b e f x y. (one_offer packed_tables packed_has_one_list ring.setup.indirect m
      (table_of m ring) ring.setup.size (head_of ring) _ a b e f x y).1;
  fault = λ m ring f g x y. packed_has_one_list.fault ring.setup.indirect m (table_of m ring) ring.setup.size
      (head_of ring) f g x y;
  not_both = λ m ring a e f x y. never_offered packed_tables packed_has_one_list ring.setup.indirect m
      (table_of m ring) ring.setup.size (head_of ring) _ f a e y x;
}

pub has_some_chain : HasSomeChain packed_kind
has_some_chain = record {
  some = λ m ring. offered_or_fails packed_tables packed_has_one_list ring.setup.indirect m (table_of m ring)
      ring.setup.size (head_of ring)
      (λ count last. entry_of (id_of m (descriptor_addr ring.setup.desc last)) (count + 1));
}
