-- A split ring has one chain or one fault at a place.
use Rattle.chain.specs.Service.{HasAtMostOneChain, HasSomeChain}
use Rattle.indirect.specs.Lists.{split_tables}
use Rattle.indirect.proofs.Totality.{never_offered, offered_or_fails, one_offer, split_has_one_list}
use Rattle.split_ring.specs.Ring.{table_of, head_of}
use Rattle.split_ring.specs.Kind.{entry_of, split_kind}

pub has_at_most_one_chain : HasAtMostOneChain split_kind
has_at_most_one_chain = record {
  buffers = λ m ring a b e f x y. (one_offer split_tables split_has_one_list ring.setup.indirect m
      (table_of m ring) ring.setup.size (head_of m ring) _ a b e f x y).0;
  entry = λ m ring a b e f x y. (one_offer split_tables split_has_one_list ring.setup.indirect m
      (table_of m ring) ring.setup.size (head_of m ring) _ a b e f x y).1;
  fault = λ m ring f g x y. split_has_one_list.fault ring.setup.indirect m (table_of m ring) ring.setup.size
      (head_of m ring) f g x y;
  not_both = λ m ring a e f x y. never_offered split_tables split_has_one_list ring.setup.indirect m
      (table_of m ring) ring.setup.size (head_of m ring) _ f a e y x;
}

pub has_some_chain : HasSomeChain split_kind
has_some_chain = record {
  some = λ m ring. offered_or_fails split_tables split_has_one_list ring.setup.indirect m (table_of m ring)
      ring.setup.size (head_of m ring) (λ count last. entry_of (head_of m ring));
}
