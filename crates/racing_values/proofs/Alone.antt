-- A memory that its driver leaves alone is seen as it stood at each access.
use Rattle.std.proofs.Common.{◌≡◌, ◌∙◌, ℕ, ◌+◌, ◌≤◌, [], ◌∷◌, get_or, refl, sym, ap, subst, arith}
use Rattle.std.specs.Prelude.{All, false}
use Rattle.std.proofs.lemmas.List.Elements.{All-cons, All-nil}
use Rattle.guest_memory.specs.Faults.{zeroed_regions}
use Rattle.guest_memory.specs.Memory.{Memory, Inside, SameRange, part_of}
use Rattle.guest_memory.specs.Regions.{memory_of}
use Rattle.guest_memory.proofs.Gaps.{misses-none}
use Rattle.chain.specs.Bytes.{addresses_of, readable_of}
use Rattle.indirect.specs.Lists.{packed_tables, ListOffers}
use Rattle.packed_ring.specs.Kind.{packed_kind}
use Rattle.packed_ring.specs.Ring.{head_of, next_wrap}
use Rattle.shared_memory.specs.Sightings.{memory}
use Rattle.racing_memory.specs.Past.{Access, IsFound, filled}
use Rattle.racing_memory.proofs.Undisturbed.{may_stand, seen_as_it_stood}
use Rattle.racing_ring.specs.Source.{Source}
use Rattle.racing_ring.specs.Packed.{IsOffered, IsPublished, read_entry, read_table}
use Rattle.racing_ring.proofs.Publishing.{published_offered}
use Rattle.shared_memory.specs.Bytes.{IsSteady}
use Rattle.racing_values.specs.Alone.{all_read, buffers, bytes, entry, header, list_read, regions, ring, seen_by, stood}

-- ---- what stands there

abbrev there : Memory
there = record { base = 4096; bytes = bytes; gaps = []; pages = [] }

same : SameRange (zeroed_regions regions) there
unfolding memory_of
same = record { base = refl; size = refl; gaps = refl }

filled_is : filled regions stood ≡ there
filled_is = may_stand regions there same

inside : (a n : ℕ) → 4096 ≤ a → a + n ≤ 4152 → Inside there a n
inside a n above below = record { above = above; below = below; clear = misses-none a n }

found : (access : Access) → IsFound there access → IsFound (filled regions stood) access
found access f = subst (λ (m : Memory). IsFound m access) (sym filled_is) f

-- ---- each access found it

abbrev Found : Access → Type 0
Found = IsFound (filled regions stood)

abbrev first_flags : Access
first_flags = record { addr = 4104; bytes = 16 ∷ 0 ∷ 0 ∷ 0 ∷ 0 ∷ 0 ∷ 129 ∷ 0 ∷ []; stores = false }

abbrev first_addr : Access
first_addr = record { addr = 4096; bytes = 32 ∷ 16 ∷ 0 ∷ 0 ∷ 0 ∷ 0 ∷ 0 ∷ 0 ∷ []; stores = false }

abbrev second_flags : Access
second_flags = record { addr = 4120; bytes = 1 ∷ 0 ∷ 0 ∷ 0 ∷ 7 ∷ 0 ∷ 130 ∷ 0 ∷ []; stores = false }

abbrev second_addr : Access
second_addr = record { addr = 4112; bytes = 48 ∷ 16 ∷ 0 ∷ 0 ∷ 0 ∷ 0 ∷ 0 ∷ 0 ∷ []; stores = false }

list_found : All Found list_read
list_found =
    All-cons Found second_addr (second_flags ∷ first_addr ∷ first_flags ∷ [])
    (found second_addr (record { inside = inside 4112 8 (omega arith) (omega arith); bytes = refl; pages = refl }))
    (All-cons Found second_flags (first_addr ∷ first_flags ∷ [])
    (found second_flags (record { inside = inside 4120 8 (omega arith) (omega arith); bytes = refl; pages = refl }))
    (All-cons Found first_addr (first_flags ∷ [])
    (found first_addr (record { inside = inside 4096 8 (omega arith) (omega arith); bytes = refl; pages = refl }))
    (All-cons Found first_flags []
    (found first_flags (record { inside = inside 4104 8 (omega arith) (omega arith); bytes = refl; pages = refl }))
    (All-nil Found))))

all_found : All Found all_read
all_found =
    All-cons Found (record { addr = 4128; bytes = header; stores = false }) list_read
    (found (record { addr = 4128; bytes = header; stores = false })
    (record { inside = inside 4128 16 (omega arith) (omega arith); bytes = refl; pages = refl })) list_found

-- so it is what each access shows
seen_taken : (k : ℕ) → (seen_by list_read).at k ≡ there
seen_taken k =
    seen_as_it_stood (record { regions = regions; stood = stood; past = list_read }) list_found k ∙ filled_is

seen_read : (k : ℕ) → (seen_by all_read).at k ≡ there
seen_read k =
    seen_as_it_stood (record { regions = regions; stood = stood; past = all_read }) all_found k ∙ filled_is

-- ---- the list

abbrev source : ℕ → Source
source i = record { flags_in = there; addr_in = there }

listed : ListOffers packed_tables false there (read_table source 4096 2) 2 0 (read_entry source 4096) buffers entry
listed = record {
  count = 1;
  last = 1;
  list = record {
    before = record { segment = record { addr = 4128; len = 16 }; writable = false } ∷ [];
    reached = record {
      front = 0 ∷ [];
      leads = (refl, record { below = omega arith; plain = refl; next = refl }, refl);
      counted = refl;
      admitted = (record { inside = inside 4128 16 (omega arith) (omega arith); room = omega arith; fits = omega arith }, tt);
      named = refl;
    };
    comes = record { room = omega arith; below = omega arith };
    ends = record {
      ends = refl;
      admitted = record { inside = inside 4144 1 (omega arith) (omega arith); room = omega arith; fits = omega arith };
      named = refl;
    };
  };
  entry_is = refl;
}

pub list_taken : IsOffered (seen_by []) (seen_by list_read) ring buffers entry
list_taken = record {
  source = source;
  read = record {
    first_seen = record { place = 1; from = omega arith; to = omega arith; is = sym (seen_taken 1) };
    available = refl;
    sources = λ i below. record {
      flags_at = 1;
      addr_at = 2;
      from = omega arith;
      in_turn = omega arith;
      to = omega arith;
      flags_is = sym (seen_taken 1);
      addr_is = sym (seen_taken 2);
    };
  };
  offers = subst (λ (m : Memory). ListOffers packed_tables false m (read_table source 4096 2) 2 0 (read_entry source 4096)
      buffers entry) (sym (seen_taken 4)) listed;
}

pub list_published : IsPublished (seen_by []) (seen_by list_read) 4096 2 (head_of ring) (next_wrap ring) 1
list_published = record {
  moment = 0;
  withheld = λ k from before. absurd (omega (arith, before));
  stands = λ k i from to most.
      rw (seen_taken k, seen_taken 4) (record { buffer = refl; id = refl; flags = refl });
}

pub list_offered : packed_kind.Offers (memory (seen_by list_read)) ring buffers entry
unfolding list_taken listed
list_offered = published_offered (seen_by []) (seen_by list_read) ring buffers entry list_taken list_published

-- ---- the header

pub header_steady : All (IsSteady (seen_by list_read) (seen_by all_read)) (addresses_of false buffers)
header_steady = λ i d below k from to.
    ap (λ (m : Memory). part_of m (get_or (addresses_of false buffers) i d) 1) (seen_read k ∙ sym (seen_taken 4))

pub header_read : readable_of (memory (seen_by list_read)) buffers ≡ header
header_read = ap (λ (m : Memory). readable_of m buffers) (seen_taken 4)
