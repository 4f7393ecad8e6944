-- Closing writes that are made twice are those made once. So behind them a service that finds nothing changes nothing.
use Rattle.std.proofs.Common.{◌≡◌, ◌∙◌, ◌⊎◌, inl, inr, ℕ, ◌+◌, ◌-◌, ◌*◌, ◌<◌, ◌≤◌, Bool, true, false, List, [], ◌∷◌, get_or, length, refl, sym, ap, arith, length-take, length-append, length-drop}
use Rattle.std.specs.Prelude.{◌||◌, if◌then◌else◌}
use Rattle.std.proofs.lemmas.Bool.{cases_lt}
use Rattle.std.proofs.lemmas.List.{places, same_lists}
use Rattle.byteorder.specs.Endian.{little_bytes}
use Rattle.guest_memory.specs.Memory.{Inside, Memory, put, put_at, up_to_gap}
use Rattle.guest_memory.specs.Pages.{is_reached, marked, page_size}
use Rattle.guest_memory.proofs.Gaps.{up_to_gap-all}
use Rattle.guest_memory.proofs.Ranges.{inside_part, length-put_at}
use Rattle.chain.specs.Service.{Device, IsService, Spent, open_site}
use Rattle.split_ring.specs.Ring.{next_taken}
use Rattle.mmio_window.specs.declared.queue.Queue.{Queue}
use Rattle.mmio_window.specs.declared.queue.Queue.TheVariants.{Packed, Split}
use Rattle.mmio_window.specs.Queue.{queue_kind}
use Rattle.mmio_window.specs.Serving.{site_at}
use Rattle.racing_window.proofs.Rings.{IsQueueSound, queue_stands_still}
use Rattle.standing_guest.specs.Rest.{IsAtRest}

-- ---- the pages that are marked

or_twice : (bit reached : Bool) → ((bit || reached) || reached) ≡ (bit || reached)
or_twice true reached = refl
or_twice false true = refl
or_twice false false = refl

or_between : (bit one other : Bool) → (((bit || one) || other) || one) ≡ ((bit || one) || other)
or_between true one other = refl
or_between false true other = refl
or_between false false true = refl
or_between false false false = refl

marked_twice : (page i n : ℕ) (bits : List Bool) → marked page i n (marked page i n bits) ≡ marked page i n bits
unfolding marked
marked_twice page i n [] = refl
marked_twice page i n (bit ∷ bits) =
    let r = is_reached page i n in
    ap (λ (b : Bool). b ∷ marked (page + page_size) i n (marked (page + page_size) i n bits)) (or_twice bit r)
    ∙ ap (λ (bs : List Bool). (bit || r) ∷ bs) (marked_twice (page + page_size) i n bits)

marked_between : (page i n j k : ℕ) (bits : List Bool)
    → marked page i n (marked page j k (marked page i n bits)) ≡ marked page j k (marked page i n bits)
unfolding marked
marked_between page i n j k [] = refl
marked_between page i n j k (bit ∷ bits) =
    let r = is_reached page i n in
    let s = is_reached page j k in
    let p = page + page_size in
    ap (λ (b : Bool). b ∷ marked p i n (marked p j k (marked p i n bits))) (or_between bit r s)
    ∙ ap (λ (bs : List Bool). ((bit || r) || s) ∷ bs) (marked_between p i n j k bits)

-- ---- the bytes that are written

put_at_twice : (xs : List ℕ) (i : ℕ) (ws : List ℕ) → put_at (put_at xs i ws) i ws ≡ put_at xs i ws
put_at_twice xs i ws =
    same_lists _ _ (simp (length-take, length-append, length-drop) (omega arith)) (λ k d h. grind (arith, places))

-- what stands at a place behind a write
at_out : (xs : List ℕ) (i : ℕ) (ws : List ℕ) (k d : ℕ) → (k < i) ⊎ (i + length ws ≤ k)
    → get_or (put_at xs i ws) k d ≡ get_or xs k d
at_out xs i ws k d (inl before) = grind (arith, places)
at_out xs i ws k d (inr behind) = grind (arith, places)

at_in : (xs : List ℕ) (i : ℕ) (ws : List ℕ) (k d : ℕ) → i ≤ k → k < i + length ws → k < length xs
    → get_or (put_at xs i ws) k d ≡ get_or ws (k - i) d
at_in xs i ws k d from to below = grind (arith, places)

put_at_between : (xs : List ℕ) (i j : ℕ) (ws vs : List ℕ) → i + length ws ≤ j
    → put_at (put_at (put_at xs i ws) j vs) i ws ≡ put_at (put_at xs i ws) j vs
put_at_between xs i j ws vs apart =
    same_lists _ _ (length-put_at (put_at (put_at xs i ws) j vs) i ws) (λ k d h. by k d h (cases_lt k i) (cases_lt k (i + length ws)))
  where
    by : (k d : ℕ) → k < length (put_at (put_at (put_at xs i ws) j vs) i ws) → (k < i) ⊎ (i ≤ k)
        → (k < i + length ws) ⊎ (i + length ws ≤ k)
        → get_or (put_at (put_at (put_at xs i ws) j vs) i ws) k d ≡ get_or (put_at (put_at xs i ws) j vs) k d
    by k d h (inl before) there = at_out (put_at (put_at xs i ws) j vs) i ws k d (inl before)
    by k d h (inr from) (inr behind) = at_out (put_at (put_at xs i ws) j vs) i ws k d (inr behind)
    by k d h (inr from) (inl to) =
        let one = length-put_at xs i ws in
        let two = length-put_at (put_at xs i ws) j vs in
        let three = length-put_at (put_at (put_at xs i ws) j vs) i ws in
        let first : k < length xs = omega (arith, h, one, two, three) in
        let third : k < length (put_at (put_at xs i ws) j vs) = omega (arith, h, three) in
        at_in (put_at (put_at xs i ws) j vs) i ws k d from to third
        ∙ sym (at_out (put_at xs i ws) j vs k d (inl (omega (arith, to, apart))) ∙ at_in xs i ws k d from to first)

put_twice : (m : Memory) (a : ℕ) (bs : List ℕ) → put (put m a bs) a bs ≡ put m a bs
put_twice m a bs =
    let i = a - m.base in
    let ws = up_to_gap m.gaps a bs in
    ap (λ (xs : List ℕ). record m { bytes = xs; pages = marked 0 i (length bs) (marked 0 i (length bs) m.pages) })
    (put_at_twice m.bytes i ws)
    ∙ ap (λ (bits : List Bool). record m { bytes = put_at m.bytes i ws; pages = bits }) (marked_twice 0 i (length bs) m.pages)

put_between : (m : Memory) (a b : ℕ) (bs cs : List ℕ) → Inside m a (length bs) → a + length bs ≤ b
    → put (put (put m a bs) b cs) a bs ≡ put (put m a bs) b cs
put_between m a b bs cs inside apart =
    let i = a - m.base in
    let j = b - m.base in
    let ws = up_to_gap m.gaps a bs in
    let vs = up_to_gap m.gaps b cs in
    let first : List Bool = marked 0 i (length bs) m.pages in
    let long : length ws ≡ length bs = ap (λ (xs : List ℕ). length xs) (up_to_gap-all m.gaps a bs inside.clear) in
    ap (λ (xs : List ℕ). record m { bytes = xs; pages = marked 0 i (length bs) (marked 0 j (length cs) first) })
    (put_at_between m.bytes i j ws vs (omega (arith, long, inside.above, apart)))
    ∙ ap (λ (bits : List Bool). record m { bytes = put_at (put_at m.bytes i ws) j vs; pages = bits })
    (marked_between 0 i (length bs) j (length cs) m.pages)

-- ---- the closing writes

closed_split : (event_idx : Bool) (m : Memory) (d e : ℕ) (flags event : List ℕ) → Inside m d (length flags)
    → d + length flags ≤ e
    → (if event_idx then put (put (if event_idx then put (put m d flags) e event else put m d flags) d flags) e event
    else put (if event_idx then put (put m d flags) e event else put m d flags) d flags)
    ≡ (if event_idx then put (put m d flags) e event else put m d flags)
closed_split true m d e flags event inside apart =
    ap (λ (n : Memory). put n e event) (put_between m d e flags event inside apart) ∙ put_twice (put m d flags) e event
closed_split false m d e flags event inside apart = put_twice m d flags

closed_twice : (m : Memory) (queue : Queue) → IsQueueSound m queue
    → queue_kind.closed (queue_kind.closed m queue) queue ≡ queue_kind.closed m queue
closed_twice m (Split ring) sound =
    let d = ring.setup.device in
    closed_split ring.setup.event_idx m d (d + 4 + 8 * ring.setup.size) (little_bytes 2 0) (little_bytes 2 (next_taken ring))
    (inside_part sound.lies.device (omega arith) (omega arith)) (omega arith)
closed_twice m (Packed ring) sound = put_twice m ring.setup.device (little_bytes 4 0)

-- a ring that is opened again has the same closing writes
closed_opened : (m n : Memory) (queue : Queue)
    → queue_kind.closed m (queue_kind.opened n (queue_kind.shut queue)) ≡ queue_kind.closed m queue
closed_opened m n (Split ring) = refl
closed_opened m n (Packed ring) = refl

-- nothing is passed where nothing was served
none_wanted : (m n : Memory) (queue : Queue) → queue_kind.Wants m (queue_kind.opened n (queue_kind.shut queue)) → ⊥
none_wanted m n (Split ring) wants = absurd (omega (arith, wants.some))
none_wanted m n (Packed ring) wants = absurd (omega (arith, wants.some))

-- ---- a queue behind them

-- its closing writes were made right before
pub record IsJustClosed (m : Memory) (queue : Queue) : Type 0 where
  pub before : Memory
  pub last : Queue
  pub sound : IsQueueSound before last
  pub memory : m ≡ queue_kind.closed before last
  pub shut : queue ≡ queue_kind.shut last

module _ {State : Type 0} (device : Device State) where
  idle_closed : (before : Memory) (last : Queue) (state : State) → IsQueueSound before last
      → IsAtRest device (queue_kind.closed before last) (queue_kind.shut last) state
      → IsService queue_kind device (site_at (queue_kind.closed before last) (queue_kind.shut last) state)
      (site_at (queue_kind.closed before last) (queue_kind.shut last) state) Spent false
  idle_closed before last state sound rest =
      let m = queue_kind.closed before last in
      let start = open_site queue_kind device (site_at m (queue_kind.shut last) state) in
      record {
        last = start;
        works = rw rest.opens (record { chains = []; at = start; serves = refl; ends = rest.none; stands = refl });
        closed = rw (closed_opened m m last, closed_twice before last sound, queue_stands_still.shut_opened m last) refl;
        wanted_is = (λ no. let is : false ≡ true = no in cc, λ wants. absurd (none_wanted _ m last wants));
      }

  pub idle_service : (m : Memory) (queue : Queue) (state : State) → IsJustClosed m queue → IsAtRest device m queue state
      → IsService queue_kind device (site_at m queue state) (site_at m queue state) Spent false
  idle_service m queue state closed rest =
      let at : IsAtRest device (queue_kind.closed closed.before closed.last) (queue_kind.shut closed.last) state =
      rw (closed.memory, closed.shut) at rest in
      rw (closed.memory, closed.shut) (idle_closed closed.before closed.last state closed.sound at)
