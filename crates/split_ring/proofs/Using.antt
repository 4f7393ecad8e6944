-- A used entry's two numbers are written as one.
use Rattle.std.proofs.Common.{◌≡◌, ◌+◌, ◌*◌, ◌%◌, ◌^◌, ◌<◌, ◌∙◌, ℕ, ap, arith}
use Rattle.guest_memory.specs.Memory.{Memory, put_num}
use Rattle.guest_memory.proofs.Ranges.{inside_part}
use Rattle.chain.specs.declared.state.RingState.{RingState}
use Rattle.indirect.proofs.Beside.{two_beside}
use Rattle.split_ring.specs.Ring.{LiesIn, next_place, used_entry, with_used}

-- the memory with the entry, and then with the idx; i is the entry of the ring's place
pub used_written : (m entry idx : Memory) (ring : RingState) (i v head len next : ℕ) → LiesIn m ring.setup
    → i ≡ ring.place % ring.setup.size → i < ring.setup.size
    → entry ≡ put_num m (ring.setup.device + 4 + 8 * i) 8 v → v ≡ len * 2 ^ 32 + head → head < 2 ^ 32
    → idx ≡ put_num entry (ring.setup.device + 2) 2 next → next ≡ next_place ring
    → idx ≡ with_used m ring head len
used_written m entry idx ring i v head len next lies is below written both fits last ahead =
    let used = ring.setup.device in
    let place : used + 4 + 8 * i ≡ used_entry ring = ap (λ (i : ℕ). used + 4 + 8 * i) is in
    let filled : entry ≡ put_num (put_num m (used + 4 + 8 * i) 4 head) (used + 4 + 8 * i + 4) 4 len =
    two_beside m entry (used + 4 + 8 * i) v head len written both
    (inside_part lies.device (omega arith) (omega (arith, below))) fits in
    last ∙ ap (λ (m : Memory). put_num m (used + 2) 2 next) filled
    ∙ ap (λ (n : ℕ). put_num
    (put_num (put_num m (used + 4 + 8 * i) 4 head) (used + 4 + 8 * i + 4) 4 len) (used + 2) 2 n) ahead
    ∙ ap (λ (a : ℕ). put_num (put_num (put_num m a 4 head) (a + 4) 4 len) (used + 2) 2 (next_place ring))
    place
