-- A used descriptor's len, buffer id and flags are written as one number.
use Rattle.std.proofs.Common.{◌≡◌, ◌+◌, ◌*◌, ◌^◌, ◌<◌, ◌∙◌, ℕ, Bool, ap, arith}
use Rattle.guest_memory.specs.Memory.{Memory, put_num}
use Rattle.guest_memory.proofs.Ranges.{inside_part}
use Rattle.chain.specs.declared.state.RingState.{RingState}
use Rattle.indirect.proofs.Beside.{three_beside}
use Rattle.packed_ring.specs.Ring.{LiesIn, descriptor_addr, used_addr, used_flags, used_head, with_used, wrap_counter}

-- the memory with the descriptor; h and o are the position of the ring's place
pub used_written : (m written : Memory) (ring : RingState) (h o flags v id len : ℕ) (wrote : Bool)
    → LiesIn m ring.setup → h ≡ used_head ring → h < ring.setup.size → o ≡ h
    → written ≡ put_num m (descriptor_addr ring.setup.desc o + 8) 8 v → v ≡ flags * 2 ^ 48 + id * 2 ^ 32 + len
    → len < 2 ^ 32 → id < 2 ^ 16 → flags ≡ used_flags (wrap_counter ring) wrote
    → written ≡ with_used m ring id len wrote
used_written m written ring h o flags v id len wrote lies is below same put all first second told =
    let addr = descriptor_addr ring.setup.desc o in
    let place : addr ≡ used_addr ring = ap (descriptor_addr ring.setup.desc) (same ∙ is) in
    let id_at : addr + 8 + 4 ≡ addr + 12 = omega arith in
    let flags_at : addr + 8 + 4 + 2 ≡ addr + 14 = omega arith in
    let filled : written
    ≡ put_num (put_num (put_num m (addr + 8) 4 len) (addr + 8 + 4) 2 id) (addr + 8 + 4 + 2) 2 flags =
    three_beside m written (addr + 8) v len id flags put all
    (inside_part lies.desc (omega arith) (omega (arith, below, same))) first second in
    filled
    ∙ ap (λ (a : ℕ). put_num (put_num (put_num m (addr + 8) 4 len) a 2 id) (addr + 8 + 4 + 2) 2 flags) id_at
    ∙ ap (λ (a : ℕ). put_num (put_num (put_num m (addr + 8) 4 len) (addr + 12) 2 id) a 2 flags) flags_at
    ∙ ap (λ (f : ℕ). put_num (put_num (put_num m (addr + 8) 4 len) (addr + 12) 2 id) (addr + 14) 2 f) told
    ∙ ap (λ (a : ℕ). put_num (put_num (put_num m (a + 8) 4 len) (a + 12) 2 id) (a + 14) 2
    (used_flags (wrap_counter ring) wrote)) place
