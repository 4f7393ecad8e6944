use Rattle.std.proofs.Common.{◌∙◌, ◌++◌, ℕ, List, ap, arith, length, map}
use Rattle.std.specs.Int.{from_le_bytes, w32}
use Rattle.std.proofs.lemmas.List.{length-map}
use Rattle.circular_buffer.specs.Buffer.{Buffer}
use Rattle.network_device.specs.Frames.{Store, sum_of, total}
use Rattle.network_device.proofs.Cutting.{length-cut, total-cut}
use Rattle.network_device.proofs.store.FrameStore.restore.Goals as goal

pub push_lens-requires : goal.push_lens-requires
push_lens-requires g c =
    let lens = c.frames.inside.lens.now in
    let none = ap (λ (b : Buffer ℕ). length b.items) c.clear.ensures in
    let room = ap (λ (b : Buffer ℕ). b.capacity) c.clear.ensures in
    let limit = ap (λ (s : Store). s.limits.frames) c.self.view_is in
    let count = ap (λ (l : List (List ℕ)). length l) c.frames.view_is in
    record {
      room = omega (
        arith,
        none,
        room,
        limit,
        count,
        length-map lens (from_le_bytes w32),
        length-cut (map (from_le_bytes w32) lens) c.frames.inside.bytes.now,
        c.requires.count,
      );
    }

pub append-requires : goal.append-requires
append-requires g c =
    let lens = c.frames.inside.lens.now in
    let none = ap (λ (b : Buffer ℕ). length b.items) c.clear-2.ensures in
    let room = ap (λ (b : Buffer ℕ). b.capacity) c.clear-2.ensures in
    let limit = ap (λ (s : Store). s.limits.bytes) c.self.view_is in
    let all = ap total c.frames.view_is in
    let sum = c.frames.invariant in
    record {
      room = omega (
        arith,
        none,
        room,
        limit,
        all,
        sum,
        total-cut (map (from_le_bytes w32) lens) c.frames.inside.bytes.now (omega (arith, sum)),
        c.requires.bytes,
      );
    }

pub invariant_of-self : goal.invariant_of-self
invariant_of-self g c =
    let lens = c.frames.inside.lens.now in let bytes = c.frames.inside.bytes.now in
    let none = ap (λ (b : Buffer ℕ). b.items) c.clear.ensures in
    let pushed = ap (λ (b : Buffer ℕ). b.items) c.push_lens.ensures in
    let empty = ap (λ (b : Buffer ℕ). b.items) c.clear-2.ensures in
    let is = ap (λ (b : Buffer ℕ). b.items) c.append.ensures.items in
    let put = ap (λ (l : List ℕ). length l) (is ∙ ap (λ (l : List ℕ). l ++ bytes) empty) in
    let room = ap (λ (b : Buffer ℕ). b.capacity) c.append.ensures.items in
    let had = ap (λ (b : Buffer ℕ). b.capacity) c.clear-2.ensures in
    let limit = ap (λ (s : Store). s.limits.bytes) c.self.view_is in
    let all = ap total c.frames.view_is in let sum = c.frames.invariant in
    let cut = total-cut (map (from_le_bytes w32) lens) bytes (omega (arith, sum)) in (
      ap sum_of (pushed ∙ ap (λ (l : List ℕ). l ++ map (from_le_bytes w32) lens) none) ∙ sum,
      omega (arith, put),
      omega (arith, put, room, had, limit, all, sum, cut, c.requires.bytes),
    )
