use Rattle.std.proofs.Common.{ap, arith, length}
use Rattle.std.specs.Prelude.{List, ℕ}
use Rattle.std.proofs.lemmas.List.{length-take}
use Rattle.network_device.specs.Frames.{Store}
use Rattle.network_device.proofs.Saving.{all_put, count_is, len_is, total_is}
use Rattle.network_device.proofs.store.FrameStore.save.Goals as goal

pub split_at_mut-lens-requires : goal.split_at_mut-lens-requires
split_at_mut-lens-requires g c =
    let len = len_is c.self.inside.lens.items c.self.inside.bytes.items c.args.self.now.frames c.self.inside.whole
    (ap (λ (s : Store). s.frames) c.self.view_is) c.self.invariant.0 c.self.invariant.1 in
    omega (arith, len, c.requires.len, c.split_at_mut-count.ensures.back_len, c.len-2.ensures.len)

pub save_lens-requires-clause-len : goal.save_lens-requires-clause-len
save_lens-requires-clause-len g c =
    let count = count_is c.self.inside.lens.items c.self.inside.bytes.items c.args.self.now.frames c.self.inside.whole
    (ap (λ (s : Store). s.frames) c.self.view_is) c.self.invariant.0 c.self.invariant.1 in
    omega (arith, count, c.split_at_mut-lens.ensures.front_len, c.len-2.ensures.len)

pub copy_from_slice-requires : goal.copy_from_slice-requires
copy_from_slice-requires g c =
    let len = len_is c.self.inside.lens.items c.self.inside.bytes.items c.args.self.now.frames c.self.inside.whole
    (ap (λ (s : Store). s.frames) c.self.view_is) c.self.invariant.0 c.self.invariant.1 in
    let shown = ap (λ (l : List ℕ). length l) c.as_slice.ensures in
    omega (
      arith,
      len,
      shown,
      c.requires.len,
      c.split_at_mut-count.ensures.back_len,
      c.split_at_mut-lens.ensures.back_len,
      c.len-2.ensures.len,
      c.self.invariant.1,
      length-take c.self.inside.whole c.as_slice.result.now,
    )

pub returns-clause-text : goal.returns-clause-text
returns-clause-text g c =
    all_put c.self.inside.lens.items c.self.inside.bytes.items c.args.self.now.frames c.self.inside.whole
    (ap (λ (s : Store). s.frames) c.self.view_is) c.self.invariant.0 c.self.invariant.1 c.len.result
    c.split_at_mut-count.result.0.now c.write_u32.new.buf c.save_lens.new.into c.copy_from_slice.new.self
    c.as_slice.result.now c.len.ensures.len c.split_at_mut-count.ensures.front_len c.write_u32.ensures
    c.save_lens.ensures c.as_slice.ensures c.copy_from_slice.ensures.after

pub returns-clause-within : goal.returns-clause-within
returns-clause-within g c =
    let frames = ap (λ (s : Store). s.frames) c.self.view_is in
    let count = count_is c.self.inside.lens.items c.self.inside.bytes.items c.args.self.now.frames c.self.inside.whole
    frames c.self.invariant.0 c.self.invariant.1 in
    let all = total_is c.self.inside.lens.items c.self.inside.bytes.items c.args.self.now.frames c.self.inside.whole
    frames c.self.invariant.0 c.self.invariant.1 in record {
      count = omega (
        arith,
        count,
        ap (λ (s : Store). s.limits.frames) c.self.view_is,
        c.len.ensures.len,
        c.len.ensures.within,
      );
      bytes = omega (arith, all, ap (λ (s : Store). s.limits.bytes) c.self.view_is, c.self.invariant);
    }
