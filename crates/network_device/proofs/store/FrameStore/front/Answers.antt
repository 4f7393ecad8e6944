use Rattle.std.proofs.Common.{Some, List, ℕ, ◌++◌, [], length, slice_get, option_map, ap, sym, ◌∙◌, arith, rules, append-nil, take}
use Rattle.std.proofs.lemmas.List.{length-take}
use Rattle.network_device.specs.Frames.{Store}
use Rattle.network_device.proofs.Cutting.{front-cut}
use Rattle.network_device.proofs.store.FrameStore.front.Goals as goal

pub slice_bounds-result-end : goal.slice_bounds-result-end
slice_bounds-result-end g c =
    let first = front-cut c.self.inside.lens.items c.self.inside.bytes.items c.in_ok-len.len
    (ap (λ (s : Store). option_map (λ (frame : List ℕ). length frame) (slice_get s.frames 0)) c.self.view_is
    ∙ sym c.frame_len.ensures ∙ (search rules)) (omega (arith, c.self.invariant.0, c.self.invariant.1)) in
    let held = first.0 in let all = ap (λ (l : List ℕ). length l) c.as_slice.ensures in
    let t = length-take c.in_ok-len.len c.as_slice.result.now in
    omega (arith, held, all, t)

pub returns : goal.returns
returns g c =
    let bytes = c.self.inside.bytes.items in let len = c.in_ok-len.len in
    let first = front-cut c.self.inside.lens.items bytes len
    (ap (λ (s : Store). option_map (λ (frame : List ℕ). length frame) (slice_get s.frames 0)) c.self.view_is
    ∙ sym c.frame_len.ensures ∙ (search rules)) (omega (arith, c.self.invariant.0, c.self.invariant.1)) in
    ap (λ (l : List ℕ). Some (take len l ++ [])) c.as_slice.ensures ∙ ap Some (append-nil (take len bytes))
    ∙ sym first.1 ∙ ap (λ (s : Store). slice_get s.frames 0) c.self.view_is
