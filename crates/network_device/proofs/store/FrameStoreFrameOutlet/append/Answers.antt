use Rattle.std.proofs.Common.{◌≡◌, ◌≤◌, ◌++◌, ◌+◌, ℕ, length, drop, ap, ◌∙◌, arith}
use Rattle.std.proofs.lemmas.List.{drop-append-le, length-append, length-drop}
use Rattle.circular_buffer.specs.Buffer.{Buffer}
use Rattle.network_device.specs.Frames.{Store, cut, has_room, sum_of}
use Rattle.network_device.proofs.Cutting.{cut-more, total-cut}
use Rattle.network_device.proofs.Rooms.{room_of}
use Rattle.network_device.proofs.store.FrameStoreFrameOutlet.append.Goals as goal

pub append-requires : goal.append-requires
append-requires g c =
    let lens = c.self.inside.lens.items in let bytes = c.self.inside.bytes.items in
    let held : sum_of lens ≤ length bytes = omega (arith, c.self.invariant.0, c.self.invariant.1) in
    let room = room_of _ (cut lens bytes) (length (drop (sum_of lens) bytes) + length c.args.part.now)
    (ap (λ (s : Store). has_room s.limits s.frames (length s.begun + length c.args.part.now)) c.self.view_is
    ∙ c.requires.room) in
    let fits = room.fits in let t = total-cut lens bytes held in let d = length-drop (sum_of lens) bytes in
    omega (arith, fits, t, d, c.self.invariant.0, c.self.invariant.1)

pub invariant_of-self : goal.invariant_of-self
invariant_of-self g c =
    let lens = c.self.inside.lens.items in let bytes = c.self.inside.bytes.items in
    let held : sum_of lens ≤ length bytes = omega (arith, c.self.invariant.0, c.self.invariant.1) in
    let room = room_of _ (cut lens bytes) (length (drop (sum_of lens) bytes) + length c.args.part.now)
    (ap (λ (s : Store). has_room s.limits s.frames (length s.begun + length c.args.part.now)) c.self.view_is
    ∙ c.requires.room) in
    let fits = room.fits in let t = total-cut lens bytes held in let d = length-drop (sum_of lens) bytes in
    let more : length c.append.new.self.items ≡ length bytes + length c.args.part.now =
    ap (λ (b : Buffer ℕ). length b.items) c.append.ensures.items ∙ length-append bytes c.args.part.now in
    let most : c.append.new.self.capacity ≡ c.self.inside.bytes.capacity =
    ap (λ (b : Buffer ℕ). b.capacity) c.append.ensures.items in (
      c.self.invariant.0,
      omega (arith, more, c.self.invariant.1),
      omega (arith, more, most, fits, t, d, c.self.invariant.0, c.self.invariant.1),
    )

pub returns-clause-begun : goal.returns-clause-begun
returns-clause-begun g c =
    let lens = c.self.inside.lens.items in let bytes = c.self.inside.bytes.items in
    let held : sum_of lens ≤ length bytes = omega (arith, c.self.invariant.0, c.self.invariant.1) in
    ap (λ (b : Buffer ℕ). drop (sum_of lens) b.items) c.append.ensures.items
    ∙ drop-append-le (sum_of lens) bytes c.args.part.now held
    ∙ ap (λ (s : Store). s.begun ++ c.args.part.now) c.self.view_is

pub returns-clause-frames : goal.returns-clause-frames
returns-clause-frames g c =
    let lens = c.self.inside.lens.items in let bytes = c.self.inside.bytes.items in
    ap (λ (b : Buffer ℕ). cut lens b.items) c.append.ensures.items
    ∙ cut-more lens bytes _ (omega (arith, c.self.invariant.0, c.self.invariant.1))
    ∙ ap (λ (s : Store). s.frames) c.self.view_is
