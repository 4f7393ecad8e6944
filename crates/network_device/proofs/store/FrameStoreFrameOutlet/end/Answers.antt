use Rattle.std.proofs.Common.{◌++◌, ◌∷◌, [], ℕ, length, drop, true≢false, ap, sym, ◌∙◌, arith}
use Rattle.circular_buffer.specs.Buffer.{Buffer}
use Rattle.network_device.specs.Frames.{Store, cut, has_room, sum_of}
use Rattle.network_device.proofs.Cutting.{ended, length-cut}
use Rattle.network_device.proofs.Rooms.{room_of}
use Rattle.network_device.proofs.store.FrameStoreFrameOutlet.end.Goals as goal

pub unreachable-requires : goal.unreachable-requires
unreachable-requires g c =
    let lens = c.self.inside.lens.items in let bytes = c.self.inside.bytes.items in
    let room = room_of _ (cut lens bytes) (length (drop (sum_of lens) bytes))
    (ap (λ (s : Store). has_room s.limits s.frames (length s.begun)) c.self.view_is ∙ c.requires.room) in
    let few = room.few in let e = length-cut lens bytes in
    true≢false (sym (c.in_default.ensures.variant.1 (omega (arith, few, e))))

pub invariant_of-self : goal.invariant_of-self
invariant_of-self g c =
    let lens = c.self.inside.lens.items in let bytes = c.self.inside.bytes.items in
    let last = ended lens bytes c.try_push_back.new.self.items c.self.inside.whole c.len.result
    c.self.invariant.0 c.self.invariant.1 c.len.ensures.len
    (ap (λ (b : Buffer ℕ). b.items) c.in-Ok.ensures.ok) in (
      last.sum ∙ sym c.len-self-inside.ensures.len,
      omega (arith, c.len-self-inside.ensures.len),
      c.self.invariant.2,
    )

pub returns-clause-frames : goal.returns-clause-frames
returns-clause-frames g c =
    let lens = c.self.inside.lens.items in let bytes = c.self.inside.bytes.items in
    let last = ended lens bytes c.try_push_back.new.self.items c.self.inside.whole c.len.result
    c.self.invariant.0 c.self.invariant.1 c.len.ensures.len
    (ap (λ (b : Buffer ℕ). b.items) c.in-Ok.ensures.ok) in
    last.frames ∙ ap (λ (s : Store). s.frames ++ s.begun ∷ []) c.self.view_is

pub returns-clause-begun : goal.returns-clause-begun
returns-clause-begun g c =
    let lens = c.self.inside.lens.items in let bytes = c.self.inside.bytes.items in
    let last = ended lens bytes c.try_push_back.new.self.items c.self.inside.whole c.len.result
    c.self.invariant.0 c.self.invariant.1 c.len.ensures.len
    (ap (λ (b : Buffer ℕ). b.items) c.in-Ok.ensures.ok) in
    last.begun
