use Rattle.std.proofs.Common.{◌∙◌, false, List, ℕ, length, ap, subst, sym}
use Rattle.guest_memory.specs.Memory.{Memory, put}
use Rattle.guest_memory.proofs.Ranges.{lent_put}
use Rattle.std.specs.List.{range_with_len}
use Rattle.shared_memory.specs.Bytes.{StoresEach}
use Rattle.shared_memory.specs.Sightings.{still}
use Rattle.shared_memory.proofs.Bytes.{copied_each}
use Rattle.shared_memory.proofs.memory.GuestMemoryShared.store.Goals as goal

pub returns-clause-stored : goal.returns-clause-stored
returns-clause-stored g c =
    let m = c.args.self.now in
    let bytes = c.args.bytes.now in
    let is = lent_put m c.args.addr (length c.part_mut.result.now) c.copy_from_slice.new.self
    (c.part_mut.ensures.len ∙ sym (ap (λ (xs : List ℕ). length xs) c.copy_from_slice.ensures.after))
    ∙ ap (put m c.args.addr) c.copy_from_slice.ensures.after in
    subst (λ (n : Memory). StoresEach false (still m) (still n) (range_with_len c.args.addr (length bytes)) bytes)
    (sym is) (copied_each m c.args.addr bytes c.requires)
