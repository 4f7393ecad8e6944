use Rattle.std.proofs.Common.{ℕ, ◌-◌, ◌*◌, ◌%◌, ◌^◌, ◌<◌, sym, subst, arith}
use Rattle.std.proofs.lemmas.Nat.{pow_pos}
use Rattle.racing_memory.proofs.Changing.{high_bytes_below}
use Rattle.racing_memory.proofs.region.RacingRegion.store.Goals as goal

pub store_in_word-requires-2-clause-number : goal.store_in_word-requires-2-clause-number
store_in_word-requires-2-clause-number c =
    omega (arith, c.split_number-low.ensures.first, pow_pos (8 * (8 - (c.args.addr - c.self.inside.base) % 8)))

pub store_in_word-requires-3-clause-number : goal.store_in_word-requires-3-clause-number
store_in_word-requires-3-clause-number c =
    subst (λ (n : ℕ). n < 2 ^ (8 * (c.args.len - (8 - (c.args.addr - c.self.inside.base) % 8))))
    (sym c.split_number-low.ensures.behind)
    (high_bytes_below c.args.v c.args.len (8 - (c.args.addr - c.self.inside.base) % 8)
    (omega (arith, c.if-len-room.false)) c.requires.number)
