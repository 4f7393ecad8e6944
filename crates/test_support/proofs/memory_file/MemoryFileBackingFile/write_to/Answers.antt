use Rattle.std.proofs.Common.{◌≡◌, ◌+◌, length, take, rules, arith}
use Rattle.std.proofs.lemmas.List.{length-take-le}
use Rattle.sector_cache.specs.Backing.{with_bytes}
use Rattle.sector_cache.specs.Stop.{DiffersWithin}
use Rattle.std.proofs.Common.{subst, sym}
use Rattle.test_support.proofs.MemoryFiles.{found_within, wrote}
use Rattle.sector_cache.proofs.Stops.{touches_plain}
use Rattle.test_support.proofs.memory_file.MemoryFileBackingFile.write_to.Goals as goal

pub returns-clause-put : goal.returns-clause-put
returns-clause-put c = wrote _ _ _ _ c.reach-start.result.0 _ (λ inside. (c.reach-start.ensures.at inside).0)
    (search rules) (search rules)

pub returns-clause-touches : goal.returns-clause-touches
returns-clause-touches c =
    let end = c.args.at + length c.args.from.now in
    let old = c.args.self.now.bytes.items in
    let start = c.reach-start.result.0 in
    let n = c.reach-start.result.1 in
    let front = take n c.args.from.now in
    let long : length front ≡ n = length-take-le n c.args.from.now c.reach-start.ensures.most in
    let put : c.copy_in.new.self.bytes.items ≡ with_bytes old start front = search rules in
    touches_plain c.args.at end old c.copy_in.new.self.bytes.items
    (subst (DiffersWithin c.args.at end old) (sym put)
    (found_within old front c.args.at start (length c.args.from.now)
    (omega (arith, long, c.reach-start.ensures.within)) (omega (arith, long, c.reach-start.ensures.most))
    (λ differ. omega (arith, long, c.reach-start.ensures.at_end differ))))
