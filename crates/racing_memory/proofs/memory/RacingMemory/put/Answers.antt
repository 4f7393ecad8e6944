use Rattle.std.proofs.Common.{◌∙◌, ℕ, List, ap, take, true}
use Rattle.racing_memory.specs.Past.{seen_again}
use Rattle.racing_memory.proofs.Seeing.{lowest_bytes}
use Rattle.racing_memory.proofs.memory.RacingMemory.put.Goals as goal

pub returns : goal.returns
returns c =
    let lowest = ap (λ (bs : List ℕ). take c.args.len bs) c.to_le_bytes.ensures
    ∙ lowest_bytes 0 8 c.args.len c.args.v c.requires.most in
    c.stored.ensures ∙ ap (λ (bs : List ℕ). seen_again true c.args.self.now c.args.addr bs) lowest
