use Rattle.std.proofs.Common.{◌≡◌, ◌+◌, ◌*◌, ap, subst}
use Rattle.std.specs.Prelude.{⊤}
use Rattle.sector_cache.specs.Stop.{Touches}
use Rattle.sector_cache.proofs.scripted.ScriptedImageImage.write_sector.Goals as goal

pub returns-clause-touches : goal.returns-clause-touches
returns-clause-touches g c =
    subst (λ bytes. Touches (512 * c.args.sector) (512 * (c.args.sector + 1)) 0 0 (λ left. left ≡ bytes)
    (λ left. left ≡ c.write_sector-2.new.self.bytes.items) (λ _ _. ⊤) (λ _ _. ⊤))
    (ap (λ m. m.bytes.items) c.next_call_fails.ensures.memory) c.write_sector-2.ensures.touches
