use Rattle.std.proofs.Common.{take, ◌≡◌, ℕ, subst, List, Option, IfSome}
use Rattle.guest_memory.specs.declared.spec.RegionSpec.{RegionSpec}
use Rattle.c_values.proofs.region.regions.Goals as goal

pub returns : goal.returns
returns c =
    let places = c.args.places.now in
    let same : c.unwrap.result ≡ take c.count.result places =
    subst (λ (r : Option (List RegionSpec)). IfSome r (λ made. made ≡ take c.count.result places))
    c.unwrap.ensures c.new.ensures.same in
    subst (λ (n : ℕ). c.unwrap.result ≡ take n places) c.count.ensures.value same
