-- What a look that finds nothing new saw.
use Rattle.std.proofs.Common.{◌≡◌, ◌∙◌, ℕ, ◌+◌, ◌-◌, ◌<◌, Bool, true, false, Some, None, sym, ap, arith}
use Rattle.std.specs.Prelude.{◌&&◌, if◌then◌else◌, nat_lt}
use Rattle.std.proofs.lemmas.Bool.Decides.{nat_tests}
use Rattle.chain.specs.declared.fault.Fault.TheVariants.{Jump}
use Rattle.chain.specs.declared.state.RingState.{RingState}
use Rattle.chain.specs.Service.{Device}
use Rattle.split_ring.specs.Ring.{on_offer}
use Rattle.packed_ring.specs.Ring.{is_available}
use Rattle.shared_memory.specs.Sightings.{memory}
use Rattle.shared_memory.proofs.Sightings.{seen_last, seen_later, seen_sooner}
use Rattle.racing_service.specs.declared.stage.Stage.TheVariants.{Again}
use Rattle.racing_service.specs.Queue.{racing_packed, racing_split}
use Rattle.racing_service.specs.Laws.{SeesNoHead, SeesNoList}
use Rattle.racing_service.specs.Service.{IsLook, Standing}

none_left : (n : ℕ) → false ≡ nat_lt 0 n → n ≡ 0
none_left n none = grind (arith, nat_tests, none)

-- what was counted as the ring was opened
none_counted : (jumps : Bool) (offered pending : ℕ) → (if jumps then Some Jump else None) ≡ None
    → pending ≡ (if jumps then 0 else offered) → false ≡ nat_lt 0 pending → offered ≡ 0
none_counted true offered pending opens counts none = cc
none_counted false offered pending opens counts none =
    let same : pending ≡ offered = counts in
    let spent : pending ≡ 0 = none_left pending none in
    sym same ∙ spent

going_on : (going available : Bool) → going ≡ true → false ≡ (going && available) → available ≡ false
going_on true available going none = sym none
going_on false available going none = cc

module _ {State : Type 0} (device : Device State) (races : Bool) where
  pub no_head : (a b : Standing RingState State) → device.takes a.state ≡ true → IsLook racing_split device races Again a b
      → SeesNoHead a.sightings b.sightings a.ring
  no_head a b takes look =
      let o = look.opened in record {
        where_read = memory o.sightings;
        seen = seen_later races a.sightings o.sightings b.sightings (memory o.sightings) look.finds.only.loads
            (seen_last races a.sightings o.sightings look.opens.only.loads);
        none = none_counted (nat_lt a.ring.setup.size (a.ring.ahead + on_offer (memory o.sightings) a.ring))
            (on_offer (memory o.sightings) a.ring) o.ring.pending look.no_fault
            (ap (λ (r : RingState). r.pending) look.opens.ring)
            (look.finds.none (ap device.takes look.opens.only.state ∙ takes));
      }

  pub no_list : (a b : Standing RingState State) → device.takes a.state ≡ true → a.ring.ahead < a.ring.setup.size
      → IsLook racing_packed device races Again a b → SeesNoList a.sightings b.sightings a.ring
  no_list a b takes room look =
      let o = look.opened in
      let told = look.finds.none (ap device.takes look.opens.only.state ∙ takes) in
      let going : nat_lt 0 (a.ring.setup.size - a.ring.ahead) ≡ true = grind (arith, nat_tests, room) in record {
        where_read = told.head_in;
        seen = seen_sooner races a.sightings o.sightings b.sightings told.head_in look.opens.only.loads told.head_seen;
        none = going_on (nat_lt 0 (a.ring.setup.size - a.ring.ahead)) (is_available told.head_in a.ring) going
            (rw look.opens.ring at told.told);
      }
