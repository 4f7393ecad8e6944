-- The pieces of a device that may fail, in which the count of its failures stayed, are those of the exact
-- device.
use Rattle.std.proofs.Common.{◌≡◌, ◌≢◌, ℕ, Bool, sym, ap, ◌∙◌}
use Rattle.chain.specs.declared.budget.Budget.{Budget}
use Rattle.chain.specs.Pieces.{BeginsWithin, EndsWithin, GoesToEnd, IsServiceWithin, Pauses}
use Rattle.chain.specs.Service.{Kind, Device, Ending, Refused, Site, Course, open_site, IsExactUnless}
use Rattle.chain.proofs.Servicing.{ServesAll-exact, IsEnding-exact, exact_service, ready_exact, stop_exact, stop_state}

module _ {Ring State : Type 0} (kind : Kind Ring) (device exact : Device State) (count : State → ℕ)
    (is_exact : IsExactUnless device exact count) where
  course_exact : (start at : Site Ring State) → count at.state ≡ count start.state
      → Course kind device start at → Course kind exact start at
  course_exact start at e c =
      record {
        chains = c.chains;
        serves = ServesAll-exact kind device exact count is_exact start at c.chains e c.serves;
      }

  end_exact : (start new : Site Ring State) (ending : Ending) (wanted : Bool) → ending ≢ Refused
      → count new.state ≡ count start.state
      → GoesToEnd kind device start new ending wanted → GoesToEnd kind exact start new ending wanted
  end_exact start new ending wanted n e q =
      let same : new.state ≡ q.runs.at.state =
      ap (λ (s : Site Ring State). s.state) q.closed ∙ ap (λ (s : Site Ring State). s.state) q.runs.stands
      ∙ stop_state kind device exact count is_exact q.runs.at ending in
      record {
        last = q.last;
        runs = record {
          chains = q.runs.chains;
          at = q.runs.at;
          serves = ServesAll-exact kind device exact count is_exact start q.runs.at q.runs.chains
              (ap count (sym same) ∙ e) q.runs.serves;
          ends = IsEnding-exact kind device exact count is_exact q.runs.at ending n q.runs.ends;
          stands = q.runs.stands ∙ stop_exact kind device exact count is_exact q.runs.at ending;
        };
        closed = q.closed;
        wanted_is = q.wanted_is;
      }

  pub pauses_exact : (budget : Budget) (start now : Site Ring State) → count now.state ≡ count start.state
      → Pauses kind device budget start now → Pauses kind exact budget start now
  unfolding course_exact
  pauses_exact budget start now e p = record {
    course = course_exact start now e p.course;
    within = p.within;
    spent = p.spent;
    ready = ready_exact kind device exact count is_exact now p.ready;
    buffers = p.buffers;
    entry = p.entry;
    offered = p.offered;
  }

  pub begins_exact : (budget : Budget) (old now : Site Ring State) → count now.state ≡ count old.state
      → BeginsWithin kind device budget old now → BeginsWithin kind exact budget old now
  begins_exact budget old now e p =
      record { opens = p.opens; pauses = pauses_exact budget (open_site kind device old) now e p.pauses }

  pub ends_exact : (budget : Budget) (start new : Site Ring State) (ending : Ending) (wanted : Bool)
      → ending ≢ Refused → count new.state ≡ count start.state
      → EndsWithin kind device budget start new ending wanted
      → EndsWithin kind exact budget start new ending wanted
  unfolding end_exact
  ends_exact budget start new ending wanted n e p =
      record { ends = end_exact start new ending wanted n e p.ends; within = p.within }

  pub service_within_exact : (budget : Budget) (old new : Site Ring State) (ending : Ending) (wanted : Bool)
      → ending ≢ Refused → count new.state ≡ count old.state
      → IsServiceWithin kind device budget old new ending wanted
      → IsServiceWithin kind exact budget old new ending wanted
  service_within_exact budget old new ending wanted n e p = record {
    service = exact_service kind device exact count is_exact old new ending wanted n e p.service;
    within = λ opens. ends_exact budget (open_site kind device old) new ending wanted n e (p.within opens);
  }
