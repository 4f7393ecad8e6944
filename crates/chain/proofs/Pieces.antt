-- A service in pieces is the service, whatever becomes of the device's state in a pause that its driver can't
-- tell.
use Rattle.std.proofs.Common.{◌≡◌, Bool, Option, None, List, [], ◌∷◌, ◌++◌, sym, ap, subst, ◌∙◌}
use Rattle.chain.specs.declared.segment.Buffer.{Buffer}
use Rattle.chain.specs.declared.fault.Fault.{Fault}
use Rattle.chain.specs.Budget.{chains_of}
use Rattle.chain.specs.Service.{Kind, Device, Ending, Site, Served, after, ServesAll, open_site, Works, IsService, Course}
use Rattle.chain.specs.Pieces.{Pause, IsPart, GoesToEnd, GoesInPieces, IsOneService}
use Rattle.chain.proofs.Simulating.{DoesAs, ServedAlike, moved, serves_as, ending_as, stop_as, stop_state}

module _ {Ring State : Type 0} (kind : Kind Ring) (device : Device State) where
  -- chains behind chains
  ServesAll-append : (old mid new : Site Ring State) (xs ys : List (Served State))
      → ServesAll kind device old xs mid → ServesAll kind device mid ys new
      → ServesAll kind device old (xs ++ ys) new
  ServesAll-append old mid new [] ys p q =
      subst (λ (s : Site Ring State). ServesAll kind device s ys new) (sym p) q
  ServesAll-append old mid new (x ∷ xs) ys p q =
      (p.0, ServesAll-append (after kind device old x) mid new xs ys p.1 q)

  -- Two courses, one behind the other, are one.
  pub courses_join : (old mid new : Site Ring State) → Course kind device old mid → Course kind device mid new
      → Course kind device old new
  courses_join old mid new p q =
      record {
        chains = p.chains ++ q.chains;
        serves = ServesAll-append old mid new p.chains q.chains p.serves q.serves;
      }

  -- A part that goes on is a part.
  pub part_goes_on : (old mid new : Site Ring State) → IsPart kind device old mid → Course kind device mid new
      → IsPart kind device old new
  part_goes_on old mid new p q =
      record { opens = p.opens; course = courses_join (open_site kind device old) mid new p.course q }

  -- a course that goes on to the end does so from its start
  course_to_end : (old mid new : Site Ring State) (ending : Ending) (wanted : Bool)
      → Course kind device old mid → GoesToEnd kind device mid new ending wanted
      → GoesToEnd kind device old new ending wanted
  course_to_end old mid new ending wanted p q = record {
    last = q.last;
    runs = record {
      chains = p.chains ++ q.runs.chains;
      at = q.runs.at;
      serves = ServesAll-append old mid q.runs.at p.chains q.runs.chains p.serves q.runs.serves;
      ends = q.runs.ends;
      stands = q.runs.stands;
    };
    closed = q.closed;
    wanted_is = q.wanted_is;
  }

  -- what was opened and goes to its end is a service
  pub opened_to_end : (old new : Site Ring State) (ending : Ending) (wanted : Bool)
      → kind.opening_fault old.memory old.ring ≡ None
      → GoesToEnd kind device (open_site kind device old) new ending wanted
      → IsService kind device old new ending wanted
  opened_to_end old new ending wanted opens q = record {
    last = q.last;
    works = subst (λ (f : Option Fault). Works kind device f (open_site kind device old) ending q.last)
        (sym opens) q.runs;
    closed = q.closed;
    wanted_is = q.wanted_is;
  }

  -- A part and what goes on from it to the end are a service.
  pub part_to_end : (old mid new : Site Ring State) (ending : Ending) (wanted : Bool)
      → IsPart kind device old mid → GoesToEnd kind device mid new ending wanted
      → IsService kind device old new ending wanted
  part_to_end old mid new ending wanted p q =
      opened_to_end old new ending wanted p.opens
      (course_to_end (open_site kind device old) mid new ending wanted p.course q)

-- Another device goes on in the same way, with the same chains, and is left in a like state.
pub record CourseAlike {Ring S T : Type 0} (kind : Kind Ring) (other : Device T) (Alike : S → T → Type 0)
    (start : Site Ring T) (at : Site Ring S) (chains : List (List Buffer)) : Type 0 where
  pub state : T
  pub alike : Alike at.state state
  pub course : Course kind other start (moved at state)
  pub same : chains_of course.chains ≡ chains

-- It goes to the end in the same way.
pub record EndsAlike {Ring S T : Type 0} (kind : Kind Ring) (other : Device T) (Alike : S → T → Type 0)
    (start : Site Ring T) (new : Site Ring S) (ending : Ending) (wanted : Bool) : Type 0 where
  pub state : T
  pub alike : Alike new.state state
  pub ends : GoesToEnd kind other start (moved new state) ending wanted

-- And with the same chains.
pub record EndsAlikeBy {Ring S T : Type 0} (kind : Kind Ring) (other : Device T) (Alike : S → T → Type 0)
    (start : Site Ring T) (new : Site Ring S) (ending : Ending) (wanted : Bool)
    (chains : List (List Buffer)) : Type 0 where
  pub way : EndsAlike kind other Alike start new ending wanted
  pub same : chains_of way.ends.runs.chains ≡ chains

module _ {Ring S T : Type 0} (kind : Kind Ring) (device : Device S) (other : Device T)
    (Alike : S → T → Type 0) (likewise : DoesAs device other Alike) where
  -- a course from a like state
  pub course_alike : (start at : Site Ring S) (t : T) → Alike start.state t
      → (c : Course kind device start at)
      → CourseAlike kind other Alike (moved start t) at (chains_of c.chains)
  course_alike start at t alike c =
      let p : ServedAlike kind device other Alike likewise (moved start t) at (chains_of c.chains) =
      serves_as kind device other Alike likewise start at c.chains t alike c.serves in
      record {
        state = p.state;
        alike = p.alike;
        course = record { chains = p.chains; serves = p.serves };
        same = p.same;
      }

  -- and its end
  pub end_alike : (start new : Site Ring S) (t : T) (ending : Ending) (wanted : Bool) → Alike start.state t
      → (q : GoesToEnd kind device start new ending wanted)
      → EndsAlikeBy kind other Alike (moved start t) new ending wanted (chains_of q.runs.chains)
  end_alike start new t ending wanted alike q =
      let p : ServedAlike kind device other Alike likewise (moved start t) q.runs.at
      (chains_of q.runs.chains) =
      serves_as kind device other Alike likewise start q.runs.at q.runs.chains t alike q.runs.serves in
      let same : new.state ≡ q.runs.at.state =
      ap (λ (s : Site Ring S). s.state) q.closed ∙ ap (λ (s : Site Ring S). s.state) q.runs.stands
      ∙ stop_state kind device other Alike likewise q.runs.at ending in
      record {
        way = record {
          state = p.state;
          alike = subst (λ (s : S). Alike s p.state) (sym same) p.alike;
          ends = record {
            last = moved q.last p.state;
            runs = record {
              chains = p.chains;
              at = moved q.runs.at p.state;
              serves = p.serves;
              ends = ending_as kind device other Alike likewise q.runs.at p.state ending p.alike q.runs.ends;
              stands = ap (λ (s : Site Ring S). moved s p.state) q.runs.stands
                  ∙ stop_as kind device other Alike likewise q.runs.at p.state ending;
            };
            closed = ap (λ (s : Site Ring S). moved s p.state) q.closed;
            wanted_is = q.wanted_is;
          };
        };
        same = p.same;
      }

module _ {Ring State : Type 0} (kind : Kind Ring) (device : Device State) (Alike : State → State → Type 0)
    (likewise : DoesAs device device Alike) where
  -- the pieces, joined, go to the end without a pause, from every like state
  pieces_to_end : ((r s t : State) → Alike r s → Alike s t → Alike r t)
      → (now new : Site Ring State) (pauses : List (Pause Ring State)) (t : State)
      (ending : Ending) (wanted : Bool)
      → Alike now.state t → GoesInPieces kind device Alike now pauses new ending wanted
      → EndsAlike kind device Alike (moved now t) new ending wanted
  pieces_to_end further now new [] t ending wanted alike q =
      (end_alike kind device device Alike likewise now new t ending wanted alike q).way
  pieces_to_end further now new (pause ∷ pauses) t ending wanted alike q =
      let first : CourseAlike kind device Alike (moved now t) pause.at (chains_of q.0.chains) =
      course_alike kind device device Alike likewise now pause.at t alike q.0 in
      let rest : EndsAlike kind device Alike (moved pause.at first.state) new ending wanted =
      pieces_to_end further (moved pause.at pause.state) new pauses first.state ending wanted
      (further pause.state pause.at.state first.state q.1 first.alike) q.2 in
      record {
        state = rest.state;
        alike = rest.alike;
        ends = course_to_end kind device (moved now t) (moved pause.at first.state) (moved new rest.state)
            ending wanted first.course rest.ends;
      }

  -- The pieces of a service, joined, are one service.
  pub pieces_are_a_service : ((s : State) → Alike s s) → ((r s t : State) → Alike r s → Alike s t → Alike r t)
      → (old new : Site Ring State) (pauses : List (Pause Ring State)) (ending : Ending) (wanted : Bool)
      → kind.opening_fault old.memory old.ring ≡ None
      → GoesInPieces kind device Alike (open_site kind device old) pauses new ending wanted
      → IsOneService kind device Alike old new ending wanted
  pieces_are_a_service same further old new pauses ending wanted opens q =
      let whole : EndsAlike kind device Alike (open_site kind device old) new ending wanted =
      pieces_to_end further (open_site kind device old) new pauses old.state ending wanted
      (same old.state) q in
      record {
        state = whole.state;
        alike = whole.alike;
        service = opened_to_end kind device old (moved new whole.state) ending wanted opens whole.ends;
      }
