-- A device that does as another one does, in states that are alike: each service of the one is a service
-- of the other.
use Rattle.std.proofs.Common.{◌≡◌, ℕ, Bool, Option, Some, None, List, [], ◌∷◌, length, refl, sym, ap, subst, ◌∙◌}
use Rattle.std.specs.Prelude.{◌&&◌}
use Rattle.chain.specs.declared.fault.Fault.{Fault}
use Rattle.chain.specs.declared.segment.Buffer.{Buffer}
use Rattle.chain.specs.Budget.{chains_of}
use Rattle.chain.specs.Bytes.{readable_of, writable_of}
use Rattle.chain.specs.Service.{Kind, Device, Given, Ending, Spent, Faulted, Refused, Site, Served, IsReady, after, ServesAll, IsEnding, stop, open_site, Works, IsService}

-- the other device may write the same, and then is in a like state
pub record Matches {S T : Type 0} (other : Device T) (Alike : S → T → Type 0) (t : T) (readable : List ℕ)
    (w : ℕ) (given : Given S) : Type 0 where
  pub state : T
  pub alike : Alike given.state state
  pub gives : other.Gives t readable w (record { state = state; written = given.written })

-- the other device does as this one, in like states
pub record DoesAs {S T : Type 0} (device : Device S) (other : Device T)
    (Alike : S → T → Type 0) : Type 0 where
  pub takes : (s : S) (t : T) → Alike s t → other.takes t ≡ device.takes s
  pub gives : (s : S) (t : T) (readable : List ℕ) (w : ℕ) (given : Given S) → Alike s t
      → device.Gives s readable w given → Matches other Alike t readable w given
  pub lacks_memory : (s : S) (t : T) (readable : List ℕ) (w : ℕ) → Alike s t → device.LacksMemory s readable w
      → other.LacksMemory t readable w

-- the same place with another state of a device
abbrev pub moved : {Ring S T : Type 0} → Site Ring S → T → Site Ring T
moved site t = record { memory = site.memory; ring = site.ring; state = t }

module _ {Ring S T : Type 0} (kind : Kind Ring) (device : Device S) (other : Device T)
    (Alike : S → T → Type 0) (likewise : DoesAs device other Alike) where
  pub record ServedAlike (start : Site Ring T) (at : Site Ring S)
      (buffers : List (List Buffer)) : Type 0 where
    pub chains : List (Served T)
    pub state : T
    pub alike : Alike at.state state
    pub serves : ServesAll kind other start chains (moved at state)
    pub same : chains_of chains ≡ buffers

  ready_as : (site : Site Ring S) (t : T) → Alike site.state t → IsReady kind device site
      → IsReady kind other (moved site t)
  ready_as site t alike ready =
      ap (λ b. b && kind.offers site.memory site.ring) (likewise.takes site.state t alike) ∙ ready

  pub serves_as : (start at : Site Ring S) (chains : List (Served S)) (t : T) → Alike start.state t
      → ServesAll kind device start chains at → ServedAlike (moved start t) at (chains_of chains)
  serves_as start at [] t alike p = record {
    chains = [];
    state = t;
    alike = subst (λ (s : Site Ring S). Alike s.state t) p alike;
    serves = ap (λ (s : Site Ring S). moved s t) p;
    same = refl;
  }
  serves_as start at (s ∷ chains) t alike p =
      let m : Matches other Alike t (readable_of start.memory s.buffers)
      (length (writable_of s.buffers)) s.given =
      likewise.gives start.state t (readable_of start.memory s.buffers) (length (writable_of s.buffers))
      s.given alike p.0.gives in
      let served : Served T = record {
        buffers = s.buffers;
        entry = s.entry;
        given = record { state = m.state; written = s.given.written };
      } in
      let rest : ServedAlike (moved (after kind device start s) m.state) at (chains_of chains) =
      serves_as (after kind device start s) at chains m.state m.alike p.1 in
      record {
        chains = served ∷ rest.chains;
        state = rest.state;
        alike = rest.alike;
        serves = (
          record {
            ready = ready_as start t alike p.0.ready;
            offered = p.0.offered;
            gives = m.gives;
            each = p.0.each;
          },
          rest.serves,
        );
        same = ap (λ l. s.buffers ∷ l) rest.same;
      }

  pub ending_as : (site : Site Ring S) (t : T) (ending : Ending) → Alike site.state t
      → IsEnding kind device site ending → IsEnding kind other (moved site t) ending
  ending_as site t Spent alike h =
      ap (λ b. b && kind.offers site.memory site.ring) (likewise.takes site.state t alike) ∙ h
  ending_as site t (Faulted fault) alike h = (ready_as site t alike h.0, h.1)
  ending_as site t Refused alike h = record {
    ready = ready_as site t alike h.ready;
    buffers = h.buffers;
    entry = h.entry;
    offered = h.offered;
    lacks_memory = likewise.lacks_memory site.state t _ _ alike h.lacks_memory;
  }

  pub stop_as : (site : Site Ring S) (t : T) (ending : Ending)
      → moved (stop kind device site ending) t ≡ stop kind other (moved site t) ending
  stop_as site t Spent = refl
  stop_as site t (Faulted fault) = refl
  stop_as site t Refused = refl

  pub stop_state : (site : Site Ring S) (ending : Ending) → (stop kind device site ending).state ≡ site.state
  stop_state site Spent = refl
  stop_state site (Faulted fault) = refl
  stop_state site Refused = refl

  record WorkedAlike (fault : Option Fault) (start : Site Ring T) (ending : Ending)
      (last : Site Ring S) : Type 0 where
    state : T
    alike : Alike last.state state
    works : Works kind other fault start ending (moved last state)

  works_as : (fault : Option Fault) (start last : Site Ring S) (ending : Ending) (t : T) → Alike start.state t
      → Works kind device fault start ending last → WorkedAlike fault (moved start t) ending last
  works_as (Some fault) start last ending t alike w = record {
    state = t;
    alike = subst (λ (s : Site Ring S). Alike s.state t) (sym w.1) alike;
    works = (w.0, ap (λ (s : Site Ring S). moved s t) w.1);
  }
  works_as None start last ending t alike w =
      let p : ServedAlike (moved start t) w.at (chains_of w.chains) =
      serves_as start w.at w.chains t alike w.serves in
      let same : last.state ≡ w.at.state = ap (λ (s : Site Ring S). s.state) w.stands
      ∙ stop_state w.at ending in
      record {
        state = p.state;
        alike = subst (λ (s : S). Alike s p.state) (sym same) p.alike;
        works = record {
          chains = p.chains;
          at = moved w.at p.state;
          serves = p.serves;
          ends = ending_as w.at p.state ending p.alike w.ends;
          stands = ap (λ (s : Site Ring S). moved s p.state) w.stands ∙ stop_as w.at p.state ending;
        };
      }

  -- a service of the other device, which leaves it in a like state
  pub record ServedAs (old : Site Ring T) (new : Site Ring S) (ending : Ending) (wanted : Bool) : Type 0 where
    pub state : T
    pub alike : Alike new.state state
    pub service : IsService kind other old (moved new state) ending wanted

  pub service_as : (old new : Site Ring S) (t : T) (ending : Ending) (wanted : Bool) → Alike old.state t
      → IsService kind device old new ending wanted → ServedAs (moved old t) new ending wanted
  service_as old new t ending wanted alike s =
      let w : WorkedAlike (kind.opening_fault old.memory old.ring)
      (moved (open_site kind device old) t) ending s.last =
      works_as (kind.opening_fault old.memory old.ring) (open_site kind device old) s.last
      ending t alike s.works in
      record {
        state = w.state;
        alike = subst (λ (x : Site Ring S). Alike x.state w.state) (sym s.closed) w.alike;
        service = record {
          last = moved s.last w.state;
          works = w.works;
          closed = ap (λ (x : Site Ring S). moved x w.state) s.closed;
          wanted_is = s.wanted_is;
        };
      }
