-- A device that does what another one does, over states of its own: a service of the one is a service of the other.
use Rattle.std.proofs.Common.{◌≡◌, ◌∙◌, ℕ, Bool, Option, Some, None, List, [], ◌∷◌, refl, sym, ap, subst}
use Rattle.std.specs.Prelude.{◌&&◌}
use Rattle.chain.specs.declared.fault.Fault.{Fault}
use Rattle.chain.specs.Service.{Device, Ending, Given, IsEnding, IsService, Kind, Served, ServesAll, Site, Works, open_site, stop}
use Rattle.mmio_window.specs.Serving.{ending_of}

-- what the other device does with a chain: the same is written
pub record AnswersAlike {S T : Type 0} (other : Device T) (Alike : S → T → Type 0) (t : T) (readable : List ℕ) (w : ℕ)
    (given : Given S) : Type 0 where
  pub state : T
  pub gives : other.Gives t readable w (record { state = state; written = given.written })
  pub alike : Alike given.state state

pub record Simulates {S T : Type 0} (device : Device S) (other : Device T) (Alike : S → T → Type 0) : Type 0 where
  pub takes : (s : S) (t : T) → Alike s t → other.takes t ≡ device.takes s
  pub gives : (s : S) (t : T) (readable : List ℕ) (w : ℕ) (given : Given S) → Alike s t → device.Gives s readable w given
      → AnswersAlike other Alike t readable w given

-- the same place of a service, of another device
abbrev pub moved : {Ring S T : Type 0} → Site Ring S → T → Site Ring T
moved site t = record { memory = site.memory; ring = site.ring; state = t }

module _ {Ring S T : Type 0} (kind : Kind Ring) (device : Device S) (other : Device T) (Alike : S → T → Type 0)
    (is : Simulates device other Alike) where
  ready_too : (site : Site Ring S) (t : T) (offers : Bool) → Alike site.state t
      → (other.takes t && offers) ≡ (device.takes site.state && offers)
  ready_too site t offers alike = ap (λ (b : Bool). b && offers) (is.takes site.state t alike)

  -- chains
  pub record AlsoServes (a b : Site Ring S) (t : T) : Type 0 where
    pub chains : List (Served T)
    pub state : T
    pub serves : ServesAll kind other (moved a t) chains (moved b state)
    pub alike : Alike b.state state

  pub all_too : (chains : List (Served S)) (a b : Site Ring S) (t : T) → Alike a.state t → ServesAll kind device a chains b
      → AlsoServes a b t
  all_too [] a b t alike serves = record {
    chains = [];
    state = t;
    serves = ap (λ (site : Site Ring S). moved site t) serves;
    alike = subst (λ (site : Site Ring S). Alike site.state t) serves alike;
  }
  all_too (s ∷ chains) a b t alike serves =
      let one = serves.0 in
      let answer = is.gives a.state t _ _ s.given alike one.gives in
      let more = all_too chains _ b answer.state answer.alike serves.1 in
      record {
        chains = record {
          buffers = s.buffers;
          entry = s.entry;
          given = record { state = answer.state; written = s.given.written };
        } ∷ more.chains;
        state = more.state;
        serves = (
          record {
            ready = ready_too a t (kind.offers a.memory a.ring) alike ∙ one.ready;
            offered = one.offered;
            gives = answer.gives;
            each = one.each;
          },
          more.serves,
        );
        alike = more.alike;
      }

  -- an ending that isn't for want of memory
  ends_too : (fault : Option Fault) (site : Site Ring S) (t : T) → Alike site.state t
      → IsEnding kind device site (ending_of fault) → IsEnding kind other (moved site t) (ending_of fault)
  ends_too None site t alike e = ready_too site t (kind.offers site.memory site.ring) alike ∙ e
  ends_too (Some fault) site t alike e = (ready_too site t (kind.offers site.memory site.ring) alike ∙ e.0, e.1)

  stops_too : (fault : Option Fault) (site : Site Ring S) (t : T)
      → moved (stop kind device site (ending_of fault)) t ≡ stop kind other (moved site t) (ending_of fault)
  stops_too None site t = refl
  stops_too (Some fault) site t = refl

  state_kept : (fault : Option Fault) (site : Site Ring S) → (stop kind device site (ending_of fault)).state ≡ site.state
  state_kept None site = refl
  state_kept (Some fault) site = refl

  pub record AlsoWorks (fault : Option Fault) (a b : Site Ring S) (ending : Ending) (t : T) : Type 0 where
    pub state : T
    pub works : Works kind other fault (moved a t) ending (moved b state)
    pub alike : Alike b.state state

  pub works_too : (opening met : Option Fault) (a b : Site Ring S) (t : T) → Alike a.state t
      → Works kind device opening a (ending_of met) b → AlsoWorks opening a b (ending_of met) t
  works_too (Some fault) met a b t alike w = record {
    state = t;
    works = (w.0, ap (λ (site : Site Ring S). moved site t) w.1);
    alike = subst (λ (site : Site Ring S). Alike site.state t) (sym w.1) alike;
  }
  works_too None met a b t alike w =
      let also = all_too w.chains a w.at t alike w.serves in
      record {
        state = also.state;
        works = record {
          chains = also.chains;
          at = moved w.at also.state;
          serves = also.serves;
          ends = ends_too met w.at also.state also.alike w.ends;
          stands = ap (λ (site : Site Ring S). moved site also.state) w.stands ∙ stops_too met w.at also.state;
        };
        alike = subst (λ (s : S). Alike s also.state)
            (sym (ap (λ (site : Site Ring S). site.state) w.stands ∙ state_kept met w.at)) also.alike;
      }

  -- a service
  pub record AlsoService (a b : Site Ring S) (met : Option Fault) (wanted : Bool) (t : T) : Type 0 where
    pub state : T
    pub service : IsService kind other (moved a t) (moved b state) (ending_of met) wanted
    pub alike : Alike b.state state

  pub service_too : (met : Option Fault) (a b : Site Ring S) (wanted : Bool) (t : T) → Alike a.state t
      → IsService kind device a b (ending_of met) wanted → AlsoService a b met wanted t
  service_too met a b wanted t alike s =
      let also = works_too (kind.opening_fault a.memory a.ring) met (open_site kind device a) s.last t alike s.works in
      record {
        state = also.state;
        service = record {
          last = moved s.last also.state;
          works = also.works;
          closed = ap (λ (site : Site Ring S). moved site also.state) s.closed;
          wanted_is = s.wanted_is;
        };
        alike = subst (λ (site : Site Ring S). Alike site.state also.state) (sym s.closed) also.alike;
      }
