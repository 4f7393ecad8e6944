-- A round of a guest that stands still is one service of chain's definition, for every kind of ring and every device.
use Rattle.std.proofs.Common.{◌≡◌, ◌∙◌, ◌↔◌, ℕ, Bool, true, false, Option, Some, None, List, [], ◌∷◌, length, refl, sym, ap, subst}
use Rattle.std.specs.Prelude.{◌&&◌, ◌||◌, IsTrue}
use Rattle.guest_memory.specs.Memory.{Memory, SameRange}
use Rattle.guest_memory.proofs.Ranges.{same_trans}
use Rattle.chain.specs.declared.segment.Buffer.{Buffer}
use Rattle.chain.specs.declared.fault.Fault.{Fault}
use Rattle.chain.specs.Buffers.{Good}
use Rattle.chain.specs.Bytes.{readable_of, writable_of}
use Rattle.chain.specs.Service.{Device, Does, Ending, Spent, Faulted, Refused, Entry, Leaves, Served, ServesChain, ServesAll, IsEnding, IsService, after, open_site, scattered, stop, used_len, wrote}
use Rattle.chain.specs.Service as services
use Rattle.chain.proofs.Servicing.{both}
use Rattle.shared_memory.specs.Sightings.{Sightings, Loads, memory}
use Rattle.racing_service.specs.Queue.{RacingKind}
use Rattle.racing_service.specs.Service.{Standing, Halt, Drained, Met, Limited, Round, ServesOne, ServesSome, OnlyLoads, HaltsBy, IsOpened, Works, IsClosing, IsRound, LeavesOne, RunsUpTo, AreBusyRounds, AreRounds, IsSettled, IsRacingService, stage_behind}
use Rattle.racing_service.specs.declared.service.Ending.TheVariants.{Settled}
use Rattle.racing_service.specs.declared.stage.Stage.TheVariants.{First, Again}
use Rattle.racing_service.specs.Laws.{AreServices, site_of}
use Rattle.racing_service.proofs.Coming.{busy_is_round}
use Rattle.chain_handler.proofs.Still.{does_still, one_still, read_still, scattered_range}

-- What a kind of ring has to be for that: its definitions are those of the kind of a guest that stands still, where a ring
-- is sound for its memory, which it stays.
pub record StandsStill {Ring : Type 0} (kind : RacingKind Ring) (IsSound : Memory → Ring → Type 0) : Type 0 where
  pub told : (old new : Sightings) (ring : Ring) (offers : Bool) → Loads false old new → kind.IsTold old new ring offers
      → offers ≡ kind.still.offers (memory old) ring
  pub offered : (old new : Sightings) (ring : Ring) (buffers : List Buffer) (entry : Entry) → Loads false old new
      → kind.IsOffered old new ring buffers entry → kind.still.Offers (memory old) ring buffers entry
  pub good : (old new : Sightings) (ring : Ring) (buffers : List Buffer) (entry : Entry)
      → kind.IsOffered old new ring buffers entry → Good (memory new) buffers
  pub met : (old new : Sightings) (ring : Ring) (fault : Fault) → IsSound (memory old) ring → Loads false old new
      → kind.IsFaulty old new ring fault → kind.still.offers (memory old) ring ≡ true
  pub faulty : (old new : Sightings) (ring : Ring) (fault : Fault) → Loads false old new
      → kind.IsFaulty old new ring fault → kind.still.HasFault (memory old) ring fault
  pub given : (old new : Sightings) (ring : Ring) (entry : Entry) (len : ℕ) (any : Bool) → IsSound (memory old) ring
      → kind.IsGiven false old new ring entry len any → memory new ≡ kind.still.used (memory old) ring entry len any
  pub closed : (old new : Sightings) (ring : Ring) (wanted : Bool) → kind.IsClosed false old new ring wanted
      → memory new ≡ kind.still.closed (memory old) ring
  pub wants : (old new : Sightings) (ring : Ring) (wanted : Bool) → kind.IsClosed false old new ring wanted
      → IsTrue wanted ↔ kind.still.Wants (memory new) ring
  pub used_range : (m : Memory) (ring : Ring) (entry : Entry) (len : ℕ) (any : Bool)
      → SameRange m (kind.still.used m ring entry len any)
  pub closed_range : (m : Memory) (ring : Ring) → SameRange m (kind.still.closed m ring)
  pub in_range : (m n : Memory) (ring : Ring) → SameRange m n → IsSound m ring → IsSound n ring
  pub sound_opened : (m n : Memory) (ring : Ring) → IsSound m ring → IsSound m (kind.still.opened n ring)
  pub sound_past : (m : Memory) (ring : Ring) (entry : Entry) → IsSound m ring → IsSound m (kind.still.past ring entry)
  pub sound_stopped : (m : Memory) (ring : Ring) → IsSound m ring → IsSound m (kind.still.stopped ring)
  pub sound_shut : (m : Memory) (ring : Ring) → IsSound m ring → IsSound m (kind.still.shut ring)
  pub shut_opened : (m : Memory) (ring : Ring) → kind.still.shut (kind.still.opened m (kind.still.shut ring))
      ≡ kind.still.shut ring

module _ {Ring State : Type 0} {kind : RacingKind Ring} {IsSound : Memory → Ring → Type 0} (is : StandsStill kind IsSound)
    (device : Device State) where
  sound_at : Standing Ring State → Type 0
  sound_at a = IsSound (memory a.sightings) a.ring

  -- one chain
  pub record IsServed (a b : Standing Ring State) : Type 0 where
    pub chain : Served State
    pub serves : ServesChain kind.still device (site_of a) chain
    pub after_is : after kind.still device (site_of a) chain ≡ site_of b
    pub sound : IsSound (memory b.sightings) b.ring

  stands_behind : (m served new : Memory) (ring past : Ring) (s t : State) (buffers : List Buffer) (entry : Entry)
      (written : List (Option ℕ)) (len : ℕ) (any : Bool) → served ≡ scattered m (writable_of buffers) written
      → len ≡ used_len written → any ≡ wrote written → new ≡ kind.still.used served ring entry len any
      → past ≡ kind.still.past ring entry
      → after kind.still device (record { memory = m; ring = ring; state = s })
      (record { buffers = buffers; entry = entry; given = record { state = t; written = written } })
      ≡ record { memory = new; ring = past; state = t }
  stands_behind m served new ring past s t buffers entry written len any does counts tells gives passes =
      rw (gives, passes, does, counts, tells) refl

  pub served : (a b : Standing Ring State) → IsSound (memory a.sightings) a.ring → ServesOne kind device false a b → IsServed a b
  served a b sound s =
      let m = memory a.sightings in
      let taken : memory s.taken ≡ m = one_still a.sightings s.taken s.loads in
      let offers = is.offered a.sightings s.taken a.ring s.buffers s.entry s.loads s.offered in
      let d : Does device (memory s.taken) (memory s.served) s.buffers a.state b.state s.len s.any =
      does_still device s.taken s.served s.buffers a.state b.state s.len s.any
      (is.good a.sightings s.taken a.ring s.buffers s.entry s.offered).inside s.does in
      let does : Does device m (memory s.served) s.buffers a.state b.state s.len s.any = rw taken at d in
      let middle = scattered m (writable_of s.buffers) does.written in
      let range : SameRange m (memory s.served) =
      subst (SameRange m) (sym does.memory) (scattered_range m (writable_of s.buffers) does.written) in
      let given : memory b.sightings ≡ kind.still.used (memory s.served) a.ring s.entry s.len s.any =
      is.given s.served b.sightings a.ring s.entry s.len s.any
      (is.in_range m (memory s.served) a.ring range sound) s.given in
      record {
        chain = record {
          buffers = s.buffers;
          entry = s.entry;
          given = record { state = b.state; written = does.written };
        };
        serves = record {
          ready = both (device.takes a.state) (kind.still.offers m a.ring) s.takes
              (sym (is.told a.sightings s.taken a.ring true s.loads s.told));
          offered = offers;
          gives = does.gives;
          each = does.each;
        };
        after_is = stands_behind m (memory s.served) (memory b.sightings) a.ring b.ring a.state b.state s.buffers s.entry
            does.written s.len s.any does.memory does.len_is does.any_is given s.past;
        sound = rw (given, s.past) (is.sound_past _ a.ring s.entry (is.in_range m _ a.ring
            (same_trans m (memory s.served) _ range (is.used_range (memory s.served) a.ring s.entry s.len s.any)) sound));
      }

  -- chains
  pub record AreServed (a b : Standing Ring State) : Type 0 where
    pub chains : List (Served State)
    pub serves : ServesAll kind.still device (site_of a) chains (site_of b)
    pub sound : IsSound (memory b.sightings) b.ring

  pub all_served : (between : List (Standing Ring State)) (a b : Standing Ring State) → IsSound (memory a.sightings) a.ring
      → ServesSome kind device false a between b → AreServed a b
  all_served [] a b sound s = record {
    chains = [];
    serves = ap site_of (sym s);
    sound = rw s sound;
  }
  all_served (x ∷ between) a b sound s =
      let one = served a x sound s.0 in
      let more = all_served between x b one.sound s.1 in record {
        chains = one.chain ∷ more.chains;
        serves = (one.serves, rw one.after_is more.serves);
        sound = more.sound;
      }

  -- where only reads lie between
  pub same_memory : (a b : Standing Ring State) → OnlyLoads kind device false a b → memory b.sightings ≡ memory a.sightings
  same_memory a b only = one_still a.sightings b.sightings only.loads

  -- how a round ends that isn't cut by its budget
  abbrev pub EndsAs : Halt → Ending → Type 0
  EndsAs Drained ending = ending ≡ Spent
  EndsAs (Met fault) ending = ending ≡ Faulted fault
  EndsAs Limited ending = ⊥

  none_ready : (takes offers : Bool) → (takes ≡ true → false ≡ offers) → (takes && offers) ≡ false
  none_ready true offers none = sym (none refl)
  none_ready false offers none = refl

  pub record Ends (a b : Standing Ring State) (ending : Ending) : Type 0 where
    pub ends : IsEnding kind.still device (site_of a) ending
    pub stands : site_of b ≡ stop kind.still device (site_of a) ending
    pub sound : IsSound (memory b.sightings) b.ring

  ended : (halt : Halt) (ending : Ending) (a b : Standing Ring State) → EndsAs halt ending
      → IsSound (memory a.sightings) a.ring → HaltsBy kind device false halt a b → Ends a b ending
  ended Drained ending a b e sound h =
      let same = same_memory a b h.only in
      rw e (record {
        ends = none_ready (device.takes a.state) (kind.still.offers (memory a.sightings) a.ring)
            (λ takes. is.told a.sightings b.sightings a.ring false h.only.loads (h.none takes));
        stands = rw (same, h.ring, h.only.state) refl;
        sound = rw (same, h.ring) sound;
      })
  ended (Met fault) ending a b e sound h =
      let same = same_memory a b h.only in
      rw e (record {
        ends = (
          both (device.takes a.state) (kind.still.offers (memory a.sightings) a.ring) h.takes
              (is.met a.sightings b.sightings a.ring fault sound h.only.loads h.faulty),
          is.faulty a.sightings b.sightings a.ring fault h.only.loads h.faulty,
        );
        stands = rw (same, h.ring, h.only.state) refl;
        sound = rw (same, h.ring) (is.sound_stopped (memory a.sightings) a.ring sound);
      })
  ended Limited ending a b e sound h = absurd e

  -- what comes behind the opening
  pub record AreWorks (fault : Option Fault) (a b : Standing Ring State) (ending : Ending) : Type 0 where
    pub works : services.Works kind.still device fault (site_of a) ending (site_of b)
    pub sound : IsSound (memory b.sightings) b.ring

  pub worked : (fault : Option Fault) (halt : Halt) (ending : Ending) (a b : Standing Ring State) → EndsAs halt ending
      → IsSound (memory a.sightings) a.ring → Works kind device false fault a halt b → AreWorks fault a b ending
  worked (Some fault) halt ending a b e sound w =
      let met : EndsAs (Met fault) ending = rw w.0 at e in record {
        works = (met, ap site_of w.1);
        sound = rw w.1 sound;
      }
  worked None halt ending a b e sound w =
      let chains = all_served w.between a w.at sound w.serves in
      let end = ended halt ending w.at b e chains.sound w.halts in record {
        works = record {
          chains = chains.chains;
          at = site_of w.at;
          serves = chains.serves;
          ends = end.ends;
          stands = end.stands;
        };
        sound = end.sound;
      }

  -- a round
  pub record IsOneService (a b : Standing Ring State) (ending : Ending) (wanted : Bool) : Type 0 where
    pub service : IsService kind.still device (site_of a) (site_of b) ending wanted
    pub sound : IsSound (memory b.sightings) b.ring

  pub one_service : (halt : Halt) (ending : Ending) (a b : Standing Ring State) (wanted : Bool) → EndsAs halt ending
      → IsSound (memory a.sightings) a.ring → IsRound kind device false First a halt b wanted → IsOneService a b ending wanted
  one_service halt ending a b wanted e sound r =
      let m = memory a.sightings in
      let o = r.run.opened in
      let same : memory o.sightings ≡ m = same_memory a o r.run.opens.only in
      let ring : o.ring ≡ kind.still.opened m a.ring = rw same at r.run.opens.ring in
      let opened : site_of o ≡ open_site kind.still device (site_of a) = rw (same, ring, r.run.opens.only.state) refl in
      let works : Works kind device false (kind.still.opening_fault m a.ring) o halt r.last = rw same at r.run.works in
      let w = worked (kind.still.opening_fault m a.ring) halt ending o r.last e
      (rw (same, ring) (is.sound_opened m m a.ring sound)) works in
      let c = r.closes in
      let closed = is.closed r.last.sightings b.sightings r.last.ring wanted c.closed in
      record {
        service = record {
          last = site_of r.last;
          works = rw (← opened) w.works;
          closed = rw (closed, c.ring, c.state) refl;
          wanted_is = rw closed at (is.wants r.last.sightings b.sightings r.last.ring wanted c.closed);
        };
        sound = rw (closed, c.ring) (is.sound_shut _ r.last.ring (is.in_range (memory r.last.sightings) _ r.last.ring
            (is.closed_range (memory r.last.sightings) r.last.ring) w.sound));
      }

  -- behind closing writes a round opens the queue, too
  opens_again : (a b : Standing Ring State) → IsOpened kind device false Again a b → IsOpened kind device false First a b
  opens_again a b o = record { only = o.only; ring = o.ring }

  pub again_is_first : (halt : Halt) (a b : Standing Ring State) (wanted : Bool)
      → IsRound kind device false Again a halt b wanted → IsRound kind device false First a halt b wanted
  again_is_first halt a b wanted r = record {
    last = r.last;
    run = record { opened = r.run.opened; opens = opens_again a r.run.opened r.run.opens; works = r.run.works };
    closes = r.closes;
  }

  -- A round whose device leaves a chain, where that is for want of memory: the chains before were served, and the queue was
  -- closed at its place.
  module _ {E : Type 0} (Refuses : State → List ℕ → List Buffer → E → Type 0) (buffers : List Buffer) (entry : Entry)
      (why : E) (lacks : (s : State) (readable : List ℕ) → Refuses s readable buffers why
      → device.LacksMemory s readable (length (writable_of buffers))) where
    -- how the chain is left
    record IsLeft (a b : Standing Ring State) : Type 0 where
      pub leaves : Leaves kind.still device (site_of a)
      pub same : site_of b ≡ site_of a

    left_there : (a b : Standing Ring State) → LeavesOne kind device false Refuses buffers entry why a b → IsLeft a b
    left_there a b l =
        let m = memory a.sightings in
        let taken : memory l.taken ≡ m = one_still a.sightings l.taken l.loads in
        let later : memory b.sightings ≡ m = one_still l.taken b.sightings l.refuses.reads ∙ taken in
        let good = is.good a.sightings l.taken a.ring buffers entry l.offered in
        let read : l.refuses.readable ≡ readable_of m buffers =
        rw taken at (read_still l.taken b.sightings buffers l.refuses.readable good.inside l.refuses.reads l.refuses.each_read) in
        record {
          leaves = record {
            ready = both (device.takes a.state) (kind.still.offers m a.ring) l.takes
                (sym (is.told a.sightings l.taken a.ring true l.loads l.told));
            buffers = buffers;
            entry = entry;
            offered = is.offered a.sightings l.taken a.ring buffers entry l.loads l.offered;
            lacks_memory = rw read at (lacks a.state l.refuses.readable l.refuses.refuses);
          };
          same = rw (later, l.ring, l.state) refl;
        }

    pub left_service : (a at b : Standing Ring State) (wanted : Bool) → IsSound (memory a.sightings) a.ring
        → RunsUpTo kind device false Refuses First buffers entry why a at → IsClosing kind device false at b wanted
        → IsService kind.still device (site_of a) (site_of b) Refused wanted
    left_service a at b wanted sound r c =
        let m = memory a.sightings in
        let o = r.opened in
        let same : memory o.sightings ≡ m = same_memory a o r.opens.only in
        let ring : o.ring ≡ kind.still.opened m a.ring = rw same at r.opens.ring in
        let opened : site_of o ≡ open_site kind.still device (site_of a) = rw (same, ring, r.opens.only.state) refl in
        let no_fault : kind.still.opening_fault m a.ring ≡ None = rw same at r.no_fault in
        let chains = all_served r.serves.between o r.serves.at (rw (same, ring) (is.sound_opened m m a.ring sound))
        r.serves.serves in
        let left = left_there r.serves.at at r.serves.leaves in
        let closed = is.closed at.sightings b.sightings at.ring wanted c.closed in
        record {
          last = site_of at;
          works = rw (no_fault, ← opened) (record {
            chains = chains.chains;
            at = site_of r.serves.at;
            serves = chains.serves;
            ends = left.leaves;
            stands = left.same;
          });
          closed = rw (closed, c.ring, c.state) refl;
          wanted_is = rw closed at (is.wants at.sightings b.sightings at.ring wanted c.closed);
        }

  -- rounds
  pub record AreAllServices (a : Standing Ring State) (rounds : List (Round Ring State)) (b : Standing Ring State)
      : Type 0 where
    pub services : AreServices kind.still device (site_of a) rounds (site_of b)
    pub sound : IsSound (memory b.sightings) b.ring

  busy_services : (rounds : List (Round Ring State)) (a b : Standing Ring State) → IsSound (memory a.sightings) a.ring
      → AreBusyRounds kind device false a rounds b → AreAllServices a rounds b
  busy_services [] a b sound r = record { services = ap site_of r; sound = rw r sound }
  busy_services (x ∷ rounds) a b sound r =
      let round = again_is_first Drained a x.after x.wanted (busy_is_round kind device false a x.after x.wanted r.0) in
      let one = one_service Drained Spent a x.after x.wanted refl sound round in
      let more = busy_services rounds x.after b one.sound r.1 in
      record { services = (one.service, more.services); sound = more.sound }

  pub all_services : (rounds : List (Round Ring State)) (a b : Standing Ring State) → IsSound (memory a.sightings) a.ring
      → AreRounds kind device false First a rounds b → AreAllServices a rounds b
  all_services [] a b sound r = record { services = ap site_of r; sound = rw r sound }
  all_services (x ∷ rounds) a b sound r =
      let one = one_service Drained Spent a x.after x.wanted refl sound r.0 in
      let more = busy_services rounds x.after b one.sound r.1 in
      record { services = (one.service, more.services); sound = more.sound }

  -- a look that finds nothing new leaves the service where it was
  still_shut : (rounds : List (Round Ring State)) (a b : Standing Ring State)
      → (last : Ring) × (a.ring ≡ kind.still.shut last) → AreBusyRounds kind device false a rounds b
      → (last : Ring) × (b.ring ≡ kind.still.shut last)
  still_shut [] a b shut r = rw r shut
  still_shut (x ∷ rounds) a b shut r = still_shut rounds x.after b (r.0.last.ring, r.0.closes.ring) r.1

  ring_shut : (rounds : List (Round Ring State)) (a b : Standing Ring State) → AreRounds kind device false First a rounds b
      → stage_behind First rounds ≡ Again → (last : Ring) × (b.ring ≡ kind.still.shut last)
  ring_shut [] a b r some = cc
  ring_shut (x ∷ rounds) a b r some = still_shut rounds x.after b (r.0.last.ring, r.0.closes.ring) r.1

  pub settled_there : (rounds : List (Round Ring State)) (a at b : Standing Ring State) (wanted : Bool)
      → AreRounds kind device false First a rounds at → IsSettled kind device false First rounds at b wanted → site_of b ≡ site_of at
  settled_there rounds a at b wanted r s =
      let shut = ring_shut rounds a at r s.behind in
      let o = s.look.opened in
      let first : memory o.sightings ≡ memory at.sightings = same_memory at o s.look.opens.only in
      let then : memory s.looked.sightings ≡ memory o.sightings = same_memory o s.looked s.look.finds.only in
      let ring : s.looked.ring ≡ kind.still.opened (memory o.sightings) at.ring = s.look.finds.ring ∙ s.look.opens.ring in
      let back : kind.still.shut (kind.still.opened (memory o.sightings) at.ring) ≡ at.ring =
      rw shut.1 (is.shut_opened (memory o.sightings) shut.0) in
      rw (s.shut, then, first, ring, back, s.look.finds.only.state, s.look.opens.only.state) refl

  -- a settled service of one round is one service
  pub one_settled : (most : ℕ) (a b : Standing Ring State) (wanted : Bool) (r : Round Ring State)
      (service : IsRacingService kind device false First most a b Settled wanted) → IsSound (memory a.sightings) a.ring
      → service.rounds ≡ r ∷ [] → IsService kind.still device (site_of a) (site_of b) Spent wanted
  one_settled most a b wanted r service sound only =
      let rounds : AreRounds kind device false First a (r ∷ []) service.at = rw only at service.serves in
      let ends : IsSettled kind device false First (r ∷ []) service.at b wanted = rw only at service.ends in
      let there : site_of b ≡ site_of r.after =
      settled_there (r ∷ []) a service.at b wanted rounds ends ∙ ap site_of rounds.1 in
      let asked : wanted ≡ r.wanted = ends.wanted_is ∙ or_false r.wanted in
      rw (there, asked) (one_service Drained Spent a r.after r.wanted refl sound rounds.0).service
    where
      or_false : (w : Bool) → (w || false) ≡ w
      or_false true = refl
      or_false false = refl
