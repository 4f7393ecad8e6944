-- A service in its course: the chains of a round, and the rounds.
use Rattle.std.proofs.Common.{◌≡◌, ◌∙◌, ℕ, ◌+◌, ◌<◌, ◌≤◌, Bool, true, false, Option, Some, None, inl, inr, List, [], ◌∷◌, ◌++◌, length, refl, sym, ap, subst, arith}
use Rattle.std.specs.Prelude.{◌||◌, if◌then◌else◌, IfErr, IfOk, Result, Ok, Err}
use Rattle.std.proofs.lemmas.List.{length_push}
use Rattle.chain.specs.declared.budget.Budget.{Budget}
use Rattle.chain.specs.declared.segment.Buffer.{Buffer}
use Rattle.chain.specs.declared.fault.Fault.{Fault}
use Rattle.chain.specs.Budget.{IsSpent, less_chain}
use Rattle.chain.specs.Service.{Device, Entry}
use Rattle.shared_memory.specs.Sightings.{Sightings, Loads, memory}
use Rattle.shared_memory.proofs.Sightings.{loads_none}
use Rattle.racing_service.specs.declared.stage.Stage.{Stage}
use Rattle.racing_service.specs.declared.stage.Stage.TheVariants.{First, Next, Again}
use Rattle.racing_service.specs.declared.service.Stop.{Stop}
use Rattle.racing_service.specs.declared.service.Stop.TheVariants.{Idle, Dry, Paused, Broken}
use Rattle.racing_service.specs.Queue.{RacingKind}
use Rattle.chain_handler.specs.Device.{DoesRaced, RefusesRaced}
use Rattle.racing_service.specs.Service.{Standing, Halt, Drained, Met, Limited, Round, any_wanted, standing_at, ServesOne, ServesSome, OnlyLoads, FindsNone, Serves, IsOpened, Works, IsRun, IsClosing, IsRound, ServesAny, IsBusyRun, IsBusyRound, AreBusyRounds, IsFirstRound, AreRounds, IsLook, EndsWith, EndsBy, IsRacingService, IsRefusedService, RunsAs, RunsUpTo, ServesAs, ServesUpTo, ending_of, fault_at, opened_at, stage_behind}
use Rattle.racing_service.specs.declared.service.Held.{Held}
use Rattle.racing_service.specs.declared.service.Ending.{Ending}
use Rattle.racing_service.specs.declared.service.Ending.TheVariants.{Settled, Faulted, More}

module _ {Ring State : Type 0} (kind : RacingKind Ring) (device : Device State) (races : Bool) where
  -- one more chain behind some
  some_push : (a b c : Standing Ring State) (between : List (Standing Ring State))
      → ServesSome kind device races a between b → ServesOne kind device races b c
      → ServesSome kind device races a (between ++ c ∷ []) c
  some_push a b c [] p q = let one : ServesOne kind device races a c = rw p at q in (one, refl)
  some_push a b c (x ∷ between) p q = (p.0, some_push x b c between p.1 q)

  -- Chains were served since a round was opened at a; some says whether there was one.
  pub record IsInRound (a b : Standing Ring State) (some : Bool) : Type 0 where
    pub between : List (Standing Ring State)
    pub serves : ServesSome kind device races a between b
    pub idle : some ≡ false → b ≡ a
    pub busy : some ≡ true → 0 < length between

  -- where some were served, there is a first one
  any_served : (between : List (Standing Ring State)) (a b c : Standing Ring State) → 0 < length between
      → ServesSome kind device races a between b → FindsNone kind device races b c → ServesAny kind device races a c
  any_served [] a b c some serves none = absurd (omega (arith, some))
  any_served (x ∷ between) a b c some serves none = record {
    first = x;
    one = serves.0;
    more = record { between = between; at = b; serves = serves.1; halts = none };
  }

  -- none is on offer or wanted
  pub runs_out : (a b c : Standing Ring State) (some : Bool) (stop : Stop) → stop ≡ (if some then Dry else Idle)
      → IsInRound a b some → FindsNone kind device races b c → ServesAs kind device races stop a c
  runs_out a b c true stop is p q = rw is (any_served p.between a b c (p.busy refl) p.serves q)
  runs_out a b c false stop is p q = rw is (rw (p.idle refl) at q)

  -- only the memory was read from here on
  only : (old new : Sightings) (ring last : Ring) (s : State) (left : Budget) → Loads races old new
      → OnlyLoads kind device races (standing_at old ring s left) (standing_at new last s left)
  only old new ring last s left loads = record { loads = loads; state = refl; left = refl }

  module _ (first : Standing Ring State) (some : Bool) (old : Sightings) (ring : Ring) (s : State) (left : Budget)
      (p : IsInRound first (standing_at old ring s left) some) where
    -- One more chain is taken, served and given back.
    pub one_more : (taken served new : Sightings) (same past : Ring) (t : State) (left' : Budget) (buffers : List Buffer)
        (entry : Entry) (len : ℕ) (any : Bool) → device.takes s ≡ true → ¬ IsSpent left → left' ≡ less_chain left buffers
        → Loads races old taken → kind.IsTold old taken ring true → kind.IsOffered old taken ring buffers entry → same ≡ ring
        → DoesRaced device races taken served buffers s t len any → kind.IsGiven races served new same entry len any
        → past ≡ kind.still.past same entry → IsInRound first (standing_at new past t left') true
    one_more taken served new same past t left' buffers entry len any takes within spends loads told offered unchanged
        does given passes =
        let next : Standing Ring State = standing_at new past t left' in
        let one : ServesOne kind device races (standing_at old ring s left) next = record {
          taken = taken;
          served = served;
          buffers = buffers;
          entry = entry;
          len = len;
          any = any;
          takes = takes;
          within = within;
          loads = loads;
          told = told;
          offered = offered;
          does = does;
          given = rw unchanged at given;
          past = rw unchanged at passes;
          left = spends;
        } in record {
          between = p.between ++ next ∷ [];
          serves = some_push first (standing_at old ring s left) next p.between p.serves one;
          idle = λ e. cc;
          busy = λ e. omega (arith, length_push p.between next);
        }

    -- no chain was taken, or none was on offer
    pub unwanted : (stop : Stop) → stop ≡ (if some then Dry else Idle) → device.takes s ≡ false
        → ServesAs kind device races stop first (standing_at old ring s left)
    unwanted stop is none =
        let here = standing_at old ring s left in
        runs_out first here here some stop is p (record {
          only = only old old ring ring s left (loads_none races old);
          none = λ takes. cc;
          ring = refl;
        })

    pub not_offered : (new : Sightings) (same : Ring) (stop : Stop) → stop ≡ (if some then Dry else Idle)
        → Loads races old new → kind.IsTold old new ring false → same ≡ ring
        → ServesAs kind device races stop first (standing_at new same s left)
    not_offered new same stop is loads told unchanged =
        runs_out first (standing_at old ring s left) (standing_at new same s left) some stop is p (record {
          only = only old new ring same s left loads;
          none = λ takes. told;
          ring = unchanged;
        })

    -- the chain on offer has a fault
    pub broken : (new : Sightings) (stopped : Ring) (fault : Fault) → device.takes s ≡ true → Loads races old new
        → kind.IsFaulty old new ring fault → stopped ≡ kind.still.stopped ring
        → ServesAs kind device races (Broken fault) first (standing_at new stopped s left)
    broken new stopped fault takes loads faulty stops = record {
      between = p.between;
      at = standing_at old ring s left;
      serves = p.serves;
      halts = record {
        only = only old new ring stopped s left loads;
        takes = takes;
        faulty = faulty;
        ring = stops;
      };
    }

    -- nothing is left of the budget
    pub paused : (new : Sightings) (same : Ring) (buffers : List Buffer) (entry : Entry) → device.takes s ≡ true
        → IsSpent left → Loads races old new → kind.IsTold old new ring true → kind.IsOffered old new ring buffers entry
        → same ≡ ring → ServesAs kind device races Paused first (standing_at new same s left)
    paused new same buffers entry takes spent loads told offered unchanged = record {
      between = p.between;
      at = standing_at old ring s left;
      serves = p.serves;
      halts = record {
        only = only old new ring same s left loads;
        takes = takes;
        spent = spent;
        told = told;
        buffers = buffers;
        entry = entry;
        offered = offered;
        ring = unchanged;
      };
    }

    -- the device leaves the chain on offer
    pub left_there : {E : Type 0} (taken new : Sightings) (same : Ring) (t : State) (left' : Budget) (buffers : List Buffer)
        (entry : Entry) (Refuses : State → List ℕ → List Buffer → E → Type 0) (why : E) → device.takes s ≡ true
        → ¬ IsSpent left → left' ≡ less_chain left buffers → Loads races old taken → kind.IsTold old taken ring true
        → kind.IsOffered old taken ring buffers entry → same ≡ ring
        → RefusesRaced Refuses races taken new buffers s why → t ≡ s
        → ServesUpTo kind device races Refuses buffers entry why first (standing_at new same t left')
    left_there taken new same t left' buffers entry Refuses why takes within spends loads told offered unchanged refuses
        kept = record {
          between = p.between;
          at = standing_at old ring s left;
          serves = p.serves;
          leaves = record {
            taken = taken;
            takes = takes;
            within = within;
            loads = loads;
            told = told;
            offered = offered;
            refuses = refuses;
            ring = unchanged;
            state = kept;
            left = spends;
          };
        }

  -- ---- a round

  module _ (stage : Stage) where
    -- what was served behind an opening without a fault
    ran_to : (halt : Halt) (a start b : Standing Ring State) → IsOpened kind device races stage a start
        → None ≡ fault_at kind stage (memory start.sightings) a.ring → Serves kind device races start halt b
        → IsRun kind device races stage a halt b
    ran_to halt a start b opens none serves = record {
      opened = start;
      opens = opens;
      works = subst (λ (f : Option Fault). Works kind device races f start halt b) none serves;
    }

    ran_as : (stop : Stop) (a start b : Standing Ring State) → IsOpened kind device races stage a start
        → None ≡ fault_at kind stage (memory start.sightings) a.ring → ServesAs kind device races stop start b
        → RunsAs kind device races stage stop a b
    ran_as Idle a start b opens none serves =
        record { opened = start; opens = opens; no_fault = sym none; finds = serves }
    ran_as Dry a start b opens none serves =
        record { opened = start; opens = opens; no_fault = sym none; serves = serves }
    ran_as Paused a start b opens none serves = ran_to Limited a start b opens none serves
    ran_as (Broken fault) a start b opens none serves = ran_to (Met fault) a start b opens none serves

    module _ (old new : Sightings) (ring opened : Ring) (s : State) (left : Budget) (loads : Loads races old new)
        (opens : opened ≡ opened_at kind stage (memory new) ring) where
      opening : IsOpened kind device races stage (standing_at old ring s left) (standing_at new opened s left)
      opening = record { only = only old new ring opened s left loads; ring = opens }

      -- what serving behind it comes to, or a chain that is left
      pub ran_ok : {E : Type 0} (result : Result Stop E) (b : Standing Ring State)
          → None ≡ fault_at kind stage (memory new) ring
          → IfOk result (λ stop. ServesAs kind device races stop (standing_at new opened s left) b)
          → IfOk result (λ stop. RunsAs kind device races stage stop (standing_at old ring s left) b)
      ran_ok (Ok stop) b none serves =
          ran_as stop (standing_at old ring s left) (standing_at new opened s left) b opening none serves
      ran_ok (Err held) b none serves = tt

      pub ran_up_to : {T E : Type 0} (entry_of : T → Entry) (Refuses : State → List ℕ → List Buffer → E → Type 0)
          (buffers : List Buffer) (result : Result Stop (Held T E)) (b : Standing Ring State)
          → None ≡ fault_at kind stage (memory new) ring
          → IfErr result (λ held. ServesUpTo kind device races Refuses buffers (entry_of held.token) held.why
          (standing_at new opened s left) b)
          → IfErr result (λ held. RunsUpTo kind device races Refuses stage buffers (entry_of held.token) held.why
          (standing_at old ring s left) b)
      ran_up_to entry_of Refuses buffers (Ok stop) b none serves = tt
      ran_up_to entry_of Refuses buffers (Err held) b none serves = record {
        opened = standing_at new opened s left;
        opens = opening;
        no_fault = sym none;
        serves = serves;
      }

      -- an opening with a fault
      pub ran_into : (fault : Fault) → Some fault ≡ fault_at kind stage (memory new) ring
          → RunsAs kind device races stage (Broken fault) (standing_at old ring s left) (standing_at new opened s left)
      ran_into fault some =
          let start = standing_at new opened s left in record {
            opened = start;
            opens = opening;
            works = subst (λ (f : Option Fault). Works kind device races f start (Met fault) start) some (refl, refl);
          }

    -- a look is a round up to its closing
    look_is_run : (a b : Standing Ring State) → IsLook kind device races stage a b
        → IsRun kind device races stage a Drained b
    look_is_run a b look =
        ran_to Drained a look.opened b look.opens (sym look.no_fault)
        (record { between = []; at = look.opened; serves = refl; halts = look.finds })

    -- a round of some chains is a round
    busy_is_run : (a b : Standing Ring State) → IsBusyRun kind device races stage a b
        → IsRun kind device races stage a Drained b
    busy_is_run a b busy =
        let serves = busy.serves in
        ran_to Drained a busy.opened b busy.opens (sym busy.no_fault) (record {
          between = serves.first ∷ serves.more.between;
          at = serves.more.at;
          serves = (serves.one, serves.more.serves);
          halts = serves.more.halts;
        })

    dry_run : (stop : Stop) (a b : Standing Ring State) → ending_of stop ≡ None → RunsAs kind device races stage stop a b
        → IsRun kind device races stage a Drained b
    dry_run Idle a b e run = look_is_run a b run
    dry_run Dry a b e run = busy_is_run a b run
    dry_run Paused a b e run = cc
    dry_run (Broken fault) a b e run = cc

  pub busy_is_round : (a b : Standing Ring State) (wanted : Bool) → IsBusyRound kind device races a b wanted
      → IsRound kind device races Again a Drained b wanted
  busy_is_round a b wanted busy =
      record { last = busy.last; run = busy_is_run Again a busy.last busy.run; closes = busy.closes }

  pub first_is_round : (stage : Stage) (a b : Standing Ring State) (wanted : Bool)
      → IsFirstRound kind device races stage a b wanted → IsRound kind device races stage a Drained b wanted
  first_is_round First a b wanted r = r
  first_is_round Next a b wanted r = r
  first_is_round Again a b wanted r = busy_is_round a b wanted r

  -- ---- rounds

  busy_push : (a b : Standing Ring State) (rounds : List (Round Ring State)) (r : Round Ring State)
      → AreBusyRounds kind device races a rounds b → IsBusyRound kind device races b r.after r.wanted
      → AreBusyRounds kind device races a (rounds ++ r ∷ []) r.after
  busy_push a b [] r p q =
      let one : IsBusyRound kind device races a r.after r.wanted = rw p at q in (one, refl)
  busy_push a b (x ∷ rounds) r p q = (p.0, busy_push x.after b rounds r p.1 q)

  -- a round that served a chain, where closing writes were made right before
  busy_round : (stop : Stop) (a last b : Standing Ring State) (wanted : Bool) → ending_of stop ≡ None → ¬ (stop ≡ Idle)
      → RunsAs kind device races Again stop a last → IsClosing kind device races last b wanted
      → IsBusyRound kind device races a b wanted
  busy_round Idle a last b wanted e fresh run closes = absurd (fresh refl)
  busy_round Dry a last b wanted e fresh run closes = record { last = last; run = run; closes = closes }
  busy_round Paused a last b wanted e fresh run closes = cc
  busy_round (Broken fault) a last b wanted e fresh run closes = cc

  first_round : (stage : Stage) (stop : Stop) (a last b : Standing Ring State) (wanted : Bool) → ending_of stop ≡ None
      → (stage ≡ Again → ¬ (stop ≡ Idle)) → RunsAs kind device races stage stop a last
      → IsClosing kind device races last b wanted → IsFirstRound kind device races stage a b wanted
  first_round First stop a last b wanted e fresh run closes =
      record { last = last; run = dry_run First stop a last e run; closes = closes }
  first_round Next stop a last b wanted e fresh run closes =
      record { last = last; run = dry_run Next stop a last e run; closes = closes }
  first_round Again stop a last b wanted e fresh run closes =
      busy_round stop a last b wanted e (fresh refl) run closes

  -- one more round, which served a chain where closing writes were made right before
  rounds_push : (stage : Stage) (a b last : Standing Ring State) (rounds : List (Round Ring State)) (r : Round Ring State)
      (stop : Stop) → ending_of stop ≡ None → (stage_behind stage rounds ≡ Again → ¬ (stop ≡ Idle))
      → AreRounds kind device races stage a rounds b
      → RunsAs kind device races (stage_behind stage rounds) stop b last
      → IsClosing kind device races last r.after r.wanted
      → AreRounds kind device races stage a (rounds ++ r ∷ []) r.after
  rounds_push stage a b last [] r stop e fresh p run closes =
      let one : IsFirstRound kind device races stage b r.after r.wanted =
      first_round stage stop b last r.after r.wanted e fresh run closes in
      let first : IsFirstRound kind device races stage a r.after r.wanted = rw p at one in (first, refl)
  rounds_push stage a b last (x ∷ rounds) r stop e fresh p run closes =
      (p.0, busy_push x.after b rounds r p.1 (busy_round stop b last r.after r.wanted e (fresh refl) run closes))

  behind_push : (stage : Stage) (rounds : List (Round Ring State)) (r : Round Ring State)
      → Again ≡ stage_behind stage (rounds ++ r ∷ [])
  behind_push stage [] r = refl
  behind_push stage (x ∷ rounds) r = refl

  wanted_push : (rounds : List (Round Ring State)) (r : Round Ring State)
      → any_wanted (rounds ++ r ∷ []) ≡ (any_wanted rounds || r.wanted)
  wanted_push [] r = or_false r.wanted
    where
      or_false : (b : Bool) → (b || false) ≡ b
      or_false true = refl
      or_false false = refl
  wanted_push (x ∷ rounds) r = rw (wanted_push rounds r) (sym (or_assoc x.wanted (any_wanted rounds) r.wanted))
    where
      or_assoc : (a b c : Bool) → ((a || b) || c) ≡ (a || (b || c))
      or_assoc true b c = refl
      or_assoc false b c = refl

  -- So many rounds were served from this stage on, each to where none was on offer. This is what they wanted, and where the next
  -- one begins.
  pub record IsInService (stage here : Stage) (a b : Standing Ring State) (n : ℕ) (wanted : Bool) : Type 0 where
    pub rounds : List (Round Ring State)
    pub serves : AreRounds kind device races stage a rounds b
    pub count : length rounds ≡ n
    pub here_is : here ≡ stage_behind stage rounds
    pub wanted_is : wanted ≡ any_wanted rounds

  -- a queue was closed
  closing : (old new : Sightings) (ring shut : Ring) (s : State) (left : Budget) (asked : Bool)
      → kind.IsClosed races old new ring asked → shut ≡ kind.still.shut ring
      → IsClosing kind device races (standing_at old ring s left) (standing_at new shut s left) asked
  closing old new ring shut s left asked closed shuts =
      record { closed = closed; ring = shuts; state = refl; left = refl }

  module _ (stage here : Stage) (a b : Standing Ring State) (n : ℕ) (wanted : Bool)
      (p : IsInService stage here a b n wanted) where
    module _ (stop : Stop) (old new : Sightings) (ring shut : Ring) (s : State) (left : Budget) (asked wanted' : Bool)
        (run : RunsAs kind device races here stop b (standing_at old ring s left))
        (closed : kind.IsClosed races old new ring asked) (shuts : shut ≡ kind.still.shut ring)
        (wants : wanted' ≡ (wanted || asked)) where
      -- one more round, behind which none was on offer
      pub service_goes_on : ending_of stop ≡ None → (here ≡ Again → ¬ (stop ≡ Idle))
          → IsInService stage Again a (standing_at new shut s left) (n + 1) wanted'
      service_goes_on e fresh =
          let round : Round Ring State = record { wanted = asked; after = standing_at new shut s left } in record {
            rounds = p.rounds ++ round ∷ [];
            serves = rounds_push stage a b (standing_at old ring s left) p.rounds round stop e
                (λ behind. fresh (p.here_is ∙ behind)) p.serves (rw p.here_is at run)
                (closing old new ring shut s left asked closed shuts);
            count = length_push p.rounds round ∙ ap (λ (k : ℕ). k + 1) p.count;
            here_is = behind_push stage p.rounds round;
            wanted_is = wants ∙ ap (λ (w : Bool). w || asked) p.wanted_is ∙ sym (wanted_push p.rounds round);
          }

      -- one more, which ends the service
      pub service_ends : (most : ℕ) (ending : Ending) → n ≤ most → ending_of stop ≡ Some ending
          → IsRacingService kind device races stage most a (standing_at new shut s left) ending wanted'
      service_ends most ending few e = record {
        rounds = p.rounds;
        few = omega (arith, p.count, few);
        at = b;
        serves = p.serves;
        ends = by stop (rw p.here_is at run) e;
      }
        where
          ended : (halt : Halt) → IsRun kind device races (stage_behind stage p.rounds) b halt (standing_at old ring s left)
              → EndsWith kind device races stage halt p.rounds b (standing_at new shut s left) wanted'
          ended halt run = record {
            asked = asked;
            round = record {
              last = standing_at old ring s left;
              run = run;
              closes = closing old new ring shut s left asked closed shuts;
            };
            wanted_is = wants ∙ ap (λ (w : Bool). w || asked) p.wanted_is;
          }

          by : (stop : Stop) → RunsAs kind device races (stage_behind stage p.rounds) stop b (standing_at old ring s left)
              → ending_of stop ≡ Some ending
              → EndsBy kind device races stage ending most p.rounds b (standing_at new shut s left) wanted'
          by Idle run e = cc
          by Dry run e = cc
          by Paused run e = let same : More ≡ ending = cc in rw (← same) (inl (ended Limited run))
          by (Broken fault) run e = let same : Faulted fault ≡ ending = cc in rw (← same) (ended (Met fault) run)

    -- a look behind closing writes finds nothing new
    pub service_settles : (most : ℕ) (stop : Stop) (new : Sightings) (ring shut : Ring) (s : State) (left : Budget)
        → n ≤ most → here ≡ Again → RunsAs kind device races here stop b (standing_at new ring s left) → stop ≡ Idle
        → shut ≡ kind.still.shut ring
        → IsRacingService kind device races stage most a (standing_at new shut s left) Settled wanted
    service_settles most stop new ring shut s left few again run idle shuts = record {
      rounds = p.rounds;
      few = omega (arith, p.count, few);
      at = b;
      serves = p.serves;
      ends = record {
        behind = sym p.here_is ∙ again;
        looked = standing_at new ring s left;
        look = rw (again, idle) at run;
        shut = rw shuts refl;
        wanted_is = p.wanted_is;
      };
    }

    -- no more rounds are left
    pub service_stops : (most : ℕ) → n ≤ most → most ≤ n → IsRacingService kind device races stage most a b More wanted
    service_stops most few all = record {
      rounds = p.rounds;
      few = omega (arith, p.count, few);
      at = b;
      serves = p.serves;
      ends = inr (record { all = omega (arith, p.count, few, all); stands = refl; wanted_is = p.wanted_is });
    }

    -- a chain is left on offer
    pub service_left : (most : ℕ) {E : Type 0} (c : Standing Ring State)
        (Refuses : State → List ℕ → List Buffer → E → Type 0) (buffers : List Buffer) (entry : Entry) (why : E) → n < most
        → RunsUpTo kind device races Refuses here buffers entry why b c
        → IsRefusedService kind device races Refuses stage most a c buffers entry why wanted
    service_left most c Refuses buffers entry why few run = record {
      rounds = p.rounds;
      few = omega (arith, p.count, few);
      at = b;
      serves = p.serves;
      leaves = rw p.here_is at run;
      wanted_is = p.wanted_is;
    }
