-- What each call of a queue keeps of it, a service keeps, and the memory its range.
use Rattle.std.proofs.Common.{◌≡◌, ℕ, Bool, Option, Some, None, inl, inr, List, [], ◌∷◌}
use Rattle.guest_memory.specs.Memory.{Memory, SameRange}
use Rattle.guest_memory.proofs.Ranges.{same_trans}
use Rattle.chain.specs.declared.fault.Fault.{Fault}
use Rattle.chain.specs.declared.segment.Buffer.{Buffer}
use Rattle.chain.specs.Service.{Device, Entry}
use Rattle.shared_memory.specs.Sightings.{Sightings, memory}
use Rattle.shared_memory.proofs.Sightings.{loads_range, same_self}
use Rattle.racing_service.specs.declared.service.Ending.{Ending}
use Rattle.racing_service.specs.declared.service.Ending.TheVariants.{Settled, Faulted, More}
use Rattle.racing_service.specs.declared.stage.Stage.{Stage}
use Rattle.racing_service.specs.declared.stage.Stage.TheVariants.{First, Next, Again}
use Rattle.racing_service.specs.Queue.{RacingKind}
use Rattle.racing_service.specs.Service.{Standing, Halt, Drained, Met, Limited, Round, ServesOne, ServesSome, OnlyLoads, HaltsBy, Serves, IsOpened, Works, IsRun, IsClosing, IsRound, AreBusyRounds, AreRounds, IsSettled, EndsBy, IsRacingService, IsRefusedService, fault_at, opened_at, stage_behind}
use Rattle.racing_service.proofs.Coming.{busy_is_round, first_is_round}
use Rattle.chain_handler.proofs.Still.{does_range}

-- what each call keeps of a queue, but a launch and a landing; and what is stored leaves the memory's range
pub record MoveLaws {Ring : Type 0} (kind : RacingKind Ring) (Stays : Ring → Ring → Type 0) : Type 0 where
  pub same : (queue : Ring) → Stays queue queue
  pub trans : (a b c : Ring) → Stays a b → Stays b c → Stays a c
  pub opened : (m : Memory) (queue : Ring) → Stays queue (kind.still.opened m queue)
  pub past : (queue : Ring) (entry : Entry) → Stays queue (kind.still.past queue entry)
  pub stopped : (queue : Ring) → Stays queue (kind.still.stopped queue)
  pub shut : (queue : Ring) → Stays queue (kind.still.shut queue)
  pub given_range : (races : Bool) (old new : Sightings) (queue : Ring) (entry : Entry) (len : ℕ) (wrote : Bool)
      → kind.IsGiven races old new queue entry len wrote → SameRange (memory old) (memory new)
  pub closed_range : (races : Bool) (old new : Sightings) (queue : Ring) (wanted : Bool)
      → kind.IsClosed races old new queue wanted → SameRange (memory old) (memory new)

module _ {Ring : Type 0} {kind : RacingKind Ring} {Stays : Ring → Ring → Type 0} (laws : MoveLaws kind Stays) where
  -- the queue keeps that, and the memory its range
  pub record Keeps {State : Type 0} (a b : Standing Ring State) : Type 0 where
    pub stays : Stays a.ring b.ring
    pub range : SameRange (memory a.sightings) (memory b.sightings)

  module _ {State : Type 0} (device : Device State) (races : Bool) where
    keeps_none : (a b : Standing Ring State) → b ≡ a → Keeps a b
    keeps_none a b same = rw same (record { stays = laws.same a.ring; range = same_self (memory a.sightings) })

    pub keeps_trans : (a b c : Standing Ring State) → Keeps a b → Keeps b c → Keeps a c
    keeps_trans a b c p q = record {
      stays = laws.trans a.ring b.ring c.ring p.stays q.stays;
      range = same_trans (memory a.sightings) (memory b.sightings) (memory c.sightings) p.range q.range;
    }

    only_range : (a b : Standing Ring State) → OnlyLoads kind device races a b
        → SameRange (memory a.sightings) (memory b.sightings)
    only_range a b only = loads_range races a.sightings b.sightings only.loads

    one_keeps : (a b : Standing Ring State) → ServesOne kind device races a b → Keeps a b
    one_keeps a b s = record {
      stays = rw s.past (laws.past a.ring s.entry);
      range = same_trans (memory a.sightings) (memory s.taken) (memory b.sightings)
          (loads_range races a.sightings s.taken s.loads)
          (same_trans (memory s.taken) (memory s.served) (memory b.sightings)
          (does_range device races s.taken s.served s.buffers a.state b.state s.len s.any s.does)
          (laws.given_range races s.served b.sightings a.ring s.entry s.len s.any s.given));
    }

    some_keeps : (between : List (Standing Ring State)) (a b : Standing Ring State)
        → ServesSome kind device races a between b → Keeps a b
    some_keeps [] a b s = keeps_none a b s
    some_keeps (x ∷ between) a b s = keeps_trans a x b (one_keeps a x s.0) (some_keeps between x b s.1)

    halts_keeps : (halt : Halt) (a b : Standing Ring State) → HaltsBy kind device races halt a b → Keeps a b
    halts_keeps Drained a b h = record { stays = rw h.ring (laws.same a.ring); range = only_range a b h.only }
    halts_keeps (Met fault) a b h = record { stays = rw h.ring (laws.stopped a.ring); range = only_range a b h.only }
    halts_keeps Limited a b h = record { stays = rw h.ring (laws.same a.ring); range = only_range a b h.only }

    serves_keeps : (halt : Halt) (a b : Standing Ring State) → Serves kind device races a halt b → Keeps a b
    serves_keeps halt a b s =
        keeps_trans a s.at b (some_keeps s.between a s.at s.serves) (halts_keeps halt s.at b s.halts)

    opened_stays : (stage : Stage) (m : Memory) (queue : Ring) → Stays queue (opened_at kind stage m queue)
    opened_stays First m queue = laws.opened m queue
    opened_stays Next m queue = laws.same queue
    opened_stays Again m queue = laws.opened m queue

    opens_keeps : (stage : Stage) (a b : Standing Ring State) → IsOpened kind device races stage a b → Keeps a b
    opens_keeps stage a b o = record {
      stays = rw o.ring (opened_stays stage (memory b.sightings) a.ring);
      range = only_range a b o.only;
    }

    works_keeps : (fault : Option Fault) (a : Standing Ring State) (halt : Halt) (b : Standing Ring State)
        → Works kind device races fault a halt b → Keeps a b
    works_keeps (Some fault) a halt b w = keeps_none a b w.1
    works_keeps None a halt b w = serves_keeps halt a b w

    run_keeps : (stage : Stage) (a : Standing Ring State) (halt : Halt) (b : Standing Ring State)
        → IsRun kind device races stage a halt b → Keeps a b
    run_keeps stage a halt b r =
        keeps_trans a r.opened b (opens_keeps stage a r.opened r.opens)
        (works_keeps (fault_at kind stage (memory r.opened.sightings) a.ring) r.opened halt b r.works)

    pub closing_keeps : (a b : Standing Ring State) (wanted : Bool) → IsClosing kind device races a b wanted → Keeps a b
    closing_keeps a b wanted c = record {
      stays = rw c.ring (laws.shut a.ring);
      range = laws.closed_range races a.sightings b.sightings a.ring wanted c.closed;
    }

    round_keeps : (stage : Stage) (a : Standing Ring State) (halt : Halt) (b : Standing Ring State) (wanted : Bool)
        → IsRound kind device races stage a halt b wanted → Keeps a b
    round_keeps stage a halt b wanted r =
        keeps_trans a r.last b (run_keeps stage a halt r.last r.run) (closing_keeps r.last b wanted r.closes)

    busy_keeps : (a : Standing Ring State) (rounds : List (Round Ring State)) (b : Standing Ring State)
        → AreBusyRounds kind device races a rounds b → Keeps a b
    busy_keeps a [] b r = keeps_none a b r
    busy_keeps a (x ∷ rounds) b r =
        keeps_trans a x.after b
        (round_keeps Again a Drained x.after x.wanted (busy_is_round kind device races a x.after x.wanted r.0))
        (busy_keeps x.after rounds b r.1)

    rounds_keeps : (stage : Stage) (a : Standing Ring State) (rounds : List (Round Ring State)) (b : Standing Ring State)
        → AreRounds kind device races stage a rounds b → Keeps a b
    rounds_keeps stage a [] b r = keeps_none a b r
    rounds_keeps stage a (x ∷ rounds) b r =
        keeps_trans a x.after b
        (round_keeps stage a Drained x.after x.wanted (first_is_round kind device races stage a x.after x.wanted r.0))
        (busy_keeps x.after rounds b r.1)

    settled_keeps : (stage : Stage) (rounds : List (Round Ring State)) (at b : Standing Ring State) (wanted : Bool)
        → IsSettled kind device races stage rounds at b wanted → Keeps at b
    settled_keeps stage rounds at b wanted s =
        let opened = s.look.opened in
        let shut : Keeps s.looked b =
        rw s.shut (record { stays = laws.shut s.looked.ring; range = same_self (memory s.looked.sightings) }) in
        keeps_trans at opened b (opens_keeps Again at opened s.look.opens)
        (keeps_trans opened s.looked b (halts_keeps Drained opened s.looked s.look.finds) shut)

    ends_keeps : (stage : Stage) (ending : Ending) (most : ℕ) (rounds : List (Round Ring State))
        (at b : Standing Ring State) (wanted : Bool) → EndsBy kind device races stage ending most rounds at b wanted
        → Keeps at b
    ends_keeps stage Settled most rounds at b wanted e = settled_keeps stage rounds at b wanted e
    ends_keeps stage (Faulted fault) most rounds at b wanted e =
        round_keeps (stage_behind stage rounds) at (Met fault) b e.asked e.round
    ends_keeps stage More most rounds at b wanted (inl e) =
        round_keeps (stage_behind stage rounds) at Limited b e.asked e.round
    ends_keeps stage More most rounds at b wanted (inr e) = keeps_none at b e.stands

    pub service_keeps : (stage : Stage) (most : ℕ) (a b : Standing Ring State) (ending : Ending) (wanted : Bool)
        → IsRacingService kind device races stage most a b ending wanted → Keeps a b
    service_keeps stage most a b ending wanted s =
        keeps_trans a s.at b (rounds_keeps stage a s.rounds s.at s.serves)
        (ends_keeps stage ending most s.rounds s.at b wanted s.ends)

    pub refused_keeps : {E : Type 0} (Refuses : State → List ℕ → List Buffer → E → Type 0) (stage : Stage) (most : ℕ)
        (a b : Standing Ring State) (buffers : List Buffer) (entry : Entry) (why : E) (wanted : Bool)
        → IsRefusedService kind device races Refuses stage most a b buffers entry why wanted → Keeps a b
    refused_keeps Refuses stage most a b buffers entry why wanted s =
        let up = s.leaves in
        let one = up.serves.leaves in
        keeps_trans a s.at b (rounds_keeps stage a s.rounds s.at s.serves)
        (keeps_trans s.at up.opened b (opens_keeps (stage_behind stage s.rounds) s.at up.opened up.opens)
        (keeps_trans up.opened up.serves.at b (some_keeps up.serves.between up.opened up.serves.at up.serves.serves)
        (record {
          stays = rw one.ring (laws.same up.serves.at.ring);
          range = same_trans (memory up.serves.at.sightings) (memory one.taken) (memory b.sightings)
              (loads_range races up.serves.at.sightings one.taken one.loads)
              (loads_range races one.taken b.sightings one.refuses.reads);
        })))
