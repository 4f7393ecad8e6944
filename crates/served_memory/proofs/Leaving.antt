-- A chain that its device leaves on offer, and the closing behind it.
use Rattle.std.proofs.Common.{◌≡◌, ◌∙◌, ℕ, Bool, Option, Some, None, List, Result, Ok, Err, refl, sym, ap, subst, length}
use Rattle.std.specs.Prelude.{IfErr, IsSome}
use Rattle.guest_memory.specs.Memory.{Memory, SameRange}
use Rattle.chain.specs.declared.budget.Budget.{Budget}
use Rattle.chain.specs.declared.segment.Buffer.{Buffer}
use Rattle.chain.specs.Bytes.{readable_of, writable_of}
use Rattle.chain.specs.Service.{Device, Entry}
use Rattle.mmio_window.specs.declared.queue.Queue.{Queue}
use Rattle.mmio_window.specs.declared.queue.Queue.TheVariants.{Split, Packed}
use Rattle.mmio_window.specs.declared.queue.Token.{Token}
use Rattle.mmio_window.specs.declared.stage.Stage.{Stage}
use Rattle.mmio_window.specs.Pieces.{IsRefusedAt, LeavesChain}
use Rattle.mmio_window.specs.Queue.{entry_of, made_as, queue_kind}
use Rattle.mmio_window.specs.Soundness.{IsSound}
use Rattle.mmio_window.specs.Window.{WindowState, queue_at, with_ring}
use Rattle.mmio_window.proofs.Pieces.{queue_stands_open}
use Rattle.mmio_window.proofs.Soundness.{serving_keeps_sound}
use Rattle.shared_memory.specs.Sightings.{Sightings}
use Rattle.racing_service.specs.declared.service.Limits.{Limits}
use Rattle.racing_service.specs.declared.service.Refused.{Refused}
use Rattle.racing_service.specs.declared.stage.Stage as racing_stage
use Rattle.racing_service.specs.Queue.{RacingKind}
use Rattle.racing_service.specs.Service.{IsRefusedService, Standing}
use Rattle.racing_window.specs.Serving.{IsLeft}
use Rattle.served_memory.specs.Closing.{ClosesLeft}
use Rattle.served_memory.specs.World.{Lacks, LeftBy, RefusedAt}

-- ---- a guest that stands still

pub left_as : {State E : Type 0} (device : Device State) (Refuses : State → List ℕ → List Buffer → E → Type 0) (stage : Stage)
    (budget : Budget) (q : ℕ) (queue : Option Queue) (old new : Memory) (w w' : WindowState) (s s' : State) {T : Type 0}
    (r : Result T E)
    → IfErr r (LeavesChain device (λ t m buffers why. Refuses t (readable_of m buffers) buffers why) stage budget q queue old new
    w w' s s')
    → IfErr r (LeftBy device Refuses (IsRefusedAt stage device budget q queue old new w w' s s') s')
left_as device Refuses stage budget q queue old new w w' s s' (Ok x) h = h
left_as device Refuses stage budget q queue old new w w' s s' (Err why) h = record {
  readable = readable_of h.memory h.buffers;
  buffers = h.buffers;
  refuses = h.refuses;
  ends = h.ends;
}

-- ---- a guest that runs on

module _ {Ring State E : Type 0} (kind : RacingKind Ring) (device : Device State) (races : Bool)
    (Refuses : State → List ℕ → List Buffer → E → Type 0) (stage : racing_stage.Stage) (most : ℕ) (a b : Standing Ring State)
    (buffers : List Buffer) (entry : Entry) (why : E) (wanted : Bool)
    (service : IsRefusedService kind device races Refuses stage most a b buffers entry why wanted) where
  -- the bytes by which it is left
  pub read_of : List ℕ
  read_of = service.leaves.serves.leaves.refuses.readable

  pub refuses_by : Refuses b.state read_of buffers why
  unfolding read_of
  refuses_by =
      let left = service.leaves.serves.leaves in
      subst (λ (s : State). Refuses s left.refuses.readable buffers why) (sym left.state) left.refuses.refuses

  -- the same service, if there is no memory for it
  pub lacking : device.LacksMemory b.state read_of (length (writable_of buffers))
      → IsRefusedService kind device races (Lacks device) stage most a b buffers entry tt wanted
  unfolding read_of
  lacking lacks =
      let runs = service.leaves in
      let serves = runs.serves in
      let left = serves.leaves in
      record {
        rounds = service.rounds;
        few = service.few;
        at = service.at;
        serves = service.serves;
        leaves = record {
          opened = runs.opened;
          opens = runs.opens;
          no_fault = runs.no_fault;
          serves = record {
            between = serves.between;
            at = serves.at;
            serves = serves.serves;
            leaves = record {
              taken = left.taken;
              takes = left.takes;
              within = left.within;
              loads = left.loads;
              told = left.told;
              offered = left.offered;
              refuses = record {
                readable = left.refuses.readable;
                reads = left.refuses.reads;
                each_read = left.refuses.each_read;
                refuses = subst (λ (s : State). device.LacksMemory s left.refuses.readable (length (writable_of buffers)))
                    left.state lacks;
              };
              ring = left.ring;
              state = left.state;
              left = left.left;
            };
          };
        };
        wanted_is = service.wanted_is;
      }

module _ {State E : Type 0} (device : Device State) (Refuses : State → List ℕ → List Buffer → E → Type 0) (races : Bool)
    (limits : Limits) (q : ℕ) (buffers : List Buffer) (refused : Refused Token E) (old stopped : Sightings) (w v : WindowState)
    (s s' : State) where
  -- a chain that is left stands in a queue which the device may serve
  there_by : (found : Option Queue) → queue_at q w ≡ found
      → IsLeft device Refuses races limits.rounds q limits.budget found buffers refused old stopped w v s s'
      → IsSome (queue_at q v)
  there_by None is left = absurd left
  there_by (Some queue) is left = rw (left.window, queue_stands_open q w queue left.last is) refl

  pub left_is_there : IsLeft device Refuses races limits.rounds q limits.budget (queue_at q w) buffers refused old stopped w v s s'
      → IsSome (queue_at q v)
  left_is_there left = there_by (queue_at q w) refl left

  module _ (new : Sightings) (w' : WindowState) where
    left_in : (found : Option Queue) → queue_at q w ≡ found
        → IsLeft device Refuses races limits.rounds q limits.budget found buffers refused old stopped w v s s'
        → ClosesLeft races q (queue_at q v) refused.wanted stopped new v w'
        → LeftBy device Refuses (RefusedAt races device limits q found old new w w' s s') s' refused.why
    left_in None is left closes = absurd left
    left_in (Some queue) is left closes =
        let there : queue_at q v ≡ Some left.last =
        ap (λ (u : WindowState). queue_at q u) left.window ∙ queue_stands_open q w queue left.last is in
        let closed : ClosesLeft races q (Some left.last) refused.wanted stopped new v w' =
        subst (λ (o : Option Queue). ClosesLeft races q o refused.wanted stopped new v w') there closes in
        record {
          readable = read_of _ _ _ _ _ _ _ _ _ _ _ _ left.service;
          buffers = buffers;
          refuses = refuses_by _ _ _ _ _ _ _ _ _ _ _ _ left.service;
          ends = λ lacks. record {
            stopped = stopped;
            last = left.last;
            left = refused.left;
            buffers = buffers;
            entry = entry_of refused.token;
            asked = refused.wanted;
            service = lacking _ _ _ _ _ _ _ _ _ _ _ _ left.service lacks;
            closes = subst (λ (u : WindowState). ClosesLeft races q (Some left.last) refused.wanted stopped new u w') left.window
                closed;
          };
        }

    pub left_by : IsLeft device Refuses races limits.rounds q limits.budget (queue_at q w) buffers refused old stopped w v s s'
        → ClosesLeft races q (queue_at q v) refused.wanted stopped new v w'
        → LeftBy device Refuses (RefusedAt races device limits q (queue_at q w) old new w w' s s') s' refused.why
    left_by left closes = left_in (queue_at q w) refl left closes

-- ---- the closing itself

made_shut : (queue : Queue) → made_as (queue_kind.shut queue) ≡ made_as queue
made_shut (Split ring) = refl
made_shut (Packed ring) = refl

pub closed_sound : (m n : Memory) (w w' : WindowState) (q : ℕ) (queue first shut last : Queue) → IsSound m w → SameRange m n
    → Some queue ≡ queue_at q w → first ≡ queue → shut ≡ queue_kind.shut first → last ≡ shut
    → (IsSound n (with_ring q w last) → IsSound n w') → IsSound n w'
closed_sound m n w w' q queue first shut last sound same is made_first shuts made_last keeps =
    keeps (serving_keeps_sound m n w q queue last sound same (sym is)
    (ap made_as made_last ∙ ap made_as shuts ∙ made_shut first ∙ ap made_as made_first))
