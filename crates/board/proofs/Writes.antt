-- What writes leave of a slot's memory, a service leaves too, and so does each event.
use Rattle.board.proofs.AtDevice.{by_image, refused_by_image}
use Rattle.board.specs.ImageDisks.{image_asked}
use Rattle.std.proofs.Common.{◌≡◌, inl, inr, ℕ, zero, suc, Bool, true, false, Option, Some, None, List, [], ◌∷◌, refl, sym, ◌∙◌, ap, subst}
use Rattle.std.specs.Prelude.{if◌then◌else◌, is_none, is_some, not, unwrap_or}
use Rattle.byteorder.specs.Endian.{little_bytes}
use Rattle.guest_memory.specs.Memory.{Memory, put, put_num}
use Rattle.chain.specs.Bytes.{writable_of}
use Rattle.chain.specs.Service.{Device, Ending, Entry, Course, Site, after, scattered, used_len, wrote}
use Rattle.board.specs.declared.event.SlotWindow.{SlotWindow}
use Rattle.board.specs.declared.event.SlotWindow.TheVariants.{Block, Console}
use Rattle.mmio_window.specs.declared.queue.Queue.{Queue}
use Rattle.mmio_window.specs.declared.queue.Queue.TheVariants.{Split, Packed}
use Rattle.mmio_window.specs.declared.stage.Stage.{Stage}
use Rattle.mmio_window.specs.declared.stage.Stage.TheVariants.{First, Next}
use Rattle.mmio_window.specs.Pieces.{FinishesWithin, NotifiedWithin, ServesTo}
use Rattle.mmio_window.specs.Queue.{queue_kind}
use Rattle.mmio_window.specs.Serving.{Notified}
use Rattle.mmio_window.specs.Window.{WindowState, queue_at}
use Rattle.block_device.specs.declared.operation.Verdict.{Verdict}
use Rattle.chain.specs.declared.budget.Budget.{Budget}
use Rattle.chain.specs.declared.budget.Progress.{Progress}
use Rattle.chain.specs.declared.budget.Progress.TheVariants as progress
use Rattle.block_device.specs.Asking.{status_by, unasked_device}
use Rattle.block_device.specs.Extent.{extent_disk}
use Rattle.block_device.specs.Flights.{HostedQueue, InFlight, StopsWithin}
use Rattle.block_device.specs.Request.{code_of}
use Rattle.block_device.specs.Hosting.{CompletesIn}
use Rattle.block_device.proofs.Unasked.{any_disk}
use Rattle.block_device.specs.declared.operation.HostEvent.{HostEvent}
use Rattle.block_device.specs.declared.operation.HostEvent.TheVariants as host
use Rattle.hosted_disk.specs.Disk.{queue_of}
use Rattle.hosted_disk.specs.Told.{QueueTold}
use Rattle.block_device.specs.declared.device.BlockDevice.{BlockDevice}
use Rattle.device_list.specs.Model.{ModelState, Entropy, Network, Block as BlockModel, Console as ConsoleModel, Image as ImageModel}
use Rattle.device_list.specs.Device as device
use Rattle.device_list.specs.Device.{DeviceState, Receives, TakesSent, Told}
use Rattle.device_list.specs.Card.{receive_refusal, with_frame}
use Rattle.device_list.specs.List.{card_at, sent_by}
use Rattle.device_list.specs.Model.{Serves, supplied_model, with_card, without_sent}
use Rattle.board.specs.declared.event.DeviceEvent.{DeviceEvent}
use Rattle.board.specs.declared.event.DeviceEvent.TheVariants as event
use Rattle.board.specs.Devices.{Alters, DoesIf, DoesTo, has_effect_at, waits_there}
use Rattle.board.proofs.FurtherDevices.{of_device}
use Rattle.mmio_window.specs.Writing.{action_of, written}
use Rattle.board.specs.declared.event.EventKind.{EventKind}
use Rattle.board.specs.declared.event.EventKind.TheVariants.{Write, MemRead, MemWrite, Input, Restore}
use Rattle.board.specs.declared.event.EventKind.TheVariants as kind
use Rattle.board.specs.declared.pause.Service.TheVariants as service
use Rattle.board.specs.declared.reply.Reply.{Reply}
use Rattle.board.specs.Hosting.{LooksAtQueue}
use Rattle.board.specs.Units.{unit_queue}
use Rattle.board.specs.Image.{Health}
use Rattle.board.specs.Marking.{IsForDevices}
use Rattle.board.specs.Machine.{GivesOverImage, readied, task_at, with_write}
use Rattle.board.specs.Outcome.{Outcome, replies}
use Rattle.device_list.specs.List.{are_at_work}
use Rattle.board.specs.Restoring.{RestoresUnless}
use Rattle.board.specs.Slot.{BoardSlot, SlotState}
use Rattle.board.specs.Task.{Finishes, Nothing, PutOut, Serve, Task}
use Rattle.board.specs.World.{IsCutShort, IsRefused, MayGive, MayGiveOverImage}
use Rattle.board.proofs.Chains.{KeptByEach, kept, kept_by_all, kept_by_end}
use Rattle.hosted_disk.proofs.Looking.{IsLeftByLandings, IsLeftByLooks, landing_left, look_left, unless_left}
use Rattle.board.proofs.Ways.{Looks, Passes, Rests, Says, Waits, Way, by_disk}

-- it holds of what is left as it was, of two steps if of each, and of a write
pub record IsLeftByWrites (K : Memory → Memory → Type 0) : Type 0 where
  pub none : (m : Memory) → K m m
  pub both : (a b c : Memory) → K a b → K b c → K a c
  pub put : (m : Memory) (a : ℕ) (bs : List ℕ) → K m (put m a bs)

module _ (K : Memory → Memory → Type 0) (left : IsLeftByWrites K) where
  same_left : (m n : Memory) → n ≡ m → K m n
  same_left m n is = subst (K m) (sym is) (left.none m)

  scattered_left : (m : Memory) (addrs : List ℕ) (written : List (Option ℕ)) → K m (scattered m addrs written)
  scattered_left m [] written = left.none m
  scattered_left m (a ∷ addrs) [] = left.none m
  scattered_left m (a ∷ addrs) (None ∷ written) = scattered_left m addrs written
  scattered_left m (a ∷ addrs) (Some x ∷ written) =
      left.both m (put m a (x ∷ [])) (scattered (put m a (x ∷ [])) addrs written) (left.put m a (x ∷ []))
      (scattered_left (put m a (x ∷ [])) addrs written)

  num_left : (m : Memory) (a k v : ℕ) → K m (put_num m a k v)
  num_left m a k v = left.put m a (little_bytes k v)

  used_left : (m : Memory) (queue : Queue) (entry : Entry) (len : ℕ) (any : Bool)
      → K m (queue_kind.used m queue entry len any)
  used_left m (Split ring) entry len any =
      left.both m _ _ (left.both m _ _ (num_left m _ 4 entry.id) (num_left _ _ 4 len)) (num_left _ _ 2 _)
  used_left m (Packed ring) entry len any =
      left.both m _ _ (left.both m _ _ (num_left m _ 4 len) (num_left _ _ 2 entry.id)) (num_left _ _ 2 _)

  flags_left : (m : Memory) (flags : Memory) (idx : Bool) (a v : ℕ) → K m flags
      → K m (if idx then put_num flags a 2 v else flags)
  flags_left m flags true a v same = left.both m flags _ same (num_left flags a 2 v)
  flags_left m flags false a v same = same

  closed_left : (m : Memory) (queue : Queue) → K m (queue_kind.closed m queue)
  closed_left m (Split ring) =
      flags_left m _ ring.setup.event_idx _ _ (num_left m ring.setup.device 2 0)
  closed_left m (Packed ring) = num_left m ring.setup.device 4 0

  -- ---- a service of a queue

  left_by_each : {State : Type 0} (device : Device State) (old : Memory)
      → KeptByEach device (λ (m : Memory) (d : State). K old m)
  left_by_each device old = record {
    chain = λ start served serves so.
        let written = scattered start.memory (writable_of served.buffers) served.given.written in
        left.both old start.memory _ so
        (left.both start.memory written _
        (scattered_left start.memory (writable_of served.buffers) served.given.written)
        (used_left written start.ring served.entry (used_len served.given.written)
        (wrote served.given.written)));
    closed = λ memory ring d so. left.both old memory _ so (closed_left memory ring);
  }

  pub notified_left : {State : Type 0} (device : Device State) (q : ℕ) (queue : Option Queue) (ending : Ending)
      (old new : Memory) (before after : WindowState) (s t : State)
      → Notified device q queue ending old new before after s t → K old new
  notified_left {State} device q queue ending old new before after s t h =
      kept device (λ (m : Memory) (d : State). K old m) (left_by_each device old) q queue ending old new before
      after s t h (left.none old)

  within_left : {State : Type 0} (device : Device State) (budget : Budget) (q : ℕ) (queue : Option Queue) (ending : Ending)
      (old new : Memory) (before after : WindowState) (s t : State)
      → NotifiedWithin device budget q queue ending old new before after s t → K old new
  within_left device budget q None ending old new before after s t h = same_left old new h.1.memory
  within_left device budget q (Some queue) ending old new before after s t h =
      notified_left device q (Some queue) ending old new before after s t
      (record { last = h.last; wanted = h.wanted; service = h.service.service; window = h.window })

  course_left : {State : Type 0} (device : Device State) (start now : Site Queue State)
      → Course queue_kind device start now → K start.memory now.memory
  course_left {State} device start now h =
      kept_by_all device (λ (m : Memory) (d : State). K start.memory m) (left_by_each device start.memory) start
      now h.chains h.serves (left.none start.memory)

  -- ---- a disk that the host serves

  finished_left : {State : Type 0} (device : Device State) (budget : Budget) (q : ℕ) (queue : Option Queue) (ending : Ending)
      (old new : Memory) (before after : WindowState) (s t : State)
      → FinishesWithin device budget q queue ending old new before after s t → K old new
  finished_left device budget q None ending old new before after s t h = same_left old new h.1.memory
  finished_left {State} device budget q (Some queue) ending old new before after s t h =
      kept_by_end device (λ (m : Memory) (d : State). K old m) (left_by_each device old) _ _ ending h.wanted
      h.ends.ends (left.none old)

  stop_left : {State : Type 0} (device : Device State) (stage : Stage) (budget : Budget) (queue : Option Queue)
      (came : Progress) (old new : Memory) (before after : WindowState) (s t : State)
      → ServesTo stage device budget 0 queue came old new before after s t → K old new
  stop_left device First budget queue progress.Done old new before after s t h =
      within_left device budget 0 queue h.ending old new before after s t h.notified
  stop_left device Next budget queue progress.Done old new before after s t h =
      finished_left device budget 0 queue h.ending old new before after s t h.finished
  stop_left device First budget None progress.More old new before after s t h = absurd h
  stop_left device Next budget None progress.More old new before after s t h = absurd h
  stop_left device First budget (Some queue) progress.More old new before after s t h =
      course_left device _ _ h.begins.pauses.course
  stop_left device Next budget (Some queue) progress.More old new before after s t h =
      course_left device _ _ h.pauses.course

  stopped_by : (device : BlockDevice) (stage : Stage) (budget : Budget) (came : Progress) (old new : HostedQueue)
      → StopsWithin device stage budget came old new
      → ServesTo stage (unasked_device device) budget 0 (queue_at 0 old.window) came old.memory new.memory old.window
      new.window (extent_disk device.extent any_disk) (extent_disk device.extent any_disk)
  stopped_by device stage budget progress.More old new h = h.stops any_disk
  stopped_by device stage budget progress.Done old new h = h.stops any_disk

  abbrev MemoryLeft : HostedQueue → HostedQueue → Type 0
  MemoryLeft old new = K old.memory new.memory

  memory_left : IsLeftByLooks MemoryLeft
  memory_left = record {
    none = λ q. left.none q.memory;
    both = λ a b c one other. left.both a.memory b.memory c.memory one other;
    asks = λ device stage old here new next.
        course_left (unasked_device device) _ _ (next.asks any_disk).asks.stops.course;
    stops = λ device stage budget came old new no_more.
        stop_left (unasked_device device) stage budget (queue_at 0 old.window) came old.memory new.memory old.window
        new.window (extent_disk device.extent any_disk) (extent_disk device.extent any_disk)
        (stopped_by device stage budget came old new no_more);
  }

  given_left : (here : InFlight) (verdict : Verdict) (old new : Memory) (before after : WindowState)
      → CompletesIn here.flight verdict old new before after → K old new
  given_left here verdict old new before after h =
      let back = h.gives in
      let done : K old back.done =
      subst (K old) (sym back.completed.memory) (left.put old here.flight.status (code_of (status_by verdict) ∷ [])) in
      let given : K old h.given =
      left.both old back.done _ done (subst (K back.done) (sym back.used) (used_left back.done _ _ _ _)) in
      left.both old h.given _ given (subst (K h.given) (sym h.closed) (closed_left h.given h.behind))

  landings_left : IsLeftByLandings MemoryLeft
  landings_left = record {
    gives = λ tag here verdict old new given.
        given_left here verdict old.memory new.memory old.window new.window given.completes;
    frees = λ tag old. left.none old.memory;
  }

  looks_left : (old new : SlotState) → LooksAtQueue old new → K old.memory new.memory
  looks_left old new h =
      unless_left MemoryLeft memory_left h.before.disk.on_hold h.before.disk.device (unit_queue old.memory h.before)
      (unit_queue new.memory h.after) h.does.looks

  -- ---- an event

  -- the slot's memory after what an event comes to
  state_left : {A : Type 0} (state : SlotState) (outcome wanted : Outcome A) → outcome ≡ wanted
      → wanted.state.memory ≡ state.memory → K state.memory outcome.state.memory
  state_left {A} state outcome wanted is same =
      same_left state.memory outcome.state.memory (ap (λ (o : Outcome A). o.state.memory) is ∙ same)

  wrote_memory : (window : SlotWindow) (offset width value : ℕ) (state : SlotState)
      → (with_write window offset width value state).memory ≡ state.memory
  wrote_memory Block offset width value state = refl
  wrote_memory Console offset width value state = refl

  readied_memory : {A : Type 0} (what : EventKind A) (state : SlotState)
      → (readied what state).memory ≡ state.memory
  readied_memory (Write window offset width value) state = wrote_memory window offset width value state
  readied_memory _ state = refl

  by_inside : {A : Type 0} (inside : Bool) (state : SlotState) (hit : Outcome A) (miss : Reply A)
      → K state.memory hit.state.memory → K state.memory (if inside then hit else replies state miss).state.memory
  by_inside true state hit miss so = so
  by_inside false state hit miss so = left.none state.memory

  finishes_left : {A : Type 0} (task : Task) (state : SlotState) (before after : Health) (outcome : Outcome A)
      → Finishes task state before after outcome → K state.memory outcome.state.memory
  finishes_left Nothing state before after outcome h = state_left state outcome _ h.alike refl
  finishes_left (Serve service.Block) state before after outcome h =
      notified_left _ 0 (queue_at 0 state.block) h.notified.ending state.memory outcome.state.memory state.block
      outcome.state.block _ _ h.notified.notified
  finishes_left (Serve service.Receive) state before after outcome h =
      notified_left _ 0 (queue_at 0 state.console) h.notified.ending state.memory outcome.state.memory
      state.console outcome.state.console _ _ h.notified.notified
  finishes_left (Serve service.Transmit) state before after outcome h =
      notified_left _ 1 (queue_at 1 state.console) h.notified.ending state.memory outcome.state.memory
      state.console outcome.state.console _ _ h.notified.notified
  finishes_left (Serve (service.Further n q)) state before after outcome h = absurd h
  finishes_left (PutOut byte) state before after outcome h = state_left state outcome _ h.alike refl

  -- what is done to a further device
  serves_left : (model : ModelState) (q : ℕ) (m n : Memory) (v w : WindowState) (model' : ModelState)
      → Serves model q m n v w model' → K m n
  serves_left (Entropy pool) zero m n v w model' h =
      notified_left _ 0 (queue_at 0 v) h.notified.ending m n v w pool h.left h.notified.notified
  serves_left (Entropy pool) (suc q) m n v w model' h = same_left m n h.memory
  serves_left (Network card) zero m n v w model' h =
      notified_left _ 0 (queue_at 0 v) h.serves.ending m n v w _ _ h.serves.notified
  serves_left (Network card) (suc zero) m n v w model' h =
      notified_left _ 1 (queue_at 1 v) h.serves.notified.ending m n v w _ _ h.serves.notified.notified
  serves_left (Network card) (suc (suc q)) m n v w model' h = same_left m n h.serves.memory
  serves_left (BlockModel disk) zero m n v w model' h =
      unless_left MemoryLeft memory_left disk.on_hold disk.device (queue_of m v disk) (queue_of n w h.after)
      h.serves.looks
  serves_left (BlockModel disk) (suc q) m n v w model' h = same_left m n h.serves.memory
  serves_left (ImageModel disk) q m n v w model' h = same_left m n h.memory
  serves_left (ConsoleModel terminal) zero m n v w model' h =
      notified_left _ 0 (queue_at 0 v) h.serves.notified.ending m n v w _ _ h.serves.notified.notified
  serves_left (ConsoleModel terminal) (suc zero) m n v w model' h =
      notified_left _ 1 (queue_at 1 v) h.serves.notified.ending m n v w _ _ h.serves.notified.notified
  serves_left (ConsoleModel terminal) (suc (suc q)) m n v w model' h = same_left m n h.serves.memory

  -- what the host says of a disk
  told_queue_left : (said : HostEvent) (device : BlockDevice) (on_hold : Bool) (old new : HostedQueue)
      → QueueTold said device on_hold old new → K old.memory new.memory
  told_queue_left (host.Complete tag verdict) device on_hold old new h =
      left.both old.memory h.landed.memory new.memory
      (landing_left MemoryLeft memory_left landings_left tag verdict old h.landed h.lands)
      (unless_left MemoryLeft memory_left on_hold device h.landed new h.looks)
  told_queue_left host.Drop device on_hold old new h =
      same_left old.memory new.memory (ap (λ (q : HostedQueue). q.memory) h)
  told_queue_left host.Hold device on_hold old new h =
      same_left old.memory new.memory (ap (λ (q : HostedQueue). q.memory) h)
  told_queue_left host.Release device on_hold old new h = look_left MemoryLeft memory_left device old new h

  told_left : (said : HostEvent) (m n : Memory) (d d' : DeviceState) → Told said m n d d' → K m n
  told_left said m n d d' h =
      told_queue_left said h.before.device h.before.on_hold (queue_of m d.window h.before)
      (queue_of n d'.window h.after) h.does.queue

  notified_device_left : (q : Option ℕ) (m n : Memory) (d d' : DeviceState) → device.ServesNotified q m n d d' → K m n
  notified_device_left (Some q) m n d d' h = serves_left d.model q m n d.window d'.window d'.model h
  notified_device_left None m n d d' h = same_left m n h.0

  alters_left : {A : Type 0} (what : DeviceEvent A) (m n : Memory) (d d' : DeviceState) → Alters what m n d d'
      → K m n
  alters_left (event.Read offset width) m n d d' h = same_left m n h.memory
  alters_left (event.Supply bytes) m n d d' h =
      serves_left (supplied_model d.model bytes) 0 m n d.window d'.window d'.model h
  alters_left _ m n d d' h = absurd h

  does_if_left : (cause : Bool) (Changes : Memory → Memory → DeviceState → DeviceState → Type 0) (i : ℕ)
      (m n : Memory) (old new : List DeviceState) → ((d d' : DeviceState) → Changes m n d d' → K m n)
      → DoesIf cause Changes i m n old new → K m n
  does_if_left true Changes i m n old new left_so h = left_so h.before h.after h.changes
  does_if_left false Changes i m n old new left_so h = same_left m n h.memory

  at_left : {A : Type 0} (what : DeviceEvent A) (i : ℕ) (m n : Memory) (old new : List DeviceState)
      → DoesTo what i m n old new → K m n
  at_left (event.Plug spec) i m n old new h = same_left m n h.memory
  at_left (event.SetLink up) i m n old new h = same_left m n h.memory
  at_left (event.Resize cols rows) i m n old new h = same_left m n h.memory
  at_left (event.Receive frame) i m n old new h =
      does_if_left (is_none (receive_refusal frame (card_at i old))) (Receives frame) i m n old new
      (λ d d' x. serves_left (with_card (with_frame frame) d.model) 0 m n d.window d'.window d'.model x) h
  at_left event.TakeSent i m n old new h =
      does_if_left (is_some (sent_by i old)) TakesSent i m n old new
      (λ d d' x. notified_device_left (device.freed_by d) m n (device.with_model without_sent d) d' x) h
  at_left event.DropSent i m n old new h =
      does_if_left (is_some (sent_by i old)) TakesSent i m n old new
      (λ d d' x. notified_device_left (device.freed_by d) m n (device.with_model without_sent d) d' x) h
  at_left {A} (event.Read offset width) i m n old new h =
      alters_left {A = A} (event.Read offset width) m n h.before h.after h.changes
  at_left (event.Write offset width value) i m n old new h =
      does_if_left (not (waits_there i offset old)) (device.Writes offset width value) i m n old new
      (λ d d' x. notified_device_left (device.notified_by (action_of offset width value d.window)) m n
      (device.device_written offset width value m d) d' x) h
  at_left (event.Host said) i m n old new h =
      does_if_left (unwrap_or (has_effect_at i said old) false) (Told said) i m n old new
      (λ d d' x. told_left said m n d d' x) h
  at_left {A} (event.Supply bytes) i m n old new h =
      alters_left {A = A} (event.Supply bytes) m n h.before h.after h.changes

  restoring_left : {A : Type 0} (state : SlotState) (bytes : List ℕ) (outcome : Outcome A) (works : Bool) → RestoresUnless works state bytes outcome → K state.memory outcome.state.memory
  restoring_left state bytes outcome true h = state_left state outcome _ h refl
  restoring_left state bytes outcome false (inl taken) =
      same_left state.memory outcome.state.memory
      (ap (λ (slot : BoardSlot). slot.memory) taken.0.restored.takes_up.is)
  restoring_left state bytes outcome false (inr refused) = state_left state outcome _ refused.1 refl

  gives_left : {A : Type 0} (state : SlotState) (what : EventKind A) (before after : Health) (outcome : Outcome A)
      → IsForDevices what → GivesOverImage state what before after outcome → K state.memory outcome.state.memory
  gives_left state (Write window offset width value) before after outcome own h =
      subst (λ (m : Memory). K m outcome.state.memory) (wrote_memory window offset width value state)
      (finishes_left (task_at window offset width value state) (with_write window offset width value state)
      before after outcome h)
  gives_left {A} state (MemRead addr len) before after outcome own h =
      subst (λ (o : Outcome A). K state.memory o.state.memory) (sym h.alike)
      (by_inside _ state _ _ (left.none state.memory))
  gives_left state (MemWrite addr bytes) before after outcome own h = absurd own
  gives_left state (Input bytes) before after outcome own h =
      notified_left _ 0 (queue_at 0 state.console) h.notified.ending state.memory outcome.state.memory
      state.console outcome.state.console _ _ h.notified.notified
  gives_left state (Restore bytes) before after outcome own h = restoring_left state bytes outcome (are_at_work state.devices) h.alike
  gives_left {A} state (kind.Device n what) before after outcome own h =
      by_image n what state before after outcome (image_asked n what state)
      (λ none given. of_device n what state (λ (o : Outcome A). K state.memory o.state.memory) before after outcome given
      (left.none state.memory) (λ reply found step. at_left what n state.memory outcome.state.memory state.devices
      outcome.state.devices step.at))
      (λ disk asked served. let s = served.serves in
      notified_left _ 0 (queue_at 0 s.device.window) s.serves.ending state.memory outcome.state.memory
      s.device.window s.window _ _ s.serves.notified) h
  gives_left state _ before after outcome own h = state_left state outcome _ h.alike refl

  cut_left : {A : Type 0} (task : Task) (state : SlotState) (before after : Health) (outcome : Outcome A)
      → IsCutShort task state before after outcome → K state.memory outcome.state.memory
  cut_left Nothing state before after outcome h = absurd h
  cut_left (Serve service.Block) state before after outcome h =
      notified_left _ 0 (queue_at 0 state.block) h.service.notified.ending state.memory outcome.state.memory
      state.block outcome.state.block _ _ h.service.notified.notified
  cut_left (Serve service.Receive) state before after outcome h = absurd h
  cut_left (Serve service.Transmit) state before after outcome h =
      notified_left _ 1 (queue_at 1 state.console) _ state.memory outcome.state.memory state.console
      outcome.state.console _ _ h.notified
  cut_left (Serve (service.Further n q)) state before after outcome h = absurd h
  cut_left (PutOut byte) state before after outcome h = state_left state outcome _ h.alike refl

  refused_left : {A : Type 0} (state : SlotState) (what : EventKind A) (before after : Health)
      (outcome : Outcome A) → IsRefused state what before after outcome → K state.memory outcome.state.memory
  refused_left state (Write window offset width value) before after outcome h =
      subst (λ (m : Memory). K m outcome.state.memory) (wrote_memory window offset width value state)
      (cut_left (task_at window offset width value state) (with_write window offset width value state)
      before after outcome h)
  refused_left state (MemRead addr len) before after outcome h = state_left state outcome _ h.unchanged refl
  refused_left state (kind.Device n what) before after outcome h =
      refused_by_image n what state before after outcome (image_asked n what state)
      (λ none unmet. state_left state outcome _ unmet.unchanged refl)
      (λ disk asked failed. let s = failed.service.serves in
      notified_left _ 0 (queue_at 0 s.device.window) s.serves.ending state.memory outcome.state.memory
      s.device.window s.window _ _ s.serves.notified) h
  refused_left state _ before after outcome h = absurd h

  over_image_left : {A : Type 0} (state : SlotState) (what : EventKind A) (before after : Health)
      (outcome : Outcome A) → IsForDevices what → MayGiveOverImage state what before after outcome
      → K state.memory outcome.state.memory
  over_image_left state what before after outcome own (inl served) =
      gives_left state what before after outcome own served.alike
  over_image_left state what before after outcome own (inr refused) =
      refused_left state what before after outcome refused

  -- whoever has the guest's disk
  on_host_left : {A : Type 0} (state : SlotState) (what : EventKind A) (health : Health) (outcome : Outcome A)
      → IsForDevices what → Way (λ (o : Outcome A). MayGiveOverImage state what health health o) state what outcome
      → K state.memory outcome.state.memory
  on_host_left state what health outcome own (Passes is free quiet h) =
      over_image_left state what health health outcome own h
  on_host_left state what health outcome own (Looks rings looks h) =
      subst (λ (m : Memory). K m outcome.state.memory) (readied_memory what state)
      (looks_left (readied what state) outcome.state looks)
  on_host_left state what health outcome own (Says said is says h) =
      told_queue_left said says.before.disk.device says.before.disk.on_hold (unit_queue state.memory says.before)
      (unit_queue outcome.state.memory says.after) says.does.queue
  on_host_left state what health outcome own (Waits waits h) = state_left state outcome _ h refl
  on_host_left state what health outcome own (Rests said is h) = state_left state outcome _ h refl

  -- the law
  pub event_left : {A : Type 0} (state : SlotState) (what : EventKind A) (before after : Health)
      (outcome : Outcome A) → IsForDevices what → MayGive state what before after outcome
      → K state.memory outcome.state.memory
  event_left state what before after outcome own h =
      by_disk state.host state what before after outcome
      (λ given. over_image_left state what before after outcome own given)
      (λ image ways. on_host_left state what before outcome own ways) h
