-- A ring is made as before, however its disk serves it: of the same size, areas and features.
use Rattle.std.proofs.Common.{◌≡◌, ◌∙◌, ℕ, Bool, true, false, Option, Some, None, List, [], ◌∷◌, refl, ap}
use Rattle.chain.specs.declared.segment.Buffer.{Buffer}
use Rattle.chain.specs.declared.segment.Segment.{Segment}
use Rattle.chain.specs.Service.{Entry}
use Rattle.mmio_window.specs.declared.queue.Queue.{Queue}
use Rattle.mmio_window.specs.declared.queue.Queue.TheVariants.{Split, Packed}
use Rattle.mmio_window.specs.Queue.{landed, launched, made_as}
use Rattle.shared_memory.specs.Sightings.{Sightings}
use Rattle.block_device.specs.declared.device.BlockDevice.{BlockDevice}
use Rattle.block_device.specs.declared.operation.HostEvent.{HostEvent}
use Rattle.block_device.specs.declared.operation.HostEvent.TheVariants.{Complete, Drop, Hold, Release}
use Rattle.block_device.specs.declared.operation.Verdict.{Verdict}
use Rattle.block_device.specs.declared.request.Request.{Request}
use Rattle.block_device.specs.Hosting.{hosted_device}
use Rattle.racing_service.specs.declared.stage.Stage.{Stage}
use Rattle.racing_service.specs.declared.stage.Stage.TheVariants.{First, Next, Again}
use Rattle.racing_service.specs.Service.{Standing}
use Rattle.racing_disk.specs.Looking.{FindsOneToAnswer, FindsRequest}
use Rattle.racing_disk.specs.Telling.{IsLeft}
use Rattle.racing_window.specs.Queue.{racing_queue}
use Rattle.racing_service.proofs.Moving.{closing_keeps, refused_keeps, service_keeps}
use Rattle.racing_window.proofs.Staying.{made_past, queue_moves}
use Rattle.racing_hosted_disk.specs.declared.look.LookEnding.{LookEnding}
use Rattle.racing_hosted_disk.specs.declared.look.LookEnding.TheVariants.{Served, Full, Limited, Idle}
use Rattle.racing_hosted_disk.specs.declared.look.LookLimits.{LookLimits}
use Rattle.racing_hosted_disk.specs.Disk.{RacingHostedDisk}
use Rattle.racing_hosted_disk.specs.Looking.{AreLooks, AsksIn, EndsLooks, FindsIn, Look, LooksUnless, Place, ServesDisk, ServesLooks, stage_behind}
use Rattle.block_device.specs.Tags.{InFlight}
use Rattle.racing_hosted_disk.specs.Told.{DoesAsTold, Lands, QueueTold}

-- ---- each move

made_launched : (queue : Queue) (entry : Entry) → made_as (launched queue entry) ≡ made_as queue
made_launched (Split ring) entry = refl
made_launched (Packed ring) entry = refl

made_landed : (queue : Queue) (entry : Entry) → made_as (landed queue entry) ≡ made_as queue
made_landed (Split ring) entry = refl
made_landed (Packed ring) entry = refl

abbrev At : Type 0
At = Standing Queue (Unit {0})

abbrev Made : At → At → Type 0
Made a b = made_as b.ring ≡ made_as a.ring

module _ {T : Type 0} (entry_of : T → Entry) (IsTaken : Queue → T → Type 0) (device : BlockDevice) (races : Bool) (stage : Stage)
    (most : ℕ) (stable : Bool) where
  -- up to a request
  made_up_to : (a at : At) (buffers : List Buffer) (entry : Entry) (request : Request) (kept : List Segment) (wanted : Bool)
      → FindsRequest racing_queue device races stage most a at buffers entry request kept wanted → Made a at
  made_up_to a at buffers entry request kept wanted finds =
      (refused_keeps queue_moves (hosted_device device) races
      (λ state readable buffers request. IsLeft device readable buffers request kept) stage most a at buffers entry request
      wanted finds.service).stays

  -- ---- a look

  made_asks : (here : InFlight T) (a b : At) (wanted : Bool)
      → AsksIn racing_queue entry_of IsTaken device races stage most stable here a b wanted → Made a b
  made_asks here a b wanted asks =
      let finds = asks.finds in
      let at = finds.at in
      let ring : b.ring ≡ launched at.ring (entry_of here.flight.token) = ap (λ (s : At). s.ring) finds.stands in
      ap made_as ring ∙ made_launched at.ring (entry_of here.flight.token)
      ∙ made_up_to a at asks.buffers (entry_of here.flight.token) finds.request finds.kept wanted finds.finds

  made_answers : (a b : At) (wanted : Bool) → FindsOneToAnswer racing_queue device races stage most a b wanted → Made a b
  made_answers a b wanted finds =
      let at = finds.at in
      let left = finds.finds.service.leaves.serves.leaves in
      let answer = finds.answered left.refuses.readable left.refuses.refuses in
      ap made_as answer.past ∙ made_past at.ring finds.entry
      ∙ made_up_to a at finds.buffers finds.entry finds.request finds.kept wanted finds.finds

  made_finds : (asks : Option (InFlight T)) (a b : At) (wanted : Bool)
      → FindsIn racing_queue entry_of IsTaken device races stage most stable asks a b wanted → Made a b
  made_finds (Some here) a b wanted finds = made_asks here a b wanted finds
  made_finds None a b wanted finds = made_answers a b wanted finds

module _ {T : Type 0} (entry_of : T → Entry) (IsTaken : Queue → T → Type 0) (device : BlockDevice) (races : Bool)
    (limits : LookLimits) (stable : Bool) where
  -- ---- looks, one after another

  made_looks : (stage : Stage) (looks : List (Look Queue T)) (a b : Place Queue T)
      → AreLooks racing_queue entry_of IsTaken device races limits stable stage a looks b → Made a.service b.service
  made_looks stage [] a b are = ap (λ (p : Place Queue T). made_as p.service.ring) are
  made_looks stage (l ∷ looks) a b are =
      made_looks Next looks l.after b are.1
      ∙ made_finds entry_of IsTaken device races stage limits.rounds stable l.asks a.service l.after.service l.wanted are.0.finds

  made_ends : (stage : Stage) (ending : LookEnding) (looks : List (Look Queue T)) (a b : Place Queue T) (wanted : Bool)
      → EndsLooks racing_queue entry_of IsTaken device races limits stable stage ending looks a b wanted → Made a.service b.service
  made_ends stage (Served ending) looks a b wanted ends =
      (service_keeps queue_moves (hosted_device device) races (stage_behind stage looks) limits.rounds a.service b.service ending
      ends.asked ends.service).stays
  made_ends stage Full looks a b wanted ends = ap (λ (p : Place Queue T). made_as p.service.ring) ends.stands
  made_ends stage Limited looks a b wanted ends =
      (closing_keeps queue_moves (hosted_device device) races a.service b.service ends.asked ends.closes).stays
  made_ends stage Idle looks a b wanted ends = absurd ends

  made_serves : (stage : Stage) (a b : Place Queue T) (ending : LookEnding) (wanted : Bool)
      → ServesLooks racing_queue entry_of IsTaken device races limits stable stage a b ending wanted → Made a.service b.service
  made_serves stage a b ending wanted serves =
      made_ends stage ending serves.looks serves.at b wanted serves.ends
      ∙ made_looks stage serves.looks a serves.at serves.are

  made_unless : (on_hold : Bool) (stage : Stage) (a b : Place Queue T) (ending : LookEnding) (wanted : Bool)
      → LooksUnless racing_queue entry_of IsTaken device races limits stable on_hold stage a b ending wanted
      → Made a.service b.service
  made_unless true stage a b ending wanted idle = ap (λ (p : Place Queue T). made_as p.service.ring) idle.stands
  made_unless false stage a b ending wanted serves = made_serves stage a b ending wanted serves

  -- ---- what the host says

  made_lands : (tag : ℕ) (verdict : Verdict) (a b : Place Queue T) (wanted : Bool)
      → Lands racing_queue entry_of device races tag verdict a b wanted → Made a.service b.service
  made_lands tag verdict a b wanted lands =
      (closing_keeps queue_moves (hosted_device device) races _ b.service wanted lands.closes).stays
      ∙ ap made_as lands.back.landed ∙ made_landed a.service.ring (entry_of lands.here.flight.token)

  made_told : (said : HostEvent) (on_hold : Bool) (a b : Place Queue T) (ending : LookEnding) (wanted : Bool)
      → QueueTold racing_queue entry_of IsTaken device races limits stable said on_hold a b ending wanted
      → Made a.service b.service
  made_told (Complete tag verdict) on_hold a b ending wanted told =
      made_unless on_hold Again told.landed b ending told.asked told.looks
      ∙ made_lands tag verdict a told.landed told.before told.lands
  made_told Drop on_hold a b ending wanted told = ap (λ (p : Place Queue T). made_as p.service.ring) told.stands
  made_told Hold on_hold a b ending wanted told = ap (λ (p : Place Queue T). made_as p.service.ring) told.stands
  made_told Release on_hold a b ending wanted told = made_serves First a b ending wanted told

-- ---- the disk

module _ {T : Type 0} (entry_of : T → Entry) (IsTaken : Queue → T → Type 0) (races : Bool) (limits : LookLimits) (stable : Bool)
    (disk disk' : RacingHostedDisk T) (old new : Sightings) (queue last : Queue) (ending : LookEnding) (wanted : Bool) where
  pub disk_made : ServesDisk racing_queue entry_of IsTaken races limits stable disk old new queue last disk' ending wanted
      → made_as last ≡ made_as queue
  disk_made serves =
      made_unless entry_of IsTaken disk.device races limits stable disk.on_hold First _ _ ending wanted serves.looks

  pub told_made : (said : HostEvent)
      → DoesAsTold racing_queue entry_of IsTaken races limits stable said disk old new queue last disk' ending wanted
      → made_as last ≡ made_as queue
  told_made said does =
      made_told entry_of IsTaken disk.device races limits stable said disk.on_hold _ _ ending wanted does.queue
