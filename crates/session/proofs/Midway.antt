-- A service that is paused: its pieces so far, as one part of the service of the guest that is alone.
use Rattle.std.proofs.Common.{◌≡◌, ℕ, zero, suc, false, Option, Some, None, List, [], ◌++◌, refl, sym, ap, subst, ◌∙◌, inl, inr, append_assoc, append-nil, arith}
use Rattle.std.specs.List.{slice_get}
use Rattle.std.proofs.lemmas.Option.{same_Some}
use Rattle.guest_memory.specs.Memory.{Memory}
use Rattle.chain.specs.declared.budget.Budget.{Budget}
use Rattle.chain.specs.declared.budget.Progress.{Progress}
use Rattle.chain.specs.declared.budget.Progress.TheVariants as progress
use Rattle.chain.specs.Service.{Given}
use Rattle.chain.proofs.Simulating.{DoesAs}
use Rattle.mmio_window.specs.declared.stage.Stage.TheVariants.{First, Next}
use Rattle.mmio_window.specs.declared.stage.Stage.{Stage}
use Rattle.mmio_window.specs.Pieces.{ServesTo}
use Rattle.mmio_window.specs.Window.{WindowState, queue_at}
use Rattle.mmio_window.proofs.Underway.{OnItsWay, again, ended, first}
use Rattle.block_device.specs.declared.device.BlockDevice.{BlockDevice}
use Rattle.block_device.specs.Device.{exact_device}
use Rattle.console_device.specs.Device.{receive, exact_transmit}
use Rattle.console_device.specs.Input.{fitting}
use Rattle.device_list.specs.Device.{DeviceState, ServesDevice}
use Rattle.device_list.specs.List.{At, image_at}
use Rattle.device_list.specs.Model.{Block as BlockModel, Console, Entropy, Image, ModelState, Network, image_of}
use Rattle.device_list.proofs.Pieces.{DevicesUnderWay, ModelUnderWay, devices_again, devices_ended, devices_first}
use Rattle.board.specs.declared.event.DeviceEvent.{DeviceEvent}
use Rattle.board.specs.declared.event.EventKind.{EventKind}
use Rattle.board.specs.declared.event.EventKind.TheVariants.{Write, Input, Device}
use Rattle.board.specs.declared.pause.Pause.{Pause}
use Rattle.board.specs.declared.pause.Service.{Service}
use Rattle.board.specs.declared.pause.Service.TheVariants.{Block, Receive, Transmit, Further}
use Rattle.board.specs.declared.reply.Reply.{Reply}
use Rattle.board.specs.declared.reply.Reply.TheVariants.{Done, Took}
use Rattle.board.specs.Image.{Health, sectors_of, disk_with}
use Rattle.board.specs.Devices.{device_asks}
use Rattle.board.specs.ImageDisks.{GivesAtDevice, device_readied, image_asked, image_device, image_disk_of, image_served}
use Rattle.hosted_disk.specs.Disk.{HostedDisk}
use Rattle.board.specs.Hosting.{has_part, is_block_task, notifies_block}
use Rattle.board.specs.Machine.{GivesBy, GivesOverImage, IsNext, action_at, at_rest, task_at, with_input, with_write}
use Rattle.board.specs.Outcome.{Outcome, replies}
use Rattle.board.specs.Pausing.{IsAnyImageDiskPiece, IsBlockPiece, IsFurtherPiece, IsImageDiskPiece, IsPiece, IsPieceAtDevice, IsReceivePiece, IsTransmitPiece, asked, asked_by, asked_over_image, is_hosts, readied, reply_by, reply_of}
use Rattle.board.specs.Slot.{SlotState}
use Rattle.board.specs.declared.task.Task.{Task}
use Rattle.board.specs.declared.task.Task.TheVariants.{Nothing, Serve, PutOut}
use Rattle.board.specs.Task.{Finishes, IsBlockService, IsReceiveService, IsTransmitService, device_of}
use Rattle.board.proofs.Alike.{PieceAs, piece_as}
use Rattle.board.proofs.AtDevice.{asked_hosted, image_found, served_other}
use Rattle.board.proofs.Guests.{Rested, rested}
use Rattle.board.proofs.OnHost.{is_beside, passes}
use Rattle.board.proofs.FurtherPieces.{Asking, asking, gives_at}
use Rattle.board.proofs.Lists.{get_set}
use Rattle.board.proofs.Whole.{came, none_further}
use Rattle.session.proofs.ImageReplies.{asked_readied, done_by}
use Rattle.session.proofs.ImageWays.{ImageEnded, ImageWay, image_again, image_ended, image_first, image_there, silent_both}
use Rattle.session.proofs.Parts.{asks_freely, readied_host, serves_itself}

-- ---- the block device, from its image at rest

pub record BlockWay (mid now : SlotState) (out : List ℕ) : Type 0 where
  pub health : Health
  pub way : OnItsWay (exact_device (device_of mid)) 0 mid.memory now.memory mid.block now.block
      (disk_with mid.extent at_rest) (disk_with now.extent health)
  pub is : now ≡ record mid { memory = now.memory; extent = now.extent; block = now.block }
  pub size : sectors_of now.extent ≡ sectors_of mid.extent
  pub silent : out ≡ []

same_device : (a b : SlotState) → sectors_of a.extent ≡ sectors_of b.extent → a.read_only ≡ b.read_only
    → a.identity ≡ b.identity → device_of a ≡ device_of b
same_device a b x y z = rw (x, y, z) refl

abbrev with_block : SlotState → SlotState → SlotState
with_block mid new = record mid { memory = new.memory; extent = new.extent; block = new.block }

record BlockEnded (A : Type 0) (mid new : SlotState) (out : List ℕ) : Type 0 where
  health : Health
  service : IsBlockService {A = A} (exact_device (device_of mid)) mid at_rest health (came new Done out)

same_came : {A : Type 0} (s t : SlotState) (reply : Reply A) (x y : List ℕ) → s ≡ t → x ≡ y
    → came s reply x ≡ came t reply y
same_came s t reply x y a b = rw (a, b) refl

-- ---- the receive queue

pub record ReceiveWay (mid now : SlotState) (out : List ℕ) : Type 0 where
  pub way : OnItsWay receive 0 mid.memory now.memory mid.console now.console mid.pending now.pending
  pub is : now ≡ record mid { memory = now.memory; console = now.console; pending = now.pending }
  pub silent : out ≡ []

abbrev with_receive : SlotState → SlotState → SlotState
with_receive mid new = record mid { memory = new.memory; console = new.console; pending = new.pending }

-- ---- the transmit queue, whose pieces go out one behind the other

pub record TransmitWay (mid now : SlotState) (out : List ℕ) : Type 0 where
  pub way : OnItsWay exact_transmit 1 mid.memory now.memory mid.console now.console [] out
  pub is : now ≡ record mid { memory = now.memory; console = now.console }

abbrev with_transmit : SlotState → SlotState → SlotState
with_transmit mid new = record mid { memory = new.memory; console = new.console }

-- what stands behind what went out before
abbrev Ahead : List ℕ → List ℕ → List ℕ → Type 0
Ahead out sent all = all ≡ out ++ sent

transmit_ahead : (out : List ℕ) → DoesAs exact_transmit exact_transmit (Ahead out)
transmit_ahead out = record {
  takes = λ sent all alike. refl;
  gives = λ sent all readable w given alike h. record {
    state = all ++ readable;
    alike = ap (λ l. l ++ readable) alike ∙ append_assoc out sent readable
        ∙ ap (λ l. out ++ l) (sym (ap (λ (g : Given (List ℕ)). g.state) h));
    gives = ap (λ (g : Given (List ℕ)). record { state = all ++ readable; written = g.written }) h;
  };
  lacks_memory = λ sent all readable w alike h. h;
}

transmit_next : (budget : Budget) (progress : Progress) (now : SlotState) (out : List ℕ)
    (new : SlotState) (output : List ℕ)
    → ServesTo Next exact_transmit budget 1 (queue_at 1 now.console) progress now.memory new.memory
    now.console new.console [] output
    → ServesTo Next exact_transmit budget 1 (queue_at 1 now.console) progress now.memory new.memory
    now.console new.console out (out ++ output)
transmit_next budget progress now out new output h =
    let p : PieceAs exact_transmit exact_transmit (Ahead out) (transmit_ahead out) budget Next 1
    (queue_at 1 now.console) progress now.memory new.memory now.console new.console output out =
    piece_as exact_transmit exact_transmit (Ahead out) (transmit_ahead out) budget Next 1
    (queue_at 1 now.console) progress now.memory new.memory now.console new.console [] output out
    (sym (append-nil out)) h in
    subst (λ (all : List ℕ). ServesTo Next exact_transmit budget 1 (queue_at 1 now.console) progress
    now.memory new.memory now.console new.console out all) p.alike p.served

-- ---- a queue of a further device

pub record FurtherWay (n q : ℕ) (mid now : SlotState) (out : List ℕ) : Type 0 where
  pub way : DevicesUnderWay n q mid.memory now.memory mid.devices now.devices
  pub is : now ≡ record mid { memory = now.memory; devices = now.devices }
  pub silent : out ≡ []

abbrev with_further : SlotState → SlotState → SlotState
with_further mid new = record mid { memory = new.memory; devices = new.devices }

-- at its end it was served
record FurtherEnded (n q : ℕ) (mid new : SlotState) (out : List ℕ) : Type 0 where
  served : At (ServesDevice q) n mid.memory new.memory mid.devices new.devices
  is : new ≡ record mid { memory = new.memory; devices = new.devices }
  silent : out ≡ []

-- ---- the first piece of a service

module _ {budget : Budget} {mid new : SlotState} {before after : Health} {output : List ℕ} where
  block_first : IsBlockPiece (exact_device (device_of mid)) First budget progress.More mid
      before after new output
      → BlockWay mid new output
  block_first h =
      let r = rested (device_of mid) First budget progress.More (queue_at 0 mid.block) mid.memory new.memory mid.block
      new.block mid.extent new.extent before after at_rest h.served in
      record {
        health = r.health;
        way = first (exact_device (device_of mid)) 0 budget r.served;
        is = h.is;
        size = h.size;
        silent = h.silent;
      }

  receive_first : IsReceivePiece First budget progress.More mid before after new output
      → ReceiveWay mid new output
  receive_first h = record { way = first receive 0 budget h.served; is = h.is; silent = h.silent }

  transmit_first : IsTransmitPiece First budget progress.More mid before after new output
      → TransmitWay mid new output
  transmit_first h = record { way = first exact_transmit 1 budget h.served; is = h.is }

  further_first : (n q : ℕ) → IsFurtherPiece n q First budget progress.More mid before after new output
      → FurtherWay n q mid new output
  further_first n q h = record {
    way = devices_first budget n q mid.memory new.memory mid.devices new.devices h.served;
    is = h.is;
    silent = h.silent;
  }

-- ---- a piece that goes on

module _ {budget : Budget} {mid now new : SlotState} {before after : Health} {out output : List ℕ} where
  -- of the device as it began
  block_next : (progress : Progress) (w : BlockWay mid now out)
      → IsBlockPiece (exact_device (device_of now)) Next budget progress now before after new output
      → Rested (device_of mid) Next budget progress (queue_at 0 now.block) now.memory new.memory now.block new.block
      now.extent new.extent w.health
  block_next progress w h =
      let same : device_of now ≡ device_of mid =
      same_device now mid w.size (ap (λ (s : SlotState). s.read_only) w.is)
      (ap (λ (s : SlotState). s.identity) w.is) in
      rested (device_of mid) Next budget progress (queue_at 0 now.block) now.memory new.memory now.block new.block
      now.extent new.extent before after w.health
      (subst (λ (d : BlockDevice). ServesTo Next (exact_device d) budget 0 (queue_at 0 now.block) progress
      now.memory new.memory now.block new.block (disk_with now.extent before)
      (disk_with new.extent after)) same h.served)

  block_again : BlockWay mid now out
      → IsBlockPiece (exact_device (device_of now)) Next budget progress.More now before after new output
      → BlockWay mid new (out ++ output)
  block_again w h =
      let r = block_next progress.More w h in
      record {
        health = r.health;
        way = again (exact_device (device_of mid)) 0 budget w.way r.served;
        is = h.is ∙ ap (λ (s : SlotState). with_block s new) w.is;
        size = h.size ∙ w.size;
        silent = silent_both out output w.silent h.silent;
      }

  receive_again : ReceiveWay mid now out
      → IsReceivePiece Next budget progress.More now before after new output
      → ReceiveWay mid new (out ++ output)
  receive_again w h = record {
    way = again receive 0 budget w.way h.served;
    is = h.is ∙ ap (λ (s : SlotState). with_receive s new) w.is;
    silent = silent_both out output w.silent h.silent;
  }

  transmit_again : TransmitWay mid now out
      → IsTransmitPiece Next budget progress.More now before after new output
      → TransmitWay mid new (out ++ output)
  transmit_again w h = record {
    way = again exact_transmit 1 budget w.way
        (transmit_next budget progress.More now out new output h.served);
    is = h.is ∙ ap (λ (s : SlotState). with_transmit s new) w.is;
  }

  further_again : (n q : ℕ) → FurtherWay n q mid now out
      → IsFurtherPiece n q Next budget progress.More now before after new output
      → FurtherWay n q mid new (out ++ output)
  further_again n q w h = record {
    way = devices_again budget n q mid.memory now.memory new.memory mid.devices now.devices new.devices w.way
        h.served;
    is = h.is ∙ ap (λ (s : SlotState). with_further s new) w.is;
    silent = silent_both out output w.silent h.silent;
  }

  -- ---- and the last one

  block_ended : (A : Type 0) → BlockWay mid now out
      → IsBlockPiece (exact_device (device_of now)) Next budget progress.Done now before after new output
      → BlockEnded A mid new (out ++ output)
  block_ended A w h =
      let r = block_next progress.Done w h in
      record {
        health = r.health;
        service = record {
          notified = ended (exact_device (device_of mid)) 0 budget w.way r.served;
          is = same_came new (with_block mid new) Done (out ++ output) [] (h.is
              ∙ ap (λ (s : SlotState). with_block s new) w.is) (silent_both out output w.silent h.silent);
        };
      }

  receive_ended : {A : Type 0} (reply : Reply A) → ReceiveWay mid now out
      → IsReceivePiece Next budget progress.Done now before after new output
      → IsReceiveService mid reply at_rest at_rest (came new reply (out ++ output))
  receive_ended reply w h = record {
    notified = ended receive 0 budget w.way h.served;
    is = same_came new (with_receive mid new) reply (out ++ output) [] (h.is
        ∙ ap (λ (s : SlotState). with_receive s new) w.is) (silent_both out output w.silent h.silent);
    image = refl;
  }

  transmit_ended : (A : Type 0) → TransmitWay mid now out
      → IsTransmitPiece Next budget progress.Done now before after new output
      → IsTransmitService {A = A} mid at_rest at_rest (came new Done (out ++ output))
  transmit_ended A w h = record {
    notified = ended exact_transmit 1 budget w.way
        (transmit_next budget progress.Done now out new output h.served);
    is = same_came new (with_transmit mid new) Done (out ++ output) (out ++ output) (h.is
        ∙ ap (λ (s : SlotState). with_transmit s new) w.is) refl;
    image = refl;
  }

  further_ended : (n q : ℕ) → FurtherWay n q mid now out
      → IsFurtherPiece n q Next budget progress.Done now before after new output
      → FurtherEnded n q mid new (out ++ output)
  further_ended n q w h = record {
    served = devices_ended budget n q mid.memory now.memory new.memory mid.devices now.devices new.devices w.way
        h.served;
    is = h.is ∙ ap (λ (s : SlotState). with_further s new) w.is;
    silent = silent_both out output w.silent h.silent;
  }

-- ---- any service

-- of a further device, by the disk over the image that serves it, if one does
abbrev WayAt : Option BlockDevice → ℕ → ℕ → SlotState → SlotState → List ℕ → Type 0
WayAt None n q mid now out = FurtherWay n q mid now out
WayAt (Some disk) n q mid now out = ImageWay n disk mid now out

abbrev pub Way : Service → SlotState → SlotState → List ℕ → Type 0
Way Block mid now out = BlockWay mid now out
Way Receive mid now out = ReceiveWay mid now out
Way Transmit mid now out = TransmitWay mid now out
Way (Further n q) mid now out = WayAt (image_served (Further n q) mid) n q mid now out

-- it is one in which no call failed
exact_only : (n : ℕ) (disk : BlockDevice) (stage : Stage) (budget : Budget) (progress : Progress) (old : SlotState)
    (before after : Health) (new : SlotState) (output : List ℕ) → after.failures ≡ before.failures
    → IsAnyImageDiskPiece n disk stage budget progress old before after new output
    → IsImageDiskPiece (exact_device (image_device disk)) n disk stage budget progress old before after new output
exact_only n disk stage budget progress old before after new output stood (inl h) = h.0
exact_only n disk stage budget progress old before after new output stood (inr h) =
    let rose = h.1 in absurd (omega (arith, rose, stood))

way_first_at : (found : Option BlockDevice) (n q : ℕ) (budget : Budget) (mid : SlotState) (before after : Health)
    (new : SlotState) (output : List ℕ) → after.failures ≡ before.failures
    → IsPieceAtDevice found n q First budget progress.More mid before after new output → WayAt found n q mid new output
way_first_at None n q budget mid before after new output stood h = further_first n q h
way_first_at (Some disk) n q budget mid before after new output stood h =
    image_first (exact_only n disk First budget progress.More mid before after new output stood h)

pub way_first : (service : Service) (budget : Budget) (mid : SlotState) (before after : Health)
    (new : SlotState) (output : List ℕ) → after.failures ≡ before.failures
    → IsPiece service First budget progress.More mid before after new output → Way service mid new output
way_first Block budget mid before after new output stood (inl h) =
    block_first h.piece
way_first Block budget mid before after new output stood (inr h) = let rose = h.failures in
    absurd (omega (arith, rose, stood))
way_first Receive budget mid before after new output stood h =
    receive_first h
way_first Transmit budget mid before after new output stood h =
    transmit_first h
way_first (Further n q) budget mid before after new output stood h =
    way_first_at (image_served (Further n q) mid) n q budget mid before after new output stood h

-- the disk over the image that serves goes on to serve

under_way : (model model' : ModelState) (q : ℕ) (m m' : Memory) (w w' : WindowState)
    → ModelUnderWay model q m m' w w' model' → image_of model' ≡ None
under_way (Entropy pool) model' zero m m' w w' h = ap image_of h.is
under_way (Entropy pool) model' (suc q) m m' w w' h = absurd h
under_way (Network card) model' q m m' w w' h = ap image_of h.is
under_way (BlockModel disk) model' q m m' w w' h = ap image_of h.is
under_way (Console terminal) model' q m m' w w' h = ap image_of h.is
under_way (Image disk) model' q m m' w w' h = absurd h

same_served : (n q : ℕ) (now mid : SlotState) → now.host ≡ mid.host → now.spare ≡ mid.spare
    → image_at n now.devices ≡ image_at n mid.devices → image_served (Further n q) now ≡ image_served (Further n q) mid
same_served n zero now mid host spare disk =
    ap (λ (h : Option HostedDisk). image_disk_of h now.spare (image_at n now.devices)) host
    ∙ ap (λ (s : ℕ). image_disk_of mid.host s (image_at n now.devices)) spare
    ∙ ap (λ (d : Option BlockDevice). image_disk_of mid.host mid.spare d) disk
same_served n (suc q) now mid host spare disk = refl

still_served : (found : Option BlockDevice) (n q : ℕ) (mid now : SlotState) (out : List ℕ)
    → image_served (Further n q) mid ≡ found → WayAt found n q mid now out → image_served (Further n q) now ≡ found
still_served None n q mid now out is w =
    let at = w.way in
    let there : slice_get now.devices n ≡ Some at.after =
    ap (λ (ds : List DeviceState). slice_get ds n) at.is ∙ get_set mid.devices n at.before at.after at.there in
    served_other n q now (image_found n now.devices at.after there
    ∙ under_way at.before.model at.after.model q mid.memory now.memory at.before.window at.after.window at.changes)
still_served (Some disk) n q mid now out is w =
    same_served n q now mid (ap (λ (s : SlotState). s.host) w.is) (ap (λ (s : SlotState). s.spare) w.is)
    (image_found n now.devices (record w.device { window = w.window }) (image_there n disk mid now out w)
    ∙ sym (image_found n mid.devices w.device w.there))
    ∙ is

-- so its next piece is of the same
piece_of : (n q : ℕ) (budget : Budget) (progress : Progress) (mid now : SlotState) (out : List ℕ) (before after : Health)
    (new : SlotState) (output : List ℕ) → WayAt (image_served (Further n q) mid) n q mid now out
    → IsPiece (Further n q) Next budget progress now before after new output
    → IsPieceAtDevice (image_served (Further n q) mid) n q Next budget progress now before after new output
piece_of n q budget progress mid now out before after new output w h =
    subst (λ (f : Option BlockDevice). IsPieceAtDevice f n q Next budget progress now before after new output)
    (still_served (image_served (Further n q) mid) n q mid now out refl w) h

way_again_at : (found : Option BlockDevice) (n q : ℕ) (budget : Budget) (mid now : SlotState) (out : List ℕ)
    (before after : Health) (new : SlotState) (output : List ℕ) → after.failures ≡ before.failures
    → WayAt found n q mid now out → IsPieceAtDevice found n q Next budget progress.More now before after new output
    → WayAt found n q mid new (out ++ output)
way_again_at None n q budget mid now out before after new output stood w h = further_again n q w h
way_again_at (Some disk) n q budget mid now out before after new output stood w h =
    image_again w (exact_only n disk Next budget progress.More now before after new output stood h)

pub way_again : (service : Service) (budget : Budget) (mid now : SlotState) (out : List ℕ)
    (before after : Health) (new : SlotState) (output : List ℕ) → after.failures ≡ before.failures
    → Way service mid now out
    → IsPiece service Next budget progress.More now before after new output
    → Way service mid new (out ++ output)
way_again Block budget mid now out before after new output stood w (inl h) =
    block_again w h.piece
way_again Block budget mid now out before after new output stood w (inr h) = let rose = h.failures in
    absurd (omega (arith, rose, stood))
way_again Receive budget mid now out before after new output stood w h =
    receive_again w h
way_again Transmit budget mid now out before after new output stood w h =
    transmit_again w h
way_again (Further n q) budget mid now out before after new output stood w h =
    way_again_at (image_served (Further n q) mid) n q budget mid now out before after new output stood w
    (piece_of n q budget progress.More mid now out before after new output w h)

-- ---- at its end

abbrev EndedAt : Type 0 → Option BlockDevice → ℕ → ℕ → SlotState → SlotState → List ℕ → Type 0
EndedAt A None n q mid new out = FurtherEnded n q mid new out
EndedAt A (Some disk) n q mid new out = ImageEnded A n disk mid new out

abbrev Ended : Type 0 → Service → SlotState → SlotState → List ℕ → Type 0
Ended A Block mid new out = BlockEnded A mid new out
Ended A Receive mid new out = (reply : Reply A)
    → IsReceiveService mid reply at_rest at_rest (came new reply out)
Ended A Transmit mid new out = IsTransmitService {A = A} mid at_rest at_rest (came new Done out)
Ended A (Further n q) mid new out = EndedAt A (image_served (Further n q) mid) n q mid new out

way_ended_at : (A : Type 0) (found : Option BlockDevice) (n q : ℕ) (budget : Budget) (mid now : SlotState)
    (out : List ℕ) (before after : Health) (new : SlotState) (output : List ℕ) → after.failures ≡ before.failures
    → WayAt found n q mid now out → IsPieceAtDevice found n q Next budget progress.Done now before after new output
    → EndedAt A found n q mid new (out ++ output)
way_ended_at A None n q budget mid now out before after new output stood w h = further_ended n q w h
way_ended_at A (Some disk) n q budget mid now out before after new output stood w h =
    image_ended A w (exact_only n disk Next budget progress.Done now before after new output stood h)

way_ended : (A : Type 0) (service : Service) (budget : Budget) (mid now : SlotState) (out : List ℕ)
    (before after : Health) (new : SlotState) (output : List ℕ) → after.failures ≡ before.failures
    → Way service mid now out
    → IsPiece service Next budget progress.Done now before after new output
    → Ended A service mid new (out ++ output)
way_ended A Block budget mid now out before after new output stood w (inl h) =
    block_ended A w h.piece
way_ended A Block budget mid now out before after new output stood w (inr h) = let rose = h.failures in
    absurd (omega (arith, rose, stood))
way_ended A Receive budget mid now out before after new output stood w h =
    λ reply. receive_ended reply w h
way_ended A Transmit budget mid now out before after new output stood w h =
    transmit_ended A w h
way_ended A (Further n q) budget mid now out before after new output stood w h =
    way_ended_at A (image_served (Further n q) mid) n q budget mid now out before after new output stood w
    (piece_of n q budget progress.Done mid now out before after new output w h)

record Finished {A : Type 0} (task : Task) (mid : SlotState) (outcome : Outcome A) : Type 0 where
  after : Health
  finishes : Finishes task mid at_rest after outcome
  -- the image has no part in the other services
  rests : is_block_task task ≡ false → after ≡ at_rest

-- of a task that is no further device's
finished : {A : Type 0} (task : Task) (pause : Pause) (mid new : SlotState) (out : List ℕ)
    → ((n q : ℕ) → task ≡ Serve (Further n q) → ⊥)
    → asked_by task ≡ Some pause → Ended A pause.service mid new out
    → Finished {A = A} task mid (came new (reply_of pause) out)
finished Nothing pause mid new out own asks = absurd (cc)
finished {A} (Serve Block) pause mid new out own asks =
    subst (λ (p : Pause). Ended A p.service mid new out
    → Finished {A = A} (Serve Block) mid (came new (reply_of p) out)) (same_Some _ pause asks)
    (λ e. record { after = e.health; finishes = e.service; rests = λ other. absurd (cc (other)) })
finished {A} (Serve Receive) pause mid new out own asks =
    subst (λ (p : Pause). Ended A p.service mid new out
    → Finished {A = A} (Serve Receive) mid (came new (reply_of p) out)) (same_Some _ pause asks)
    (λ e. record { after = at_rest; finishes = e Done; rests = λ other. refl })
finished {A} (Serve Transmit) pause mid new out own asks =
    subst (λ (p : Pause). Ended A p.service mid new out
    → Finished {A = A} (Serve Transmit) mid (came new (reply_of p) out)) (same_Some _ pause asks)
    (λ e. record { after = at_rest; finishes = e; rests = λ other. refl })
finished {A} (Serve (Further n q)) pause mid new out own asks = absurd (own n q refl)
finished (PutOut byte) pause mid new out own asks = absurd (cc)

-- what comes of an event over an image
record Gave {A : Type 0} (what : EventKind A) (state : SlotState) (outcome : Outcome A) : Type 0 where
  after : Health
  gives : GivesOverImage state what at_rest after outcome
  rests : (own : HostedDisk) → state.host ≡ Some own → notifies_block what state ≡ false → after ≡ at_rest

-- of what is done to a further device
further_gave : {A : Type 0} (n : ℕ) (what : DeviceEvent A) (state : SlotState) (pause : Pause)
    (a : Asking n what state pause) (new : SlotState) (out : List ℕ) → image_asked n what state ≡ None
    → FurtherEnded n a.queue (readied (Device n what) state) new out
    → Gave (Device n what) state (came new (reply_by a.taken) out)
further_gave {A} n what state pause a new out none e =
    let is : came {A = A} new (reply_by a.taken) out
    ≡ replies (record state { memory = new.memory; devices = new.devices }) (reply_by a.taken) =
    same_came new (with_further (readied (Device n what) state) new) (reply_by a.taken) out [] e.is e.silent in
    record {
      after = at_rest;
      gives = subst (λ (o : Outcome A). GivesOverImage state (Device n what) at_rest at_rest o) (sym is)
          (gives_at n what state pause a at_rest new.memory new.devices none e.served);
      rests = λ own hosted quiet. refl;
    }

-- of a disk over the image
image_gave : {A : Type 0} (n : ℕ) (what : DeviceEvent A) (state : SlotState) (pause : Pause)
    (a : Asking n what state pause) (disk : BlockDevice) (new : SlotState) (out : List ℕ)
    → image_asked n what state ≡ Some disk → ImageEnded A n disk (readied (Device n what) state) new out
    → Gave (Device n what) state (came new (reply_by a.taken) out)
image_gave {A} n what state pause a disk new out asked e = record {
  after = e.health;
  gives = subst (λ (f : Option BlockDevice). GivesAtDevice {A = A} f n what state at_rest e.health
      (came new (reply_by a.taken) out)) (sym asked)
      (rw (done_by n what state disk asked pause a) e.service);
  rests = λ own hosted quiet. absurd (let none = asked_hosted n what state own hosted in cc (none, asked));
}

device_gave : {A : Type 0} (n : ℕ) (what : DeviceEvent A) (state : SlotState) (pause : Pause)
    (a : Asking n what state pause) (new : SlotState) (out : List ℕ) → device_asks n what state ≡ Some pause
    → Ended A (Further n a.queue) (readied (Device n what) state) new out
    → Gave (Device n what) state (came new (reply_by a.taken) out)
device_gave {A} n what state pause a new out asks e =
    by_found (image_served (Further n a.queue) (device_readied n what state)) refl e
  where
    is : image_asked n what state ≡ image_served (Further n a.queue) (device_readied n what state)
    is = asked_readied n what state pause a asks

    by_found : (found : Option BlockDevice) → image_served (Further n a.queue) (device_readied n what state) ≡ found
        → EndedAt A found n a.queue (device_readied n what state) new out
        → Gave (Device n what) state (came new (reply_by a.taken) out)
    by_found None none e = further_gave n what state pause a new out (is ∙ none) e
    by_found (Some disk) some e = image_gave n what state pause a disk new out (is ∙ some) e

gave : {A : Type 0} (what : EventKind A) (state : SlotState) (pause : Pause) (new : SlotState)
    (out : List ℕ) → asked_over_image what state ≡ Some pause
    → Ended A pause.service (readied what state) new out
    → Gave what state (came new (reply_of pause) out)
gave {A} (Write window offset width value) state pause new out asks e =
    let f : Finished {A = A} (task_at window offset width value state)
    (with_write window offset width value state) (came new (reply_of pause) out) =
    finished (task_at window offset width value state) pause
    (with_write window offset width value state) new out
    (none_further window (action_at window offset width value state)) asks e in
    record { after = f.after; gives = f.finishes; rests = λ own hosted quiet. f.rests quiet }
gave {A} (Input bytes) state pause new out asks e =
    subst (λ (p : Pause). Ended A p.service (with_input bytes state) new out
    → Gave {A = A} (Input bytes) state (came new (reply_of p) out)) (same_Some _ pause asks)
    (λ e. record {
      after = at_rest;
      gives = e (Took (fitting state.pending bytes));
      rests = λ own hosted quiet. refl;
    }) e
gave {A} (Device n what) state pause new out asks e =
    let a = asking n what state pause asks in
    subst (λ (p : Pause). Ended A p.service (readied (Device n what) state) new out
    → Gave (Device n what) state (came new (reply_of p) out)) (sym a.is)
    (device_gave n what state pause a new out asks) e
gave what state pause new out asks e = absurd (cc)

-- and whoever has the guest's disk
next_by : {A : Type 0} (host : Option HostedDisk) (what : EventKind A) (state : SlotState) (outcome : Outcome A)
    → state.host ≡ host → has_part host what state ≡ false → Gave what state outcome
    → IsNext state what outcome
next_by {A} None what state outcome is free g = record {
  after = g.after;
  gives = subst (λ (k : Option HostedDisk). GivesBy {A = A} k state what at_rest g.after outcome) (sym is)
      g.gives;
}
next_by {A} (Some disk) what state outcome is free g =
    let beside = is_beside disk what state free in
    let given : GivesOverImage state what at_rest at_rest outcome =
    subst (λ (h : Health). GivesOverImage state what at_rest h outcome) (g.rests disk is beside.quiet) g.gives in
    record {
      after = at_rest;
      gives = subst (λ (k : Option HostedDisk). GivesBy {A = A} k state what at_rest at_rest outcome) (sym is)
          (record {
            gives = passes (λ (o : Outcome A). GivesOverImage state what at_rest at_rest o) disk state what
                outcome free given;
            image = refl;
          });
    }

next_ended : {A : Type 0} (what : EventKind A) (state : SlotState) (pause : Pause) (new : SlotState)
    (out : List ℕ) → asked what state ≡ Some pause → Ended A pause.service (readied what state) new out
    → IsNext state what (came new (reply_of pause) out)
next_ended what state pause new out asks e =
    let freely = asks_freely what state pause asks in
    next_by state.host what state (came new (reply_of pause) out) refl freely.free
    (gave what state pause new out freely.asks e)

-- So what it comes to is what comes of its event for a guest that is alone.
pub next_of_pieces : {A : Type 0} (what : EventKind A) (budget : Budget) (state : SlotState) (pause : Pause)
    (now : SlotState) (out : List ℕ) (before after : Health) (new : SlotState) (output : List ℕ)
    → asked what state ≡ Some pause → after.failures ≡ before.failures
    → Way pause.service (readied what state) now out
    → IsPiece pause.service Next budget progress.Done now before after new output
    → IsNext {A = A} state what (came new (reply_of pause) (out ++ output))
next_of_pieces {A} what budget state pause now out before after new output asks stood w h =
    next_ended what state pause new (out
    ++ output) asks (way_ended A pause.service budget (readied what state) now out before after
    new output stood w h)

-- ---- and a service that goes on is one that the board serves itself

way_host : (service : Service) (mid now : SlotState) (out : List ℕ) → Way service mid now out
    → now.host ≡ mid.host
way_host Block mid now out w = ap (λ (s : SlotState). s.host) w.is
way_host Receive mid now out w = ap (λ (s : SlotState). s.host) w.is
way_host Transmit mid now out w = ap (λ (s : SlotState). s.host) w.is
way_host (Further n q) mid now out w = at_device (image_served (Further n q) mid) w
  where
    at_device : (found : Option BlockDevice) → WayAt found n q mid now out → now.host ≡ mid.host
    at_device None w = ap (λ (s : SlotState). s.host) w.is
    at_device (Some disk) w = ap (λ (s : SlotState). s.host) w.is

pub goes_by_piece : {A : Type 0} (what : EventKind A) (state : SlotState) (pause : Pause) (now : SlotState)
    (out : List ℕ) → asked what state ≡ Some pause → Way pause.service (readied what state) now out
    → is_hosts now.host pause.service ≡ false
goes_by_piece what state pause now out asks w =
    ap (λ (host : Option HostedDisk). is_hosts host pause.service)
    (way_host pause.service (readied what state) now out w ∙ readied_host what state)
    ∙ serves_itself what state pause asks
