-- A look, a landing and what the host says have one outcome.
use Rattle.std.proofs.Common.{◌≡◌, Bool, true, false, ℕ, zero, suc, Option, Some, None, List, refl, sym, ap, subst, ◌∙◌}
use Rattle.std.proofs.lemmas.Option.{same_Some}
use Rattle.guest_memory.specs.Memory.{Memory}
use Rattle.mmio_window.specs.declared.queue.Queue.{Queue}
use Rattle.chain.specs.declared.budget.Budget.{Budget}
use Rattle.chain.specs.declared.budget.Progress.{Progress}
use Rattle.mmio_window.specs.declared.stage.Stage.{Stage}
use Rattle.mmio_window.specs.declared.stage.Stage.TheVariants.{First}
use Rattle.mmio_window.specs.Window.{WindowState, queue_at}
use Rattle.mmio_window.proofs.OneEnd.{SameEnd}
use Rattle.block_device.specs.declared.device.BlockDevice.{BlockDevice}
use Rattle.block_device.specs.declared.operation.Verdict.{Verdict}
use Rattle.block_device.specs.Flights.{HostedQueue, InFlight, IsLanding, IsLook, LandsBy}
use Rattle.block_device.proofs.OneLook.{one_completion}
use Rattle.block_device.proofs.WholeLooks.{looks_once, piece_of_look_once}
use Rattle.block_device.specs.declared.operation.HostEvent.{HostEvent}
use Rattle.block_device.specs.declared.operation.HostEvent.TheVariants.{Complete, Drop, Hold, Release}
use Rattle.hosted_disk.specs.Disk.{HostedDisk, LooksAtQueue, LooksUnless, LooksUnlessTo, ServesDisk, ServesDiskTo, queue_of}
use Rattle.hosted_disk.specs.Told.{DoesAsTold, QueueTold, held_by}

pub look_queue : (device : BlockDevice) (old one other : HostedQueue) → IsLook device old one → IsLook device old other
    → one ≡ other
look_queue device old one other x y =
    (looks_once device First old x.asked y.asked one other x.looks y.looks).queue

same_queue : (m n : Memory) (v w : WindowState) (t u : List (Option InFlight)) → m ≡ n → v ≡ w → t ≡ u
    → ◌≡◌ {A = HostedQueue} (record { memory = m; window = v; tags = t }) (record { memory = n; window = w; tags = u })
same_queue m n v w t u p q r = rw (p, q, r) refl

lands_by : (found : Option Queue) (tag : ℕ) (here : InFlight) (verdict : Verdict) (old one other : HostedQueue)
    → LandsBy found tag here verdict old one → LandsBy found tag here verdict old other → one ≡ other
lands_by None tag here verdict old one other x y = x ∙ sym y
lands_by (Some queue) tag here verdict old one other x y =
    let same = one_completion here.flight verdict old.memory one.memory other.memory old.window one.window
    other.window x.completes y.completes in
    same_queue one.memory other.memory one.window other.window one.tags other.tags same.0 same.1
    (x.tags ∙ sym y.tags)

pub land_queue : (tag : ℕ) (verdict : Verdict) (old one other : HostedQueue) → IsLanding tag verdict old one
    → IsLanding tag verdict old other → one ≡ other
land_queue tag verdict old one other x y =
    let here : y.here ≡ x.here = same_Some y.here x.here (sym y.there ∙ x.there) in
    lands_by (queue_at 0 old.window) tag x.here verdict old one other x.lands
    (subst (λ (h : InFlight). LandsBy (queue_at 0 old.window) tag h verdict old other) here y.lands)

pub unless_queue : (on_hold : Bool) (device : BlockDevice) (old one other : HostedQueue)
    → LooksUnless on_hold device old one → LooksUnless on_hold device old other → one ≡ other
unless_queue true device old one other x y = x ∙ sym y
unless_queue false device old one other x y = look_queue device old one other x y

-- ---- a disk

look_disk : (disk one other : HostedDisk) (m n o : Memory) (u v w : WindowState)
    → LooksAtQueue disk m n u v one → LooksAtQueue disk m o u w other → SameEnd n o v w one other
look_disk disk one other m n o u v w x y =
    let same = unless_queue disk.on_hold disk.device (queue_of m u disk) (queue_of n v one) (queue_of o w other)
    x.looks y.looks in
    record {
      memory = ap (λ (q : HostedQueue). q.memory) same;
      window = ap (λ (q : HostedQueue). q.window) same;
      state = x.is ∙ ap (λ (q : HostedQueue). record disk { tags = q.tags }) same ∙ sym y.is;
    }

pub serve_disk : (disk one other : HostedDisk) (q : ℕ) (m n o : Memory) (u v w : WindowState)
    → ServesDisk disk q m n u v one → ServesDisk disk q m o u w other → SameEnd n o v w one other
serve_disk disk one other zero m n o u v w x y = look_disk disk one other m n o u v w x y
serve_disk disk one other (suc q) m n o u v w x y = record {
  memory = x.memory ∙ sym y.memory;
  window = x.window ∙ sym y.window;
  state = x.state ∙ sym y.state;
}

-- a piece of that, within a budget
pub record SamePiece (x y : Progress) (n o : Memory) (v w : WindowState) (one other : HostedDisk) : Type 0 where
  pub progress : x ≡ y
  pub ends : SameEnd n o v w one other

record SameCut (x y : Progress) (one other : HostedQueue) : Type 0 where
  progress : x ≡ y
  queue : one ≡ other

unless_piece : (on_hold : Bool) (device : BlockDevice) (stage : Stage) (budget : Budget) (x y : Progress)
    (old one other : HostedQueue) → LooksUnlessTo on_hold device stage budget x old one
    → LooksUnlessTo on_hold device stage budget y old other → SameCut x y one other
unless_piece true device stage budget x y old one other p q =
    record { progress = p.0 ∙ sym q.0; queue = p.1 ∙ sym q.1 }
unless_piece false device stage budget x y old one other p q =
    let same = piece_of_look_once device stage budget x y old p.asked q.asked one other p.looks q.looks in
    record { progress = same.progress; queue = same.queue }

pub piece_disk : (stage : Stage) (budget : Budget) (x y : Progress) (disk one other : HostedDisk) (q : ℕ)
    (m n o : Memory) (u v w : WindowState)
    → ServesDiskTo stage budget x disk q m n u v one → ServesDiskTo stage budget y disk q m o u w other
    → SamePiece x y n o v w one other
piece_disk stage budget x y disk one other zero m n o u v w p q =
    let same = unless_piece disk.on_hold disk.device stage budget x y (queue_of m u disk) (queue_of n v one)
    (queue_of o w other) p.looks q.looks in
    record {
      progress = same.progress;
      ends = record {
        memory = ap (λ (k : HostedQueue). k.memory) same.queue;
        window = ap (λ (k : HostedQueue). k.window) same.queue;
        state = p.is ∙ ap (λ (k : HostedQueue). record disk { tags = k.tags }) same.queue ∙ sym q.is;
      };
    }
piece_disk stage budget x y disk one other (suc n') m n o u v w p q = record {
  progress = p.0 ∙ sym q.0;
  ends = record {
    memory = p.1.memory ∙ sym q.1.memory;
    window = p.1.window ∙ sym q.1.window;
    state = p.1.state ∙ sym q.1.state;
  };
}

told_queue : (said : HostEvent) (device : BlockDevice) (on_hold : Bool) (old one other : HostedQueue)
    → QueueTold said device on_hold old one → QueueTold said device on_hold old other → one ≡ other
told_queue (Complete tag verdict) device on_hold old one other x y =
    let landed : y.landed ≡ x.landed = land_queue tag verdict old y.landed x.landed y.lands x.lands in
    unless_queue on_hold device x.landed one other x.looks
    (subst (λ (q : HostedQueue). LooksUnless on_hold device q other) landed y.looks)
told_queue Drop device on_hold old one other x y = x ∙ sym y
told_queue Hold device on_hold old one other x y = x ∙ sym y
told_queue Release device on_hold old one other x y = look_queue device old one other x y

pub tell_disk : (said : HostEvent) (disk one other : HostedDisk) (m n o : Memory) (u v w : WindowState)
    → DoesAsTold said disk m n u v one → DoesAsTold said disk m o u w other → SameEnd n o v w one other
tell_disk said disk one other m n o u v w x y =
    let same = told_queue said disk.device disk.on_hold (queue_of m u disk) (queue_of n v one) (queue_of o w other)
    x.queue y.queue in
    record {
      memory = ap (λ (q : HostedQueue). q.memory) same;
      window = ap (λ (q : HostedQueue). q.window) same;
      state =
          x.is ∙ ap (λ (q : HostedQueue). record disk { tags = q.tags; on_hold = held_by said disk.on_hold }) same
          ∙ sym y.is;
    }
