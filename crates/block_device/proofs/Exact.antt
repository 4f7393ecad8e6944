-- The device is the exact one where no image call failed, and it never lacks memory.
use Rattle.std.proofs.Common.{◌≡◌, ◌≢◌, Bool, Option, refl}
use Rattle.guest_memory.specs.Memory.{Memory}
use Rattle.chain.specs.Service.{Ending, Refused, Site, IsService, IsExactUnless}
use Rattle.chain.proofs.Servicing.{exact_service, never_refused}
use Rattle.sector_cache.specs.Disk.{Disk}
use Rattle.mmio_window.specs.declared.queue.Queue.{Queue}
use Rattle.mmio_window.specs.Queue.{queue_kind}
use Rattle.mmio_window.specs.Serving.{IsNotified}
use Rattle.mmio_window.specs.Window.{WindowState}
use Rattle.mmio_window.proofs.Services.{notified_exact, notified_not_refused}
use Rattle.block_device.specs.declared.device.BlockDevice.{BlockDevice}
use Rattle.block_device.specs.Device.{block_device, exact_device}
use Rattle.block_device.proofs.Requests.{gives_rises, gives_exact}

-- the device is the exact one where the number of failures stays
pub exact_unless : (device : BlockDevice)
    → IsExactUnless (block_device device) (exact_device device) (λ disk. disk.failures)
exact_unless device = record {
  takes = λ disk. refl;
  rises = λ disk readable w given h. gives_rises device disk readable w given h;
  gives = λ disk readable w given h e. gives_exact device disk readable w given h e;
}

-- a service of it never ends for want of memory
pub service_not_refused : (device : BlockDevice) (old new : Site Queue Disk) (ending : Ending) (wanted : Bool)
    → IsService queue_kind (block_device device) old new ending wanted → ending ≢ Refused
service_not_refused device old new ending wanted s =
    never_refused queue_kind (block_device device) old new ending wanted (λ disk readable w lacks. lacks) s

pub service_exact : (device : BlockDevice) (old new : Site Queue Disk) (ending : Ending) (wanted : Bool)
    → new.state.failures ≡ old.state.failures
    → IsService queue_kind (block_device device) old new ending wanted
    → IsService queue_kind (exact_device device) old new ending wanted
service_exact device old new ending wanted e s =
    exact_service queue_kind (block_device device) (exact_device device) (λ disk. disk.failures)
    (exact_unless device) old new ending wanted
    (service_not_refused device old new ending wanted s) e s

pub notified_without_failure : (device : BlockDevice) (queue : Option Queue) (old new : Memory)
    (before after : WindowState) (s t : Disk) → t.failures ≡ s.failures
    → IsNotified (block_device device) 0 queue old new before after s t
    → IsNotified (exact_device device) 0 queue old new before after s t
notified_without_failure device queue old new before after s t e h = record {
  ending = h.ending;
  notified = notified_exact (block_device device) (exact_device device) (λ disk. disk.failures)
      (exact_unless device) 0 queue h.ending old new before after s t
      (notified_not_refused (block_device device) (λ disk readable w lacks. lacks) 0 queue h.ending old new
      before after s t h.notified) e h.notified;
}
