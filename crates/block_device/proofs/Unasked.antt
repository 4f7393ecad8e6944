-- A chain in flight of a disk that the host serves.
use Rattle.std.proofs.Common.{false, ◌≡◌, ◌∙◌, ◌-◌, [], ◌∷◌, length, drop, sym, ap, arith}
use Rattle.guest_memory.proofs.Ranges.{inside_same}
use Rattle.sector_cache.specs.Disk.{Disk}
use Rattle.chain.specs.Bytes.{scatter, writable_of}
use Rattle.block_device.specs.Asking.{found_by, status_by, used_by, with_status}
use Rattle.block_device.proofs.Answering.{finished_later, found_less}
use Rattle.std.specs.Prelude.{None}
use Rattle.block_device.specs.Hosting.{FlightOutlasts, HonestHostServes}
use Rattle.block_device.specs.Request.{code_of}

-- what holds over every disk holds over this one
pub any_disk : Disk
any_disk = record { contents = None; sector_count = 0; failures = 0; dirty = false }

pub flight_outlasts : FlightOutlasts
flight_outlasts old new before after flight f same keeps = record {
  queue = f.queue;
  ready = keeps.served 0 f.queue f.ready;
  ahead = f.ahead;
  status = inside_same old new flight.status 1 same f.status;
  some = f.some;
}

pub honest_host_serves : HonestHostServes
honest_host_serves device asked old new before after disk disk' buffers found flight answer request a at ends
    long stands back =
    let w = length (writable_of buffers) in
    let what = flight.operation.kind in
    let memory : back.done ≡ with_status old buffers (status_by answer) = back.completed.memory
    ∙ ap (λ addrs. scatter old addrs (code_of (status_by answer) ∷ [])) (sym at.status)
    ∙ ap (λ n. scatter old (drop (n - 1) (writable_of buffers)) (code_of (status_by answer) ∷ [])) at.writable in
    let len : back.len ≡ used_by (found_by what answer (w - 1)) w = back.completed.len_is
    ∙ ap (λ n. used_by (found_by what answer (n - 1)) n) at.writable in
    finished_later device asked old back.done buffers disk disk' found request a.room
    (found_by what answer (w - 1)) back.len (status_by answer) a.all a.is ends (sym long) stands
    (found_less what answer w (omega (arith, a.all))) memory len
