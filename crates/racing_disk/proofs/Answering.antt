-- A chain that is answered at once, byte by byte.
use Rattle.std.proofs.Common.{◌≡◌, ◌∙◌, ℕ, suc, ◌+◌, ◌-◌, ◌<◌, ◌≤◌, Bool, Option, Some, None, List, [], ◌∷◌, ◌++◌, length, map, take, drop, replicate, refl, sym, ap, subst, arith, inl, inr, append_assoc, length-append}
use Rattle.std.proofs.Math.Bool.{or-true}
use Rattle.std.proofs.lemmas.Bool.{cases_lt}
use Rattle.std.proofs.lemmas.Bool.Decides.{nat_tests}
use Rattle.std.proofs.lemmas.List.{drop-drop, length-map, length-replicate, take-append-drop}
use Rattle.guest_memory.specs.Memory.{Memory}
use Rattle.chain.specs.declared.segment.Buffer.{Buffer}
use Rattle.chain.specs.declared.segment.Segment.{Segment}
use Rattle.chain.specs.Bytes.{writable_of}
use Rattle.chain.specs.Service.{scattered, used_len, wrote}
use Rattle.chain.proofs.Partial.{scattered-append, scattered-unwritten, unwritten, wrote-append}
use Rattle.shared_memory.specs.Sightings.{Sightings}
use Rattle.block_device.specs.declared.device.BlockDevice.{BlockDevice}
use Rattle.block_device.specs.declared.request.Request.{Request}
use Rattle.block_device.specs.declared.request.Request.TheVariants.{Rejected, GetId}
use Rattle.block_device.specs.declared.request.RequestStatus.{RequestStatus}
use Rattle.block_device.specs.declared.request.RequestStatus.TheVariants.{Success}
use Rattle.block_device.specs.Asking.{EndsUnasked, used_by}
use Rattle.block_device.specs.Device.{GivesBy}
use Rattle.block_device.specs.Progress.{IsServable}
use Rattle.block_device.specs.Request.{code_of, payload_of}
use Rattle.block_device.proofs.Answering.{used_len-found, used_len-status}
use Rattle.chain_handler.specs.Device.{StoresAtOnce}
use Rattle.chain_handler.specs.Storing.{StoresSome}
use Rattle.shared_memory.specs.Bytes.{StoresEach}
use Rattle.chain_handler.proofs.Rows.{each_some, once_some}
use Rattle.racing_disk.specs.Answering.{HasFound, IsAnswered}
use Rattle.racing_disk.specs.Telling.{IsLeft, WasLeft}

-- ---- what a request finds that asks for nothing

pub id_found : (device : BlockDevice) (races : Bool) (old new : Sightings) (buffers : List Buffer) (request : Request)
    (runs : List Segment) → request ≡ GetId → length device.identity ≡ 20 → WasLeft device buffers request runs
    → StoresEach races old new (take (length device.identity) (writable_of buffers)) device.identity
    → HasFound device races old new buffers request 20 Success
id_found device races old new buffers request runs is long w stored =
    let s : IsServable device.extent.count GetId (payload_of w.readable) w.left.room =
    subst (λ (r : Request). IsServable device.extent.count r (payload_of w.readable) w.left.room) is w.left.judged.servable in
    record {
      found = device.identity;
      answer = rw is (record {
        ends = λ payload disk. record {
          unasked = refl;
          ends = inl (record { found = device.identity; finds = refl; is = refl });
        };
      });
      len_is = sym long;
      fits = omega (arith, s, w.left.all);
      stored = subst (λ n. StoresEach races old new (take n (writable_of buffers)) device.identity) long stored;
    }

pub none_found : (device : BlockDevice) (races : Bool) (s : Sightings) (buffers : List Buffer) (request : Request)
    (runs : List Segment) (status : RequestStatus) → request ≡ Rejected status → WasLeft device buffers request runs
    → HasFound device races s s buffers request 0 status
none_found device races s buffers request runs status is w = record {
  found = [];
  answer = rw is (record {
    ends = λ payload disk. record { unasked = refl; ends = inl (record { found = []; finds = refl; is = refl }) };
  });
  len_is = refl;
  fits = omega (arith, w.left.all);
  stored = refl;
}

-- ---- the parts of an answer

-- the status, behind places that aren't written
status_stored : (races : Bool) (old new : Sightings) (addrs : List ℕ) (gap a x : ℕ) → drop gap addrs ≡ a ∷ []
    → StoresAtOnce races old new (a ∷ []) (Some x ∷ []) → StoresAtOnce races old new addrs (unwritten gap ++ Some x ∷ [])
status_stored races old new addrs gap a x at s = record {
  extends = s.extends;
  before = s.before;
  interference = s.interference;
  stored = s.stored ∙ ap (λ l. scattered s.before l (Some x ∷ [])) (sym at)
      ∙ ap (λ (m : Memory). scattered m (drop gap addrs) (Some x ∷ [])) (sym (scattered-unwritten s.before addrs gap))
      ∙ ap (λ n. scattered (scattered s.before addrs (unwritten gap)) (drop n addrs) (Some x ∷ []))
      (sym (length-replicate {A = Option ℕ} gap None))
      ∙ sym (scattered-append s.before addrs (unwritten gap) (Some x ∷ []));
}

-- how long it is
used_is : (found : List ℕ) (room x : ℕ) → length found ≤ room
    → used_by (length found) (room + 1)
    ≡ used_len ((map Some found ++ replicate (room - length found) None) ++ Some x ∷ [])
used_is found room x fits =
    elim (cases_lt (length found) room) [
      | inl some ↦ used_part (length found) (room + 1) (omega (arith, some)) ∙ sym (used_len-found found room x some)
      | inr rest ↦ used_whole (length found) (room + 1) (omega (arith, rest, fits))
          ∙ sym (used_len-status found room x (omega (arith, rest, fits)))
    ]
  where
    used_whole : (len w : ℕ) → len + 1 ≡ w → used_by len w ≡ w
    used_whole len w e = grind (arith, nat_tests)

    used_part : (len w : ℕ) → len + 1 < w → used_by len w ≡ len
    used_part len w h = grind (arith, nat_tests)

-- The chain is answered once its status is stored behind what was found.
pub answered : (device : BlockDevice) (races : Bool) (old mid new : Sightings) (readable : List ℕ) (buffers : List Buffer)
    (request : Request) (runs : List Segment) (len a used : ℕ) (status : RequestStatus)
    → IsLeft device readable buffers request runs → HasFound device races old mid buffers request len status
    → drop (length (writable_of buffers) - 1) (writable_of buffers) ≡ a ∷ []
    → StoresAtOnce races mid new (a ∷ []) (Some (code_of status) ∷ []) → used ≡ used_by len (length (writable_of buffers))
    → IsAnswered device races old new readable buffers used
answered device races old mid new readable buffers request runs len a used status left h at stored uses =
    let addrs = writable_of buffers in
    let w = length addrs in
    let room = left.room in
    let gap = room - length h.found in
    let front : List (Option ℕ) = map Some h.found ++ replicate gap None in
    let code = code_of status in
    let fits : length h.found ≤ room = omega (arith, h.len_is, h.fits, left.all) in
    let size : length (map Some h.found) ≡ length h.found = length-map h.found Some in
    let front_size : length front ≡ room =
    length-append (map Some h.found) (replicate gap None)
    ∙ (let e = length-replicate {A = Option ℕ} gap None in omega (arith, e, size, fits)) in
    let k : len + gap ≡ w - 1 = omega (arith, h.len_is, fits, left.all) in
    let behind : drop gap (drop len addrs) ≡ a ∷ [] = drop-drop gap len addrs ∙ ap (λ n. drop n addrs) k ∙ at in
    let parts : StoresSome races old new (take len addrs ++ drop len addrs) (map Some h.found ++ (unwritten gap ++ Some code ∷ [])) =
    each_some races old mid new (take len addrs) h.found (drop len addrs) (unwritten gap ++ Some code ∷ []) h.stored
    (once_some races mid new (drop len addrs) (unwritten gap ++ Some code ∷ [])
    (status_stored races mid new (drop len addrs) gap a code behind stored)) in
    let ended : StoresSome races old new addrs (front ++ Some code ∷ []) =
    rw (take-append-drop len addrs, ← append_assoc (map Some h.found) (unwritten gap) (Some code ∷ [])) at parts in
    record {
      written = front ++ Some code ∷ [];
      gives = λ disk. subst (λ w. GivesBy (EndsUnasked device.identity) device disk readable w
          (record { state = disk; written = front ++ Some code ∷ [] })) (let e : suc room ≡ w = omega (arith, left.all) in e)
          (record {
            outcome = record { disk = disk; found = h.found; status = status };
            is = subst (λ (r : Request). EndsUnasked device.identity r (payload_of readable) disk
                (record { disk = disk; found = h.found; status = status })) left.judged.is
                (h.answer.ends (payload_of readable) disk);
            given_is = refl;
          });
      each = length-append front (Some code ∷ []) ∙ (omega (arith, front_size, left.all));
      parts = ended.parts;
      stores = ended.stores;
      len_is = uses ∙ ap (λ n. used_by n w) h.len_is ∙ ap (used_by (length h.found)) left.all
          ∙ used_is h.found room code fits;
      any_is = sym (or-true (wrote front)) ∙ sym (wrote-append front (Some code ∷ []));
    }
