-- From a request that is done to a chain that is served: the status is written last.
use Rattle.std.proofs.Common.{◌≡◌, Bool, inl, inr, ℕ, zero, suc, ◌+◌, ◌-◌, ◌*◌, ◌^◌, ◌<◌, ◌≤◌, true, false, Option, Some, None, List, [], ◌∷◌, ◌++◌, length, map, drop, replicate, refl, sym, ap, subst, ◌∙◌, arith, append_assoc, length-append, length-drop}
use Rattle.std.proofs.Math.Bool.{or-true}
use Rattle.std.specs.Prelude.{◌≢◌, OnErr, OnOk, Result}
use Rattle.std.proofs.lemmas.Bool.{cases_lt}
use Rattle.std.proofs.lemmas.Bool.Decides.{nat_tests}
use Rattle.std.proofs.lemmas.List.{length-map, length-replicate}
use Rattle.guest_memory.specs.Memory.{Memory}
use Rattle.chain.specs.declared.segment.Buffer.{Buffer}
use Rattle.chain.specs.Buffers.{Good}
use Rattle.chain.specs.Bytes.{readable_of, writable_of, scatter}
use Rattle.chain.specs.Service.{Given, Does, scattered, used_len, wrote}
use Rattle.chain.proofs.Directions.{length-readable_of, length-addresses_of, len_of-le}
use Rattle.chain.proofs.Partial.{scattered-run, scattered-then_byte, used_len-run, wrote-append}
use Rattle.sector_cache.specs.Disk.{Disk, failed, flushed}
use Rattle.block_device.specs.declared.device.BlockDevice.{BlockDevice}
use Rattle.block_device.specs.declared.request.RequestStatus.{RequestStatus}
use Rattle.block_device.specs.declared.request.RequestStatus.TheVariants.{Success}
use Rattle.block_device.specs.declared.request.Request.{Request}
use Rattle.block_device.specs.declared.request.Request.TheVariants.{Rejected, Read, Write, Flush, GetId, WriteZeroes}
use Rattle.block_device.specs.Extent.{extent_disk}
use Rattle.block_device.specs.Request.{request_of, payload_of, code_of, status_of}
use Rattle.block_device.specs.Outcome.{Ends}
use Rattle.block_device.specs.Asking.{asks_image, found_by, used_by, with_status}
use Rattle.block_device.specs.declared.operation.OperationKind.{OperationKind}
use Rattle.block_device.specs.declared.operation.OperationKind.TheVariants as kind
use Rattle.block_device.specs.declared.operation.Verdict.{Verdict}
use Rattle.block_device.specs.declared.operation.Verdict.TheVariants as verdict
use Rattle.block_device.specs.Device.{block_device, GivesBy}
use Rattle.block_device.specs.Hosting.{DoesLater}
use Rattle.block_device.specs.Progress.{IsServable, IsDone, IsWritten}
use Rattle.block_device.proofs.Endings.{flush_ends, nothing_found}
use Rattle.block_device.proofs.Extents.{KeepsOutside-same}

-- a chain's bytes are few
pub writable_few : (m : Memory) (buffers : List Buffer) → Good m buffers
    → length (writable_of buffers) < 2 ^ 32
writable_few m buffers good =
    omega (arith, length-addresses_of true buffers, len_of-le true buffers, good.fits)

readable_few : (m : Memory) (buffers : List Buffer) → Good m buffers → length (readable_of m buffers) < 2 ^ 32
readable_few m buffers good =
    omega (arith, length-readable_of m buffers good.inside, len_of-le false buffers, good.fits)

pub write_fits : (m : Memory) (buffers : List Buffer) (capacity : ℕ) (request : Request)
    (sector count room : ℕ) → Good m buffers → request ≡ Write sector count
    → IsServable capacity request (payload_of (readable_of m buffers)) room → 512 * count + 16 < 2 ^ 64
write_fits m buffers capacity request sector count room good is servable =
    let P : Request → Type 0 = λ r. IsServable capacity r (payload_of (readable_of m buffers)) room in
    let here : P (Write sector count) = subst P is servable in
    omega (arith, here.1, readable_few m buffers good, length-drop 16 (readable_of m buffers))

pub read_fits : (m : Memory) (buffers : List Buffer) (capacity : ℕ) (request : Request)
    (sector count room : ℕ) (payload : List ℕ) → Good m buffers → request ≡ Read sector count
    → IsServable capacity request payload room → length (writable_of buffers) ≡ room + 1
    → 512 * count < 2 ^ 64
read_fits m buffers capacity request sector count room payload good is servable all =
    let P : Request → Type 0 = λ r. IsServable capacity r payload room in
    let here : P (Read sector count) = subst P is servable in
    omega (arith, here.1, all, writable_few m buffers good)

-- nothing is done
pub done_rejected : {identity : List ℕ} (request : Request) (buffers : List Buffer) (m : Memory) (disk : Disk)
    (status : RequestStatus) → request ≡ Rejected status
    → IsDone identity request buffers m m disk disk 0 status
done_rejected request buffers m disk status is =
    rw is (nothing_found (Rejected status) buffers m disk disk status
    (inl (record { found = []; finds = refl; is = refl })))

-- the flush has come out
pub flushing_ends : {E : Type 0} (device : BlockDevice) (request : Request)
    (buffers : List Buffer) (m : Memory)
    (disk disk' : Disk) (result : Result (Unit {0}) E) → request ≡ Flush
    → OnOk result (disk' ≡ flushed disk) → OnErr result (disk' ≡ failed disk)
    → IsWritten device request buffers m (status_of result) disk disk'
flushing_ends device request buffers m disk disk' result is ok err =
    rw is (flush_ends device Flush buffers m disk disk (extent_disk device.extent disk) refl refl
    (KeepsOutside-same device.extent disk disk refl refl) disk' result ok err
    (inl (record { found = []; finds = refl; is = refl })) (inr refl))

-- the identity is written
pub done_identity : (identity : List ℕ) (request : Request) (buffers : List Buffer) (m new : Memory)
    (disk : Disk) → length identity ≡ 20 → request ≡ GetId
    → new ≡ scatter m (drop 0 (writable_of buffers)) identity
    → IsDone identity request buffers m new disk disk 20 Success
done_identity identity request buffers m new disk size is put =
    rw is (record {
      found = identity;
      ends = inl (record { found = identity; finds = refl; is = refl });
      len_is = sym size;
      memory = put ∙ sym (scattered-run m (writable_of buffers) identity);
    })

-- the gap before the status
status_front : (n x : ℕ) → n ≡ 0 → used_len (replicate n None ++ Some x ∷ []) ≡ 1
status_front zero x e = refl
status_front (suc n) x e = absurd (omega (arith, e))

status_gap : (n x : ℕ) → 0 < n → used_len (replicate n None ++ Some x ∷ []) ≡ 0
status_gap zero x h = absurd (omega (arith, h))
status_gap (suc n) x h = refl

-- the status counts where all before it was written
pub used_len-status : (found : List ℕ) (room x : ℕ) → length found ≡ room
    → used_len ((map Some found ++ replicate (room - length found) None) ++ Some x ∷ []) ≡ room + 1
used_len-status found room x all =
    ap used_len (append_assoc (map Some found) (replicate (room - length found) None) (Some x ∷ []))
    ∙ used_len-run found (replicate (room - length found) None ++ Some x ∷ [])
    ∙ (let e = status_front (room - length found) x (omega (arith, all)) in omega (arith, e, all))

pub used_len-found : (found : List ℕ) (room x : ℕ) → length found < room
    → used_len ((map Some found ++ replicate (room - length found) None) ++ Some x ∷ []) ≡ length found
used_len-found found room x some =
    ap used_len (append_assoc (map Some found) (replicate (room - length found) None) (Some x ∷ []))
    ∙ used_len-run found (replicate (room - length found) None ++ Some x ∷ [])
    ∙ (let e = status_gap (room - length found) x (omega (arith, some)) in omega (arith, e))

-- the status itself is written
wrote-status : (front : List (Option ℕ)) (x : ℕ) → true ≡ wrote (front ++ Some x ∷ [])
wrote-status front x = sym (or-true (wrote front)) ∙ sym (wrote-append front (Some x ∷ []))

-- A request that is done is answered once its status is written in the last place.
pub answer_does : (device : BlockDevice) (m done new : Memory) (buffers : List Buffer) (disk disk' : Disk)
    (request : Request) (room len used : ℕ) (status : RequestStatus)
    → length (writable_of buffers) ≡ room + 1 → request ≡ request_of device (readable_of m buffers) room
    → IsDone device.identity request buffers m done disk disk' len status → len ≤ room
    → new ≡ scatter done (drop room (writable_of buffers)) (code_of status ∷ [])
    → (len ≡ room → used ≡ room + 1) → (len < room → used ≡ len)
    → Does (block_device device) m new buffers disk disk' used true
answer_does device m done new buffers disk disk' request room len used status all is d fits put whole part =
    let w = length (writable_of buffers) in
    let front : List (Option ℕ) = map Some d.found ++ replicate (room - length d.found) None in
    let given : Given Disk = record { state = disk'; written = front ++ Some (code_of status) ∷ [] } in
    let size : length (map Some d.found) ≡ length d.found = length-map d.found Some in
    let here : Ends device.identity (request_of device (readable_of m buffers) room)
    (payload_of (readable_of m buffers)) disk
    (record { disk = disk'; found = d.found; status = status }) =
    subst (λ r. Ends device.identity r (payload_of (readable_of m buffers)) disk
    (record { disk = disk'; found = d.found; status = status })) is d.ends in
    let gives : GivesBy (Ends device.identity) device disk (readable_of m buffers) (suc room) given =
    record {
      outcome = record { disk = disk'; found = d.found; status = status };
      is = here;
      given_is = refl;
    } in
    let front_size : length front ≡ room =
    length-append (map Some d.found) (replicate (room - length d.found) None)
    ∙ (let e = length-replicate {A = Option ℕ} (room - length d.found) None in
    omega (arith, e, size, d.len_is)) in
    record {
      written = front ++ Some (code_of status) ∷ [];
      gives = subst (λ w. GivesBy (Ends device.identity) device disk (readable_of m buffers) w given)
          (let e : suc room ≡ w = omega (arith, all) in e) gives;
      each = length-append front (Some (code_of status) ∷ []) ∙ (omega (arith, front_size, all));
      memory =
          put ∙ ap (λ m. scatter m (drop room (writable_of buffers)) (code_of status ∷ [])) d.memory
          ∙ scattered-then_byte m (writable_of buffers) (map Some d.found) (code_of status)
          (room - length d.found) room (omega (arith, size, d.len_is));
      len_is = used_is d.found d.len_is;
      any_is = wrote-status front (code_of status);
    }
  where
    used_is : (found : List ℕ) → len ≡ length found
        → used ≡ used_len ((map Some found ++ replicate (room - length found) None)
        ++ Some (code_of status) ∷ [])
    used_is found e =
        elim (cases_lt len room) [
          | inl some ↦ part some ∙ e ∙ sym (used_len-found found room (code_of status) (omega (arith, e)))
          | inr rest ↦ whole (omega arith)
              ∙ sym (used_len-status found room (code_of status) (omega (arith, e)))
        ]

-- ---- from a request that is done to one whose status is written

used_whole : (len w : ℕ) → len + 1 ≡ w → used_by len w ≡ w
used_whole len w e = grind (arith, nat_tests)

used_part : (len w : ℕ) → len + 1 < w → used_by len w ≡ len
used_part len w h = grind (arith, nat_tests)

-- The chain of a request that is done is served once its status is written behind all else.
pub finished_does : (device : BlockDevice) (m done new : Memory) (buffers : List Buffer) (disk disk' : Disk)
    (request : Request) (room len used : ℕ) (status : RequestStatus) (any : Bool)
    → length (writable_of buffers) ≡ room + 1 → request ≡ request_of device (readable_of m buffers) room
    → IsDone device.identity request buffers m done disk disk' len status → len < length (writable_of buffers)
    → new ≡ with_status done buffers status → used ≡ used_by len (length (writable_of buffers)) → any ≡ true
    → Does (block_device device) m new buffers disk disk' used any
finished_does device m done new buffers disk disk' request room len used status any all is d
    fits put uses any_is =
    let last : length (writable_of buffers) - 1 ≡ room = omega (arith, all) in
    rw any_is (answer_does device m done new buffers disk disk' request room len used status all is d
    (omega (arith, fits, all))
    (put ∙ ap (λ k. scatter done (drop k (writable_of buffers)) (code_of status ∷ [])) last)
    (λ whole. uses ∙ used_whole len (length (writable_of buffers)) (omega (arith, whole, all)) ∙ all)
    (λ part. uses ∙ used_part len (length (writable_of buffers)) (omega (arith, part, all))))

-- The same of a chain that is served in two parts: it read what stood in memory as it asked, and what it found
-- stands there as its status is written.
pub finished_later : (device : BlockDevice) (asked old new : Memory) (buffers : List Buffer)
    (disk disk' : Disk) (found : List ℕ) (request : Request) (room len used : ℕ) (status : RequestStatus)
    → length (writable_of buffers) ≡ room + 1
    → request ≡ request_of device (readable_of asked buffers) room
    → Ends device.identity request (payload_of (readable_of asked buffers)) disk
    (record { disk = disk'; found = found; status = status })
    → len ≡ length found → scattered old (writable_of buffers) (map Some found) ≡ old
    → len < length (writable_of buffers)
    → new ≡ with_status old buffers status → used ≡ used_by len (length (writable_of buffers))
    → DoesLater (block_device device) asked old new buffers disk disk' used true
unfolding answer_does
finished_later device asked old new buffers disk disk' found request room len used status all is ends long
    stands fits put uses =
    let w = length (writable_of buffers) in
    let last : w - 1 ≡ room = omega (arith, all) in
    let there = scattered asked (writable_of buffers) (map Some found) in
    let size : length (map Some found) ≡ length found = length-map found Some in
    let put_there = scatter there (drop room (writable_of buffers)) (code_of status ∷ []) in
    let one : Does (block_device device) asked put_there buffers disk disk' used true =
    answer_does device asked there put_there buffers disk disk' request room len used status all is
    (record { found = found; ends = ends; len_is = long; memory = refl }) (omega (arith, fits, all)) refl
    (λ whole. uses ∙ used_whole len w (omega (arith, whole, all)) ∙ all)
    (λ part. uses ∙ used_part len w (omega (arith, part, all))) in
    record {
      written = one.written;
      gives = one.gives;
      each = one.each;
      memory =
          put ∙ ap (λ k. scatter old (drop k (writable_of buffers)) (code_of status ∷ [])) last
          ∙ ap (λ m. scatter m (drop room (writable_of buffers)) (code_of status ∷ [])) (sym stands)
          ∙ scattered-then_byte old (writable_of buffers) (map Some found) (code_of status)
          (room - length found) room (omega (arith, size, long, fits, all));
      len_is = one.len_is;
      any_is = one.any_is;
    }

-- a request that is neither refused nor asks for the identity asks the image
pub asks_by : (request : Request) → ((status : RequestStatus) → request ≢ Rejected status) → request ≢ GetId
    → asks_image request ≡ true
asks_by (Rejected status) p q = absurd (p status refl)
asks_by (Read sector count) p q = refl
asks_by (Write sector count) p q = refl
asks_by Flush p q = refl
asks_by GetId p q = absurd (q refl)
asks_by (WriteZeroes segments) p q = refl

-- what the host has put in place leaves room for the status
pub found_less : (what : OperationKind) (answer : Verdict) (w : ℕ) → 0 < w → found_by what answer (w - 1) < w
found_less kind.In verdict.Done w h = omega (arith, h)
found_less kind.In verdict.Failed w h = h
found_less kind.Out answer w h = h
found_less kind.Flush answer w h = h
found_less kind.Zeroes answer w h = h
