-- What is flushed stays flushed until an image call fails; and what a host said of its medium.
use Rattle.std.proofs.Common.{◌≡◌, inl, inr, ℕ, zero, suc, ◌≤◌, true, false, Option, Some, List, [], ◌∷◌, ◌++◌, length, refl, sym, ap, ◌∙◌, arith, subst}
use Rattle.std.specs.List.{slice_get}
use Rattle.chain.specs.Bytes.{readable_of, writable_of}
use Rattle.chain.specs.Service.{Given, Served, ServesAll, Site, after}
use Rattle.sector_cache.specs.Disk.{Disk, KeepsClean}
use Rattle.mmio_window.specs.declared.queue.Queue.{Queue}
use Rattle.mmio_window.specs.Queue.{queue_kind}
use Rattle.block_device.specs.declared.device.BlockDevice.{BlockDevice}
use Rattle.block_device.specs.declared.request.Request.{Request}
use Rattle.block_device.specs.declared.request.Request.TheVariants.{Rejected, Read, Write, Flush, GetId, WriteZeroes}
use Rattle.block_device.specs.declared.request.RequestStatus.{RequestStatus}
use Rattle.block_device.specs.declared.request.RequestStatus.TheVariants.{Success, IoError, Unsupported}
use Rattle.block_device.specs.Device.{GivesBy, block_device}
use Rattle.block_device.specs.Durable.{Completion, IsCommitted, IsUnwritten, KeepsWordIn, Medium, ends_by_flush, must_last}
use Rattle.block_device.specs.Outcome.{Completes, Ends, Fails, Outcome, completed}
use Rattle.block_device.specs.Request.{code_of, payload_of, request_of}
use Rattle.block_device.proofs.Requests.{fails_counted, gives_exact, gives_rises}

-- ---- a request

-- where no call failed, one leaves a clean disk clean
completed_clean : (request : Request) (payload found : List ℕ) (disk : Disk) → disk.dirty ≡ false
    → (completed request payload found disk).disk.dirty ≡ false
completed_clean (Rejected status) payload found disk clean = clean
completed_clean (Read sector count) payload found disk clean = clean
completed_clean (Write sector count) payload found disk clean = refl
completed_clean Flush payload found disk clean = refl
completed_clean GetId payload found disk clean = clean
completed_clean (WriteZeroes segments) payload found disk clean = refl

pub exact_clean : (device : BlockDevice) (disk : Disk) (readable : List ℕ) (w : ℕ) (given : Given Disk)
    → disk.dirty ≡ false → GivesBy (Completes device.identity) device disk readable w given
    → given.state.dirty ≡ false
exact_clean device disk readable zero given clean h = ap (λ (g : Given Disk). g.state.dirty) h ∙ clean
exact_clean device disk readable (suc room) given clean h =
    ap (λ (g : Given Disk). g.state.dirty) h.given_is
    ∙ ap (λ (o : Outcome). o.disk.dirty) h.is.is
    ∙ completed_clean (request_of device readable room) (payload_of readable) h.is.found disk clean

pub ends_clean : (identity : List ℕ) (request : Request) (payload : List ℕ) (disk : Disk) (outcome : Outcome)
    → Ends identity request payload disk outcome → KeepsClean disk outcome.disk
ends_clean identity request payload disk outcome (inl c) = λ same clean.
    ap (λ (o : Outcome). o.disk.dirty) c.is ∙ completed_clean request payload c.found disk clean
ends_clean identity request payload disk outcome (inr f) = λ same clean.
    let more = fails_counted request payload disk outcome f in absurd (omega (arith, more, same))

gives_clean : (device : BlockDevice) (disk : Disk) (readable : List ℕ) (w : ℕ) (given : Given Disk)
    → GivesBy (Ends device.identity) device disk readable w given → KeepsClean disk given.state
gives_clean device disk readable w given h =
    λ e clean. exact_clean device disk readable w given clean (gives_exact device disk readable w given h e)

-- one that ends by a flush leaves the disk clean, also where it was dirty
completed_flushed : (request : Request) (payload found : List ℕ) (disk : Disk) → ends_by_flush request ≡ true
    → (completed request payload found disk).disk.dirty ≡ false
completed_flushed (Rejected status) payload found disk ends = absurd (cc ends)
completed_flushed (Read sector count) payload found disk ends = absurd (cc ends)
completed_flushed (Write sector count) payload found disk ends = refl
completed_flushed Flush payload found disk ends = refl
completed_flushed GetId payload found disk ends = absurd (cc ends)
completed_flushed (WriteZeroes segments) payload found disk ends = refl

fails_told : (request : Request) (payload : List ℕ) (disk : Disk) (outcome : Outcome)
    → Fails request payload disk outcome → outcome.status ≡ IoError
fails_told (Rejected status) payload disk outcome h = absurd h
fails_told (Read sector count) payload disk outcome h = ap (λ (o : Outcome). o.status) h.is
fails_told (Write sector count) payload disk outcome (inl h) = ap (λ (o : Outcome). o.status) h.is
fails_told (Write sector count) payload disk outcome (inr h) = ap (λ (o : Outcome). o.status) h
fails_told Flush payload disk outcome h = ap (λ (o : Outcome). o.status) h
fails_told GetId payload disk outcome h = absurd h
fails_told (WriteZeroes segments) payload disk outcome (inl h) = ap (λ (o : Outcome). o.status) h.is
fails_told (WriteZeroes segments) payload disk outcome (inr h) = ap (λ (o : Outcome). o.status) h

-- the last of two lists that are the same
last_same : (xs ys : List (Option ℕ)) (x y : Option ℕ) → xs ++ x ∷ [] ≡ ys ++ y ∷ [] → x ≡ y
last_same [] [] x y e = cc e
last_same [] (b ∷ []) x y e = absurd (cc e)
last_same [] (b ∷ c ∷ ys) x y e = absurd (cc e)
last_same (a ∷ []) [] x y e = absurd (cc e)
last_same (a ∷ c ∷ xs) [] x y e = absurd (cc e)
last_same (a ∷ xs) (b ∷ ys) x y e = last_same xs ys x y (cc e)

some_code : (status : RequestStatus) → Some (code_of status) ≡ Some 0 → status ≡ Success
some_code Success e = refl
some_code IoError e = absurd (cc e)
some_code Unsupported e = absurd (cc e)

gives_flushed : (device : BlockDevice) (disk : Disk) (readable : List ℕ) (room : ℕ) (given : Given Disk)
    (front : List (Option ℕ)) → GivesBy (Ends device.identity) device disk readable (suc room) given
    → ends_by_flush (request_of device readable room) ≡ true → given.written ≡ front ++ Some 0 ∷ []
    → given.state.dirty ≡ false
gives_flushed device disk readable room given front h ends told =
    let request = request_of device readable room in
    let status : h.outcome.status ≡ Success =
    some_code h.outcome.status (last_same _ front (Some (code_of h.outcome.status)) (Some 0)
    (sym (ap (λ (g : Given Disk). g.written) h.given_is) ∙ told)) in
    elim h.is [
      | inl c ↦
          ap (λ (g : Given Disk). g.state.dirty) h.given_is
          ∙ ap (λ (o : Outcome). o.disk.dirty) c.is
          ∙ completed_flushed request (payload_of readable) c.found disk ends
      | inr f ↦ let failed : Success ≡ IoError = sym status
          ∙ fails_told request (payload_of readable) disk h.outcome f in absurd (cc failed)
    ]

-- ---- a service

serves_rises : (device : BlockDevice) (start at : Site Queue Disk) (chains : List (Served Disk))
    → ServesAll queue_kind (block_device device) start chains at → start.state.failures ≤ at.state.failures
serves_rises device start at [] p = let same : start.state.failures ≡ at.state.failures =
    ap (λ (s : Site Queue Disk). s.state.failures) p in omega arith
serves_rises device start at (s ∷ chains) p =
    let here = gives_rises device start.state (readable_of start.memory s.buffers)
    (length (writable_of s.buffers)) s.given p.0.gives in
    let rest : s.given.state.failures ≤ at.state.failures =
    serves_rises device (after queue_kind (block_device device) start s) at chains p.1 in
    omega (arith, here, rest)

pub serves_clean : (device : BlockDevice) (start at : Site Queue Disk) (chains : List (Served Disk))
    → ServesAll queue_kind (block_device device) start chains at → KeepsClean start.state at.state
serves_clean device start at [] p = λ e clean. ap (λ (s : Site Queue Disk). s.state.dirty) (sym p) ∙ clean
serves_clean device start at (s ∷ chains) p = λ e clean.
    let here = gives_rises device start.state (readable_of start.memory s.buffers)
    (length (writable_of s.buffers)) s.given p.0.gives in
    let rest : s.given.state.failures ≤ at.state.failures =
    serves_rises device (after queue_kind (block_device device) start s) at chains p.1 in
    let same : s.given.state.failures ≡ start.state.failures = omega (arith, here, rest, e) in
    let left : at.state.failures ≡ s.given.state.failures = e ∙ sym same in
    serves_clean device (after queue_kind (block_device device) start s) at chains p.1 left
    (gives_clean device start.state (readable_of start.memory s.buffers) (length (writable_of s.buffers))
    s.given p.0.gives same clean)

pub committed_clean : (device : BlockDevice) (start at : Site Queue Disk) (s : Served Disk)
    (later : List (Served Disk)) → ServesAll queue_kind (block_device device) start (s ∷ later) at
    → IsCommitted device start.memory s
    → at.state.failures ≡ s.given.state.failures → at.state.dirty ≡ false
committed_clean device start at s later p committed same =
    let readable = readable_of start.memory s.buffers in
    let all : length (writable_of s.buffers) ≡ suc committed.room = omega (arith, committed.all) in
    let gives : GivesBy (Ends device.identity) device start.state readable (suc committed.room) s.given =
    subst (λ (w : ℕ). GivesBy (Ends device.identity) device start.state readable w s.given) all p.0.gives in
    serves_clean device (after queue_kind (block_device device) start s) at later p.1 same
    (gives_flushed device start.state readable committed.room s.given committed.front gives
    committed.request committed.told)

-- ---- a host

word_kept : (later : List Completion) (old new : Medium) (place : ℕ) → KeepsWordIn old later new
    → IsUnwritten place later → slice_get old.left place ≡ slice_get old.held place
    → slice_get new.left place ≡ slice_get new.held place
word_kept [] old new place same unwritten here = rw same here
word_kept (done ∷ later) old new place (mid, word, rest) unwritten here =
    word_kept later mid new place rest unwritten.1
    (elim (word.left place unwritten.0) [
      | inl same ↦ same ∙ here ∙ sym (word.held place unwritten.0)
      | inr read ↦ read
    ])

pub word_lasts : (done : Completion) (later : List Completion) (old new : Medium) (place : ℕ)
    → KeepsWordIn old (done ∷ later) new → must_last done place ≡ true → IsUnwritten place later
    → slice_get new.left place ≡ slice_get new.held place
word_lasts done later old new place (mid, word, rest) lasts unwritten =
    word_kept later mid new place rest unwritten (word.lasts place lasts)
