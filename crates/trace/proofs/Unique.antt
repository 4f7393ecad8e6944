-- A text belongs to one trace, and the text of a trace has no fault.
use Rattle.std.proofs.Common.{◌≡◌, ℕ, zero, suc, ◌+◌, ◌*◌, ◌-◌, ◌^◌, ◌<◌, ◌≤◌, Bool, true, false, List, [], ◌∷◌, ◌++◌, All, length, get_or, drop, take, map, Result, Ok, refl, sym, ap, subst, ◌∙◌, arith, inl, inr}
use Rattle.std.proofs.lemmas.List.{append_cancel_right, append-nil, drop_at, get_or_past, take_at}
use Rattle.std.specs.List.{flat_map}
use Rattle.std.specs.Prelude.{⊤}
use Rattle.std.proofs.lemmas.Bool.{cases_eq, cases_lt, cases_order}
use Rattle.hex.specs.Hex.{decode_of, encode_lower, lower_digits}
use Rattle.hex.proofs.HexLemmas.{decode_of-encode_lower, length-encode_with}
use Rattle.hex.specs.declared.error.FromHexError.{FromHexError}
use Rattle.block_device.specs.declared.operation.Verdict.{Verdict}
use Rattle.block_device.specs.declared.operation.Verdict.TheVariants.{Done, Failed}
use Rattle.board.specs.declared.event.SlotWindow.{SlotWindow}
use Rattle.board.specs.declared.event.SlotWindow.TheVariants.{Block, Console}
use Rattle.board.specs.declared.event.Event.{Event}
use Rattle.board.specs.declared.event.EventKind.{EventKind}
use Rattle.board.specs.declared.event.EventKind.TheVariants as what
use Rattle.block_device.specs.declared.operation.HostEvent.{HostEvent}
use Rattle.block_device.specs.declared.operation.HostEvent.TheVariants as host
use Rattle.board.specs.declared.event.DeviceEvent.{DeviceEvent}
use Rattle.board.specs.declared.event.DeviceEvent.TheVariants as device
use Rattle.device_list.specs.declared.spec.DeviceSpec.{DeviceSpec}
use Rattle.device_list.specs.declared.spec.DeviceSpec.TheVariants as spec
use Rattle.board.specs.declared.spec.Backing.{Backing}
use Rattle.board.specs.declared.spec.Backing.TheVariants.{Image, Host}
use Rattle.board.specs.declared.spec.SlotSpec.{SlotSpec}
use Rattle.block_device.specs.declared.extent.Extent.{Extent}
use Rattle.guest_memory.specs.declared.spec.RegionSpec.{RegionSpec}
use Rattle.trace.specs.declared.format.Format.{Format}
use Rattle.trace.specs.declared.format.Format.TheVariants.{Plain, Extended}
use Rattle.trace.specs.declared.format.Version.TheVariants.{One, Two}
use Rattle.trace.specs.declared.fault.FaultKind.{FaultKind}
use Rattle.trace.specs.declared.fault.FaultKind.TheVariants as kind
use Rattle.trace.specs.declared.word.Word.TheVariants.{Slot}
use Rattle.trace.specs.Cuts.{fields_of, lines_of, parts}
use Rattle.trace.specs.Faults.{IsCleanBefore, IsEnded, IsFault, Passes, line_at, order}
use Rattle.trace.specs.Printable.{DoneInRange, IsPrintableDone, IsPrintableKind, IsPrintableMemory, IsWriteAccess, KindInRange}
use Rattle.trace.specs.Refusals.{IsFine, IsFineSlot}
use Rattle.hexadecimal.specs.Spelling.{bytes, fixed, num}
use Rattle.trace.specs.Spelling.{card, device_kind, spec_fields, disk, link_state, mode, region_text, verdict, window}
use Rattle.trace.specs.Text.{Content, cache_line, device_fields, disk_fields, event_fields, event_line, memory_fields, region_fields, slot_fields, slot_line, text, trace_lines, host_fields, what_fields, word_for}
use Rattle.trace.specs.Words.{CardInRange, SpecInRange, StandsBeside, spelled}
use Rattle.hexadecimal.proofs.ByteFields.{AreBytes, is_bytes}
use Rattle.trace.proofs.FaultKinds.{same_kind}
use Rattle.trace.proofs.Entries.{behind, cut_cache, cut_event, cut_slot, entered_event, entered_slot, fits_digits, same_word}
use Rattle.trace.proofs.Cards.{address_long}
use Rattle.trace.proofs.Clean.{same_header}
use Rattle.hexadecimal.proofs.Numbers.{same_fixed, same_num}
use Rattle.trace.proofs.Pairs.{colon, same_pair}
use Rattle.trace.proofs.RegionFields.{region_parts, regions_parts}
use Rattle.trace.proofs.Signs.{lines_of-joined}
use Rattle.trace.proofs.Sofar.{Fits, Sofar, clean, lines_left, next_is, unbroken}
use Rattle.trace.proofs.Formats.{word_of_extended}

-- ---- fields

same_window : (a b : SlotWindow) → window a ≡ window b → a ≡ b
same_window Block Block e = refl
same_window Console Console e = refl
same_window a b e = absurd (omega (arith, ap (λ (xs : List ℕ). get_or xs 0 0) e))

same_mode : (a b : Bool) → mode a ≡ mode b → a ≡ b
same_mode false false e = refl
same_mode true true e = refl
same_mode a b e = absurd (omega (arith, ap (λ (xs : List ℕ). get_or xs 1 0) e))

same_verdict : (a b : Verdict) → verdict a ≡ verdict b → a ≡ b
same_verdict Done Done e = refl
same_verdict Failed Failed e = refl
same_verdict a b e = absurd (omega (arith, ap length e))

ok_is : (x y : List ℕ) (r : Result (List ℕ) FromHexError) → r ≡ Ok x → r ≡ Ok y → x ≡ y
ok_is x y r p q = cc

same_bytes : (xs ys : List ℕ) → AreBytes xs → AreBytes ys → bytes xs ≡ bytes ys → xs ≡ ys
unfolding bytes
same_bytes [] [] hx hy e = refl
same_bytes [] (y ∷ ys) hx hy e = absurd (omega (arith, ap length e, length-encode_with lower_digits (y ∷ ys)))
same_bytes (x ∷ xs) [] hx hy e = absurd (omega (arith, ap length e, length-encode_with lower_digits (x ∷ xs)))
same_bytes (x ∷ xs) (y ∷ ys) hx hy e =
    ok_is (x ∷ xs) (y ∷ ys) (decode_of (encode_lower (x ∷ xs)))
    (decode_of-encode_lower (x ∷ xs) (is_bytes (x ∷ xs) hx)) (ap decode_of e
    ∙ decode_of-encode_lower (y ∷ ys) (is_bytes (y ∷ ys) hy))

-- the field at a place of equal lists
same_at : {fs gs : List (List ℕ)} → fs ≡ gs → (i : ℕ) → get_or fs i [] ≡ get_or gs i []
same_at e i = ap (λ (xs : List (List ℕ)). get_or xs i []) e

-- lists of equal texts, where a text is one element's
same_list : {X Y : Type 0} (P : X → Type 0) (f : X → Y) → ((x y : X) → P x → P y → f x ≡ f y → x ≡ y)
    → (xs ys : List X) → All P xs → All P ys → map f xs ≡ map f ys → xs ≡ ys
same_list P f one [] [] hx hy e = refl
same_list P f one (x ∷ xs) (y ∷ ys) hx hy e =
    let first : f x ≡ f y = cc in
    let others : map f xs ≡ map f ys = cc in
    let a = one x y (hx 0 x (omega arith)) (hy 0 y (omega arith)) first in
    let b = same_list P f one xs ys (λ k d lt. hx (suc k) d (omega arith))
    (λ k d lt. hy (suc k) d (omega arith)) others in
    cc
same_list P f one xs ys hx hy e = absurd cc

-- ---- lines

made_slot : List RegionSpec → ℕ → ℕ → ℕ → Backing → Bool → ℕ → ℕ → List ℕ → SlotSpec
made_slot regions start count spare backing read_only cols rows identity =
    record {
      regions = regions;
      extent = record { start = start; count = count };
      spare = spare;
      backing = backing;
      read_only = read_only;
      cols = cols;
      rows = rows;
      identity = identity;
    }

same_slot : (rs ss : List RegionSpec) (a b c d e f : ℕ) (i j : Backing) (p q : Bool) (k l m n : ℕ) (xs ys : List ℕ)
    → rs ≡ ss → a ≡ b → c ≡ d → e ≡ f → i ≡ j → p ≡ q → k ≡ l → m ≡ n → xs ≡ ys
    → made_slot rs a c e i p k m xs ≡ made_slot ss b d f j q l n ys
same_slot rs ss a b c d e f i j p q k l m n xs ys regions start count spare backing read_only cols rows identity =
    rw (regions, start, count, spare, backing, read_only, cols, rows, identity) refl

-- lists with equally long fronts
same_halves : (xs ys ls rs : List (List ℕ)) → length xs ≡ length ys → xs ++ ls ≡ ys ++ rs
    → (xs ≡ ys) × (ls ≡ rs)
same_halves xs ys ls rs e h = (
  sym (take_at xs ls (length ys) e) ∙ ap (take (length ys)) h ∙ take_at ys rs (length ys) refl,
  sym (drop_at xs ls (length ys) e) ∙ ap (drop (length ys)) h ∙ drop_at ys rs (length ys) refl,
)

one_region : (r s : RegionSpec) → r.base ≡ s.base → r.len ≡ s.len → r ≡ s
one_region r s base len =
    ap (λ (n : ℕ). record { base = n; len = r.len }) base
    ∙ ap (λ (n : ℕ). record { base = s.base; len = n }) len

-- the memories of slots of one format: one region by its two fields
same_single : (rs ss : List RegionSpec) → length rs ≡ 1 → length ss ≡ 1
    → flat_map region_fields rs ≡ flat_map region_fields ss → rs ≡ ss
same_single [] ss hr hs e = absurd (omega (arith, hr))
same_single (r ∷ rs) [] hr hs e = absurd (omega (arith, hs))
same_single (r ∷ (q ∷ rs)) (s ∷ ss) hr hs e = absurd (omega (arith, hr))
same_single (r ∷ []) (s ∷ (q ∷ ss)) hr hs e = absurd (omega (arith, hs))
same_single (r ∷ []) (s ∷ []) hr hs e =
    ap (λ (x : RegionSpec). x ∷ [])
    (one_region r s (same_num r.base s.base (same_at e 0)) (same_num r.len s.len (same_at e 1)))

-- all regions by one field
same_region : (r s : RegionSpec) → region_text r ≡ region_text s → r ≡ s
same_region r s e =
    let both = sym (region_parts r) ∙ ap (parts 43) e ∙ region_parts s in
    one_region r s (same_num r.base s.base (same_at both 0)) (same_num r.len s.len (same_at both 1))

same_each : (rs ss : List RegionSpec) → map region_text rs ≡ map region_text ss → rs ≡ ss
same_each rs ss e =
    same_list (λ _. ⊤) region_text (λ r s _ _. same_region r s) rs ss (λ k d lt. tt) (λ k d lt. tt) e

same_memory : (format : Format) (rs ss : List RegionSpec) → IsPrintableMemory format (length rs)
    → IsPrintableMemory format (length ss) → memory_fields format rs ≡ memory_fields format ss → rs ≡ ss
same_memory Extended rs ss hr hs e =
    same_each rs ss (sym (regions_parts rs hr) ∙ ap (parts 44) (same_at e 0) ∙ regions_parts ss hs)
same_memory (Plain version) rs ss hr hs e = same_single rs ss hr hs e

equally_long : (format : Format) (rs ss : List RegionSpec) → IsPrintableMemory format (length rs)
    → IsPrintableMemory format (length ss)
    → length (memory_fields format rs) ≡ length (memory_fields format ss)
equally_long Extended rs ss hr hs = refl
equally_long (Plain version) [] ss hr hs = absurd (omega (arith, hr))
equally_long (Plain version) (r ∷ rs) [] hr hs = absurd (omega (arith, hs))
equally_long (Plain version) (r ∷ (q ∷ rs)) (s ∷ ss) hr hs = absurd (omega (arith, hr))
equally_long (Plain version) (r ∷ []) (s ∷ (q ∷ ss)) hr hs = absurd (omega (arith, hs))
equally_long (Plain version) (r ∷ []) (s ∷ []) hr hs = refl

-- who has the disks of slots of one format, and what stands behind that
same_spare : (m n : ℕ) → disk Image m ≡ disk Image n → m ≡ n
same_spare zero zero e = refl
same_spare (suc m) (suc n) e = same_num (suc m) (suc n) (ap (drop 6) e)
same_spare zero (suc n) e = absurd (omega (arith, ap (λ (xs : List ℕ). get_or xs 5 0) e))
same_spare (suc m) zero e = absurd (omega (arith, ap (λ (xs : List ℕ). get_or xs 5 0) e))

-- an image's field begins with another byte than a host's
image_first : (spare : ℕ) → get_or (disk Image spare) 0 0 ≡ 105
image_first zero = refl
image_first (suc n) = refl

same_backing : (b c : Backing) (m n : ℕ) → StandsBeside b m → StandsBeside c n → disk b m ≡ disk c n
    → (b ≡ c) × (m ≡ n)
same_backing Image Image m n hm hn e = (refl, same_spare m n e)
same_backing (Host depth) (Host other) m n hm hn e =
    (ap Host (same_num depth other (ap (drop 5) e)), hm ∙ sym hn)
same_backing Image (Host other) m n hm hn e =
    absurd (omega (arith, image_first m, ap (λ (xs : List ℕ). get_or xs 0 0) e))
same_backing (Host depth) Image m n hm hn e =
    absurd (omega (arith, image_first n, ap (λ (xs : List ℕ). get_or xs 0 0) e))

same_disk : (format : Format) (s t : SlotSpec) → IsFineSlot format s → IsFineSlot format t
    → disk_fields format s.backing s.spare ++ behind format s ≡ disk_fields format t.backing t.spare ++ behind format t
    → ((s.backing ≡ t.backing) × (s.spare ≡ t.spare)) × (behind format s ≡ behind format t)
same_disk (Plain version) s t fs ft e =
    let one = fs.printable.disk in
    let other = ft.printable.disk in
    ((one.0 ∙ sym other.0, one.1 ∙ sym other.1), e)
same_disk Extended s t fs ft e = (
  same_backing s.backing t.backing s.spare t.spare fs.printable.disk ft.printable.disk (same_at e 0),
  ap (drop 1) e,
)

-- the identities of slots of one format
same_identity : (format : Format) (s t : SlotSpec) → IsFineSlot format s → IsFineSlot format t
    → behind format s ≡ behind format t → s.identity ≡ t.identity
same_identity (Plain One) s t fs ft e = fs.printable.identity refl ∙ sym (ft.printable.identity refl)
same_identity (Plain Two) s t fs ft e =
    same_bytes s.identity t.identity fs.fits.identity ft.fits.identity (same_at e 5)
same_identity Extended s t fs ft e =
    same_bytes s.identity t.identity fs.fits.identity ft.fits.identity (same_at e 5)

same_slot_fields : (format : Format) (s t : SlotSpec) → IsFineSlot format s → IsFineSlot format t
    → slot_fields format s ≡ slot_fields format t → s ≡ t
unfolding made_slot
same_slot_fields format s t fs ft e =
    let long = equally_long format s.regions t.regions fs.printable.memory ft.printable.memory in
    let halves = same_halves (memory_fields format s.regions) (memory_fields format t.regions)
    (disk_fields format s.backing s.spare ++ behind format s) (disk_fields format t.backing t.spare ++ behind format t)
    long (ap (drop 1) e) in
    let disks = same_disk format s t fs ft halves.1 in
    let regions = same_memory format s.regions t.regions fs.printable.memory ft.printable.memory halves.0 in
    let start = same_num s.extent.start t.extent.start (same_at disks.1 0) in
    let count = same_num s.extent.count t.extent.count (same_at disks.1 1) in
    let read_only = same_mode s.read_only t.read_only (same_at disks.1 2) in
    let cols = same_num s.cols t.cols (same_at disks.1 3) in
    let rows = same_num s.rows t.rows (same_at disks.1 4) in
    let identity = same_identity format s t fs ft disks.1 in
    same_slot s.regions t.regions s.extent.start t.extent.start s.extent.count t.extent.count s.spare t.spare
    s.backing t.backing s.read_only t.read_only s.cols t.cols s.rows t.rows s.identity t.identity regions start count
    disks.0.1 disks.0.0 read_only cols rows identity

-- the first three bytes of the first field, which differ for each event's word
sign : List (List ℕ) → ℕ
sign fs = (get_or (get_or fs 0 []) 0 0 * 1000 + get_or (get_or fs 0 []) 1 0) * 1000 + get_or (get_or fs 0 []) 2 0

-- values by equal widths
same_value : (w x u v o p : ℕ) → w ≡ x → IsWriteAccess o w u → IsWriteAccess p x v
    → fixed (2 * w) u ≡ fixed (2 * x) v → u ≡ v
same_value w x u v o p same one other e =
    same_fixed (2 * x) u v (subst (λ (k : ℕ). u < 16 ^ (2 * k)) same
    (fits_digits w u one.access.wide one.within)) (fits_digits x v other.access.wide other.within)
    (ap (λ (k : ℕ). fixed (2 * k) u) (sym same) ∙ e)

same_said : (m n : ℕ) (v w : HostEvent) → host_fields m v ≡ host_fields n w → (m ≡ n) × (v ≡ w)
unfolding sign
same_said m n (host.Complete t a) (host.Complete u b) e =
    let tag = same_num t u (same_at e 2) in
    let came = same_verdict a b (same_at e 3) in
    (same_num m n (same_at e 1), cc)
same_said m n host.Drop host.Drop e = (same_num m n (same_at e 1), refl)
same_said m n host.Hold host.Hold e = (same_num m n (same_at e 1), refl)
same_said m n host.Release host.Release e = (same_num m n (same_at e 1), refl)
same_said m n v w e = absurd (omega (arith, ap sign e))

-- what a host says of its disk is nothing that is done to a further device
said_not_done : {A : Type 0} (m : ℕ) (v : HostEvent) (n d : ℕ) (x : DeviceEvent A)
    → host_fields m v ≡ device_fields n d x → ⊥
unfolding sign
said_not_done m host.Drop n d (device.Host host.Drop) e = omega (arith, ap sign e)
said_not_done m v n d (device.Host host.Drop) e = omega (arith, ap sign e)
said_not_done m host.Drop n d x e = omega (arith, ap sign e)
said_not_done m v n d x e = omega (arith, ap sign e)

-- it is nothing else
other_said : {A : Type 0} (m : ℕ) (v : HostEvent) (n : ℕ) (w : EventKind A)
    → ((x : HostEvent) → w ≡ what.Host x → ⊥) → host_fields m v ≡ what_fields n w → ⊥
unfolding sign
other_said m v n (what.Host x) none e = none x refl
other_said m v n (what.Device d x) none e = said_not_done m v n d x e
other_said m host.Drop n w none e = omega (arith, ap sign e)
other_said m v n w none e = omega (arith, ap sign e)

same_card : (xs ys : List ℕ) (m n : ℕ) → CardInRange xs m → CardInRange ys n → card xs m ≡ card ys n
    → (xs ≡ ys) × (m ≡ n)
same_card xs ys m n hx hy e =
    let lx = address_long xs hx.six in
    let ly = address_long ys hy.six in
    let front : bytes xs ≡ bytes ys =
    sym (take_at (bytes xs) (58 ∷ num m) 12 lx) ∙ ap (take 12) e ∙ take_at (bytes ys) (58 ∷ num n) 12 ly in
    let back : 58 ∷ num m ≡ 58 ∷ num n =
    sym (drop_at (bytes xs) (58 ∷ num m) 12 lx) ∙ ap (drop 12) e ∙ drop_at (bytes ys) (58 ∷ num n) 12 ly in
    (same_bytes xs ys hx.each hy.each front, same_num m n (ap (drop 1) back))

one_extent : (a b : Extent) → a.start ≡ b.start → a.count ≡ b.count → a ≡ b
one_extent a b start count =
    ap (λ (n : ℕ). record { start = n; count = a.count }) start
    ∙ ap (λ (n : ℕ). record { start = b.start; count = n }) count

same_spec : (a b : DeviceSpec) → SpecInRange a → SpecInRange b
    → device_kind a ∷ spec_fields a ≡ device_kind b ∷ spec_fields b → a ≡ b
same_spec spec.Entropy spec.Entropy ra rb e = refl
same_spec (spec.Network xs m) (spec.Network ys n) ra rb e =
    let both = same_card xs ys m n ra rb (ap (drop 8) (same_at e 0)) in
    ap (λ (zs : List ℕ). spec.Network zs m) both.0 ∙ ap (spec.Network ys) both.1
same_spec (spec.Block s r xs d) (spec.Block t q ys f) ra rb e =
    let sectors = same_num s t (same_at e 1) in
    let read_only = same_mode r q (same_at e 2) in
    let identity = same_bytes xs ys ra.each rb.each (same_at e 3) in
    let depth = same_num d f (same_at e 4) in
    cc
same_spec (spec.Image a r xs) (spec.Image b q ys) ra rb e =
    let extent = one_extent a b (same_num a.start b.start (same_at e 1)) (same_num a.count b.count (same_at e 2)) in
    let read_only = same_mode r q (same_at e 3) in
    let identity = same_bytes xs ys ra.each rb.each (same_at e 4) in
    cc
same_spec (spec.Console c r) (spec.Console d s) ra rb e =
    let both = same_pair 58 c r d s colon (ap (drop 8) (same_at e 0)) in
    ap (λ (n : ℕ). spec.Console n r) both.0 ∙ ap (spec.Console d) both.1
same_spec a b ra rb e = absurd (omega (arith, ap (λ (xs : List ℕ). get_or xs 0 0) (same_at e 0)))

same_link : (a b : Bool) → link_state a ≡ link_state b → a ≡ b
same_link true true e = refl
same_link false false e = refl
same_link a b e = absurd (omega (arith, ap length e))

-- what is done to a further device
same_done : {A : Type 0} (m n d f : ℕ) (v w : DeviceEvent A) → DoneInRange v → DoneInRange w → IsPrintableDone v
    → IsPrintableDone w → device_fields m d v ≡ device_fields n f w → (m ≡ n) × ((d ≡ f) × (v ≡ w))
unfolding sign
same_done m n d f (device.Plug a) (device.Plug b) rv rw' fv fw e = (
  same_num m n (same_at e 1),
  (same_num d f (same_at e 2), ap device.Plug (same_spec a b rv rw' (ap (drop 3) e))),
)
same_done m n d f (device.Read o w) (device.Read p x) rv rw' fv fw e =
    let offset = same_fixed 3 o p fv.three_digits fw.three_digits (same_at e 3) in
    let width : w ≡ x = omega (arith, ap (λ (xs : List ℕ). get_or xs 0 0) (same_at e 4)) in
    (same_num m n (same_at e 1), (same_num d f (same_at e 2), cc))
same_done m n d f (device.Write o w u) (device.Write p x v) rv rw' fv fw e =
    let offset = same_fixed 3 o p fv.access.three_digits fw.access.three_digits (same_at e 3) in
    let width : w ≡ x = omega (arith, ap (λ (xs : List ℕ). get_or xs 0 0) (same_at e 4)) in
    let value = same_value w x u v o p width fv fw (same_at e 5) in
    (same_num m n (same_at e 1), (same_num d f (same_at e 2), cc))
same_done m n d f (device.Supply xs) (device.Supply ys) rv rw' fv fw e = (
  same_num m n (same_at e 1),
  (same_num d f (same_at e 2), ap device.Supply (same_bytes xs ys rv.each rw'.each (same_at e 3))),
)
same_done m n d f (device.Receive xs) (device.Receive ys) rv rw' fv fw e = (
  same_num m n (same_at e 1),
  (same_num d f (same_at e 2), ap device.Receive (same_bytes xs ys rv.each rw'.each (same_at e 3))),
)
same_done m n d f device.TakeSent device.TakeSent rv rw' fv fw e =
    (same_num m n (same_at e 1), (same_num d f (same_at e 2), refl))
same_done m n d f device.DropSent device.DropSent rv rw' fv fw e =
    (same_num m n (same_at e 1), (same_num d f (same_at e 2), refl))
same_done m n d f (device.SetLink a) (device.SetLink b) rv rw' fv fw e = (
  same_num m n (same_at e 1),
  (same_num d f (same_at e 2), ap device.SetLink (same_link a b (same_at e 3))),
)
same_done m n d f (device.Resize c r) (device.Resize p q) rv rw' fv fw e =
    let cols = same_num c p (same_at e 3) in
    let rows = same_num r q (same_at e 4) in
    (same_num m n (same_at e 1), (same_num d f (same_at e 2), cc))
same_done m n d f (device.Host (host.Complete t a)) (device.Host (host.Complete u b)) rv rw' fv fw e =
    let tag = same_num t u (same_at e 3) in
    let came = same_verdict a b (same_at e 4) in
    (same_num m n (same_at e 1), (same_num d f (same_at e 2), cc))
same_done m n d f (device.Host host.Drop) (device.Host host.Drop) rv rw' fv fw e =
    (same_num m n (same_at e 1), (same_num d f (same_at e 2), refl))
same_done m n d f (device.Host host.Hold) (device.Host host.Hold) rv rw' fv fw e =
    (same_num m n (same_at e 1), (same_num d f (same_at e 2), refl))
same_done m n d f (device.Host host.Release) (device.Host host.Release) rv rw' fv fw e =
    (same_num m n (same_at e 1), (same_num d f (same_at e 2), refl))
same_done m n d f v (device.Host host.Drop) rv rw' fv fw e = absurd (omega (arith, ap sign e))
same_done m n d f v w rv rw' fv fw e = absurd (omega (arith, ap sign e))

other_done : {A : Type 0} (m d : ℕ) (v : DeviceEvent A) (n : ℕ) (w : EventKind A)
    → ((f : ℕ) (x : DeviceEvent A) → w ≡ what.Device f x → ⊥) → device_fields m d v ≡ what_fields n w → ⊥
unfolding sign
other_done m d v n (what.Device f x) none e = none f x refl
other_done m d v n (what.Host x) none e = other_said n x m (what.Device d v) (λ y is. absurd cc) (sym e)
other_done m d (device.Host host.Drop) n w none e = omega (arith, ap sign e)
other_done m d v n w none e = omega (arith, ap sign e)

same_what : {A : Type 0} (m n : ℕ) (v w : EventKind A) → KindInRange v → KindInRange w → IsPrintableKind v
    → IsPrintableKind w → what_fields m v ≡ what_fields n w → (m ≡ n) × (v ≡ w)
unfolding sign
same_what m n (what.Read k o w) (what.Read l p x) rv rw' fv fw e =
    let kind = same_window k l (same_at e 2) in
    let offset = same_fixed 3 o p fv.three_digits fw.three_digits (same_at e 3) in
    let width : w ≡ x = omega (arith, ap (λ (xs : List ℕ). get_or xs 0 0) (same_at e 4)) in
    (same_num m n (same_at e 1), cc)
same_what m n (what.Write k o w u) (what.Write l p x v) rv rw' fv fw e =
    let kind = same_window k l (same_at e 2) in
    let offset = same_fixed 3 o p fv.access.three_digits fw.access.three_digits (same_at e 3) in
    let width : w ≡ x = omega (arith, ap (λ (xs : List ℕ). get_or xs 0 0) (same_at e 4)) in
    let value = same_value w x u v o p width fv fw (same_at e 5) in
    (same_num m n (same_at e 1), cc)
same_what m n (what.MemRead a l) (what.MemRead b k) rv rw' fv fw e =
    let addr = same_num a b (same_at e 2) in
    let len = same_num l k (same_at e 3) in
    (same_num m n (same_at e 1), cc)
same_what m n (what.MemWrite a xs) (what.MemWrite b ys) rv rw' fv fw e =
    let addr = same_num a b (same_at e 2) in
    let data' = same_bytes xs ys rv.each rw'.each (same_at e 3) in
    (same_num m n (same_at e 1), cc)
same_what m n (what.Input xs) (what.Input ys) rv rw' fv fw e =
    (same_num m n (same_at e 1), ap what.Input (same_bytes xs ys rv.each rw'.each (same_at e 2)))
same_what m n (what.Resize a l) (what.Resize b k) rv rw' fv fw e =
    let cols = same_num a b (same_at e 2) in
    let rows = same_num l k (same_at e 3) in
    (same_num m n (same_at e 1), cc)
same_what m n (what.Restore xs) (what.Restore ys) rv rw' fv fw e =
    (same_num m n (same_at e 1), ap what.Restore (same_bytes xs ys rv.each rw'.each (same_at e 2)))
same_what m n (what.Host v) (what.Host w) rv rw' fv fw e =
    let both = same_said m n v w e in
    (both.0, ap what.Host both.1)
same_what m n (what.Host v) w rv rw' fv fw e = absurd (other_said m v n w (λ x is. absurd cc) e)
same_what m n v (what.Host w) rv rw' fv fw e = absurd (other_said n w m v (λ x is. absurd cc) (sym e))
same_what m n (what.Device d v) (what.Device f w) rv rw' fv fw e =
    let both = same_done m n d f v w rv.range rw'.range fv fw e in
    (both.0, ap (λ (k : ℕ). what.Device k v) both.1.0 ∙ ap (what.Device f) both.1.1)
same_what m n (what.Device d v) w rv rw' fv fw e = absurd (other_done m d v n w (λ f x is. absurd cc) e)
same_what m n v (what.Device d w) rv rw' fv fw e = absurd (other_done n d w m v (λ f x is. absurd cc) (sym e))
same_what m n v w rv rw' fv fw e = absurd (omega (arith, ap sign e))

pub same_event_fields : {A : Type 0} (d e : Event A) → IsFine d → IsFine e
    → event_fields d ≡ event_fields e → d ≡ e
same_event_fields d e fd fe h =
    let both = same_what d.slot e.slot d.what e.what fd.fits.what fe.fits.what fd.printable fe.printable h in
    ap (λ (n : ℕ). record { slot = n; what = d.what }) both.0
    ∙ ap (λ w. record { slot = e.slot; what = w }) both.1

same_slot_line : (format : Format) (s t : SlotSpec) → IsFineSlot format s → IsFineSlot format t
    → slot_line format s ≡ slot_line format t → s ≡ t
same_slot_line format s t fs ft e =
    same_slot_fields format s t fs ft (sym (cut_slot format s fs) ∙ ap fields_of e
    ∙ cut_slot format t ft)

same_event_line : {A : Type 0} (d e : Event A) → IsFine d → IsFine e → event_line d ≡ event_line e → d ≡ e
same_event_line d e hd he h =
    same_event_fields d e hd he (sym (cut_event d hd) ∙ ap fields_of h ∙ cut_event e he)

-- a slot's line is no event's
other_line : {A : Type 0} (format : Format) (s : SlotSpec) (e : Event A)
    → IsFineSlot format s → IsFine e → slot_line format s ≡ event_line e → ⊥
other_line format s e hs he h =
    let event = entered_event Extended e he (word_of_extended (word_for e.what)) in
    let slot = entered_slot format s hs in
    let words : spelled Slot ≡ spelled event.word =
    same_at (sym slot.cut ∙ ap fields_of h ∙ event.entry.cut) 0 in
    event.other (sym (same_word Slot event.word words))

-- ---- traces

abbrev AllFine : {A : Type 0} → List (Event A) → Type 0
AllFine es = All IsFine es

same_events : {A : Type 0} (ds es : List (Event A)) → AllFine ds → AllFine es
    → map event_line ds ≡ map event_line es → ds ≡ es
same_events ds es hd he e = same_list IsFine event_line same_event_line ds es hd he e

module _ {A : Type 0} (format : Format) where
  same_parts : (ss ts : List SlotSpec) (ds es : List (Event A)) → All (IsFineSlot format) ss
      → All (IsFineSlot format) ts → AllFine ds → AllFine es
      → map (slot_line format) ss ++ map event_line ds ≡ map (slot_line format) ts ++ map event_line es
      → (ss ≡ ts) × (ds ≡ es)
  same_parts [] [] ds es hs ht hd he e = (refl, same_events ds es hd he e)
  same_parts [] (t ∷ ts) [] es hs ht hd he e = absurd cc
  same_parts [] (t ∷ ts) (d ∷ ds) es hs ht hd he e =
      let first : event_line d ≡ slot_line format t = cc in
      absurd (other_line format t d (ht 0 t (omega arith)) (hd 0 d (omega arith)) (sym first))
  same_parts (s ∷ ss) [] ds [] hs ht hd he e = absurd cc
  same_parts (s ∷ ss) [] ds (x ∷ es) hs ht hd he e =
      let first : slot_line format s ≡ event_line x = cc in
      absurd (other_line format s x (hs 0 s (omega arith)) (he 0 x (omega arith)) first)
  same_parts (s ∷ ss) (t ∷ ts) ds es hs ht hd he e =
      let first : slot_line format s ≡ slot_line format t = cc in
      let rest : map (slot_line format) ss ++ map event_line ds ≡ map (slot_line format) ts
      ++ map event_line es = cc in
      let a = same_slot_line format s t (hs 0 s (omega arith)) (ht 0 t (omega arith)) first in
      let b = same_parts ss ts ds es (λ k d lt. hs (suc k) d (omega arith))
      (λ k d lt. ht (suc k) d (omega arith)) hd he rest in
      (let c = b.0 in cc, b.1)

all_fine : {A : Type 0} (c : Content A) → Fits c → AllFine c.events
all_fine c h = λ k d lt. record { fits = h.range.events k d lt; printable = h.printable.events k d lt }

all_fine_slots : {A : Type 0} (c : Content A) → Fits c → All (IsFineSlot c.format) c.slots
all_fine_slots c h = λ k d lt. record { fits = h.range.slots k d lt; printable = h.printable.slots k d lt }

lines_of_text : {A : Type 0} (c : Content A) → Fits c → lines_of (text c) ≡ trace_lines c ++ lines_of []
lines_of_text c h = ap lines_of (sym (append-nil (text c)))
    ∙ lines_of-joined (trace_lines c) [] (unbroken c h)

same_content : {A : Type 0} (f g : Format) (m n : ℕ) (ss ts : List SlotSpec) (ds es : List (Event A)) → f ≡ g
    → m ≡ n → ss ≡ ts → ds ≡ es
    → ◌≡◌ {A = Content A} (record { format = f; cache = m; slots = ss; events = ds })
    (record { format = g; cache = n; slots = ts; events = es })
same_content f g m n ss ts ds es format cache slots events = rw (format, cache, slots, events) refl

same_lines : {A : Type 0} (c d : Content A) → Fits c → Fits d → trace_lines c ≡ trace_lines d → c ≡ d
unfolding trace_lines
same_lines c d hc hd e =
    let format : c.format ≡ d.format = same_header c.format d.format (same_at e 0) in
    let seconds : cache_line c.cache ≡ cache_line d.cache = same_at e 1 in
    let cache = same_num c.cache d.cache (same_at (sym (cut_cache c.cache hc.range.cache) ∙ ap fields_of seconds
    ∙ cut_cache d.cache hd.range.cache) 1) in
    let fine : All (IsFineSlot c.format) d.slots =
    subst (λ (v : Format). All (IsFineSlot v) d.slots) (sym format) (all_fine_slots d hd) in
    let lines : map (slot_line c.format) c.slots
    ++ map event_line c.events ≡ map (slot_line c.format) d.slots ++ map event_line d.events =
    ap (drop 2) e ∙ ap (λ (v : Format). map (slot_line v) d.slots ++ map event_line d.events) (sym format) in
    let parts = same_parts c.format c.slots d.slots c.events d.events
    (all_fine_slots c hc) fine (all_fine c hc) (all_fine d hd) lines in
    same_content c.format d.format c.cache d.cache c.slots d.slots c.events d.events format cache parts.0 parts.1

-- a text belongs to one trace
pub one_trace : {A : Type 0} (c d : Content A) → Fits c → Fits d → text c ≡ text d → c ≡ d
one_trace c d hc hd e =
    same_lines c d hc hd (append_cancel_right (trace_lines c) (trace_lines d) (lines_of [])
    (sym (lines_of_text c hc) ∙ ap lines_of e ∙ lines_of_text d hd))

-- the text of a trace has no fault
whole_so : {A : Type 0} (whole : List ℕ) (c : Content A) → Fits c → whole ≡ text c
    → Sofar whole c (3 + (length c.slots + length c.events)) []
whole_so whole c h e = record { spelled = e ∙ sym (append-nil (text c)); fits = h; count = refl }

nothing_left : lines_of [] ≡ [] ∷ []
unfolding lines_of
nothing_left = refl

past : (text : List ℕ) (k : ℕ) → 3 ≤ k → ¬ IsEnded text k → line_at text k ≡ [] → (fault : FaultKind)
    → Passes text k fault
past text k le open' none kind.Cut =
    λ owed. elim owed [ inl early ↦ absurd (omega arith) | inr some ↦ absurd (some none) ]
past text k le open' none kind.NoMemory = tt
past text k le open' none fault = λ end. absurd (open' end)

empty_past : {A : Type 0} (whole : List ℕ) (c : Content A) (k : ℕ) → Fits c → whole ≡ text c
    → 3 + (length c.slots + length c.events) ≤ k → line_at whole k ≡ []
empty_past whole c k h e le =
    let so = whole_so whole c h e in
    let total = lines_left so in
    let last = ap length nothing_left in
    elim (cases_eq k (3 + (length c.slots + length c.events))) [
      | inl here ↦ ap (line_at whole) here ∙ next_is so ∙ same_at nothing_left 0
      | inr later ↦ get_or_past (lines_of whole) (k - 1) [] (omega arith)
    ]

-- each of its lines passes each check
every_check : {A : Type 0} (whole : List ℕ) (c : Content A) (k : ℕ) (fault : FaultKind) → Fits c
    → whole ≡ text c → 1 ≤ k → Passes whole k fault
every_check whole c k fault h e numbered =
    let so = whole_so whole c h e in
    let total = lines_left so in
    let last = ap length nothing_left in
    elim (cases_lt k (3 + (length c.slots + length c.events))) [
      | inl before ↦ clean so k numbered before fault
      | inr after ↦ past whole k (omega arith) (λ end. omega arith) (empty_past whole c k h e after) fault
    ]

pub no_fault : {A : Type 0} (whole : List ℕ) (c : Content A) (k : ℕ) (fault : FaultKind) → Fits c
    → whole ≡ text c → IsFault whole k fault → ⊥
no_fault whole c k fault h e f = f.fails (every_check whole c k fault h e f.numbered)

pub text_clean : {A : Type 0} (c : Content A) (k : ℕ) → Fits c → IsCleanBefore (text c) k
text_clean c k h j numbered lt fault = every_check (text c) c j fault h refl numbered

-- ---- a text has one fault

same_line : (text : List ℕ) (k l : ℕ) (c d : FaultKind) → IsFault text k c → IsFault text l d → k ≡ l
same_line text k l c d f g =
    elim (cases_order k l) [
      | inl same ↦ same
      | inr other ↦ elim other [
        | inl lt ↦ absurd (f.fails (g.before k f.numbered lt c))
        | inr lt ↦ absurd (g.fails (f.before l g.numbered lt d))
      ]
    ]

same_check : (text : List ℕ) (k : ℕ) (c d : FaultKind) → IsFault text k c → IsFault text k d → c ≡ d
same_check text k c d f g =
    elim (cases_order (order c) (order d)) [
      | inl same ↦ same_kind c d same
      | inr other ↦ elim other [
        | inl lt ↦ absurd (f.fails (g.earlier c lt))
        | inr lt ↦ absurd (g.fails (f.earlier d lt))
      ]
    ]

pub one_fault : (text : List ℕ) (k l : ℕ) (c d : FaultKind) → IsFault text k c → IsFault text l d
    → (k ≡ l) × (c ≡ d)
one_fault text k l c d f g =
    let line = same_line text k l c d f g in
    (line, same_check text k c d f (subst (λ (n : ℕ). IsFault text n d) (sym line) g))
