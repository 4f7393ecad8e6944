-- The line of a slot, of an event and of the cache: its word, and fields that say what they have to.
use Rattle.std.proofs.Common.{◌≡◌, ◌≢◌, ℕ, zero, suc, ◌+◌, ◌*◌, ◌^◌, ◌<◌, ◌≤◌, Bool, true, false, cond, eqb, length, List, [], ◌∷◌, ◌++◌, All, drop, get_or, map, refl, sym, ap, subst, ◌∙◌, arith, MatchBool}
use Rattle.std.specs.Prelude.{⊤, codes}
use Rattle.block_device.specs.declared.operation.Verdict.{Verdict}
use Rattle.block_device.specs.declared.operation.Verdict.TheVariants.{Done, Failed}
use Rattle.board.specs.declared.event.SlotWindow.{SlotWindow}
use Rattle.board.specs.declared.event.SlotWindow.TheVariants.{Block, Console}
use Rattle.board.specs.declared.event.Event.{Event}
use Rattle.board.specs.declared.event.EventKind.{EventKind}
use Rattle.board.specs.declared.event.EventKind.TheVariants as what
use Rattle.block_device.specs.declared.operation.HostEvent.TheVariants as host
use Rattle.board.specs.declared.event.DeviceEvent.TheVariants as device
use Rattle.device_list.specs.declared.spec.DeviceSpec.{DeviceSpec}
use Rattle.device_list.specs.declared.spec.DeviceSpec.TheVariants as spec
use Rattle.board.specs.declared.spec.SlotSpec.{SlotSpec}
use Rattle.board.specs.declared.spec.Backing.{Backing}
use Rattle.board.specs.declared.spec.Backing.TheVariants.{Image, Host}
use Rattle.trace.specs.declared.format.Format.{Format}
use Rattle.trace.specs.declared.format.Format.TheVariants.{Plain, Extended}
use Rattle.trace.specs.declared.format.Version.TheVariants.{One, Two}
use Rattle.trace.specs.declared.fault.FaultKind.{FaultKind}
use Rattle.guest_memory.specs.declared.spec.RegionSpec.{RegionSpec}
use Rattle.trace.specs.declared.table.Field.{Field}
use Rattle.trace.specs.declared.table.Field.TheVariants.{Identity}
use Rattle.trace.specs.declared.word.Word.{Word}
use Rattle.trace.specs.declared.word.Word.TheVariants.{Cache, Slot, Read, Write, MemRead, MemWrite, Input, Resize, Restore, Complete, Drop, Hold, Release, Plug, DeviceRead, DeviceWrite, Supply, Receive, TakeSent, DropSent, SetLink, DeviceResize, DeviceComplete, DeviceDrop, DeviceHold, DeviceRelease}
use Rattle.trace.specs.Cuts.{fields_of}
use Rattle.trace.specs.Faults.{AllSay, AreAsMany, MayStand, order, fault_of}
use Rattle.trace.specs.Printable.{KindInRange, IsPrintableKind, IsPrintableMemory, SlotInRange}
use Rattle.trace.specs.Refusals.{IsFine, IsFineSlot}
use Rattle.hexadecimal.specs.Spelling.{num, fixed, bytes}
use Rattle.trace.specs.Spelling.{window, disk, mode, verdict, width_digit, region_text, regions_text, device_kind, spec_fields, link_state}
use Rattle.trace.specs.Text.{line, cache_fields, cache_line, disk_fields, memory_fields, slot_fields, slot_line, event_fields, event_line, what_fields, word_for}
use Rattle.trace.specs.Format.{unless_version_1}
use Rattle.hexadecimal.specs.Fields.{IsBytesField, IsFixed}
use Rattle.trace.specs.Words.{RegionInRange, Shape, Num, Disk as ByDisk, Offset, Window, Width, Value, Mode, Verdict as ByVerdict, Bytes, Identity as ByIdentity, Kind, Link, DiskInRange, SpecInRange, Says, behind_disk, disk_in, memory_in, shape_of, shapes, spelled, width_among, IsWidth, IsWordOf}
use Rattle.hexadecimal.proofs.ByteFields.{AreBytes}
use Rattle.trace.proofs.Signs.{bytes_digits}
use Rattle.trace.proofs.Signs.{Above, AllAbove, above_append, above_tested, above_num, above_fixed, fields_of-line, above_line}
use Rattle.trace.proofs.Widths.{digits_bound}

-- ---- words

abbrev key : List ℕ → ℕ
key xs = (get_or xs 0 0 * 1000 + get_or xs 1 0) * 1000 + get_or xs 2 0

abbrev word_at : ℕ → Word
word_at n = cond (eqb n 99097099) Cache
    (cond (eqb n 115108111) Slot
    (cond (eqb n 114000000) Read
    (cond (eqb n 119000000) Write
    (cond (eqb n 109114000) MemRead
    (cond (eqb n 109119000) MemWrite
    (cond (eqb n 105110000) Input
    (cond (eqb n 115116000) Restore
    (cond (eqb n 105111000) Complete
    (cond (eqb n 100114111) Drop (cond (eqb n 104111108) Hold (cond (eqb n 114101108) Release
    (cond (eqb n 112108117) Plug (cond (eqb n 100114000) DeviceRead (cond (eqb n 100119000) DeviceWrite
    (cond (eqb n 115117112) Supply (cond (eqb n 102114097) Receive (cond (eqb n 116097107) TakeSent
    (cond (eqb n 100115101) DropSent (cond (eqb n 108105110) SetLink (cond (eqb n 100115122) DeviceResize
    (cond (eqb n 100105111) DeviceComplete (cond (eqb n 100100114) DeviceDrop (cond (eqb n 100104111) DeviceHold
    (cond (eqb n 100114101) DeviceRelease Resize))))))))))))))))))))))))

found : (w : Word) → word_at (key (spelled w)) ≡ w
found Cache = refl
found word = refl

-- a spelling is one word's
pub same_word : (v w : Word) → spelled v ≡ spelled w → v ≡ w
same_word v w e = sym (found v) ∙ ap (λ (xs : List ℕ). word_at (key xs)) e ∙ found w

pub above_word : (w : Word) → Above 32 (spelled w)
above_word Cache = above_tested 32 (spelled Cache) refl
above_word word = above_tested 32 (spelled word) refl

-- ---- fields

pub one_way : (b : Bool) (P : Type 0) → P → MatchBool b P ⊤
one_way true P h = h
one_way false P h = tt

-- a field that says a value of its shape, and in which no sign stands that cuts a line
abbrev Stands : Shape → List ℕ → Type 0
Stands shape field = Says shape field × Above 32 field

abbrev EachStands : List Shape → List (List ℕ) → Type 0
EachStands [] [] = ⊤
EachStands [] (field ∷ fields) = ⊥
EachStands (shape ∷ more) [] = ⊥
EachStands (shape ∷ more) (field ∷ fields) = Stands shape field × EachStands more fields

all_above : (ss : List Shape) (fs : List (List ℕ)) → EachStands ss fs → AllAbove 32 fs
all_above [] [] h = tt
all_above [] (f ∷ fs) h = absurd h
all_above (s ∷ ss) [] h = absurd h
all_above (s ∷ ss) (f ∷ fs) h = (h.0.1, all_above ss fs h.1)

as_many : (ss : List Shape) (fs : List (List ℕ)) → EachStands ss fs → length fs ≡ length ss
as_many [] [] h = refl
as_many [] (f ∷ fs) h = absurd h
as_many (s ∷ ss) [] h = absurd h
as_many (s ∷ ss) (f ∷ fs) h = ap suc (as_many ss fs h.1)

-- each check of them is passed
all_say : (ss : List Shape) (fs : List (List ℕ)) → EachStands ss fs → (fault : FaultKind) → AllSay fault ss fs
all_say [] fs h fault = tt
all_say (s ∷ ss) [] h fault = tt
all_say (s ∷ ss) (f ∷ fs) h fault =
    (one_way (eqb (order (fault_of s)) (order fault)) (Says s f) h.0.0, all_say ss fs h.1 fault)

-- some fields and those behind them
stand_both : (f : Field → Shape) (row more : List Field) (xs ys : List (List ℕ)) → EachStands (map f row) xs
    → EachStands (map f more) ys → EachStands (map f (row ++ more)) (xs ++ ys)
stand_both f [] more [] ys hx hy = hy
stand_both f [] more (x ∷ xs) ys hx hy = absurd hx
stand_both f (r ∷ row) more [] ys hx hy = absurd hx
stand_both f (r ∷ row) more (x ∷ xs) ys hx hy = (hx.0, stand_both f row more xs ys hx.1 hy)

-- ---- one field

a_number : (bits n : ℕ) → n < 2 ^ bits → Stands (Num bits) (num n)
a_number bits n lt = ((n, record { fits = lt; spelled = refl }), above_num n)

above_region : (r : RegionSpec) → Above 32 (region_text r)
above_region r = above_append 32 (num r.base) (43 ∷ num r.len) (above_num r.base)
    (omega arith, above_num r.len)

above_regions : (regions : List RegionSpec) → Above 32 (regions_text regions)
above_regions [] = tt
above_regions (r ∷ []) = above_region r
above_regions (r ∷ (s ∷ rs)) =
    above_append 32 (region_text r) (44 ∷ regions_text (s ∷ rs)) (above_region r)
    (omega arith, above_regions (s ∷ rs))

a_disk : (backing : Backing) (spare : ℕ) → DiskInRange backing spare → Stands ByDisk (disk backing spare)
a_disk Image zero fits = ((Image, (0, record { fits = fits; spelled = refl })), above_tested 32 (codes "image") refl)
a_disk Image (suc n) fits = (
  (Image, (suc n, record { fits = fits; spelled = refl })),
  above_append 32 (codes "image+") (num (suc n)) (above_tested 32 (codes "image+") refl) (above_num (suc n)),
)
a_disk (Host depth) spare fits = (
  (Host depth, (spare, record { fits = fits; spelled = refl })),
  above_append 32 (codes "host:") (num depth) (above_tested 32 (codes "host:") refl) (above_num depth),
)

a_mode : (b : Bool) → Stands Mode (mode b)
a_mode false = ((false, refl), above_tested 32 (mode false) refl)
a_mode true = ((true, refl), above_tested 32 (mode true) refl)

an_offset : (offset : ℕ) → offset < 0x1000 → Stands Offset (fixed 3 offset)
an_offset offset lt = ((offset, record { fits = lt; spelled = refl }), above_fixed 3 offset)

a_window : (kind : SlotWindow) → Stands Window (window kind)
a_window Block = ((Block, refl), above_tested 32 (window Block) refl)
a_window Console = ((Console, refl), above_tested 32 (window Console) refl)

a_width : (width : ℕ) → IsWidth width → Stands Width (width_digit width)
a_width width wide = ((width, record { fits = wide; spelled = refl }), (omega arith, tt))

-- a value within a width fits its digits
pub fits_digits : (width value : ℕ) → IsWidth width → value < 2 ^ (8 * width) → value < 16 ^ (2 * width)
fits_digits width value wide within = rw (digits_bound width wide) within

-- a value within a width, beside that width
says_value : (width value : ℕ) → IsWidth width → value < 2 ^ (8 * width)
    → Says (Value (width_digit width)) (fixed (2 * width) value)
says_value width value wide within other h =
    let same : width ≡ other = omega (arith, ap (λ (xs : List ℕ). get_or xs 0 0) h.spelled) in (
      value,
      subst (λ (w : ℕ). IsFixed (2 * w) (fixed (2 * width) value) value) same
          (record { fits = fits_digits width value wide within; spelled = refl }),
    )

a_value : (width value : ℕ) → IsWidth width → value < 2 ^ (8 * width)
    → Stands (Value (width_digit width)) (fixed (2 * width) value)
a_value width value wide within = (says_value width value wide within, above_fixed (2 * width) value)

some_bytes : (bs : List ℕ) → AreBytes bs → Stands Bytes (bytes bs)
some_bytes bs each = ((bs, record { fits = each; spelled = refl }), bytes_digits bs each)

a_verdict : (came : Verdict) → Stands ByVerdict (verdict came)
a_verdict Done = ((Done, refl), above_tested 32 (verdict Done) refl)
a_verdict Failed = ((Failed, refl), above_tested 32 (verdict Failed) refl)

above_kind : (spec : DeviceSpec) → SpecInRange spec → Above 32 (device_kind spec)
above_kind (spec.Network mac mtu) fits =
    above_append 32 (codes "network:") (bytes mac ++ 58 ∷ num mtu) (above_tested 32 (codes "network:") refl)
    (above_append 32 (bytes mac) (58 ∷ num mtu) (bytes_digits mac fits.each) (omega arith, above_num mtu))
above_kind (spec.Console cols rows) fits =
    above_append 32 (codes "console:") (num cols ++ 58 ∷ num rows) (above_tested 32 (codes "console:") refl)
    (above_append 32 (num cols) (58 ∷ num rows) (above_num cols) (omega arith, above_num rows))
above_kind spec fits = above_tested 32 (device_kind spec) refl

a_kind : (spec : DeviceSpec) → SpecInRange spec → Stands Kind (device_kind spec)
a_kind spec fits = ((spec, record { fits = fits; spelled = refl }), above_kind spec fits)

an_identity : (bs : List ℕ) → AreBytes bs → length bs ≡ 20 → Stands ByIdentity (bytes bs)
an_identity bs each twenty =
    let is : IsBytesField (bytes bs) bs = record { fits = each; spelled = refl } in
    ((bs, record { bytes_are = is; as_many = twenty }), bytes_digits bs each)

a_link : (up : Bool) → Stands Link (link_state up)
a_link true = ((true, refl), above_tested 32 (link_state true) refl)
a_link false = ((false, refl), above_tested 32 (link_state false) refl)

-- each field of an event's line
ruleset each = (a_number, a_mode, an_offset, a_window, a_width, a_value, some_bytes, a_verdict, an_identity, a_link)

-- ---- lines

-- the line has the word, and after it fields that pass each check
pub record Entered (format : Format) (l : List ℕ) (word : Word) : Type 0 where
  pub fields : List (List ℕ)
  pub cut : fields_of l ≡ spelled word ∷ fields
  pub count : AreAsMany format word fields
  pub say : (fault : FaultKind) → AllSay fault (shapes format word fields) fields
  pub unbroken : Above 10 l

module _ (format : Format) (word : Word) (fs : List (List ℕ))
    (stand : EachStands (shapes format word fs) fs) where
  above : AllAbove 32 (spelled word ∷ fs)
  above = (above_word word, all_above (shapes format word fs) fs stand)

  -- the fields of a line that was made of them
  cut_line : fields_of (line (spelled word ∷ fs)) ≡ spelled word ∷ fs
  cut_line = fields_of-line (spelled word) fs above

  entered : Entered format (line (spelled word ∷ fs)) word
  entered = record {
    fields = fs;
    cut = cut_line;
    count = as_many (shapes format word fs) fs stand;
    say = all_say (shapes format word fs) fs stand;
    unbroken = above_line (spelled word) fs above;
  }

-- ---- the second line

pub entered_cache : (format : Format) (n : ℕ) → n < 2 ^ 32 → Entered format (cache_line n) Cache
unfolding cache_line
entered_cache format n lt = entered format Cache (num n ∷ []) (a_number 32 n lt, tt)

pub cut_cache : (n : ℕ) → n < 2 ^ 32 → fields_of (cache_line n) ≡ cache_fields n
unfolding cache_line
cut_cache n lt = cut_line Extended Cache (num n ∷ []) (a_number 32 n lt, tt)

-- ---- the line of a slot

-- the identity, where a format has it
last_field : (format : Format) (width : List ℕ) (s : SlotSpec) → SlotInRange s
    → EachStands (map (shape_of width) (unless_version_1 format (Identity ∷ [])))
    (unless_version_1 format (bytes s.identity ∷ []))
last_field (Plain One) width s h = tt
last_field (Plain Two) width s h = (an_identity s.identity h.identity h.twenty, tt)
last_field Extended width s h = (an_identity s.identity h.identity h.twenty, tt)

-- its memory: one region by two fields, or all regions by one
memory_stands : (format : Format) (width : List ℕ) (regions : List RegionSpec) → All RegionInRange regions
    → length regions ≤ 8 → IsPrintableMemory format (length regions)
    → EachStands (map (shape_of width) (memory_in format)) (memory_fields format regions)
memory_stands Extended width regions fits few some = (
  ((regions, record { some = some; few = few; fits = fits; spelled = refl }), above_regions regions),
  tt,
)
memory_stands (Plain version) width [] fits few one = absurd (omega (arith, one))
memory_stands (Plain version) width (r ∷ []) fits few one = let h = fits 0 r (omega arith) in
    (a_number 64 r.base h.base, (a_number 64 r.len h.len, tt))
memory_stands (Plain version) width (r ∷ (s ∷ rs)) fits few one = absurd (omega (arith, one))

-- who has its disk, where a format says so
disk_stands : (format : Format) (width : List ℕ) (s : SlotSpec) → IsFineSlot format s
    → EachStands (map (shape_of width) (disk_in format)) (disk_fields format s.backing s.spare)
disk_stands (Plain version) width s h = tt
disk_stands Extended width s h =
    let fits : DiskInRange s.backing s.spare =
    record { depth = h.fits.depth; wide = h.fits.spare; beside = h.printable.disk } in
    (a_disk s.backing s.spare fits, tt)

-- what stands behind that
abbrev pub behind : Format → SlotSpec → List (List ℕ)
behind format s = num s.extent.start ∷ num s.extent.count ∷ mode s.read_only ∷ num s.cols ∷ num s.rows
    ∷ unless_version_1 format (bytes s.identity ∷ [])

abbrev slot_rest : Format → SlotSpec → List (List ℕ)
slot_rest format s = memory_fields format s.regions ++ (disk_fields format s.backing s.spare ++ behind format s)

slot_stands : (format : Format) (s : SlotSpec) → IsFineSlot format s
    → EachStands (shapes format Slot (slot_rest format s)) (slot_rest format s)
slot_stands format s h =
    let width = width_among (slot_rest format s) in
    let fits = h.fits in
    stand_both (shape_of width) (memory_in format) (disk_in format ++ behind_disk format)
    (memory_fields format s.regions) (disk_fields format s.backing s.spare ++ behind format s)
    (memory_stands format width s.regions fits.regions fits.few h.printable.memory)
    (stand_both (shape_of width) (disk_in format) (behind_disk format) (disk_fields format s.backing s.spare)
    (behind format s) (disk_stands format width s h)
    (let last = last_field format width s fits in search (each, last) depth 9 parts 9))

pub entered_slot : (format : Format) (s : SlotSpec) → IsFineSlot format s
    → Entered format (slot_line format s) Slot
unfolding slot_line
entered_slot format s h = entered format Slot (slot_rest format s) (slot_stands format s h)

pub cut_slot : (format : Format) (s : SlotSpec) → IsFineSlot format s
    → fields_of (slot_line format s) ≡ slot_fields format s
unfolding slot_line
cut_slot format s h = cut_line format Slot (slot_rest format s) (slot_stands format s h)

-- ---- the line of an event

-- it has another word than a slot's
pub record EnteredEvent (format : Format) (l : List ℕ) : Type 0 where
  pub word : Word
  pub may : MayStand 3 word
  pub of_format : IsWordOf format word
  pub other : word ≢ Slot
  pub entry : Entered format l word

may_be_late : {A : Type 0} (w : EventKind A) → MayStand 3 (word_for w)
may_be_late (what.Host host.Drop) = omega arith
may_be_late (what.Device n (device.Host host.Drop)) = omega arith
may_be_late w = omega arith

no_slot : {A : Type 0} (w : EventKind A) → word_for w ≢ Slot
no_slot (what.Host host.Drop) e = absurd cc
no_slot (what.Device n (device.Host host.Drop)) e = absurd cc
no_slot w e = absurd cc

-- the fields after its word
abbrev event_rest : {A : Type 0} → ℕ → EventKind A → List (List ℕ)
event_rest slot w = drop 1 (what_fields slot w)

word_first : {A : Type 0} (slot : ℕ) (w : EventKind A)
    → spelled (word_for w) ∷ event_rest slot w ≡ what_fields slot w
word_first slot (what.Host host.Drop) = refl
word_first slot (what.Device n (device.Host host.Drop)) = refl
word_first slot w = refl

-- what a further device is to be
plug_stands : (format : Format) (slot n : ℕ) (is : DeviceSpec) → slot < 2 ^ 8 → n < 2 ^ 8 → SpecInRange is
    → EachStands (shapes format Plug (num slot ∷ num n ∷ device_kind is ∷ spec_fields is))
    (num slot ∷ num n ∷ device_kind is ∷ spec_fields is)
plug_stands format slot n spec.Entropy lt of range = let kind = a_kind spec.Entropy range in search (each, kind) depth 9 parts 9
plug_stands format slot n is lt of range = let kind = a_kind is range in search (each, kind) depth 9 parts 9

event_stands : {A : Type 0} (format : Format) (slot : ℕ) (w : EventKind A) → slot < 2 ^ 8 → KindInRange w
    → IsPrintableKind w → EachStands (shapes format (word_for w) (event_rest slot w)) (event_rest slot w)
event_stands format slot (what.Device n (device.Plug is)) lt range fine =
    plug_stands format slot n is lt range.number range.range
event_stands format slot (what.Device n (device.Host host.Drop)) lt range fine = search each depth 9 parts 9
event_stands format slot (what.Host host.Drop) lt range fine = search each depth 9 parts 9
event_stands format slot w lt range fine = search each depth 9 parts 9

pub entered_event : {A : Type 0} (format : Format) (e : Event A) → IsFine e
    → IsWordOf format (word_for e.what) → EnteredEvent format (event_line e)
unfolding event_line
entered_event format e h of =
    let stand = event_stands format e.slot e.what h.fits.slot h.fits.what h.printable in
    record {
      word = word_for e.what;
      may = may_be_late e.what;
      of_format = of;
      other = no_slot e.what;
      entry = subst (λ (fs : List (List ℕ)). Entered format (line fs) (word_for e.what))
          (word_first e.slot e.what) (entered format (word_for e.what) (event_rest e.slot e.what) stand);
    }

pub cut_event : {A : Type 0} (e : Event A) → IsFine e → fields_of (event_line e) ≡ event_fields e
unfolding event_line
cut_event e h =
    let stand = event_stands Extended e.slot e.what h.fits.slot h.fits.what h.printable in
    subst (λ (fs : List (List ℕ)). fields_of (line fs) ≡ fs) (word_first e.slot e.what)
    (cut_line Extended (word_for e.what) (event_rest e.slot e.what) stand)
