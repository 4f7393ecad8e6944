-- Lines that were validated, which are read without a test: their parts by their word, and what was taken off.
use Rattle.std.proofs.Common.{◌≡◌, ℕ, ◌+◌, ◌*◌, ◌^◌, ◌<◌, ◌≤◌, List, [], ◌∷◌, ◌++◌, length, get_or, drop, refl, sym, ap, subst, ◌∙◌, append_assoc, length-drop, arith}
use Rattle.board.specs.declared.event.SlotWindow.{SlotWindow}
use Rattle.board.specs.declared.event.Event.{Event}
use Rattle.board.specs.declared.event.EventKind.{EventKind}
use Rattle.board.specs.declared.event.EventKind.TheVariants as what
use Rattle.board.specs.declared.event.DeviceEvent.TheVariants as device
use Rattle.block_device.specs.declared.operation.HostEvent.TheVariants as host
use Rattle.hexadecimal.specs.Fields.{IsBytesField}
use Rattle.hexadecimal.specs.Spelling.{bytes, fixed, num}
use Rattle.trace.specs.declared.read.parsed_event.ParsedEvent.{ParsedEvent}
use Rattle.trace.specs.declared.word.Word.TheVariants.{Read, Write, MemWrite, Input}
use Rattle.trace.specs.Events.{BeginsWithAccess, BeginsWithEvent, HasAccess, HasBytes, HasNumber, HasSlot, HasValue, IsLineOf, TakesEvent}
use Rattle.trace.specs.Spelling.{window}
use Rattle.trace.specs.ParsedEvent.{IsFineWhat, parsed_fields}
use Rattle.trace.specs.Text.{event_fields, event_line}
use Rattle.trace.specs.Words.{IsWidth, spelled}
use Rattle.trace.proofs.Entries.{fits_digits}
use Rattle.trace.proofs.EventLines.{line_taken}
use Rattle.trace.proofs.TrustedFields.{access_long, access_past, one_number, value_long}

-- ---- the parts of a line, by its word

-- the first two bytes of a line
abbrev front : List ℕ → ℕ
front xs = get_or xs 0 0 * 1000 + get_or xs 1 0

-- a slot and a register, and this behind them
pub record AccessParts (rest last : List ℕ) (slot : ℕ) (kind : SlotWindow) (offset width : ℕ) : Type 0 where
  pub behind : List ℕ
  pub has_slot : HasSlot rest slot behind
  pub has_access : HasAccess behind kind offset width last

access_parts : (rest last after : List ℕ) (slot : ℕ) (kind : SlotWindow) (offset width : ℕ) → slot < 2 ^ 8
    → offset < 16 ^ 3 → IsWidth width
    → rest ≡ (num slot ++ 32 ∷ (window kind ++ 32 ∷ (fixed 3 offset ++ 32 ∷ (48 + width) ∷ last))) ++ 10 ∷ after
    → AccessParts rest (last ++ 10 ∷ after) slot kind offset width
access_parts rest last after slot kind offset width small three_digits wide is =
    let access : List ℕ = fixed 3 offset ++ 32 ∷ (48 + width) ∷ last in
    record {
      behind = window kind ++ 32 ∷ (fixed 3 offset ++ 32 ∷ (48 + width) ∷ (last ++ 10 ∷ after));
      has_slot = record {
        small = small;
        is = is ∙ append_assoc (num slot) (32 ∷ (window kind ++ 32 ∷ access)) (10 ∷ after)
            ∙ ap (λ (xs : List ℕ). num slot ++ 32 ∷ xs)
            (append_assoc (window kind) (32 ∷ access) (10 ∷ after)
            ∙ ap (λ (xs : List ℕ). window kind ++ 32 ∷ xs)
            (append_assoc (fixed 3 offset) (32 ∷ (48 + width) ∷ last) (10 ∷ after)));
      };
      has_access = record { three_digits = three_digits; wide = wide; is = refl };
    }

-- they stand behind the number that was read
module _ {rest last : List ℕ} {slot : ℕ} {kind : SlotWindow} {offset width : ℕ}
    (p : AccessParts rest last slot kind offset width) where
  pub access_behind : (found : ℕ) (xs : List ℕ) → rest ≡ num found ++ 32 ∷ xs
      → (found ≡ slot) × HasAccess xs kind offset width last
  access_behind found xs e =
      let at = one_number rest found slot xs p.behind e p.has_slot.is in
      (at.0, subst (λ (ys : List ℕ). HasAccess ys kind offset width last) (sym at.1) p.has_access)

  pub access_begins : (found : ℕ) (xs : List ℕ) → rest ≡ num found ++ 32 ∷ xs → 0 < length last
      → BeginsWithAccess xs × (8 ≤ length xs)
  access_begins found xs e more =
      let has = (access_behind found xs e).1 in (
        record { kind = kind; offset = offset; width = width; after = last; has = has },
        omega (arith, access_long has),
      )

pub record ReadParts (A : Type 0) (rest : List ℕ) : Type 0 where
  pub slot : ℕ
  pub kind : SlotWindow
  pub offset : ℕ
  pub width : ℕ
  pub after : List ℕ
  pub access : AccessParts rest (10 ∷ after) slot kind offset width
  pub line : IsLineOf {A = A} (spelled Read ++ 32 ∷ rest)
      (record { slot = slot; what = what.Read kind offset width }) after

by_read : (A : Type 0) (rest : List ℕ) (slot : ℕ) (w : EventKind A) (after : List ℕ)
    → IsLineOf {A = A} (spelled Read ++ 32 ∷ rest) (record { slot = slot; what = w }) after
    → ReadParts A rest
unfolding event_line
by_read A rest slot (what.Read kind offset width) after h = record {
  slot = slot;
  kind = kind;
  offset = offset;
  width = width;
  after = after;
  access = access_parts rest [] after slot kind offset width h.fine.fits.slot h.fine.printable.three_digits
      h.fine.printable.wide (ap (drop 2) h.is);
  line = h;
}
by_read A rest slot (what.Host host.Release) after h = absurd (omega (arith, ap front h.is))
by_read A rest slot (what.Device n (device.Host host.Release)) after h = absurd (omega (arith, ap front h.is))
by_read A rest slot w after h = absurd (omega (arith, ap (λ (xs : List ℕ). get_or xs 0 0) h.is))

pub read_parts : (A : Type 0) (rest : List ℕ) → BeginsWithEvent A (spelled Read ++ 32 ∷ rest)
    → ReadParts A rest
read_parts A rest h = by_read A rest h.event.slot h.event.what h.after h.begins

pub record WriteParts (A : Type 0) (rest : List ℕ) : Type 0 where
  pub slot : ℕ
  pub kind : SlotWindow
  pub offset : ℕ
  pub width : ℕ
  pub value : ℕ
  pub after : List ℕ
  pub field : List ℕ
  pub access : AccessParts rest (32 ∷ field) slot kind offset width
  pub has_value : HasValue field width value after
  pub line : IsLineOf {A = A} (spelled Write ++ 32 ∷ rest)
      (record { slot = slot; what = what.Write kind offset width value }) after

by_write : (A : Type 0) (rest : List ℕ) (slot : ℕ) (w : EventKind A) (after : List ℕ)
    → IsLineOf {A = A} (spelled Write ++ 32 ∷ rest) (record { slot = slot; what = w }) after
    → WriteParts A rest
unfolding event_line
by_write A rest slot (what.Write kind offset width value) after h =
    let said = h.fine.printable.access in
    record {
      slot = slot;
      kind = kind;
      offset = offset;
      width = width;
      value = value;
      after = after;
      field = fixed (2 * width) value ++ 10 ∷ after;
      access = access_parts rest (32 ∷ fixed (2 * width) value) after slot kind offset width
          h.fine.fits.slot said.three_digits said.wide (ap (drop 2) h.is);
      has_value = record {
        wide = said.wide;
        small = fits_digits width value said.wide h.fine.printable.within;
        is = refl;
      };
      line = h;
    }
by_write A rest slot (what.Host host.Release) after h = absurd (omega (arith, ap front h.is))
by_write A rest slot (what.Device n (device.Host host.Release)) after h = absurd (omega (arith, ap front h.is))
by_write A rest slot w after h = absurd (omega (arith, ap (λ (xs : List ℕ). get_or xs 0 0) h.is))

pub write_parts : (A : Type 0) (rest : List ℕ) → BeginsWithEvent A (spelled Write ++ 32 ∷ rest)
    → WriteParts A rest
write_parts A rest h = by_write A rest h.event.slot h.event.what h.after h.begins

pub record MemWriteParts (A : Type 0) (rest : List ℕ) : Type 0 where
  pub slot : ℕ
  pub addr : ℕ
  pub bs : List ℕ
  pub after : List ℕ
  pub behind : List ℕ
  pub last : List ℕ
  pub has_slot : HasSlot rest slot behind
  pub has_addr : HasNumber behind addr last
  pub has_bytes : HasBytes last (bytes bs) after
  pub line : IsLineOf {A = A} (spelled MemWrite ++ 32 ∷ rest)
      (record { slot = slot; what = what.MemWrite addr bs }) after

by_mem_write : (A : Type 0) (rest : List ℕ) (slot : ℕ) (w : EventKind A) (after : List ℕ)
    → IsLineOf {A = A} (spelled MemWrite ++ 32 ∷ rest) (record { slot = slot; what = w }) after
    → MemWriteParts A rest
unfolding event_line
by_mem_write A rest slot (what.MemWrite addr bs) after h = record {
  slot = slot;
  addr = addr;
  bs = bs;
  after = after;
  behind = num addr ++ 32 ∷ (bytes bs ++ 10 ∷ after);
  last = bytes bs ++ 10 ∷ after;
  has_slot = record {
    small = h.fine.fits.slot;
    is = ap (drop 3) h.is ∙ append_assoc (num slot) (32 ∷ (num addr ++ 32 ∷ bytes bs)) (10 ∷ after)
        ∙ ap (λ (xs : List ℕ). num slot ++ 32 ∷ xs)
        (append_assoc (num addr) (32 ∷ bytes bs) (10 ∷ after));
  };
  has_addr = record { small = h.fine.fits.what.from; is = refl };
  has_bytes = record { bs = bs; says = record { fits = h.fine.fits.what.each; spelled = refl }; is = refl };
  line = h;
}
by_mem_write A rest slot (what.Host host.Release) after h = absurd (omega (arith, ap front h.is))
by_mem_write A rest slot (what.Device n (device.Host host.Release)) after h = absurd (omega (arith, ap front h.is))
by_mem_write A rest slot w after h = absurd (omega (arith, ap front h.is))

pub mem_write_parts : (A : Type 0) (rest : List ℕ) → BeginsWithEvent A (spelled MemWrite ++ 32 ∷ rest)
    → MemWriteParts A rest
mem_write_parts A rest h = by_mem_write A rest h.event.slot h.event.what h.after h.begins

pub record InputParts (A : Type 0) (rest : List ℕ) : Type 0 where
  pub slot : ℕ
  pub bs : List ℕ
  pub after : List ℕ
  pub last : List ℕ
  pub has_slot : HasSlot rest slot last
  pub has_bytes : HasBytes last (bytes bs) after
  pub line : IsLineOf {A = A} (spelled Input ++ 32 ∷ rest) (record { slot = slot; what = what.Input bs })
      after

by_input : (A : Type 0) (rest : List ℕ) (slot : ℕ) (w : EventKind A) (after : List ℕ)
    → IsLineOf {A = A} (spelled Input ++ 32 ∷ rest) (record { slot = slot; what = w }) after
    → InputParts A rest
unfolding event_line
by_input A rest slot (what.Input bs) after h = record {
  slot = slot;
  bs = bs;
  after = after;
  last = bytes bs ++ 10 ∷ after;
  has_slot = record {
    small = h.fine.fits.slot;
    is = ap (drop 3) h.is ∙ append_assoc (num slot) (32 ∷ bytes bs) (10 ∷ after);
  };
  has_bytes = record { bs = bs; says = record { fits = h.fine.fits.what.each; spelled = refl }; is = refl };
  line = h;
}
by_input A rest slot (what.Host host.Release) after h = absurd (omega (arith, ap front h.is))
by_input A rest slot (what.Device n (device.Host host.Release)) after h = absurd (omega (arith, ap front h.is))
by_input A rest slot w after h = absurd (omega (arith, ap front h.is))

pub input_parts : (A : Type 0) (rest : List ℕ) → BeginsWithEvent A (spelled Input ++ 32 ∷ rest)
    → InputParts A rest
input_parts A rest h = by_input A rest h.event.slot h.event.what h.after h.begins

-- ---- what was taken off

-- it is the line of an event, with its fields
taken_off : {A : Type 0} (text : List ℕ) (event : Event A) (last : List ℕ) (s : ParsedEvent A) (after : List ℕ)
    → IsLineOf text event last → after ≡ last → event_fields event ≡ parsed_fields s → s.event.slot ≡ event.slot
    → IsFineWhat s.event.what s.bytes.now → TakesEvent text s after
taken_off text event last s after line behind same slot fine =
    rw behind (line_taken s event text last line same (record { slot = rw slot line.fine.fits.slot; what = fine }))

pub read_taken : (A : Type 0) (rest : List ℕ) (p : ReadParts A rest) (s : ParsedEvent A) (after : List ℕ)
    → after ≡ p.after → s.event ≡ record { slot = p.slot; what = what.Read p.kind p.offset p.width }
    → s.bytes.now ≡ [] → TakesEvent (spelled Read ++ 32 ∷ rest) s after
read_taken A rest p s after behind is none =
    taken_off _ _ p.after s after p.line behind (rw is refl) (rw is refl)
    (rw is (record { range = tt; printable = p.line.fine.printable; none = none }))

pub write_taken : (A : Type 0) (rest : List ℕ) (p : WriteParts A rest) (s : ParsedEvent A) (after : List ℕ)
    → after ≡ p.after → s.event ≡ record { slot = p.slot; what = what.Write p.kind p.offset p.width p.value }
    → s.bytes.now ≡ [] → TakesEvent (spelled Write ++ 32 ∷ rest) s after
write_taken A rest p s after behind is none =
    taken_off _ _ p.after s after p.line behind (rw is refl) (rw is refl)
    (rw is (record { range = tt; printable = p.line.fine.printable; none = none }))

pub mem_write_taken : (A : Type 0) (rest : List ℕ) (p : MemWriteParts A rest) (s : ParsedEvent A)
    (none after : List ℕ) → s.bytes.now ≡ bytes p.bs → after ≡ p.after → none ≡ []
    → s.event ≡ record { slot = p.slot; what = what.MemWrite p.addr none }
    → TakesEvent (spelled MemWrite ++ 32 ∷ rest) s after
mem_write_taken A rest p s none after said behind empty is =
    let fits = p.line.fine.fits.what in
    let says : IsBytesField s.bytes.now p.bs = record { fits = fits.each; spelled = said } in
    taken_off _ _ p.after s after p.line behind (rw (is, said) refl) (rw is refl)
    (rw is (record { from = fits.from; bytes = record { none = empty; parsed = (p.bs, says) } }))

pub input_taken : (A : Type 0) (rest : List ℕ) (p : InputParts A rest) (s : ParsedEvent A)
    (none after : List ℕ) → s.bytes.now ≡ bytes p.bs → after ≡ p.after → none ≡ []
    → s.event ≡ record { slot = p.slot; what = what.Input none }
    → TakesEvent (spelled Input ++ 32 ∷ rest) s after
input_taken A rest p s none after said behind empty is =
    let says : IsBytesField s.bytes.now p.bs = record { fits = p.line.fine.fits.what.each; spelled = said } in
    taken_off _ _ p.after s after p.line behind (rw (is, said) refl) (rw is refl)
    (rw is (record { none = empty; parsed = (p.bs, says) }))

-- ---- what is behind what was read

pub value_behind : (A : Type 0) (rest : List ℕ) (p : WriteParts A rest) (xs : List ℕ) (width : ℕ)
    → HasAccess xs p.kind p.offset p.width (32 ∷ p.field) → width ≡ p.width
    → HasValue (drop 8 xs) width p.value p.after
value_behind A rest p xs width h is = rw (access_past h, is) p.has_value

pub mem_write_behind : (A : Type 0) (rest : List ℕ) (p : MemWriteParts A rest) (slot : ℕ) (xs : List ℕ)
    → rest ≡ num slot ++ 32 ∷ xs → (slot ≡ p.slot) × HasNumber xs p.addr p.last
mem_write_behind A rest p slot xs e = let at = one_number rest slot p.slot xs p.behind e p.has_slot.is in
    (at.0, subst (λ (ys : List ℕ). HasNumber ys p.addr p.last) (sym at.1) p.has_addr)

pub addr_behind : (A : Type 0) (rest : List ℕ) (p : MemWriteParts A rest) (text : List ℕ) (addr : ℕ)
    (xs : List ℕ) → HasNumber text p.addr p.last → text ≡ num addr ++ 32 ∷ xs
    → (addr ≡ p.addr) × HasBytes xs (bytes p.bs) p.after
addr_behind A rest p text addr xs h e = let at = one_number text addr p.addr xs p.last e h.is in
    (at.0, subst (λ (ys : List ℕ). HasBytes ys (bytes p.bs) p.after) (sym at.1) p.has_bytes)

pub input_behind : (A : Type 0) (rest : List ℕ) (p : InputParts A rest) (slot : ℕ) (xs : List ℕ)
    → rest ≡ num slot ++ 32 ∷ xs → (slot ≡ p.slot) × HasBytes xs (bytes p.bs) p.after
input_behind A rest p slot xs e = let at = one_number rest slot p.slot xs p.last e p.has_slot.is in
    (at.0, subst (λ (ys : List ℕ). HasBytes ys (bytes p.bs) p.after) (sym at.1) p.has_bytes)

-- the text behind a slot is long enough for an access, a value and a line feed
pub write_ends : {A : Type 0} (rest : List ℕ) (slot : ℕ) {xs : List ℕ} {found : SlotWindow} {at width : ℕ}
    → BeginsWithEvent A (spelled Write ++ 32 ∷ rest) → rest ≡ num slot ++ 32 ∷ xs
    → ((kind : SlotWindow) (offset wide : ℕ) (after : List ℕ) → HasAccess xs kind offset wide after
    → (found ≡ kind) × (at ≡ offset) × (width ≡ wide))
    → 9 + 2 * width ≤ length xs
write_ends {A = A} rest slot {xs = xs} {width = width} h e same =
    let p = write_parts A rest h in
    let is = (access_behind p.access slot xs e).1 in
    let has = value_behind A rest p xs width is (same p.kind p.offset p.width (32 ∷ p.field) is).2 in
    omega (arith, value_long _ _ _ _ has, length-drop 8 xs)
