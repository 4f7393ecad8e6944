-- The values of a line's fields, read one after another.
use Rattle.std.proofs.Common.{◌≡◌, ◌≢◌, ℕ, ◌+◌, ◌^◌, ◌<◌, ◌≤◌, List, [], ◌∷◌, ◌++◌, length, get_or, map, take, drop, slice_index_or, refl, sym, ap, subst, ◌∙◌, arith}
use Rattle.std.proofs.lemmas.List.{append-nil, append_assoc, drop_all, drop_more, length-map, map-append, map_more, take_all}
use Rattle.trace.specs.declared.format.Format.{Format}
use Rattle.trace.specs.declared.format.Format.TheVariants.{Plain, Extended}
use Rattle.trace.specs.declared.format.Version.TheVariants.{One, Two}
use Rattle.trace.specs.declared.table.Field.{Field}
use Rattle.trace.specs.declared.table.Field.TheVariants.{Sectors}
use Rattle.trace.specs.declared.table.BehindKind.{BehindKind}
use Rattle.trace.specs.declared.table.BehindKind.TheVariants.{Nothing, HostedDisk, ImageDisk}
use Rattle.trace.specs.declared.value.FieldValue.{FieldValue}
use Rattle.trace.specs.declared.value.FieldValue.TheVariants as value
use Rattle.trace.specs.declared.word.Word.{Word}
use Rattle.trace.specs.declared.word.Word.TheVariants.{Slot, Write, Plug, DeviceWrite}
use Rattle.trace.specs.Printable.{IsWriteAccess}
use Rattle.device_list.specs.declared.spec.DeviceSpec.{DeviceSpec}
use Rattle.device_list.specs.declared.spec.DeviceSpec.TheVariants as spec
use Rattle.trace.specs.Spelling.{behind_of, device_kind, value_text}
use Rattle.trace.specs.Values.{AreOf, IsOf, SaysValue, SayValues}
use Rattle.trace.specs.Words.{AllRight, AreRight, HasValueField, Num, Offset, Says, Shape, Value, Width, Window, Kind, SpecInRange, behind_kind, behind_word, fields_in, kind_among, shape_of, shapes, width_among}
use Rattle.trace.proofs.Widths.{digits_bound, num_width}

-- ---- the values so far

-- one value more
pub are_more : (ss : List Shape) (s : Shape) (vs : List FieldValue) (v : FieldValue) → AreOf ss vs → IsOf s v
    → AreOf (ss ++ s ∷ []) (vs ++ v ∷ [])
are_more [] s vs v h is = (v, [], (ap (λ (xs : List FieldValue). xs ++ v ∷ []) h, (is, refl)))
are_more (t ∷ ss) s vs v h is = (
  h.0,
  h.1 ++ v ∷ [],
  (
    ap (λ (xs : List FieldValue). xs ++ v ∷ []) h.2.0,
    (h.2.1.0, are_more ss s h.1 v h.2.1.1 is),
  ),
)

-- the fields that are left are right for what is left of the row
right_after : (f : Field → Shape) (row : List Field) (front left : List (List ℕ)) → length front ≤ length row
    → AllRight (map f row) (front ++ left) → AllRight (map f (drop (length front) row)) left
right_after f row [] left le h = h
right_after f [] (x ∷ front) left le h = absurd (omega arith)
right_after f (r ∷ row) (x ∷ front) left le h = right_after f row front left (omega arith) h.1

module _ (f : Field → Shape) (row : List Field) (vs : List FieldValue) (i : ℕ) (all left : List (List ℕ))
    (count : length vs ≡ i) (spelled : all ≡ map value_text vs ++ left) where
  rest_right : i ≤ length row → AllRight (map f row) all → AllRight (map f (drop i row)) left
  rest_right le h =
      let many : length (map value_text vs) ≡ i = length-map vs value_text ∙ count in
      subst (λ (n : ℕ). AllRight (map f (drop n row)) left) many
      (right_after f row (map value_text vs) left (omega (arith, many))
      (subst (AllRight (map f row)) spelled h))

  here_right : (d : Field) → i < length row → AllRight (map f row) all
      → AllRight (f (get_or row i d) ∷ map f (drop (i + 1) row)) left
  here_right d lt h = subst (λ (fs : List Field). AllRight (map f fs) left) (drop_more row i d lt)
      (rest_right (omega arith) h)

  -- a field is missing
  pub missing : i < length row → left ≡ [] → ¬ AllRight (map f row) all
  missing lt none h = subst (AllRight (f (get_or row i Sectors) ∷ map f (drop (i + 1) row))) none
      (here_right Sectors lt h)

  -- the next one says no value
  pub wrong : (d : Field) (bytes : List ℕ) (more : List (List ℕ)) → i < length row → left ≡ bytes ∷ more
      → ¬ Says (f (get_or row i d)) bytes → ¬ AllRight (map f row) all
  wrong d bytes more lt is fails h =
      fails (subst (AllRight (f (get_or row i d) ∷ map f (drop (i + 1) row))) is (here_right d lt h)).0

  -- one field is left over
  pub left_over : i ≡ length row → ¬ AllRight [] left → ¬ AllRight (map f row) all
  left_over e fails h = fails
      (subst (λ (fs : List Field). AllRight (map f fs) left) (drop_all i row (omega (arith, e)))
      (rest_right (omega (arith, e)) h))

  -- one value more
  pub one_more : (d : Field) (v : FieldValue) (bytes : List ℕ) (more : List (List ℕ)) → i < length row
      → AreOf (map f (take i row)) vs → left ≡ bytes ∷ more → SaysValue (f (get_or row i d)) bytes v
      → (all ≡ map value_text (vs ++ v ∷ []) ++ more) × AreOf (map f (take (i + 1) row)) (vs ++ v ∷ [])
  one_more d v bytes more lt are is says = (
    spelled ∙ ap (λ (fs : List (List ℕ)). map value_text vs ++ fs) (is
        ∙ ap (λ (t : List ℕ). t ∷ more) says.spelled)
        ∙ sym (append_assoc (map value_text vs) (value_text v ∷ []) more)
        ∙ ap (λ (fs : List (List ℕ)). fs ++ more) (sym (map-append value_text vs (v ∷ []))),
    subst (λ (ss : List Shape). AreOf ss (vs ++ v ∷ [])) (sym (map_more f row i d lt))
        (are_more (map f (take i row)) (f (get_or row i d)) vs v are says.is_of),
  )

  -- all values
  pub all_values : i ≡ length row → AreOf (map f (take i row)) vs → left ≡ [] → SayValues (map f row) all vs
  all_values e are none = record {
    are_of = subst (λ (fs : List Field). AreOf (map f fs) vs) (take_all i row (omega (arith, e))) are;
    spelled = spelled ∙ ap (λ (fs : List (List ℕ)). map value_text vs ++ fs) none
        ∙ append-nil (map value_text vs);
  }

-- ---- over the table

-- a slot has at most eight fields
slot_row_few : (format : Format) (b : BehindKind) → length (fields_in format Slot b) ≤ 8
slot_row_few (Plain One) b = omega arith
slot_row_few (Plain Two) b = omega arith
slot_row_few Extended b = omega arith

-- and what is to be plugged in
plug_row_few : (format : Format) (b : BehindKind) → length (fields_in format Plug b) ≤ 8
plug_row_few format Nothing = omega arith
plug_row_few format HostedDisk = omega arith
plug_row_few format ImageDisk = omega arith

-- none of them is read by a width
slot_row_alike : (format : Format) (b : BehindKind) (v w : List ℕ)
    → map (shape_of v) (fields_in format Slot b) ≡ map (shape_of w) (fields_in format Slot b)
slot_row_alike (Plain One) b v w = refl
slot_row_alike (Plain Two) b v w = refl
slot_row_alike Extended b v w = refl

pub behind_kind_alike : (b : BehindKind) (v w : List ℕ) → map (shape_of v) (behind_kind b) ≡ map (shape_of w) (behind_kind b)
behind_kind_alike Nothing v w = refl
behind_kind_alike HostedDisk v w = refl
behind_kind_alike ImageDisk v w = refl

pub at_most_eight : (format : Format) (word : Word) (b : BehindKind) → length (fields_in format word b) ≤ 8
at_most_eight format Slot b = slot_row_few format b
at_most_eight format Plug b = plug_row_few format b
at_most_eight format word b = omega arith

-- only a write's shapes depend on a width
pub shapes_by : (format : Format) (word : Word) (width : List ℕ) (fields : List (List ℕ))
    → (HasValueField word → width ≡ width_among fields)
    → map (shape_of width) (fields_in format word (behind_word (kind_among fields))) ≡ shapes format word fields
shapes_by format Slot width fields same =
    slot_row_alike format (behind_word (kind_among fields)) width (width_among fields)
shapes_by format Plug width fields same = ap (λ (ss : List Shape). Num 8 ∷ Num 8 ∷ Kind ∷ ss)
    (behind_kind_alike (behind_word (kind_among fields)) width (width_among fields))
shapes_by format Write width fields same =
    ap (λ (by : List ℕ). Num 8 ∷ Window ∷ Offset ∷ Width ∷ Value by ∷ []) (same tt)
shapes_by format DeviceWrite width fields same =
    ap (λ (by : List ℕ). Num 8 ∷ Num 8 ∷ Offset ∷ Width ∷ Value by ∷ []) (same tt)
shapes_by format word width fields same = refl

-- the fields of an event are the same in each format
pub same_right : (format other : Format) (word : Word) (fields : List (List ℕ)) → word ≢ Slot
    → AreRight format word fields → AreRight other word fields
same_right format other Slot fields event h = absurd (event refl)
same_right format other word fields event h = h

-- ---- a write

-- its values: the second has this shape, and the last is read by the width before it
pub record IsWrite (shape : Shape) (vs : List FieldValue) : Type 0 where
  pub slot : ℕ
  pub second : FieldValue
  pub offset : ℕ
  pub width : ℕ
  pub val : ℕ
  pub are : vs ≡ value.Number slot ∷ second ∷ value.Offset offset ∷ value.Width width
      ∷ value.Value width val ∷ []
  pub small : slot < 2 ^ 8
  pub is_second : IsOf shape second
  pub fine : IsWriteAccess offset width val

pub written : (shape : Shape) (vs : List FieldValue)
    → AreOf (Num 8 ∷ shape ∷ Offset ∷ Width ∷ Value (width_among (map value_text vs)) ∷ []) vs
    → IsWrite shape vs
written shape vs h =
    let t0 = h.2.1.1 in
    let t1 = t0.2.1.1 in
    let t2 = t1.2.1.1 in
    let t3 = t2.2.1.1 in
    let t4 = t3.2.1.1 in
    let slot = h.2.1.0 in
    let offset = t1.2.1.0 in
    let width = t2.2.1.0 in
    let up_to_width : vs ≡ value.Number slot.0 ∷ t0.0 ∷ value.Offset offset.0 ∷ value.Width width.0 ∷ t2.1 =
    h.2.0 ∙ ap (λ (xs : List FieldValue). h.0 ∷ xs) (t0.2.0
    ∙ ap (λ (xs : List FieldValue). t0.0 ∷ xs) (t1.2.0 ∙ ap (λ (xs : List FieldValue). t1.0 ∷ xs) t2.2.0))
    ∙ rw (slot.1.0, offset.1.0, width.1.0) refl
    in
    let by : slice_index_or (map value_text vs) 3 [] ≡ value_text (value.Width width.0) =
    ap (λ (xs : List FieldValue). slice_index_or (map value_text xs) 3 []) up_to_width in
    let val = t3.2.1.0 width.0 (record { fits = width.1.1; spelled = by ∙ num_width width.0 width.1.1 }) in
    let last : t2.1 ≡ value.Value width.0 val.0 ∷ [] = t3.2.0 ∙ rw (val.1.0, t4) refl in
    record {
      slot = slot.0;
      second = t0.0;
      offset = offset.0;
      width = width.0;
      val = val.0;
      are = up_to_width ∙ ap (λ (xs : List FieldValue). value.Number slot.0 ∷ t0.0
          ∷ value.Offset offset.0 ∷ value.Width width.0 ∷ xs) last;
      small = slot.1.1;
      is_second = t0.2.1.0;
      fine = record {
        access = record { three_digits = offset.1.1; wide = width.1.1 };
        within = subst (λ (most : ℕ). val.0 < most) (digits_bound width.0 width.1.1) val.1.1;
      };
    }

-- ---- a plug

-- what stands behind a kind is told by its spelling
pub kind_behind : (kind : DeviceSpec) → behind_word (device_kind kind) ≡ behind_of kind
kind_behind spec.Entropy = refl
kind_behind (spec.Network mac mtu) = refl
kind_behind (spec.Console cols rows) = refl
kind_behind (spec.Block sectors read_only identity depth) = refl
kind_behind (spec.Image extent read_only identity) = refl

-- its values, of which those behind the kind are what stands there
pub record IsPlug (vs : List FieldValue) : Type 0 where
  pub slot : ℕ
  pub number : ℕ
  pub kind : DeviceSpec
  pub behind : List FieldValue
  pub are : vs ≡ value.Number slot ∷ value.Number number ∷ value.Kind kind ∷ behind
  pub small : slot < 2 ^ 8
  pub few : number < 2 ^ 8
  pub fits : SpecInRange kind
  pub rest : AreOf (map (shape_of []) (behind_kind (behind_of kind))) behind

pub plugged : (vs : List FieldValue) → AreOf (shapes Extended Plug (map value_text vs)) vs → IsPlug vs
plugged vs h =
    let t0 = h.2.1.1 in
    let t1 = t0.2.1.1 in
    let slot = h.2.1.0 in
    let number = t0.2.1.0 in
    let kind = t1.2.1.0 in
    let are : vs ≡ value.Number slot.0 ∷ value.Number number.0 ∷ value.Kind kind.0 ∷ t1.1 =
    h.2.0 ∙ ap (λ (xs : List FieldValue). h.0 ∷ xs) (t0.2.0
    ∙ ap (λ (xs : List FieldValue). t0.0 ∷ xs) t1.2.0) ∙ rw (slot.1.0, number.1.0, kind.1.0) refl
    in
    let told : behind_word (kind_among (map value_text vs)) ≡ behind_of kind.0 =
    ap (λ (xs : List FieldValue). behind_word (kind_among (map value_text xs))) are ∙ kind_behind kind.0
    in
    record {
      slot = slot.0;
      number = number.0;
      kind = kind.0;
      behind = t1.1;
      are = are;
      small = slot.1.1;
      few = number.1.1;
      fits = kind.1.1;
      rest = subst (λ (ss : List Shape). AreOf ss t1.1)
          (behind_kind_alike (behind_word (kind_among (map value_text vs))) (width_among (map value_text vs)) []
          ∙ ap (λ (b : BehindKind). map (shape_of []) (behind_kind b)) told) t1.2.1.1;
    }
