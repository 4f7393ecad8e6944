-- The values of a line's fields: of which shape one is, and those that the fields say.
use Rattle.std.specs.Prelude.{◌≡◌, ℕ, ◌*◌, ◌^◌, ◌<◌, Bool, List, [], ◌∷◌, map}
use Rattle.std.specs.Borrow.{Bor}
use Rattle.block_device.specs.declared.operation.Verdict as operation
use Rattle.board.specs.declared.spec.Backing.{Backing}
use Rattle.board.specs.declared.event.SlotWindow.{SlotWindow}
use Rattle.device_list.specs.declared.spec.DeviceSpec.{DeviceSpec}
use Rattle.trace.specs.declared.value.FieldValue.{FieldValue}
use Rattle.trace.specs.declared.value.FieldValue.TheVariants as value
use Rattle.trace.specs.Spelling.{value_text}
use Rattle.trace.specs.Words.{Shape, Num, Regions, Disk, Offset, Window, Width, Value, Mode, Verdict, Bytes, Identity, Kind, Link, DiskInRange, SpecInRange, IsIdentityField, IsWidth, IsWidthField, Says}

-- the value is one of a shape; where there is no width to read it by, any is
abbrev pub IsOf : Shape → FieldValue → Type 0
IsOf (Num bits) v = (n : ℕ) × ((v ≡ value.Number n) × (n < 2 ^ bits))
IsOf Regions v = (field : Bor (List ℕ)) × ((v ≡ value.Spelled field) × Says Regions field.now)
IsOf Disk v = (backing : Backing) × ((spare : ℕ) × ((v ≡ value.Disk backing spare) × DiskInRange backing spare))
IsOf Offset v = (n : ℕ) × ((v ≡ value.Offset n) × (n < 16 ^ 3))
IsOf Window v = (kind : SlotWindow) × (v ≡ value.Window kind)
IsOf Width v = (width : ℕ) × ((v ≡ value.Width width) × IsWidth width)
IsOf (Value width_field) v = (width : ℕ) → IsWidthField width_field width → (n : ℕ)
    × ((v ≡ value.Value width n) × (n < 16 ^ (2 * width)))
IsOf Mode v = (read_only : Bool) × (v ≡ value.Mode read_only)
IsOf Verdict v = (came : operation.Verdict) × (v ≡ value.Verdict came)
IsOf Kind v = (spec : DeviceSpec) × ((v ≡ value.Kind spec) × SpecInRange spec)
IsOf Link v = (up : Bool) × (v ≡ value.Link up)
IsOf Bytes v = (field : Bor (List ℕ)) × ((v ≡ value.Spelled field) × Says Bytes field.now)
IsOf Identity v = (bs : List ℕ) × ((v ≡ value.Identity bs) × IsIdentityField (value_text v) bs)

-- each value is one of its shape
abbrev pub AreOf : List Shape → List FieldValue → Type 0
AreOf [] vs = vs ≡ []
AreOf (shape ∷ shapes) vs = (v : FieldValue) × (others : List FieldValue)
    × ((vs ≡ v ∷ others) × (IsOf shape v × AreOf shapes others))

-- the field says this value of a shape
pub record SaysValue (shape : Shape) (field : List ℕ) (v : FieldValue) : Type 0 where
  pub is_of : IsOf shape v
  pub spelled : field ≡ value_text v

-- the fields say these values of their shapes
pub record SayValues (shapes : List Shape) (fields : List (List ℕ)) (vs : List FieldValue) : Type 0 where
  pub are_of : AreOf shapes vs
  pub spelled : fields ≡ map value_text vs
