-- The sectors of the disks over the image: those of one that is added are its own.
use Rattle.std.proofs.Common.{◌≡◌, ◌∙◌, ◌+◌, ◌||◌, ◌⊎◌, inl, inr, ℕ, zero, suc, arith, nat_lt, Bool, true, false, Option, Some, List, [], ◌∷◌, length, refl, sym, ap, subst}
use Rattle.std.specs.Prelude.{◌<◌, ◌++◌, ◌==◌, None, if◌then◌else◌, nat_le}
use Rattle.std.specs.List.{list_any}
use Rattle.std.specs.Option.{option_map_or}
use Rattle.std.proofs.lemmas.Bool.{lt-ltb, ltb-false}
use Rattle.block_device.specs.declared.device.BlockDevice.{BlockDevice}
use Rattle.block_device.specs.declared.extent.Extent.{Extent}
use Rattle.block_device.specs.Extent.{IsWithin}
use Rattle.device_list.specs.declared.spec.AddRefusal.{AddRefusal}
use Rattle.device_list.specs.declared.spec.AddRefusal.TheVariants.{BadDisk, BadExtent, BadMtu, TooMany}
use Rattle.device_list.specs.declared.spec.DeviceSpec.{DeviceSpec}
use Rattle.device_list.specs.declared.spec.DeviceSpec.TheVariants as spec
use Rattle.device_list.specs.Device.{DeviceState, fresh_device}
use Rattle.device_list.specs.Image.{HasSector, HaveOwnSectors}
use Rattle.device_list.specs.List.{do_overlap, has_bad_extent, has_some_of, image_at, refusal_of}
use Rattle.device_list.specs.Model.{fresh_model, has_bad_disk, has_bad_mtu, image_of}

-- ---- a disk at the end of the list, or before it

found : (devices : List DeviceState) (d : DeviceState) (n : ℕ) (disk : BlockDevice)
    → image_at n (devices ++ d ∷ []) ≡ Some disk
    → (image_at n devices ≡ Some disk) ⊎ ((n ≡ length devices) × (image_of d.model ≡ Some disk))
found [] d zero disk is = inr (refl, is)
found [] d (suc n) disk is = absurd (cc is)
found (e ∷ es) d zero disk is = inl is
found (e ∷ es) d (suc n) disk is = elim (found es d n disk is) [
  | inl there ↦ inl there
  | inr last ↦ inr (ap suc last.0, last.1)
]

-- spare sectors, none of which another disk has
record IsFree (spare : ℕ) (devices : List DeviceState) (extent : Extent) : Type 0 where
  some : 0 < extent.count
  lies : IsWithin spare extent
  apart : (sector n : ℕ) (other : BlockDevice) → image_at n devices ≡ Some other → HasSector sector extent
      → HasSector sector other.extent → ⊥

module _ (spare : ℕ) (devices : List DeviceState) (d : DeviceState) (own : HaveOwnSectors spare devices)
    (free : (disk : BlockDevice) → image_of d.model ≡ Some disk → IsFree spare devices disk.extent) where
  shares : (sector n o : ℕ) (one other : BlockDevice) → image_at n (devices ++ d ∷ []) ≡ Some one
      → image_at o (devices ++ d ∷ []) ≡ Some other → HasSector sector one.extent → HasSector sector other.extent → n ≡ o
  shares sector n o one other is there s t = elim (found devices d n one is) [
    | inl a ↦ elim (found devices d o other there) [
      | inl b ↦ own.apart sector n o one other a b s t
      | inr b ↦ absurd ((free other b.1).apart sector n one a t s)
    ]
    | inr a ↦ elim (found devices d o other there) [
      | inl b ↦ absurd ((free one a.1).apart sector o other b s t)
      | inr b ↦ a.0 ∙ sym b.0
    ]
  ]

  pushed : HaveOwnSectors spare (devices ++ d ∷ [])
  pushed = record {
    some = λ n disk is. elim (found devices d n disk is) [
      | inl there ↦ own.some n disk there
      | inr last ↦ (free disk last.1).some
    ];
    lie = λ n disk is. elim (found devices d n disk is) [
      | inl there ↦ own.lie n disk there
      | inr last ↦ (free disk last.1).lies
    ];
    apart = shares;
  }

-- ---- what isn't refused

neither : (one other : Bool) → (one || other) ≡ false → (one ≡ false) × (other ≡ false)
neither true other is = absurd (cc (is))
neither false other is = (refl, is)

last_of : (many mtu disk extent : Bool)
    → ◌≡◌ {A = Option AddRefusal}
    (if many then Some TooMany else if mtu then Some BadMtu else if disk then Some BadDisk else if extent then Some BadExtent else None)
    None → extent ≡ false
last_of true mtu disk extent is = absurd (cc (is))
last_of false true disk extent is = absurd (cc (is))
last_of false false true extent is = absurd (cc (is))
last_of false false false true is = absurd (cc (is))
last_of false false false false is = refl

some_of : (count : ℕ) → (count == 0) ≡ false → 0 < count
some_of zero is = absurd (cc (is))
some_of (suc n) is = omega arith

-- two extents that have a sector in common overlap
not_shared : (one other : Extent) (sector : ℕ) → do_overlap one other ≡ false → HasSector sector one → HasSector sector other → ⊥
not_shared one other sector is s t =
    let first : nat_lt one.start (other.start + other.count) ≡ true =
    lt-ltb _ _ (omega (arith, s.begun, t.before_end)) in
    let second : nat_lt other.start (one.start + one.count) ≡ true =
    lt-ltb _ _ (omega (arith, t.begun, s.before_end)) in
    let both : do_overlap one other ≡ true = rw (first, second) refl in
    let clash : true ≡ false = sym both ∙ is in cc (clash)

none_has : (extent : Extent) (devices : List DeviceState) (n : ℕ) (disk : BlockDevice)
    → list_any (has_some_of extent) devices ≡ false → image_at n devices ≡ Some disk
    → do_overlap extent disk.extent ≡ false
none_has extent [] n disk none is = absurd (cc (is))
none_has extent (d ∷ ds) zero disk none is =
    ap (λ (found : Option BlockDevice). option_map_or (λ (x : BlockDevice). do_overlap extent x.extent) found false)
    (sym is)
    ∙ (neither (has_some_of extent d) (list_any (has_some_of extent) ds) none).0
none_has extent (d ∷ ds) (suc n) disk none is =
    none_has extent ds n disk (neither (has_some_of extent d) (list_any (has_some_of extent) ds) none).1 is

is_free : (spare : ℕ) (devices : List DeviceState) (extent : Extent) (read_only : Bool) (identity : List ℕ)
    → has_bad_extent devices spare (spec.Image extent read_only identity) ≡ false → IsFree spare devices extent
is_free spare devices extent read_only identity may =
    let others = neither (extent.count == 0)
    (nat_lt spare (extent.start + extent.count) || list_any (has_some_of extent) devices) may in
    let last = neither (nat_lt spare (extent.start + extent.count)) (list_any (has_some_of extent) devices) others.1 in
    record {
      some = some_of extent.count others.0;
      lies = ltb-false spare (extent.start + extent.count) last.0;
      apart = λ sector n other there s t.
          not_shared extent other.extent sector (none_has extent devices n other last.1 there) s t;
    }

inside_is : (one other : BlockDevice) → Some one ≡ Some other → one.extent ≡ other.extent
inside_is one other is = let same : one ≡ other = cc (is) in ap (λ (d : BlockDevice). d.extent) same

fresh_is_free : (spare : ℕ) (devices : List DeviceState) (of : DeviceSpec) (disk : BlockDevice)
    → has_bad_extent devices spare of ≡ false → image_of (fresh_model of) ≡ Some disk
    → IsFree spare devices disk.extent
fresh_is_free spare devices (spec.Image extent read_only identity) disk may is =
    subst (IsFree spare devices) (inside_is _ disk is) (is_free spare devices extent read_only identity may)
fresh_is_free spare devices spec.Entropy disk may is = absurd (cc (is))
fresh_is_free spare devices (spec.Network mac mtu) disk may is = absurd (cc (is))
fresh_is_free spare devices (spec.Block sectors read_only identity depth) disk may is = absurd (cc (is))
fresh_is_free spare devices (spec.Console cols rows) disk may is = absurd (cc (is))

-- ---- what is added

pub added_own : (spare : ℕ) (of : DeviceSpec) (devices : List DeviceState) → refusal_of devices spare of ≡ None
    → HaveOwnSectors spare devices → HaveOwnSectors spare (devices ++ fresh_device of ∷ [])
added_own spare of devices taken own =
    let may = last_of (nat_le 6 (length devices)) (has_bad_mtu of) (has_bad_disk of) (has_bad_extent devices spare of)
    taken in
    pushed spare devices (fresh_device of) own (λ disk is. fresh_is_free spare devices of disk may is)

pub still_own : (spare : ℕ) (old new : List DeviceState) → ((n : ℕ) → image_at n new ≡ image_at n old)
    → HaveOwnSectors spare old → HaveOwnSectors spare new
still_own spare old new same own = record {
  some = λ n disk is. own.some n disk (sym (same n) ∙ is);
  lie = λ n disk is. own.lie n disk (sym (same n) ∙ is);
  apart = λ sector n o one other is there s t.
      own.apart sector n o one other (sym (same n) ∙ is) (sym (same o) ∙ there) s t;
}

pub none_own : (spare : ℕ) → HaveOwnSectors spare []
none_own spare = record {
  some = λ n disk is. absurd (cc (is));
  lie = λ n disk is. absurd (cc (is));
  apart = λ sector n o one other is there s t. absurd (cc (is));
}
