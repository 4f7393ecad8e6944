-- Devices one after another: what is said of the first and of the others is said of all.
use Rattle.std.proofs.Common.{append-nil, append_assoc, ◌≡◌, ◌∙◌, ◌↔◌, ℕ, zero, suc, ◌-◌, ◌≤◌, ◌||◌, Option, Some, Bool, true, false, List, [], ◌∷◌, Result, Ok, Err, length, length-set, slice_index_or, take, drop, refl, sym, ap, subst, arith}
use Rattle.std.specs.Prelude.{◌<◌, ◌&&◌, ◌++◌, None, IfSome, IsSome, IsTrue, OnErr, nat_le, slice_set}
use Rattle.std.specs.List.{slice_get}
use Rattle.std.specs.Option.{MatchOption, option_and_then, option_map}
use Rattle.guest_memory.specs.Memory.{Memory}
use Rattle.mmio_window.specs.Saved.{saved_window, window_restored}
use Rattle.mmio_window.specs.declared.saved.SavedWindow.{SavedWindow}
use Rattle.mmio_window.specs.Soundness.{IsSound}
use Rattle.mmio_window.specs.Window.{WindowState}
use Rattle.std.proofs.lemmas.Bool.{le-leb, lt-leb}
use Rattle.snapshot.specs.declared.saved.SavedDevice.{SavedDevice}
use Rattle.device_list.specs.declared.spec.AddRefusal.TheVariants.{BadDisk, BadExtent, BadMtu, TooMany}
use Rattle.device_list.specs.declared.spec.DeviceSpec.{DeviceSpec}
use Rattle.device_list.specs.Device.{DeviceState, IsSoundDevice}
use Rattle.racing_window.specs.Memory.{window_fits}
use Rattle.device_list.specs.List.{AreSoundDevices, are_at_work, devices_fit, has_bad_extent, refusal_of}
use Rattle.device_list.specs.Model.{features_of, has_bad_disk, has_bad_mtu, is_at_work, kind_of}
use Rattle.device_list.specs.Saved.{RestoresEach, SuitDevices, SuitsDevice, device_window_restored, first_restored, saved_device, saved_devices, with_window}
use Rattle.device_list.proofs.Sound.{all_sound, held_idle}

all_taken : {A : Type 0} (xs : List A) → take (length xs) xs ≡ xs
all_taken [] = refl
all_taken (x ∷ xs) = ap (λ (ys : List _). x ∷ ys) (all_taken xs)

abbrev pub behind_first : {A : Type 0} → List A → List A
behind_first xs = take (length xs - 1) (drop 1 xs)

pub behind_is : {A : Type 0} (x : A) (xs : List A) → behind_first (x ∷ xs) ≡ xs
behind_is x xs = let len : length (x ∷ xs) - 1 ≡ length xs = omega arith in rw len (all_taken xs)

-- the others are fewer
pub others_fewer : (devices : List DeviceState) (n : ℕ) → n ≡ length devices → 1 ≤ length devices
    → length (behind_first devices) < n
others_fewer [] n is some = absurd (omega arith)
others_fewer (d ∷ ds) n is some = rw (behind_is d ds) (omega (arith, is))

-- the first suits: all suit where the others do
pub suits_more : (ss : List SavedDevice) (ds : List DeviceState) (s : SavedDevice) (d : DeviceState) (r : Bool)
    → 1 ≤ length ss → 1 ≤ length ds → d ≡ slice_index_or ds 0 d → SuitsDevice (slice_index_or ss 0 s) d
    → (IsTrue r ↔ SuitDevices (behind_first ss) (behind_first ds)) → IsTrue r ↔ SuitDevices ss ds
suits_more [] ds s d r some more is first others = absurd (omega arith)
suits_more (x ∷ ss) [] s d r some more is first others = absurd (omega arith)
suits_more (x ∷ ss) (y ∷ ds) s d r some more is first others =
    let rest = rw (behind_is x ss, behind_is y ds) at others in
    (λ yes. (subst (SuitsDevice x) is first, rest.0 yes), λ suit. rest.1 suit.1)

-- the first doesn't suit: not all suit
pub first_fails : (ss : List SavedDevice) (ds : List DeviceState) (s : SavedDevice) (d : DeviceState)
    → 1 ≤ length ss → 1 ≤ length ds → d ≡ slice_index_or ds 0 d → (SuitsDevice (slice_index_or ss 0 s) d → ⊥)
    → SuitDevices ss ds → ⊥
first_fails [] ds s d some more is not suit = absurd (omega arith)
first_fails (x ∷ ss) [] s d some more is not suit = absurd (omega arith)
first_fails (x ∷ ss) (y ∷ ds) s d some more is not suit = not (subst (SuitsDevice x) (sym is) suit.0)

-- not as many
pub fewer : (ss : List SavedDevice) (ds : List DeviceState) → length ds < 1 → 1 ≤ length ss → SuitDevices ss ds → ⊥
fewer [] ds none some suit = absurd (omega arith)
fewer (x ∷ ss) [] none some suit = suit
fewer (x ∷ ss) (y ∷ ds) none some suit = absurd (omega arith)

pub more : (ss : List SavedDevice) (ds : List DeviceState) → 1 ≤ length ds → length ss < 1 → SuitDevices ss ds → ⊥
more [] [] some none suit = absurd (omega arith)
more [] (y ∷ ds) some none suit = suit
more (x ∷ ss) ds some none suit = absurd (omega arith)

module _ (devices : List DeviceState) (spare : ℕ) (spec : DeviceSpec) (n : ℕ) (is : n ≡ length devices) where
  -- a device isn't added to six, and else for the first cause that there is
  pub too_many : 6 ≤ n → refusal_of devices spare spec ≡ Some TooMany
  too_many many =
      let full : nat_le 6 (length devices) ≡ true = le-leb _ _ (omega (arith, is, many)) in rw (full) refl

  module _ (few : n < 6) where
    room : nat_le 6 (length devices) ≡ false
    room = lt-leb _ _ (omega (arith, is, few))

    pub bad_mtu : has_bad_mtu spec ≡ true → refusal_of devices spare spec ≡ Some BadMtu
    bad_mtu bad = rw (room, bad) refl

    module _ (fits : has_bad_mtu spec ≡ false) where
      pub bad_disk : has_bad_disk spec ≡ true → refusal_of devices spare spec ≡ Some BadDisk
      bad_disk bad = rw (room, fits, bad) refl

      module _ (may : has_bad_disk spec ≡ false) where
        pub bad_extent : has_bad_extent devices spare spec ≡ true → refusal_of devices spare spec ≡ Some BadExtent
        bad_extent bad = rw (room, fits, may, bad) refl

        -- where there is none it is added
        pub not_refused : has_bad_extent devices spare spec ≡ false → refusal_of devices spare spec ≡ None
        not_refused free = rw (room, fits, may, free) refl

-- ---- an element

pub got : {A : Type 0} (xs : List A) (i : ℕ) (x : A) → i < length xs → x ≡ slice_index_or xs i x
    → slice_get xs i ≡ Some x
got [] i x lt is = absurd (omega arith)
got (y ∷ xs) zero x lt is = ap Some (sym is)
got (y ∷ xs) (suc i) x lt is = got xs i x (omega arith) is

pub not_got : {A : Type 0} (xs : List A) (i : ℕ) → length xs ≤ i → slice_get xs i ≡ None
not_got [] i le = refl
not_got (y ∷ xs) zero le = absurd (omega arith)
not_got (y ∷ xs) (suc i) le = not_got xs i (omega arith)

got_in : (read devices : List DeviceState) (i : ℕ) (d : DeviceState) → read ≡ devices → i < length read
    → d ≡ slice_index_or read i d → slice_get devices i ≡ Some d
got_in read devices i d seen lt is =
    subst (λ (l : List DeviceState). slice_get l i ≡ Some d) seen (got read i d lt is)

-- a list that is as long has an element there too
pub got_still : (read old after items : List DeviceState) (i : ℕ) (d : DeviceState) → read ≡ old → i < length read
    → length after ≡ length old → items ≡ after → d ≡ slice_index_or items i d → slice_get items i ≡ Some d
got_still read old after items i d seen lt len same is =
    got items i d
    (omega (arith, lt, ap (λ (l : List DeviceState). length l) seen, len, ap (λ (l : List DeviceState). length l) same))
    is

-- ---- the first devices, so many

-- nothing was saved of the last of them
pub none_saved : (m : Memory) (saved : List SavedDevice) (devices : List DeviceState) (count : ℕ) → 0 < count
    → length saved ≤ count - 1 → first_restored m count saved devices ≡ None
none_saved m saved devices zero some le = absurd (omega (arith, some))
none_saved m saved devices (suc n) some le = rw (not_got saved n (omega (arith, le))) refl

module _ (m : Memory) (saved : List SavedDevice) (devices : List DeviceState) (count : ℕ) (some : 0 < count)
    (s : SavedDevice) (within : count - 1 < length saved) (first : s ≡ slice_index_or saved (count - 1) s)
    (read : List DeviceState) (seen : read ≡ devices) where
  again : (r : Option (List DeviceState)) → first_restored m (suc (count - 1)) saved devices ≡ r
      → first_restored m count saved devices ≡ r
  again r is =
      let counted : suc (count - 1) ≡ count = omega arith in
      subst (λ (n : ℕ). first_restored m n saved devices ≡ r) counted is

  was_saved : slice_get saved (count - 1) ≡ Some s
  was_saved = got saved (count - 1) s within first

  pub none_there : length read ≤ count - 1 → first_restored m count saved devices ≡ None
  none_there le =
      let none = subst (λ (l : List DeviceState). slice_get l (count - 1) ≡ None) seen (not_got read (count - 1) le) in
      again None (rw (was_saved, none) refl)

  module _ (d : DeviceState) (lt : count - 1 < length read) (found : d ≡ slice_index_or read (count - 1) d) where
    pub there : slice_get devices (count - 1) ≡ Some d
    there = got_in read devices (count - 1) d seen lt found

    pub none_stands : window_restored (kind_of d.model) m s.window ≡ None → first_restored m count saved devices ≡ None
    none_stands none = again None (rw (was_saved, there, none) refl)

    module _ (w : WindowState) (stands : window_restored (kind_of d.model) m s.window ≡ Some w) where
      pub none_before : first_restored m (count - 1) saved devices ≡ None
          → first_restored m count saved devices ≡ None
      none_before none = again None (rw (was_saved, there, stands, none) refl)

      pub all_stand : IsSome (option_and_then (with_window (count - 1) w) (first_restored m (count - 1) saved devices))
          → IsSome (first_restored m count saved devices)
      all_stand stand =
          subst (λ (r : Option (List DeviceState)). IsSome r) (sym (again _ refl)) (rw (was_saved, there, stands) stand)

      pub all_before : (after items : List DeviceState) (here put : DeviceState)
          → first_restored m (count - 1) saved devices ≡ Some after → items ≡ after
          → slice_get items (count - 1) ≡ Some here → put ≡ record { window = w; model = here.model }
          → first_restored m count saved devices ≡ Some (slice_set items (count - 1) put)
      all_before after items here put before same now made =
          let others = before ∙ ap (λ (l : List DeviceState). Some l) (sym same) in
          again (Some (slice_set items (count - 1) put)) (rw (was_saved, there, stands, others, now, made) refl)

pub set_len : (items : List DeviceState) (i : ℕ) (d : DeviceState) (after old : List DeviceState) → items ≡ after
    → length after ≡ length old → length (slice_set items i d) ≡ length old
set_len items i d after old is len =
    length-set items i d ∙ (ap (λ (l : List DeviceState). length l) is ∙ len)

-- ---- what has changed, and that it is sound

-- no element above the one that is replaced changes
pub set_above : {A : Type 0} (xs : List A) (n i : ℕ) (x : A) → n < i → slice_get (slice_set xs n x) i ≡ slice_get xs i
set_above [] n i x lt = refl
set_above (y ∷ xs) n zero x lt = absurd (omega arith)
set_above (y ∷ xs) zero (suc i) x lt = refl
set_above (y ∷ xs) (suc n) (suc i) x lt = set_above xs n i x (omega arith)

pub set_above_in : (items after old : List DeviceState) (count i : ℕ) (d : DeviceState) → 0 < count → count ≤ i
    → items ≡ after → ((k : ℕ) → count - 1 ≤ k → slice_get after k ≡ slice_get old k)
    → slice_get (slice_set items (count - 1) d) i ≡ slice_get old i
set_above_in items after old count i d some le is above =
    set_above items (count - 1) i d (omega arith)
    ∙ (ap (λ (l : List DeviceState). slice_get l i) is ∙ above i (omega arith))

some_is : {A : Type 0} (x y : A) → Some x ≡ Some y → x ≡ y
some_is x y e = cc

suits_at : (ss : List SavedDevice) (ds : List DeviceState) (i : ℕ) (s : SavedDevice) (d : DeviceState)
    → SuitDevices ss ds → slice_get ss i ≡ Some s → slice_get ds i ≡ Some d → SuitsDevice s d
suits_at [] ds i s d suit is there = absurd cc
suits_at (x ∷ ss) [] i s d suit is there = absurd cc
suits_at (x ∷ ss) (y ∷ ds) zero s d suit is there =
    subst (λ (e : DeviceState). SuitsDevice s e) (some_is y d there)
    (subst (λ (t : SavedDevice). SuitsDevice t y) (some_is x s is) suit.0)
suits_at (x ∷ ss) (y ∷ ds) (suc i) s d suit is there = suits_at ss ds i s d suit.1 is there

sound_at : (m : Memory) (ds : List DeviceState) (i : ℕ) (d : DeviceState) → AreSoundDevices m ds → i < length ds
    → d ≡ slice_index_or ds i d → IsSoundDevice m d
sound_at m ds i d sound lt is = subst (IsSoundDevice m) (sym is) (sound i d lt)

-- none is at work of devices that aren't
first_idle : (works others : Bool) → (works || others) ≡ false → works ≡ false
first_idle true others is = absurd (cc is)
first_idle false others is = refl

others_idle : (works others : Bool) → (works || others) ≡ false → others ≡ false
others_idle true others is = absurd (cc is)
others_idle false others is = is

idle_at : (ds : List DeviceState) (i : ℕ) (d : DeviceState) → are_at_work ds ≡ false → slice_get ds i ≡ Some d
    → is_at_work d.model ≡ false
idle_at [] i d idle there = absurd (cc there)
idle_at (y ∷ ds) zero d idle there =
    ap (λ (e : DeviceState). is_at_work e.model) (sym (some_is y d there))
    ∙ first_idle (is_at_work y.model) (are_at_work ds) idle
idle_at (y ∷ ds) (suc i) d idle there =
    idle_at ds i d (others_idle (is_at_work y.model) (are_at_work ds) idle) there

-- the devices, of which one has its window as it was saved
pub restored_sound : (m : Memory) (saved : List SavedDevice) (old read after items : List DeviceState) (i : ℕ)
    (s : SavedDevice) (d there put : DeviceState) (w : WindowState) → are_at_work old ≡ false
    → SuitDevices saved old → AreSoundDevices m old
    → AreSoundDevices m after → items ≡ after → i < length saved → s ≡ slice_index_or saved i s → i < length read
    → d ≡ slice_index_or read i d → read ≡ old → slice_get items i ≡ Some there → slice_get after i ≡ slice_get old i
    → put ≡ record { window = w; model = there.model } → w.kind ≡ kind_of d.model → saved_window w ≡ s.window
    → IsSound m w → AreSoundDevices m (slice_set items i put)
restored_sound m saved old read after items i s d there put w idle suit sound so same within first lt found seen now
    above made kind again here =
    let at_old : slice_get old i ≡ Some d = got_in read old i d seen lt found in
    let suits = suits_at saved old i s d suit (got saved i s within first) at_old in
    let was = sound_at m read i d (subst (λ (l : List DeviceState). AreSoundDevices m l) (sym seen) sound) lt found in
    let model_is : there ≡ d =
    some_is there d (sym now ∙ (ap (λ (l : List DeviceState). slice_get l i) same ∙ (above ∙ at_old))) in
    let models : there.model ≡ d.model = ap (λ (e : DeviceState). e.model) model_is in
    let one : IsSoundDevice m (record { window = w; model = there.model }) = record {
      kind = kind ∙ ap kind_of (sym models);
      offers =
          ap (λ (v : SavedWindow). v.negotiation.offered) again
          ∙ (suits.offered ∙ (was.offers ∙ ap features_of (sym models)));
      window = here;
      held = held_idle m w there.model (ap is_at_work models ∙ idle_at old i d idle at_old);
    } in
    all_sound m m items after i put same (record { base = refl; size = refl; gaps = refl }) so
    (subst (IsSoundDevice m) (sym made) one)

-- ---- what is saved gives each window back

pub restores_more : (m : Memory) (ds : List DeviceState) (d : DeviceState) → 1 ≤ length ds → d ≡ slice_index_or ds 0 d
    → (IsSoundDevice m d → device_window_restored m (saved_device d) d ≡ Some d.window)
    → (AreSoundDevices m (behind_first ds) → RestoresEach m (behind_first ds)) → AreSoundDevices m ds
    → RestoresEach m ds
restores_more m [] d some is first others sound = absurd (omega arith)
restores_more m (y ∷ ds) d some is first others sound =
    let rest = rw (behind_is y ds) at others in (
      subst (λ (e : DeviceState). device_window_restored m (saved_device e) e ≡ Some e.window) is
          (first (subst (IsSoundDevice m) (sym is) (sound 0 y (omega arith)))),
      rest (λ k e lt. sound (suc k) e (omega arith)),
    )

-- ---- what a look into a list finds

pub looked_up : {X : Type 0} (now : X → DeviceState) (P : X → Type 0) (found : Option X) (items : List DeviceState) (i : ℕ)
    → IfSome found (λ x. now x ≡ slice_index_or items i (now x))
    → MatchOption found (length items ≤ i) (λ x. (i < length items) × P x)
    → option_map now found ≡ slice_get items i
looked_up now P None items i at bound = sym (not_got items i bound)
looked_up now P (Some x) items i at bound = sym (got items i (now x) bound.0 at)

-- what is saved of the first and of the others is saved of all
pub saved_more : (out : List SavedDevice) (ds : List DeviceState) (d : DeviceState) (s : SavedDevice)
    → 1 ≤ length ds → d ≡ slice_index_or ds 0 d → s ≡ saved_device d
    → (out ++ s ∷ []) ++ saved_devices (behind_first ds) ≡ out ++ saved_devices ds
saved_more out [] d s some is saved = absurd (omega arith)
saved_more out (y ∷ ds) d s some is saved =
    rw (behind_is y ds, saved, is) (append_assoc out (saved_device y ∷ []) (saved_devices ds))

pub saved_none : (out : List SavedDevice) (ds : List DeviceState) → length ds < 1 → out ≡ out ++ saved_devices ds
saved_none out [] none = sym (append-nil out)
saved_none out (y ∷ ds) none = absurd (omega arith)

pub restores_none : (m : Memory) (ds : List DeviceState) → length ds < 1 → RestoresEach m ds
restores_none m [] none = tt
restores_none m (y ∷ ds) none = absurd (omega arith)

pub none_suit : (ss : List SavedDevice) (ds : List DeviceState) → length ds < 1 → length ss < 1 → SuitDevices ss ds
none_suit [] [] none all = tt
none_suit [] (y ∷ ds) none all = absurd (omega arith)
none_suit (x ∷ ss) ds none all = absurd (omega arith)

-- ---- whether they can stand over another memory

first_fits : (m : Memory) (d x : DeviceState) (first : Bool) → first ≡ window_fits m d.window → d ≡ x
    → first ≡ window_fits m x.window
first_fits m d x first is same = is ∙ ap (λ (e : DeviceState). window_fits m e.window) same

-- the first can: all can where the others can
pub fits_more : (m : Memory) (ds : List DeviceState) (d : DeviceState) (first others : Bool) → 1 ≤ length ds
    → d ≡ slice_index_or ds 0 d → first ≡ window_fits m d.window → first ≡ true
    → others ≡ devices_fit m (behind_first ds) → others ≡ devices_fit m ds
fits_more m [] d first others some is one fits other = absurd (omega arith)
fits_more m (x ∷ ds) d first others some is one fits other =
    other ∙ ap (λ (rest : List DeviceState). devices_fit m rest) (behind_is x ds)
    ∙ ap (λ (b : Bool). b && devices_fit m ds) (sym fits ∙ first_fits m d x first one is)

-- it can't: not all can
pub fits_not : (m : Memory) (ds : List DeviceState) (d : DeviceState) (first : Bool) → 1 ≤ length ds
    → d ≡ slice_index_or ds 0 d → first ≡ window_fits m d.window → first ≡ false → first ≡ devices_fit m ds
fits_not m [] d first some is one fails = absurd (omega arith)
fits_not m (x ∷ ds) d first some is one fails =
    fails ∙ ap (λ (b : Bool). b && devices_fit m ds) (sym fails ∙ first_fits m d x first one is)

-- a device that is put back in its place leaves the list as it was
pub set_back : (ds : List DeviceState) (i : ℕ) (d e : DeviceState) → i < length ds → d ≡ slice_index_or ds i d → e ≡ d
    → slice_set ds i e ≡ ds
set_back [] i d e lt is same = absurd (omega arith)
set_back (y ∷ ds) zero d e lt is same = ap (λ (x : DeviceState). x ∷ ds) (same ∙ is)
set_back (y ∷ ds) (suc i) d e lt is same = ap (λ (l : List DeviceState). y ∷ l) (set_back ds i d e (omega arith) is same)

-- where a device refuses, the list stays
pub refused_stays : {T E : Type 0} (result : Result T E) (ds old : List DeviceState) (i : ℕ) (d e : DeviceState) → ds ≡ old
    → i < length ds → d ≡ slice_index_or ds i d → OnErr result (e ≡ d) → OnErr result (slice_set ds i e ≡ old)
refused_stays (Ok told) ds old i d e was within found kept = tt
refused_stays (Err why) ds old i d e was within found kept = set_back ds i d e within found kept ∙ was
