-- What waits in a device is taken up as it was saved, and all else of the device stays.
use Rattle.std.proofs.Common.{◌≡◌, ◌∙◌, ℕ, zero, suc, ◌+◌, ◌^◌, ◌<◌, ◌≤◌, Bool, true, false, leb, Option, Some, None, List, [], ◌∷◌, ◌++◌, append_assoc, drop, length, slice_index_or, take, refl, sym, ap, ap₂, subst, true≢false, arith}
use Rattle.std.specs.Prelude.{◌↔◌, ◌==◌, IsSome, IsTrue, is_some, nat_le}
use Rattle.std.specs.Int.{to_le_bytes, w16, w32, w64}
use Rattle.std.specs.List.{AllZip, slice_get}
use Rattle.std.specs.Option.{option_map}
use Rattle.std.proofs.lemmas.Bool.{le-leb, ne_eqb}
use Rattle.std.proofs.lemmas.List.{length-append, take_at}
use Rattle.std.proofs.lemmas.List.Elements.{All-cons}
use Rattle.std.proofs.lemmas.Nat.{from_le_bytes-to_le_bytes_2, from_le_bytes-to_le_bytes_4, from_le_bytes-to_le_bytes_8}
use Rattle.guest_memory.specs.Memory.{Memory}
use Rattle.mmio_window.specs.Soundness.{IsSound}
use Rattle.mmio_window.specs.Window.{WindowState}
use Rattle.block_device.specs.declared.device.BlockDevice.{BlockDevice}
use Rattle.hosted_disk.specs.Disk.{HostedDisk}
use Rattle.network_device.specs.Frames.{IsWithin}
use Rattle.network_device.specs.Saved.{◌>>=◌, Reader, bytes_at, frames_at, number_at, saved_frames, tested}
use Rattle.network_device.proofs.Saving.{bytes_back, frames_back, number_back, step, tested_is}
use Rattle.device_list.specs.Card.{Card, card_limits}
use Rattle.device_list.specs.Device.{DeviceState, IsSoundDevice}
use Rattle.device_list.specs.List.{AreSoundDevices, image_at}
use Rattle.device_list.specs.Model.{ModelState, Block, Console, Entropy, Image, IsHeld, KeepsModel, Network, features_of, image_of, is_at_work, kind_of}
use Rattle.device_list.specs.Saved.{identity_of, mac_of, mtu_of, sectors_of}
use Rattle.device_list.specs.Terminal.{Terminal, terminal_limit}
use Rattle.device_list.proofs.Saved.{behind_first, behind_is}
use Rattle.device_list.specs.Waiting.{◌&◌, AreMadeAlike, AreOfOneType, AreOfTypes, Reads, ReadsPast, card_at, card_bytes, card_waits, card_with, counted, counted_at, each_waiting, emptied, flag, flag_at, made, refilled, refilled_devices, refilled_each, terminal_at, waiting_in, waiting_in_terminal, waiting_of, whole, with_waiting_of, with_waiting_of_each}

-- ---- a device as it was made

-- its type, and what it is known by, are those of the device
emptied_kind : (model : ModelState) → kind_of (emptied model) ≡ kind_of model
emptied_kind (Entropy pool) = refl
emptied_kind (Network card) = refl
emptied_kind (Block disk) = refl
emptied_kind (Console terminal) = refl
emptied_kind (Image disk) = refl

emptied_features : (model : ModelState) → features_of (emptied model) ≡ features_of model
emptied_features (Entropy pool) = refl
emptied_features (Network card) = refl
emptied_features (Block disk) = refl
emptied_features (Console terminal) = refl
emptied_features (Image disk) = refl

emptied_mac : (model : ModelState) → mac_of (emptied model) ≡ mac_of model
emptied_mac (Entropy pool) = refl
emptied_mac (Network card) = refl
emptied_mac (Block disk) = refl
emptied_mac (Console terminal) = refl
emptied_mac (Image disk) = refl

emptied_mtu : (model : ModelState) → mtu_of (emptied model) ≡ mtu_of model
emptied_mtu (Entropy pool) = refl
emptied_mtu (Network card) = refl
emptied_mtu (Block disk) = refl
emptied_mtu (Console terminal) = refl
emptied_mtu (Image disk) = refl

emptied_sectors : (model : ModelState) → sectors_of (emptied model) ≡ sectors_of model
emptied_sectors (Entropy pool) = refl
emptied_sectors (Network card) = refl
emptied_sectors (Block disk) = refl
emptied_sectors (Console terminal) = refl
emptied_sectors (Image disk) = refl

emptied_identity : (model : ModelState) → identity_of (emptied model) ≡ identity_of model
emptied_identity (Entropy pool) = refl
emptied_identity (Network card) = refl
emptied_identity (Block disk) = refl
emptied_identity (Console terminal) = refl
emptied_identity (Image disk) = refl

emptied_image : (model : ModelState) → image_of (emptied model) ≡ image_of model
emptied_image (Entropy pool) = refl
emptied_image (Network card) = refl
emptied_image (Block disk) = refl
emptied_image (Console terminal) = refl
emptied_image (Image disk) = refl

emptied_work : (model : ModelState) → is_at_work (emptied model) ≡ is_at_work model
emptied_work (Entropy pool) = refl
emptied_work (Network card) = refl
emptied_work (Block disk) = refl
emptied_work (Console terminal) = refl
emptied_work (Image disk) = refl

emptied_held : (m : Memory) (w : WindowState) (model : ModelState) → IsHeld m w (emptied model) ≡ IsHeld m w model
emptied_held m w (Entropy pool) = refl
emptied_held m w (Network card) = refl
emptied_held m w (Block disk) = refl
emptied_held m w (Console terminal) = refl
emptied_held m w (Image disk) = refl

-- What two devices have in common that were made alike.
pub record AreAlike (one other : ModelState) : Type 0 where
  pub kind : kind_of one ≡ kind_of other
  pub features : features_of one ≡ features_of other
  pub mac : mac_of one ≡ mac_of other
  pub mtu : mtu_of one ≡ mtu_of other
  pub sectors : sectors_of one ≡ sectors_of other
  pub identity : identity_of one ≡ identity_of other
  pub image : image_of one ≡ image_of other
  pub work : is_at_work one ≡ is_at_work other
  pub held : (m : Memory) (w : WindowState) → IsHeld m w other → IsHeld m w one

by_emptied : {A : Type 0} (of : ModelState → A) → ((model : ModelState) → of (emptied model) ≡ of model)
    → (one other : ModelState) → emptied one ≡ emptied other → of one ≡ of other
by_emptied of same one other is = sym (same one) ∙ (ap of is ∙ same other)

pub alike : (one other : ModelState) → emptied one ≡ emptied other → AreAlike one other
alike one other is = record {
  kind = by_emptied kind_of emptied_kind one other is;
  features = by_emptied features_of emptied_features one other is;
  mac = by_emptied mac_of emptied_mac one other is;
  mtu = by_emptied mtu_of emptied_mtu one other is;
  sectors = by_emptied sectors_of emptied_sectors one other is;
  identity = by_emptied identity_of emptied_identity one other is;
  image = by_emptied image_of emptied_image one other is;
  work = by_emptied is_at_work emptied_work one other is;
  held = λ m w held.
      subst (λ (T : Type 0). T) (emptied_held m w one)
      (subst (IsHeld m w) (sym is) (subst (λ (T : Type 0). T) (sym (emptied_held m w other)) held));
}

pub keeps_model : (old new : ModelState) → emptied new ≡ emptied old → KeepsModel old new
keeps_model old new is =
    let same = alike new old is in record { kind = same.kind; features = same.features; held = same.held }

pub one_type : (one other : ModelState) → emptied one ≡ emptied other → AreOfOneType one other
one_type one other is = (alike one other is).kind

pub of_types : (ds es : List DeviceState) → AreMadeAlike ds es → AreOfTypes ds es
of_types [] [] same = tt
of_types [] (e ∷ es) same = absurd same
of_types (d ∷ ds) [] same = absurd same
of_types (d ∷ ds) (e ∷ es) same = (one_type d.model e.model same.0, of_types ds es same.1)

-- ---- what waits in one, put into another

-- what holds of two devices of each type holds of two of one type
by_type : (P : ModelState → ModelState → Type 0) → ((p q : List ℕ) → P (Entropy p) (Entropy q))
    → ((c k : Card) → P (Network c) (Network k)) → ((b d : HostedDisk) → P (Block b) (Block d))
    → ((t u : Terminal) → P (Console t) (Console u)) → ((i j : BlockDevice) → P (Image i) (Image j))
    → ((b : HostedDisk) (i : BlockDevice) → P (Block b) (Image i)) → ((i : BlockDevice) (b : HostedDisk) → P (Image i) (Block b))
    → (one other : ModelState) → AreOfOneType one other → P one other
by_type P entropy network block console image taken given (Entropy p) (Entropy q) same = entropy p q
by_type P entropy network block console image taken given (Network c) (Network k) same = network c k
by_type P entropy network block console image taken given (Block b) (Block d) same = block b d
by_type P entropy network block console image taken given (Console t) (Console u) same = console t u
by_type P entropy network block console image taken given (Image i) (Image j) same = image i j
by_type P entropy network block console image taken given (Block b) (Image i) same = taken b i
by_type P entropy network block console image taken given (Image i) (Block b) same = given i b
by_type P entropy network block console image taken given (Entropy p) (Network c) same = absurd (cc same)
by_type P entropy network block console image taken given (Entropy p) (Block b) same = absurd (cc same)
by_type P entropy network block console image taken given (Entropy p) (Console t) same = absurd (cc same)
by_type P entropy network block console image taken given (Entropy p) (Image i) same = absurd (cc same)
by_type P entropy network block console image taken given (Network c) (Entropy p) same = absurd (cc same)
by_type P entropy network block console image taken given (Network c) (Block b) same = absurd (cc same)
by_type P entropy network block console image taken given (Network c) (Console t) same = absurd (cc same)
by_type P entropy network block console image taken given (Network c) (Image i) same = absurd (cc same)
by_type P entropy network block console image taken given (Block b) (Entropy p) same = absurd (cc same)
by_type P entropy network block console image taken given (Block b) (Network c) same = absurd (cc same)
by_type P entropy network block console image taken given (Block b) (Console t) same = absurd (cc same)
by_type P entropy network block console image taken given (Console t) (Entropy p) same = absurd (cc same)
by_type P entropy network block console image taken given (Console t) (Network c) same = absurd (cc same)
by_type P entropy network block console image taken given (Console t) (Block b) same = absurd (cc same)
by_type P entropy network block console image taken given (Console t) (Image i) same = absurd (cc same)
by_type P entropy network block console image taken given (Image i) (Entropy p) same = absurd (cc same)
by_type P entropy network block console image taken given (Image i) (Network c) same = absurd (cc same)
by_type P entropy network block console image taken given (Image i) (Console t) same = absurd (cc same)

-- a device with what waits in one that was made alike is that
pub refilled_is : (one other : ModelState) → emptied one ≡ emptied other → with_waiting_of one other ≡ one
refilled_is one other is =
    sym (over_emptied one other (one_type one other is))
    ∙ (ap (with_waiting_of one) (sym is) ∙ own_emptied one)
  where
    over_emptied : (one other : ModelState) → AreOfOneType one other
        → with_waiting_of one (emptied other) ≡ with_waiting_of one other
    over_emptied =
        by_type (λ one other. with_waiting_of one (emptied other) ≡ with_waiting_of one other)
        (λ p q. refl) (λ c k. refl) (λ b d. refl) (λ t u. refl) (λ i j. refl) (λ b i. refl) (λ i b. refl)

    own_emptied : (model : ModelState) → with_waiting_of model (emptied model) ≡ model
    own_emptied (Entropy pool) = refl
    own_emptied (Network card) = refl
    own_emptied (Block disk) = refl
    own_emptied (Console terminal) = refl
    own_emptied (Image disk) = refl

-- and devices on the same windows are those
pub refilled_are : (ds es : List DeviceState) → AreMadeAlike ds es
    → AllZip (λ (d e : DeviceState). d.window ≡ e.window) ds es → with_waiting_of_each ds es ≡ ds
refilled_are [] [] same windows = refl
refilled_are [] (e ∷ es) same windows = absurd same
refilled_are (d ∷ ds) [] same windows = absurd same
refilled_are (d ∷ ds) (e ∷ es) same windows =
    ap₂ (λ (x : DeviceState) (xs : List DeviceState). x ∷ xs)
    (ap₂ (λ (w : WindowState) (model : ModelState). record { window = w; model = model }) (sym windows.0)
    (refilled_is d.model e.model same.0))
    (refilled_are ds es same.1 windows.1)

-- ---- what is saved is read

-- reading gives back what was written so
pub record IsBack {A : Type 0} (read : Reader A) (bytes : List ℕ) (x : A) : Type 0 where
  pub back : (rest : List ℕ) → read (bytes ++ rest) ≡ Some (x, rest)

and_back : {A B : Type 0} (first : Reader A) (second : Reader B) (front behind : List ℕ) (x : A) (y : B)
    → IsBack first front x → IsBack second behind y → IsBack (first & second) (front ++ behind) (x, y)
and_back first second front behind x y one other = record {
  back = λ rest. rw (append_assoc front behind rest, one.back (behind ++ rest), other.back rest) refl;
}

made_back : {A B : Type 0} (make : A → B) (read : Reader A) (bytes : List ℕ) (x : A) → IsBack read bytes x
    → IsBack (made make read) bytes (make x)
made_back make read bytes x is = record { back = λ rest. rw (is.back rest) refl }

flag_back : (on : Bool) → IsBack flag_at (flag on) on
flag_back true = record { back = λ rest. refl }
flag_back false = record { back = λ rest. refl }

back16 : (n : ℕ) → n < 2 ^ 16 → IsBack (number_at w16) (to_le_bytes w16 n) n
back16 n fits = record { back = λ rest. number_back w16 n rest refl (from_le_bytes-to_le_bytes_2 n fits) }

back64 : (n : ℕ) → n < 2 ^ 64 → IsBack (number_at w64) (to_le_bytes w64 n) n
back64 n fits = record { back = λ rest. number_back w64 n rest refl (from_le_bytes-to_le_bytes_8 n fits) }

frames_are : (frames : List (List ℕ)) → IsWithin card_limits frames
    → IsBack (frames_at card_limits) (saved_frames frames) frames
frames_are frames within = record { back = λ rest. frames_back card_limits frames rest (omega arith) (omega arith) within }

counted_back : (most : ℕ) (bytes : List ℕ) → length bytes ≤ most → most < 2 ^ 32
    → IsBack (counted_at most) (counted bytes) bytes
counted_back most bytes few small = record {
  back = λ rest.
      let n = length bytes in let test : ℕ → Bool = λ n. nat_le n most in
      let may : leb n most ≡ true = le-leb _ _ few in
      ap (counted_at most) (append_assoc (to_le_bytes w32 n) bytes rest)
      ∙ (step (tested test (number_at w32) (to_le_bytes w32 n ++ (bytes ++ rest))) (n, bytes ++ rest)
      (λ count. bytes_at count.0 count.1)
      (tested_is test (number_at w32) (to_le_bytes w32 n ++ (bytes ++ rest)) n (bytes ++ rest)
      (number_back w32 n (bytes ++ rest) refl (from_le_bytes-to_le_bytes_4 n (omega (arith, few, small)))) may)
      ∙ bytes_back n bytes rest refl);
}

-- what waits in a device has the size of its fields
pub record CardFits (card : Card) : Type 0 where
  pub of_host : card.network.waiting.dropped < 2 ^ 64
  pub of_driver : card.network.dropped < 2 ^ 64
  pub to_driver : IsWithin card_limits card.network.waiting.frames
  pub to_host : IsWithin card_limits card.sent

pub record TerminalFits (terminal : Terminal) : Type 0 where
  pub cols : terminal.console.cols < 2 ^ 16
  pub rows : terminal.console.rows < 2 ^ 16
  pub pending : length terminal.console.pending ≤ 4096
  pub output : length terminal.waiting ≤ terminal_limit

pub card_back : (card : Card) → CardFits card → IsBack card_at (card_bytes (card_waits card)) (card_waits card)
card_back card fits =
    made_back _ _ _ _
    (and_back _ _ _ _ _ _ (flag_back card.network.configuration.link_up)
    (and_back _ _ _ _ _ _ (back64 card.network.waiting.dropped fits.of_host)
    (and_back _ _ _ _ _ _ (back64 card.network.dropped fits.of_driver)
    (and_back _ _ _ _ _ _ (frames_are card.network.waiting.frames fits.to_driver)
    (frames_are card.sent fits.to_host)))))

pub terminal_back : (terminal : Terminal) → TerminalFits terminal
    → IsBack terminal_at (waiting_in_terminal terminal) terminal
terminal_back terminal fits =
    made_back _ _ _ _
    (and_back _ _ _ _ _ _ (back16 terminal.console.cols fits.cols)
    (and_back _ _ _ _ _ _ (back16 terminal.console.rows fits.rows)
    (and_back _ _ _ _ _ _ (counted_back 4096 terminal.console.pending fits.pending (omega arith))
    (counted_back terminal_limit terminal.waiting fits.output (omega arith)))))

abbrev pub ModelFits : ModelState → Type 0
ModelFits (Entropy pool) = length pool ≤ 4096
ModelFits (Network card) = CardFits card
ModelFits (Block disk) = Unit {0}
ModelFits (Console terminal) = TerminalFits terminal
ModelFits (Image disk) = Unit {0}

pub model_back : (one other : ModelState) → ModelFits one → AreOfOneType one other
    → IsBack (refilled other) (waiting_in one) (with_waiting_of one other)
model_back one other fits same =
    by_type (λ one other. ModelFits one → IsBack (refilled other) (waiting_in one) (with_waiting_of one other))
    (λ p q fits. made_back _ _ _ _ (counted_back 4096 p fits (omega arith)))
    (λ c k fits. made_back _ _ _ _ (card_back c fits))
    (λ b d fits. made_back _ _ _ _ (flag_back b.on_hold))
    (λ t u fits. made_back _ _ _ _ (terminal_back t fits))
    (λ i j fits. made_back _ _ _ _ (flag_back false))
    (λ b i fits. made_back _ _ _ _ (flag_back b.on_hold))
    (λ i b fits. made_back _ _ _ _ (flag_back false)) one other same fits

-- ---- what is read

record IsMade {A B : Type 0} (make : A → B) (found : Option (A × List ℕ)) (y : B) (rest : List ℕ) : Type 0 where
  x : A
  was : found ≡ Some (x, rest)
  is : y ≡ make x

abbrev give : {A B : Type 0} → (A → B) → A × List ℕ → Option (B × List ℕ)
give make x = Some (make x.0, x.1)

made_is : {A B : Type 0} (make : A → B) (read : Reader A) (bytes : List ℕ) (y : B) (rest : List ℕ)
    → made make read bytes ≡ Some (y, rest) → IsMade make (read bytes) y rest
made_is {A} {B} make read bytes y rest e = by_found (read bytes) e
  where
    by_found : (found : Option (A × List ℕ)) → (found >>= give make) ≡ Some (y, rest) → IsMade make found y rest
    by_found None e = absurd cc
    by_found (Some x) e =
        let both : ◌≡◌ {A = B × List ℕ} (make x.0, x.1) (y, rest) = cc in record {
          x = x.0;
          was = ap (λ (l : List ℕ). Some (x.0, l)) (ap (λ (p : B × List ℕ). p.1) both);
          is = sym (ap (λ (p : B × List ℕ). p.0) both);
        }

-- a device that was refilled is as it was made
pub refilled_alike : (model : ModelState) (bytes : List ℕ) (new : ModelState) (rest : List ℕ)
    → refilled model bytes ≡ Some (new, rest) → emptied new ≡ emptied model
refilled_alike (Entropy pool) bytes new rest e =
    ap emptied (made_is Entropy (counted_at 4096) bytes new rest e).is
refilled_alike (Network card) bytes new rest e = ap emptied (made_is _ card_at bytes new rest e).is
refilled_alike (Block disk) bytes new rest e = ap emptied (made_is _ flag_at bytes new rest e).is
refilled_alike (Console terminal) bytes new rest e = ap emptied (made_is Console terminal_at bytes new rest e).is
refilled_alike (Image disk) bytes new rest e = ap emptied (made_is _ flag_at bytes new rest e).is

record IsBoth {A B : Type 0} (first : Reader A) (second : Reader B) (bytes : List ℕ) (x : A) (y : B) (rest : List ℕ)
    : Type 0 where
  mid : List ℕ
  one : first bytes ≡ Some (x, mid)
  other : second mid ≡ Some (y, rest)

abbrev pair : {A B : Type 0} → A → B × List ℕ → Option ((A × B) × List ℕ)
pair x y = Some ((x, y.0), y.1)

both_are : {A B : Type 0} (first : Reader A) (second : Reader B) (bytes : List ℕ) (z : A × B) (rest : List ℕ)
    → (first & second) bytes ≡ Some (z, rest) → IsBoth first second bytes z.0 z.1 rest
both_are {A} {B} first second bytes z rest e = by_first (first bytes) refl e
  where
    by_second : (x : A × List ℕ) → first bytes ≡ Some x → (found : Option (B × List ℕ)) → second x.1 ≡ found
        → (found >>= pair x.0) ≡ Some (z, rest) → IsBoth first second bytes z.0 z.1 rest
    by_second x is None was e = absurd cc
    by_second x is (Some y) was e =
        let all : ◌≡◌ {A = (A × B) × List ℕ} ((x.0, y.0), y.1) (z, rest) = cc in
        let left = ap (λ (p : (A × B) × List ℕ). p.1) all in
        let front = ap (λ (p : (A × B) × List ℕ). p.0.0) all in
        let behind = ap (λ (p : (A × B) × List ℕ). p.0.1) all in record {
          mid = x.1;
          one = is ∙ ap (λ (a : A). Some (a, x.1)) front;
          other = was ∙ ap₂ (λ (b : B) (l : List ℕ). Some (b, l)) behind left;
        }

    by_first : (found : Option (A × List ℕ)) → first bytes ≡ found
        → (found >>= (λ x. second x.1 >>= pair x.0)) ≡ Some (z, rest) → IsBoth first second bytes z.0 z.1 rest
    by_first None is e = absurd cc
    by_first (Some x) is e = by_second x is (second x.1) refl e

-- Devices that were refilled are as they were made, on their windows.
pub record IsRefilled (new old : DeviceState) : Type 0 where
  pub window : new.window ≡ old.window
  pub alike : emptied new.model ≡ emptied old.model

each_refilled : (es : List DeviceState) (bytes : List ℕ) (xs : List DeviceState) (rest : List ℕ)
    → refilled_each es bytes ≡ Some (xs, rest) → AllZip IsRefilled xs es
each_refilled [] bytes [] rest e = tt
each_refilled [] bytes (x ∷ xs) rest e =
    let both : ◌≡◌ {A = List DeviceState × List ℕ} ([], bytes) (x ∷ xs, rest) = cc in
    let none : 0 ≡ suc (length xs) = ap (λ (p : List DeviceState × List ℕ). length p.0) both in
    absurd (omega (arith, none))
each_refilled (d ∷ ds) bytes xs rest e =
    let all = made_is _ (refilled d.model & refilled_each ds) bytes xs rest e in
    let both = both_are (refilled d.model) (refilled_each ds) bytes all.x rest all.was in
    subst (λ (l : List DeviceState). AllZip IsRefilled l (d ∷ ds)) (sym all.is) (
      record { window = refl; alike = refilled_alike d.model bytes all.x.0 both.mid both.one },
      each_refilled ds both.mid all.x.1 rest both.other,
    )

record IsWhole {A : Type 0} (found : Option (A × List ℕ)) (x : A) : Type 0 where
  was : found ≡ Some (x, [])

whole_is : {A : Type 0} (found : Option (A × List ℕ)) (x : A) → whole found ≡ Some x → IsWhole found x
whole_is None x e = absurd cc
whole_is (Some (y, [])) x e = record { was = cc }
whole_is (Some (y, byte ∷ rest)) x e = absurd cc

as_they_were : (es : List DeviceState) → AllZip IsRefilled es es
as_they_were [] = tt
as_they_were (e ∷ es) = (record { window = refl; alike = refl }, as_they_were es)

pub refilled_are_alike : (bytes : Option (List ℕ)) (es xs : List DeviceState)
    → refilled_devices bytes es ≡ Some xs → AllZip IsRefilled xs es
refilled_are_alike None es xs e =
    let same : es ≡ xs = cc in subst (λ (l : List DeviceState). AllZip IsRefilled l es) same (as_they_were es)
refilled_are_alike (Some bytes) es xs e =
    each_refilled es bytes xs [] (whole_is (refilled_each es bytes) xs e).was

pub made_alike : (xs es : List DeviceState) → AllZip IsRefilled xs es → AreMadeAlike xs es
made_alike [] [] are = tt
made_alike [] (e ∷ es) are = absurd are
made_alike (x ∷ xs) [] are = absurd are
made_alike (x ∷ xs) (e ∷ es) are = (are.0.alike, made_alike xs es are.1)

pub same_windows : (xs es : List DeviceState) → AllZip IsRefilled xs es
    → AllZip (λ (x e : DeviceState). x.window ≡ e.window) xs es
same_windows [] [] are = tt
same_windows [] (e ∷ es) are = absurd are
same_windows (x ∷ xs) [] are = absurd are
same_windows (x ∷ xs) (e ∷ es) are = (are.0.window, same_windows xs es are.1)

-- the device of a number
pub record RefilledAt (xs : List DeviceState) (n : ℕ) (e : DeviceState) : Type 0 where
  pub device : DeviceState
  pub there : slice_get xs n ≡ Some device
  pub is : IsRefilled device e

pub refilled_at : (xs es : List DeviceState) → AllZip IsRefilled xs es → (n : ℕ) (e : DeviceState)
    → slice_get es n ≡ Some e → RefilledAt xs n e
refilled_at [] [] are n e there = absurd (cc there)
refilled_at [] (y ∷ es) are n e there = absurd are
refilled_at (x ∷ xs) [] are n e there = absurd are
refilled_at (x ∷ xs) (y ∷ es) are zero e there =
    record { device = x; there = refl; is = subst (IsRefilled x) (some_is y e there) are.0 }
  where
    some_is : (a b : DeviceState) → Some a ≡ Some b → a ≡ b
    some_is a b e = cc
refilled_at (x ∷ xs) (y ∷ es) are (suc n) e there =
    let later = refilled_at xs es are.1 n e there in
    record { device = later.device; there = later.there; is = later.is }

-- the disks over the image are where they were
pub same_images : (xs es : List DeviceState) → AllZip IsRefilled xs es → (n : ℕ) → image_at n xs ≡ image_at n es
same_images [] [] are n = refl
same_images [] (e ∷ es) are n = absurd are
same_images (x ∷ xs) [] are n = absurd are
same_images (x ∷ xs) (e ∷ es) are zero = (alike x.model e.model are.0.alike).image
same_images (x ∷ xs) (e ∷ es) are (suc n) = same_images xs es are.1 n

-- a device that was refilled is as sound as it was
pub still_sound : (m : Memory) (new old : DeviceState) → IsRefilled new old → IsSoundDevice m old → IsSoundDevice m new
still_sound m new old is sound =
    let same = alike new.model old.model is.alike in record {
      kind = ap (λ (w : WindowState). w.kind) is.window ∙ (sound.kind ∙ sym same.kind);
      offers = ap (λ (w : WindowState). w.negotiation.offered) is.window ∙ (sound.offers ∙ sym same.features);
      window = subst (IsSound m) (sym is.window) sound.window;
      held = same.held m new.window (subst (λ (w : WindowState). IsHeld m w old.model) (sym is.window) sound.held);
    }

pub all_still : (m : Memory) (xs es : List DeviceState) → AllZip IsRefilled xs es → AreSoundDevices m es
    → AreSoundDevices m xs
all_still m [] [] are sound = sound
all_still m [] (e ∷ es) are sound = absurd are
all_still m (x ∷ xs) [] are sound = absurd are
all_still m (x ∷ xs) (e ∷ es) are sound =
    All-cons (IsSoundDevice m) x xs (still_sound m x e are.0 (sound 0 e (omega arith)))
    (all_still m xs es are.1 (λ k d lt. sound (suc k) d (omega arith)))

-- ---- devices one after another

module _ (ds : List DeviceState) (d : DeviceState) (some : 1 ≤ length ds) (is : d ≡ slice_index_or ds 0 d) where
  split : ds ≡ d ∷ behind_first ds
  split = apart ds some is
    where
      apart : (ds : List DeviceState) → 1 ≤ length ds → d ≡ slice_index_or ds 0 d → ds ≡ d ∷ behind_first ds
      apart [] some is = absurd (omega arith)
      apart (y ∷ ds) some is =
          ap₂ (λ (a : DeviceState) (l : List DeviceState). a ∷ l) (sym is) (sym (behind_is y ds))

  pub len_more : (a b : ℕ) → a ≡ length (waiting_in d.model) → b ≡ length (each_waiting (behind_first ds))
      → a + b ≡ length (each_waiting ds)
  len_more a b one other =
      ap₂ (λ (x y : ℕ). x + y) one other
      ∙ (sym (length-append (waiting_in d.model) (each_waiting (behind_first ds)))
      ∙ ap (λ (l : List DeviceState). length (each_waiting l)) (sym split))

  pub text_more : (a b : List ℕ) → a ≡ waiting_in d.model → b ≡ each_waiting (behind_first ds)
      → a ++ b ≡ each_waiting ds
  text_more a b one other = ap₂ (λ (x y : List ℕ). x ++ y) one other ∙ ap each_waiting (sym split)

  -- the others' bytes are those behind the first one's
  pub rest_len : (a b n : ℕ) → n ≡ length (each_waiting ds) → a ≡ length (waiting_in d.model) → b + a ≡ n
      → b ≡ length (each_waiting (behind_first ds))
  rest_len a b n all one more =
      let whole = ap (λ (l : List DeviceState). length (each_waiting l)) split in
      omega (arith, all, one, more, whole, length-append (waiting_in d.model) (each_waiting (behind_first ds)))

  pub back_more : ((other : ModelState) (rest : List ℕ) → AreOfOneType d.model other
      → refilled other (waiting_in d.model ++ rest) ≡ Some (with_waiting_of d.model other, rest))
      → ((others : List DeviceState) → AreOfTypes (behind_first ds) others
      → refilled_each others (each_waiting (behind_first ds)) ≡ Some (with_waiting_of_each (behind_first ds) others, []))
      → (others : List DeviceState) → AreOfTypes ds others
      → refilled_each others (each_waiting ds) ≡ Some (with_waiting_of_each ds others, [])
  back_more first more others same =
      subst (λ (l : List DeviceState). refilled_each others (each_waiting l) ≡ Some (with_waiting_of_each l others, []))
      (sym split) (by_others others (subst (λ (l : List DeviceState). AreOfTypes l others) split same))
    where
      by_others : (others : List DeviceState) → AreOfTypes (d ∷ behind_first ds) others
          → refilled_each others (waiting_in d.model ++ each_waiting (behind_first ds))
          ≡ Some (with_waiting_of_each (d ∷ behind_first ds) others, [])
      by_others [] same = absurd same
      by_others (e ∷ es) same =
          rw (first e.model (each_waiting (behind_first ds)) same.0, more es same.1) refl

  -- what is read past the first and the others is read past all
  pub past_more : (old mid new : List ℕ) → option_map (λ found. found.1) (refilled d.model old) ≡ Some mid
      → option_map (λ found. found.1) (refilled_each (behind_first ds) mid) ≡ Some new
      → option_map (λ found. found.1) (refilled_each ds old) ≡ Some new
  past_more old mid new one other =
      subst (λ (l : List DeviceState). option_map (λ found. found.1) (refilled_each l old) ≡ Some new) (sym split)
      (by_first (refilled d.model old) refl one)
    where
      by_second : (x : ModelState × List ℕ) → refilled d.model old ≡ Some x → x.1 ≡ mid
          → (found : Option (List DeviceState × List ℕ)) → refilled_each (behind_first ds) mid ≡ found
          → option_map (λ y. y.1) found ≡ Some new
          → option_map (λ y. y.1) (refilled_each (d ∷ behind_first ds) old) ≡ Some new
      by_second x one at None was e = absurd (cc e)
      by_second x one at (Some y) was e = rw (one, at, was) e

      by_first : (found : Option (ModelState × List ℕ)) → refilled d.model old ≡ found
          → option_map (λ y. y.1) found ≡ Some mid
          → option_map (λ y. y.1) (refilled_each (d ∷ behind_first ds) old) ≡ Some new
      by_first None was e = absurd cc
      by_first (Some x) was e =
          let at : x.1 ≡ mid = cc in by_second x was at (refilled_each (behind_first ds) mid) refl other

  pub past_none : (old : List ℕ) → refilled d.model old ≡ None → refilled_each ds old ≡ None
  past_none old none =
      subst (λ (l : List DeviceState). refilled_each l old ≡ None) (sym split) (rw none refl)

  pub first_fits : length (waiting_in d.model) ≤ length (each_waiting ds)
  first_fits =
      let whole = ap (λ (l : List DeviceState). length (each_waiting l)) split in
      omega (arith, whole, length-append (waiting_in d.model) (each_waiting (behind_first ds)))

  pub past_no_more : (old mid : List ℕ) → option_map (λ found. found.1) (refilled d.model old) ≡ Some mid
      → refilled_each (behind_first ds) mid ≡ None → refilled_each ds old ≡ None
  past_no_more old mid one none =
      subst (λ (l : List DeviceState). refilled_each l old ≡ None) (sym split) (by_first (refilled d.model old) refl one)
    where
      by_first : (found : Option (ModelState × List ℕ)) → refilled d.model old ≡ found
          → option_map (λ y. y.1) found ≡ Some mid → refilled_each (d ∷ behind_first ds) old ≡ None
      by_first None was e = absurd cc
      by_first (Some x) was e = let at : x.1 ≡ mid = cc in rw (was, at, none) refl

  -- the same by what was answered of the others
  pub past_result : (old mid new : List ℕ) (result : Option (Unit {0}))
      → option_map (λ found. found.1) (refilled d.model old) ≡ Some mid
      → ReadsPast (refilled_each (behind_first ds)) mid result new → ReadsPast (refilled_each ds) old result new
  past_result old mid new None one other = past_no_more old mid one other
  past_result old mid new (Some x) one other = past_more old mid new one other

pub past_nothing : (ds : List DeviceState) (bytes : List ℕ) → length ds < 1
    → option_map (λ found. found.1) (refilled_each ds bytes) ≡ Some bytes
past_nothing [] bytes none = refl
past_nothing (d ∷ ds) bytes none = absurd (omega (arith, none))

pub no_text : (ds : List DeviceState) (into : List ℕ) → length ds < 1 → length into ≡ length (each_waiting ds)
    → into ≡ each_waiting ds
no_text [] [] none len = refl
no_text [] (x ∷ into) none len = absurd (omega (arith, len))
no_text (d ∷ ds) into none len = absurd (omega (arith, none))

pub no_back : (ds : List DeviceState) → length ds < 1 → (others : List DeviceState) → AreOfTypes ds others
    → refilled_each others (each_waiting ds) ≡ Some (with_waiting_of_each ds others, [])
no_back [] none [] same = refl
no_back [] none (e ∷ es) same = absurd same
no_back (d ∷ ds) none others same = absurd (omega (arith, none))

-- ---- the list

pub list_back : (ds : List DeviceState) → ((others : List DeviceState) → AreOfTypes ds others
    → refilled_each others (each_waiting ds) ≡ Some (with_waiting_of_each ds others, []))
    → (others : List DeviceState) → AreOfTypes ds others
    → refilled_devices (waiting_of ds) others ≡ Some (with_waiting_of_each ds others)
list_back [] back [] same = refl
list_back [] back (e ∷ es) same = absurd same
list_back (d ∷ ds) back others same = ap whole (back others same)

-- what comes of reading all: the bytes can be so where nothing is left
pub judged : (ds : List DeviceState) (bytes left : List ℕ) (result : Option (Unit {0})) (empty : Bool)
    → is_some result ≡ true → ReadsPast (refilled_each ds) bytes result left → empty ≡ (length left == 0)
    → IsTrue empty ↔ IsSome (refilled_devices (Some bytes) ds)
judged ds bytes left None empty some past is = absurd (cc some)
judged ds bytes left (Some x) empty some past is = by_found (refilled_each ds bytes) past
  where
    by_found : (found : Option (List DeviceState × List ℕ)) → option_map (λ y. y.1) found ≡ Some left
        → IsTrue empty ↔ IsSome (whole found)
    by_found None e = absurd cc
    by_found (Some (y, [])) e =
        let at : left ≡ [] = cc in (λ yes. refl, λ some. is ∙ ap (λ (l : List ℕ). length l == 0) at)
    by_found (Some (y, byte ∷ rest)) e =
        let at : left ≡ byte ∷ rest = cc in
        let not : empty ≡ false =
        is ∙ (ap (λ (l : List ℕ). length l == 0) at ∙ ne_eqb (suc (length rest)) 0 (λ e. absurd (omega (arith, e)))) in
        (λ holds. absurd (true≢false (sym holds ∙ not)), λ some. absurd (true≢false (sym some)))

pub judged_none : (ds : List DeviceState) (bytes left : List ℕ) (result : Option (Unit {0})) (found : Bool)
    → found ≡ is_some result → found ≡ false → ReadsPast (refilled_each ds) bytes result left
    → IsTrue found ↔ IsSome (refilled_devices (Some bytes) ds)
judged_none ds bytes left (Some x) found is none past = absurd (true≢false (sym is ∙ none))
judged_none ds bytes left None found is none past =
    rw (past, none) (λ holds. absurd (true≢false (sym holds)), λ some. absurd (true≢false (sym some)))

-- devices that can be refilled are
pub refill_is : (ds new : List DeviceState) (bytes left : List ℕ) (result : Option (Unit {0}))
    → IsSome (refilled_devices (Some bytes) ds) → Reads (refilled_each ds) (λ x. new) bytes result left
    → refilled_devices (Some bytes) ds ≡ Some new
refill_is ds new bytes left None can reads = absurd (true≢false (sym (rw reads at can)))
refill_is ds new bytes [] (Some x) can reads = ap whole reads
refill_is ds new bytes (byte ∷ rest) (Some x) can reads = absurd (true≢false (sym (rw reads at can)))

-- a list in whose place another was put
pub put_whole : (new items : List DeviceState) (len : ℕ) → length new ≡ len
    → take len (new ++ drop (length new) items) ≡ new
put_whole new items len is = take_at new (drop (length new) items) len is

-- what waits in a card is taken up by another card
pub network_back : (card : Card) (other : ModelState) (rest : List ℕ)
    → card_at (card_bytes (card_waits card) ++ rest) ≡ Some (card_waits card, rest)
    → AreOfOneType (Network card) other
    → refilled other (card_bytes (card_waits card) ++ rest) ≡ Some (with_waiting_of (Network card) other, rest)
network_back card (Network k) rest back same =
    step (card_at (card_bytes (card_waits card) ++ rest)) (card_waits card, rest)
    (give (λ waits. Network (card_with waits k))) back
network_back card (Entropy pool) rest back same = absurd (cc same)
network_back card (Block disk) rest back same = absurd (cc same)
network_back card (Console terminal) rest back same = absurd (cc same)
network_back card (Image disk) rest back same = absurd (cc same)

-- the first of these was refilled, and the others were
pub refill_more : (d : DeviceState) (ds : List DeviceState) (e : DeviceState) (es : List DeviceState)
    (old mid new : List ℕ) → refilled d.model old ≡ Some (e.model, mid) → e.window ≡ d.window
    → refilled_each ds mid ≡ Some (es, new) → refilled_each (d ∷ ds) old ≡ Some (e ∷ es, new)
refill_more d ds e es old mid new one window other =
    let is : ◌≡◌ {A = DeviceState} (record { window = d.window; model = e.model }) e =
    ap (λ (w : WindowState). record { window = w; model = e.model }) (sym window) in
    rw (one, other) (ap (λ (x : DeviceState). Some (x ∷ es, new)) is)
