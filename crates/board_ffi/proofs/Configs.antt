-- One verdict on a config.
use Rattle.std.proofs.Common.{Bool, true, false, None, Some, ◌==◌, if◌then◌else◌, ◌≡◌, ◌≢◌, ◌⊎◌, inl, inr, ℕ, zero, suc, ◌/◌, ◌%◌, List, [], ◌∷◌, length, map, refl, ◌∙◌, ap, subst, arith}
use Rattle.std.proofs.lemmas.Option.{same_Some}
use Rattle.chain.specs.declared.budget.Budget.{Budget}
use Rattle.chain.specs.Budget.{IsSpent}
use Rattle.guest_bytes.specs.declared.loan.Loan.{Loan}
use Rattle.guest_memory.specs.declared.fault.MemoryFault.TheVariants as memory
use Rattle.sector_cache.specs.declared.fault.CacheFault.TheVariants as cache
use Rattle.board.specs.declared.fault.BoardFault.{BoardFault}
use Rattle.board.specs.declared.fault.BoardFault.TheVariants.{Slot, Cache}
use Rattle.board.specs.declared.fault.SlotFault.TheVariants.{Memory}
use Rattle.board.specs.declared.spec.SlotSpec.{SlotSpec}
use Rattle.board.specs.Fault.{IsAccepted, Refuses}
use Rattle.board.specs.Lent.{AreBytesOf}
use Rattle.board.proofs.Faults.{one_fault}
use Rattle.session.specs.declared.fault.SessionFault.{SessionFault}
use Rattle.session.specs.declared.fault.SessionFault.TheVariants.{BadLoan, BadImage, BadOutlet, BadDevice, BadExtent, SpentBudget, Board, NoMemory}
use Rattle.session.specs.declared.guest.GuestSpec.{GuestSpec}
use Rattle.session.specs.Session.{new_session, new_session_over, slots_of}
use Rattle.session.specs.ImageDisks.{AreImageDisks}
use Rattle.session.specs.Refusing.{AreDevices, AreOutlets, IsLentRefusedFor, IsRefusedFor}
use Rattle.session.proofs.Refusals.{lent_refused, only_device, only_extent, only_image, only_outlet, only_spent}
use Rattle.board_ffi.specs.declared.config.Config.{Config}
use Rattle.board_ffi.specs.declared.config.ToldConfig.{ToldConfig}
use Rattle.c_values.specs.Limits.{limit_of}
use Rattle.board_ffi.specs.Config.{AreLent, AreSized, Describes, IsGood, IsRefused, IsSized, IsVerdict, RefusedBy, StandStill, Verdict, OtherSize, RunsOn, Good, Bad, budget_of, config_size, guests_of, lent_bytes, lens_of, new_by, told_lens, verdict_code}
use Rattle.board_ffi.specs.Codes.{board_code, fault_code}
use Rattle.board_ffi.specs.Create.{IsRefusal}

-- what is refused is refused for one reason, but for want of memory
module _ (guests : List GuestSpec) (image : List ℕ) (cache : ℕ) (budget : Budget) where
  abbrev Refused : SessionFault → Type 0
  Refused = IsRefusedFor guests image cache budget

  one : (told why : SessionFault) → Refused told → Refused why → why ≢ NoMemory
      → (told ≡ why) ⊎ (told ≡ NoMemory)
  one told BadLoan t w other = absurd w
  one told BadImage t w other = inl (only_image guests image cache budget told w t)
  one told BadOutlet t w other = inl (only_outlet guests image cache budget told w t)
  one told BadDevice t w other = inl (only_device guests image cache budget told w t)
  one told BadExtent t w other = inl (only_extent guests image cache budget told w t)
  one told SpentBudget t w other = inl (only_spent guests image cache budget told w t)
  one told NoMemory t w other = absurd (other refl)
  one BadLoan (Board fault) t w other = absurd t
  one BadImage (Board fault) t w other = absurd (t w.whole)
  one BadOutlet (Board fault) t w other = absurd (t.1 w.outlets)
  one BadDevice (Board fault) t w other = absurd (t.2 w.devices)
  one BadExtent (Board fault) t w other = absurd (t.3 w.image_disks)
  one SpentBudget (Board fault) t w other = absurd (w.lasts t.4)
  one (Board fault) (Board another) t w other =
      inl (ap Board (one_fault (length image / 512) (slots_of guests) cache fault another t.refused w.refused))
  one NoMemory (Board fault) t w other = inr refl

  -- what can be had is refused for want of memory alone
  fine : length image % 512 ≡ 0 → AreOutlets guests → AreDevices guests → AreImageDisks guests
      → IsAccepted (length image / 512) (slots_of guests) cache → ¬ IsSpent budget → (told : SessionFault)
      → Refused told → told ≡ NoMemory
  fine whole outlets devices disks accepted lasts BadLoan t = absurd t
  fine whole outlets devices disks accepted lasts BadImage t = absurd (t whole)
  fine whole outlets devices disks accepted lasts BadOutlet t = absurd (t.1 outlets)
  fine whole outlets devices disks accepted lasts BadDevice t = absurd (t.2 devices)
  fine whole outlets devices disks accepted lasts BadExtent t = absurd (t.3 disks)
  fine whole outlets devices disks accepted lasts SpentBudget t = absurd (lasts t.4)
  fine whole outlets devices disks accepted lasts (Board fault) t =
      absurd (t.other (one_fault (length image / 512) (slots_of guests) cache fault BoardFault.NoMemory t.refused
      (accepted.slots_good, accepted.capacity)))
  fine whole outlets devices disks accepted lasts NoMemory t = refl

  module _ (bytes : List (List ℕ)) where
    abbrev Lent : SessionFault → Type 0
    Lent = IsLentRefusedFor guests bytes image cache budget

    abbrev Are : Type 0
    Are = AreBytesOf (slots_of guests) bytes

    parted : (why : SessionFault) → Lent why → ((why ≡ BadLoan) × ¬ Are) ⊎ (Are × Refused why)
    parted BadLoan r = inl (refl, r)
    parted why r = inr r

    of_two : (told why : SessionFault) → ((told ≡ BadLoan) × ¬ Are) ⊎ (Are × Refused told)
        → ((why ≡ BadLoan) × ¬ Are) ⊎ (Are × Refused why) → why ≢ NoMemory
        → (told ≡ why) ⊎ (told ≡ NoMemory)
    of_two told why (inl t) (inl w) other = inl (cc (t.0, w.0))
    of_two told why (inl t) (inr w) other = absurd (t.1 w.0)
    of_two told why (inr t) (inl w) other = absurd (w.1 t.0)
    of_two told why (inr t) (inr w) other = one told why t.1 w.1 other

    fine_lent : Are → length image % 512 ≡ 0 → AreOutlets guests → AreDevices guests → AreImageDisks guests
        → IsAccepted (length image / 512) (slots_of guests) cache → ¬ IsSpent budget → (told : SessionFault)
        → ((told ≡ BadLoan) × ¬ Are) ⊎ (Are × Refused told) → told ≡ NoMemory
    fine_lent are whole outlets devices disks accepted lasts told (inl t) = absurd (t.1 are)
    fine_lent are whole outlets devices disks accepted lasts told (inr t) =
        fine whole outlets devices disks accepted lasts told t.1

  once : (bytes : List (List ℕ)) (told why : SessionFault) → RefusedBy guests bytes image cache budget told
      → RefusedBy guests bytes image cache budget why → why ≢ NoMemory → (told ≡ why) ⊎ (told ≡ NoMemory)
  once [] told why t w other = one told why t w other
  once (run ∷ bytes) told why t w other =
      of_two (run ∷ bytes) told why (parted (run ∷ bytes) told t) (parted (run ∷ bytes) why w) other

  never : (bytes : List (List ℕ)) → AreLent guests (map (λ run. length run) bytes) → length image % 512 ≡ 0
      → AreOutlets guests → AreDevices guests → AreImageDisks guests
      → IsAccepted (length image / 512) (slots_of guests) cache → ¬ IsSpent budget → (told : SessionFault)
      → RefusedBy guests bytes image cache budget told → told ≡ NoMemory
  never [] lent whole outlets devices disks accepted lasts told t = fine whole outlets devices disks accepted lasts told t
  never (run ∷ bytes) (inl none) whole outlets devices disks accepted lasts told t = absurd (cc (none))
  never (run ∷ bytes) (inr are) whole outlets devices disks accepted lasts told t =
      fine_lent (run ∷ bytes) are whole outlets devices disks accepted lasts told (parted (run ∷ bytes) told t)

  -- what is judged of the guests is so whatever is lent
  pub by_either : (bytes : List (List ℕ)) (why : SessionFault) → AreLent guests (map (λ run. length run) bytes)
      → Refused why → RefusedBy guests bytes image cache budget why
  by_either [] why lent r = r
  by_either (run ∷ bytes) why (inl none) r = absurd (cc (none))
  by_either (run ∷ bytes) why (inr are) r = lent_refused guests image cache budget (run ∷ bytes) are why r

  pub by_loans : (bytes : List (List ℕ)) → ¬ AreLent guests (map (λ run. length run) bytes)
      → RefusedBy guests bytes image cache budget BadLoan
  by_loans [] wrong = absurd (wrong (inl refl))
  by_loans (run ∷ bytes) wrong = λ are. wrong (inr are)

-- no budget that C describes is spent
not_zero : (none : Bool) (n : ℕ) → (if none then None else Some (suc n)) ≡ Some 0 → ⊥
not_zero true n is = absurd (cc (is))
not_zero false n is = omega (arith, same_Some (suc n) 0 is)

some_limit : (limit : ℕ) → limit_of limit ≢ Some 0
some_limit zero is = absurd (cc (is))
some_limit (suc n) is = not_zero (suc n == 0) n is

pub unspent : (config : Config) → ¬ IsSpent (budget_of config)
unspent config (inl is) = some_limit config.chains is
unspent config (inr is) = some_limit config.bytes is

pub refused_once : (config : Config) (told why : SessionFault) → IsRefusal config told → IsRefused config why
    → why ≢ NoMemory → (told ≡ why) ⊎ (told ≡ NoMemory)
refused_once config told why (inl t) w other = inr t.0
refused_once config told why (inr t) w other =
    once (guests_of config.slots.now) config.image.now config.cache (budget_of config)
    (lent_bytes config.loans.now) told why t w other

pub good_refused : (config : Config) → IsGood config → (told : SessionFault)
    → IsRefusal config told → told ≡ NoMemory
good_refused config good told (inl t) = t.0
good_refused config good told (inr t) =
    never (guests_of config.slots.now) config.image.now config.cache (budget_of config)
    (lent_bytes config.loans.now) good.loans good.whole good.outlets good.devices good.image_disks good.accepted
    (unspent config) told t

-- a session that is made is what was described, by its verdict
pub made_by : (config : Config) → IsSized config → StandStill config.slots.now → IsGood config → (verdict : Verdict)
    → IsVerdict config verdict → (0 ≡ verdict_code verdict) ⊎ (◌≡◌ {A = ℕ} 0 5)
made_by config sized still good OtherSize v = absurd (v sized)
made_by config sized still good RunsOn v = absurd (v.1 still)
made_by config sized still good Good v = inl refl
made_by config sized still good (Bad why) v = absurd (v.2 (good_refused config good why (inr v.3)))

-- and one that isn't has the verdict's number, or that of want of memory
number_of : (told why : SessionFault) (code : ℕ) → code ≡ fault_code told → (told ≡ why) ⊎ (told ≡ NoMemory)
    → (code ≡ fault_code why) ⊎ (code ≡ 5)
number_of told why code is (inl same) = inl (is ∙ ap fault_code same)
number_of told why code is (inr want) = inr (is ∙ ap fault_code want)

pub refused_by : (config : Config) (told : SessionFault) (code : ℕ) → code ≡ fault_code told → IsSized config
    → StandStill config.slots.now → IsRefusal config told → (verdict : Verdict) → IsVerdict config verdict
    → (code ≡ verdict_code verdict) ⊎ (code ≡ 5)
refused_by config told code is sized still refused OtherSize v = absurd (v sized)
refused_by config told code is sized still refused RunsOn v = absurd (v.1 still)
refused_by config told code is sized still refused Good v =
    inr (is ∙ ap fault_code (good_refused config v.2 told refused))
refused_by config told code is sized still refused (Bad why) v =
    number_of told why code is (refused_once config told why refused v.3 v.2)

-- over memory of its own, and over the lent bytes
module _ (guests : List GuestSpec) (image : List ℕ) (cache : ℕ) (budget : Budget) where
  pub own_session : (loans : List Loan) → loans ≡ []
      → new_by guests (lent_bytes loans) image budget ≡ new_session guests image budget
  own_session [] is = refl
  own_session (loan ∷ loans) is = absurd (cc (is))

  pub own_refused : (loans : List Loan) (why : SessionFault) → loans ≡ [] → IsRefusedFor guests image cache budget why
      → RefusedBy guests (lent_bytes loans) image cache budget why
  own_refused [] why is r = r
  own_refused (loan ∷ loans) why is r = absurd (cc (is))

  pub lent_session : (loans : List Loan) → loans ≢ []
      → new_by guests (lent_bytes loans) image budget ≡ new_session_over guests (lent_bytes loans) image budget
  lent_session [] some = absurd (some refl)
  lent_session (loan ∷ loans) some = refl

  pub refused_lent : (loans : List Loan) (why : SessionFault) → loans ≢ []
      → IsLentRefusedFor guests (lent_bytes loans) image cache budget why
      → RefusedBy guests (lent_bytes loans) image cache budget why
  refused_lent [] why some r = absurd (some refl)
  refused_lent (loan ∷ loans) why some r = r

-- what can be had may lack memory
pub good_wants : (config : Config) → IsGood config → IsRefused config NoMemory
good_wants config good =
    by_either (guests_of config.slots.now) config.image.now config.cache (budget_of config)
    (lent_bytes config.loans.now) NoMemory good.loans
    (good.whole, good.outlets, good.devices, good.image_disks, unspent config)

-- no board's fault that stands whatever the cache is want of memory
pub no_want : (sectors : ℕ) (slots : List SlotSpec) (fault : BoardFault)
    → ((cache : ℕ) → Refuses sectors slots cache fault) → board_code fault ≢ 5
no_want sectors slots (Cache cache.NoMemory) refused want = absurd (cc (refused 0).1.1)
no_want sectors slots BoardFault.NoMemory refused want = omega (arith, (refused 0).1.0)
no_want sectors slots (Slot number (Memory place memory.NoMemory)) refused want = (refused 0).fault_is
no_want sectors slots fault refused want = absurd (cc)

-- ---- of a config that is told

module _ (told : ToldConfig) (config : Config) (same : Describes told config) where
  pub sized_told : told.size ≡ config_size → AreSized told.slots.now → IsSized config
  sized_told own all = (rw (same.size) own, rw (same.slots) all)

  pub still_told : StandStill told.slots.now → StandStill config.slots.now
  still_told still = rw (same.slots) still

  pub good_told : AreLent (guests_of told.slots.now) (told_lens told.loans.now)
      → length told.image.now % 512 ≡ 0 → AreOutlets (guests_of told.slots.now)
      → AreDevices (guests_of told.slots.now) → AreImageDisks (guests_of told.slots.now)
      → IsAccepted (length told.image.now / 512) (slots_of (guests_of told.slots.now)) told.cache → IsGood config
  good_told lent whole outlets devices disks accepted = record {
    loans = rw (same.slots, same.loans) lent;
    whole = rw (same.image) whole;
    outlets = rw (same.slots) outlets;
    devices = rw (same.slots) devices;
    image_disks = rw (same.slots) disks;
    accepted = rw (same.slots, same.image, same.cache) accepted;
  }

  pub refused_told : (why : SessionFault) → AreLent (guests_of told.slots.now) (told_lens told.loans.now)
      → ((budget : Budget) → ¬ IsSpent budget
      → IsRefusedFor (guests_of told.slots.now) told.image.now told.cache budget why) → IsRefused config why
  refused_told why lent r =
      by_either (guests_of config.slots.now) config.image.now config.cache (budget_of config)
      (lent_bytes config.loans.now) why (rw (same.slots, same.loans) lent)
      (rw (same.slots, same.image, same.cache) (r (budget_of config) (unspent config)))

  pub loans_told : ¬ AreLent (guests_of told.slots.now) (told_lens told.loans.now) → IsRefused config BadLoan
  loans_told wrong =
      by_loans (guests_of config.slots.now) config.image.now config.cache (budget_of config)
      (lent_bytes config.loans.now)
      (λ lent. wrong (subst (AreLent (guests_of told.slots.now)) same.loans
      (subst (λ slots. AreLent (guests_of slots) (lens_of config.loans.now)) same.slots lent)))
