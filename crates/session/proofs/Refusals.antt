-- Why there is no session: of the faults that are there the first.
use Rattle.std.proofs.Common.{◌≡◌, ℕ, List, length, map, Result, Ok, Err, refl, sym, ap, subst, ◌∙◌}
use Rattle.std.specs.Prelude.{◌≢◌, ◌⊎◌, ◌↔◌, ◌%◌, ◌/◌, OnOk, IfOk, IfErr, IsErrAnd, IsErrOf}
use Rattle.std.specs.Vec.{vec_items}
use Rattle.chain.specs.declared.budget.Budget.{Budget}
use Rattle.chain.specs.Budget.{IsSpent}
use Rattle.board.specs.declared.fault.BoardFault.{BoardFault}
use Rattle.board.specs.declared.spec.SlotSpec.{SlotSpec}
use Rattle.board.specs.Fault.{Refuses}
use Rattle.board.specs.Lent.{AreBytesOf}
use Rattle.session.specs.declared.fault.SessionFault.{SessionFault}
use Rattle.session.specs.declared.fault.SessionFault.TheVariants.{BadLoan, BadImage, BadOutlet, BadDevice, BadExtent, SpentBudget, Board, NoMemory}
use Rattle.session.specs.declared.guest.GuestSpec.{GuestSpec}
use Rattle.session.specs.ImageDisks.{AreImageDisks}
use Rattle.session.specs.Refusing.{AreDevices, AreOutlets, IsJudged, IsLentRefusedFor, IsRefusedFor}
use Rattle.session.specs.Session.{slots_of}
use Rattle.session.proofs.Loans.{Run}

pub on_ok : {T E : Type 0} (r : Result T E) (P : Type 0) → P → OnOk r P
on_ok (Ok x) P p = p
on_ok (Err e) P p = tt

same_err : {T : Type 0} (r : Result T SessionFault) (why fault : SessionFault) → r ≡ Err why
    → r ≡ Err fault → why ≡ fault
same_err (Ok x) why fault is it = absurd (cc)
same_err (Err e) why fault is it = cc

-- the fault that `?` hands on
pub handed_on : {T : Type 0} (r : Result T SessionFault) (why : SessionFault)
    → IsErrAnd r (λ told. told ≡ why) → r ≡ Err why
handed_on (Ok x) why is = absurd is
handed_on (Err e) why is = ap Err is

pub if_err : {T : Type 0} (r : Result T SessionFault) (why : SessionFault) (P : SessionFault → Type 0)
    → r ≡ Err why → P why → IfErr r P
if_err r why P is p = subst (λ (s : Result _ SessionFault). IfErr s P) (sym is) p

-- and what it says of a session that is there
pub no_ok : {T : Type 0} (r : Result T SessionFault) (why : SessionFault) (P : T → Type 0) → r ≡ Err why → IfOk r P
no_ok r why P is = subst (λ (s : Result _ SessionFault). IfOk s P) (sym is) tt

pub is_err : {T : Type 0} (r : Result T SessionFault) (why : SessionFault) (P : SessionFault → Type 0)
    → r ≡ Err why → P why → IsErrAnd r P
is_err r why P is p = subst (λ (s : Result _ SessionFault). IsErrAnd s P) (sym is) p

-- what is answered only for want of memory
pub wanting : {T : Type 0} (r : Result T SessionFault) (P : SessionFault → Type 0)
    → IfErr r (λ why. why ≡ NoMemory) → P NoMemory → IfErr r P
wanting (Ok x) P want p = tt
wanting (Err e) P want p = subst P (sym want) p

pub never_spent : {T : Type 0} (r : Result T SessionFault) → IfErr r (λ why. why ≡ NoMemory)
    → IsErrOf r SpentBudget → ⊥
never_spent (Ok x) want is = cc
never_spent (Err e) want is = cc

pub never_outlet : {T : Type 0} (r : Result T SessionFault) → IfErr r (λ why. why ≡ NoMemory)
    → IsErrOf r BadOutlet → ⊥
never_outlet (Ok x) want is = cc
never_outlet (Err e) want is = cc

pub never_device : {T : Type 0} (r : Result T SessionFault) → IfErr r (λ why. why ≡ NoMemory)
    → IsErrOf r BadDevice → ⊥
never_device (Ok x) want is = cc
never_device (Err e) want is = cc

pub never_extent : {T : Type 0} (r : Result T SessionFault) → IfErr r (λ why. why ≡ NoMemory)
    → IsErrOf r BadExtent → ⊥
never_extent (Ok x) want is = cc
never_extent (Err e) want is = cc

-- what is judged of a slice is so of its list
pub lent : (guests : List GuestSpec) {seen runs : List Run} → seen ≡ runs
    → AreBytesOf (slots_of guests) (map vec_items seen) → AreBytesOf (slots_of guests) (map vec_items runs)
lent guests same are =
    subst (λ (some : List Run). AreBytesOf (slots_of guests) (map vec_items some)) same are

-- what a board is refused for, by the slots and the sectors that it was asked for
pub asked : (slots specs : List SlotSpec) (sectors count cache : ℕ) (fault : BoardFault)
    → slots ≡ specs → sectors ≡ count
    → Refuses count specs cache fault → Refuses sectors slots cache fault
asked slots specs sectors count cache fault p q h = rw (p, q) h

module _ (guests : List GuestSpec) (image : List ℕ) (cache : ℕ) (budget : Budget) where
  abbrev Refused : SessionFault → Type 0
  Refused = IsRefusedFor guests image cache budget

  pub only_image : (why : SessionFault) → length image % 512 ≢ 0 → Refused why → why ≡ BadImage
  only_image BadLoan bad r = absurd r
  only_image BadImage bad r = refl
  only_image BadOutlet bad r = absurd (bad r.0)
  only_image BadDevice bad r = absurd (bad r.0)
  only_image BadExtent bad r = absurd (bad r.0)
  only_image SpentBudget bad r = absurd (bad r.0)
  only_image (Board fault) bad r = absurd (bad r.whole)
  only_image NoMemory bad r = absurd (bad r.0)

  pub only_outlet : (why : SessionFault) → (length image % 512 ≡ 0) × ¬ AreOutlets guests
      → Refused why → why ≡ BadOutlet
  only_outlet BadLoan bad r = absurd r
  only_outlet BadImage bad r = absurd (r bad.0)
  only_outlet BadOutlet bad r = refl
  only_outlet BadDevice bad r = absurd (bad.1 r.1)
  only_outlet BadExtent bad r = absurd (bad.1 r.1)
  only_outlet SpentBudget bad r = absurd (bad.1 r.1)
  only_outlet (Board fault) bad r = absurd (bad.1 r.outlets)
  only_outlet NoMemory bad r = absurd (bad.1 r.1)

  pub only_device : (why : SessionFault)
      → (length image % 512 ≡ 0) × AreOutlets guests × ¬ AreDevices guests → Refused why → why ≡ BadDevice
  only_device BadLoan bad r = absurd r
  only_device BadImage bad r = absurd (r bad.0)
  only_device BadOutlet bad r = absurd (r.1 bad.1)
  only_device BadDevice bad r = refl
  only_device BadExtent bad r = absurd (bad.2 r.2)
  only_device SpentBudget bad r = absurd (bad.2 r.2)
  only_device (Board fault) bad r = absurd (bad.2 r.devices)
  only_device NoMemory bad r = absurd (bad.2 r.2)

  pub only_extent : (why : SessionFault)
      → (length image % 512 ≡ 0) × AreOutlets guests × AreDevices guests × ¬ AreImageDisks guests
      → Refused why → why ≡ BadExtent
  only_extent BadLoan bad r = absurd r
  only_extent BadImage bad r = absurd (r bad.0)
  only_extent BadOutlet bad r = absurd (r.1 bad.1)
  only_extent BadDevice bad r = absurd (r.2 bad.2)
  only_extent BadExtent bad r = refl
  only_extent SpentBudget bad r = absurd (bad.3 r.3)
  only_extent (Board fault) bad r = absurd (bad.3 r.image_disks)
  only_extent NoMemory bad r = absurd (bad.3 r.3)

  pub only_spent : (why : SessionFault)
      → (length image % 512 ≡ 0) × AreOutlets guests × AreDevices guests × AreImageDisks guests × IsSpent budget
      → Refused why → why ≡ SpentBudget
  only_spent BadLoan bad r = absurd r
  only_spent BadImage bad r = absurd (r bad.0)
  only_spent BadOutlet bad r = absurd (r.1 bad.1)
  only_spent BadDevice bad r = absurd (r.2 bad.2)
  only_spent BadExtent bad r = absurd (r.3 bad.3)
  only_spent SpentBudget bad r = refl
  only_spent (Board fault) bad r = absurd (r.lasts bad.4)
  only_spent NoMemory bad r = absurd (r.4 bad.4)

  module _ {T : Type 0} (r : Result T SessionFault) (why : SessionFault) (is : r ≡ Err why)
      (refused : Refused why) where
    told : (fault : SessionFault) → IsErrOf r fault → Refused fault
    told fault it = subst Refused (same_err r why fault is it) refused

    pub told_image : IsErrOf r BadImage ↔ (length image % 512 ≢ 0)
    told_image = (told BadImage, λ bad. is ∙ ap Err (only_image why bad refused))

    pub told_outlet : IsErrOf r BadOutlet ↔ ((length image % 512 ≡ 0) × ¬ AreOutlets guests)
    told_outlet = (told BadOutlet, λ bad. is ∙ ap Err (only_outlet why bad refused))

    pub told_device : IsErrOf r BadDevice ↔ ((length image % 512 ≡ 0) × AreOutlets guests × ¬ AreDevices guests)
    told_device = (told BadDevice, λ bad. is ∙ ap Err (only_device why bad refused))

    pub told_extent : IsErrOf r BadExtent
        ↔ ((length image % 512 ≡ 0) × AreOutlets guests × AreDevices guests × ¬ AreImageDisks guests)
    told_extent = (told BadExtent, λ bad. is ∙ ap Err (only_extent why bad refused))

    pub told_spent : IsErrOf r SpentBudget
        ↔ ((length image % 512 ≡ 0) × AreOutlets guests × AreDevices guests × AreImageDisks guests × IsSpent budget)
    told_spent = (told SpentBudget, λ bad. is ∙ ap Err (only_spent why bad refused))

  module _ (bytes : List (List ℕ)) (are : AreBytesOf (slots_of guests) bytes) where
    abbrev LentRefused : SessionFault → Type 0
    LentRefused = IsLentRefusedFor guests bytes image cache budget

    pub lent_refused : (why : SessionFault) → Refused why → LentRefused why
    lent_refused BadLoan r = absurd r
    lent_refused why r = (are, r)

    -- what is judged before the board is the first fault
    pub judged_first : (told why : SessionFault) → ¬ IsJudged guests image budget → Refused told
        → LentRefused why → told ≡ why
    judged_first told BadLoan bad is r = absurd (r are)
    judged_first told BadImage bad is r = only_image told r.1 is
    judged_first told BadOutlet bad is r = only_outlet told r.1 is
    judged_first told BadDevice bad is r = only_device told r.1 is
    judged_first told BadExtent bad is r = only_extent told r.1 is
    judged_first told SpentBudget bad is r = only_spent told r.1 is
    judged_first told (Board fault) bad is r = absurd (bad (
      r.1.whole,
      r.1.outlets,
      r.1.devices,
      r.1.image_disks,
      r.1.lasts,
    ))
    judged_first told NoMemory bad is r = absurd (bad r.1)

    -- and behind it a board's
    pub then_board : {T : Type 0} (r : Result T SessionFault) → IsJudged guests image budget
        → ((fault : BoardFault) → fault ≢ BoardFault.NoMemory
        → Refuses (length image / 512) (slots_of guests) cache fault
        → IsErrAnd r (λ why. (why ≡ Board fault) ⊎ (why ≡ NoMemory)))
        → (why : SessionFault) → why ≢ NoMemory → LentRefused why
        → IsErrAnd r (λ told. (told ≡ why) ⊎ (told ≡ NoMemory))
    then_board r judged by BadLoan other is = absurd (is are)
    then_board r judged by BadImage other is = absurd (is.1 judged.0)
    then_board r judged by BadOutlet other is = absurd (is.1.1 judged.1)
    then_board r judged by BadDevice other is = absurd (is.1.2 judged.2)
    then_board r judged by BadExtent other is = absurd (is.1.3 judged.3)
    then_board r judged by SpentBudget other is = absurd (judged.4 is.1.4)
    then_board r judged by (Board fault) other is = by fault is.1.other is.1.refused
    then_board r judged by NoMemory other is = absurd (other refl)
