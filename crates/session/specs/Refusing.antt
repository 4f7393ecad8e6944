-- Why there is no session.
use Rattle.std.specs.Prelude.{◌≡◌, ◌≢◌, ℕ, ◌^◌, ◌≤◌, ◌/◌, ◌%◌, ◌||◌, Bool, false, List, All, length}
use Rattle.std.specs.List.{list_any}
use Rattle.chain.specs.declared.budget.Budget.{Budget}
use Rattle.chain.specs.Budget.{IsSpent}
use Rattle.device_list.specs.declared.spec.DeviceSpec.{DeviceSpec}
use Rattle.device_list.specs.Model.{has_bad_disk, has_bad_mtu}
use Rattle.board.specs.declared.fault.BoardFault.{BoardFault}
use Rattle.board.specs.Fault.{Refuses}
use Rattle.board.specs.Lent.{AreBytesOf}
use Rattle.session.specs.declared.fault.SessionFault.{SessionFault}
use Rattle.session.specs.declared.fault.SessionFault.TheVariants.{BadLoan, BadImage, BadOutlet, BadDevice, BadExtent, SpentBudget, Board, NoMemory}
use Rattle.session.specs.declared.guest.GuestSpec.{GuestSpec}
use Rattle.session.specs.ImageDisks.{AreImageDisks}
use Rattle.session.specs.Session.{devices_of, slots_of}

-- no more output of a guest may wait than 2^24 bytes
abbrev pub AreOutlets : List GuestSpec → Type 0
AreOutlets guests = All (λ guest. guest.outlet ≤ 2 ^ 24) guests

-- whether no slot takes a device: a network card whose MTU is below 68 (5.1.4.1), and a disk that the host serves of 2^55
-- sectors or more, or of another depth than 1 to 64
abbrev pub is_bad_device : DeviceSpec → Bool
is_bad_device spec = has_bad_mtu spec || has_bad_disk spec

-- whether a guest is to have one
abbrev pub has_bad_device : GuestSpec → Bool
has_bad_device guest = list_any is_bad_device (devices_of guest)

-- no guest is
abbrev pub AreDevices : List GuestSpec → Type 0
AreDevices guests = All (λ guest. has_bad_device guest ≡ false) guests

-- what is judged before the board: the image's size, the outlets, the further devices, those over the image, and the budget
abbrev pub IsJudged : List GuestSpec → List ℕ → Budget → Type 0
IsJudged guests image budget = (length image % 512 ≡ 0)
    × AreOutlets guests × AreDevices guests × AreImageDisks guests × ¬ IsSpent budget

-- the board would be refused for this, over an image of whole sectors
pub record IsBoardFault (guests : List GuestSpec) (image : List ℕ) (cache : ℕ) (budget : Budget)
    (fault : BoardFault)
    : Type 0 where
  pub whole : length image % 512 ≡ 0
  pub outlets : AreOutlets guests
  pub devices : AreDevices guests
  pub image_disks : AreImageDisks guests
  pub lasts : ¬ IsSpent budget
  pub refused : Refuses (length image / 512) (slots_of guests) cache fault
  pub other : fault ≢ BoardFault.NoMemory

-- Why a session is refused: the image's size, then an outlet, then a further device, then one over the image, then the budget,
-- then what a board is refused for. Want of memory may come before the latter, and comes only where none of the others holds.
abbrev pub IsRefusedFor : List GuestSpec → List ℕ → ℕ → Budget → SessionFault → Type 0
IsRefusedFor guests image cache budget BadLoan = ⊥
IsRefusedFor guests image cache budget BadImage = length image % 512 ≢ 0
IsRefusedFor guests image cache budget BadOutlet = (length image % 512 ≡ 0) × ¬ AreOutlets guests
IsRefusedFor guests image cache budget BadDevice = (length image % 512 ≡ 0)
    × AreOutlets guests × ¬ AreDevices guests
IsRefusedFor guests image cache budget BadExtent = (length image % 512 ≡ 0)
    × AreOutlets guests × AreDevices guests × ¬ AreImageDisks guests
IsRefusedFor guests image cache budget SpentBudget = (length image % 512 ≡ 0)
    × AreOutlets guests × AreDevices guests × AreImageDisks guests × IsSpent budget
IsRefusedFor guests image cache budget (Board fault) = IsBoardFault guests image cache budget fault
IsRefusedFor guests image cache budget NoMemory = IsJudged guests image budget

-- Why a session over lent memory is refused: the lent bytes, and then what one over memory of its own is
-- refused for.
abbrev pub IsLentRefusedFor : List GuestSpec → List (List ℕ) → List ℕ → ℕ → Budget → SessionFault → Type 0
IsLentRefusedFor guests bytes image cache budget BadLoan = ¬ AreBytesOf (slots_of guests) bytes
IsLentRefusedFor guests bytes image cache budget why =
    AreBytesOf (slots_of guests) bytes × IsRefusedFor guests image cache budget why

-- why there is no session where there is no board
abbrev pub session_fault : BoardFault → SessionFault
session_fault BoardFault.NoMemory = NoMemory
session_fault fault = Board fault
