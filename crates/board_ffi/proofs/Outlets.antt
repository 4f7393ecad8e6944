-- What holds of the slots holds of their guests, and the other way round.
use Rattle.std.proofs.Common.{Bool, List, [], ◌∷◌, All, map, ◌↔◌, IsTrue}
use Rattle.std.proofs.lemmas.List.Elements.{All-nil, All-cons, All-head, All-map, All-tail}
use Rattle.session.specs.declared.guest.GuestSpec.{GuestSpec}
use Rattle.c_values.specs.declared.slot.Slot.{Slot}
use Rattle.board_ffi.specs.Config.{guest_of, guests_of}

All-unmap : {X Y : Type 0} (P : Y → Type 0) (f : X → Y) (xs : List X) → All P (map f xs)
    → All (λ x. P (f x)) xs
All-unmap P f [] a = All-nil (λ x. P (f x))
All-unmap P f (x ∷ xs) a =
    All-cons (λ x. P (f x)) x xs (All-head P (f x) (map f xs) a)
    (All-unmap P f xs (All-tail P (f x) (map f xs) a))

pub all_guests : (P : GuestSpec → Type 0) (slots : List Slot) (test : Bool)
    → IsTrue test ↔ All (λ slot. P (guest_of slot)) slots → IsTrue test ↔ All P (guests_of slots)
all_guests P slots test same = (
  λ holds. All-map P guest_of slots (same.0 holds),
  λ all. same.1 (All-unmap P guest_of slots all),
)
