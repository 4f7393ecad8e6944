-- `refuses_next` at a call: what it is handed, a `&` to the cell and a token of its lifetime, and what a
-- caller has of it, the token and an answer that nothing is known of. Assumes `Logic`.
use Rattle.std.proofs.Common.{◌≡◌, ℕ, Bool, List, [], ◌∷◌, refl, ap}
use seplogic.Ra.Ura.{Ura}
use mir.Val.{Val, vbool, vptr}
use base.Logic.{SProp, ent, sep, ex, guard, id⊢}
use base.Fml.{Lft, Share, ftrue, fsep, flft}
use prog.Memory.{Memory}
use prog.Routine.{Routine}
use types.Logic.{Logic, sem}
use contract.Monad.{Fun}
use types.Kit.{‵, ◌⊛◌, some, later, ◌$◌, ◌∵◌, !, qed, move, keep, use1, split, join, pick, fjoin, feq_i, check, show, await, updating, now as at_once, done}
use denote.RattleType.{RattleType}
use denote.Memory.{hidden_shr}
use denote.Builtin.{bool}
use denote.Laws.{Is, shows}
use denote.Plain.{bool_Tells}
use denote.Steps.{nothing, only, facts}
use denote.Triple.Statement.{Contract}
use denote.Triple.Spec.{triple_of}
use Rattle.std.specs.contracts.cell.Cell as CE
use Rattle.test_support.specs.contracts.refusal.Refusal as RF
use Rattle.test_support.specs.contracts.refuses_next as RN

abbrev RefusalCell : RattleType
RefusalCell = CE.the_row RF.the_row

module _ {M : Type 1} {𝓤 : Ura M} (𝓛 : Logic 𝓤) (at_mem : Memory → SProp 𝓤) (run : Routine → Fun 𝓤) where
  abbrev pub Asks : Contract 𝓤
  Asks = triple_of 𝓛 RN.signature (RN.spec 𝓛 at_mem run)

  abbrev pub at_asks : Lft → Share → ℕ × ℕ → Asks.Ghost
  at_asks κ q c = (
    (
      (κ, tt),
      (q, tt),
      tt,
      (record { ref_ptr = c; now = record { value = tt } }, tt),
      (vptr c.0 c.1 ∷ [], tt),
    ),
    tt,
  )

module _ {M : Type 1} {𝓤 : Ura M} (𝓛 : Logic 𝓤) (at_mem : Memory → SProp 𝓤) (run : Routine → Fun 𝓤) (κ : Lft)
    (q : Share) (c : ℕ × ℕ) where
  open 𝓛 use {H, A}

  pub Asks-goes : ent 𝓤 (sep 𝓤 (sem 𝓛 (hidden_shr RefusalCell κ (record { value = tt }) c.0 c.1)) (A.lft κ q))
      ((Asks 𝓛 at_mem run).pre (at_asks 𝓛 at_mem run κ q c))
  Asks-goes =
      qed 𝓛 (‵ (hidden_shr RefusalCell κ (record { value = tt }) c.0 c.1) ∷ ‵ (flft κ q) ∷ []) ∵ feq_i !
      (List Val) (vptr c.0 c.1 ∷ []) (vptr c.0 c.1 ∷ []) refl $ fjoin ! $
      nothing ! $ move ! (1 ∷ []) $ fjoin ! $ nothing ! $ move ! (2 ∷ []) $ join ! $ join ! $ nothing ! $ move
      ! (1 ∷ []) $ done !

  pub Asks-gives : (v : Val)
      → ent 𝓤 ((Asks 𝓛 at_mem run).post (at_asks 𝓛 at_mem run κ q c) v)
      (H.⇛ (ex 𝓤 (λ (t : Bool). guard 𝓤 (v ≡ vbool t) (A.lft κ q))))
  Asks-gives v =
      qed 𝓛 (types.Kit.raw ((Asks 𝓛 at_mem run).post (at_asks 𝓛 at_mem run κ q c) v) ∷ []) ∵ updating ! $
      use1 𝓛 (later (some (λ (t : Bool). ((‵ (flft κ q) ⊛ ‵ ftrue) ⊛ ‵ (bool.own_val t (v ∷ []))) ⊛ some
      (λ (ws : Unit {0} × Unit {0}). ‵ (fsep ftrue ftrue) ⊛ ‵ ftrue)))) (id⊢ 𝓤 _) $ await
      ! tt $ pick ! (λ t.
      split ! $ split ! $ move ! (1 ∷ []) $ facts ! bool (Is bool) (shows 𝓛 bool) t (v ∷ [])
      (λ is. split ! $ at_once ! $
      show ! (λ (u : Bool). guard 𝓤 (v ≡ vbool u) (A.lft κ q)) t $ check !
      (ap only (bool_Tells t (v ∷ []) is)) $ keep ! (0 ∷ []) $ done !))
