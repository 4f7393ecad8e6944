-- A `Vec` of what its owner handed over, which can't grow and frees nothing, and how a call gives one. Assumes `Logic`.
use Rattle.std.proofs.Common.{List, [], ◌∷◌, refl, sym, ap, subst, Vec}
use seplogic.Ra.Ura.{Ura}
use lib.Dec.{T}
use mir.Syntax.{given as dict_at}
use mir.Val.{Val, has_ty, WT}
use base.Logic.{SProp}
use base.Fml.{Fml, ftrue}
use contract.Monad.{fact}
use types.Logic.{Logic}
use types.Kit.{Goal, Seq, Soaks, Item, ‵, raw, ◌⊛◌, some, later, ◌$◌, move, drop, split, pick, rewrite, await}
use denote.RattleType.{RattleType}
use denote.Param.{layout}
use denote.Param.Laws.{Laws}
use denote.Steps.{heard, only}
use Rattle.std.proofs.alloc.Calls.{handle_tells}
use Rattle.std_alloc.specs.declared.vec.lodged.Lodged.{Lodged}
use Rattle.std_alloc.specs.contracts.vec.Vec as V
use Rattle.std_alloc.specs.contracts.vec.lodged.Lodged as L
use Rattle.std_alloc.specs.contracts.vec.lodged.LodgedAllocator.TheImpl.{ghosts}
use Rattle.std_alloc.proofs.vec.Vec.TheLaws as vec_laws
use Rattle.std_alloc.proofs.vec.lodged.Lodged.TheLaws as lodged-laws

-- a `Vec<R, Lodged>`
abbrev pub Lent : RattleType → RattleType
Lent R = V.the_row R L.the_row ghosts

-- a machine value of that type
abbrev pub Good : RattleType → Val → Type 0
Good R v = T (has_ty (layout (Lent R)) v) × WT v

module _ (R : RattleType) {M : Type 1} {𝓤 : Ura M} (𝓛 : Logic 𝓤) where
  -- what a call leaves that makes one: its tokens, the `Vec`, and what is said of its arguments and of the `Vec`
  abbrev pub Made : SProp 𝓤 → Type 0 → Fml → (Vec R.Denot Lodged → Type 0) → Val → Item 𝓤
  Made tokens Ws lasts φ v = later (some (λ (r : Vec R.Denot Lodged). (raw tokens ⊛ ‵ ((Lent R).own_val r (v ∷ [])))
      ⊛ some (λ (ws : Ws). ‵ lasts ⊛ raw (fact 𝓤 (φ r)))))

module _ (R : RattleType) (laws : Laws R) {M : Type 1} {𝓤 : Ura M} {𝓛 : Logic 𝓤} {K : Type 0} {Γ : List (Item 𝓤)} {G : Goal 𝓤 𝓛.H} where
  -- the `Vec` is one machine value, of its type
  pub takes : K → Soaks G → (tokens : SProp 𝓤) (Ws : Type 0) (lasts : Fml) (φ : Vec R.Denot Lodged → Type 0) (v : Val)
      → ((r : Vec R.Denot Lodged) → φ r → Good R v → Seq K 𝓛 (‵ ((Lent R).own_val r (v ∷ [])) ∷ raw tokens ∷ Γ) G)
      → Seq K 𝓛 (Made R 𝓛 tokens Ws lasts φ v ∷ Γ) G
  takes t z tokens Ws lasts φ v go =
      await t z $ pick t (λ r. split t $ move t (1 ∷ []) $ pick t (λ ws. split t $ drop t $ heard t (φ r) (λ is.
      split t $ move t (1 ∷ []) $ handle_tells (record {
        row = Lent R;
        laws = vec_laws.the_row_laws R L.the_row ghosts laws lodged-laws.the_row_laws;
        g = record { dealloc_token = λ a τ p. ftrue };
        d = dict_at 0;
        drops = dict_at 0;
      }) t r (v ∷ []) (λ u one good.
      rewrite t 0 (λ w. ‵ ((Lent R).own_val r (w ∷ []))) (sym (ap only one)) refl $
      go r is (subst (Good R) (sym (ap only one)) good)))))
