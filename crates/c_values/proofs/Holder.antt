-- A struct of a pointer and of the heap, which holds a value of some type or none, and what the walks through its functions share.
--     Holder           row, laws        the type of what is held
--                      name, holder     the struct's name and its row
--                      holds, make      the pointer, the heap and what is held of a value, and the value of these
--     H, E, Of         the struct's row, of these; a box of what is held; the parts of one
--     own              what is owned of a pointer, the heap and what is held
--     handle_out       a handle by value: [what lies behind the pointer; the heap]
--     made_in, empty_in     a handle that is made; what an empty one owns, of the heap
--     tested           the pointer of what is held may be compared with null
--     handle_opens     a handle behind a `&mut`: [what lies behind the pointer; the heap; the word; the open borrow; obs; auth]
--     held_cases       what lies behind the pointer: nothing, or [what is held, with the right to free it]
use mathlib.Core.Path.{◌≡◌, refl, sym, subst}
use mathlib.Core.List.{List, [], ◌∷◌, ◌++◌}
use Prim.Native.Nat.{ℕ}
use seplogic.Ra.Ura.{Ura}
use mir.Raw.{raw as bare}
use mir.Syntax.{Sym, impl, tnil, dnil}
use mir.Val.{Val, vnull, vstruct, of_list}
use base.Fraction.{full_share}
use base.Fml.{Fml, Lft, GName, Share, ftrue, flft, fsep, fobs, fauth, fbor, fobor}
use base.Logic.{SProp, ent, guard, guard_i, never_e, snd∗, via}
use contract.Monad.{fact_use}
use types.Logic.{Logic, sem}
use types.SemTy.{Body}
use types.Kit.{◌$◌, Goal, Soaks, Step, step, Seq, Item, ‵, given, learn, move, drop, rewrite, use1, fsplit, fjoin, fpick, fpack, feq_l, feq_i}
use denote.Exit.{under, hidden}
use denote.Memory.{cell_at, lone, mem}
use denote.Param.{layout}
use denote.Param.Laws.{Laws}
use denote.RattleType.{RattleType, Denots, Valss}
use denote.RawPtr.{Ptr, Testable, block_ptr, null_ptr, ptr_val}
use denote.Steps.{nothing, opens}
use denote.Struct.Field.{Field, RawPtr-field, rows}
use denote.Struct.Owning.{Owning, shape, fields, row as row_of}
use denote.Struct.Struct.{Struct, exits_of, within}
use denote.Struct.Values.{intos}
use Rattle.std.specs.Prelude.{Option, None, Some}
use Rattle.std.specs.Box.Ownership.{box_owns}
use Rattle.std.specs.Global.{Global}
use Rattle.std.specs.Ptr.{points_to}
use Rattle.std.specs.contracts.alloc.Global as Heap
use Rattle.std.specs.contracts.impls.GlobalAllocator.TheImpl.{ghosts, dict}
use Rattle.std.proofs.GlobalToken.{dealloc_token-Testable}
use Rattle.std.proofs.alloc.Calls.{Fits, handle_tells, token}
use Rattle.std.proofs.alloc.Global.TheLaws as heap
use Rattle.std_alloc.proofs.BoxSteps.Form.{Bx, handle}
use Rattle.c_values.proofs.AsBox.{box_of}
use Rattle.c_values.specs.Handle.{held}
use Rattle.c_values.specs.contracts.parts.Parts as Parts

-- the pointer, the heap, and what is held
abbrev pub Held : RattleType → Type 0
Held X = Ptr × (Global × Option X.Denot)

-- a row, whose type is one type
abbrev pub single : RattleType → RattleType
single R = record R { mir = layout R ∷ [] }

pub record Holder : Type 2 where
  pub row : RattleType
  pub laws : Laws (single row)
  pub name : Sym
  pub holder : RattleType
  pub holds : holder.Denot → Held row
  pub make : Held row → holder.Denot
  pub beta : (t : Held row) → holds (make t) ≡ t

abbrev pub word : Ptr → Val → Val
word p hv = vstruct (of_list (ptr_val p ∷ hv ∷ []))

module _ (S : Holder) where
  abbrev pub X : RattleType
  X = single S.row

  -- a box of what is held
  abbrev pub E : Bx
  E = box_of X S.laws Heap.the_row heap.the_row_laws ghosts dict (impl [] tnil dnil)

  abbrev pub Of : RattleType
  Of = Parts.the_row X Heap.the_row ghosts

  abbrev pub its_parts : List Field
  its_parts = RawPtr-field ∷ Heap.the_field ∷ []

  abbrev pub pointer : Held X → Denots (rows its_parts)
  pointer t = intos its_parts (t.0, (t.1.0, tt))

  abbrev pub the_type : Owning
  the_type = record {
    name = S.name;
    args = [];
    types = [];
    parts = its_parts;
    D = S.holder.Denot;
    as_values = λ d. ((S.holds d).0, ((S.holds d).1.0, tt));
    coded = S.holder.coded;
    heap = λ d. held X (S.holds d).1.0 (S.holds d).0 (S.holds d).1.1;
    exit = λ k. hidden (under (λ d. pointer (S.holds d)) (exits_of k (rows its_parts)));
    shr_at = S.holder.shr_at;
  }

  abbrev pub H : RattleType
  H = row_of the_type

  -- what is owned of the pointer, the heap and what is held
  abbrev pub own : Held X → List Val → Fml
  own t vs = fsep ((Struct (shape the_type)).own_val (pointer t) vs) (held X t.1.0 t.0 t.1.1)

  module _ {M : Type 1} {𝓤 : Ura M} {𝓛 : Logic 𝓤} {K : Type 0} {Γ : List (Item 𝓤)} {G : Goal 𝓤 𝓛.H} where
    pub handle_out : K → (t : Held X) (vs : List Val)
        → ((hv : Val) → vs ≡ word t.0 hv ∷ [] → Fits E.al hv
        → Seq K 𝓛 (‵ (held X t.1.0 t.0 t.1.1) ∷ ‵ (handle E t.1.0 hv) ∷ Γ) G)
        → Seq K 𝓛 (‵ (own t vs) ∷ Γ) G
    handle_out k t vs go =
        fsplit k $ fpick k (λ vss. fsplit k $ feq_l k
        (λ ev. fsplit k $ feq_l k
        (λ ep. fsplit k $ handle_tells E.al k t.1.0 vss.1.0
        (λ hv ea fa. move k (1 ∷ []) $ drop k $ move k (1 ∷ []) $ go hv
        (subst (λ (ws : List Val). vs ≡ vstruct (of_list (ptr_val t.0 ∷ (ws ++ []))) ∷ []) ea
        (subst (λ (ps : List Val). vs ≡ vstruct (of_list (ps ++ (vss.1.0 ++ []))) ∷ []) ep ev)) fa))))

    pub made_in : K → (t : Held X) (vs : List Val)
        → Step K 𝓛 (‵ (H.own_val (S.make t) vs) ∷ Γ) G (‵ (own t vs) ∷ Γ) G
    made_in k t vs = step (λ s. rewrite k 0 (λ (u : Held X). ‵ (own u vs)) (sym (S.beta t)) refl $ s)

    pub empty_in : K → {hv : Val} (alloc : Global)
        → Step K 𝓛 (‵ (own (null_ptr, (alloc, None)) (word null_ptr hv ∷ [])) ∷ Γ) G (‵ (handle E alloc hv) ∷ Γ) G
    empty_in k {hv} alloc = step (λ s.
        nothing k $ fpack k (None ≡ None) (λ _. ftrue) refl $
        nothing k $ move k (2 ∷ 0 ∷ []) $ fjoin k $ feq_i k (List Val) (vnull ∷ [])
        (vnull ∷ []) refl $ fjoin k $
        feq_i k (List Val) (word null_ptr hv ∷ []) (word null_ptr hv ∷ []) refl $ fjoin k $
        fpack k (Valss (fields the_type))
        (within (shape the_type) (pointer (null_ptr, (alloc, None))) (word null_ptr hv ∷ [])) (vnull ∷ [], (hv ∷ [], tt)) $
        fjoin k $ s)

  -- what a box owns tells that its pointer may be compared with null
  pub tested : {M : Type 1} {𝓤 : Ura M} (𝓛 : Logic 𝓤) (a : Global) (p : Ptr) (x : X.Denot)
      → ent 𝓤 (sem 𝓛 (box_owns (token E.al a) X p x))
      (guard 𝓤 (Testable p) (sem 𝓛 (box_owns (token E.al a) X p x)))
  tested {𝓤 = 𝓤} 𝓛 a p x =
      let owns : SProp 𝓤 = sem 𝓛 (box_owns (token E.al a) X p x) in
      let last : SProp 𝓤 = sem 𝓛 (token E.al a (bare (lone X.mir)) p) in
      fact_use 𝓤 (Testable p) (via 𝓤 last (snd∗ 𝓤 (sem 𝓛 (points_to X p x)) last)
      (dealloc_token-Testable 𝓛 a (bare (lone X.mir)) p)) (guard_i 𝓤 (Testable p) owns)

  module _ {M : Type 1} {𝓤 : Ura M} {𝓛 : Logic 𝓤} {K : Type 0} {Γ : List (Item 𝓤)} {G : Goal 𝓤 𝓛.H} where
    pub handle_opens : K → Soaks G → {κ : Lft} {q : Share} {γ : GName} (d : S.holder.Denot) (rb ro : ℕ)
        → ((hv : Val) → Fits E.al hv → let t = S.holds d in Seq K 𝓛 (‵ (held X t.1.0 t.0 t.1.1) ∷ ‵ (handle E t.1.0 hv)
        ∷ ‵ (cell_at full_share H.mir (word t.0 hv ∷ []) rb ro) ∷ ‵ (fobor κ q (Body (mem H) rb ro γ))
        ∷ ‵ (fobs γ (S.holder.coded.code d)) ∷ ‵ (fauth γ (S.holder.coded.code d)) ∷ Γ) G)
        → Seq K 𝓛 (‵ (fobs γ (S.holder.coded.code d)) ∷ ‵ (fbor κ (Body (mem H) rb ro γ)) ∷ ‵ (flft κ q) ∷ Γ) G
    handle_opens k z d rb ro go =
        opens k z H {h = d} rb ro (λ vs. move k (1 ∷ []) $ handle_out k (S.holds d) vs (λ hv ws fa.
        rewrite k 2 (λ (us : List Val). ‵ (cell_at full_share H.mir us rb ro)) ws refl $ go hv fa))

    pub held_cases : K → (a : Global) (p : Ptr) (value : Option X.Denot)
        → (p ≡ null_ptr → value ≡ None → Seq K 𝓛 Γ G)
        → ((b o : ℕ) (x : X.Denot) → p ≡ block_ptr b o → value ≡ Some x → Testable (block_ptr b o)
        → Seq K 𝓛 (‵ (box_owns (token E.al a) X (block_ptr b o) x) ∷ Γ) G)
        → Seq K 𝓛 (‵ (held X a p value) ∷ Γ) G
    held_cases k a null_ptr value empty full = fpick k (λ none. drop k $ empty refl none)
    held_cases k a (block_ptr b o) None empty full =
        use1 𝓛 (given ⊥ (‵ ftrue)) (never_e 𝓤 _) $ learn k (λ f. absurd f)
    held_cases k a (block_ptr b o) (Some x) empty full =
        use1 𝓛 (given (Testable (block_ptr b o)) (‵ (box_owns (token E.al a) X (block_ptr b o) x)))
        (tested 𝓛 a (block_ptr b o) x) $ learn k (λ may. full b o x refl refl may)
