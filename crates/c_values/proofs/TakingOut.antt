-- A function that takes a holder apart: it tests the pointer, and moves two fields where it isn't null. What they own goes with them.
use mathlib.Core.Path.{◌≡◌, ◌∙◌, refl}
use mathlib.Core.List.{List, [], ◌∷◌, ◌++◌}
use seplogic.Ra.Ura.{Ura}
use lib.Dec.{lit<}
use mir.Syntax.{Fn, Body, local, value_local, place, field, copy, int, w8, w64, ty_bool, ty_ptr, ptr_eq, op2, rv_opd, aggregate, assign, cond, skip, seq, return}
use mir.Val.{Val, of_list}
use base.Logic.{SProp, ent, sep, never_e, id⊢}
use base.Fml.{ftrue, ffalse}
use prog.Model.{Model}
use prog.Routine.{Callee}
use prog.Wp.{WpFn, Closed, Tables}
use types.Logic.{Logic, sem}
use contract.Running.{Running, tables}
use types.Kit.{prop, regoal, Item, ‵, ◌$◌, ◌∵◌, !, qed, by, at_ret, given, learn, drop, use0, use1, fsplit, fpick}
use types.Match.{live}
use types.Part.{whole, sub, agg}
use types.Run.{stop, fld, bin, lit, no_more, and_then, of_opd, first, branches, skips, exec, returns, returns_within, enter}
use types.ByLocal.{alloc_all, pass_all, free_all, look_at, get, get_in, sets, env}
use denote.Memory.{lone}
use denote.RattleType.{RattleType}
use denote.RawPtr.{Ptr, block_ptr, null_ptr, Testable, tests_null}
use Rattle.std.specs.Prelude.{Option, Some, None, MatchOption}
use Rattle.std.specs.Box.Ownership.{box_owns}
use Rattle.std.specs.contracts.alloc.Global as Heap
use Rattle.std.specs.contracts.option.Option as OP
use Rattle.std.proofs.option.Made.{Some-of, none_of}
use Rattle.std.proofs.alloc.Calls.{Fits, token}
use Rattle.std_alloc.proofs.ResultValues.{and_tt}
use Rattle.std_alloc.proofs.BoxSteps.Form.{D, R, handle, box_typed}
use Rattle.std_alloc.proofs.BoxSteps.Steps.{box_in}
use Rattle.guest_bytes.proofs.Walking.{called, fn_of, Ends, Ensures, Walk, walks_by_value}
use Rattle.c_values.specs.Handle.{held}
use Rattle.c_values.proofs.Holder.{Holder, Held, E, H, X, Of, word, handle_out, tested}

module _ (S : Holder) where
  -- behind the test
  abbrev rest : Body
  rest = seq (assign (place 5 []) (rv_opd (copy (place 2 []))))
      (seq (assign (place 6 []) (aggregate (copy (place 5 []) ∷ copy (place 3 []) ∷ [])))
      (seq (assign (place 0 []) (aggregate (int w8 1 ∷ copy (place 6 []) ∷ []))) return))

  abbrev code : Fn
  code = fn_of 1
      (local (lone (OP.the_row (Of S)).mir) value_local ∷ local (lone (H S).mir) value_local
      ∷ local ty_ptr value_local ∷ local (lone Heap.the_row.mir) value_local ∷ local ty_bool value_local
      ∷ local ty_ptr value_local ∷ local (lone (Of S).mir) value_local ∷ [])
      (seq (assign (place 2 []) (rv_opd (copy (place 1 (field 0 ∷ [])))))
      (seq (assign (place 3 []) (rv_opd (copy (place 1 (field 1 ∷ [])))))
      (seq (assign (place 4 []) (op2 ptr_eq (copy (place 2 [])) (int w64 0)))
      (seq (cond (copy (place 4 [])) (seq (assign (place 0 []) (aggregate (int w8 0 ∷ []))) return) skip)
      rest))))

  abbrev To : RattleType
  To = OP.the_row (Of S)

  abbrev Said : S.holder.Denot → To.Denot → Type 0
  Said handle res = MatchOption res ((S.holds handle).1.1 ≡ None) (λ parts. (S.holds handle).1.1 ≡ Some parts.value)

  module _ {M : Type 1} {𝓤 : Ura M} (𝓛 : Logic 𝓤) (𝓣 : Tables 𝓤 𝓛.H) where
    module _ (handle' : S.holder.Denot) (Post : Val → SProp 𝓤) (ends : Ends (H S) To Said 𝓤 𝓛 handle' Post) where
      abbrev d : Held (X S)
      d = S.holds handle'

      -- the walk from each pointer, and what may stand behind it
      at : (p : Ptr) (x : Option (X S).Denot) (hv : Val) → d.1.1 ≡ x → Fits (E S).al hv
          → ent 𝓤 (sep 𝓤 (sem 𝓛 (held (X S) d.1.0 p x)) (sem 𝓛 (handle (E S) d.1.0 hv)))
          (WpFn 𝓤 𝓛.H 𝓣.C 𝓣.Λ code (word p hv ∷ []) Post)
      at null_ptr x hv e fa =
          let Γ : List (Item 𝓤) = ‵ (held (X S) d.1.0 null_ptr x) ∷ ‵ (handle (E S) d.1.0 hv) ∷ [] in
          qed 𝓛 Γ ∵ fpick ! (λ none. drop ! $ drop ! $
          enter ! 𝓣.C 𝓣.Λ code (word null_ptr hv ∷ []) _ $ alloc_all !
          (λ ls. pass_all ! refl ((and_tt _ fa.0, (record { fits = lit< tt }, (fa.1, tt))), tt) $
          sets ! (of_opd ! (get_in ! (fld ! refl (stop !)) (sub ! 0 refl (whole !)))) refl
          (tt, record { fits = lit< tt }) $ sets !
          (of_opd ! (get_in ! (fld ! refl (stop !)) (sub ! 1 refl (whole !)))) refl fa $
          sets ! (bin ! (get ! refl) (lit ! tt) (tests_null null_ptr (lit< tt))) refl (tt, tt) $
          first ! $ branches ! (get ! refl)
          (λ t. sets ! (agg ! (and_then ! (lit ! tt) (no_more !))) refl (tt, (record { fits = lit< tt }, tt)) $
          returns_within ! Post refl (look_at ! 0 refl) $ free_all ! refl $
          use0 𝓛 (‵ (To.own_val None (live 0 (of_list []) ∷ []))) (none_of 𝓛 (Of S)) $
          by ! (ends (live 0 (of_list [])) None (e ∙ none)))
          (λ t. absurd t)))
      at (block_ptr b o) None hv e fa =
          qed 𝓛 (‵ ffalse ∷ ‵ (handle (E S) d.1.0 hv) ∷ []) ∵ use1 𝓛 (given ⊥ (‵ ftrue)) (never_e 𝓤 _) $
          learn ! (λ f. absurd f)
      at (block_ptr b o) (Some x) hv e fa =
          let w : Val = word (block_ptr b o) hv in
          let v : D (E S) = record { ptr = block_ptr b o; alloc = d.1.0; value = x } in
          let made : (Of S).Denot = record { ptr = block_ptr b o; alloc = d.1.0; value = x } in
          let out : Val = live 1 (of_list (w ∷ [])) in
          let typed = box_typed (E S) hv b o fa in
          let owns = ‵ (box_owns (token (E S).al d.1.0) (R (E S)) (block_ptr b o) x) in
          qed 𝓛 (owns ∷ ‵ (handle (E S) d.1.0 hv) ∷ []) ∵
          use1 𝓛 (given (Testable (block_ptr b o)) owns) (tested S 𝓛 d.1.0 (block_ptr b o) x) $ learn ! (λ may.
          fsplit ! $ box_in (E S) ! v b o x refl refl $ use1 𝓛 (‵ ((Of S).own_val made (w ∷ []))) (id⊢ 𝓤 _) $
          use1 𝓛 (‵ (To.own_val (Some made) (out ∷ []))) (Some-of 𝓛 (Of S) made w) $
          enter ! 𝓣.C 𝓣.Λ code (w ∷ []) _ $ alloc_all ! (λ ls. pass_all ! refl (typed, tt) $
          sets ! (of_opd ! (get_in ! (fld ! refl (stop !)) (sub ! 0 refl (whole !)))) refl (tt, tt) $ sets !
          (of_opd ! (get_in ! (fld ! refl (stop !)) (sub ! 1 refl (whole !)))) refl fa $
          sets ! (bin ! (get ! refl) (lit ! tt) (tests_null (block_ptr b o) may)) refl (tt, tt) $
          first ! $ branches ! (get ! refl) (λ t. absurd t)
          (λ t. skips ! $ exec ! 𝓣.C 𝓣.Λ (env code.locals ls) rest (at_ret (env code.locals ls) Post) $
          sets ! (of_opd ! (get ! refl)) refl (tt, tt) $
          sets ! (agg ! (and_then ! (get ! refl) (and_then ! (get ! refl) (no_more !)))) refl typed $
          sets ! (agg ! (and_then ! (lit ! tt) (and_then ! (get ! refl) (no_more !)))) refl (
            and_tt _ typed.0,
            (record { fits = lit< tt }, (typed.1, tt)),
          ) $
          returns ! (look_at ! 0 refl) $ free_all ! refl $ by ! (ends out (Some made) e))))

    walk : Walk (H S) To Said 𝓤 𝓛 𝓣 code
    walk x vs Post ends =
        let t = S.holds x in
        qed 𝓛 (‵ ((H S).own_val x vs) ∷ []) ∵ handle_out S ! t vs (λ hv ws fa.
        regoal ! (λ (us : List Val). prop (WpFn 𝓤 𝓛.H 𝓣.C 𝓣.Λ code (us ++ []) Post)) ws refl $
        by ! (at x Post ends t.0 t.1.1 hv refl fa))

  pub takes_out : {M : Type 1} (𝓤 : Ura M) (𝓛 : Logic 𝓤) (𝓜 : Model 𝓤 𝓛.H) (𝓡 : Running 𝓤 𝓛.H 𝓜) (name : Callee)
      → Closed 𝓤 𝓛.H (tables 𝓤 𝓛.H 𝓜 𝓡 𝓡.env).C (tables 𝓤 𝓛.H 𝓜 𝓡 𝓡.env).Λ name code
      → Ensures (H S) To Said 𝓤 𝓛 𝓜 𝓡 name
  takes_out 𝓤 𝓛 𝓜 𝓡 name closed =
      walks_by_value (H S) To Said 𝓤 𝓛 𝓜 𝓡 name code closed (λ h. tt) (λ κs h f. refl)
      (walk 𝓛 (called 𝓤 𝓛 𝓜 𝓡))
