-- The functions that make a holder. One makes an empty holder: it puts null beside the heap. The other makes one of parts: it moves two
-- fields, and what they own goes with them.
use mathlib.Core.Path.{◌≡◌, refl, ap}
use mathlib.Core.List.{List, [], ◌∷◌, ◌++◌}
use seplogic.Ra.Ura.{Ura}
use lib.Dec.{lit<}
use mir.Syntax.{Callee, Fn, local, value_local, place, field, copy, int, ty_ptr, w64, rv_opd, aggregate, assign, seq, return}
use mir.Val.{Val}
use base.Logic.{id⊢}
use prog.Model.{Model}
use prog.Wp.{WpFn, Closed, Tables}
use types.Logic.{Logic}
use contract.Running.{Running, tables}
use types.Kit.{‵, prop, ◌$◌, ◌∵◌, !, qed, by, regoal, use1}
use types.Part.{whole, sub, agg}
use types.Run.{stop, fld, no_more, and_then, lit, of_opd, returns, enter}
use types.ByLocal.{alloc_all, pass_all, free_all, look_at, get, get_in, sets}
use denote.Memory.{lone}
use denote.RawPtr.{block_ptr, null_ptr}
use Rattle.std.specs.Prelude.{None, Some}
use Rattle.std.specs.contracts.alloc.Global as Heap
use Rattle.std.proofs.alloc.Calls.{handle_tells}
use Rattle.std_alloc.proofs.ResultValues.{and_tt}
use Rattle.std_alloc.proofs.BoxSteps.Form.{D, box_typed}
use Rattle.std_alloc.proofs.BoxSteps.Steps.{box_out, box_in}
use Rattle.guest_bytes.proofs.Walking.{called, fn_of, Ensures, Walk, walks_by_value}
use Rattle.c_values.proofs.Holder.{Holder, Held, E, H, X, Of, own, word, empty_in, made_in}

module _ (S : Holder) where
  abbrev Empty : Heap.the_row.Denot → S.holder.Denot → Type 0
  Empty alloc handle = (S.holds handle).1.1 ≡ None

  abbrev emptying : Fn
  emptying = fn_of 1 (local (lone (H S).mir) value_local ∷ local (lone Heap.the_row.mir) value_local ∷ [])
      (seq (assign (place 0 []) (aggregate (int w64 0 ∷ copy (place 1 []) ∷ []))) return)

  abbrev Full : (Of S).Denot → S.holder.Denot → Type 0
  Full parts handle = (S.holds handle).1.1 ≡ Some parts.value

  abbrev filling : Fn
  filling = fn_of 1
      (local (lone (H S).mir) value_local ∷ local (lone (Of S).mir) value_local ∷ local ty_ptr value_local
      ∷ local (lone Heap.the_row.mir) value_local ∷ local ty_ptr value_local ∷ [])
      (seq (assign (place 2 []) (rv_opd (copy (place 1 (field 0 ∷ [])))))
      (seq (assign (place 3 []) (rv_opd (copy (place 1 (field 1 ∷ [])))))
      (seq (assign (place 4 []) (rv_opd (copy (place 2 []))))
      (seq (assign (place 0 []) (aggregate (copy (place 4 []) ∷ copy (place 3 []) ∷ []))) return))))

  module _ {M : Type 1} {𝓤 : Ura M} (𝓛 : Logic 𝓤) (𝓣 : Tables 𝓤 𝓛.H) where
    empties_walk : Walk Heap.the_row (H S) Empty 𝓤 𝓛 𝓣 emptying
    empties_walk a vs Post ends =
        let t : Held (X S) = (null_ptr, (a, None)) in
        qed 𝓛 (‵ (Heap.the_row.own_val a vs) ∷ []) ∵ handle_tells (E S).al ! a vs (λ hv ws fa.
        let w = word null_ptr hv in
        regoal ! (λ (us : List Val). prop (WpFn 𝓤 𝓛.H 𝓣.C 𝓣.Λ emptying (us ++ []) Post)) ws refl $
        empty_in S ! a $ made_in S ! t (w ∷ []) $
        enter ! 𝓣.C 𝓣.Λ emptying (hv ∷ []) _ $ alloc_all ! (λ ls. pass_all ! refl (fa, tt) $
        sets ! (agg ! (and_then ! (lit ! tt) (and_then ! (get ! refl) (no_more !)))) refl
        (and_tt _ fa.0, (record { fits = lit< tt }, (fa.1, tt))) $
        returns ! (look_at ! 0 refl) $ free_all ! refl $
        by ! (ends w (S.make t) (ap (λ (u : Held (X S)). u.1.1) (S.beta t)))))

    fills_walk : Walk (Of S) (H S) Full 𝓤 𝓛 𝓣 filling
    fills_walk parts vs Post ends =
        let v : D (E S) = record { ptr = parts.ptr; alloc = parts.alloc; value = parts.value } in
        qed 𝓛 (‵ ((Of S).own_val parts vs) ∷ []) ∵ box_out (E S) ! v vs (λ b o hv e ws fa.
        let w = word (block_ptr b o) hv in
        let d : D (E S) = record { ptr = block_ptr b o; alloc = v.alloc; value = v.value } in
        let t : Held (X S) = (block_ptr b o, (v.alloc, Some v.value)) in
        let typed = box_typed (E S) hv b o fa in
        regoal ! (λ (us : List Val). prop (WpFn 𝓤 𝓛.H 𝓣.C 𝓣.Λ filling (us ++ []) Post)) ws refl $
        box_in (E S) ! d b o v.value refl refl $ use1 𝓛 (‵ (own S t (w ∷ []))) (id⊢ 𝓤 _) $
        made_in S ! t (w ∷ []) $
        enter ! 𝓣.C 𝓣.Λ filling (w ∷ []) _ $ alloc_all ! (λ ls. pass_all ! refl (typed, tt) $
        sets ! (of_opd ! (get_in ! (fld ! refl (stop !)) (sub ! 0 refl (whole !)))) refl (tt, tt) $
        sets ! (of_opd ! (get_in ! (fld ! refl (stop !)) (sub ! 1 refl (whole !)))) refl fa $
        sets ! (of_opd ! (get ! refl)) refl (tt, tt) $
        sets ! (agg ! (and_then ! (get ! refl) (and_then ! (get ! refl) (no_more !)))) refl typed $
        returns ! (look_at ! 0 refl) $ free_all ! refl $
        by ! (ends w (S.make t) (ap (λ (u : Held (X S)). u.1.1) (S.beta t)))))

  module _ {M : Type 1} (𝓤 : Ura M) (𝓛 : Logic 𝓤) (𝓜 : Model 𝓤 𝓛.H) (𝓡 : Running 𝓤 𝓛.H 𝓜) (name : Callee) where
    pub empties : Closed 𝓤 𝓛.H (tables 𝓤 𝓛.H 𝓜 𝓡 𝓡.env).C (tables 𝓤 𝓛.H 𝓜 𝓡 𝓡.env).Λ name emptying
        → Ensures Heap.the_row (H S) Empty 𝓤 𝓛 𝓜 𝓡 name
    empties closed =
        walks_by_value Heap.the_row (H S) Empty 𝓤 𝓛 𝓜 𝓡 name emptying closed (λ a. tt) (λ κs a f. refl)
        (empties_walk 𝓛 (called 𝓤 𝓛 𝓜 𝓡))

    pub fills : Closed 𝓤 𝓛.H (tables 𝓤 𝓛.H 𝓜 𝓡 𝓡.env).C (tables 𝓤 𝓛.H 𝓜 𝓡 𝓡.env).Λ name filling
        → Ensures (Of S) (H S) Full 𝓤 𝓛 𝓜 𝓡 name
    fills closed =
        walks_by_value (Of S) (H S) Full 𝓤 𝓛 𝓜 𝓡 name filling closed (λ parts. tt) (λ κs parts f. refl)
        (fills_walk 𝓛 (called 𝓤 𝓛 𝓜 𝓡))
