-- A function that lends what a holder behind a `&mut` holds: it tests the pointer, and lends what lies behind it where it isn't null.
-- The holder follows what it lent.
use mathlib.Core.Path.{◌≡◌, refl, sym}
use mathlib.Core.List.{List, [], ◌∷◌}
use Prim.Native.Nat.{ℕ}
use seplogic.Ra.Ura.{Ura}
use lib.Dec.{lit<}
use mir.Raw.{raw as bare}
use mir.Syntax.{Fn, Body, Place, local, value_local, place, field, deref, copy, int, w8, w64, ty_bool, ty_ptr, ty_ref, erased, mut, named, ptr_eq, op2, rv_opd, addr_of, aggregate, assign, block, cond, skip, seq, return}
use mir.Val.{Val, vptr, of_list}
use base.Fraction.{full_share}
use base.Logic.{SProp, ent, sep, emp, id⊢, via, fst∗}
use base.Fml.{Lft, GName, Share, Fml, ftrue, fsep, flft, fobs, fres}
use prog.Model.{Model}
use prog.Routine.{Callee}
use prog.Wp.{Calls, Env, Loops, WpFn, Closed, Tables}
use types.Logic.{Logic, sem}
use types.Match.{live}
use types.Kit.{‵, raw, ◌⊛◌, some, later, at_ret, ◌$◌, ◌∵◌, !, qed, by, move, keep, drop, use0, use1, split, join, pick, await, group, frame, rewrite, fsplit, fsplit3, fjoin, fpack, suffices, done}
use types.Part.{whole, sub, look_in, agg}
use types.Run.{stop, fld, load, addr, bin, lit, no_more, and_then, of_opd, first, blocks, branches, skips, exec, returns, returns_within, enter}
use types.ByLocal.{alloc_all, pass_all, free_all, look_at, get, through, sets, sets_last, env}
use contract.Monad.{fact}
use contract.Running.{Running, tables}
use denote.Builtin.{RefMutOf}
use denote.Exit.{no}
use denote.Follow.{follows, follows_by, Part, lends_Part}
use denote.Memory.{cell_at, lone, mem, part_at, part_of, pointee}
use denote.Param.{layout}
use denote.RattleType.{RattleType, owns}
use denote.RawPtr.{Ptr, block_ptr, null_ptr, tests_null}
use denote.Ref.{MutBor, MutRef, mut_Tells, mut_vals}
use denote.Signature.{plain, mut_ref_to, type_at}
use denote.Steps.{closes, nothing}
use denote.Triple.Clauses.{Clauses, Ended, closing}
use denote.Triple.Entry.{on_entry}
use denote.Triple.Spec.{Meets}
use denote.Triple.Walked.{Goes-spent_ref, Stays, ends_at, says, stay_dropped, walk_of, walked}
use Rattle.std.specs.Borrow.{LendsIf}
use Rattle.std.specs.Prelude.{None, Some, MatchOption}
use Rattle.std.specs.contracts.option.Option as OP
use Rattle.std.proofs.option.Made.{Some-of, none_of}
use Rattle.std.proofs.alloc.Calls.{token}
use Rattle.std_alloc.proofs.BoxSteps.Form.{D, handle}
use Rattle.std_alloc.proofs.BoxSteps.Steps.{box_in}
use Rattle.guest_bytes.proofs.Walking.{called, walked_through}
use Rattle.c_values.proofs.Holder.{Holder, Held, E, H, X, own, word, empty_in, made_in, handle_opens, held_cases}

module _ (S : Holder) where
  -- the pointer, behind the `&mut`
  abbrev its_pointer : Place
  its_pointer = place 1 (deref (layout (H S)) ∷ field 0 ∷ [])

  abbrev last : Body
  last = seq (assign (place 4 []) (rv_opd (copy (place 5 []))))
      (seq (assign (place 0 []) (aggregate (int w8 1 ∷ copy (place 4 []) ∷ []))) return)

  -- behind the test
  abbrev rest : Body
  rest = seq (block (seq (assign (place 6 []) (rv_opd (copy its_pointer)))
      (seq (assign (place 7 []) (rv_opd (copy (place 6 []))))
      (assign (place 5 []) (addr_of (place 7 (deref (layout (X S)) ∷ [])))))))
      last

  abbrev code : Fn
  code = record {
    lifetimes = 1;
    outlives = [];
    ty_params = [];
    givens = 0;
    params = 1;
    locals = local (lone (OP.the_row (MutRef (named 0) [] (X S))).mir) value_local
        ∷ local (ty_ref (named 0) mut (pointee (H S).written)) value_local ∷ local ty_bool value_local
        ∷ local ty_ptr value_local ∷ local (ty_ref erased mut (pointee (X S).written)) value_local
        ∷ local (ty_ref erased mut (pointee (X S).written)) value_local ∷ local ty_ptr value_local
        ∷ local ty_ptr value_local ∷ [];
    body = seq (assign (place 3 []) (rv_opd (copy its_pointer)))
        (seq (assign (place 2 []) (op2 ptr_eq (copy (place 3 [])) (int w64 0)))
        (seq (cond (copy (place 2 [])) (seq (assign (place 0 []) (aggregate (int w8 0 ∷ []))) return) skip)
        rest));
  }

  abbrev ended : Ended
  ended = record {
    signature = record {
      lifetimes = 1;
      outlives = [];
      params = RefMutOf (0 ∷ []) tt (plain (λ κs. H S)) (λ κs. tt) ∷ [];
      result = plain (λ κs. OP.the_row (type_at {n = 1} (RefMutOf (0 ∷ []) tt (plain (λ κs. X S)) (λ κs. tt)) κs));
    };
    kept = (no, tt);
  }

  abbrev stayed : Stays ended.signature.params ended.kept
  stayed = (stay_dropped (mut_ref_to (0 ∷ []) tt (plain (λ _. H S))) no, tt)

  -- the holder of another value
  abbrev with_held : S.holder.Denot → (X S).Denot → S.holder.Denot
  with_held h x = S.make ((S.holds h).0, ((S.holds h).1.0, Some x))

  module _ {M : Type 1} {𝓤 : Ura M} (𝓛 : Logic 𝓤) where
    open 𝓛 use {A}

    abbrev clauses : Clauses 𝓤 ended
    clauses = λ κs args. record {
      ghost = Unit {0};
      requires = λ _. emp 𝓤;
      ensures = λ _ res _. sep 𝓤
          (sem 𝓛 (LendsIf (H S) (X S) args.0 res (with_held args.0.now) args.0.now))
          (fact 𝓤 (MatchOption res ((S.holds args.0.now).1.1 ≡ None)
          (λ lent. (S.holds args.0.now).1.1 ≡ Some lent.now)));
    }

    module _ (κ : Lft) (q : Share) (rb ro : ℕ) (γ : GName) (h : S.holder.Denot) where
      abbrev t : Held (X S)
      t = S.holds h

      abbrev self : MutBor S.holder.Denot
      self = record { ref_ptr = (rb, ro); ghost_name = γ; now = h }

      abbrev bound : (walk_of 𝓛 ended stayed clauses).Ghost
      bound = (((κ, tt), (q, tt), tt, (self, tt), (vptr rb ro ∷ [], tt)), tt)

      abbrev Post : Val → SProp 𝓤
      Post = (walk_of 𝓛 ended stayed clauses).post bound

      abbrev Lent : RattleType
      Lent = MutRef (named 0) κ (X S)

      -- nothing is lent
      leaves : t.1.1 ≡ None
          → ent 𝓤 (sep 𝓤 (A.obs γ (S.holder.coded.code h)) (A.lft κ q)) (Post (live 0 (of_list [])))
      unfolding follows_by
      leaves none =
          qed 𝓛 (‵ (fobs γ (S.holder.coded.code h)) ∷ ‵ (flft κ q) ∷ []) ∵
          use1 𝓛 (‵ (fres γ (S.holder.coded.code h))) (𝓛.names.obs-res γ (S.holder.coded.code h)) $ move ! (1 ∷ []) $
          use0 𝓛 (‵ ((OP.the_row Lent).own_val None (live 0 (of_list []) ∷ []))) (none_of 𝓛 Lent) $
          suffices ! _ (ends_at 𝓛 ended stayed clauses bound (live 0 (of_list [])) None (tt, tt) (tt, tt)) $
          nothing ! $ nothing ! $ fjoin ! $ join ! $ nothing ! $ move ! (2 ∷ 0 ∷ []) $ join ! $ join ! $
          frame ! $ says ! none $ done !

      module _ (b o : ℕ) (hv : Val) where
        -- all of the holder but what it holds
        abbrev Rest : Fml
        Rest = fsep (fsep (token (E S).al t.1.0 (bare (lone (X S).mir)) (block_ptr b o)) (handle (E S) t.1.0 hv))
            (cell_at full_share (H S).mir (word (block_ptr b o) hv ∷ []) rb ro)

        back : t.0 ≡ block_ptr b o → (w : (X S).Denot)
            → ent 𝓤 (sep 𝓤 (sem 𝓛 ((mem (X S)).own_at w b o)) (sem 𝓛 Rest))
            (sem 𝓛 ((mem (H S)).own_at (with_held h w) rb ro))
        unfolding part_of
        back at_b w =
            let v : D (E S) = record { ptr = block_ptr b o; alloc = t.1.0; value = w } in
            let made : Ptr → Held (X S) = λ p. (p, (t.1.0, Some w)) in
            let ws : List Val = word (block_ptr b o) hv ∷ [] in
            qed 𝓛 (‵ (part_at (X S) full_share w b o) ∷ ‵ Rest ∷ []) ∵ move ! (1 ∷ []) $ fsplit ! $ fsplit ! $
            move ! (3 ∷ []) $ box_in (E S) ! v b o w refl refl $
            use1 𝓛 (‵ (own S (made (block_ptr b o)) ws)) (id⊢ 𝓤 _) $
            rewrite ! 0 (λ (p : Ptr). ‵ (own S (made p) ws)) (sym at_b) refl $ made_in S ! (made t.0) ws $
            move ! (1 ∷ 0 ∷ []) $ fjoin ! $
            fpack ! (List Val) (λ us. fsep (cell_at full_share (H S).mir us rb ro) ((H S).own_val (with_held h w) us))
            ws $
            done !

        -- what is held is lent
        exits : (x : (X S).Denot) → t.1.1 ≡ Some x → (γ' : GName)
            → ent 𝓤 (sep 𝓤
            (sem 𝓛 (Lent.own_val (record { ref_ptr = (b, o); ghost_name = γ'; now = x }) (vptr b o ∷ [])))
            (sep 𝓤 (A.lft κ q) (sem 𝓛 (follows (H S) (X S) γ γ' (with_held h)))))
            (Post (live 1 (of_list (vptr b o ∷ []))))
        unfolding follows_by
        exits x is γ' =
            let r : MutBor (X S).Denot = record { ref_ptr = (b, o); ghost_name = γ'; now = x } in
            let out : Val = live 1 (of_list (vptr b o ∷ [])) in
            qed 𝓛 (‵ (Lent.own_val r (vptr b o ∷ [])) ∷ ‵ (flft κ q)
            ∷ ‵ (follows (H S) (X S) γ γ' (with_held h)) ∷ []) ∵
            use1 𝓛 (‵ ((OP.the_row Lent).own_val (Some r) (out ∷ []))) (Some-of 𝓛 Lent r (vptr b o)) $
            suffices ! _ (ends_at 𝓛 ended stayed clauses bound out (Some r) (tt, tt) (tt, tt)) $
            nothing ! $ nothing ! $ fjoin ! $ join ! $ nothing ! $ move ! (2 ∷ 0 ∷ []) $ join ! $ join ! $
            frame ! $ says ! is $ done !

      module _ (C : Calls 𝓤 𝓛.H) (Λ : Loops 𝓤 𝓛.H) where
        walk : ent 𝓤 (on_entry 𝓛 ended.signature (κ, tt) (q, tt) (self, tt) (vptr rb ro ∷ [], tt))
            (WpFn 𝓤 𝓛.H C Λ code (vptr rb ro ∷ []) Post)
        walk =
            qed 𝓛 ((‵ (flft κ q) ⊛ ‵ ftrue)
            ∷ ‵ (owns (MutRef (named 0) κ (H S) ∷ []) (self, tt) (vptr rb ro ∷ [], tt)) ∷ []) ∵
            enter ! C Λ code (vptr rb ro ∷ []) _ $
            alloc_all ! (λ l. pass_all ! refl ((tt, tt), tt) $
            let En : Env 𝓤 𝓛.H = env code.locals l in
            move ! (1 ∷ []) $ fsplit ! $ fsplit3 ! $ drop ! $ move ! (3 ∷ []) $ split ! $ move
            ! (2 ∷ 3 ∷ 0 ∷ []) $
            handle_opens S ! tt h rb ro (λ hv fa. held_cases S ! t.1.0 t.0 t.1.1
            (λ at_null none.
            -- [the heap; the word; the open borrow; obs; auth]
            rewrite ! 1 (λ (p : Ptr). ‵ (cell_at full_share (H S).mir (word p hv ∷ []) rb ro)) at_null refl $
            sets ! (of_opd ! (load ! (through ! refl (fld ! refl (stop !)))
            (look_in ! 1 (sub ! 0 refl (whole !)))))
            refl (tt, record { fits = lit< tt }) $
            sets ! (bin ! (get ! refl) (lit ! tt) (tests_null null_ptr (lit< tt))) refl (tt, tt) $
            first ! $ branches ! (get ! refl)
            (λ _. sets ! (agg ! (and_then ! (lit ! tt) (no_more !))) refl (tt, (record { fits = lit< tt }, tt)) $
            empty_in S ! t.1.0 $
            rewrite ! 0 (λ (u : Held (X S)). ‵ (own S u (word null_ptr hv ∷ [])))
            (λ i. (sym at_null i, (t.1.0, sym none i))) refl $
            move ! (1 ∷ 0 ∷ []) $ closes ! tt (H S) h (word null_ptr hv ∷ []) rb ro $
            returns_within ! Post refl (look_at ! 0 refl) $ free_all ! refl $ keep ! (0 ∷ 2 ∷ []) $
            by ! (leaves none))
            (λ never. absurd never))
            (λ b o x at_b is may.
            -- [what is held, with the right to free it; the heap; the word; the open borrow; obs; auth]
            rewrite ! 2 (λ (p : Ptr). ‵ (cell_at full_share (H S).mir (word p hv ∷ []) rb ro)) at_b refl $
            sets ! (of_opd ! (load ! (through ! refl (fld ! refl (stop !)))
            (look_in ! 2 (sub ! 0 refl (whole !)))))
            refl (tt, tt) $
            sets ! (bin ! (get ! refl) (lit ! tt) (tests_null (block_ptr b o) may)) refl (tt, tt) $
            first ! $ branches ! (get ! refl) (λ never. absurd never)
            (λ _. skips ! $ exec ! C Λ En rest (at_ret En Post) $ first ! $ blocks ! $
            sets ! (of_opd ! (load ! (through ! refl (fld ! refl (stop !)))
            (look_in ! 2 (sub ! 0 refl (whole !)))))
            refl (tt, tt) $
            sets ! (of_opd ! (get ! refl)) refl (tt, tt) $
            sets_last ! (addr ! (through ! refl (stop !))) refl (tt, tt) $ exec ! C Λ En
            last (at_ret En Post) $
            sets ! (of_opd ! (get ! refl)) refl (tt, tt) $
            sets ! (agg ! (and_then ! (lit ! tt) (and_then ! (get ! refl) (no_more !)))) refl
            (tt, (record { fits = lit< tt }, (tt, tt))) $
            fsplit ! $ move ! (1 ∷ 2 ∷ []) $ fjoin ! $ move ! (0 ∷ 2 ∷ []) $ fjoin ! $
            -- [all but what is held; what is held; the open borrow; obs; auth]
            move ! (2 ∷ 3 ∷ 4 ∷ 1 ∷ 0 ∷ []) $ group ! 5 $
            use1 𝓛 (later (some (λ (γ' : GName). raw (Part 𝓛 (H S) (X S) (with_held h) (named 0) κ q rb ro b o γ
            (sem 𝓛 (Rest b o hv)) (back b o hv at_b) x γ'))))
            (lends_Part 𝓛 (H S) (X S) (with_held h) (named 0) κ q rb ro b o γ
            (sem 𝓛 (Rest b o hv)) (back b o hv at_b)
            (S.holder.coded.code h) (S.holder.coded.code h) x) $ await ! tt $ pick ! (λ γ'.
            returns ! (look_at ! 0 refl) $ free_all ! refl $ keep ! (0 ∷ []) $ by ! (exits b o hv x is γ'))))))

  pub lends : {M : Type 1} (𝓤 : Ura M) (𝓛 : Logic 𝓤) (𝓜 : Model 𝓤 𝓛.H) (𝓡 : Running 𝓤 𝓛.H 𝓜) (name : Callee)
      → Closed 𝓤 𝓛.H (tables 𝓤 𝓛.H 𝓜 𝓡 𝓡.env).C (tables 𝓤 𝓛.H 𝓜 𝓡 𝓡.env).Λ name code
      → Meets 𝓛 ended.signature (𝓡.run (𝓡.env name)) (closing 𝓛 ended (clauses 𝓛))
  lends 𝓤 𝓛 𝓜 𝓡 name closed =
      let 𝓣 : Tables 𝓤 𝓛.H = called 𝓤 𝓛 𝓜 𝓡 in
      walked_through 𝓤 𝓛 𝓜 𝓡 name code ended stayed (clauses 𝓛) closed
      (Goes-spent_ref 𝓛 1 (0 ∷ []) tt (plain (λ _. H S)), tt)
      (walked 𝓛 ended stayed (clauses 𝓛) (WpFn 𝓤 𝓛.H 𝓣.C 𝓣.Λ code)
      (λ κs. (mut_vals, tt)) (λ κs. (mut_Tells (named 0) κs.0 (H S), tt))
      (λ κs qs bounds a g are. via 𝓤 _ (fst∗ 𝓤 _ (emp 𝓤))
      (walk 𝓛 κs.0 qs.0 a.0.ref_ptr.0 a.0.ref_ptr.1 a.0.ghost_name a.0.now 𝓣.C 𝓣.Λ)))
