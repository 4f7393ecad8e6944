-- A function that lends what a loan owns: it takes the loan apart, and hands pointer and length to `lend_run`. The pointer is cast where C
-- has it at another type. Assumes `Logic`.
use Rattle.std.proofs.Common.{◌≡◌, ℕ, Bool, true, false, ◌^◌, ◌<◌, List, [], ◌∷◌, ◌++◌, refl, ap, ◌∙◌}
use seplogic.Ra.Ura.{Ura}
use lib.Dec.{T, lit<}
use mir.Syntax.{Body, Callee, Fn, Local, local, value_local, place, field, copy, call, block, rv_opd, assign, seq, return, ty_int, ty_ptr, w64}
use mir.Val.{Val, WT, has_ty, vstruct, of_list}
use base.Logic.{SProp, ent}
use prog.Memory.{Memory}
use prog.Model.{Model}
use prog.Wired.{Wired}
use prog.Routine.{Routine}
use prog.Wp.{WpFn, Closed, Tables}
use contract.Monad.{Fun}
use contract.Running.{Running, tables, tables_of}
use sound.WpLaws.{FmC, fm_of}
use types.Logic.{Logic, sem}
use types.Kit.{‵, raw, prop, at_ret, by, ◌$◌, ◌∵◌, !, qed, drop, use1, fsplit, fpick, feq_l, flt_l, regoal}
use types.Part.{whole, sub}
use types.Run.{enter, returns, and_then, no_more, of_opd, stop, fld, first, blocks, exec}
use types.ByLocal.{alloc_all, pass_all, free_all, look_at, get, get_in, sets, lands_last, env}
use denote.Memory.{lone}
use denote.RattleType.{RattleType}
use denote.RawPtr.{Ptr, ptr_val, block_ptr, null_ptr}
use denote.Triple.Call.{calls_at_last}
use denote.Triple.Statement.{Triple}
use Rattle.std_alloc.proofs.ResultValues.{and_tt}
use Rattle.guest_bytes.specs.Loaned.{loaned, IsRun}
use Rattle.guest_bytes.specs.contracts.lent.lend_run.Key.{name as run_name}
use Rattle.guest_bytes.proofs.lent.lend_run.Met as run_met
use Rattle.guest_bytes.proofs.lent.lend_run.Symbol as lend_run
use Rattle.guest_bytes.proofs.Lending.{R, args, Runs, at_run, run_goes, run_lends}
use Rattle.guest_bytes.proofs.Loans.{Loan, H, word}
use Rattle.guest_bytes.proofs.Lodging.{Lent}
use Rattle.guest_bytes.proofs.Walking.{called, fn_of, Ends, Ensures, Walk, walks_by_value}

ptr_typed : (p : Ptr) → T (has_ty ty_ptr (ptr_val p)) × WT (ptr_val p)
ptr_typed null_ptr = (tt, record { fits = lit< tt })
ptr_typed (block_ptr b o) = (tt, tt)

module _ (S : Loan) where
  -- the call, with the pointer of a local
  abbrev lending : ℕ → Body
  lending i =
      call (run_name (args S.of)) (copy (place i []) ∷ copy (place 3 []) ∷ []) (place 4 [])

  abbrev cast : Bool → Body
  cast false = lending 2
  cast true = seq (assign (place 5 []) (rv_opd (copy (place 2 [])))) (lending 5)

  abbrev for_cast : Bool → List Local
  for_cast false = []
  for_cast true = local ty_ptr value_local ∷ []

  abbrev last : Body
  last = seq (assign (place 0 []) (rv_opd (copy (place 4 [])))) return

  abbrev code : Bool → Fn
  code casts = fn_of 1
      (local (lone (Lent (R S.of)).mir) value_local ∷ local (lone (H S).mir) value_local ∷ local ty_ptr value_local
      ∷ local (ty_int w64) value_local ∷ local (lone (Lent (R S.of)).mir) value_local ∷ for_cast casts)
      (seq (assign (place 2 []) (rv_opd (copy (place 1 (field 0 ∷ [])))))
      (seq (assign (place 3 []) (rv_opd (copy (place 1 (field 1 ∷ [])))))
      (seq (block (cast casts)) last)))

  abbrev To : RattleType
  To = Lent S.of.named

  abbrev Said : S.row.Denot → To.Denot → Type 0
  Said d res = res.items ≡ S.items d

  module _ {M : Type 1} {𝓤 : Ura M} (𝓛 : Logic 𝓤) (at_mem : Memory → SProp 𝓤) (run : Routine → Fun 𝓤)
      (𝓣 : Tables 𝓤 𝓛.H) (called : Triple 𝓤 (𝓣.C (run_name (args S.of))) (Runs S.of 𝓛 at_mem run)) where
    module _ (d : S.row.Denot) (Post : Val → SProp 𝓤) (ends : Ends (H S) To Said 𝓤 𝓛 d Post) where
      abbrev p : Ptr
      p = S.place d

      abbrev n : ℕ
      n = S.len d

      abbrev xs : List (R S.of).Denot
      xs = S.items d

      abbrev y : (Runs S.of 𝓛 at_mem run).Ghost
      y = at_run S.of 𝓛 at_mem run p n xs

      is : IsRun (R S.of) n xs
      is = (S.sized d, S.of.fits n (S.small d))

      framed : FmC 𝓤 𝓛.H 𝓛.laws 𝓣.C
      framed = fm_of 𝓤 𝓛.H 𝓛.laws 𝓣

      at : (casts : Bool) → n < 2 ^ 64
          → ent 𝓤 (sem 𝓛 (loaned S.of.named p n xs)) (WpFn 𝓤 𝓛.H 𝓣.C 𝓣.Λ (code casts) (word p n ∷ []) Post)
      at false fits =
          let typed = ptr_typed p in
          let locals : List Local = (code false).locals in
          qed 𝓛 (‵ (loaned S.of.named p n xs) ∷ []) ∵
          use1 𝓛 (raw ((Runs S.of 𝓛 at_mem run).pre y)) (run_goes S.of 𝓛 at_mem run p n xs is fits) $
          enter ! 𝓣.C 𝓣.Λ (code false) (word p n ∷ []) Post $ alloc_all !
          (λ l. pass_all ! refl ((and_tt _ typed.0, (typed.1, (record { fits = fits }, tt))), tt) $
          sets ! (of_opd ! (get_in ! (fld ! refl (stop !)) (sub ! 0 refl (whole !)))) refl typed $
          sets ! (of_opd ! (get_in ! (fld ! refl (stop !)) (sub ! 1 refl (whole !)))) refl
          (tt, record { fits = fits }) $ first ! $ blocks ! $
          calls_at_last ! framed (Runs S.of 𝓛 at_mem run) called y
          (and_then ! (get ! refl) (and_then ! (get ! refl) (no_more !))) (λ v.
          run_lends S.of ! tt at_mem run p n xs v (λ r same fine. lands_last ! refl fine $
          exec ! 𝓣.C 𝓣.Λ (env locals l) last (at_ret (env locals l) Post) $
          sets ! (of_opd ! (get ! refl)) refl fine $ returns ! (look_at ! 0 refl) $ free_all ! refl $
          by ! (ends v r same))))
      at true fits =
          let typed = ptr_typed p in
          let locals : List Local = (code true).locals in
          qed 𝓛 (‵ (loaned S.of.named p n xs) ∷ []) ∵
          use1 𝓛 (raw ((Runs S.of 𝓛 at_mem run).pre y)) (run_goes S.of 𝓛 at_mem run p n xs is fits) $
          enter ! 𝓣.C 𝓣.Λ (code true) (word p n ∷ []) Post $ alloc_all !
          (λ l. pass_all ! refl ((and_tt _ typed.0, (typed.1, (record { fits = fits }, tt))), tt) $
          sets ! (of_opd ! (get_in ! (fld ! refl (stop !)) (sub ! 0 refl (whole !)))) refl typed $
          sets ! (of_opd ! (get_in ! (fld ! refl (stop !)) (sub ! 1 refl (whole !)))) refl
          (tt, record { fits = fits }) $ first ! $ blocks ! $ sets ! (of_opd ! (get ! refl)) refl typed $
          calls_at_last ! framed (Runs S.of 𝓛 at_mem run) called y
          (and_then ! (get ! refl) (and_then ! (get ! refl) (no_more !))) (λ v.
          run_lends S.of ! tt at_mem run p n xs v (λ r same fine. lands_last ! refl fine $
          exec ! 𝓣.C 𝓣.Λ (env locals l) last (at_ret (env locals l) Post) $
          sets ! (of_opd ! (get ! refl)) refl fine $ returns ! (look_at ! 0 refl) $ free_all ! refl $
          by ! (ends v r same))))

    walk : (casts : Bool) → Walk (H S) To Said 𝓤 𝓛 𝓣 (code casts)
    walk casts d vs Post ends =
        let w = word (S.place d) (S.len d) in
        qed 𝓛 (‵ ((H S).own_val d vs) ∷ []) ∵ fsplit ! $ fpick ! (λ vss. fsplit ! $ feq_l !
        (λ ev. fsplit ! $ feq_l ! (λ ep. fsplit ! $ fsplit ! $ feq_l ! (λ el. flt_l ! (λ fits. drop ! $
        let is : vs ≡ w ∷ [] = ev ∙ ap (λ ps. vstruct (of_list (ps ++ (vss.1.0 ++ []))) ∷ []) ep
        ∙ ap (λ ws. vstruct (of_list ((ptr_val (S.place d) ∷ []) ++ (ws ++ []))) ∷ []) el in
        regoal ! (λ (us : List Val). prop (WpFn 𝓤 𝓛.H 𝓣.C 𝓣.Λ (code casts) (us ++ []) Post)) is refl $
        by ! (at d Post ends casts fits))))))

  pub takes : (casts : Bool) {M : Type 1} (𝓤 : Ura M) (𝓛 : Logic 𝓤) (𝓜 : Model 𝓤 𝓛.H) (𝓡 : Running 𝓤 𝓛.H 𝓜)
      (name : Callee) → Closed 𝓤 𝓛.H (tables 𝓤 𝓛.H 𝓜 𝓡 𝓡.env).C (tables 𝓤 𝓛.H 𝓜 𝓡 𝓡.env).Λ name (code casts)
      → Wired 𝓡.env lend_run.code
      → Ensures (H S) To Said 𝓤 𝓛 𝓜 𝓡 name
  unfolding tables_of
  takes casts 𝓤 𝓛 𝓜 𝓡 name closed wired =
      walks_by_value (H S) To Said 𝓤 𝓛 𝓜 𝓡 name (code casts) closed (λ d. tt) (λ κs d f. refl)
      (walk 𝓛 𝓜.mem 𝓡.returns (called 𝓤 𝓛 𝓜 𝓡) (run_met.met 𝓤 𝓛 𝓜 𝓡 wired (R S.of) S.of.laws) casts)
