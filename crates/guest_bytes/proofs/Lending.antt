-- What a host lends: bytes, or words. And `lend_run` at a call with such values, that are all of a run. Assumes `Logic`.
--     Lendable         named, laws       the type of one value, and the laws of the type that a call passes it as
--                      lies, owned       at that type what lies at a place is the same, and what a lent `Vec` owns
--                      IsSmall, fits     what a caller says of the count of values, which a `Vec` may then have
--                      Tells, tells      what it is told, of the count, of the values and of the items of the `Vec`
--     lends             a function that lends what its caller owns: it hands that to `lend_run`
use Rattle.std.proofs.Common.{◌≡◌, ℕ, zero, suc, ◌*◌, ◌^◌, ◌<◌, List, [], ◌∷◌, length, refl, arith, Vec, ◌++◌, sym, ap, ◌∙◌, subst}
use seplogic.Ra.Ura.{Ura}
use mir.Raw.{raw as bare}
use mir.Syntax.{Args, a_type, w64, Callee, Fn, local, value_local, call, copy, place, return, seq, ty_int, ty_ptr}
use mir.Val.{Val, vint, vptr}
use base.Fraction.{full_share}
use base.Logic.{SProp, ent, emp, id⊢, sep, guard, never}
use base.Fml.{Fml, ftrue, fsep, flft, feq}
use prog.Memory.{Memory}
use prog.Routine.{Routine}
use contract.BorrowLft.{◌⊑◌, ⊑_refl}
use contract.Monad.{Fun, fact, fact_i}
use types.Logic.{Logic, sem}
use types.Kit.{Item, Goal, Seq, Soaks, rewrite, ‵, raw, ◌$◌, ◌∵◌, !, qed, move, use0, use1, drop, join, fjoin, feq_i, flt_i, done, ◌⊛◌, prop, split, fsplit, feq_l, check, regoal, suffices, given, learn, flt_l}
use denote.Array.{Array}
use denote.Builtin.{u8, RawPtr, usize}
use denote.Exit.{yes}
use denote.Param.{arg, layout, layouts}
use denote.Param.Laws.{Laws, arg_laws, of_field}
use denote.Param.Shared.{copy_shared}
use denote.RattleType.{RattleType, owns}
use denote.RawPtr.{Ptr, ptr_val, lies_at, in_a_block, block_ptr}
use denote.Steps.{nothing, heard}
use denote.Struct.Field.{u8-field}
use denote.Struct.Laws.{u8-laws, u8-copy}
use denote.Triple.Spec.{triple_of, Meets}
use denote.Triple.Statement.{Contract, Triple}
use Rattle.std.specs.contracts.sync.atomic.AtomicU64.{the_row as Word}
use Rattle.std.proofs.sync.atomic.AtomicU64.TheLaws.{the_row_laws as word_laws}
use Rattle.std_alloc.specs.Vec.Ownership.{FitsInBlock}
use Rattle.std_alloc.specs.declared.vec.lodged.Lodged.{Lodged}
use Rattle.guest_bytes.specs.Loaned.{loaned, IsRun}
use Rattle.guest_bytes.proofs.Lodging.{Lent, Good, Made, takes}
use prog.Model.{Model}
use prog.Wired.{Wired}
use prog.Wp.{WpFn, Closed, Tables}
use contract.Running.{Running, tables, tables_of}
use sound.WpLaws.{fm_of}
use types.Share.{parts}
use types.Run.{enter, returns, and_then, no_more}
use types.ByLocal.{alloc_all, pass_all, free_all, look_at, get, lands_as}
use denote.Memory.{lone, mem, shares}
use denote.ArrayMemory.{Array-apart, Array-whole, Single}
use denote.Signature.{plain, types_at}
use denote.Triple.Call.{calls_at}
use denote.Triple.Clauses.{Clauses, Ended, closing}
use denote.Triple.Entry.{alive}
use denote.Triple.Walked.{says, Stays, stay_dropped, walk_of, ends_at}
use Rattle.std.proofs.alloc.Calls.{Goes-blank}
use Rattle.guest_bytes.specs.contracts.lent.lend_run.Key.{name as run_name}
use Rattle.guest_bytes.proofs.Walking.{called, fn_of, walked_through}
use Rattle.guest_bytes.specs.contracts.lent.lend_run as F
use Rattle.guest_bytes.proofs.lent.lend_run.Met as run_met
use Rattle.guest_bytes.proofs.lent.lend_run.Symbol as lend_run

-- a value, as a call passes it
abbrev pub cell : RattleType → RattleType
cell X = arg (bare (layout X)) yes X

pub record Lendable : Type 2 where
  pub named : RattleType
  pub laws : Laws (cell named)
  pub lives : [] ⊑ named.lives
  pub lies : (n : ℕ) (p : Ptr) (xs : List named.Denot)
      → lies_at (Array named n) full_share p xs ≡ lies_at (Array (cell named) n) full_share p xs
  pub owned : (r : Vec named.Denot Lodged) (vs : List Val)
      → (Lent (cell named)).own_val r vs ≡ (Lent named).own_val r vs
  pub IsSmall : ℕ → Type 0
  pub fits : (n : ℕ) → IsSmall n → FitsInBlock (cell named) n
  pub Tells : ℕ → List named.Denot → List named.Denot → Type 0
  pub tells : (n : ℕ) (xs : List named.Denot) → length xs ≡ n → Tells n xs xs

abbrev pub bytes : Lendable
bytes = record {
  named = u8;
  laws = arg_laws (bare (layout u8)) yes u8 (of_field u8-field u8-laws refl (copy_shared u8-field u8-copy)) refl;
  lives = ⊑_refl [];
  lies = λ n p xs. refl;
  owned = λ r vs. refl;
  IsSmall = λ n. n < 2 ^ 63;
  fits = λ n small. (omega (arith, small), small);
  Tells = λ n xs ys. ys ≡ xs;
  tells = λ n xs long. refl;
}

abbrev pub words : Lendable
words = record {
  named = Word;
  laws = arg_laws (bare (layout Word)) yes Word word_laws refl;
  lives = ⊑_refl [];
  lies = λ n p xs. refl;
  owned = λ r vs. refl;
  IsSmall = λ n. 8 * n < 2 ^ 63;
  fits = λ n small. (omega (arith, small), omega (arith, small));
  Tells = λ n xs ys. length ys ≡ n;
  tells = λ n xs long. long;
}

module _ (S : Lendable) where
  abbrev pub R : RattleType
  R = cell S.named

  abbrev pub args : Args
  args = layouts (a_type ∷ []) (R, tt)

  as_passed : (p : Ptr) (n : ℕ) (xs : List R.Denot) → loaned S.named p n xs ≡ loaned R p n xs
  as_passed p zero xs = refl
  as_passed p (suc n) xs = S.lies (suc n) p xs

  module _ {M : Type 1} {𝓤 : Ura M} (𝓛 : Logic 𝓤) (at_mem : Memory → SProp 𝓤) (run : Routine → Fun 𝓤) where
    abbrev pub Runs : Contract 𝓤
    Runs = triple_of 𝓛 (F.signature R) (F.spec R 𝓛 at_mem run)

    module _ (p : Ptr) (n : ℕ) (xs : List R.Denot) where
      abbrev pub at_run : Runs.Ghost
      at_run = ((([], tt), (full_share, tt), tt, (p, (n, tt)), (ptr_val p ∷ [], (vint w64 n ∷ [], tt))), xs)

      pub run_goes : IsRun R n xs → n < 2 ^ 64 → ent 𝓤 (sem 𝓛 (loaned S.named p n xs)) (Runs.pre at_run)
      run_goes is fits =
          qed 𝓛 (‵ (loaned S.named p n xs) ∷ []) ∵ rewrite ! 0 (λ (F : Fml). ‵ F) (as_passed p n xs) refl $
          use0 𝓛 (raw (fact 𝓤 (IsRun R n xs))) (fact_i 𝓤 (IsRun R n xs) (emp 𝓤) is) $ move ! (1 ∷ 0 ∷ []) $ join ! $
          use0 𝓛 (raw (fact 𝓤 ([] ⊑ S.named.lives))) (fact_i 𝓤 ([] ⊑ S.named.lives) (emp 𝓤) S.lives) $ join ! $
          nothing ! $ flt_i ! n (2 ^ 64) fits $
          feq_i ! (List Val) (vint w64 n ∷ []) (vint w64 n ∷ []) refl $ fjoin ! $ fjoin ! $
          feq_i ! (List Val) (ptr_val p ∷ []) (ptr_val p ∷ []) refl $ fjoin ! $
          nothing ! $ use0 𝓛 (‵ (flft [] full_share)) (𝓛.lfts.lft-nil full_share) $ join ! $ join ! $ done !

  module _ {M : Type 1} {𝓤 : Ura M} {𝓛 : Logic 𝓤} {K : Type 0} {Γ : List (Item 𝓤)} {G : Goal 𝓤 𝓛.H} where
    -- what `lend_run` leaves is a `Vec` of the values
    pub run_lends : K → Soaks G → (at_mem : Memory → SProp 𝓤) (run : Routine → Fun 𝓤)
        (p : Ptr) (n : ℕ) (xs : List R.Denot) (v : Val)
        → ((r : Vec R.Denot Lodged) → r.items ≡ xs → Good R v
        → Seq K 𝓛 (‵ ((Lent S.named).own_val r (v ∷ [])) ∷ Γ) G)
        → Seq K 𝓛 (raw ((Runs 𝓛 at_mem run).post (at_run 𝓛 at_mem run p n xs) v) ∷ Γ) G
    run_lends t z at_mem run p n xs v go =
        let Tokens : SProp 𝓤 = sep 𝓤 (sem 𝓛 (flft [] full_share)) (sem 𝓛 ftrue) in
        let Ws : Type 0 = Unit {0} × (Unit {0} × Unit {0}) in
        let lasts : Fml = fsep ftrue (fsep ftrue ftrue) in
        use1 𝓛 (Made R 𝓛 Tokens Ws lasts (λ r. r.items ≡ xs) v) (id⊢ 𝓤 _) $
        takes R S.laws t z Tokens Ws lasts (λ r. r.items ≡ xs) v (λ r is fine.
        move t (1 ∷ []) $ drop t $ rewrite t 0 (λ (F : Fml). ‵ F) (S.owned r (v ∷ [])) refl $ go r is fine)

module _ (S : Lendable) where
  abbrev code : Fn
  code = fn_of 2
      (local (lone (Lent (R S)).mir) value_local ∷ local ty_ptr value_local ∷ local (ty_int w64) value_local ∷ [])
      (seq (call (run_name (args S)) (copy (place 1 []) ∷ copy (place 2 []) ∷ []) (place 0 [])) return)

  abbrev ended : Ended
  ended = record {
    signature = record {
      lifetimes = 0;
      outlives = [];
      params = plain (λ _. RawPtr) ∷ plain (λ _. usize) ∷ [];
      result = plain (λ _. Lent S.named);
    };
    kept = (yes, (yes, tt));
  }

  abbrev stayed : Stays ended.signature.params ended.kept
  stayed = (stay_dropped (plain (λ _. RawPtr)) yes, (stay_dropped (plain (λ _. usize)) yes, tt))

  module _ {M : Type 1} {𝓤 : Ura M} (𝓛 : Logic 𝓤) where
    abbrev clauses : Clauses 𝓤 ended
    clauses = λ κs args. record {
      ghost = List S.named.Denot;
      requires = λ xs. sep 𝓤 (sem 𝓛 (lies_at (Array S.named args.1.0) full_share args.0 xs))
          (fact 𝓤 (S.IsSmall args.1.0));
      ensures = λ xs res _. fact 𝓤 (S.Tells args.1.0 xs res.items);
    }

    module _ (n b o : ℕ) (xs : List (R S).Denot) where
      abbrev Run : Fml
      Run = lies_at (Array S.named n) full_share (block_ptr b o) xs

      -- owned values are as many as were said
      counted : ent 𝓤 (sem 𝓛 Run) (guard 𝓤 (length xs ≡ n) (sem 𝓛 Run))
      counted =
          let apart : Fml = fsep (feq ℕ (length xs) n) (parts (mem (R S)) (shares (R S)) full_share xs b o) in
          let passed : Fml = lies_at (Array (R S) n) full_share (block_ptr b o) xs in
          qed 𝓛 (‵ Run ∷ []) ∵ rewrite ! 0 (λ (F : Fml). ‵ F) (S.lies n (block_ptr b o) xs) refl $
          use1 𝓛 (‵ apart) (Array-apart 𝓛 (R S) full_share (subst Single (sym S.laws.one) tt) n xs b o) $
          fsplit ! $ feq_l ! (λ e. check ! e $ feq_i ! ℕ (length xs) n e $ fjoin ! $
          use1 𝓛 (‵ passed) (Array-whole 𝓛 (R S) full_share n xs b o) $
          rewrite ! 0 (λ (F : Fml). ‵ F) (sym (S.lies n (block_ptr b o) xs)) refl $ done !)

    -- a loan may own them
    loans : (n : ℕ) (p : Ptr) (xs : List (R S).Denot)
        → ent 𝓤 (sem 𝓛 (lies_at (Array S.named n) full_share p xs)) (sem 𝓛 (loaned S.named p n xs))
    loans zero p xs = qed 𝓛 (‵ (lies_at (Array S.named 0) full_share p xs) ∷ []) ∵ drop ! $ nothing ! $ done !
    loans (suc k) p xs = id⊢ 𝓤 _

    module _ (at_mem : Memory → SProp 𝓤) (run : Routine → Fun 𝓤) (𝓣 : Tables 𝓤 𝓛.H)
        (called : Triple 𝓤 (𝓣.C (run_name (args S))) (Runs S 𝓛 at_mem run)) (z : (walk_of 𝓛 ended stayed clauses).Ghost) where
      open 𝓛 use {H}

      abbrev Post : Val → SProp 𝓤
      Post = (walk_of 𝓛 ended stayed clauses).post z

      walk : ent 𝓤 ((walk_of 𝓛 ended stayed clauses).pre z)
          (WpFn 𝓤 H 𝓣.C 𝓣.Λ code (z.0.4.0 ++ (z.0.4.1.0 ++ [])) Post)
      walk =
          let vss = z.0.4 in
          let p = z.0.3.0 in
          let n = z.0.3.1.0 in
          let xs = z.1 in
          qed 𝓛 ((raw (alive 𝓛 ended.signature z.0.0 z.0.1)
          ⊛ ‵ (owns (types_at ended.signature.params z.0.0) z.0.3 vss))
          ∷ (‵ (lies_at (Array S.named n) full_share p xs) ⊛ raw (fact 𝓤 (S.IsSmall n))) ∷ []) ∵
          split ! $ move ! (1 ∷ []) $ fsplit ! $ feq_l ! (λ is₀.
          fsplit ! $ fsplit ! $ feq_l ! (λ is₁. flt_l ! (λ fits. drop ! $
          -- [the tokens; the values]
          move ! (1 ∷ []) $ split ! $ move ! (1 ∷ []) $ heard ! (S.IsSmall n) (λ small.
          in_a_block ! p (λ r. lies_at (Array S.named n) full_share r xs) (id⊢ 𝓤 (never 𝓤)) (λ b o at.
          let y = at_run S 𝓛 at_mem run (block_ptr b o) n xs in
          regoal ! (λ (us : List Val). prop (WpFn 𝓤 H 𝓣.C 𝓣.Λ code (us ++ (vss.1.0 ++ [])) Post))
          (is₀ ∙ ap (λ r. ptr_val r ∷ []) at) refl $
          regoal ! (λ (us : List Val). prop (WpFn 𝓤 H 𝓣.C 𝓣.Λ code ((vptr b o ∷ []) ++ (us ++ [])) Post)) is₁ refl $
          enter ! 𝓣.C 𝓣.Λ code (vptr b o ∷ vint w64 n ∷ []) Post $
          alloc_all ! (λ l. pass_all ! refl ((tt, tt), ((tt, record { fits = fits }), tt)) $
          use1 𝓛 (given (length xs ≡ n) (‵ (lies_at (Array S.named n) full_share (block_ptr b o) xs)))
          (counted n b o xs) $ learn ! (λ long.
          use1 𝓛 (‵ (loaned S.named (block_ptr b o) n xs)) (loans n (block_ptr b o) xs) $
          use1 𝓛 (raw ((Runs S 𝓛 at_mem run).pre y))
          (run_goes S 𝓛 at_mem run (block_ptr b o) n xs (long, S.fits n small) fits) $
          calls_at ! (fm_of 𝓤 H 𝓛.laws 𝓣) (Runs S 𝓛 at_mem run) called y
          (and_then ! (get ! refl) (and_then ! (get ! refl) (no_more !))) (λ v.
          run_lends S ! tt at_mem run (block_ptr b o) n xs v (λ r is fine. lands_as ! refl refl fine $
          returns ! (look_at ! 0 refl) $ free_all ! refl $
          suffices ! _ (ends_at 𝓛 ended stayed clauses z v r (tt, (tt, tt)) (tt, (tt, tt))) $
          says ! (subst (S.Tells n xs) (sym is) (S.tells n xs long)) $
          nothing ! $ nothing ! $ fjoin ! $ nothing ! $ fjoin ! $ move ! (2 ∷ 0 ∷ 1 ∷ []) $ done !)))))))))

  pub lends : {M : Type 1} (𝓤 : Ura M) (𝓛 : Logic 𝓤) (𝓜 : Model 𝓤 𝓛.H) (𝓡 : Running 𝓤 𝓛.H 𝓜) (name : Callee)
      → Closed 𝓤 𝓛.H (tables 𝓤 𝓛.H 𝓜 𝓡 𝓡.env).C (tables 𝓤 𝓛.H 𝓜 𝓡 𝓡.env).Λ name code
      → Wired 𝓡.env lend_run.code
      → Meets 𝓛 ended.signature (𝓡.run (𝓡.env name)) (closing 𝓛 ended (clauses 𝓛))
  unfolding tables_of
  lends 𝓤 𝓛 𝓜 𝓡 name closed wired =
      walked_through 𝓤 𝓛 𝓜 𝓡 name code ended stayed (clauses 𝓛) closed (
        Goes-blank 𝓛 0 (plain (λ _. RawPtr)) yes (λ κs x f. tt),
        (Goes-blank 𝓛 0 (plain (λ _. usize)) yes (λ κs x f. tt), tt),
      )
      (walk 𝓛 𝓜.mem 𝓡.returns (called 𝓤 𝓛 𝓜 𝓡) (run_met.met 𝓤 𝓛 𝓜 𝓡 wired (R S) S.laws))
