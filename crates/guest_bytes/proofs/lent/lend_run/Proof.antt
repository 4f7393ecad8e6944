-- `lend_run` hands the values to `lodge`, if there are any. Assumes `Logic`.
use Rattle.std.proofs.Common.{◌≡◌, ℕ, zero, suc, ◌+◌, ◌-◌, ◌*◌, ◌^◌, ◌<◌, ◌≤◌, List, [], ◌∷◌, length, true, refl, sym, arith, Vec, ◌++◌, ◌∙◌}
use Rattle.std.proofs.lemmas.Bool.{ne_eqb, not_from_false}
use seplogic.Ra.Ura.{Ura}
use lib.Dec.{T, lit<, eqb→eq}
use mir.Syntax.{w64, ty_array, Args, Body, Fn, a_type, call, copy, place, return, seq, ty_ptr}
use mir.Val.{Val, vint, vptr, has_ty, WT}
use base.Fraction.{full_share}
use base.Logic.{SProp, ent, emp, sep, id⊢, never_e}
use base.Fml.{Fml, Lft, Share, ftrue, flft, froom, ffalse, fsep}
use prog.Memory.{Memory}
use prog.Routine.{Routine}
use contract.Monad.{Fun, fact, fact_i}
use contract.BorrowLft.{◌⊑◌}
use types.Logic.{Logic, sem}
use types.Kit.{‵, raw, ◌⊛◌, ◌$◌, ◌∵◌, !, qed, move, keep, use0, drop, split, join, fjoin, fjoin3, feq_i, flt_i, rewrite, done, prop, at_ret, given, learn, by, use1, fsplit, feq_l, regoal, suffices, flt_l}
use denote.RattleType.{RattleType, owns}
use denote.Array.{Array}
use denote.Param.{layouts}
use denote.Param.Laws.{Laws}
use denote.RawPtr.{block_ptr, lies_at, Ptr, ptr_val, null_ptr}
use denote.Memory.{lone}
use mir.Raw.{raw as raw_ty}
use denote.Steps.{nothing, heard}
use denote.Triple.Spec.{triple_of}
use denote.Triple.Statement.{Contract, Triple}
use Rattle.std.proofs.alloc.Calls.{Goes-blank}
use Rattle.std.specs.Allocator.{block_with_items}
use Rattle.std.specs.Mem.{type_size}
use Rattle.std_alloc.specs.Vec.Ownership.{lodged, owns_if, has_block}
use Rattle.std_alloc.specs.declared.vec.lodged.Lodged.{Lodged}
use mir.MapTy.{inst_fn}
use prog.Wp.{WpFn, Tables}
use contract.Running.{tables_of}
use sound.WpLaws.{fm_of}
use types.Run.{enter, returns, returns_within, and_then, no_more, bin, lit, first, branches, skips, exec}
use types.ByLocal.{alloc_all, pass_all, free_all, look_at, get, sets, lands_as, env}
use denote.Exit.{yes}
use denote.Builtin.{RawPtr, usize}
use denote.Signature.{plain, types_at}
use denote.Triple.Call.{calls_at}
use denote.Triple.Clauses.{Clauses}
use denote.Triple.Walked.{says, Stays, stay_dropped, walk_of, ends_at}
use Rattle.std_alloc.specs.contracts.vec.lodge.Key.{name as lodge_name}
use Rattle.guest_bytes.specs.Loaned.{loaned, IsRun}
use Rattle.guest_bytes.proofs.Walking.{called, walked_through}
use Rattle.guest_bytes.specs.contracts.lent.none.Key.{name as none_name}
use Rattle.guest_bytes.specs.contracts.lent.lend_run.Key.{name as #self}
use Rattle.std_alloc.specs.contracts.vec.lodge as LG
use Rattle.std_alloc.proofs.vec.lodge.Met as lodge_met
use Rattle.guest_bytes.specs.contracts.lent.none as N
use Rattle.guest_bytes.proofs.lent.none.Met as none_met
use Rattle.guest_bytes.specs.contracts.lent.lend_run as F
use Rattle.guest_bytes.proofs.lent.lend_run.Statement as stated
use Rattle.guest_bytes.proofs.lent.lend_run.Code as code
use Rattle.guest_bytes.proofs.Lodging.{Lent, Made, takes}

no_items : {X : Type 0} (xs : List X) → length xs ≡ 0 → [] ≡ xs
no_items [] e = refl
no_items (x ∷ xs) e = absurd (omega (arith, e))

has : (c : ℕ) → 0 < c → has_block c ≡ true
has c h = not_from_false _ (ne_eqb c 0 (λ e. omega arith))

module _ (R : RattleType) (laws : Laws R) {M : Type 1} {𝓤 : Ura M} (𝓛 : Logic 𝓤) (b o : ℕ) where
  abbrev Run : ℕ → List R.Denot → Fml
  Run n xs = lies_at (Array R n) full_share (block_ptr b o) xs

  -- owned values are what a `Vec` lodges that is full
  lodges : (n : ℕ) (xs : List R.Denot) → n * type_size R < 2 ^ 63
      → ent 𝓤 (sem 𝓛 (Run n xs)) (sem 𝓛 (lodged R (block_ptr b o) n n xs))
  lodges zero xs small =
      qed 𝓛 (‵ (Run 0 xs) ∷ []) ∵
      keep ! [] $ nothing ! $ flt_i ! (0 * type_size R) (2 ^ 63) small $ fjoin ! $ done !
  lodges (suc k) xs small =
      let n : ℕ = suc k in
      let none_spare : 0 ≡ n - n = omega arith in
      let end : ℕ = o + n * type_size R in
      qed 𝓛 (‵ (Run n xs) ∷ []) ∵
      nothing ! $
      use0 𝓛 (‵ (froom (raw_ty (ty_array (lone R.mir) 0)) b end)) (𝓛.laws.room_nil (raw_ty (lone R.mir)) b end) $
      rewrite ! 0 (λ j. ‵ (froom (raw_ty (ty_array (lone R.mir) j)) b end)) none_spare refl $
      move ! (2 ∷ 0 ∷ 1 ∷ []) $ fjoin3 ! $
      rewrite ! 0 (λ y. ‵ (owns_if y (block_with_items (λ _ _. ftrue) R (block_ptr b o) n n xs)))
      (sym (has n (omega arith))) refl $
      flt_i ! (n * type_size R) (2 ^ 63) small $ fjoin ! $ done !

module _ (R : RattleType) (laws : Laws R) where
  abbrev args : Args
  args = layouts (a_type ∷ []) (R, tt)

  abbrev function : Fn
  function = inst_fn args code.function

  -- behind the test
  abbrev rest : Body
  rest = seq (call (lodge_name args) (copy (place 1 []) ∷ copy (place 2 []) ∷ copy (place 2 []) ∷ []) (place 0 [])) return

  abbrev stayed : Stays (F.ended R).signature.params (F.ended R).kept
  stayed = (stay_dropped (plain (λ _. RawPtr)) yes, (stay_dropped (plain (λ _. usize)) yes, tt))

  module _ {M : Type 1} {𝓤 : Ura M} (𝓛 : Logic 𝓤) (at_mem : Memory → SProp 𝓤) (run : Routine → Fun 𝓤) where
    abbrev held : Clauses 𝓤 (F.ended R)
    held = F.clauses R 𝓛 at_mem run

    abbrev Lodges : Contract 𝓤
    Lodges = triple_of 𝓛 (LG.signature R) (LG.spec R 𝓛 at_mem run)

    -- a lifetime is alive
    abbrev Alive : Lft → Share → SProp 𝓤
    Alive κ q = sep 𝓤 (sem 𝓛 (flft κ q)) (sem 𝓛 ftrue)

    module _ (κ : Lft) (q : Share) (b o n : ℕ) (xs : List R.Denot) where
      abbrev at_lodge : Lodges.Ghost
      at_lodge = (
        (
          (κ, tt),
          (q, tt),
          tt,
          (block_ptr b o, (n, (n, tt))),
          (vptr b o ∷ [], (vint w64 n ∷ [], (vint w64 n ∷ [], tt))),
        ),
        xs,
      )

      lodge_goes : length xs ≡ n → n < 2 ^ 63 → κ ⊑ R.lives
          → ent 𝓤 (sep 𝓤 (sem 𝓛 (lodged R (block_ptr b o) n n xs)) (Alive κ q)) (Lodges.pre at_lodge)
      lodge_goes long small lives =
          let Asked : Type 0 = (n ≡ length xs) × (n ≤ n) × (n < 2 ^ 63) in
          qed 𝓛 (‵ (lodged R (block_ptr b o) n n xs) ∷ raw (Alive κ q) ∷ []) ∵
          use0 𝓛 (raw (fact 𝓤 Asked)) (fact_i 𝓤 Asked (emp 𝓤) (sym long, omega arith, small)) $ join ! $
          use0 𝓛 (raw (fact 𝓤 (κ ⊑ R.lives))) (fact_i 𝓤 (κ ⊑ R.lives) (emp 𝓤) lives) $ join ! $
          nothing ! $ flt_i ! n (2 ^ 64) (omega arith) $
          feq_i ! (List Val) (vint w64 n ∷ []) (vint w64 n ∷ []) refl $ fjoin ! $ fjoin ! $
          flt_i ! n (2 ^ 64) (omega arith) $
          feq_i ! (List Val) (vint w64 n ∷ []) (vint w64 n ∷ []) refl $ fjoin ! $ fjoin ! $
          feq_i ! (List Val) (vptr b o ∷ []) (vptr b o ∷ []) refl $ fjoin ! $
          move ! (2 ∷ []) $ join ! $ join ! $ done !

    abbrev Nones : Contract 𝓤
    Nones = triple_of 𝓛 (N.signature R) (N.spec R 𝓛 at_mem run)

    abbrev at_none : Lft → Share → Nones.Ghost
    at_none κ q = (((κ, tt), (q, tt), tt, tt, tt), tt)

    none_goes : (κ : Lft) (q : Share) → κ ⊑ R.lives → ent 𝓤 (Alive κ q) (Nones.pre (at_none κ q))
    none_goes κ q lives =
        qed 𝓛 (raw (Alive κ q) ∷ []) ∵
        use0 𝓛 (raw (emp 𝓤)) (id⊢ 𝓤 (emp 𝓤)) $
        use0 𝓛 (raw (fact 𝓤 (κ ⊑ R.lives))) (fact_i 𝓤 (κ ⊑ R.lives) (emp 𝓤) lives) $ join ! $
        nothing ! $ move ! (2 ∷ []) $ join ! $ join ! $ done !

    module _ (𝓣 : Tables 𝓤 𝓛.H) (none_called : Triple 𝓤 (𝓣.C (none_name args)) Nones)
        (lodge_called : Triple 𝓤 (𝓣.C (lodge_name args)) Lodges)
        (z : (walk_of 𝓛 (F.ended R) stayed held).Ghost) where
      open 𝓛 use {H}

      abbrev Post : Val → SProp 𝓤
      Post = (walk_of 𝓛 (F.ended R) stayed held).post z

      abbrev κ : Lft
      κ = z.0.0.0

      abbrev q : Share
      q = z.0.1.0

      abbrev xs : List R.Denot
      xs = z.1

      abbrev Tokens : SProp 𝓤
      Tokens = Alive κ q

      ends : (v : Val) (r : Vec R.Denot Lodged) → r.items ≡ xs
          → ent 𝓤 (sep 𝓤 (sem 𝓛 ((Lent R).own_val r (v ∷ []))) Tokens) (Post v)
      ends v r is =
          qed 𝓛 (‵ ((Lent R).own_val r (v ∷ [])) ∷ raw Tokens ∷ []) ∵
          suffices ! _ (ends_at 𝓛 (F.ended R) stayed held z v r (tt, (tt, tt)) (tt, (tt, tt))) $
          says ! is $ nothing ! $ nothing ! $ fjoin ! $ nothing ! $ fjoin ! $ join ! $
          move ! (1 ∷ []) $ join ! $ done !

      -- of no values, wherever they lie
      none_at : (w : Val) → T (has_ty ty_ptr w) → WT w → length xs ≡ 0 → κ ⊑ R.lives
          → ent 𝓤 Tokens (WpFn 𝓤 H 𝓣.C 𝓣.Λ function (w ∷ vint w64 0 ∷ []) Post)
      none_at w typed wt long lives =
          qed 𝓛 (raw Tokens ∷ []) ∵
          enter ! 𝓣.C 𝓣.Λ function (w ∷ vint w64 0 ∷ []) Post $ alloc_all !
          (λ l. pass_all ! refl ((typed, wt), ((tt, record { fits = lit< tt }), tt)) $
          sets ! (bin ! (get ! refl) (lit ! tt) tt) refl (tt, tt) $
          first ! $ branches ! (get ! refl)
          (λ t. use1 𝓛 (raw (Nones.pre (at_none κ q))) (none_goes κ q lives) $
          calls_at ! (fm_of 𝓤 H 𝓛.laws 𝓣) Nones none_called (at_none κ q) (no_more !) (λ v.
          use1 𝓛 (Made R 𝓛 Tokens (Unit {0}) ftrue (λ r. r.items ≡ []) v) (id⊢ 𝓤 _) $
          takes R laws ! tt Tokens (Unit {0}) ftrue (λ r. r.items ≡ []) v (λ r same fine.
          lands_as ! refl refl fine $ returns_within ! Post refl (look_at ! 0 refl) $ free_all ! refl $
          by ! (ends v r (same ∙ no_items xs long)))))
          (λ t. absurd t))

      -- of some
      some_at : (b o k : ℕ) → let n = suc k in IsRun R n xs → κ ⊑ R.lives
          → ent 𝓤 (sep 𝓤 (sem 𝓛 (loaned R (block_ptr b o) n xs)) Tokens)
          (WpFn 𝓤 H 𝓣.C 𝓣.Λ function (vptr b o ∷ vint w64 n ∷ []) Post)
      some_at b o k is lives =
          let n = suc k in
          let y = at_lodge κ q b o n xs in
          let fits : n < 2 ^ 64 = omega (arith, is.1.1) in
          let Said : Vec R.Denot Lodged → Type 0 =
          λ r. (r.items ≡ xs) × (r.len ≡ n) × (r.cap ≡ n) × (r.ptr ≡ block_ptr b o) in
          let Ws : Type 0 = Unit {0} × (Unit {0} × (Unit {0} × Unit {0})) in
          let lasts : Fml = fsep ftrue (fsep ftrue (fsep ftrue ftrue)) in
          qed 𝓛 (‵ (loaned R (block_ptr b o) n xs) ∷ raw Tokens ∷ []) ∵
          use1 𝓛 (‵ (lodged R (block_ptr b o) n n xs)) (lodges R laws 𝓛 b o n xs is.1.0) $
          join ! $ use1 𝓛 (raw (Lodges.pre y))
          (lodge_goes κ q b o n xs is.0 is.1.1 lives) $
          enter ! 𝓣.C 𝓣.Λ function (vptr b o ∷ vint w64 n ∷ []) Post $ alloc_all !
          (λ l. pass_all ! refl ((tt, tt), ((tt, record { fits = fits }), tt)) $
          sets ! (bin ! (get ! refl) (lit ! tt) tt) refl (tt, tt) $
          first ! $ branches ! (get ! refl) (λ t. absurd (omega (arith, eqb→eq n 0 t)))
          (λ t. skips ! $ exec ! 𝓣.C 𝓣.Λ (env function.locals l) rest (at_ret (env function.locals l) Post) $
          calls_at ! (fm_of 𝓤 H 𝓛.laws 𝓣) Lodges lodge_called y
          (and_then ! (get ! refl) (and_then ! (get ! refl) (and_then ! (get ! refl) (no_more !)))) (λ v.
          use1 𝓛 (Made R 𝓛 Tokens Ws lasts Said v) (id⊢ 𝓤 _) $
          takes R laws ! tt Tokens Ws lasts Said v (λ r said fine.
          lands_as ! refl refl fine $ returns ! (look_at ! 0 refl) $ free_all ! refl $
          by ! (ends v r said.0)))))

      at : (p : Ptr) (n : ℕ) → IsRun R n xs → κ ⊑ R.lives → ent 𝓤 (sep 𝓤 (sem 𝓛 (loaned R p n xs)) Tokens)
          (WpFn 𝓤 H 𝓣.C 𝓣.Λ function (ptr_val p ∷ vint w64 n ∷ []) Post)
      at null_ptr zero is lives =
          qed 𝓛 (‵ ftrue ∷ raw Tokens ∷ []) ∵ drop ! $
          by ! (none_at (ptr_val null_ptr) tt (record { fits = lit< tt }) is.0 lives)
      at (block_ptr b o) zero is lives =
          qed 𝓛 (‵ ftrue ∷ raw Tokens ∷ []) ∵ drop ! $ by ! (none_at (vptr b o) tt tt is.0 lives)
      at null_ptr (suc k) is lives =
          qed 𝓛 (‵ ffalse ∷ raw Tokens ∷ []) ∵ use1 𝓛 (given ⊥ (‵ ftrue)) (never_e 𝓤 _) $ learn ! (λ f. absurd f)
      at (block_ptr b o) (suc k) is lives = some_at b o k is lives

      walk : ent 𝓤 ((walk_of 𝓛 (F.ended R) stayed held).pre z)
          (WpFn 𝓤 H 𝓣.C 𝓣.Λ function (z.0.4.0 ++ (z.0.4.1.0 ++ [])) Post)
      walk =
          let vss = z.0.4 in
          let p = z.0.3.0 in
          let n = z.0.3.1.0 in
          qed 𝓛 ((raw Tokens ⊛ ‵ (owns (types_at (F.ended R).signature.params z.0.0) z.0.3 vss))
          ∷ (raw (fact 𝓤 (κ ⊑ R.lives)) ⊛ (‵ (loaned R p n xs) ⊛ raw (fact 𝓤 (IsRun R n xs)))) ∷ []) ∵
          split ! $ move ! (1 ∷ []) $ fsplit ! $ feq_l ! (λ is₀.
          fsplit ! $ fsplit ! $ feq_l ! (λ is₁. flt_l ! (λ fits. drop ! $
          -- [the tokens; what is given]
          move ! (1 ∷ []) $ split ! $ heard ! (κ ⊑ R.lives) (λ lives. split ! $ move ! (1 ∷ []) $
          heard ! (IsRun R n xs) (λ is.
          regoal ! (λ (us : List Val). prop (WpFn 𝓤 H 𝓣.C 𝓣.Λ function (us ++ (vss.1.0 ++ [])) Post)) is₀ refl $
          regoal ! (λ (us : List Val). prop (WpFn 𝓤 H 𝓣.C 𝓣.Λ function (ptr_val p ∷ (us ++ [])) Post)) is₁ refl $
          by ! (at p n is lives))))))

pub lend_run_spec : {M : Type 1} → stated.statement M
unfolding tables_of
lend_run_spec 𝓤 𝓛 𝓜 𝓡 wired R laws =
    let 𝓣 : Tables 𝓤 𝓛.H = called 𝓤 𝓛 𝓜 𝓡 in
    walked_through 𝓤 𝓛 𝓜 𝓡 (#self (args R laws)) (function R laws) (F.ended R) (stayed R laws)
    (held R laws 𝓛 𝓜.mem 𝓡.returns) (code.unfolded 𝓤 𝓛.H 𝓜 𝓡 wired (R, tt)) (
      Goes-blank 𝓛 1 (plain (λ _. RawPtr)) yes (λ κs x f. tt),
      (Goes-blank 𝓛 1 (plain (λ _. usize)) yes (λ κs x f. tt), tt),
    )
    (walk R laws 𝓛 𝓜.mem 𝓡.returns 𝓣
    (none_met.met 𝓤 𝓛 𝓜 𝓡 (code.calls-guest_bytes::lent::none 𝓡.env wired) R laws)
    (lodge_met.met 𝓤 𝓛 𝓜 𝓡 (code.calls-std_alloc::vec::lodge 𝓡.env wired) R laws))
