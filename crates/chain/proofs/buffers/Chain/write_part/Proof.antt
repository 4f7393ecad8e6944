-- `write_part` hands its arguments to `lend`, and hands on the part that `lend` lends, with what `lend` says
-- of it.
use Rattle.std.proofs.Common.{ℕ, List, [], ◌∷◌, refl, w64, MutBor}
use Rattle.std.proofs.raw_atomic.Walks.{proved}
use mir.Syntax.{Args, Fn, a_type, dcons, dnil, named}
use mir.MapTy.{inst_fn}
use base.Logic.{id⊢}
use base.Fml.{ftrue, flft}
use types.Kit.{‵, raw, ◌⊛◌, some, later, ◌$◌, ◌∵◌, !, qed, move, drop, use1, split, split3, join, group, fsplit, fjoin, pick, await, suffices, done}
use types.Run.{enter, addr, stop, no_more, and_then, returns}
use types.ByLocal.{alloc_all, pass_all, free_all, look_at, get, through, sets, lands_as}
use contract.Lifetimes.{Lfts}
use contract.Running.{tables}
use denote.Builtin.{RefOf, RefMutOf, u8, u64}
use denote.Exit.{yes, no}
use denote.Laws.{Is, shows}
use denote.Param.{bounded, param}
use denote.Plain.{uint_vals, uint_Tells}
use denote.RattleType.{owns}
use denote.Ref.{mut_vals, shr_vals}
use denote.Signature.{plain, types_at}
use denote.Slice.{MutSlice, mut_slice_Lawful}
use denote.Steps.{nothing, peeks}
use denote.Triple.Call.{calls_at}
use denote.Triple.Clauses.{Lasts, lasts, at_exit}
use denote.Triple.Entry.{Args as Passed}
use denote.Triple.Spec.{triple_of}
use denote.Triple.Table.{framed}
use denote.Triple.Walked.{Stays, stay_dropped, Goes-dropped, walk_of, ends_at}
use Rattle.guest_memory.specs.contracts.memory.GuestMemory as GuestMemory
use Rattle.chain.specs.contracts.buffers.Chain as Chain
use Rattle.chain.specs.contracts.buffers.Chain.lend as lend
use Rattle.chain.proofs.buffers.Chain.lend.Met as lends
use Rattle.chain.specs.contracts.buffers.Chain.write_part as part
use Rattle.chain.specs.contracts.buffers.Chain.write_part.Key.{name as #self}
use Rattle.chain.proofs.buffers.Chain.write_part.Statement.{statement}
use Rattle.chain.proofs.buffers.Chain.write_part.Code as code

pub write_part_spec : {M : Type 1} → statement M
write_part_spec 𝓤 𝓛 𝓜 𝓡 wired Y L g d dd met md =
    let 𝓣 = tables 𝓤 𝓛.H 𝓜 𝓡 𝓡.env in
    let args : Args = bounded (a_type ∷ []) (Y, tt) (dcons d (dcons dd dnil)) in
    let fn : Fn = inst_fn args code.function in
    let En = part.ended Y g d dd in
    let c = part.clauses Y g d dd 𝓛 𝓜.mem 𝓡.returns in
    let self = RefOf (0 ∷ []) tt (plain (λ _. Chain.the_row)) (λ _. tt) in
    let mem = RefMutOf (1 ∷ []) tt (plain (λ _. GuestMemory.the_row (param 0 Y) g)) (λ _. tt) in
    let number = plain (λ _. u64) in
    let stays : Stays En.signature.params En.kept = (
      stay_dropped self yes,
      (
        stay_dropped mem no,
        (stay_dropped number yes, (stay_dropped number yes, tt)),
      ),
    ) in
    let Part = λ (κs : Lfts 3). MutSlice (named 1) κs.1.0 u8 in
    let called = lend.ended Y g d dd in
    let G = triple_of 𝓛 (lend.signature Y g d dd) (lend.spec Y g d dd 𝓛 𝓜.mem 𝓡.returns) in
    proved 𝓛 En stays c 𝓜 𝓡 (
      Goes-dropped 𝓛 3 self yes (λ κs x f. refl),
      (
        Goes-dropped 𝓛 3 mem no (λ κs x f. refl),
        (Goes-dropped 𝓛 3 number yes (λ κs x f. refl), (Goes-dropped 𝓛 3 number yes (λ κs x f. refl), tt)),
      ),
    )
    (#self args) fn (code.unfolded 𝓤 𝓛.H 𝓜 𝓡 wired (Y, tt) d dd)
    (λ κs. (shr_vals, (mut_vals, (uint_vals w64, (uint_vals w64, tt)))))
    (λ κs. ((λ x vs is. is.0), ((λ x vs is. is.0), (uint_Tells w64, (uint_Tells w64, tt)))))
    (λ κs qs bounds a gh are.
    let y : (walk_of 𝓛 En stays c).Ghost = (
      (
        κs,
        qs,
        bounds,
        a,
        (
          shr_vals a.0,
          (mut_vals a.1.0, (uint_vals w64 a.1.1.0, (uint_vals w64 a.1.1.1.0, tt))),
        ),
      ),
      gh,
    ) in
    let at : Lfts 3 = (κs.1.0, (κs.0, (κs.1.1.0, tt))) in
    let passed : Passed called.signature at = (a.1.0, (a.0, (a.1.1.0, (a.1.1.1.0, tt)))) in
    let z : G.Ghost = (
      (
        at,
        (qs.1.0, (qs.0, (qs.1.1.0, tt))),
        bounds,
        passed,
        (mut_vals a.1.0, (shr_vals a.0, (uint_vals w64 a.1.1.0, (uint_vals w64 a.1.1.1.0, tt)))),
      ),
      gh,
    ) in
    qed 𝓛 (((‵ (flft κs.0 qs.0) ⊛ ‵ (flft κs.1.0 qs.1.0) ⊛ ‵ (flft κs.1.1.0 qs.1.1.0) ⊛ ‵ ftrue) ⊛ ‵
    (owns (types_at En.signature.params κs) a y.0.4)) ∷ raw ((c κs a).requires gh) ∷ []) ∵
    split ! $ split3 ! $ move ! (3 ∷ []) $ fsplit ! $ move ! (1 ∷ []) $ fsplit ! $
    -- [mem; the numbers; self; self's token; mem's; A's; the requires]
    move ! (2 ∷ 1 ∷ []) $ fjoin ! $ move ! (1 ∷ []) $ fjoin ! $
    -- [mem with the others; self's token; mem's; A's; the requires]
    move ! (1 ∷ 3 ∷ []) $ join ! $ move ! (2 ∷ 0 ∷ []) $ join ! $ move ! (0 ∷ 1 ∷ []) $ join ! $ join ! $
    use1 𝓛 (raw (G.pre z)) (id⊢ 𝓤 _) $
    enter ! _ _ _ _ _ $ alloc_all !
    (λ l. pass_all ! refl (
      (tt, tt),
      ((tt, tt), ((tt, record { fits = are.1.1.0.1 }), ((tt, record { fits = are.1.1.1.0.1 }), tt))),
    ) $
    sets ! (addr ! (through ! refl (stop !))) refl (tt, tt) $
    calls_at ! (framed 𝓤 𝓛.H 𝓜 𝓣) G (lends.met 𝓤 𝓛 𝓜 𝓡 (code.calls-chain::buffers::Chain::lend 𝓡.env wired)
    Y L g d dd met md) z
    (and_then ! (get ! refl) (and_then ! (get ! refl)
    (and_then ! (get ! refl) (and_then ! (get ! refl) (no_more !))))) (λ v.
    use1 𝓛 (later (some (λ (r : MutBor (List ℕ)).
    ((‵ (flft κs.1.0 qs.1.0) ⊛ ‵ (flft κs.0 qs.0) ⊛ ‵ (flft κs.1.1.0 qs.1.1.0) ⊛ ‵ ftrue) ⊛ ‵
    ((Part κs).own_val r (v ∷ [])))
    ⊛ some (λ (ws : Lasts called at passed). ‵ (lasts called at passed ws) ⊛ raw
    ((lend.clauses Y g d dd 𝓛 𝓜.mem 𝓡.returns at passed).ensures gh r (at_exit called at passed ws))))))
    (id⊢ 𝓤 _) $
    await ! tt $ pick ! (λ r. split ! $ move ! (1 ∷ []) $ pick !
    (λ ws. split ! $ drop ! $ move ! (1 ∷ []) $ split ! $ move ! (1 ∷ []) $
    peeks ! (Part κs) (Is (Part κs)) (shows 𝓛 (Part κs)) r (v ∷ []) (λ is.
    lands_as ! refl refl ((mut_slice_Lawful 𝓛 (named 1) κs.1.0 u8).typed r _ is).0 $
    returns ! (look_at ! 0 refl) $ free_all ! refl $
    -- [the part; the tokens; what `lend` says]
    suffices ! _ (ends_at 𝓛 En stays c y v r (tt, (tt, (tt, (tt, tt)))) (tt, (tt, (tt, (tt, tt))))) $
    nothing ! $ nothing ! $ fjoin ! $ nothing ! $ fjoin ! $ nothing ! $ fjoin ! $ nothing !
    $ fjoin ! $ join ! $
    -- [the part, with nothing of the parameters; the tokens; what `lend` says]
    move ! (1 ∷ []) $ split3 ! $ move ! (1 ∷ 0 ∷ 2 ∷ []) $ group ! 3 $ join ! $ done !))))))
