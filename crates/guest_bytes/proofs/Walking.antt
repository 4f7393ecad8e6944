-- How a walk through the code of a function shows its statement. Assumes `Logic`.
--     called, walked_through     what the calls of the code mean; a function meets its clauses if a walk does
--     fn_of                      a function of no lifetimes and no type parameters
--     Ensures X Y Said           a function uses up its one parameter, an X, and ensures something of it and of the result, a Y
--     Walk, walks_by_value       its walk begins with what is owned of the parameter, and ends with what is owned of the result (`Ends`)
use seplogic.Ra.Ura.{Ura}
use Prim.Native.Nat.{ℕ}
use mathlib.Core.List.{List, [], ◌∷◌, ◌++◌}
use base.Fml.{ftrue, fsep}
use base.Logic.{SProp, emp, ent}
use mir.Syntax.{Body, Fn, Local}
use mir.Val.{Val}
use prog.Model.{Model}
use prog.Routine.{Callee}
use prog.Wp.{WpFn, Closed, Tables}
use types.Kit.{‵, raw, ◌⊛◌, ◌$◌, ◌∵◌, !, qed, by, done, drop, fjoin, fsplit, join, keep, split, suffices}
use types.Logic.{Logic, sem}
use denote.Exit.{Last, yes}
use denote.RattleType.{RattleType}
use denote.Signature.{plain}
use denote.Steps.{nothing}
use contract.Monad.{fact}
use contract.Running.{Running, tables, tables_of}
use sound.WpLaws.{WpFn-mono}
use denote.Triple.Clauses.{Clauses, Ended, closing}
use denote.Triple.Spec.{Meets, triple_of}
use denote.Triple.Table.{entered}
use denote.Triple.Walked.{AllGo, Goes-dropped, Silent, Stays, Walks, ends_at, says, stay_dropped, walk_Meets, walk_of}

module _ {M : Type 1} (𝓤 : Ura M) (𝓛 : Logic 𝓤) (𝓜 : Model 𝓤 𝓛.H) (𝓡 : Running 𝓤 𝓛.H 𝓜) where
  -- what the calls of the code mean
  abbrev pub called : Tables 𝓤 𝓛.H
  called = tables_of 𝓤 𝓛.H 𝓜 (tables 𝓤 𝓛.H 𝓜 𝓡 𝓡.env)

  pub walked_through : (name : Callee) (function : Fn) (T : Ended) (stayed : Stays T.signature.params T.kept)
      (clauses : Clauses 𝓤 T)
      → Closed 𝓤 𝓛.H (tables 𝓤 𝓛.H 𝓜 𝓡 𝓡.env).C (tables 𝓤 𝓛.H 𝓜 𝓡 𝓡.env).Λ name function
      → AllGo 𝓛 T.signature.lifetimes T.signature.params T.kept stayed
      → Walks 𝓛 T stayed (WpFn 𝓤 𝓛.H called.C called.Λ function) clauses
      → Meets 𝓛 T.signature (𝓡.run (𝓡.env name)) (closing 𝓛 T clauses)
  unfolding tables_of
  walked_through name function T stayed clauses closed goes walk =
      entered 𝓤 𝓛.H (triple_of 𝓛 T.signature (closing 𝓛 T clauses)) called.C called.Λ name function closed
      (walk_Meets 𝓛 T stayed goes clauses (WpFn 𝓤 𝓛.H called.C called.Λ function)
      (WpFn-mono 𝓤 𝓛.H 𝓛.laws called function) walk)

abbrev pub fn_of : ℕ → List Local → Body → Fn
fn_of params locals body = record {
  lifetimes = 0;
  outlives = [];
  ty_params = [];
  givens = 0;
  params = params;
  locals = locals;
  body = body;
}

module _ (X Y : RattleType) (Said : X.Denot → Y.Denot → Type 0) where
  abbrev UsesUp : Ended
  UsesUp = record {
    signature = record {
      lifetimes = 0;
      outlives = [];
      params = plain (λ _. X) ∷ [];
      result = plain (λ _. Y);
    };
    kept = (yes, tt);
  }

  abbrev stayed : Stays UsesUp.signature.params UsesUp.kept
  stayed = (stay_dropped (plain (λ _. X)) yes, tt)

  module _ {M : Type 1} (𝓤 : Ura M) (𝓛 : Logic 𝓤) where
    abbrev ensuring : Clauses 𝓤 UsesUp
    ensuring = λ κs args. record {
      ghost = Unit {0};
      requires = λ _. emp 𝓤;
      ensures = λ _ res _. fact 𝓤 (Said args.0 res);
    }

    abbrev pub Ends : X.Denot → (Val → SProp 𝓤) → Type 1
    Ends x Post = (v : Val) (y : Y.Denot) → Said x y → ent 𝓤 (sem 𝓛 (Y.own_val y (v ∷ []))) (Post v)

    abbrev pub Walk : Tables 𝓤 𝓛.H → Fn → Type 2
    Walk 𝓣 function = (x : X.Denot) (vs : List Val) (Post : Val → SProp 𝓤) → Ends x Post
        → ent 𝓤 (sem 𝓛 (X.own_val x vs)) (WpFn 𝓤 𝓛.H 𝓣.C 𝓣.Λ function (vs ++ []) Post)

    ends : ((x : X.Denot) → Last (X.exit yes) x) → (z : (walk_of 𝓛 UsesUp stayed ensuring).Ghost)
        → Ends z.0.3.0 ((walk_of 𝓛 UsesUp stayed ensuring).post z)
    ends last z v y said =
        qed 𝓛 (‵ (Y.own_val y (v ∷ [])) ∷ []) ∵
        suffices ! _ (ends_at 𝓛 UsesUp stayed ensuring z v y (last z.0.3.0, tt) (tt, tt)) $ says ! said $
        nothing ! $ nothing ! $ fjoin ! $ join ! $ nothing ! $ join ! $ done !

    module _ (𝓜 : Model 𝓤 𝓛.H) (𝓡 : Running 𝓤 𝓛.H 𝓜) (name : Callee) where
      -- the function of that name meets it
      abbrev pub Ensures : Type 1
      Ensures = Meets 𝓛 UsesUp.signature (𝓡.run (𝓡.env name)) (closing 𝓛 UsesUp ensuring)

      pub walks_by_value : (function : Fn)
          → Closed 𝓤 𝓛.H (tables 𝓤 𝓛.H 𝓜 𝓡 𝓡.env).C (tables 𝓤 𝓛.H 𝓜 𝓡 𝓡.env).Λ name function
          → ((x : X.Denot) → Last (X.exit yes) x) → Silent 𝓛 0 (plain (λ _. X)) yes
          → Walk (called 𝓤 𝓛 𝓜 𝓡) function → Ensures
      walks_by_value function closed last silent walk =
          walked_through 𝓤 𝓛 𝓜 𝓡 name function UsesUp stayed ensuring closed
          (Goes-dropped 𝓛 0 (plain (λ _. X)) yes silent, tt)
          (λ z. qed 𝓛 ((‵ ftrue ⊛ ‵ (fsep (X.own_val z.0.3.0 z.0.4.0) ftrue)) ∷ raw (emp 𝓤) ∷ []) ∵ split ! $
          drop ! $ fsplit ! $ keep ! (0 ∷ []) $ by ! (walk z.0.3.0 z.0.4.0 _ (ends last z)))
