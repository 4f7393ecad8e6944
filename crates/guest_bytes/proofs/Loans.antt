-- A struct that C hands over: a pointer and a length, and what it owns there.
--     Loan             of                 what it lends
--                      name, row          the struct's name and its row
--                      place, len, items  of a value the pointer, the length, and what lies there
--                      sized, small       its invariant
--                      none, is_none      a loan of nothing, at null
--     H                the struct's row, of these
--     word             its machine value
--     empties          a function that makes a loan of nothing: it puts null beside no length. Assumes `Logic`
use mathlib.Core.Path.{◌≡◌, refl, sym}
use mathlib.Core.List.{List, [], ◌∷◌}
use Prim.Native.Nat.{ℕ, ◌^◌}
use mir.Syntax.{Sym, w64, Callee, Fn, local, value_local, place, int, aggregate, assign, seq, return}
use mir.Val.{Val, vint, vstruct, of_list, vnull}
use base.Fml.{Fml, ftrue, fsep}
use denote.Exit.{under, hidden}
use denote.RattleType.{RattleType, Denots, Valss}
use denote.RawPtr.{Ptr, null_ptr, ptr_val}
use denote.Struct.Field.{Field, RawPtr-field, usize-field, rows}
use denote.Struct.Owning.{Owning, row as row_of, shape, fields as fields_of}
use denote.Struct.Struct.{exits_of, Struct, within}
use denote.Struct.Values.{intos}
use Rattle.std.specs.Prelude.{length}
use Rattle.guest_bytes.specs.Loaned.{loaned}
use Rattle.guest_bytes.proofs.Lending.{Lendable}
use seplogic.Ra.Ura.{Ura}
use lib.Dec.{lit<}
use base.Logic.{emp, id⊢}
use prog.Model.{Model}
use prog.Wp.{WpFn, Closed, Tables}
use types.Logic.{Logic}
use contract.Monad.{fact}
use contract.Running.{Running, tables}
use types.Kit.{‵, raw, ◌⊛◌, ◌$◌, ◌∵◌, !, qed, drop, use1, join, split, fjoin, fpack, feq_i, flt_i, rewrite, suffices, done}
use types.Part.{agg}
use types.Run.{no_more, and_then, lit, returns, enter}
use types.ByLocal.{alloc_all, pass_all, free_all, look_at, sets}
use denote.Memory.{lone}
use denote.Signature.{plain}
use denote.Steps.{nothing}
use denote.Triple.Clauses.{Clauses, Ended, closing}
use denote.Triple.Spec.{Meets}
use denote.Triple.Walked.{says, ends_at, Walks}
use Rattle.guest_bytes.proofs.Walking.{called, fn_of, walked_through}

pub record Loan : Type 2 where
  pub of : Lendable
  pub name : Sym
  pub row : RattleType
  pub place : row.Denot → Ptr
  pub len : row.Denot → ℕ
  pub items : row.Denot → List of.named.Denot
  pub sized : (d : row.Denot) → length (items d) ≡ len d
  pub small : (d : row.Denot) → of.IsSmall (len d)
  pub none : row.Denot
  pub is_none : (place none ≡ null_ptr) × (len none ≡ 0) × (items none ≡ [])

abbrev pub word : Ptr → ℕ → Val
word p n = vstruct (of_list (ptr_val p ∷ vint w64 n ∷ []))

abbrev pub parts : List Field
parts = RawPtr-field ∷ usize-field ∷ []

abbrev pub fields : Ptr → ℕ → Denots (rows parts)
fields p n = intos parts (p, (n, tt))

module _ (S : Loan) where
  abbrev pub the_type : Owning
  the_type = record {
    name = S.name;
    args = [];
    types = [];
    parts = parts;
    D = S.row.Denot;
    as_values = λ d. (S.place d, (S.len d, tt));
    coded = S.row.coded;
    heap = λ d. loaned S.of.named (S.place d) (S.len d) (S.items d);
    exit = λ k. hidden (under (λ d. fields (S.place d) (S.len d)) (exits_of k (rows parts)));
    shr_at = S.row.shr_at;
  }

  abbrev pub H : RattleType
  H = row_of the_type

  abbrev code : Fn
  code = fn_of 0 (local (lone H.mir) value_local ∷ [])
      (seq (assign (place 0 []) (aggregate (int w64 0 ∷ int w64 0 ∷ []))) return)

  abbrev ended : Ended
  ended = record {
    signature = record { lifetimes = 0; outlives = []; params = []; result = plain (λ _. H) };
    kept = tt;
  }

  module _ {M : Type 1} {𝓤 : Ura M} (𝓛 : Logic 𝓤) where
    abbrev clauses : Clauses 𝓤 ended
    clauses = λ κs args. record {
      ghost = Unit {0};
      requires = λ _. emp 𝓤;
      ensures = λ _ res _. fact 𝓤 (S.items res ≡ []);
    }

    walk : (𝓣 : Tables 𝓤 𝓛.H) → Walks 𝓛 ended tt (WpFn 𝓤 𝓛.H 𝓣.C 𝓣.Λ code) clauses
    walk 𝓣 z =
        let w : Val = word null_ptr 0 in
        let owns : Ptr → ℕ → Fml = λ p n. fsep ((Struct (shape the_type)).own_val (fields p n) (w ∷ []))
        (loaned S.of.named p n (S.items S.none)) in
        qed 𝓛 ((‵ ftrue ⊛ ‵ ftrue) ∷ raw (emp 𝓤) ∷ []) ∵ split ! $ drop ! $ drop ! $ drop ! $
        nothing ! $ nothing ! $ flt_i ! 0 (2 ^ 64) (lit< tt) $ feq_i ! (List Val) (vint w64 0 ∷ [])
        (vint w64 0 ∷ []) refl $ fjoin ! $ fjoin ! $
        feq_i ! (List Val) (vnull ∷ []) (vnull ∷ []) refl $ fjoin ! $ feq_i ! (List Val) (w ∷ []) (w ∷ []) refl $
        fjoin ! $
        fpack ! (Valss (fields_of the_type)) (within (shape the_type) (fields null_ptr 0) (w ∷ []))
        (vnull ∷ [], (vint w64 0 ∷ [], tt)) $ fjoin ! $
        use1 𝓛 (‵ (owns null_ptr 0)) (id⊢ 𝓤 _) $
        rewrite ! 0 (λ (p : Ptr). ‵ (owns p 0)) (sym S.is_none.0) refl $
        rewrite ! 0 (λ (n : ℕ). ‵ (owns (S.place S.none) n)) (sym S.is_none.1) refl $
        enter ! 𝓣.C 𝓣.Λ code [] _ $ alloc_all ! (λ l. pass_all ! refl tt $
        sets ! (agg ! (and_then ! (lit ! tt) (and_then ! (lit ! tt) (no_more !)))) refl
        (tt, (record { fits = lit< tt }, (record { fits = lit< tt }, tt))) $
        returns ! (look_at ! 0 refl) $ free_all ! refl $
        suffices ! _ (ends_at 𝓛 ended tt clauses z w S.none tt tt) $ says ! S.is_none.2 $
        nothing ! $ join ! $ nothing ! $ join ! $ done !)

  pub empties : {M : Type 1} (𝓤 : Ura M) (𝓛 : Logic 𝓤) (𝓜 : Model 𝓤 𝓛.H) (𝓡 : Running 𝓤 𝓛.H 𝓜) (name : Callee)
      → Closed 𝓤 𝓛.H (tables 𝓤 𝓛.H 𝓜 𝓡 𝓡.env).C (tables 𝓤 𝓛.H 𝓜 𝓡 𝓡.env).Λ name code
      → Meets 𝓛 ended.signature (𝓡.run (𝓡.env name)) (closing 𝓛 ended (clauses 𝓛))
  empties 𝓤 𝓛 𝓜 𝓡 name closed =
      walked_through 𝓤 𝓛 𝓜 𝓡 name code ended tt (clauses 𝓛) closed tt (walk 𝓛 (called 𝓤 𝓛 𝓜 𝓡))
