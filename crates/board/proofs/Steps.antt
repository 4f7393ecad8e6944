-- Each guest is alone, whatever the machine: a step changes nothing of other guests'.
-- And what a guest that is alone is answered.
use Rattle.std.proofs.Common.{◌≡◌, ◌≢◌, ◌⊎◌, ◌↔◌, inl, inr, ℕ, eqb, true, false, List, [], ◌∷◌, ◌++◌, map, refl, sym, ◌∙◌, subst}
use Rattle.std.specs.Prelude.{⊤}
use Rattle.std.specs.List.{AllByRecursion}
use Rattle.std.proofs.lemmas.Bool.Decides.{eqb_tells}
use Rattle.board.specs.Steps.{HoldsAlong, IsAnsweredBy, LeadTo, own_steps}

module _ {S M : Type 0} (IsStep : S → M → Type 0) (after : M → S) where
  -- two lines, the second from where the first ends, are one
  pub lines_join : (old mid new : S) (steps more : List M) → LeadTo IsStep after old steps mid
      → LeadTo IsStep after mid more new → LeadTo IsStep after old (steps ++ more) new
  lines_join old mid new [] more line rest =
      subst (λ (s : S). LeadTo IsStep after s more new) line rest
  lines_join old mid new (step ∷ steps) more line rest =
      (line.0, lines_join (after step) mid new steps more line.1 rest)

  -- what each step keeps, the steps keep, and what follows from it holds of each
  pub kept_along : (Keeps : S → Type 0) (Holds : M → Type 0)
      → ((old : S) (step : M) → IsStep old step → Keeps old → Holds step × Keeps (after step))
      → (old : S) (steps : List M) (new : S) → LeadTo IsStep after old steps new → Keeps old
      → AllByRecursion Holds steps × Keeps new
  kept_along Keeps Holds each old [] new line keeps = (tt, subst Keeps (sym line) keeps)
  kept_along Keeps Holds each old (step ∷ steps) new line keeps =
      let first = each old step line.0 keeps in
      let rest = kept_along Keeps Holds each (after step) steps new line.1 first.1 in
      ((first.0, rest.0), rest.1)

  -- what holds of each step holds along the steps
  pub each_along : (Holds : M → Type 0) (old : S) (steps : List M) → AllByRecursion Holds steps
      → HoldsAlong (λ was step. Holds step) after old steps
  each_along Holds old [] each = tt
  each_along Holds old (step ∷ steps) each = (each.0, each_along Holds (after step) steps each.1)

  -- and so does what always holds
  pub always : (old : S) (steps : List M) → HoldsAlong (λ was step. ⊤) after old steps
  always old [] = tt
  always old (step ∷ steps) = (tt, always (after step) steps)

  -- Where what is noted of a guest after each step is that it was so before and that this holds of the step,
  -- it is that after all of them.
  pub noted_along : (IsNoted : S → Type 0) (Holds : S → M → Type 0)
      → ((old : S) (step : M) → IsStep old step → IsNoted (after step) ↔ (IsNoted old × Holds old step))
      → (old : S) (steps : List M) (new : S) → LeadTo IsStep after old steps new
      → IsNoted new ↔ (IsNoted old × HoldsAlong Holds after old steps)
  noted_along IsNoted Holds notes old [] new line =
      (λ is. (subst IsNoted line is, tt), λ is. subst IsNoted (sym line) is.0)
  noted_along IsNoted Holds notes old (step ∷ steps) new line =
      let first = notes old step line.0 in
      let rest = noted_along IsNoted Holds notes (after step) steps new line.1 in (
        λ is. let later = rest.0 is in let sooner = first.0 later.0 in (sooner.0, (sooner.1, later.1)),
        λ is. rest.1 (first.1 (is.0, is.1.0), is.1.1),
      )

  -- ---- each guest is alone

  -- A guest sits so in a state, and steps come to this for one that sits so before them.
  module _ {T : Type 0} (slot_of : M → ℕ) (Sits : ℕ → T → S → Type 0) (Comes : ℕ → T → List M → Type 0) where
    -- how a step leaves a guest, and what it adds for it to what the steps behind it come to
    pub record Passes (g : ℕ) (seat : T) (step : M) : Type 0 where
      pub next : T
      pub sits : Sits g next (after step)
      pub comes : (steps : List M) → Comes g next steps → Comes g seat (step ∷ steps)

    module _ (IsFair : ℕ → S → M → Type 0) where
      -- what is to be shown of a machine: of a step of the guest's own, and of another guest's
      pub record IsMachine : Type 0 where
        pub own :
            (old : S) (step : M) (seat : T) → eqb (slot_of step) (slot_of step) ≡ true → IsStep old step
            → IsFair (slot_of step) old step → Sits (slot_of step) seat old → Passes (slot_of step) seat step
        pub others :
            (g : ℕ) (old : S) (step : M) (seat : T) → eqb (slot_of step) g ≡ false → slot_of step ≢ g
            → IsStep old step → Sits g seat old → Passes g seat step

      passed : IsMachine → (g : ℕ) (old : S) (step : M) (seat : T)
          → ((eqb (slot_of step) g ≡ true) × (slot_of step ≡ g))
          ⊎ ((eqb (slot_of step) g ≡ false) × (slot_of step ≢ g))
          → IsStep old step → IsFair g old step → Sits g seat old → Passes g seat step
      passed machine g old step seat (inl is) h =
          subst (λ (k : ℕ). IsFair k old step → Sits k seat old → Passes k seat step) is.1
          (machine.own old step seat
          (subst (λ (k : ℕ). eqb (slot_of step) k ≡ true) (sym is.1) is.0) h)
      passed machine g old step seat (inr is) h = λ fair sits. machine.others g old step seat is.0 is.1 h sits

      -- the law
      pub alone : IsMachine → (g : ℕ) (new : S) → ((seat : T) → Sits g seat new → Comes g seat [])
          → (old : S) (steps : List M) (seat : T) → LeadTo IsStep after old steps new
          → HoldsAlong (IsFair g) after old steps → Sits g seat old → Comes g seat steps
      alone machine g new ends old [] seat line fair sits =
          ends seat (subst (λ (s : S). Sits g seat s) (sym line) sits)
      alone machine g new ends old (step ∷ steps) seat line fair sits =
          let first = passed machine g old step seat (eqb_tells (slot_of step) g) line.0 fair.0 sits in
          first.comes steps (alone machine g new ends (after step) steps first.next line.1 fair.1 first.sits)

-- ---- a guest that is alone

module _ {T Q P : Type 0} (IsNext : T → Q → P → T → Type 0) where
  -- what is asked and answered, and then from where it led to, is one
  pub answers_join : (old mid last : T) (askings more : List Q) (answers later : List P)
      → IsAnsweredBy IsNext old askings answers mid → IsAnsweredBy IsNext mid more later last
      → IsAnsweredBy IsNext old (askings ++ more) (answers ++ later) last
  answers_join old mid last [] more [] later one other =
      subst (λ (t : T). IsAnsweredBy IsNext t more later last) one other
  answers_join old mid last [] more (answer ∷ answers) later one other = absurd one
  answers_join old mid last (asking ∷ askings) more [] later one other = absurd one
  answers_join old mid last (asking ∷ askings) more (answer ∷ answers) later one other =
      (one.0, one.1, answers_join one.0 mid last askings more answers later one.2 other)

  -- where each asking has one answer, what is asked has one
  pub answered_once : (IsFound : Q → P → Type 0)
      → ((old one other : T) (asking : Q) (p q : P) → IsNext old asking p one → IsNext old asking q other
      → IsFound asking p → IsFound asking q → (p ≡ q) × (one ≡ other))
      → (AreFound : List Q → List P → Type 0)
      → ((asking : Q) (askings : List Q) (answer : P) (answers : List P)
      → AreFound (asking ∷ askings) (answer ∷ answers) → IsFound asking answer × AreFound askings answers)
      → (old : T) (askings : List Q) (one other : List P) (s t : T) → IsAnsweredBy IsNext old askings one s
      → IsAnsweredBy IsNext old askings other t → AreFound askings one → AreFound askings other
      → (one ≡ other) × (s ≡ t)
  answered_once IsFound once AreFound each old [] [] [] s t x y f k = (refl, x ∙ sym y)
  answered_once IsFound once AreFound each old [] (p ∷ one) other s t x y f k = absurd x
  answered_once IsFound once AreFound each old [] [] (q ∷ other) s t x y f k = absurd y
  answered_once IsFound once AreFound each old (asking ∷ askings) [] other s t x y f k = absurd x
  answered_once IsFound once AreFound each old (asking ∷ askings) (p ∷ one) [] s t x y f k = absurd y
  answered_once IsFound once AreFound each old (asking ∷ askings) (p ∷ one) (q ∷ other) s t x y f k =
      let found = each asking askings p one f in
      let found' = each asking askings q other k in
      let same = once old x.0 y.0 asking p q x.1 y.1 found.0 found'.0 in
      let rest = answered_once IsFound once AreFound each x.0 askings one other s t x.2
      (subst (λ (n : T). IsAnsweredBy IsNext n askings other t) (sym same.1) y.2) found.1 found'.1 in
      (rw (same.0, rest.0) refl, rest.1)

  pub one_course : ((old one other : T) (asking : Q) (p q : P) → IsNext old asking p one
      → IsNext old asking q other → (p ≡ q) × (one ≡ other))
      → (old : T) (askings : List Q) (one other : List P) (s t : T) → IsAnsweredBy IsNext old askings one s
      → IsAnsweredBy IsNext old askings other t → (one ≡ other) × (s ≡ t)
  one_course once old askings one other s t x y =
      answered_once (λ asking p. ⊤) (λ was m n asking p q v w f k. once was m n asking p q v w)
      (λ asked told. ⊤) (λ asking asked answer told f. (tt, tt)) old askings one other s t x y tt tt

-- ---- its own steps as what is asked and answered

module _ {S M T Q P : Type 0} (IsStep : S → M → Type 0) (after : M → S) (slot_of : M → ℕ)
    (Sits : ℕ → T → S → Type 0) (asking : M → Q) (answer : M → P) (IsNext : T → Q → P → T → Type 0) where
  -- what a step of its own is to the guest
  pub record IsOwn (seat : T) (step : M) : Type 0 where
    pub last : T
    pub next : IsNext seat (asking step) (answer step) last
    pub sits : Sits (slot_of step) last (after step)

  -- and what steps are to it
  pub record AreOwn (new : S) (g : ℕ) (seat : T) (steps : List M) : Type 0 where
    pub last : T
    pub own :
        IsAnsweredBy IsNext seat (map asking (own_steps slot_of g steps))
        (map answer (own_steps slot_of g steps)) last
    pub sits : Sits g last new

  -- a guest that no other guest's step changes is left by all steps as by its own
  pub own_alone : (IsFair : ℕ → S → M → Type 0)
      → ((old : S) (step : M) (seat : T) → IsStep old step → IsFair (slot_of step) old step
      → Sits (slot_of step) seat old → IsOwn seat step)
      → ((g : ℕ) (old : S) (step : M) (seat : T) → slot_of step ≢ g → IsStep old step → Sits g seat old
      → Sits g seat (after step))
      → (g : ℕ) (old : S) (steps : List M) (new : S) (seat : T) → LeadTo IsStep after old steps new
      → HoldsAlong (IsFair g) after old steps → Sits g seat old → AreOwn new g seat steps
  own_alone IsFair own others g old steps new seat line fair sits =
      alone IsStep after slot_of Sits (AreOwn new) IsFair
      (record {
        own = λ was step here test h just there.
            let came = own was step here h just there in
            record {
              next = came.last;
              sits = came.sits;
              comes = λ more rest.
                  record {
                    last = rest.last;
                    own = rw test (came.last, came.next, rest.own);
                    sits = rest.sits;
                  };
            };
        others = λ k was step here test other h there.
            record {
              next = here;
              sits = others k was step here other h there;
              comes = λ more rest.
                  record { last = rest.last; own = rw test rest.own; sits = rest.sits };
            };
      })
      g new (λ here there. record { last = here; own = refl; sits = there }) old steps seat line fair sits
