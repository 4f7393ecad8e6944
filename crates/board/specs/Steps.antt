-- Steps of any machine that serves guests, one after another, and what one guest has of them: its own.
use Rattle.std.specs.Prelude.{◌≡◌, ℕ, ◌==◌, ⊤, List, [], ◌∷◌, filter}

-- the steps lead from one state to another, by what each may do and the state after it
abbrev pub LeadTo : {S M : Type 0} → (S → M → Type 0) → (M → S) → S → List M → S → Type 0
LeadTo IsStep after old [] new = new ≡ old
LeadTo IsStep after old (step ∷ steps) new = IsStep old step × LeadTo IsStep after (after step) steps new

-- this holds of each step in the state before it
abbrev pub HoldsAlong : {S M : Type 0} → (S → M → Type 0) → (M → S) → S → List M → Type 0
HoldsAlong Holds after old [] = ⊤
HoldsAlong Holds after old (step ∷ steps) = Holds old step × HoldsAlong Holds after (after step) steps

-- the steps of guest g, in order
abbrev pub own_steps : {M : Type 0} → (M → ℕ) → ℕ → List M → List M
own_steps slot_of g steps = filter (λ step. slot_of step == g) steps

-- What is asked of a guest that is alone and what is answered leads from one state of it to another, by what
-- each asking comes to.
abbrev pub IsAnsweredBy : {T Q P : Type 0} → (T → Q → P → T → Type 0) → T → List Q → List P → T → Type 0
IsAnsweredBy IsNext old [] [] last = last ≡ old
IsAnsweredBy {T} IsNext old (asking ∷ askings) (answer ∷ answers) last =
    (next : T) × IsNext old asking answer next × IsAnsweredBy IsNext next askings answers last
IsAnsweredBy IsNext old askings answers last = ⊥
