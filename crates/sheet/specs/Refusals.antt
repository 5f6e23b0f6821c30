-- Refusals: the number of each, and the values told with it.
use Rattle.std.specs.Prelude.{ℕ, List, [], ◌∷◌, ◌++◌, Ok, Err, Result, codes, decimal}
use Rattle.sheet.specs.declared.refusal.Misfit.{Misfit}
use Rattle.sheet.specs.declared.refusal.Refusal.{Refusal}
use Rattle.sheet.specs.declared.refusal.Misfit.TheVariants as misfit
use Rattle.sheet.specs.declared.refusal.Refusal.TheVariants as refusal

-- A value told with a refusal.
pub data Told : Type 0 where
  a_fact : ℕ → Told
  a_rule : ℕ → Told
  closed : ℕ → Told
  taken : ℕ → Told

abbrev pub number : Refusal → ℕ
number refusal.Slots = 1
number refusal.Unknown = 2
number refusal.Struck = 3
number refusal.Used = 4
number refusal.Body = 5
number refusal.Cost = 6
number refusal.Full = 7
number refusal.Facts = 8
number (refusal.Stray r) = 9
number refusal.Target = 10
number refusal.Short = 11
number (refusal.Map f) = 12
number (refusal.Unfit m) = 13
number (refusal.OutOfReach c t) = 14
number refusal.Cut = 15
number refusal.Number = 16
number refusal.Tail = 17

abbrev misfit_told : Misfit → Told
misfit_told (misfit.Target f) = a_fact f
misfit_told (misfit.Rule r) = a_rule r

abbrev pub told : Refusal → List Told
told refusal.Slots = []
told refusal.Unknown = []
told refusal.Struck = []
told refusal.Used = []
told refusal.Body = []
told refusal.Cost = []
told refusal.Full = []
told refusal.Facts = []
told (refusal.Stray r) = a_rule r ∷ []
told refusal.Target = []
told refusal.Short = []
told (refusal.Map f) = a_fact f ∷ []
told (refusal.Unfit m) = misfit_told m ∷ []
told (refusal.OutOfReach c t) = closed c ∷ taken t ∷ []
told refusal.Cut = []
told refusal.Number = []
told refusal.Tail = []

-- What is printed of the values told.
abbrev misfit_text : Misfit → List ℕ
misfit_text (misfit.Target f) = codes " target " ++ decimal f
misfit_text (misfit.Rule r) = codes " rule " ++ decimal r

abbrev told_text : Refusal → List ℕ
told_text (refusal.Stray r) = codes " rule " ++ decimal r
told_text (refusal.Map f) = codes " fact " ++ decimal f
told_text (refusal.Unfit m) = misfit_text m
told_text (refusal.OutOfReach c t) = codes " closed " ++ decimal c ++ codes " taken " ++ decimal t
told_text refusal.Slots = []
told_text refusal.Unknown = []
told_text refusal.Struck = []
told_text refusal.Used = []
told_text refusal.Body = []
told_text refusal.Cost = []
told_text refusal.Full = []
told_text refusal.Facts = []
told_text refusal.Target = []
told_text refusal.Short = []
told_text refusal.Cut = []
told_text refusal.Number = []
told_text refusal.Tail = []

-- A refusal as text, as bytes: its number, and what it tells.
abbrev pub text : Refusal → List ℕ
text e = codes "refused " ++ decimal (number e) ++ told_text e

-- What a call answers: accepted with a value, or refused with a number and the values told.
pub data Answer (A : Type 0) : Type 0 where
  accepted : A → Answer A
  refused : ℕ → List Told → Answer A

-- The answer that a result stands for.
abbrev pub answer : {A : Type 0} → Result A Refusal → Answer A
answer (Ok x) = accepted x
answer (Err e) = refused (number e) (told e)

-- The answer without its value.
abbrev pub verdict : {A : Type 0} → Answer A → Answer (Unit {0})
verdict (accepted x) = accepted tt
verdict (refused n vs) = refused n vs

-- What is left where the answer is accepted with x, and where it is refused.
abbrev pub after : {A B : Type 0} → Answer A → (A → B) → B → B
after (accepted x) change kept = change x
after (refused n vs) change kept = kept
