-- The answers of the edits, case by case.
use Rattle.std.proofs.Common.{◌≡◌, ℕ, suc, ◌-◌, ◌<◌, ◌≤◌, min, List, [], ◌∷◌, ◌++◌, length, take, drop, replicate, refl, arith}
use Rattle.std.proofs.lemmas.Bool.Decides.{nat_tests}
use Rattle.sheet.specs.Slots.{Slot}
use Rattle.sheet.specs.Refusals.{accepted, refused}
use Rattle.sheet.specs.Slots.{count, free}
use Rattle.sheet.specs.Edits.{body_answer, cost_answer, enter_answer}

pub body_fits : (n : ℕ) → accepted tt ≡ body_answer n → n ≤ 4
body_fits n e = grind (arith, nat_tests)

pub cost_fits : (c : ℕ) → accepted tt ≡ cost_answer c → c ≤ 1000000
cost_fits c e = grind (arith, nat_tests)

module _ (xs : List Slot) (body : List ℕ) (cost : ℕ) (b : length body ≤ 4) (p : cost ≤ 1000000) where
  pub enter_full : free xs ≡ 0 → enter_answer xs body cost ≡ refused 7 []
  enter_full f = grind (arith, nat_tests)

  pub enter_fits : 0 < free xs → enter_answer xs body cost ≡ accepted (count xs)
  enter_fits f = grind (arith, nat_tests)

-- the places of a new rule: the body as far as it goes, and 0 beyond
pub places : (b : List ℕ) → take (min (length b) 4 - 0) b ++ drop (min (length b) 4 - 0) (0 ∷ 0 ∷ 0 ∷ 0 ∷ []) ≡ take 4 (b ++ replicate 4 0)
places [] = refl
places (x ∷ []) = refl
places (x ∷ y ∷ []) = refl
places (x ∷ y ∷ z ∷ []) = refl
places (x ∷ y ∷ z ∷ w ∷ b) = let e : min (suc (suc (suc (suc (length b))))) 4 - 0 ≡ 4 = omega arith in rw e
