-- A run that is started: the number of slots, and what they then are.
use Rattle.std.proofs.Common.{◌≡◌, ℕ, ◌≤◌, List, length, replicate, None, refl, ◌∙◌, arith}
use Rattle.std.proofs.lemmas.Bool.{cond-false, le-ltb}
use Rattle.std.proofs.lemmas.Bool.Decides.{nat_tests}
use Rattle.sheet.specs.Slots.{Slot}
use Rattle.sheet.specs.Refusals.{accepted, after}
use Rattle.sheet.specs.Edits.{open_slots}
use Rattle.replay.specs.Run.{start_answer}

pub start_small : (n k r : ℕ) → accepted tt ≡ start_answer n k r → n ≤ 16000
start_small n k r e = grind (arith, nat_tests)

-- the slots after the start
pub start_opens : (xs ys : List Slot) (k r : ℕ) → accepted tt ≡ start_answer (length xs) k r → ys ≡ after (start_answer (length xs) k r) (λ _. open_slots xs) xs → ys ≡ replicate (length xs) None
start_opens xs ys k r e l = l ∙ rw (← e) (rw (cond-false _ _ _ (le-ltb 16000 (length xs) (start_small _ _ _ e))) refl)
