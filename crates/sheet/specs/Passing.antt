-- Passing a sheet: what is answered, and what the view then shows.
use Rattle.std.specs.Prelude.{ℕ, suc, cond, ◌||◌, List, [], ◌∷◌, take, ◌==◌, nat_lt}
use Rattle.sheet.specs.Slots.{Slot}
use Rattle.std.specs.Prelude.{None, Some}
use Rattle.sheet.specs.declared.passed.Passed.{Passed}
use Rattle.sheet.specs.Refusals.{Answer, accepted, refused, verdict, after, a_rule}
use Rattle.sheet.specs.Rules.{within}
use Rattle.sheet.specs.Slots.{used, count}

abbrev pub fact_limit : ℕ
fact_limit = 4096

-- Going through the slots from number k on: the number of rules entered, or the first rule that does not keep within n facts.
abbrev pub scan : ℕ → ℕ → List Slot → Answer ℕ
scan n k [] = accepted k
scan n k (None ∷ xs) = accepted k
scan n k (Some r ∷ xs) = cond (within n r) (scan n (suc k) xs) (refused 9 (a_rule k ∷ []))

abbrev pub pass_answer : List Slot → ℕ → Answer (Unit {0})
pass_answer xs n =
    cond (n == 0 || nat_lt fact_limit n) (refused 8 [])
    (verdict (scan n 0 (used xs)))

-- What a view shows: the slots of the rules entered, and the fact count.
abbrev pub seen : Passed → List Slot × ℕ
seen v = (v.slots.now, v.facts)

abbrev pub pass_view : List Slot → ℕ → List Slot × ℕ → List Slot × ℕ
pass_view xs n old = after (pass_answer xs n) (λ _. (take (count xs) xs, n)) old
