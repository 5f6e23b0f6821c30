-- Edits of a sheet: what each call answers, and what it leaves in the slots.
use Rattle.std.specs.Prelude.{ℕ, cond, List, [], length, replicate, nat_lt, slice_set}
use Rattle.measure.specs.Ops.{cost_limit}
use Rattle.sheet.specs.declared.rule.Rule.{Rule}
use Rattle.sheet.specs.Slots.{Slot}
use Rattle.std.specs.Prelude.{None, Some}
use Rattle.sheet.specs.Refusals.{Answer, accepted, refused, after}
use Rattle.sheet.specs.Rules.{body_limit, made, marked}
use Rattle.sheet.specs.Slots.{slot_limit, count, free, rule_at}

-- Opening.
abbrev pub open_answer : List Slot → Answer (Unit {0})
open_answer xs = cond (nat_lt slot_limit (length xs)) (refused 1 []) (accepted tt)

abbrev pub open_slots : List Slot → List Slot
open_slots xs = after (open_answer xs) (λ _. replicate (length xs) None) xs

-- Tests of a body's length, of a cost, of a sheet with no rules entered, and of room for n rules.
abbrev pub body_answer : ℕ → Answer (Unit {0})
body_answer n = cond (nat_lt body_limit n) (refused 5 []) (accepted tt)

abbrev pub cost_answer : ℕ → Answer (Unit {0})
cost_answer c = cond (nat_lt cost_limit c) (refused 6 []) (accepted tt)

abbrev pub new_answer : List Slot → Answer (Unit {0})
new_answer xs = cond (nat_lt 0 (count xs)) (refused 4 []) (accepted tt)

abbrev pub room_answer : List Slot → ℕ → Answer (Unit {0})
room_answer xs n = cond (nat_lt (free xs) n) (refused 7 []) (accepted tt)

-- Entering a rule: the next slot is filled, and its number answered.
abbrev pub enter_answer : List Slot → List ℕ → ℕ → Answer ℕ
enter_answer xs body cost =
    cond (nat_lt body_limit (length body)) (refused 5 [])
    (cond (nat_lt cost_limit cost) (refused 6 [])
    (cond (nat_lt (free xs) 1) (refused 7 []) (accepted (count xs))))

abbrev pub enter_slots : List Slot → ℕ → List ℕ → ℕ → List Slot
enter_slots xs head body cost = after (enter_answer xs body cost) (λ n. slice_set xs n (Some (made head body cost))) xs

abbrev pub repriced : Rule → ℕ → Rule
repriced r c = record { head = r.head; body = r.body; arity = r.arity; cost = c; struck = r.struck }

-- Finding the rule that an edit names: it must be entered and not struck.
abbrev pub standing_answer : {A : Type 0} → List Slot → ℕ → Answer A → Answer A
standing_answer xs n rest =
    cond (nat_lt n (count xs)) (cond (rule_at xs n).struck (refused 3 []) rest) (refused 2 [])

-- Repricing gives a rule another cost.
abbrev pub reprice_answer : List Slot → ℕ → ℕ → Answer (Unit {0})
reprice_answer xs n c = standing_answer xs n (cost_answer c)

abbrev pub reprice_slots : List Slot → ℕ → ℕ → List Slot
reprice_slots xs n c = after (reprice_answer xs n c) (λ _. slice_set xs n (Some (repriced (rule_at xs n) c))) xs

-- Striking puts a rule out of use.
abbrev pub strike_answer : List Slot → ℕ → Answer (Unit {0})
strike_answer xs n = standing_answer xs n (accepted tt)

abbrev pub strike_slots : List Slot → ℕ → List Slot
strike_slots xs n = after (strike_answer xs n) (λ _. slice_set xs n (Some (marked (rule_at xs n)))) xs
