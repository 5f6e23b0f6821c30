-- Folding a sheet: its rules over groups of facts, what the call answers, and what it leaves.
use Rattle.std.specs.Prelude.{ℕ, cond, Option, List, [], ◌∷◌, ◌++◌, map, length, take, drop, nat_le, nat_lt, slice_index, option_map, None, Some}
use Rattle.std.specs.List.{position_from}
use Rattle.sheet.specs.declared.rule.Rule.{Rule}
use Rattle.sheet.specs.Slots.{Slot, count, free}
use Rattle.sheet.specs.Refusals.{Answer, accepted, refused, after, a_fact}
use Rattle.sheet.specs.Rules.{body_of, made}

-- The group of a fact; 0 for a fact beyond the map.
abbrev pub group_of : List ℕ → ℕ → ℕ
group_of groups f = slice_index groups f

-- The record of a rule over groups. A struck rule is left as it stands.
abbrev pub fold_record : (ℕ → ℕ) → Rule → Rule
fold_record group r = cond r.struck r (made (group r.head) (map group (body_of r)) r.cost)

abbrev pub fold_slot : (ℕ → ℕ) → Slot → Slot
fold_slot group slot = option_map (fold_record group) slot

-- The slots after folding: each rule is in the slot of its number, whatever stood there, and the slots beyond are as they were.
abbrev pub folded : (ℕ → ℕ) → List Slot → List Slot → List Slot
folded group xs second = map (fold_slot group) xs ++ drop (length xs) second

-- The fact that is found is refused.
abbrev pub fact_answer : Option ℕ → Answer (Unit {0})
fact_answer None = accepted tt
fact_answer (Some f) = refused 12 (a_fact f ∷ [])

-- Going through the groups of the facts from number f on: each must be below n.
abbrev pub map_answer : ℕ → ℕ → List ℕ → Answer (Unit {0})
map_answer n f groups = fact_answer (position_from (λ g. nat_le n g) f groups)

-- A second sheet with so much room for so many rules: it must be unused, and the room must do.
abbrev pub second_answer : List Slot → ℕ → ℕ → Answer (Unit {0}) → Answer (Unit {0})
second_answer second room rules then = cond (nat_lt 0 (count second)) (refused 4 []) (cond (nat_lt room rules) (refused 7 []) then)

-- The second sheet must be unused and have room for the rules, and the map must give each fact one of the n groups.
abbrev pub fold_answer : List Slot → ℕ → List ℕ → ℕ → List Slot → Answer (Unit {0})
fold_answer xs facts groups n second =
    cond (nat_lt 0 (count second)) (refused 4 [])
    (cond (nat_lt (free second) (length xs)) (refused 7 [])
    (cond (nat_lt (length groups) facts) (refused 11 [])
    (map_answer n 0 (take facts groups))))

abbrev pub fold_slots : List Slot → ℕ → List ℕ → ℕ → List Slot → List Slot
fold_slots xs facts groups n second = after (fold_answer xs facts groups n second) (λ _. folded (group_of groups) xs second) second
