-- Sheets: the rules that are entered in a column of slots.
use Rattle.std.specs.Prelude.{ℕ, Bool, true, false, ◌&&◌, Option, None, Some, is_some, is_none, List, [], ◌∷◌, length, filter, take, slice_index_or}
use Rattle.std.specs.List.{prefix_len}
use Rattle.sheet.specs.declared.rule.Rule.{Rule}
use Rattle.sheet.specs.Rules.{Inference, read, within, made, marked}

-- A slot holds a rule, or is empty.
abbrev pub Slot : Type 0
Slot = Option Rule

-- A call uses the first slot_limit slots at most.
abbrev pub slot_limit : ℕ
slot_limit = 16000

abbrev pub used : List Slot → List Slot
used xs = take slot_limit xs

-- How many slots stand before the first empty one.
abbrev pub fulls : List Slot → ℕ
fulls xs = prefix_len is_some xs

-- How many slots are empty.
abbrev pub empties : List Slot → ℕ
empties xs = length (filter is_none xs)

-- The number of rules entered, and of free slots.
unfoldable pub count : List Slot → ℕ
count xs = fulls (used xs)

unfoldable pub free : List Slot → ℕ
free xs = empties (used xs)

-- The rules before the first empty slot, as they are read.
abbrev pub front : List Slot → List Inference
front [] = []
front (None ∷ xs) = []
front (Some r ∷ xs) = read r ∷ front xs

-- The sheet: the rules entered; a rule's number is its index.
unfoldable pub sheet : List Slot → List Inference
sheet xs = front (used xs)

-- Every slot holds a rule that keeps within n facts.
abbrev pub passes : ℕ → List Slot → Bool
passes n [] = true
passes n (None ∷ xs) = false
passes n (Some r ∷ xs) = within n r && passes n xs

-- The rule in a slot; an empty slot reads as a struck rule.
abbrev pub rule_in : Slot → Rule
rule_in None = marked (made 0 [] 0)
rule_in (Some r) = r

abbrev pub rule_at : List Slot → ℕ → Rule
rule_at xs n = rule_in (slice_index_or xs n None)
