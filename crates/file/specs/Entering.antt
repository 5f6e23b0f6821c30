-- What reading a file answers, and what it leaves in the slots.
use Rattle.std.specs.Prelude.{ℕ, List, [], ◌∷◌, None, Some, Ok, Err, Result}
use Rattle.sheet.specs.Slots.{Slot}
use Rattle.sheet.specs.Edits.{enter_slots}
use Rattle.file.specs.declared.header.Header.{Header}
use Rattle.file.specs.Faults.{Report, mapped}
use Rattle.file.specs.Rules.{Entry, rule_of}
use Rattle.file.specs.Whole.{File, file}

-- The rules entered one after another.
abbrev pub entered : List Entry → List Slot → List Slot
entered [] xs = xs
entered (e ∷ es) xs = entered es (enter_slots xs e.head e.body e.cost)

abbrev pub after_reading : Result File Report → List Slot → List Slot
after_reading (Ok f) xs = entered f.entries xs
after_reading (Err e) xs = xs

abbrev pub read_answer : List ℕ → List Slot → Result Header Report
read_answer bs xs = mapped (λ f. f.header) (file xs bs)

abbrev pub read_slots : List ℕ → List Slot → List Slot
read_slots bs xs = after_reading (file xs bs) xs

-- Each empty slot takes the next rule.
abbrev pub filled : List Entry → List Slot → List Slot
filled [] xs = xs
filled (e ∷ es) [] = []
filled (e ∷ es) (None ∷ xs) = Some (rule_of e) ∷ filled es xs
filled (e ∷ es) (Some r ∷ xs) = Some r ∷ filled (e ∷ es) xs
