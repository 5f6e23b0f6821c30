-- A whole file: fact count, target, number of rules, the rules, and nothing after them.
use Rattle.std.specs.Prelude.{ℕ, List, [], ◌∷◌, length, Ok, Err, Result}
use Rattle.sheet.specs.Slots.{Slot}
use Rattle.sheet.specs.Edits.{new_answer}
use Rattle.file.specs.declared.fault.Field.TheVariants as field
use Rattle.file.specs.declared.header.Header.{Header}
use Rattle.file.specs.Faults.{Reason, Report, tail, ◌>>=◌, says, at_field}
use Rattle.file.specs.Number.{short, count_field}
use Rattle.file.specs.Rules.{Entry, taken, rules}

-- What a file says.
pub record File : Type 0 where
  pub header : Header
  pub entries : List Entry

-- The fields before the rules: the header, the number of rules, and the bytes after it.
unfoldable pub opening : List Slot → ℕ → List ℕ → Result ((Header × ℕ) × List ℕ) Report
opening xs size bs = do
  f ← taken field.Facts short size bs
  t ← taken field.Target short size f.1
  n ← taken field.Rules (count_field xs) size t.1
  Ok ((record { facts = f.0; target = t.0 }, n.0), n.1)

-- Nothing may be left.
abbrev pub ended : List ℕ → Result (Unit {0}) Reason
ended [] = Ok tt
ended (b ∷ bs) = Err tail

-- So many rules and nothing after them.
unfoldable pub closing : ℕ → ℕ → List ℕ → Result (List Entry) Report
closing size n bs = do
  q ← rules size n bs
  _ ← taken field.Tail ended size q.1
  Ok q.0

unfoldable pub file : List Slot → List ℕ → Result File Report
file xs bs = do
  _ ← at_field field.Facts 0 (says (new_answer xs))
  o ← opening xs (length bs) bs
  es ← closing (length bs) o.0.1 o.1
  Ok (record { header = o.0.0; entries = es })
