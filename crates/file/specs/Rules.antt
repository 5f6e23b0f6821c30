-- The rules of a file: each its head, the length of its body, its body and its cost.
use Rattle.std.specs.Prelude.{ℕ, zero, suc, ◌-◌, List, [], ◌∷◌, length, Ok, Result}
use Rattle.sheet.specs.declared.rule.Rule.{Rule}
use Rattle.sheet.specs.Rules.{made}
use Rattle.file.specs.declared.fault.Field.{Field}
use Rattle.file.specs.declared.fault.Field.TheVariants as field
use Rattle.file.specs.Faults.{Reason, Report, ◌>>=◌, mapped, at_field}
use Rattle.file.specs.Number.{short, arity_field, cost_field}

-- A rule as a file has it.
pub record Entry : Type 0 where
  pub head : ℕ
  pub body : List ℕ
  pub cost : ℕ

abbrev pub rule_of : Entry → Rule
rule_of e = made e.head e.body e.cost

abbrev pub as_rule : Result (Entry × List ℕ) Report → Result (Rule × List ℕ) Report
as_rule r = mapped (λ p. (rule_of p.0, p.1)) r

-- A field of a file of this size: it begins where the bytes that are left begin.
abbrev pub taken : {A : Type 0} → Field → (List ℕ → Result A Reason) → ℕ → List ℕ → Result A Report
taken f take size bs = at_field f (size - length bs) (take bs)

-- So many of one kind, one after another.
abbrev pub many : {A : Type 0} → (List ℕ → Result (A × List ℕ) Report) → ℕ → List ℕ → Result (List A × List ℕ) Report
many take zero bs = Ok ([], bs)
many take (suc n) bs = do
  p ← take bs
  q ← many take n p.1
  Ok (p.0 ∷ q.0, q.1)

-- So many facts of a body.
abbrev pub body : ℕ → ℕ → List ℕ → Result (List ℕ × List ℕ) Report
body size n bs = many (taken field.Body short size) n bs

-- A rule, with the bytes after it.
unfoldable pub rule : ℕ → List ℕ → Result (Entry × List ℕ) Report
rule size bs = do
  h ← taken field.Head short size bs
  a ← taken field.Arity arity_field size h.1
  b ← body size a.0 a.1
  c ← taken field.Cost cost_field size b.1
  Ok (record { head = h.0; body = b.0; cost = c.0 }, c.1)

-- So many rules, with the bytes after them.
abbrev pub rules : ℕ → ℕ → List ℕ → Result (List Entry × List ℕ) Report
rules size n bs = many (rule size) n bs
