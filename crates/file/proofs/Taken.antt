-- What is read keeps the limits, and was written so.
use Rattle.std.proofs.Common.{◌≡◌, ℕ, zero, suc, ◌<◌, ◌≤◌, List, ◌++◌, length, IfOk, Result, arith}
use Rattle.std.proofs.lemmas.List.{append-nil, append_assoc}
use Rattle.std.proofs.lemmas.Bool.Decides.{nat_tests}
use Rattle.std.specs.List.{flat_map, AllByRecursion}
use Rattle.sheet.specs.Slots.{Slot, count, free}
use Rattle.file.specs.declared.header.Header.{Header}
use Rattle.file.specs.declared.fault.Field.TheVariants as field
use Rattle.file.specs.Faults.{Report}
use Rattle.file.specs.Number.{number, short, arity_field, cost_field, count_field}
use Rattle.file.specs.Rules.{Entry, taken, many, body, rule, rules}
use Rattle.file.specs.Whole.{opening, closing, file}
use Rattle.file.specs.Limits.{Within}
use Rattle.file.specs.Written.{spelled, written_rule, written, Fits}

-- each entry is a byte
abbrev pub Bytes : List ℕ → Type 0
Bytes bs = AllByRecursion (λ b. b < 256) bs

-- what is taken keeps its limits, and stood in front as it is written
abbrev pub Took : {A E : Type 0} → (A → Type 0) → (A → List ℕ) → List ℕ → Result (A × List ℕ) E → Type 0
Took Fine written bs r = IfOk r (λ p. Fine p.0 × (bs ≡ written p.0 ++ p.1) × Bytes p.1)

short_took : (bs : List ℕ) → Bytes bs → Took (λ n. n ≤ 65535) spelled bs (short bs)
unfolding short number spelled
short_took bs all = grind (arith, nat_tests)

arity_took : (bs : List ℕ) → Bytes bs → Took (λ n. n ≤ 4) spelled bs (arity_field bs)
unfolding arity_field
arity_took bs all = let s = short_took bs all in grind (arith, nat_tests)

cost_took : (bs : List ℕ) → Bytes bs → Took (λ n. n ≤ 1000000) spelled bs (cost_field bs)
unfolding cost_field number spelled
cost_took bs all = grind (arith, nat_tests)

count_took : (xs : List Slot) (bs : List ℕ) → Bytes bs → Took (λ n. n ≤ free xs) spelled bs (count_field xs bs)
unfolding count_field
count_took xs bs all = let s = short_took bs all in grind (arith, nat_tests)

module _ {A : Type 0} (take : List ℕ → Result (A × List ℕ) Report) (Fine : A → Type 0) (written : A → List ℕ) (took : (bs : List ℕ) → Bytes bs → Took Fine written bs (take bs)) where
  many_took : (n : ℕ) (bs : List ℕ) → Bytes bs → Took (λ xs. (length xs ≡ n) × AllByRecursion Fine xs) (flat_map written) bs (many take n bs)
  many_took zero bs all = grind arith
  many_took (suc n) bs all =
      let s = took bs all in
      let r = λ (bs : List ℕ). many_took n bs in
      grind (arith, append_assoc)

body_took : (size n : ℕ) (bs : List ℕ) → Bytes bs → Took (λ ws. (length ws ≡ n) × AllByRecursion (λ f. f ≤ 65535) ws) (flat_map spelled) bs (body size n bs)
body_took size = many_took (taken field.Body short size) (λ f. f ≤ 65535) spelled (λ bs all. let s = short_took bs all in grind arith)

within : (e : Entry) → e.head ≤ 65535 → AllByRecursion (λ f. f ≤ 65535) e.body → length e.body ≤ 4 → e.cost ≤ 1000000 → Within e
within e h b f c = record { head = h; body = b; few = f; cost = c }

rule_took : (size : ℕ) (bs : List ℕ) → Bytes bs → Took Within written_rule bs (rule size bs)
unfolding rule
rule_took size bs all =
    let h = short_took bs all in
    let a = λ (bs : List ℕ). arity_took bs in
    let b = λ (n : ℕ) (bs : List ℕ). body_took size n bs in
    let c = λ (bs : List ℕ). cost_took bs in
    grind (arith, append_assoc, within)

rules_took : (size n : ℕ) (bs : List ℕ) → Bytes bs → Took (λ es. (length es ≡ n) × AllByRecursion Within es) (flat_map written_rule) bs (rules size n bs)
rules_took size = many_took (rule size) Within written_rule (rule_took size)

pub opening_took : (xs : List Slot) (size : ℕ) (bs : List ℕ) → Bytes bs → Took (λ o. (o.0.facts ≤ 65535) × (o.0.target ≤ 65535) × (o.1 ≤ free xs)) (λ o. spelled o.0.facts ++ (spelled o.0.target ++ spelled o.1)) bs (opening xs size bs)
unfolding opening
opening_took xs size bs all =
    let s = λ (bs : List ℕ). short_took bs in
    let n = λ (bs : List ℕ). count_took xs bs in
    grind (arith, append_assoc)

pub closing_took : (size n : ℕ) (bs : List ℕ) → Bytes bs → IfOk (closing size n bs) (λ es. (length es ≡ n) × AllByRecursion Within es × (bs ≡ flat_map written_rule es))
unfolding closing
closing_took size n bs all =
    let r = rules_took size n bs all in
    grind (arith, append-nil)

fits : (xs : List Slot) (h : Header) (es : List Entry) → count xs ≡ 0 → h.facts ≤ 65535 → h.target ≤ 65535 → AllByRecursion Within es → length es ≤ free xs → Fits xs h es
fits xs h es n f t w r = record { new = n; facts = f; target = t; within = w; room = r }

pub file_took : (xs : List Slot) (bs : List ℕ) → Bytes bs → IfOk (file xs bs) (λ w. Fits xs w.header w.entries × (bs ≡ written w.header w.entries))
unfolding file
file_took xs bs all =
    let o = opening_took xs (length bs) bs all in
    let c = λ (n : ℕ) (rest : List ℕ). closing_took (length bs) n rest in
    grind (arith, nat_tests, append_assoc, fits)
