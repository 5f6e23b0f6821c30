-- What is written is read back.
use Rattle.std.proofs.Common.{◌≡◌, ℕ, ◌<◌, ◌≤◌, List, [], ◌∷◌, ◌++◌, length, Ok, Result, is_none, refl, arith, length-take}
use Rattle.std.proofs.lemmas.List.{append-nil, append_assoc}
use Rattle.std.proofs.lemmas.List.Sums.{length-filter, count_by-le-length}
use Rattle.std.proofs.lemmas.Bool.Decides.{nat_tests}
use Rattle.std.specs.List.{flat_map, AllByRecursion}
use Rattle.sheet.specs.Slots.{Slot, used, free}
use Rattle.file.specs.declared.header.Header.{Header}
use Rattle.file.specs.declared.fault.Field.TheVariants as field
use Rattle.file.specs.Faults.{Report}
use Rattle.file.specs.Number.{number, short, arity_field, cost_field, count_field}
use Rattle.file.specs.Rules.{Entry, taken, many, body, rule, rules}
use Rattle.file.specs.Whole.{opening, closing, file}
use Rattle.file.specs.Limits.{Within}
use Rattle.file.specs.Written.{spelled, written_rule, written, Fits}

number_back : (n : ℕ) (bs : List ℕ) → n < 2097152 → number (spelled n ++ bs) ≡ Ok (n, bs)
unfolding number spelled
number_back n bs h = grind (arith, nat_tests)

short_back : (n : ℕ) (bs : List ℕ) → n ≤ 65535 → short (spelled n ++ bs) ≡ Ok (n, bs)
unfolding short
short_back n bs h = grind (arith, nat_tests, number_back)

arity_back : (n : ℕ) (bs : List ℕ) → n ≤ 4 → arity_field (spelled n ++ bs) ≡ Ok (n, bs)
unfolding arity_field
arity_back n bs h = grind (arith, nat_tests, short_back)

cost_back : (n : ℕ) (bs : List ℕ) → n ≤ 1000000 → cost_field (spelled n ++ bs) ≡ Ok (n, bs)
unfolding cost_field
cost_back n bs h = grind (arith, nat_tests, number_back)

count_back : (xs : List Slot) (n : ℕ) (bs : List ℕ) → n ≤ 65535 → n ≤ free xs → count_field xs (spelled n ++ bs) ≡ Ok (n, bs)
unfolding count_field
count_back xs n bs h k = grind (arith, nat_tests, short_back)

module _ {A : Type 0} (take : List ℕ → Result (A × List ℕ) Report) (Fine : A → Type 0) (write : A → List ℕ) (back : (x : A) (bs : List ℕ) → Fine x → take (write x ++ bs) ≡ Ok (x, bs)) where
  many_back : (xs : List A) (bs : List ℕ) → AllByRecursion Fine xs → many take (length xs) (flat_map write xs ++ bs) ≡ Ok (xs, bs)
  many_back [] bs all = refl
  many_back (x ∷ xs) bs all =
      let b = back x (flat_map write xs ++ bs) all.0 in
      grind (arith, append_assoc, many_back xs bs all.1)

body_back : (size : ℕ) (ws bs : List ℕ) → AllByRecursion (λ f. f ≤ 65535) ws → body size (length ws) (flat_map spelled ws ++ bs) ≡ Ok (ws, bs)
body_back size = many_back (taken field.Body short size) (λ f. f ≤ 65535) spelled (λ n bs h. grind (arith, short_back))

rule_back : (size : ℕ) (e : Entry) (bs : List ℕ) → Within e → rule size (written_rule e ++ bs) ≡ Ok (e, bs)
unfolding rule
rule_back size e bs w = grind (arith, short_back, arity_back, body_back, cost_back, append_assoc)

rules_back : (size : ℕ) (es : List Entry) (bs : List ℕ) → AllByRecursion Within es → rules size (length es) (flat_map written_rule es ++ bs) ≡ Ok (es, bs)
rules_back size = many_back (rule size) Within written_rule (rule_back size)

free_bound : (xs : List Slot) → free xs ≤ 16000
unfolding free
free_bound xs = omega (arith, length-filter is_none (used xs), count_by-le-length is_none (used xs), length-take 16000 xs)

pub file_back : (xs : List Slot) (h : Header) (es : List Entry) → Fits xs h es → file xs (written h es) ≡ Ok (record { header = h; entries = es })
unfolding file opening closing
file_back xs h es f =
    let r = rw (append-nil (flat_map written_rule es)) at (rules_back (length (written h es)) es [] f.within) in
    grind (arith, nat_tests, short_back, count_back, free_bound xs)
