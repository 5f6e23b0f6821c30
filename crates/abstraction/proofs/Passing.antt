-- Slots that all hold rules within a fact count pass whole.
use Rattle.std.proofs.Common.{◌≡◌, ℕ, suc, ◌+◌, ◌-◌, ◌<◌, ◌≤◌, true, false, ◌||◌, eqb, ltb, List, [], ◌∷◌, map, length, take, drop, refl, ap, ◌∙◌, arith}
use lib.ListN.{length-map}
use Rattle.std.proofs.lemmas.List.{take_all, take_at}
use Rattle.std.proofs.lemmas.Bool.{and_parts, both_ways, cond-true, cond-false, or_from, ne_eqb, le-ltb}
use Rattle.sheet.specs.Slots.{Slot, fulls, count, passes}
use Rattle.std.specs.Prelude.{None, Some}
use Rattle.sheet.specs.Passing.{scan, pass_answer, pass_view}
use Rattle.sheet.specs.Refusals.{accepted, after, verdict}
use Rattle.sheet.specs.Rules.{within}
use Rattle.abstraction.specs.Fold.{fold_slot, folded}

scan_whole : (n k : ℕ) (xs : List Slot) → passes n xs ≡ true → scan n k xs ≡ accepted (k + length xs)
scan_whole n k [] h = ap accepted (omega arith)
scan_whole n k (None ∷ xs) h = absurd (both_ways false refl h)
scan_whole n k (Some r ∷ xs) h =
    let p = and_parts (within n r) (passes n xs) h in
    let e : suc k + length xs ≡ k + suc (length xs) = omega arith in
    cond-true (within n r) _ _ p.0 ∙ scan_whole n (suc k) xs p.1 ∙ ap accepted e

fulls_whole : (n : ℕ) (xs : List Slot) → passes n xs ≡ true → fulls xs ≡ length xs
fulls_whole n [] h = refl
fulls_whole n (None ∷ xs) h = absurd (both_ways false refl h)
fulls_whole n (Some r ∷ xs) h = omega (arith, fulls_whole n xs (and_parts (within n r) (passes n xs) h).1)

module _ (n : ℕ) (xs : List Slot) (some : 0 < n) (limit : n ≤ 4096) (few : length xs ≤ 16000) (h : passes n xs ≡ true) where
  count_whole : count xs ≡ length xs
  unfolding count
  count_whole = ap fulls (take_all 16000 xs few) ∙ fulls_whole n xs h

  pub pass_accepts : pass_answer xs n ≡ accepted tt
  pass_accepts =
      cond-false (eqb n 0 || ltb 4096 n) _ _ (or_from _ _ (ne_eqb n 0 (λ e. omega arith)) (le-ltb 4096 n limit))
      ∙ ap (λ ys. verdict (scan n 0 ys)) (take_all 16000 xs few)
      ∙ ap verdict (scan_whole n 0 xs h)

  pub pass_shows : (old : List Slot × ℕ) → pass_view xs n old ≡ (xs, n)
  pass_shows old =
      ap (λ a. after a (λ _. (take (count xs) xs, n)) old) pass_accepts
      ∙ ap (λ ys. (ys, n)) (take_all (count xs) xs (omega (arith, count_whole)))

-- what folding writes into a second sheet, passed
module _ (group : ℕ → ℕ) {xs slots left : List Slot} (second : List Slot) {n : ℕ} (some : 0 < n) (limit : n ≤ 4096) (few : length xs ≤ 16000)
    (h : passes n (map (fold_slot group) xs) ≡ true) (same : slots ≡ xs) (wrote : left ≡ folded group slots second) where
  begins : take (length slots - 0) left ≡ map (fold_slot group) xs
  begins =
      ap (take (length slots - 0)) wrote
      ∙ take_at (map (fold_slot group) slots) (drop (length slots) second) (length slots - 0) (length-map slots (fold_slot group) ∙ omega arith)
      ∙ ap (map (fold_slot group)) same

  mapped_few : length (map (fold_slot group) xs) ≤ 16000
  mapped_few = omega (arith, length-map xs (fold_slot group))

  pub written_accepted : pass_answer (take (length slots - 0) left) n ≡ accepted tt
  written_accepted = ap (λ ys. pass_answer ys n) begins ∙ pass_accepts n (map (fold_slot group) xs) some limit mapped_few h

  pub written_shown : (old : List Slot × ℕ) → pass_view (take (length slots - 0) left) n old ≡ (map (fold_slot group) xs, n)
  written_shown old = ap (λ ys. pass_view ys n old) begins ∙ pass_shows n (map (fold_slot group) xs) some limit mapped_few h old
