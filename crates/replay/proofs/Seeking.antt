-- A search of a sheet: its passing, then the search of the view.
use Rattle.std.proofs.Common.{◌≡◌, ℕ, suc, ◌+◌, ◌-◌, ◌≤◌, Bool, true, false, ◌||◌, eqb, ltb, List, [], ◌∷◌, length, drop, sym, refl, ap, subst, ◌∙◌, inl, inr, arith, length-take}
use Rattle.std.proofs.lemmas.List.{drop-drop}
use Rattle.std.proofs.lemmas.Bool.{cond-true, cond-false, cases_Bool}
use Rattle.std.proofs.lemmas.Bool.Decides.{nat_tests}
use Rattle.measure.specs.Ops.{Ops}
use Rattle.sheet.specs.Slots.{Slot, used, count}
use Rattle.std.specs.Prelude.{None, Some}
use Rattle.sheet.specs.Refusals.{accepted, refused, verdict, after, Told}
use Rattle.sheet.specs.Rules.{within}
use Rattle.sheet.specs.Passing.{scan, pass_answer, pass_view}
use Rattle.search.specs.Answered.{long_enough, search_answer, checked, work_length}
use Rattle.search.specs.Left.{Scratch}
use Rattle.replay.specs.Run.{Lengths, Board, shown, sought, searched}

-- a passing is never refused as out of reach
scan_number : (n k j : ℕ) (vs : List Told) (xs : List Slot) → refused j vs ≡ verdict (scan n k xs) → eqb j 14 ≡ false
scan_number n k j vs [] e = grind (arith, nat_tests)
scan_number n k j vs (None ∷ xs) e = grind (arith, nat_tests)
scan_number n k j vs (Some r ∷ xs) e =
    elim (cases_Bool (within n r)) [
      | inl h ↦ scan_number n (suc k) j vs xs (e ∙ ap verdict (cond-true (within n r) _ _ h))
      | inr h ↦ grind (arith, nat_tests)
    ]

pass_number : (xs : List Slot) (n j : ℕ) (vs : List Told) → refused j vs ≡ pass_answer xs n → eqb j 14 ≡ false
pass_number xs n j vs e =
    elim (cases_Bool (eqb n 0 || ltb 4096 n)) [
      | inl h ↦ grind (arith, nat_tests)
      | inr h ↦ scan_number n 0 j vs (used xs) (e ∙ cond-false _ _ _ h)
    ]

module _ {W : Type 0} (m : Ops W) (floor rest : ℕ → W) (xs : List Slot) (long : Lengths) (facts target : ℕ) where
  pub sought_passed : accepted tt ≡ pass_answer xs facts
      → sought m floor rest xs long facts target ≡ search_answer m floor rest (shown xs) facts target (long_enough facts (length (shown xs)) long.weights long.reasons long.line long.queue long.work)
  unfolding sought
  sought_passed e = ap (λ a. checked a (search_answer m floor rest (shown xs) facts target (long_enough facts (length (shown xs)) long.weights long.reasons long.line long.queue long.work))) (sym e)

-- where the passing is refused, nothing is searched
pub nothing_searched : {W : Type 0} (m : Ops W) (long : Lengths) (floor rest : ℕ → W) (facts target : ℕ) (b : Board W) (n : ℕ) (vs : List Told) → refused n vs ≡ pass_answer b.slots facts
    → b ≡ searched m long floor rest facts target b
unfolding sought
nothing_searched m long floor rest facts target b n vs e =
    let k : eqb n 14 ≡ false = pass_number b.slots facts _ _ e in
    rw (← e) (rw k refl)

-- the columns that searches work in
pub used_from : {X : Type 0} (b : Bool) (n k : ℕ) (before left : List X) → n ≤ k → Scratch b n before left → Scratch true k before left
used_from b n k before left h s =
    let z : n + (k - n) ≡ k = omega arith in record {
      long = s.long;
      beyond = subst (λ (i : ℕ). drop i left ≡ drop i before) z (sym (drop-drop (k - n) n left) ∙ ap (drop (k - n)) s.beyond ∙ drop-drop (k - n) n before);
      kept = λ e. grind arith;
    }

pass_small : (xs : List Slot) (n : ℕ) → accepted tt ≡ pass_answer xs n → n ≤ 4096
pass_small xs n e = grind (arith, nat_tests)

-- what a search of the view may use is among what a search of the sheet may use
module _ (xs : List Slot) (n : ℕ) (old new : List Slot × ℕ) (e : accepted tt ≡ pass_answer xs n) (q : new ≡ pass_view xs n old) where
  shows : ◌≡◌ {A = List Slot × ℕ} new (shown xs, n)
  shows = q ∙ ap (λ a. after a (λ _. (shown xs, n)) old) (sym e)

  pub queue_fits : length new.0 ≤ length xs
  queue_fits = let s : length new.0 ≡ length (shown xs) = ap (λ (p : List Slot × ℕ). length p.0) shows in omega (arith, s, length-take (count xs) xs)

  pub work_fits : work_length new.1 (length new.0) ≤ work_length 4096 (length xs)
  work_fits = let s : new.1 ≡ n = ap (λ (p : List Slot × ℕ). p.1) shows in omega (arith, s, queue_fits, pass_small xs n e)
