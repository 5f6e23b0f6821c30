-- What a search answers, and what it leaves in its columns.
use Rattle.std.specs.Prelude.{ℕ, ◌+◌, ◌*◌, Bool, true, cond, ◌&&◌, List, [], ◌∷◌, map, length, Some, None, Option, ◌==◌, nat_le, nat_lt}
use Rattle.std.specs.List.{range_with_len}
use Rattle.measure.specs.Ops.{Ops}
use Rattle.sheet.specs.Slots.{Slot}
use Rattle.sheet.specs.Refusals.{Answer, accepted, refused, closed, taken}
use Rattle.derivation.specs.Fit.{check_fit}
use Rattle.derivation.specs.Search.{State, answer, closed_count, taken_count}
use Rattle.derivation.specs.Line.{line}
use Rattle.guide.specs.Fit.{fit_answer}
use Rattle.guide.specs.Weighted.{weighted}
use Rattle.search.specs.declared.columns.Found.{Found}
use Rattle.search.specs.Shown.{outcome}

-- The values of a function at 0 to n - 1.
abbrev pub column : {A : Type 0} → (ℕ → A) → ℕ → List A
column f n = map f (range_with_len 0 n)

-- The length asked of the working column.
abbrev pub work_length : ℕ → ℕ → ℕ
work_length facts rules = 3 * facts + 5 * rules

-- Whether the columns are long enough.
abbrev pub long_enough : ℕ → ℕ → ℕ → ℕ → ℕ → ℕ → ℕ → Bool
long_enough facts rules weights reasons lines queue work =
    nat_le facts weights && (nat_le facts reasons && (nat_le facts lines && (nat_le rules queue && nat_le (work_length facts rules) work)))

-- Found with the target's weight, both counts and the line's length; or out of reach, with both counts.
abbrev pub told_found : {W : Type 0} → List ℕ → State W → Option W → Answer (Found W)
told_found l s None = refused 14 (closed (closed_count s) ∷ taken (taken_count s) ∷ [])
told_found l s (Some w) = accepted (record { weight = w; closed = closed_count s; taken = taken_count s; line = length l })

-- The answer where the guide's verdict is known.
abbrev pub checked : {A : Type 0} → Answer (Unit {0}) → Answer A → Answer A
checked (accepted u) a = a
checked (refused n vs) a = refused n vs

module _ {W : Type 0} (m : Ops W) (rest : ℕ → W) (xs : List Slot) (target : ℕ) where
  -- The state that the search ends in, and its line.
  abbrev pub end : State W
  end = outcome m xs rest (Some target)

  abbrev pub end_line : List ℕ
  end_line = line m (weighted m xs) end target

-- The target is tested, then the columns (whether they are long enough), then the fit; then the search runs.
unfoldable pub search_answer : {W : Type 0} → Ops W → (ℕ → W) → (ℕ → W) → List Slot → ℕ → ℕ → Bool → Answer (Found W)
search_answer m floor rest xs facts target long =
    cond (nat_lt target facts)
    (cond long
    (checked (fit_answer (check_fit m floor rest (weighted m xs) target) target) (told_found (end_line m rest xs target) (end m rest xs target) (answer m target (end m rest xs target))))
    (refused 11 []))
    (refused 10 [])

-- Whether a search ran: found, or out of reach.
abbrev pub ran : {A : Type 0} → Answer A → Bool
ran (accepted x) = true
ran (refused n vs) = n == 14
