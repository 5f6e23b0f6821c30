-- What a survey answers and leaves in its columns.
use Rattle.std.specs.Prelude.{◌≡◌, ℕ, ◌<◌, Bool, cond, ◌&&◌, List, [], ◌++◌, drop, None, nat_le, slice_index_or}
use Rattle.measure.specs.Ops.{Ops}
use Rattle.sheet.specs.Slots.{Slot}
use Rattle.sheet.specs.Refusals.{Answer, accepted, refused}
use Rattle.derivation.specs.Search.{State, closed_count, taken_count, weight_of, reason_of}
use Rattle.derivation.specs.Trees.{Derivable, Lightest}
use Rattle.guide.specs.Weighted.{weighted}
use Rattle.search.specs.declared.columns.Counts.{Counts}
use Rattle.search.specs.Shown.{outcome}
use Rattle.search.specs.Answered.{column, work_length}

-- Whether the columns are long enough.
abbrev pub survey_long : ℕ → ℕ → ℕ → ℕ → ℕ → ℕ → Bool
survey_long facts rules weights reasons queue work =
    nat_le facts weights && (nat_le facts reasons && (nat_le rules queue && nat_le (work_length facts rules) work))

module _ {W : Type 0} (m : Ops W) (xs : List Slot) where
  -- The state that a survey ends in: no target, and nothing for every rest.
  abbrev pub explored : State W
  explored = outcome m xs (λ f. m.nothing) None

  -- Both counts, or refused where a column is too short.
  abbrev pub survey_answer : Bool → Answer Counts
  survey_answer long = cond long (accepted (record { closed = closed_count explored; taken = taken_count explored })) (refused 11 [])

  -- The weight and the reason of each fact, and what lies beyond the fact count as it was.
  abbrev pub floors_left : ℕ → Bool → List W → List W
  floors_left facts long ws = cond long (column (weight_of m explored) facts ++ drop facts ws) ws

  abbrev pub causes_left : ℕ → Bool → List ℕ → List ℕ
  causes_left facts long rs = cond long (column (reason_of explored) facts ++ drop facts rs) rs

-- In the words of derivations: a derivable fact has its lightest weight in the column, and any other heaviest.
pub record Floors {W : Type 0} (m : Ops W) (xs : List Slot) (facts : ℕ) (weights : List W) : Type 0 where
  pub lightest : (k : ℕ) → k < facts → Derivable m (weighted m xs) k → Lightest m (weighted m xs) k (slice_index_or weights k m.heaviest)
  pub absent : (k : ℕ) → k < facts → (Derivable m (weighted m xs) k → ⊥) → slice_index_or weights k m.heaviest ≡ m.heaviest
