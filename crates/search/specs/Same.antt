-- What is lent to a call is the same reference after it.
use Rattle.std.specs.Prelude.{◌≡◌, List, length}
use Rattle.std.specs.Borrow.{MutBor}
use Rattle.search.specs.declared.columns.Columns.{Columns}
use Rattle.search.specs.declared.survey.SurveyColumns.{SurveyColumns}

pub record SameColumns {W : Type 0} (before left : Columns W) : Type 0 where
  pub weights : left.weights.ghost_name ≡ before.weights.ghost_name
  pub reasons : left.reasons.ghost_name ≡ before.reasons.ghost_name
  pub line : left.line.ghost_name ≡ before.line.ghost_name
  pub queue : left.queue.ghost_name ≡ before.queue.ghost_name
  pub work : left.work.ghost_name ≡ before.work.ghost_name

pub record SameSurveyColumns {W : Type 0} (before left : SurveyColumns W) : Type 0 where
  pub weights : left.weights.ghost_name ≡ before.weights.ghost_name
  pub reasons : left.reasons.ghost_name ≡ before.reasons.ghost_name
  pub queue : left.queue.ghost_name ≡ before.queue.ghost_name
  pub work : left.work.ghost_name ≡ before.work.ghost_name

-- A column is the same reference, and as long as it was.
abbrev pub SamePlaces : {X : Type 0} → MutBor (List X) → MutBor (List X) → Type 0
SamePlaces before left = (left.ghost_name ≡ before.ghost_name) × (length left.now ≡ length before.now)
