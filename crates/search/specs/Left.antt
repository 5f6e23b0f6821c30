-- What a search leaves in each column.
use Rattle.std.specs.Prelude.{◌≡◌, ℕ, Bool, false, cond, List, ◌++◌, length, drop}
use Rattle.measure.specs.Ops.{Ops}
use Rattle.sheet.specs.Slots.{Slot}
use Rattle.sheet.specs.Refusals.{Answer, after}
use Rattle.derivation.specs.Search.{weight_of, reason_of}
use Rattle.search.specs.declared.columns.Found.{Found}
use Rattle.search.specs.Answered.{column, end, end_line, ran}

module _ {W : Type 0} (m : Ops W) (rest : ℕ → W) (xs : List Slot) (facts target : ℕ) (a : Answer (Found W)) where
  -- Where the search ran, the weight of each fact, and what lies beyond the fact count as it was.
  abbrev pub weights_left : List W → List W
  weights_left ws = cond (ran a) (column (weight_of m (end m rest xs target)) facts ++ drop facts ws) ws

  -- Likewise the reason of each fact.
  abbrev pub reasons_left : List ℕ → List ℕ
  reasons_left rs = cond (ran a) (column (reason_of (end m rest xs target)) facts ++ drop facts rs) rs

  -- Where the target was found, the line, and what lies beyond it as it was.
  abbrev pub line_left : List ℕ → List ℕ
  line_left l = after a (λ _. end_line m rest xs target ++ drop (length (end_line m rest xs target)) l) l

-- The queue or the working column, and whether a search ran: as long as it was, kept beyond the length asked for,
-- and kept whole where none ran.
pub record Scratch {X : Type 0} (ran_it : Bool) (n : ℕ) (before left : List X) : Type 0 where
  pub long : length left ≡ length before
  pub beyond : drop n left ≡ drop n before
  pub kept : ran_it ≡ false → left ≡ before
