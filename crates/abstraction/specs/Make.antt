-- Making a guide: what the call answers, and what it leaves in its columns.
use Rattle.std.specs.Prelude.{ℕ, Bool, cond, ◌&&◌, ◌||◌, List, [], ◌++◌, map, length, take, drop, ◌==◌, nat_le, nat_lt}
use Rattle.measure.specs.Ops.{Ops}
use Rattle.sheet.specs.Slots.{Slot, free}
use Rattle.sheet.specs.Passing.{fact_limit}
use Rattle.sheet.specs.Refusals.{Answer, refused}
use Rattle.derivation.specs.Contexts.{context}
use Rattle.derivation.specs.Search.{weight_of, reason_of}
use Rattle.guide.specs.Weighted.{weighted}
use Rattle.search.specs.Answered.{column, work_length}
use Rattle.search.specs.Entries.{held}
use Rattle.search.specs.Surveyed.{explored}
use Rattle.contexts.specs.Answered.{queue_length}
use Rattle.abstraction.specs.Fold.{group_of, fold_slot, folded, map_answer, second_answer}

-- Whether the map, the floors, the rests, the reasons, the queue and the working column are long enough.
abbrev pub make_long : ℕ → ℕ → ℕ → ℕ → ℕ → ℕ → ℕ → ℕ → ℕ → Bool
make_long facts rules n groups floors rests reasons queue work =
    nat_le facts groups
    && (nat_le n floors && (nat_le n rests && (nat_le n reasons && (nat_le (queue_length rules) queue && nat_le (work_length n rules) work))))

-- The second sheet must be unused, and each of as many first slots as there are rules must be free. Then the number of groups is
-- tested, then the target, the lengths and the map.
abbrev pub make_answer : List Slot → ℕ → ℕ → List ℕ → ℕ → List Slot → Bool → Answer (Unit {0})
make_answer xs facts target groups n second long =
    second_answer second (free (take (length xs) second)) (length xs)
    (cond (n == 0 || nat_lt fact_limit n) (refused 8 [])
    (cond (nat_lt target facts)
    (cond long (map_answer n 0 (take facts groups)) (refused 11 []))
    (refused 10 [])))

-- The rules over groups.
abbrev pub over_groups : List Slot → List ℕ → List Slot
over_groups xs groups = map (fold_slot (group_of groups)) xs

module _ (xs : List Slot) (groups : List ℕ) (done : Bool) where
  -- Where the guide was made, the second sheet holds them, and its slots beyond are as they were.
  abbrev pub second_left : List Slot → List Slot
  second_left second = cond done (folded (group_of groups) xs second) second

  module _ {W : Type 0} (m : Ops W) (n : ℕ) where
    -- The weight of each group in a survey of them, and its reason; beyond the groups a column is as it was.
    abbrev pub floors_left : List W → List W
    floors_left ws = cond done (column (weight_of m (explored m (over_groups xs groups))) n ++ drop n ws) ws

    abbrev pub reasons_left : List ℕ → List ℕ
    reasons_left rs = cond done (column (reason_of (explored m (over_groups xs groups))) n ++ drop n rs) rs

    -- Likewise its context, with the target's group for the target and these floors.
    abbrev pub rests_left : ℕ → List W → List W → List W
    rests_left target floors ws =
        cond done (column (context m (held m (take n floors)) (weighted m (over_groups xs groups)) (group_of groups target)) n ++ drop n ws) ws
