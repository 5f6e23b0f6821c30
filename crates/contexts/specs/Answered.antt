-- What the call answers, and what it leaves in its columns.
use Rattle.std.specs.Prelude.{◌≡◌, ℕ, ◌+◌, ◌*◌, ◌<◌, Bool, cond, ◌&&◌, List, [], ◌++◌, get_or, drop, nat_le, nat_lt, slice_index_or}
use Rattle.measure.specs.Ops.{Ops}
use Rattle.sheet.specs.Slots.{Slot}
use Rattle.sheet.specs.Refusals.{Answer, accepted, refused}
use Rattle.derivation.specs.Contexts.{context}
use Rattle.derivation.specs.Maps.{LeastChain}
use Rattle.guide.specs.Weighted.{weighted}
use Rattle.search.specs.Answered.{column, work_length}
use Rattle.search.specs.Entries.{held}

-- The length asked of the queue: a place for the target and one for each place of each body.
abbrev pub queue_length : ℕ → ℕ
queue_length rules = 4 * rules + 1

-- Whether the columns are long enough.
abbrev pub contexts_long : ℕ → ℕ → ℕ → ℕ → ℕ → ℕ → Bool
contexts_long facts rules floors rests queue work =
    nat_le facts floors && (nat_le facts rests && (nat_le (queue_length rules) queue && nat_le (work_length facts rules) work))

-- Whether the contexts are computed: the target is a fact, and the columns are long enough.
abbrev pub computed : ℕ → ℕ → Bool → Bool
computed facts target long = nat_lt target facts && long

-- The target is tested, then the columns.
abbrev pub contexts_answer : ℕ → ℕ → Bool → Answer (Unit {0})
contexts_answer facts target long = cond (nat_lt target facts) (cond long (accepted tt) (refused 11 [])) (refused 10 [])

-- Where they are computed, the context of each fact, and what lies beyond the fact count as it was.
abbrev pub rests_left : {W : Type 0} → Ops W → List W → List Slot → ℕ → ℕ → Bool → List W → List W
rests_left m floors xs facts target done rests =
    cond done (column (context m (held m floors) (weighted m xs) target) facts ++ drop facts rests) rests

-- In the words of chains: each fact has the least weight of a chain to the target, heaviest where there is none, and the target nothing.
pub record Rests {W : Type 0} (m : Ops W) (floors : List W) (xs : List Slot) (facts target : ℕ) (rests : List W) : Type 0 where
  pub least : (k : ℕ) → k < facts → LeastChain m (held m floors) (weighted m xs) target k (slice_index_or rests k m.heaviest)
  pub at_target : get_or rests target m.heaviest ≡ m.nothing
