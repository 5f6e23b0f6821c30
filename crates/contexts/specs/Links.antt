-- The standing rules linked by their heads.
use Rattle.std.specs.Prelude.{◌≡◌, ℕ, zero, suc, ◌<◌, Bool, true, cond, not, ◌&&◌, List, length, ◌==◌, slice_index}
use Rattle.sheet.specs.Slots.{Slot, rule_at}
use Rattle.derivation.specs.Theorems.{count_below}

-- Whether a rule stands and concludes the group g.
unfoldable pub concludes : List Slot → ℕ → ℕ → Bool
concludes xs g r = not (rule_at xs r).struck && (rule_at xs r).head == g

-- The last rule below n that concludes g: 0 for none, or its number + 1.
abbrev pub last_rule : List Slot → ℕ → ℕ → ℕ
last_rule xs g zero = 0
last_rule xs g (suc n) = cond (concludes xs g n) (suc n) (last_rule xs g n)

-- The rules below n are linked: each group has the last of them that concludes it, and each such rule the one before it.
pub record Linked (xs : List Slot) (first next : List ℕ) (n : ℕ) : Type 0 where
  pub first_at : (g : ℕ) → g < length first → slice_index first g ≡ last_rule xs g n
  pub next_at : (r g : ℕ) → r < n → concludes xs g r ≡ true → slice_index next r ≡ last_rule xs g r

-- How many rules below n conclude g.
abbrev pub concluding : List Slot → ℕ → ℕ → ℕ
concluding xs g n = count_below (concludes xs g) n

-- How many standing rules below n have a head that is not closed.
unfoldable pub open_rules : List Slot → List ℕ → ℕ → ℕ
open_rules xs done n = count_below (λ r. not (rule_at xs r).struck && not (slice_index done (rule_at xs r).head == 1)) n
