-- When a guide, two functions, floor and rest, from facts to weights, fits the rules and a target.
use Rattle.std.specs.Prelude.{◌≡◌, ℕ, zero, suc, ◌<◌, Bool, true, cond, ◌&&◌, ◌||◌, List, [], ◌∷◌, map, length, slice_index}
use Rattle.measure.specs.Ops.{Ops}
use Rattle.derivation.specs.Rules.{Rule, rule_at, Standing}
use Rattle.derivation.specs.Joins.{joined, without}

-- Whether p holds of each number below n.
abbrev pub all_below : ℕ → (ℕ → Bool) → Bool
all_below zero p = true
all_below (suc n) p = all_below n p && p n

module _ {W : Type 0} (m : Ops W) (floor : ℕ → W) where
  -- What the rule would make of its body's floors is no lighter than its head's floor.
  abbrev pub floor_kept : Rule W → Bool
  floor_kept a = m.leb (floor a.head) (m.join a.effort (joined m (map floor a.body)))

  -- What a rule costs beside one place of its body, with every other place at its floor.
  abbrev pub beside : Rule W → ℕ → W
  beside a i = m.join a.effort (joined m (map floor (without a.body i)))

module _ {W : Type 0} (m : Ops W) (floor rest : ℕ → W) where
  -- From a place there is no more rest than what the rule costs beside it and the rest of its head.
  abbrev pub rest_kept : Rule W → ℕ → Bool
  rest_kept a i = m.leb (rest (slice_index a.body i)) (m.join (beside m floor a i) (rest a.head))

  -- A rule keeps both conditions, the second at each place of its body.
  pub record Keeps (a : Rule W) : Type 0 where
    pub floors : floor_kept m floor a ≡ true
    pub rests : (i : ℕ) → i < length a.body → rest_kept a i ≡ true

  abbrev pub Consistent : List (Rule W) → Type 0
  Consistent rules = (r : ℕ) → Standing m rules r → Keeps (rule_at m rules r)

  -- A guide fits where each standing rule keeps both and the rest of the target counts as nothing.
  pub record Fit (rules : List (Rule W)) (target : ℕ) : Type 0 where
    pub target_rest : m.norm (rest target) ≡ m.nothing
    pub consistent : Consistent rules

  -- Whether a rule is struck or keeps both.
  unfoldable pub rule_fits : Rule W → Bool
  rule_fits a = a.struck || (floor_kept m floor a && all_below (length a.body) (rest_kept a))

-- The verdict of a check of fit: it fits, the target fails, or this rule is the first that fails.
pub data Verdict : Type 0 where
  fits : Verdict
  target_fails : Verdict
  rule_fails : ℕ → Verdict

module _ {W : Type 0} (m : Ops W) (floor rest : ℕ → W) where
  -- The check of the rules, the first of which has the number n.
  abbrev pub check_rules : List (Rule W) → ℕ → Verdict
  check_rules [] n = fits
  check_rules (a ∷ rules) n = cond (rule_fits m floor rest a) (check_rules rules (suc n)) (rule_fails n)

  -- The check: the target, then the rules by number.
  abbrev pub check_fit : List (Rule W) → ℕ → Verdict
  check_fit rules target = cond (m.leb (rest target) m.nothing) (check_rules rules 0) target_fails
