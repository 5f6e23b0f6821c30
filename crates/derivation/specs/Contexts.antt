-- Contexts: for each fact the least weight of a chain of moves to the target.
use Rattle.std.specs.Prelude.{◌≡◌, ℕ, zero, suc, ◌<◌, false, cond, List, [], ◌∷◌, ◌++◌, length, slice_index}
use Rattle.measure.specs.Ops.{Ops}
use Rattle.derivation.specs.Rules.{Rule, rule_at, Standing}
use Rattle.derivation.specs.Fit.{beside}
use Rattle.derivation.specs.Search.{survey, weight_of}

-- A move: a rule's number and a place of its body.
pub record Move : Type 0 where
  pub rule : ℕ
  pub place : ℕ

-- A chain of moves from a fact to the target: each move enters a standing rule at one place of its body and leaves it at its head.
abbrev pub Chain : {W : Type 0} → Ops W → List (Rule W) → List Move → ℕ → ℕ → Type 0
Chain m rules [] f target = f ≡ target
Chain m rules (a ∷ moves) f target =
    Standing m rules a.rule
    × (a.place < length (rule_at m rules a.rule).body)
    × (slice_index (rule_at m rules a.rule).body a.place ≡ f)
    × Chain m rules moves (rule_at m rules a.rule).head target

-- The weight of a chain. A move costs what its rule costs beside the place where it enters.
abbrev pub chain_weight : {W : Type 0} → Ops W → (ℕ → W) → List (Rule W) → List Move → W
chain_weight m floor rules [] = m.nothing
chain_weight m floor rules (a ∷ moves) =
    m.join (beside m floor (rule_at m rules a.rule) a.place) (chain_weight m floor rules moves)

-- A move as a rule: it concludes the fact at the place from the head.
abbrev pub move_rule : {W : Type 0} → Ops W → (ℕ → W) → Rule W → ℕ → Rule W
move_rule m floor a i = record { head = slice_index a.body i; body = a.head ∷ []; effort = beside m floor a i; struck = false }

-- The moves of the first n places.
abbrev pub place_rules : {W : Type 0} → Ops W → (ℕ → W) → Rule W → ℕ → List (Rule W)
place_rules m floor a zero = []
place_rules m floor a (suc n) = place_rules m floor a n ++ (move_rule m floor a n ∷ [])

-- The moves of the standing rules, rule by rule.
abbrev pub move_rules : {W : Type 0} → Ops W → (ℕ → W) → List (Rule W) → List (Rule W)
move_rules m floor [] = []
move_rules m floor (a ∷ rules) = cond a.struck [] (place_rules m floor a (length a.body)) ++ move_rules m floor rules

-- The rules of contexts: the target at nothing, then the moves.
unfoldable pub context_rules : {W : Type 0} → Ops W → (ℕ → W) → List (Rule W) → ℕ → List (Rule W)
context_rules m floor rules target =
    record { head = target; body = []; effort = m.nothing; struck = false } ∷ move_rules m floor rules

-- The weight of a fact in a survey of the rules, and in a survey of the rules of contexts.
unfoldable pub surveyed : {W : Type 0} → Ops W → List (Rule W) → ℕ → W
surveyed m rules f = weight_of m (survey m rules) f

unfoldable pub context : {W : Type 0} → Ops W → (ℕ → W) → List (Rule W) → ℕ → ℕ → W
context m floor rules target f = surveyed m (context_rules m floor rules target) f
