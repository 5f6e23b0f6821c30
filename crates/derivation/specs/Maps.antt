-- Guides made from a map: the facts are put into groups, and the groups are surveyed.
use Rattle.std.specs.Prelude.{◌≡◌, ℕ, true, false, cond, List, map}
use Rattle.measure.specs.Ops.{Ops}
use Rattle.derivation.specs.Rules.{Rule}
use Rattle.derivation.specs.Fit.{Fit}
use Rattle.derivation.specs.Contexts.{Move, Chain, chain_weight, surveyed, context}

-- A rule over groups instead of facts. A struck rule is left alone.
abbrev pub fold_rule : {W : Type 0} → (ℕ → ℕ) → Rule W → Rule W
fold_rule group a =
    cond a.struck a (record { head = group a.head; body = map group a.body; effort = a.effort; struck = false })

-- The rules over groups, each under the number that it had over facts.
abbrev pub fold_rules : {W : Type 0} → (ℕ → ℕ) → List (Rule W) → List (Rule W)
fold_rules group rules = map (fold_rule group) rules

-- The floor of a group is its weight in a survey of the folded rules; its rest is its context there.
abbrev pub group_floor : {W : Type 0} → Ops W → List (Rule W) → (ℕ → ℕ) → ℕ → W
group_floor m rules group g = surveyed m (fold_rules group rules) g

abbrev pub group_rest : {W : Type 0} → Ops W → List (Rule W) → (ℕ → ℕ) → ℕ → ℕ → W
group_rest m rules group target g = context m (group_floor m rules group) (fold_rules group rules) (group target) g

-- w is the least weight of a chain from f to the target, and heaviest where there is none.
pub record LeastChain {W : Type 0} (m : Ops W) (floor : ℕ → W) (rules : List (Rule W)) (target f : ℕ) (w : W) : Type 0 where
  pub least : (moves : List Move) → Chain m rules moves f target → m.leb w (chain_weight m floor rules moves) ≡ true
  pub attained :
      (moves : List Move) → Chain m rules moves f target
      → (best : List Move) × Chain m rules best f target × (chain_weight m floor rules best ≡ w)
  pub absent : ((moves : List Move) → Chain m rules moves f target → ⊥) → w ≡ m.heaviest

-- Contexts give each fact the least weight of a chain to the target, and the target nothing.
abbrev pub ContextsLeast : {W : Type 0} → Ops W → Type 0
ContextsLeast {W} m =
    (rules : List (Rule W)) (floor : ℕ → W) (target : ℕ)
    → ((f : ℕ) → LeastChain m floor rules target f (context m floor rules target f))
    × (context m floor rules target target ≡ m.nothing)

-- A guide made from any map fits the rules that were folded.
abbrev pub MapFits : {W : Type 0} → Ops W → Type 0
MapFits {W} m =
    (rules : List (Rule W)) (group : ℕ → ℕ) (target : ℕ)
    → Fit m (λ f. group_floor m rules group (group f)) (λ f. group_rest m rules group target (group f)) rules target
