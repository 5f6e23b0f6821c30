-- Columns made from a map, in the words of derivations and chains, and the fit of the guide over them.
use Rattle.std.specs.Prelude.{◌≡◌, ℕ, ◌<◌, ◌≤◌, List, length, get_or, slice_index, slice_index_or}
use Rattle.measure.specs.Ops.{Ops}
use Rattle.derivation.specs.Rules.{Rule, rule_at, Standing}
use Rattle.derivation.specs.Trees.{Derivable, Lightest}
use Rattle.derivation.specs.Fit.{Fit}
use Rattle.derivation.specs.Maps.{fold_rules, LeastChain}
use Rattle.guide.specs.Map.{by_group}
use Rattle.abstraction.specs.Fold.{group_of}

-- The floors and rests of n groups are those of the rules over groups, with this target.
pub record Made {W : Type 0} (m : Ops W) (rules : List (Rule W)) (facts target : ℕ) (groups : List ℕ) (n : ℕ) (floors rests : List W) : Type 0 where
  -- each fact has one of the n groups
  pub mapped : facts ≤ length groups
  pub grouped : (f : ℕ) → f < facts → group_of groups f < n
  -- each column has an entry for each group
  pub floors_long : n ≤ length floors
  pub rests_long : n ≤ length rests
  -- the floor of a group is its lightest weight by the folded rules, and heaviest where it has no derivation
  pub lightest : (g : ℕ) → g < n → Derivable m (fold_rules (group_of groups) rules) g → Lightest m (fold_rules (group_of groups) rules) g (slice_index_or floors g m.heaviest)
  pub absent : (g : ℕ) → g < n → (Derivable m (fold_rules (group_of groups) rules) g → ⊥) → slice_index_or floors g m.heaviest ≡ m.heaviest
  -- the rest of a group is the least weight of a chain from it to the target's group
  pub least : (g : ℕ) → g < n → LeastChain m (λ k. get_or floors k m.heaviest) (fold_rules (group_of groups) rules) (group_of groups target) g (slice_index_or rests g m.heaviest)

-- The map guide over such columns fits the rules and the target, where standing rules name only facts below the fact count.
abbrev pub MadeFits : {W : Type 0} → Ops W → Type 0
MadeFits {W} m =
    (rules : List (Rule W)) (facts target : ℕ) (groups : List ℕ) (n : ℕ) (floors rests : List W)
    → ((r : ℕ) → Standing m rules r → (rule_at m rules r).head < facts)
    → ((r i : ℕ) → Standing m rules r → i < length (rule_at m rules r).body → slice_index (rule_at m rules r).body i < facts)
    → target < facts
    → Made m rules facts target groups n floors rests
    → Fit m (by_group m groups floors rests) (by_group m groups rests floors) rules target
