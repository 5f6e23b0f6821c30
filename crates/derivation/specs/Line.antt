-- The line of a search, and the derivation that it stands for.
use Rattle.std.specs.Prelude.{ℕ, cond, List, [], ◌∷◌, ◌++◌, reverse, ◌==◌}
use Rattle.measure.specs.Ops.{Ops}
use Rattle.derivation.specs.Rules.{Rule, rule_at}
use Rattle.derivation.specs.Trees.{Tree, node, Trees, leaf, branch}
use Rattle.derivation.specs.Search.{Closed, State, among, no_reason}

module _ {W : Type 0} (m : Ops W) (rules : List (Rule W)) where
  -- Going back from the last closed fact: the rules of those that are needed. A rule's body is needed where its head is.
  abbrev pub unwound : List (Closed W) → List ℕ → List ℕ
  unwound [] needed = []
  unwound (c ∷ cs) needed =
      cond (among needed c.fact) (c.rule ∷ unwound cs ((rule_at m rules c.rule).body ++ needed)) (unwound cs needed)

  -- The line: what a derivation of the target uses of the closed list, oldest first, the target's own rule at the end.
  abbrev pub line : State W → ℕ → List ℕ
  line s target = reverse (unwound s.closed (target ∷ []))

-- One tree for each fact of a body.
abbrev pub subtrees : (ℕ → Tree) → List ℕ → Trees
subtrees tree [] = leaf
subtrees tree (f ∷ fs) = branch (tree f) (subtrees tree fs)

module _ {W : Type 0} (m : Ops W) (rules : List (Rule W)) where
  -- The tree for a fact from the rules of a line, the last first: the rule that concludes the fact,
  -- over the trees for its body from the rules before it.
  abbrev pub tree_for : List ℕ → ℕ → Tree
  tree_for [] f = node no_reason leaf
  tree_for (r ∷ rs) f =
      cond ((rule_at m rules r).head == f) (node r (subtrees (tree_for rs) (rule_at m rules r).body)) (tree_for rs f)

  abbrev pub tree_back : List ℕ → Tree
  tree_back [] = node no_reason leaf
  tree_back (r ∷ rs) = node r (subtrees (tree_for rs) (rule_at m rules r).body)

  -- The derivation that a line stands for. The last rule is the root; every fact of a body is derived by the rule of the line that concludes it.
  abbrev pub line_tree : List ℕ → Tree
  line_tree rs = tree_back (reverse rs)
