-- Derivations and their weights.
use Rattle.std.specs.Prelude.{◌≡◌, ℕ, true, List, [], ◌∷◌}
use Rattle.measure.specs.Ops.{Ops}
use Rattle.derivation.specs.Rules.{Rule, rule_at, Standing}
use Rattle.derivation.specs.Joins.{joined}

-- A tree of rule numbers.
mutual
  pub data Tree : Type 0 where
    node : ℕ → Trees → Tree

  pub data Trees : Type 0 where
    leaf : Trees
    branch : Tree → Trees → Trees

module _ {W : Type 0} (m : Ops W) (rules : List (Rule W)) where
  abbrev mutual
    -- A tree derives a fact where its root is a standing rule with that head and its subtrees derive the body, place by place.
    pub Derives : Tree → ℕ → Type 0
    Derives (node r ts) f = Standing m rules r × ((rule_at m rules r).head ≡ f) × DeriveAll ts (rule_at m rules r).body

    pub DeriveAll : Trees → List ℕ → Type 0
    DeriveAll leaf [] = Unit {0}
    DeriveAll leaf (f ∷ fs) = ⊥
    DeriveAll (branch t ts) [] = ⊥
    DeriveAll (branch t ts) (f ∷ fs) = Derives t f × DeriveAll ts fs

  abbrev mutual
    -- The weight of a tree: its root's effort and every subtree's weight, joined.
    pub weight : Tree → W
    weight (node r ts) = m.join (rule_at m rules r).effort (joined m (weights ts))

    pub weights : Trees → List W
    weights leaf = []
    weights (branch t ts) = weight t ∷ weights ts

  -- A fact is derivable where some tree derives it.
  abbrev pub Derivable : ℕ → Type 0
  Derivable f = (t : Tree) × Derives t f

  -- w is no heavier than any derivation of f.
  abbrev pub Least : ℕ → W → Type 0
  Least f w = (t : Tree) → Derives t f → m.leb w (weight t) ≡ true

  -- w is the lightest weight of f: some derivation weighs w, and none weighs less.
  abbrev pub Lightest : ℕ → W → Type 0
  Lightest f w = (t : Tree) × Derives t f × (weight t ≡ w) × Least f w
