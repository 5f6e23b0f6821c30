-- Floors lie below the weights of derivations.
use Rattle.std.proofs.Common.{◌≡◌, ℕ, true, List, [], ◌∷◌, map, subst}
use Rattle.measure.specs.Ops.{Ops, Laws}
use Rattle.derivation.specs.Rules.{Rule, rule_at, Standing}
use Rattle.derivation.specs.Trees.{Tree, node, Trees, leaf, branch, Derives, DeriveAll, weight, weights}
use Rattle.derivation.specs.Fit.{floor_kept}
use Rattle.derivation.proofs.Weights.{Below, join_right, joined_below}

module _ {W : Type 0} {m : Ops W} (laws : Laws m) (rules : List (Rule W)) (floor : ℕ → W)
    (kept : (r : ℕ) → Standing m rules r → floor_kept m floor (rule_at m rules r) ≡ true) where
  mutual
    pub floor_below : (t : Tree) (f : ℕ) → Derives m rules t f → m.leb (floor f) (weight m rules t) ≡ true
    floor_below (node r ts) f d =
        let P : ℕ → Type 0 = λ x. m.leb (floor x) (weight m rules (node r ts)) ≡ true in
        subst P d.1 (laws.trans _ _ _ (kept r d.0) (join_right laws _ _ _ (joined_below laws _ _ (floors_below ts _ d.2))))

    pub floors_below : (ts : Trees) (fs : List ℕ) → DeriveAll m rules ts fs → Below m (map floor fs) (weights m rules ts)
    floors_below leaf [] d = tt
    floors_below leaf (f ∷ fs) d = absurd d
    floors_below (branch t ts) [] d = absurd d
    floors_below (branch t ts) (f ∷ fs) d = (floor_below t f d.0, floors_below ts fs d.1)
