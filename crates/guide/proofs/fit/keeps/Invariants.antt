use Rattle.std.proofs.Common.{◌≡◌, true, map, take}
use Rattle.derivation.specs.Fit.{all_below, rest_kept}
use Rattle.derivation.specs.Joins.{joined}
use Rattle.std.specs.Prelude.{Some}
use Rattle.guide.specs.Weighted.{weigh}
use Rattle.guide.proofs.fit.keeps.Given as goal

abbrev pub invariant-loop-place : goal.invariant-loop-place
invariant-loop-place g l =
    let m = g.W.Measure.ops in
    let floor = g.G.Guide.floor l.guide in
    (l.before ≡ m.join (m.effort l.rule.cost) (joined m (map floor (take l.place l.body))))
    × (all_below l.place (rest_kept m floor (g.G.Guide.rest l.guide) (weigh m (Some l.rule))) ≡ true)
