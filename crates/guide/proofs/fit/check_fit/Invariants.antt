use Rattle.std.proofs.Common.{◌≡◌, drop}
use Rattle.derivation.specs.Fit.{check_rules}
use Rattle.guide.specs.Weighted.{weighted}
use Rattle.guide.proofs.fit.check_fit.Given as goal

abbrev pub invariant-loop-number : goal.invariant-loop-number
invariant-loop-number g l =
    let m = g.W.Measure.ops in
    let check = check_rules m (g.G.Guide.floor l.guide) (g.G.Guide.rest l.guide) in
    check (weighted m (drop l.number l.slots)) l.number ≡ check (weighted m l.slots) 0
