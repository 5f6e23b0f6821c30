use Rattle.std.proofs.Common.{◌≡◌, take, replicate}
use Rattle.search.proofs.closed.clear.Given as goal

abbrev pub invariant-loop-weight : goal.invariant-loop-weight
invariant-loop-weight g l = take l.weight-index l.weights ≡ replicate l.weight-index g.W.Measure.ops.heaviest
