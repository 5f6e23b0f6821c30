use Rattle.std.proofs.Common.{◌≡◌, take, replicate}
use Rattle.contexts.proofs.rests.fill.Given as goal

abbrev pub invariant-loop-rest : goal.invariant-loop-rest
invariant-loop-rest g l = take l.rest-index l.rests ≡ replicate l.rest-index g.W.Measure.ops.heaviest
