use Rattle.abstraction.proofs.Reading.{weighted_written}
use Rattle.abstraction.proofs.laws.folded_weighted.Goals as goal

pub returns : goal.returns
returns g c = λ group. weighted_written group g.W.Measure.ops
