use Rattle.derivation.proofs.Answered.{optimal}
use Rattle.derivation.proofs.optimal.Goals as goal

pub returns : goal.returns
returns g c = optimal g.met.W.Measure.lawful
