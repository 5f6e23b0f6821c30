use Rattle.derivation.proofs.Answered.{floors}
use Rattle.derivation.proofs.floors_below.Goals as goal

pub returns : goal.returns
returns g c = floors g.met.W.Measure.lawful
