use Rattle.derivation.proofs.Surveys.{surveyed_at}
use Rattle.derivation.proofs.surveyed.Goals as goal

pub returns : goal.returns
returns g c = surveyed_at g.met.W.Measure.lawful
