use Rattle.derivation.proofs.Answered.{agree}
use Rattle.derivation.proofs.agree.Goals as goal

pub returns : goal.returns
returns g c = agree g.met.W.Measure.lawful
