use Rattle.derivation.proofs.Explored.{exact_at}
use Rattle.derivation.proofs.exact.Goals as goal

pub returns : goal.returns
returns g c = exact_at g.met.W.Measure.lawful
