use Rattle.derivation.proofs.Checked.{decided_at}
use Rattle.derivation.proofs.decided.Goals as goal

pub returns : goal.returns
returns g c = decided_at g.met.W.Measure.lawful
