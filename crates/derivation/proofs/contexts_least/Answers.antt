use Rattle.derivation.proofs.Chains.{contexts_least}
use Rattle.derivation.proofs.contexts_least.Goals as goal

pub returns : goal.returns
returns g c = contexts_least g.met.W.Measure.lawful
