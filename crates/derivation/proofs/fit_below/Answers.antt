use Rattle.derivation.proofs.Named.{fit_below}
use Rattle.derivation.proofs.fit_below.Goals as goal

pub returns : goal.returns
returns g c = fit_below g.W.Measure.ops
