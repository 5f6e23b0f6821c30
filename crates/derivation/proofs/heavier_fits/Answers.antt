use Rattle.derivation.proofs.Guides.{heavier_fits}
use Rattle.derivation.proofs.heavier_fits.Goals as goal

pub returns : goal.returns
returns g c = heavier_fits g.met.W.Measure.lawful
