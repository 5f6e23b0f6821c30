use Rattle.derivation.proofs.Guides.{blank_fits}
use Rattle.derivation.proofs.blank_fits.Goals as goal

pub returns : goal.returns
returns g c = blank_fits g.met.W.Measure.lawful
