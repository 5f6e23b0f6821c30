use Rattle.derivation.proofs.MapGuide.{map_fits}
use Rattle.derivation.proofs.map_fits.Goals as goal

pub returns : goal.returns
returns g c = map_fits g.met.W.Measure.lawful
