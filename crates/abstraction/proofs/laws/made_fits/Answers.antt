use Rattle.abstraction.proofs.Fits as fits
use Rattle.abstraction.proofs.laws.made_fits.Goals as goal

pub returns : goal.returns
returns g c = fits.made_fits g.met.W.Measure.lawful
