use Rattle.derivation.proofs.Examples.{table}
use Rattle.derivation.proofs.worked_examples.Goals as goal

pub returns : goal.returns
returns c = table
