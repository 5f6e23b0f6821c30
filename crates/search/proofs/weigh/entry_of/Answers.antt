use Rattle.search.specs.Entries.{rule_entry}
use Rattle.search.proofs.weigh.entry_of.Goals as goal

pub returns : goal.returns
unfolding rule_entry
returns g c = rw (c.join-priority.ensures, c.rest.ensures, c.weight_of-weight.ensures)
