use Rattle.std.proofs.Common.{◌*◌}
use Rattle.search.specs.Chains.{Chained}
use Rattle.search.proofs.chain.Chains.new.Given as goal

abbrev pub invariant-loop-number : goal.invariant-loop-number
invariant-loop-number l = Chained l.sheet.slots.now l.heads l.next (4 * l.number)
