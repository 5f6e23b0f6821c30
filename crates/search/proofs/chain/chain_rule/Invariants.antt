use Rattle.std.proofs.Common.{◌+◌, ◌*◌}
use Rattle.search.specs.Chains.{Chained}
use Rattle.search.proofs.chain.chain_rule.Given as goal

abbrev pub invariant-loop-i : goal.invariant-loop-i
invariant-loop-i l = Chained l.sheet.slots.now l.heads l.next (4 * l.number + l.i)
