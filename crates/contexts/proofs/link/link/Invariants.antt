use Rattle.contexts.specs.Links.{Linked}
use Rattle.contexts.proofs.link.link.Given as goal

abbrev pub invariant-loop-number : goal.invariant-loop-number
invariant-loop-number l = Linked l.sheet.slots.now l.first l.next l.number
