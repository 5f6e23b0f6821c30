use Rattle.std.proofs.Common.{◌≡◌, drop}
use Rattle.sheet.specs.Passing.{scan}
use Rattle.sheet.proofs.passed.pass.scan.Given as goal

abbrev pub invariant-loop-i : goal.invariant-loop-i
invariant-loop-i l = scan l.facts l.i (drop l.i l.slots) ≡ scan l.facts 0 l.slots
