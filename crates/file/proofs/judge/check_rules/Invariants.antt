use Rattle.std.proofs.Common.{◌≡◌, ◌-◌}
use Rattle.file.specs.Whole.{closing}
use Rattle.file.proofs.Closed.{verdict}
use Rattle.file.proofs.judge.check_rules.Given as goal

abbrev pub invariant-loop-rule : goal.invariant-loop-rule
invariant-loop-rule l =
    (l.reader.size ≡ l.initial.reader.size) ×
    (verdict (closing l.initial.reader.size (l.count - l._rule) l.reader.left.now) ≡ verdict (closing l.initial.reader.size l.count l.initial.reader.left.now))
