use Rattle.std.proofs.Common.{◌≡◌, List, length, Ok}
use Rattle.file.specs.Rules.{Entry}
use Rattle.file.specs.Whole.{closing}
use Rattle.file.specs.Entering.{filled}
use Rattle.file.proofs.Filled.{Due}
use Rattle.file.proofs.fill.fill.Given as goal

abbrev pub invariant-loop-slot : goal.invariant-loop-slot
invariant-loop-slot l =
    (l.reader.size ≡ l.initial.reader.size) ×
    ((es : List Entry) → Ok es ≡ closing l.initial.reader.size (length es) l.initial.reader.left.now → Due l.initial.reader.size l.reader.left.now l.slot-index l.slots (filled es l.initial.slots))
