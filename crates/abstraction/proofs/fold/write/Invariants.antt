use Rattle.std.proofs.Common.{◌≡◌, map}
use lib.Seq.{paste}
use Rattle.abstraction.specs.Fold.{group_of, fold_slot}
use Rattle.abstraction.proofs.fold.write.Given as goal

abbrev pub invariant-loop-number : goal.invariant-loop-number
invariant-loop-number l = l.second ≡ paste l.initial.second 0 (map (fold_slot (group_of l.map)) l.slots) l.number
