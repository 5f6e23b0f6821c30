use Rattle.std.proofs.Common.{set, ap, ◌∙◌, arith}
use Rattle.abstraction.specs.Fold.{group_of, fold_slot}
use Rattle.abstraction.proofs.Folding.{slots_more}
use Rattle.abstraction.proofs.fold.write.Goals as goal

pub loop-number-preserved : goal.loop-number-preserved
loop-number-preserved c =
    let i = c.loop-number.number in
    ap (set c.loop-number.second i) c.fold_slot.ensures
    ∙ slots_more (fold_slot (group_of c.args.map.now)) c.args.slots.now c.args.second.now c.loop-number.second i c.loop-number.invariant c.loop-number-test.true (omega arith)
