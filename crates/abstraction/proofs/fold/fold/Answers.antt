use Rattle.std.proofs.Common.{length, sym, ap, arith, rules}
use Rattle.std.proofs.lemmas.Bool.{leb-true}
use Rattle.sheet.specs.Refusals.{accepted, answer}
use Rattle.abstraction.proofs.Folding.{free_bound}
use Rattle.abstraction.proofs.Promised.{judged_in, folds_by}
use Rattle.abstraction.proofs.fold.fold.Goals as goal

pub write-requires : goal.write-requires
write-requires c =
    let s = c.args.sheet.now in
    let j = judged_in s.slots.now s.facts c.args.map.now c.args.groups c.args.second.now (sym c.in_ok-check.ensures) in
    omega (arith, free_bound c.args.second.now, j.room, ap length c.slots.ensures)

pub returns-in_err-check-clause-folds : goal.returns-in_err-check-clause-folds
returns-in_err-check-clause-folds c =
    let s = c.args.sheet.now in
    folds_by s.slots.now s.facts c.args.map.now c.args.groups c.args.second.now s.within (leb-true _ _ s.few) c.args.second.now (answer c.from_residual.result) (search rules) (search rules)

pub returns-clause-folds : goal.returns-clause-folds
returns-clause-folds c =
    let s = c.args.sheet.now in
    folds_by s.slots.now s.facts c.args.map.now c.args.groups c.args.second.now s.within (leb-true _ _ s.few) c.write.new.second (accepted tt) c.in_ok-check.ensures (search rules)
