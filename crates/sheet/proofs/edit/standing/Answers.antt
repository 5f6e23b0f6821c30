use Rattle.std.proofs.Common.{◌<◌, arith}
use Rattle.sheet.specs.Slots.{count}
use Rattle.sheet.proofs.Entered.{count_bound, entered_at}
use Rattle.sheet.proofs.edit.standing.Goals as goal

pub bounds : goal.bounds
bounds c = omega (arith, count_bound c.args.slots.now)

pub returns-in_default : goal.returns-in_default
returns-in_default c =
    let h : c.args.number < count c.args.slots.now = omega arith in
    absurd (c.in_default.not-Some _ (entered_at _ _ h))
