use Rattle.std.proofs.Common.{set, sym, ap, arith}
use Rattle.std.specs.Prelude.{Some}
use Rattle.sheet.specs.Refusals.{after}
use Rattle.sheet.specs.Rules.{made}
use Rattle.sheet.proofs.Edits.{body_fits, cost_fits, enter_full, enter_fits}
use Rattle.sheet.proofs.Entered.{none_free, some_free}
use Rattle.sheet.proofs.edit.enter.Goals as goal

pub returns-then-number-min : goal.returns-then-number-min
returns-then-number-min c =
    let xs = c.args.slots.now in
    let b = body_fits _ c.in_ok-check_body.ensures in
    let p = cost_fits _ c.in_ok-check_cost.ensures in
    let e = enter_full xs c.args.body.now c.args.cost b p (none_free xs (omega arith)) in
    record { answered = sym e; left = sym (ap (λ a. after a (λ n. set xs n (Some (made c.args.head c.args.body.now c.args.cost))) xs) e) }

pub returns : goal.returns
returns c =
    let xs = c.args.slots.now in
    let b = body_fits _ c.in_ok-check_body.ensures in
    let p = cost_fits _ c.in_ok-check_cost.ensures in
    let e = enter_fits xs c.args.body.now c.args.cost b p (some_free xs (omega arith)) in
    record { answered = rw c.entered-number.ensures (sym e); left = rw (c.entered-number.ensures, c.new.ensures) (sym (ap (λ a. after a (λ n. set xs n (Some (made c.args.head c.args.body.now c.args.cost))) xs) e)) }
