use Rattle.std.proofs.Common.{◌≡◌, true, sym, ap, ◌∙◌}
use Rattle.derivation.specs.Fit.{fits, rule_fails, check_rules, rule_fits}
use Rattle.std.specs.Prelude.{Some}
use Rattle.guide.specs.Weighted.{weigh, weighted}
use Rattle.guide.proofs.Fitting.{rules_pass, rules_fail, rules_end, target_first, decides_by}
use Rattle.guide.proofs.fit.check_fit.Goals as goal

pub returns-then-not-rule_fits : goal.returns-then-not-rule_fits
returns-then-not-rule_fits g c =
    let m = g.W.Measure.ops in
    let floor = g.G.Guide.floor c.args.guide.now in
    let rest = g.G.Guide.rest c.args.guide.now in
    let rules = weighted m c.args.sheet.now.slots.now in
    let number = c.loop-number.number in
    let passes : m.leb (rest c.args.target) m.nothing ≡ true = cc in
    let broken = ap (λ r. rule_fits m floor rest (weigh m (Some r))) (sym c.rule_in.ensures) ∙ sym c.rule_fits.ensures ∙ c.if-not-rule_fits.true in
    let first = rules_fail m floor rest c.slots-slots.result.now number c.loop-number-test.true broken in
    let told : check_rules m floor rest rules 0 ≡ rule_fails number =
    ap (λ xs. check_rules m floor rest (weighted m xs) 0) (sym c.slots-slots.ensures) ∙ sym c.loop-number.invariant ∙ first in
    let e = target_first m floor rest rules c.args.target (rule_fails number) passes told in
    record { answered = e; decides = decides_by g.met.W.Measure.lawful floor rest rules c.args.target _ e }

pub loop-number-preserved : goal.loop-number-preserved
loop-number-preserved g c =
    let m = g.W.Measure.ops in
    let floor = g.G.Guide.floor c.args.guide.now in
    let rest = g.G.Guide.rest c.args.guide.now in
    let kept = ap (λ r. rule_fits m floor rest (weigh m (Some r))) (sym c.rule_in.ensures) ∙ sym c.rule_fits.ensures ∙ c.if-not-rule_fits.false in
    sym (rules_pass m floor rest c.slots-slots.result.now c.loop-number.number c.loop-number-test.true kept) ∙ c.loop-number.invariant

pub returns : goal.returns
returns g c =
    let m = g.W.Measure.ops in
    let floor = g.G.Guide.floor c.args.guide.now in
    let rest = g.G.Guide.rest c.args.guide.now in
    let rules = weighted m c.args.sheet.now.slots.now in
    let passes : m.leb (rest c.args.target) m.nothing ≡ true = cc in
    let ended = rules_end m floor rest c.slots-slots.result.now c.loop-number.number c.loop-number-test.false in
    let told : check_rules m floor rest rules 0 ≡ fits =
    ap (λ xs. check_rules m floor rest (weighted m xs) 0) (sym c.slots-slots.ensures) ∙ sym c.loop-number.invariant ∙ ended in
    let e = target_first m floor rest rules c.args.target fits passes told in
    record { answered = e; decides = decides_by g.met.W.Measure.lawful floor rest rules c.args.target _ e }
