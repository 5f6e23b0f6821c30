use Rattle.std.proofs.Common.{◌-◌, ◌<◌, length, sym, refl, ap, add-zero, arith}
use Rattle.sheet.specs.Slots.{rule_at}
use Rattle.sheet.proofs.Within.{below_at}
use Rattle.search.proofs.Chains.{body_bound, chained_skips, names_struck, names_beyond, link_step}
use Rattle.search.proofs.chain.chain_rule.Goals as goal

pub returns-then-rule : goal.returns-then-rule
returns-then-rule c =
    let s = rw c.rule_of-rule.ensures.is at c.if-rule.true in
    chained_skips c.args.sheet.now.slots.now c.args.heads.now c.args.next.now c.args.number 0 4 refl (λ j f _. names_struck (rule_at c.args.sheet.now.slots.now c.args.number) s j f) (rw add-zero c.requires.chained)

pub loop-i-preserved : goal.loop-i-preserved
loop-i-preserved c =
    let w = below_at c.args.sheet.now.facts c.body-fact-items.result.now c.loop-i.i (rw c.body-fact-items.ensures (c.rule_of-rule.ensures.known c.if-rule.false).1) c.loop-i-test.true in
    let b : c.loop-i.i < 4 = omega (arith, body_bound c.rule_of-rule.result, ap length c.body-fact-items.ensures) in
    link_step c.args.sheet.now.slots.now c.args.number c.loop-i.i _ _ c.rule_of-rule.ensures.is c.if-rule.false c.body-fact-items.ensures c.loop-i-test.true
    c.loop-i.heads c.loop-i.next c.loop-i.invariant (omega (arith, c.loop-i.auto.heads, c.requires.long.0, w)) (omega (arith, c.loop-i.auto.next, c.requires.known, c.requires.long.1))

pub returns : goal.returns
returns c =
    let b = body_bound c.rule_of-rule.result in
    let e = ap length c.body-fact-items.ensures in
    chained_skips c.args.sheet.now.slots.now c.loop-i.heads c.loop-i.next c.args.number c.loop-i.i (4 - c.loop-i.i) (omega (arith, c.loop-i.auto.i-end))
    (λ j f l. rw (sym c.rule_of-rule.ensures.is) (names_beyond c.rule_of-rule.result j f (omega (arith, c.loop-i-test.false)))) c.loop-i.invariant
