use Rattle.std.proofs.Common.{ℕ, eqb, length, sym, ap, ◌∙◌, arith}
use Rattle.sheet.specs.declared.rule.Rule.{Rule}
use Rattle.sheet.specs.Slots.{rule_at}
use Rattle.contexts.proofs.Linking.{concludes_struck, concludes_is, linked_skip, linked_more, head_under}
use Rattle.contexts.proofs.link.link.Goals as goal

pub loop-number-preserved-then-rule : goal.loop-number-preserved-then-rule
loop-number-preserved-then-rule c =
    let n = c.loop-number.number in
    let is = c.rule_in-rule.ensures ∙ ap (λ z. rule_at z n) c.slots-slot-items.ensures in
    linked_skip n c.loop-number.invariant (concludes_struck c.args.sheet.now.slots.now n (ap (λ (r : Rule). r.struck) (sym is) ∙ c.if-rule.true))

pub bounds-first-head : goal.bounds-first-head
bounds-first-head c =
    let u = head_under _ _ c.args.sheet.now.within c.slots-slot-items.ensures c.loop-number-test.true c.rule_in-rule.ensures c.if-rule.false in
    omega (arith, u, c.requires.first_long, c.loop-number.auto.first)

pub bounds-first-head-in-loop-number : goal.bounds-first-head-in-loop-number
bounds-first-head-in-loop-number c =
    let u = head_under _ _ c.args.sheet.now.within c.slots-slot-items.ensures c.loop-number-test.true c.rule_in-rule.ensures c.if-rule.false in
    omega (arith, u, c.requires.first_long, c.loop-number.auto.first)

pub loop-number-preserved : goal.loop-number-preserved
loop-number-preserved c =
    let xs = c.args.sheet.now.slots.now in
    let n = c.loop-number.number in
    let is = c.rule_in-rule.ensures ∙ ap (λ z. rule_at z n) c.slots-slot-items.ensures in
    let u = head_under _ _ c.args.sheet.now.within c.slots-slot-items.ensures c.loop-number-test.true c.rule_in-rule.ensures c.if-rule.false in
    linked_more n c.loop-number.invariant c.rule_in-rule.result.head
    (omega (arith, u, c.requires.first_long, c.loop-number.auto.first))
    (omega (arith, c.loop-number.auto.next, c.requires.next_long, c.loop-number-test.true, ap length c.slots-slot-items.ensures))
    (λ k. concludes_is xs n (ap (λ (r : Rule). r.struck) (sym is) ∙ c.if-rule.false) k ∙ ap (λ (z : ℕ). eqb z k) (ap (λ (r : Rule). r.head) (sym is)))
