use Rattle.std.proofs.Common.{◌≡◌, List, map, ap, ◌∙◌, rules}
use Rattle.measure.specs.Ops.{Ops, Laws}
use Rattle.sheet.specs.declared.rule.Rule.{Rule}
use Rattle.sheet.specs.Rules.{body_of}
use Rattle.derivation.specs.Joins.{joined}
use Rattle.search.specs.Entries.{held, rule_weight}
use Rattle.search.proofs.weigh.weight_of.Goals as goal

whole_body : {W : Type 0} {m : Ops W} → Laws m → (r : Rule) (ws : List W)
    → m.join (m.effort r.cost) (joined m (map (held m ws) (body_of r))) ≡ rule_weight m r ws
unfolding rule_weight
whole_body {m = m} laws r ws = ap (λ e. m.join e (joined m (map (held m ws) (body_of r)))) (laws.effort_limit r.cost)

pub returns : goal.returns
returns g c =
    let m = g.W.Measure.ops in
    let laws = g.met.W.Measure.lawful in
    let all = c.join_each.ensures (held m c.args.weights.now) (λ f w p. search rules) (rw c.effort.ensures (laws.norm_effort c.args.rule.now.cost)) in
    all ∙ rw (c.effort.ensures, c.body.ensures) (whole_body laws c.args.rule.now c.args.weights.now)
