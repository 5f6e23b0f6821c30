use Rattle.std.proofs.Common.{◌≡◌, ◌+◌, ◌-◌, sym, subst, arith, rules}
use Rattle.std.proofs.lemmas.List.{take_rest}
use Rattle.guide.proofs.Fitting.{beside_is}
use Rattle.search.specs.Entries.{held}
use Rattle.contexts.proofs.moves.move_weight.Goals as goal

pub returns : goal.returns
returns g c =
    let m = g.W.Measure.ops in
    let laws = g.met.W.Measure.lawful in
    let floor = held m c.args.floors.now in
    let place = c.args.place in
    let all : place - 0 ≡ place = omega arith in
    let after = take_rest c.body-body.result.now (place + 1) in
    let parts = beside_is laws floor c.args.rule.now place in
    let before = c.join_each-before.ensures floor (λ f w p. search rules) (rw c.effort.ensures (laws.norm_effort c.args.rule.now.cost)) in
    let normal : m.norm c.join_each-before.result ≡ c.join_each-before.result = subst (λ w. m.norm w ≡ w) (sym before) (laws.norm_join _ _) in
    let beside = c.join_each-beside.ensures floor (λ f w p. search rules) normal in
    cc (before, beside)
