use Rattle.std.proofs.Common.{◌≡◌, ◌+◌, ◌<◌, true, false, length, sym, ap, subst, arith, rules}
use Rattle.std.proofs.lemmas.List.{take_rest}
use Rattle.std.proofs.lemmas.Bool.{and_right}
use Rattle.derivation.specs.Fit.{rest_kept}
use Rattle.std.specs.Prelude.{Some}
use Rattle.sheet.specs.Rules.{body_of}
use Rattle.guide.specs.Weighted.{weigh}
use Rattle.guide.proofs.Fitting.{all_more, all_fails, beside_is}
use Rattle.guide.proofs.Joining.{joined_more}
use Rattle.guide.proofs.fit.keeps.Goals as goal

pub returns-then-not-no_heavier : goal.returns-then-not-no_heavier
returns-then-not-no_heavier g c =
    let m = g.W.Measure.ops in
    let floor = g.G.Guide.floor c.args.guide.now in
    let kept = rest_kept m floor (g.G.Guide.rest c.args.guide.now) (weigh m (Some c.args.rule.now)) in
    let after = take_rest c.body-body.result.now (c.loop-place.place + 1) in
    let before = c.loop-place.invariant.0 in
    let normal : m.norm c.loop-place.before ≡ c.loop-place.before = subst (λ w. m.norm w ≡ w) (sym before) (g.met.W.Measure.lawful.norm_join _ _) in
    let beside = c.join_each-beside.ensures floor (λ f w p. search rules) normal in
    let parts = beside_is g.met.W.Measure.lawful floor c.args.rule.now c.loop-place.place in
    let broken : kept c.loop-place.place ≡ false = cc (before, beside) in
    let e = ap length c.body-body.ensures in
    let inside : c.loop-place.place < length (body_of c.args.rule.now) = omega arith in
    sym (and_right _ _ (all_fails _ c.loop-place.place kept inside broken))

pub loop-place-preserved : goal.loop-place-preserved
loop-place-preserved g c =
    let m = g.W.Measure.ops in
    let floor = g.G.Guide.floor c.args.guide.now in
    let kept = rest_kept m floor (g.G.Guide.rest c.args.guide.now) (weigh m (Some c.args.rule.now)) in
    let after = take_rest c.body-body.result.now (c.loop-place.place + 1) in
    let before = c.loop-place.invariant.0 in
    let normal : m.norm c.loop-place.before ≡ c.loop-place.before = subst (λ w. m.norm w ≡ w) (sym before) (g.met.W.Measure.lawful.norm_join _ _) in
    let beside = c.join_each-beside.ensures floor (λ f w p. search rules) normal in
    let parts = beside_is g.met.W.Measure.lawful floor c.args.rule.now c.loop-place.place in
    let here : kept c.loop-place.place ≡ true = cc (before, beside) in
    let more = joined_more g.met.W.Measure.lawful (m.effort c.args.rule.now.cost) floor c.body-body.result.now c.loop-place.place c.loop-place-test.true in
    (cc (before, more), all_more c.loop-place.place kept c.loop-place.invariant.1 here)
