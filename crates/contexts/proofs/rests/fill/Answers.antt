use Rattle.std.proofs.Common.{arith}
use Rattle.std.proofs.lemmas.List.FromFn.{fill_by_all}
use Rattle.derivation.specs.Contexts.{context}
use Rattle.derivation.proofs.Chains.{least_chain_is}
use Rattle.guide.specs.Weighted.{weighted}
use Rattle.search.specs.Entries.{held}
use Rattle.contexts.proofs.rests.fill.Goals as goal

pub returns : goal.returns
returns g c =
    let m = g.W.Measure.ops in
    let floor = held m c.args.floors.now in
    let rules = weighted m c.args.sheet.now.slots.now in
    fill_by_all (context m floor rules c.args.target) c.close_all.new.rests _ m.heaviest (omega (arith, c.close_all.auto.rests, c.loop-rest.auto.rests, c.requires.long))
    (λ k _. least_chain_is g.met.W.Measure.lawful floor rules c.args.target k _ (c.close_all.ensures k))
