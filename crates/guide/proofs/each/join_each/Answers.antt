use Rattle.std.proofs.Common.{◌≡◌, rules, ◌∙◌, map, ap, subst}
use Rattle.std.proofs.lemmas.Fn.{fold_over, slice_gives, fronts}
use Rattle.derivation.specs.Joins.{joined}
use Rattle.guide.proofs.Joining.{alone, joined_next}
use Rattle.guide.proofs.each.join_each.Goals as goal

pub returns : goal.returns
returns g c of gives normal =
    let m = g.W.Measure.ops in
    subst (λ l. c.fold.result ≡ m.join c.args.start (joined m (map of l))) c.iter.ensures.rest
    (fold_over fronts (λ y. y.now) _ (λ ys w. w ≡ m.join c.args.start (joined m (map of ys))) _
    (λ ys a x b f' j k.
    let next = joined_next g.met.W.Measure.lawful c.args.start of ys x.now in
    let joins : b ≡ m.join a (of x.now) = search (rules, gives) in
    (joins ∙ ap (λ w. m.join w (of x.now)) j ∙ next, search rules))
    _ _ _ _ (slice_gives c.iter.result) (alone g.met.W.Measure.lawful c.args.start normal) c.fold.ensures.ran)
