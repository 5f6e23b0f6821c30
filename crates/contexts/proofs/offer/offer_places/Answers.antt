use Rattle.std.proofs.Common.{◌≡◌, length, get_or, ap, ◌∙◌, inl, inr, arith}
use Rattle.std.proofs.lemmas.Bool.{cases_eq}
use Rattle.sheet.specs.declared.rule.Rule.{Rule}
use Rattle.std.specs.Prelude.{Some}
use Rattle.sheet.specs.Rules.{body_of}
use Rattle.sheet.specs.Slots.{rule_at}
use Rattle.derivation.specs.Fit.{beside}
use Rattle.guide.specs.Weighted.{weigh}
use Rattle.search.specs.Entries.{held}
use Rattle.contexts.proofs.Offering.{follows_then}
use Rattle.contexts.proofs.Places.{place_under, place_follows}
use Rattle.contexts.proofs.offer.offer_places.Goals as goal

pub offer-requires-clause-known : goal.offer-requires-clause-known
offer-requires-clause-known g c =
    let s = c.args.links.now.sheet in
    let i = c.loop-place.place in
    let whole = c.body-group-items.ensures ∙ ap body_of (c.rule_in-rule.ensures ∙ ap (λ l. rule_at l c.args.number) c.slots.ensures) in
    let u = place_under s.slots.now c.args.number _ s.within c.requires.known.0 c.requires.stands i (omega (arith, c.loop-place-test.true, ap length whole)) in
    omega (arith, u, ap (λ z. get_or z i 0) whole, c.requires.known.1)

pub loop-place-preserved : goal.loop-place-preserved
loop-place-preserved g c =
    let m = g.W.Measure.ops in
    let s = c.args.links.now.sheet in
    let n = c.args.number in
    let i = c.loop-place.place in
    let floor = held m c.args.links.now.floors.now in
    let is : c.rule_in-rule.result ≡ rule_at s.slots.now n = c.rule_in-rule.ensures ∙ ap (λ l. rule_at l n) c.slots.ensures in
    let weighs = c.move_weight-through.ensures ∙ ap (λ (r : Rule). m.join (beside m floor (weigh m (Some r)) i) c.args.weight) is in
    let one =
    place_follows s.slots.now n _ s.within c.requires.known.0 c.requires.stands g.met.W.Measure.lawful c.args.links.now.floors.now c.args.done.now c.args.weight i _ _
    (c.body-group-items.ensures ∙ ap body_of is) c.loop-place-test.true weighs _ _ c.offer.ensures.offers in
    let inv = c.loop-place.invariant in
    record {
      same = c.offer.ensures.same.0 ∙ inv.same;
      long = c.offer.ensures.same.1 ∙ inv.long;
      few = omega (arith, c.offer.ensures.few, inv.few);
      follows = follows_then m _ _ _ _ _ _ _ _ _ _ _ _ inv.follows one
          (λ r k h. elim (cases_eq k i) [ inl e ↦ inr (h.0, e) | inr e ↦ inl (h.0, omega (arith, h.1, e)) ]);
    }
