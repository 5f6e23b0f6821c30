use Rattle.std.proofs.Common.{◌≡◌, ℕ, suc, length, get_or, take, sym, refl, ap, ◌∙◌, subst, inl, inr, arith}
use Rattle.std.proofs.lemmas.Bool.{cases_eq, cases_lt}
use Rattle.guide.specs.Weighted.{weighted}
use Rattle.search.specs.Entries.{held}
use Rattle.contexts.specs.Links.{concluding, last_rule}
use Rattle.contexts.specs.Offers.{Follows}
use Rattle.contexts.proofs.Linking.{concludes_parts, concludes_under, last_bound, last_fixed, none_between, concluding_last, link_concludes, link_concluding}
use Rattle.contexts.proofs.Offering.{follows_none, follows_then}
use Rattle.contexts.proofs.spread.spread.Goals as goal

pub loop-number-init : goal.loop-number-init
loop-number-init g c =
    let m = g.W.Measure.ops in
    let xs = c.args.links.now.sheet.slots.now in
    let f = c.args.group in
    let first = c.args.links.now.first.now in
    let e : get_or first f 0 ≡ last_rule xs f (length xs) = c.args.links.now.linked.first_at f (omega (arith, c.requires.known.0, c.args.links.now.first_long)) in
    let k : concluding xs f (get_or first f 0) ≡ concluding xs f (length xs) = ap (concluding xs f) e ∙ concluding_last xs f (length xs) in
    record {
      same = refl;
      long = refl;
      fixed = ap (last_rule xs f) e ∙ last_fixed xs f (length xs) ∙ sym e;
      under = omega (arith, e, last_bound xs f (length xs));
      few = omega (arith, k);
      follows = follows_none m _ _ _ _ _ _ _ (λ r i h. none_between xs f (length xs) r (omega (arith, e, h.1)) (concludes_under xs f r h.0) h.0) _;
    }

pub offer_places-requires : goal.offer_places-requires
offer_places-requires g c =
    let xs = c.args.links.now.sheet.slots.now in
    let f = c.args.group in
    let link = c.loop-number.link in
    let inv = c.loop-number.invariant in
    let is : suc c.in-Some.number ≡ link = omega (arith, c.in-Some.ensures) in
    record {
      known = (omega (arith, inv.under, is), c.requires.known.1);
      stands = (concludes_parts xs f _ (link_concludes xs f _ link is inv.fixed)).0;
      room = omega (arith, inv.few, inv.long, link_concluding xs f _ link is inv.fixed, c.requires.room);
    }

pub loop-number-smaller : goal.loop-number-smaller
loop-number-smaller g c =
    let xs = c.args.links.now.sheet.slots.now in
    let f = c.args.group in
    let n = c.in-Some.number in
    let link = c.loop-number.link in
    let inv = c.loop-number.invariant in
    let is : suc n ≡ link = omega (arith, c.in-Some.ensures) in
    let e = c.args.links.now.linked.next_at n f (omega (arith, inv.under, is)) (link_concludes xs f n link is inv.fixed) in
    omega (arith, e, last_bound xs f n, is)

pub loop-number-preserved : goal.loop-number-preserved
loop-number-preserved g c =
    let m = g.W.Measure.ops in
    let xs = c.args.links.now.sheet.slots.now in
    let f = c.args.group in
    let n = c.in-Some.number in
    let link = c.loop-number.link in
    let inv = c.loop-number.invariant in
    let is : suc n ≡ link = omega (arith, c.in-Some.ensures) in
    let h = link_concludes xs f n link is inv.fixed in
    let next = get_or c.args.links.now.next.now n 0 in
    let e : next ≡ last_rule xs f n = c.args.links.now.linked.next_at n f (omega (arith, inv.under, is)) h in
    let k : concluding xs f next ≡ concluding xs f n = ap (concluding xs f) e ∙ concluding_last xs f n in
    let v = c.offer_places.ensures in
    let one = subst (λ (z : ℕ). Follows m (held m c.args.links.now.floors.now) (weighted m xs) c.args.links.now.sheet.facts c.args.done.now z c.args.weight (λ r _. r ≡ n) (take c.loop-number.queue.count c.loop-number.queue.places.now) (take c.offer_places.new.queue.count c.offer_places.new.queue.places.now)) (concludes_parts xs f n h).1 v.follows in
    record {
      same = v.same.0 ∙ inv.same;
      long = v.same.1 ∙ inv.long;
      fixed = ap (last_rule xs f) e ∙ last_fixed xs f n ∙ sym e;
      under = omega (arith, e, last_bound xs f n, inv.under, is);
      few = omega (arith, v.few, k, inv.few, link_concluding xs f n link is inv.fixed);
      follows = follows_then m _ _ _ _ _ _ _ _ _ _ _ _ inv.follows one
          (λ r i p. elim (cases_eq r n) [
            | inl q ↦ inr q
            | inr q ↦ elim (cases_lt r n) [
              | inl l ↦ absurd (none_between xs f n r (omega (arith, e, p.1)) l p.0)
              | inr l ↦ inl (p.0, omega (arith, q, l, is))
            ]
          ]);
    }
