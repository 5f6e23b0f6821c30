use Rattle.std.proofs.Common.{◌≡◌, ℕ, ◌+◌, ◌-◌, ◌*◌, ◌/◌, ◌<◌, length, get_or, sym, refl, ap, ◌∙◌, arith}
use Rattle.search.specs.Chains.{last_below, uses}
use Rattle.search.proofs.Walking.{last_bound, last_fixed, uses_last, holds_stands, link_holds, link_uses, left_next}
use Rattle.search.proofs.visit.walk.Goals as goal

pub loop-link-init : goal.loop-link-init
loop-link-init g c =
    let xs = c.args.chains.now.sheet.slots.now in
    let f = c.args.fact in
    let e : get_or c.args.chains.now.heads.now f 0 ≡ last_below xs f (4 * length xs) = c.args.chains.now.chained.heads_at f (omega (arith, c.requires.known, c.args.chains.now.heads_long)) in
    record {
      same = (refl, refl);
      fixed = ap (last_below xs f) e ∙ last_fixed xs f (4 * length xs) ∙ sym e;
      within = omega (arith, e, last_bound xs f (4 * length xs));
      left = λ r. ap (λ (k : ℕ). get_or c.args.missing.now r 0 + k) (sym (uses_last xs f r (4 * length xs)) ∙ ap (uses xs f r) (sym e));
      total = refl;
      ready = λ taken r. r;
    }

pub visit-requires-clause-stands : goal.visit-requires-clause-stands
visit-requires-clause-stands g c =
    holds_stands _ _ _ (link_holds c.args.chains.now.sheet.slots.now c.args.fact c.loop-link.link c.loop-link-test.true c.loop-link.invariant.fixed)

pub visit-requires-clause-some : goal.visit-requires-clause-some
visit-requires-clause-some g c =
    let q = (c.loop-link.link - 1) / 4 in
    omega (arith, c.loop-link.invariant.left q, c.requires.some q, link_uses c.args.chains.now.sheet.slots.now c.args.fact c.loop-link.link c.loop-link-test.true c.loop-link.invariant.fixed)

pub loop-link-smaller : goal.loop-link-smaller
loop-link-smaller g c =
    let xs = c.args.chains.now.sheet.slots.now in
    let f = c.args.fact in
    let link = c.loop-link.link in
    let inv = c.loop-link.invariant in
    let h = link_holds xs f link c.loop-link-test.true inv.fixed in
    let e = c.args.chains.now.chained.next_at (link - 1) f (omega (arith, inv.within, c.loop-link-test.true)) h in
    omega (arith, e, last_bound xs f (link - 1), c.loop-link-test.true)

pub loop-link-preserved : goal.loop-link-preserved
loop-link-preserved g c =
    let xs = c.args.chains.now.sheet.slots.now in
    let f = c.args.fact in
    let link = c.loop-link.link in
    let inv = c.loop-link.invariant in
    let some = c.loop-link-test.true in
    let h = link_holds xs f link some inv.fixed in
    let e = c.args.chains.now.chained.next_at (link - 1) f (omega (arith, inv.within, some)) h in
    let q = (link - 1) / 4 in
    let p : 0 < get_or c.loop-link.missing q 0 = omega (arith, inv.left q, c.requires.some q, link_uses xs f link some inv.fixed) in
    let v = c.visit.ensures in
    record {
      same = (v.same.0 ∙ inv.same.0, v.same.1 ∙ inv.same.1);
      fixed = ap (last_below xs f) e ∙ last_fixed xs f (link - 1) ∙ sym e;
      within = omega (arith, e, last_bound xs f (link - 1), inv.within);
      left = left_next xs f link some inv.fixed (λ r. get_or c.args.missing.now r 0) (λ r. uses xs f r (4 * length xs)) c.loop-link.missing c.visit.new.missing _
          (omega (arith, inv.within, some, c.loop-link.auto.missing, c.requires.long.0)) inv.left p v.left e;
      total = v.total ∙ inv.total;
      ready = λ taken r. v.ready taken (inv.ready taken r);
    }

pub returns : goal.returns
returns g c =
    let inv = c.loop-link.invariant in
    let z : c.loop-link.link ≡ 0 = omega (arith, c.loop-link-test.false) in
    record {
      same = inv.same;
      left = λ r. inv.left r ∙ ap (λ (k : ℕ). get_or c.args.missing.now r 0 + uses c.args.chains.now.sheet.slots.now c.args.fact r k) z ∙ omega arith;
      total = inv.total;
      ready = inv.ready;
    }
