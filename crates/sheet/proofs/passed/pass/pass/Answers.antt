use Rattle.std.proofs.Common.{◌-◌, length, take, sym, ap, ◌∙◌, arith, length-take, rules}
use Rattle.std.proofs.lemmas.Bool.{le-leb}
use Rattle.sheet.specs.Refusals.{after}
use Rattle.sheet.specs.Slots.{count}
use Rattle.sheet.specs.Passing.{seen}
use Rattle.sheet.proofs.Passing.{counted, pass_fits}
use Rattle.sheet.proofs.passed.pass.pass.Goals as goal

pub scan-requires : goal.scan-requires
scan-requires c = rw c.used-slots.ensures (omega (arith, length-take 16000 c.args.slots.now))

pub slice_bounds-view-end : goal.slice_bounds-view-end
slice_bounds-view-end c =
    let h = (counted _ _ _ _ c.used-slots.ensures c.in_ok-count.ensures).ends in search rules

pub invariant_of-view : goal.invariant_of-view
invariant_of-view c =
    let h = counted _ _ _ _ c.used-slots.ensures c.in_ok-count.ensures in
    let m = c.in_ok-count.count - 0 in
    let few = le-leb (length (take m c.used-slots.result.now)) 16000 (omega (arith, h.few, length-take m c.used-slots.result.now)) in
    record { within = h.within_facts; few = few; small = le-leb _ _ c.if-facts-gt-FACT_LIMIT.false }

pub returns : goal.returns
returns c =
    let h = counted _ _ _ _ c.used-slots.ensures c.in_ok-count.ensures in
    let e = pass_fits c.args.facts c.in_ok-count.count c.args.slots.now c.if-facts-eq0.false c.if-facts-gt-FACT_LIMIT.false (rw c.used-slots.ensures at c.in_ok-count.ensures) in
    record {
      answered = sym e;
      left = ap (λ xs. (xs, c.args.facts)) h.shown ∙ sym (ap (λ a. after a (λ _. (take (count c.args.slots.now) c.args.slots.now, c.args.facts)) (seen c.args.view.now)) e);
    }
