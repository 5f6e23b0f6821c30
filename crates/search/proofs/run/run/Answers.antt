use Rattle.std.proofs.Common.{refl, sym, ◌∙◌}
use Rattle.std.proofs.lemmas.Bool.{leb-true}
use Rattle.search.proofs.Steps.{loop_start, rule_under}
use Rattle.search.proofs.Turns.{shown_out, turn_head, turn_dropped, turn_found, turn_open, turn_walked}
use Rattle.search.proofs.run.run.Goals as goal

pub loop-entry-init : goal.loop-entry-init
loop-entry-init g c = record {
  same = record { weights = refl; reasons = refl; order = refl; long = refl };
  same_queue = refl;
  facts = c.requires.long.0;
  long = refl;
  turn = loop_start _ _ _ _ _ _ _ _ _ _ _ c.requires.shown c.requires.running c.requires.ready c.requires.room
      c.requires.long.1 c.args.closed.now.reasons_long c.args.closed.now.order_long
      (rw c.requires.long.0 c.args.chains.now.sheet.within) (leb-true _ _ c.args.chains.now.sheet.few);
}

pub returns-in_default-clause-answered : goal.returns-in_default-clause-answered
returns-in_default-clause-answered g c = (shown_out g.met.W.Measure.lawful c.loop-entry.invariant.turn c.in_default.ensures.takes.0).0

pub returns-in_default-clause-shows : goal.returns-in_default-clause-shows
returns-in_default-clause-shows g c = (shown_out g.met.W.Measure.lawful c.loop-entry.invariant.turn c.in_default.ensures.takes.0).1

pub rule_of-head-requires : goal.rule_of-head-requires
rule_of-head-requires g c = rule_under g.met.W.Measure.lawful c.loop-entry.invariant.turn c.in-Some.ensures.takes.0

pub has-requires : goal.has-requires
has-requires g c = turn_head g.met.W.Measure.lawful c.loop-entry.invariant.turn c.in-Some.ensures.takes.0 c.rule_of-head.ensures.is

pub loop-entry-preserved-then-has : goal.loop-entry-preserved-then-has
loop-entry-preserved-then-has g c =
    let inv = c.loop-entry.invariant in
    let out = c.in-Some.ensures.takes.0 in
    record {
      same = inv.same;
      same_queue = c.take.ensures.same ∙ inv.same_queue;
      facts = inv.facts;
      long = out.long ∙ inv.long;
      turn = rw c.in-Some.ensures.takes.1 (turn_dropped g.met.W.Measure.lawful inv.turn out c.rule_of-head.ensures.is (sym c.has.ensures ∙ c.if-has.true));
    }

pub returns-then-is_target-clause-answered : goal.returns-then-is_target-clause-answered
returns-then-is_target-clause-answered g c =
    let v = c.close.ensures in
    (turn_found g.met.W.Measure.lawful c.loop-entry.invariant.turn c.in-Some.ensures.takes.0 c.rule_of-head.ensures.is (sym c.has.ensures ∙ c.if-has.false)
    v.weights v.reasons v.order v.count (sym c.is_target.ensures ∙ c.if-is_target.true)).0

pub returns-then-is_target-clause-shows : goal.returns-then-is_target-clause-shows
returns-then-is_target-clause-shows g c =
    let v = c.close.ensures in
    (turn_found g.met.W.Measure.lawful c.loop-entry.invariant.turn c.in-Some.ensures.takes.0 c.rule_of-head.ensures.is (sym c.has.ensures ∙ c.if-has.false)
    v.weights v.reasons v.order v.count (sym c.is_target.ensures ∙ c.if-is_target.true)).1

pub walk-requires-clause-some : goal.walk-requires-clause-some
walk-requires-clause-some g c = turn_open g.met.W.Measure.lawful c.loop-entry.invariant.turn c.in-Some.ensures.takes.0 c.rule_of-head.ensures.is (sym c.has.ensures ∙ c.if-has.false)

pub loop-entry-preserved : goal.loop-entry-preserved
loop-entry-preserved g c =
    let inv = c.loop-entry.invariant in
    let out = c.in-Some.ensures.takes.0 in
    let v = c.close.ensures in
    let w = c.walk.ensures in
    record {
      same = record { weights = v.same.weights ∙ inv.same.weights; reasons = v.same.reasons ∙ inv.same.reasons; order = v.same.order ∙ inv.same.order; long = v.same.long ∙ inv.same.long };
      same_queue = w.same.0 ∙ c.take.ensures.same ∙ inv.same_queue;
      facts = v.same.long ∙ inv.facts;
      long = w.same.1 ∙ out.long ∙ inv.long;
      turn = turn_walked g.met.W.Measure.lawful inv.turn out c.rule_of-head.ensures.is (sym c.has.ensures ∙ c.if-has.false)
          v.weights v.reasons v.order v.count (sym c.is_target.ensures ∙ c.if-is_target.false) c.walk.auto.missing
          w.left (rw c.in-Some.ensures.takes.1 at w.total) (rw c.in-Some.ensures.takes.1 at w.ready);
    }
