use Rattle.std.proofs.Common.{length, sym, ap, ◌∙◌, arith, rules}
use Rattle.search.proofs.Promised.{floors}
use Rattle.search.proofs.Refusing.{scratch_left, long_parts}
use Rattle.search.proofs.survey.survey.Goals as goal

pub returns-clause-queues : goal.returns-clause-queues
returns-clause-queues g c =
    let long = sym c.are_long.ensures ∙ c.if-not-are_long.false in
    scratch_left _ _ _ _ _ long (ap length c.slots-rules.ensures) (long_parts c.args.sheet.now.facts (length c.args.sheet.now.slots.now) (length c.args.columns.now.weights.now) (length c.args.columns.now.reasons.now) (length c.args.columns.now.queue.now) (length c.args.columns.now.work.now) long).for_queue c.survey_slots.auto.queue

pub returns-clause-works : goal.returns-clause-works
returns-clause-works g c =
    let long = sym c.are_long.ensures ∙ c.if-not-are_long.false in
    scratch_left _ _ _ _ _ long (omega (arith, c.facts-facts.ensures, ap length c.slots-rules.ensures)) (long_parts c.args.sheet.now.facts (length c.args.sheet.now.slots.now) (length c.args.columns.now.weights.now) (length c.args.columns.now.reasons.now) (length c.args.columns.now.queue.now) (length c.args.columns.now.work.now) long).for_work c.survey_slots.auto.work

pub returns-clause-floors : goal.returns-clause-floors
returns-clause-floors g c = λ _. floors g.met.W.Measure.lawful c.args.sheet.now.slots.now c.args.sheet.now.facts _ c.args.columns.now.weights.now (search rules)
