use Rattle.std.proofs.Common.{◌≡◌, length, Err, sym, ap, ◌∙◌, arith, rules}
use Rattle.std.proofs.lemmas.Result.{err_from_is_err_and}
use Rattle.std.proofs.lemmas.Bool.{leb-true}
use Rattle.sheet.specs.Refusals.{refused, number, told, answer}
use Rattle.search.specs.Answered.{ran}
use Rattle.search.proofs.Promised.{promised, promise_of_refusal}
use Rattle.search.proofs.Refusing.{target_answer, short_answer, unfit_answer, run_told, unfit_number, told_ran, scratch_left, line_short, rest_short, all_long, long_parts}
use Rattle.search.proofs.find.search.Goals as goal
use Rattle.search.proofs.find.search.Goals.{then-columns-facts-via-then-columns-facts, then-columns-facts-via-else-columns-facts+then-not-are_long}

pub returns-then-target-facts-clause-answered : goal.returns-then-target-facts-clause-answered
returns-then-target-facts-clause-answered g c = sym (target_answer _ _ _ _ _ _ _ (omega arith))

pub returns-then-columns-facts-clause-answered : goal.returns-then-columns-facts-clause-answered
returns-then-columns-facts-clause-answered g c =
    let k = c.args.columns.now in
    elim c.then-columns-facts.branch [
      | then-columns-facts-via-then-columns-facts w ↦ sym (short_answer _ _ _ _ _ _ _ (omega arith) (line_short c.args.sheet.now.facts _ _ _ (length c.args.columns.now.line.now) _ _ (omega arith)))
      | then-columns-facts-via-else-columns-facts+then-not-are_long w ↦ sym (short_answer _ _ _ _ _ _ _ (omega arith) (rest_short c.args.sheet.now.facts (length c.args.sheet.now.slots.now) (length k.weights.now) (length k.reasons.now) (length k.line.now) (length k.queue.now) (length k.work.now) (sym w.are_long.ensures ∙ w.if-not-are_long.true)))
    ]

pub returns-in_err-check_fit-clause-answered : goal.returns-in_err-check_fit-clause-answered
returns-in_err-check_fit-clause-answered g c =
    let p = err_from_is_err_and c.from_residual.result c.from_residual.ensures.1 in
    ap answer (p.1 ∙ ap Err p.2)
    ∙ sym (unfit_answer _ _ _ _ _ _ _ (omega arith) (all_long c.args.sheet.now.facts _ _ _ (length c.args.columns.now.line.now) _ _ (omega arith) (sym c.are_long.ensures ∙ c.if-not-are_long.false)) _ _ c.in_err-check_fit.ensures.answered)

pub returns-in_err-check_fit-clause-promises : goal.returns-in_err-check_fit-clause-promises
returns-in_err-check_fit-clause-promises g c =
    let p = err_from_is_err_and c.from_residual.result c.from_residual.ensures.1 in
    let a : answer c.from_residual.result ≡ refused (number c.in_err-check_fit.field-0.0) (told c.in_err-check_fit.field-0.0) = ap answer (p.1 ∙ ap Err p.2) in
    promise_of_refusal _ _ _ _ _ _ _ _ _ (ap ran a ∙ unfit_number _ _ _ _ c.in_err-check_fit.ensures.answered)

pub returns-clause-answered : goal.returns-clause-answered
returns-clause-answered g c =
    c.solve.ensures.answered ∙ sym (run_told _ _ _ _ _ _ _ (omega arith) (all_long c.args.sheet.now.facts _ _ _ (length c.args.columns.now.line.now) _ _ (omega arith) (sym c.are_long.ensures ∙ c.if-not-are_long.false)) c.in_ok-check_fit.ensures.answered)

pub returns-clause-queues : goal.returns-clause-queues
returns-clause-queues g c =
    let l = long_parts c.args.sheet.now.facts (length c.args.sheet.now.slots.now) (length c.args.columns.now.weights.now) (length c.args.columns.now.reasons.now) (length c.args.columns.now.queue.now) (length c.args.columns.now.work.now) (sym c.are_long.ensures ∙ c.if-not-are_long.false) in
    scratch_left _ _ _ _ _ (told_ran _ _ _ _ c.solve.ensures.answered) (ap length c.slots-rules.ensures) l.for_queue c.solve.auto.queue

pub returns-clause-works : goal.returns-clause-works
returns-clause-works g c =
    let l = long_parts c.args.sheet.now.facts (length c.args.sheet.now.slots.now) (length c.args.columns.now.weights.now) (length c.args.columns.now.reasons.now) (length c.args.columns.now.queue.now) (length c.args.columns.now.work.now) (sym c.are_long.ensures ∙ c.if-not-are_long.false) in
    scratch_left _ _ _ _ _ (told_ran _ _ _ _ c.solve.ensures.answered) (omega (arith, c.facts-facts.ensures, ap length c.slots-rules.ensures)) l.for_work c.solve.auto.work

pub returns-clause-promises : goal.returns-clause-promises
returns-clause-promises g c =
    let a = c.solve.ensures.answered ∙ sym (run_told g.W.Measure.ops (g.G.Guide.floor c.args.guide.now) (g.G.Guide.rest c.args.guide.now) c.args.sheet.now.slots.now c.args.sheet.now.facts c.args.target _ (omega arith) (all_long c.args.sheet.now.facts (length c.args.sheet.now.slots.now) (length c.args.columns.now.weights.now) (length c.args.columns.now.reasons.now) (length c.args.columns.now.line.now) (length c.args.columns.now.queue.now) (length c.args.columns.now.work.now) (omega arith) (sym c.are_long.ensures ∙ c.if-not-are_long.false)) c.in_ok-check_fit.ensures.answered) in
    promised g.met.W.Measure.lawful (g.G.Guide.floor c.args.guide.now) _ _ _ _ c.args.sheet.now.within (leb-true _ _ c.args.sheet.now.few) _ _ a
    _ c.args.columns.now.weights.now _ c.args.columns.now.reasons.now _ c.args.columns.now.line.now (search rules) (search rules) (search rules)
