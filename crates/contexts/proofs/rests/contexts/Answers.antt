use Rattle.std.proofs.Common.{◌≡◌, true, ltb, length, sym, ap, ◌∙◌, arith, rules}
use Rattle.std.proofs.lemmas.Bool.{and_from, lt-ltb}
use Rattle.search.proofs.Refusing.{scratch_left}
use Rattle.contexts.specs.Answered.{contexts_long}
use Rattle.contexts.proofs.Promised.{long_queue, long_work, rests_least}
use Rattle.contexts.proofs.rests.contexts.Goals as goal

pub returns-clause-queues : goal.returns-clause-queues
returns-clause-queues g c =
    let s = c.args.sheet.now in
    let long : contexts_long s.facts (length s.slots.now) (length c.args.floors.now) (length c.args.columns.now.rests.now) (length c.args.columns.now.queue.now) (length c.args.columns.now.work.now) ≡ true =
    sym c.are_long.ensures ∙ c.if-not-are_long.false in
    let low : ltb c.args.target s.facts ≡ true = lt-ltb _ _ (omega (arith, c.if-target-facts.false, c.facts.ensures)) in
    scratch_left _ _ _ _ _ (and_from _ _ low long) (omega (arith, ap length c.slots-rules.ensures)) (long_queue s.facts (length s.slots.now) _ _ _ _ long) c.fill.auto.queue

pub returns-clause-works : goal.returns-clause-works
returns-clause-works g c =
    let s = c.args.sheet.now in
    let long : contexts_long s.facts (length s.slots.now) (length c.args.floors.now) (length c.args.columns.now.rests.now) (length c.args.columns.now.queue.now) (length c.args.columns.now.work.now) ≡ true =
    sym c.are_long.ensures ∙ c.if-not-are_long.false in
    let low : ltb c.args.target s.facts ≡ true = lt-ltb _ _ (omega (arith, c.if-target-facts.false, c.facts.ensures)) in
    scratch_left _ _ _ _ _ (and_from _ _ low long) (omega (arith, c.facts-facts.ensures, ap length c.slots-rules.ensures)) (long_work s.facts (length s.slots.now) _ _ _ _ long) c.fill.auto.work

pub returns-clause-least : goal.returns-clause-least
returns-clause-least g c = λ ok.
    rests_least g.met.W.Measure.lawful _ _ _ _ _ c.args.columns.now.rests.now (omega (arith, c.if-target-facts.false, c.facts.ensures)) (search rules)
