use Rattle.std.proofs.Common.{◌∙◌, rules}
use Rattle.search.proofs.Answering.{weights_are, reasons_are}
use Rattle.search.proofs.survey.survey_slots.Goals as goal

pub returns-in-Err-clause-weighs : goal.returns-in-Err-clause-weighs
returns-in-Err-clause-weighs g c =
    let e = weights_are g.W.Measure.ops _ _ _ _ _ _ _ c.in-Err.ensures.shows c.args.sheet.now.facts (c.explore.ensures.same.long ∙ c.requires.0) in
    search rules

pub returns-in-Err-clause-gives : goal.returns-in-Err-clause-gives
returns-in-Err-clause-gives g c =
    let e = reasons_are g.W.Measure.ops _ _ _ _ _ _ _ c.in-Err.ensures.shows c.args.sheet.now.facts (c.explore.new.closed.reasons_long ∙ c.explore.ensures.same.long ∙ c.requires.0) in
    search rules
