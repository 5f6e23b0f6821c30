use Rattle.std.proofs.Common.{◌∙◌, rules}
use Rattle.search.specs.Answered.{end}
use Rattle.search.proofs.Answering.{rules_stand, weights_are, reasons_are, told_in, found_told, line_drawn}
use Rattle.search.proofs.solve.solve.Goals as goal

pub returns-in_err-counts-clause-weighs : goal.returns-in_err-counts-clause-weighs
returns-in_err-counts-clause-weighs g c =
    let e = weights_are g.W.Measure.ops _ _ _ _ _ _ _ c.in_err-counts.ensures.shows c.args.sheet.now.facts (c.explore.ensures.same.long ∙ c.requires.long.0) in
    search rules

pub returns-in_err-counts-clause-gives : goal.returns-in_err-counts-clause-gives
returns-in_err-counts-clause-gives g c =
    let e = reasons_are g.W.Measure.ops _ _ _ _ _ _ _ c.in_err-counts.ensures.shows c.args.sheet.now.facts (c.explore.new.closed.reasons_long ∙ c.explore.ensures.same.long ∙ c.requires.long.0) in
    search rules

pub finish-requires-clause-stand : goal.finish-requires-clause-stand
finish-requires-clause-stand g c =
    let m = g.W.Measure.ops in
    let s = end m (g.G.Guide.rest c.args.guide.now) c.args.sheet.now.slots.now c.args.target in
    let k = told_in m s c.args.target _ c.in_ok-counts.ensures.answered in
    rw k.closed_is (rules_stand m _ _ _ _ _ _ _ c.in_ok-counts.ensures.shows)

pub returns-clause-answered : goal.returns-clause-answered
returns-clause-answered g c =
    let m = g.W.Measure.ops in
    let s = end m (g.G.Guide.rest c.args.guide.now) c.args.sheet.now.slots.now c.args.target in
    found_told m _ _ _ _ _ _ _ c.in_ok-counts.ensures.shows (told_in m s c.args.target _ c.in_ok-counts.ensures.answered) _ c.finish.ensures.answered

pub returns-clause-weighs : goal.returns-clause-weighs
returns-clause-weighs g c =
    let e = weights_are g.W.Measure.ops _ _ _ _ _ _ _ c.in_ok-counts.ensures.shows c.args.sheet.now.facts (c.explore.ensures.same.long ∙ c.requires.long.0) in
    search rules

pub returns-clause-gives : goal.returns-clause-gives
returns-clause-gives g c =
    let e = reasons_are g.W.Measure.ops _ _ _ _ _ _ _ c.in_ok-counts.ensures.shows c.args.sheet.now.facts (c.explore.new.closed.reasons_long ∙ c.explore.ensures.same.long ∙ c.requires.long.0) in
    search rules

pub returns-clause-draws : goal.returns-clause-draws
returns-clause-draws g c =
    let m = g.W.Measure.ops in
    let s = end m (g.G.Guide.rest c.args.guide.now) c.args.sheet.now.slots.now c.args.target in
    line_drawn m _ _ _ _ _ _ _ c.in_ok-counts.ensures.shows (told_in m s c.args.target _ c.in_ok-counts.ensures.answered) _ _ c.finish.ensures.drawn
