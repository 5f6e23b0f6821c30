use Rattle.std.proofs.Common.{sym, ◌∙◌}
use Rattle.guide.proofs.Fitting.{struck_fits, standing_fits}
use Rattle.guide.proofs.fit.rule_fits.Goals as goal

pub returns-then-rule : goal.returns-then-rule
returns-then-rule g c = c.if-rule.true ∙ sym (struck_fits _ _ _ _ c.if-rule.true)

pub returns-else-rule : goal.returns-else-rule
returns-else-rule g c = c.keeps.ensures ∙ sym (standing_fits _ _ _ _ c.if-rule.false)
