use Rattle.std.proofs.Common.{◌≡◌, Ok, ◌∙◌, rules, arith, length-set}
use Rattle.file.specs.declared.fault.Field.TheVariants as field
use Rattle.file.specs.Number.{short}
use Rattle.file.specs.Rules.{taken}
use Rattle.file.proofs.Body.{body_more}
use Rattle.file.proofs.rules.take_body.Goals as goal

pub loop-fact-preserved : goal.loop-fact-preserved
loop-fact-preserved c =
    let l = c.loop-fact in
    let x = c.in_ok-fact.field-0 in
    let got : Ok (x, c.field.new.self.left.now) ≡ taken field.Body short c.args.reader.now.size l.reader.left.now = search rules in
    (search rules, rw (length-set l.body l.fact-index x) (body_more _ _ _ _ l.body _ _ (omega arith) (omega arith) got ∙ l.invariant.1))
