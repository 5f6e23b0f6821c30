use Rattle.std.proofs.Common.{rules, ◌≡◌, nat_lt, arith, tests}
use Rattle.std.proofs.lemmas.Bool.Decides.{nat_tests}
use Rattle.std.proofs.lemmas.Iterator.{YieldsList-from_slice}
use Rattle.std.proofs.lemmas.Iterator.Search.{all_from_yields_List}
use Rattle.sheet.specs.Rules.{all_below, body_of}
use Rattle.sheet.proofs.rule.Rule.is_within.Goals as goal

pub returns-then-self-facts : goal.returns-then-self-facts
returns-then-self-facts c =
    let e = all_from_yields_List (λ x. nat_lt x c.args.facts) _ _ c.all.result c.all.ensures.ran (YieldsList-from_slice c.body.result.now cc) (λ x b q k. search (rules, tests)) in
    let f : c.all.result ≡ all_below c.args.facts (body_of c.args.self.now) = rw c.body.ensures at e in
    grind (arith, nat_tests, f)
