use Rattle.std.proofs.Common.{◌≡◌, rules}
use Rattle.sheet.specs.Slots.{rule_at}
use Rattle.sheet.proofs.Within.{passes_at, within_parts}
use Rattle.search.proofs.rules.rule_of.Goals as goal

pub returns-clause-known : goal.returns-clause-known
returns-clause-known c =
    let xs = c.args.sheet.now.slots.now in
    let n = c.args.number in
    let e : c.rule_in.result ≡ rule_at xs n = search rules in
    rw e (within_parts c.args.sheet.now.facts (rule_at xs n) (passes_at c.args.sheet.now.facts xs n c.args.sheet.now.within c.requires).1)
