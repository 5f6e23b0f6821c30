use Rattle.std.proofs.Common.{arith, rules}
use Rattle.file.specs.Whole.{file}
use Rattle.file.proofs.Faithful.{faithful, entered_so}
use Rattle.file.proofs.read.Goals as goal

pub returns-in_err-header-clause-faithful : goal.returns-in_err-header-clause-faithful
unfolding file
returns-in_err-header-clause-faithful c = faithful _ _ _ _ (search rules) (search rules) (λ i. let f = c.type_inv.bytes i in omega arith)

pub returns-in_err-check_rules-clause-faithful : goal.returns-in_err-check_rules-clause-faithful
unfolding file
returns-in_err-check_rules-clause-faithful c = faithful _ _ _ _ (search rules) (search rules) (λ i. let f = c.type_inv.bytes i in omega arith)

pub returns-clause-left : goal.returns-clause-left
returns-clause-left c =
    let r = c.take_opening.new.reader in
    entered_so _ _ _ r.size (λ i. let f = c.type_inv.bytes i in omega arith) (search rules) (search rules) ((c.in_ok-header.header, c.in_ok-header.count), r.left.now) (search rules) (search rules) (search rules)

pub returns-clause-faithful : goal.returns-clause-faithful
unfolding file
returns-clause-faithful c = faithful _ _ _ _ (search rules) (returns-clause-left c) (λ i. let f = c.type_inv.bytes i in omega arith)
