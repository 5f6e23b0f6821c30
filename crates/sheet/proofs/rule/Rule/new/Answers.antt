use Rattle.sheet.proofs.Edits.{places}
use Rattle.sheet.proofs.rule.Rule.new.Goals as goal

pub returns : goal.returns
returns c = rw (c.copy_from_slice.ensures.after, c.min-arity.ensures, places c.args.body.now)
