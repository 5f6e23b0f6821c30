use Rattle.std.proofs.Common.{ap}
use Rattle.replay.proofs.Starting.{start_small, start_opens}
use Rattle.replay.proofs.Lawful.{lawful}
use Rattle.replay.proofs.run.run.Goals as goal

pub returns-clause-edits : goal.returns-clause-edits
returns-clause-edits g c =
    let e = c.in_ok-start.ensures.answered in
    let v = c.make_calls.ensures in
    λ _. lawful _ _ _ _ _ (start_small _ _ _ e) _ (start_opens _ _ _ _ e c.in_ok-start.ensures.left) _ _ _ v.replies _ (ap (λ z. z.slots) v.leaves)
