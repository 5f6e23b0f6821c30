use Rattle.std.proofs.Common.{sym, refl}
use Rattle.replay.proofs.Starting.{start_small}
use Rattle.replay.proofs.Lawful.{whole_by}
use Rattle.replay.proofs.replay.replay.Goals as goal

pub returns-clause-promises : goal.returns-clause-promises
returns-clause-promises g c =
    let u = c.in_ok-run.ensures in
    let v = c.seek.ensures in
    λ e o. whole_by _ _ _ _ _ (start_small _ _ _ (sym e)) _ refl c.args.calls.now g.met.W.Measure.lawful _ _ _ _ o _ e _ _ _ _ u.leaves u.lengths _ v.answered v.leaves
