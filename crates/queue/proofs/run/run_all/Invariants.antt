use Rattle.std.proofs.Common.{◌≡◌}
use Rattle.queue.proofs.Runs.{Going}
use Rattle.queue.proofs.run.run_all.Given as goal

abbrev pub invariant-loop-i : goal.invariant-loop-i
invariant-loop-i g l =
    (l.held.places.ghost_name ≡ l.initial.held.places.ghost_name)
    × Going g.T.Order.leb l.ops l.initial.held.places.now l.initial.replies l.i l.held.places.now l.replies l.held.count
