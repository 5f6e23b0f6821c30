use Rattle.std.proofs.Common.{length, ap, ◌∙◌}
use Rattle.search.proofs.Starting.{running_start, shows_start}
use Rattle.search.proofs.explore.explore.Goals as goal

pub run-requires-clause-shown : goal.run-requires-clause-shown
run-requires-clause-shown g c =
    let none = c.reopen.ensures.none in
    rw none.none (shows_start _ _ _ _ _ _ _ none.weights none.reasons)

pub run-requires-clause-running : goal.run-requires-clause-running
run-requires-clause-running g c =
    let none = c.reopen.ensures.none in
    rw (c.new-chains.ensures, none.none)
    (running_start _ c.args.sheet.now.slots.now _ _ _ none.reasons (c.count_missing.auto.missing ∙ c.split_at_mut-missing.ensures.front_len ∙ ap length c.slots.ensures) c.count_missing.ensures)
