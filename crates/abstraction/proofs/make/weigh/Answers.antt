use Rattle.std.proofs.Common.{◌+◌, ◌*◌, ◌≤◌, length, rules, arith}
use Rattle.abstraction.proofs.Making.{scratch_then}
use Rattle.abstraction.proofs.make.weigh.Goals as goal

pub returns-clause-queues : goal.returns-clause-queues
returns-clause-queues g c =
    let few : length c.args.view.now.slots.now ≤ 4 * length c.args.view.now.slots.now + 1 = omega arith in
    scratch_then few c.survey.ensures.queues (search rules) c.contexts.ensures.queues (search rules)
