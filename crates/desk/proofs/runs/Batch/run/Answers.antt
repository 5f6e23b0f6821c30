use Rattle.std.proofs.Common.{length, arith}
use Rattle.desk.proofs.Starting.{runs_accepted}
use Rattle.desk.proofs.runs.Batch.run.Goals as goal

pub unwrap-requires : goal.unwrap-requires
unwrap-requires g c =
    let few = c.args.self.now.few_slots in
    let room = c.args.self.now.enough_replies in
    runs_accepted c.run-result.result (length c.deref_mut.result.now) (length c.deref.result.now) (length c.deref_mut-2.result.now) c.run-result.ensures.answered (omega (arith, c.deref_mut.ensures.len, few)) (omega (arith, c.deref.ensures.len, c.deref_mut-2.ensures.len, room))
