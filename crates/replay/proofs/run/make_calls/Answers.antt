use borrow.Author.Rules.{scaled_Fits}
use Rattle.std.proofs.Common.{length, arith, rules}
use Rattle.replay.proofs.Running.{goes_on, written, left_again}
use Rattle.replay.proofs.run.make_calls.Goals as goal

pub offset_bounds-replies-i : goal.offset_bounds-replies-i
offset_bounds-replies-i g c = scaled_Fits _ (length c.args.replies.now) _ (omega (arith, c.requires, c.loop-i-test.true)) (search rules)

pub loop-i-preserved : goal.loop-i-preserved
loop-i-preserved g c =
    let l = c.loop-i in
    let v = c.run_one-reply.ensures in record {
      going = goes_on _ _ _ _ _ _ _ _ _ _ _ _ _ _ c.loop-i-test.true (omega (arith, c.requires)) c.index-calls-i.is l.invariant.columns.lengths v.replies v.leaves l.invariant.going;
      columns = left_again _ _ _ _ _ l.auto.slots l.invariant.columns v.columns;
    }

pub returns-clause-replies : goal.returns-clause-replies
returns-clause-replies g c = written _ _ _ _ _ _ _ _ _ _ (omega arith) c.loop-i.auto.replies c.loop-i.invariant.going
