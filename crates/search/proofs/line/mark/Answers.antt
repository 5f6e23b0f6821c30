use Rattle.std.proofs.Common.{length, arith}
use Rattle.sheet.proofs.Within.{below_at}
use Rattle.search.proofs.Unwinding.{marks_more}
use Rattle.search.proofs.line.mark.Goals as goal

pub loop-fact-preserved : goal.loop-fact-preserved
loop-fact-preserved c =
    marks_more c.args.body.now c.loop-fact.needed c.args.needed.now c.loop-fact.fact-index c.loop-fact-test.true
    (omega (arith, below_at (length c.args.needed.now) c.args.body.now c.loop-fact.fact-index c.requires c.loop-fact-test.true, c.loop-fact.auto.needed))
    c.loop-fact.invariant
