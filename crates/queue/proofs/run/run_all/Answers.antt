use Rattle.std.proofs.Common.{rules, refl, ◌∙◌, subst, sym, arith}
use Rattle.queue.specs.Run.{Made}
use Rattle.queue.proofs.Runs.{goes_on_in, ends}
use Rattle.queue.proofs.run.run_all.Goals as goal

pub loop-i-preserved : goal.loop-i-preserved
loop-i-preserved g c =
    let l = c.loop-i in
    let q = c.answer.new.queue in (
      c.answer.ensures.same ∙ l.invariant.0,
      goes_on_in g.T.Order.leb c.args.ops.now c.new-held.result.places.now c.args.replies.now l.i
          l.held.places.now q.places.now l.replies _ l.held.count q.count
          c.index-ops-i.result c.answer.result c.loop-i-test.true (omega arith) c.index-ops-i.is
          refl l.invariant.1 c.answer.ensures.steps,
    )

-- the column at the end is that of the queue
pub returns : goal.returns
returns g c =
    let l = c.loop-i in
    let made = ends g.T.Order.leb c.args.ops.now c.new-held.result.places.now c.args.replies.now l.i l.held.places.now l.replies l.held.count (omega arith) c.loop-i-test.false (omega arith) l.invariant.1 in
    rw (sym c.new-held.ensures.column) (subst (λ ys. Made g.T.Order.leb c.args.ops.now c.new-held.result.places.now c.args.replies.now ys l.replies l.held.count) (search rules) made)
