use Rattle.std.proofs.Common.{◌-◌, sym, subst}
use Rattle.queue.specs.Run.{Step}
use Rattle.queue.specs.declared.run.Reply.TheVariants.{Added, Taken}
use Rattle.queue.proofs.Runs.{put_steps, take_steps}
use Rattle.queue.proofs.run.answer.Goals as goal

pub returns-in-Ok-clause-steps : goal.returns-in-Ok-clause-steps
returns-in-Ok-clause-steps g c =
    let leb = g.T.Order.leb in
    let q = c.args.queue.now in
    let r = c.put.new.self in
    subst (λ o. Step leb o q.places.now q.count r.places.now Added r.count) (sym c.in-Put.is)
    (put_steps leb q.places.now q.count (q.within, q.ordered) c.in-Put.x r.places.now r.count c.in-Ok.ensures.puts)

pub returns-in-Some-clause-steps : goal.returns-in-Some-clause-steps
returns-in-Some-clause-steps g c =
    let leb = g.T.Order.leb in
    let q = c.args.queue.now in
    let r = c.take.new.self in
    let e = c.in-Some.ensures.takes in
    rw e.1 (subst (λ o. Step leb o q.places.now q.count r.places.now (Taken c.in-Some.x) (q.count - 1)) (sym c.in-Take.is)
    (take_steps leb q.places.now q.count (q.within, q.ordered) c.in-Some.x r.places.now e.0))
