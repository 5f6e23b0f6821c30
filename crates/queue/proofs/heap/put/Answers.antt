use Rattle.std.proofs.Common.{◌+◌, ◌-◌, arith}
use Rattle.queue.proofs.Columns.{added_part}
use Rattle.queue.proofs.heap.put.Goals as goal

pub returns : goal.returns
returns g c =
    added_part g.T.Order.leb c.args.queue.now c.args.count c.args.x c.sift_up.new.heap
    (c.args.count + 1 - 0) (omega arith) c.if-count-queue.false
    c.sift_up.ensures.contents c.sift_up.ensures.mends
