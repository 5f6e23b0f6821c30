use Rattle.std.proofs.Common.{◌-◌, arith, rules}
use Rattle.queue.proofs.Columns.{removed_part}
use Rattle.queue.proofs.heap.take.Goals as goal

pub returns : goal.returns
returns g c =
    let places = c.swap.ensures.by_index in
    removed_part g.T.Order.leb g.met.T.Order.linear c.args.queue.now c.args.count
    c.swap.new.self c.sift_down.new.heap _ (c.args.count - 1 - 0) (omega arith)
    (omega arith) (omega arith) (places.0, places.1, places.2) (places.3 _) c.swap.ensures.len
    (search rules) c.sift_down.ensures.contents c.sift_down.ensures.mends
