use Rattle.std.proofs.Common.{◌≡◌, true, sym, arith}
use Rattle.std.proofs.lemmas.List.Sorted.{IsPermutation-trans}
use Rattle.std.proofs.lemmas.List.Elements.{pair_read}
use Rattle.queue.proofs.Sifting.{not_later, sink_steps, sink_rests}
use Rattle.queue.proofs.sift.sift_down.Goals as goal

pub returns-then-no_later : goal.returns-then-no_later
returns-then-no_later g c =
    let l = c.loop-place in
    let child = c.least_child-child.result in
    let fits : g.T.Order.leb c.index-heap-place.result c.index-heap-child.result ≡ true = cc c.if-no_later.ensures in
    let fine =
    pair_read l.heap (λ x y. g.T.Order.leb x y ≡ true) l.place child
    c.index-heap-place.result c.index-heap-child.result (omega arith) (omega arith)
    c.index-heap-place.is c.index-heap-child.is fits in
    record {
      contents = l.invariant.1;
      mends = λ below.
          sink_rests g.T.Order.leb g.met.T.Order.linear l.heap l.place child fine
          c.least_child-child.ensures.least (l.invariant.2 below);
    }

pub loop-place-preserved : goal.loop-place-preserved
loop-place-preserved g c =
    let l = c.loop-place in
    let child = c.least_child-child.result in
    let places = c.swap.ensures.by_index in
    let less =
    pair_read l.heap (λ x y. g.T.Order.leb x y ≡ true) child l.place
    c.index-heap-child.result c.index-heap-place.result (omega arith) (omega arith)
    c.index-heap-child.is c.index-heap-place.is
    (not_later g.met.T.Order.linear c.index-heap-place.result c.index-heap-child.result (sym c.if-no_later.ensures)) in (
      omega arith,
      IsPermutation-trans c.args.heap.now l.heap c.swap.new.self l.invariant.1 c.swap.ensures.permutation,
      λ below.
          sink_steps g.T.Order.leb l.heap c.swap.new.self l.place child (omega arith) (omega arith) (omega arith) (omega arith)
          (places.0, places.1, places.2) less c.least_child-child.ensures.least (l.invariant.2 below),
    )
