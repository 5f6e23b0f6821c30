use Rattle.std.proofs.Common.{◌≡◌, ◌-◌, ◌/◌, true, sym, arith}
use Rattle.std.proofs.lemmas.List.Sorted.{IsPermutation-trans}
use Rattle.std.proofs.lemmas.List.Elements.{pair_read}
use Rattle.queue.proofs.Sifting.{not_later, rise_steps}
use Rattle.queue.proofs.sift.sift_up.Goals as goal

pub loop-place-preserved : goal.loop-place-preserved
loop-place-preserved g c =
    let l = c.loop-place in
    let p = (l.place - 1) / 2 in
    let lin = g.met.T.Order.linear in
    let places = c.swap.ensures.by_index in
    let less =
    pair_read l.heap (λ x y. g.T.Order.leb x y ≡ true) l.place p
    c.index-heap-place.result c.index-heap-parent.result (omega arith) (omega arith)
    c.index-heap-place.is c.index-heap-parent.is
    (not_later lin c.index-heap-parent.result c.index-heap-place.result (sym c.if-no_later.ensures)) in (
      omega arith,
      omega arith,
      IsPermutation-trans c.args.heap.now l.heap c.swap.new.self l.invariant.2 c.swap.ensures.permutation,
      λ above.
          rise_steps lin l.heap c.swap.new.self p l.place (omega arith) (omega arith) (omega arith) (omega arith)
          (places.0, places.1, places.2) less (l.invariant.3 above),
    )
