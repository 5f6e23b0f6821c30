use Rattle.std.proofs.Common.{◌≡◌, ◌-◌, length}
use Rattle.std.specs.List.Sorted.{IsPermutation}
use Rattle.queue.specs.Heap.{Below}
use Rattle.queue.proofs.Sifting.{Sinking}
use Rattle.queue.proofs.sift.sift_down.Given as goal

abbrev pub invariant-loop-place : goal.invariant-loop-place
invariant-loop-place g l =
    (length l.heap ≡ length l.initial.heap) × IsPermutation l.initial.heap l.heap
    × (Below g.T.Order.leb l.initial.heap → Sinking g.T.Order.leb l.heap l.place)

abbrev pub decreases-loop-place : goal.decreases-loop-place
decreases-loop-place g l = length l.initial.heap - l.place
