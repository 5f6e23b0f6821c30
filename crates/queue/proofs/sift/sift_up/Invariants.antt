use Rattle.std.proofs.Common.{◌≡◌, ◌<◌, length}
use Rattle.std.specs.List.Sorted.{IsPermutation}
use Rattle.queue.specs.Heap.{Above}
use Rattle.queue.proofs.Sifting.{Rising}
use Rattle.queue.proofs.sift.sift_up.Given as goal

abbrev pub invariant-loop-place : goal.invariant-loop-place
invariant-loop-place g l =
    (l.place < length l.heap) × (length l.heap ≡ length l.initial.heap) × IsPermutation l.initial.heap l.heap
    × (Above g.T.Order.leb l.initial.heap → Rising g.T.Order.leb l.heap l.place)

abbrev pub decreases-loop-place : goal.decreases-loop-place
decreases-loop-place g l = l.place
