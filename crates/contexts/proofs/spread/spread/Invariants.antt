use Rattle.std.proofs.Common.{◌≡◌, ◌+◌, ◌*◌, ◌≤◌, true, length, take}
use Rattle.guide.specs.Weighted.{weighted}
use Rattle.search.specs.Entries.{held}
use Rattle.contexts.specs.Links.{concludes, concluding, last_rule}
use Rattle.contexts.specs.Offers.{Follows}
use Rattle.contexts.proofs.spread.spread.Given as goal

abbrev pub invariant-loop-number : goal.invariant-loop-number
invariant-loop-number g l =
    let m = g.W.Measure.ops in
    let xs = l.links.sheet.slots.now in
    let q = l.initial.queue in
    record {
      same : l.queue.places.ghost_name ≡ q.places.ghost_name;
      long : length l.queue.places.now ≡ length q.places.now;
      fixed : last_rule xs l.group l.link ≡ l.link;
      under : l.link ≤ length xs;
      few : l.queue.count + 4 * concluding xs l.group l.link ≤ q.count + 4 * concluding xs l.group (length xs);
      follows : Follows m (held m l.links.floors.now) (weighted m xs) l.links.sheet.facts l.done l.group l.weight (λ k _. (concludes xs l.group k ≡ true) × (l.link ≤ k)) (take q.count q.places.now) (take l.queue.count l.queue.places.now);
    }

abbrev pub decreases-loop-number : goal.decreases-loop-number
decreases-loop-number g l = l.link
