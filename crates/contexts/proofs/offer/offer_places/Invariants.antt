use Rattle.std.proofs.Common.{◌≡◌, ◌+◌, ◌<◌, ◌≤◌, length, take}
use Rattle.guide.specs.Weighted.{weighted}
use Rattle.search.specs.Entries.{held}
use Rattle.sheet.specs.Slots.{rule_at}
use Rattle.contexts.specs.Offers.{Follows}
use Rattle.contexts.proofs.offer.offer_places.Given as goal

abbrev pub invariant-loop-place : goal.invariant-loop-place
invariant-loop-place g l =
    let m = g.W.Measure.ops in
    let xs = l.links.sheet.slots.now in
    let q = l.initial.queue in
    record {
      same : l.queue.places.ghost_name ≡ q.places.ghost_name;
      long : length l.queue.places.now ≡ length q.places.now;
      few : l.queue.count ≤ q.count + l.place;
      follows : Follows m (held m l.links.floors.now) (weighted m xs) l.links.sheet.facts l.done (rule_at xs l.number).head l.weight (λ k i. (k ≡ l.number) × (i < l.place)) (take q.count q.places.now) (take l.queue.count l.queue.places.now);
    }
