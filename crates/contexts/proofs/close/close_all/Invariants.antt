use Rattle.std.proofs.Common.{◌≡◌, ◌+◌, ◌*◌, ◌≤◌, length, take}
use Rattle.guide.specs.Weighted.{weighted}
use Rattle.search.specs.Entries.{held}
use Rattle.contexts.specs.Closing.{Closing}
use Rattle.contexts.specs.Links.{open_rules}
use Rattle.contexts.proofs.close.close_all.Given as goal

abbrev pub invariant-loop-entry : goal.invariant-loop-entry
invariant-loop-entry g l =
    let m = g.W.Measure.ops in
    let s = l.links.sheet in
    record {
      columns : (length l.rests ≡ s.facts) × (length l.done ≡ s.facts);
      closing : Closing m (held m l.links.floors.now) (weighted m s.slots.now) s.facts l.target l.rests l.done (take l.queue.count l.queue.places.now);
      room : l.queue.count + 4 * open_rules s.slots.now l.done (length s.slots.now) ≤ length l.queue.places.now;
    }

abbrev pub decreases-loop-entry : goal.decreases-loop-entry
decreases-loop-entry g l = l.queue.count + 4 * open_rules l.links.sheet.slots.now l.done (length l.links.sheet.slots.now)
