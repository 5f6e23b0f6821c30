use Rattle.std.proofs.Common.{◌≡◌, ◌+◌, ◌≤◌, length, take}
use Rattle.search.specs.Waiting.{unready, Filled, entry_at}
use Rattle.search.proofs.Seeding.{seeded}
use Rattle.search.proofs.seed.seed.Given as goal

abbrev pub invariant-loop-number : goal.invariant-loop-number
invariant-loop-number g l = record {
  same : (l.queue.places.ghost_name ≡ l.initial.queue.places.ghost_name) × (length l.queue.places.now ≡ length l.initial.queue.places.now);
  total : l.queue.count + unready (take l.number l.missing) ≤ l.number;
  filled : Filled g.W.Measure.ops (entry_at g.W.Measure.ops (g.G.Guide.rest l.guide) l.sheet.slots.now l.closed.weights.now) (seeded l.sheet.slots.now l.missing l.number) l.queue.places.now l.queue.count;
}
