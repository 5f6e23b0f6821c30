use Rattle.std.proofs.Common.{◌≡◌, ◌+◌, length}
use Rattle.search.specs.ClosedFacts.{SameClosed}
use Rattle.search.specs.Waiting.{unready}
use Rattle.search.proofs.Steps.{Loop}
use Rattle.search.proofs.run.run.Given as goal

abbrev pub invariant-loop-entry : goal.invariant-loop-entry
invariant-loop-entry g l = record {
  same : SameClosed l.initial.closed l.closed;
  same_queue : l.queue.places.ghost_name ≡ l.initial.queue.places.ghost_name;
  facts : length l.closed.weights.now ≡ l.chains.sheet.facts;
  long : length l.queue.places.now ≡ length l.initial.queue.places.now;
  turn : Loop g.W.Measure.ops l.chains.sheet.slots.now (g.G.Guide.rest l.guide) l.target l.closed.weights.now l.closed.reasons.now l.closed.order.now l.missing l.queue.places.now l.queue.count l.closed.count l.taken;
}

abbrev pub decreases-loop-entry : goal.decreases-loop-entry
decreases-loop-entry g l = l.queue.count + unready l.missing
