use Rattle.std.proofs.Common.{◌≡◌, ℕ, ◌+◌, ◌*◌, ◌≤◌, List, length, get_or}
use Rattle.search.specs.Chains.{last_below, uses}
use Rattle.search.specs.Waiting.{unready, Ready}
use Rattle.search.proofs.visit.walk.Given as goal

abbrev pub invariant-loop-link : goal.invariant-loop-link
invariant-loop-link g l =
    let xs = l.chains.sheet.slots.now in
    record {
      same : (l.queue.places.ghost_name ≡ l.initial.queue.places.ghost_name) × (length l.queue.places.now ≡ length l.initial.queue.places.now);
      fixed : last_below xs l.fact l.link ≡ l.link;
      within : l.link ≤ 4 * length xs;
      left : (r : ℕ) → get_or l.missing r 0 + uses xs l.fact r (4 * length xs) ≡ get_or l.initial.missing r 0 + uses xs l.fact r l.link;
      total : l.queue.count + unready l.missing ≡ l.initial.queue.count + unready l.initial.missing;
      ready : (taken : List ℕ) → Ready g.W.Measure.ops (g.G.Guide.rest l.guide) xs l.closed.weights.now taken l.initial.missing l.initial.queue.places.now l.initial.queue.count → Ready g.W.Measure.ops (g.G.Guide.rest l.guide) xs l.closed.weights.now taken l.missing l.queue.places.now l.queue.count;
    }

abbrev pub decreases-loop-link : goal.decreases-loop-link
decreases-loop-link g l = l.link
