use Rattle.std.proofs.Common.{◌<◌, length, take, ap, ◌∙◌, arith}
use Rattle.std.proofs.lemmas.List.{length-replicate}
use Rattle.search.specs.Entries.{held}
use Rattle.guide.specs.Weighted.{weighted}
use Rattle.contexts.proofs.Linking.{standing_concludes, open_bound, open_fewer}
use Rattle.contexts.proofs.Closing.{closing_start, ended, group_under, dropped, closed_by, taken_out}
use Rattle.contexts.proofs.close.close_all.Goals as goal

pub loop-entry-init : goal.loop-entry-init
loop-entry-init g c =
    let m = g.W.Measure.ops in
    let s = c.args.links.now.sheet in
    let new = c.new-queue.result in
    let marks = ap length c.requires.cleared.1 ∙ length-replicate s.facts 0 in
    record {
      columns = (ap length c.requires.cleared.0 ∙ length-replicate s.facts m.heaviest, marks);
      closing = closing_start g.met.W.Measure.lawful (held m c.args.links.now.floors.now) (weighted m s.slots.now) s.facts c.args.target _ _ _ _
          c.requires.cleared.0 c.requires.cleared.1 c.requires.target _ _ _ c.nothing.ensures (ap (λ k. take k new.places.now) c.new-queue.ensures.none) c.offer.ensures.offers;
      room = omega (arith, c.offer.ensures.few, c.offer.ensures.same.1, c.new-queue.ensures.none, ap length c.new-queue.ensures.column, open_bound s.slots.now c.args.done.now (length s.slots.now), c.requires.room);
    }

pub bounds-done-group : goal.bounds-done-group
bounds-done-group g c =
    let inv = c.loop-entry.invariant in
    omega (arith, group_under g.met.W.Measure.lawful _ _ _ _ _ _ _ inv.closing _ _ (taken_out c.in-Some.ensures.takes), inv.columns)

pub close-requires : goal.close-requires
close-requires g c =
    let inv = c.loop-entry.invariant in
    let u = group_under g.met.W.Measure.lawful _ _ _ _ _ _ _ inv.closing _ _ (taken_out c.in-Some.ensures.takes) in
    (omega (arith, u, inv.columns), omega (arith, u, inv.columns))

pub loop-entry-preserved-then-done-group-eq1 : goal.loop-entry-preserved-then-done-group-eq1
loop-entry-preserved-then-done-group-eq1 g c =
    let inv = c.loop-entry.invariant in
    let out = c.in-Some.ensures.takes in
    record {
      columns = inv.columns;
      closing = dropped g.met.W.Measure.lawful _ _ _ _ _ _ _ inv.closing _ _ (taken_out out) c.if-done-group-eq1.true;
      room = omega (arith, inv.room, out.1, out.0.some, out.0.long);
    }

pub spread-requires : goal.spread-requires
spread-requires g c =
    let xs = c.args.links.now.sheet.slots.now in
    let inv = c.loop-entry.invariant in
    let out = c.in-Some.ensures.takes in
    let u = group_under g.met.W.Measure.lawful _ _ _ _ _ _ _ inv.closing _ _ (taken_out out) in
    let fewer = open_fewer xs c.loop-entry.done c.in-Some.entry.rule (omega (arith, u, inv.columns)) c.if-done-group-eq1.false _ c.close.ensures.done (length xs) in
    record {
      known = (u, c.close.auto.done ∙ inv.columns.1);
      room = omega (arith, fewer, inv.room, out.0.some, out.0.long, out.1);
    }

pub loop-entry-smaller : goal.loop-entry-smaller
loop-entry-smaller g c =
    let xs = c.args.links.now.sheet.slots.now in
    let inv = c.loop-entry.invariant in
    let out = c.in-Some.ensures.takes in
    let u = group_under g.met.W.Measure.lawful _ _ _ _ _ _ _ inv.closing _ _ (taken_out out) in
    let fewer = open_fewer xs c.loop-entry.done c.in-Some.entry.rule (omega (arith, u, inv.columns)) c.if-done-group-eq1.false _ c.close.ensures.done (length xs) in
    omega (arith, c.spread.ensures.few, fewer, out.0.some, out.1)

pub loop-entry-preserved : goal.loop-entry-preserved
loop-entry-preserved g c =
    let m = g.W.Measure.ops in
    let s = c.args.links.now.sheet in
    let x = c.in-Some.entry in
    let inv = c.loop-entry.invariant in
    let out = c.in-Some.ensures.takes in
    let u = group_under g.met.W.Measure.lawful _ _ _ _ _ _ _ inv.closing _ _ (taken_out out) in
    let in_done : x.rule < length c.loop-entry.done = omega (arith, u, inv.columns) in
    let fewer = open_fewer s.slots.now c.loop-entry.done x.rule in_done c.if-done-group-eq1.false _ c.close.ensures.done (length s.slots.now) in
    record {
      columns = (c.close.auto.rests ∙ inv.columns.0, c.close.auto.done ∙ inv.columns.1);
      closing = closed_by g.met.W.Measure.lawful (held m c.args.links.now.floors.now) (weighted m s.slots.now) s.facts c.args.target _ _ _ inv.closing _ x (taken_out out) (out.0.least c.loop-entry.queue.ordered)
          (omega (arith, u, inv.columns)) in_done c.if-done-group-eq1.false _ _ c.close.ensures.rests c.close.ensures.done _ _ (λ r i t h. standing_concludes m s.slots.now x.rule r t h) c.spread.ensures.follows;
      room = omega (arith, c.spread.ensures.few, c.spread.ensures.same.1, fewer, inv.room, out.0.some, out.0.long, out.1);
    }

pub returns : goal.returns
returns g c =
    let q = c.loop-entry.queue in
    ended g.met.W.Measure.lawful _ _ _ _ _ _ _ c.loop-entry.invariant.closing (ap (λ k. take k q.places.now) c.in_default.ensures.takes.0)
