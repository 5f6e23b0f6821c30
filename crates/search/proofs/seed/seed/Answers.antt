use Rattle.std.proofs.Common.{◌≡◌, ◌<◌, length, take, sym, refl, ap, ◌∙◌, arith}
use Rattle.std.proofs.lemmas.List.{take_all}
use Rattle.std.proofs.lemmas.Bool.{both_ways, le-ltb}
use Rattle.search.specs.Waiting.{unready}
use Rattle.search.proofs.Filling.{filled_same}
use Rattle.search.proofs.Seeding.{seeded, seeded_more, seeded_not, seeded_all, unready_more, either_way, filled_none}
use Rattle.search.proofs.seed.seed.Goals as goal

pub loop-number-init : goal.loop-number-init
unfolding unready
loop-number-init g c = record {
  same = (refl, refl);
  total = omega (arith, c.requires.room.0);
  filled = rw c.requires.room.0 (filled_none _ _ _ _ (λ r. rw (le-ltb r 0 (omega arith))));
}

pub loop-number-preserved : goal.loop-number-preserved
loop-number-preserved g c =
    let xs = c.args.sheet.now.slots.now in
    let ms = c.args.missing.now in
    let i = c.loop-number.number in
    let l : i < length ms = omega (arith, c.loop-number-test.true, ap length c.slots-number-end.ensures, c.requires.long.0) in
    let v = c.seed_rule.ensures in
    let inv = c.loop-number.invariant in
    record {
      same = (v.same.0 ∙ inv.same.0, v.same.1 ∙ inv.same.1);
      total = omega (arith, v.counts, unready_more ms i l, either_way xs ms i, inv.total);
      filled = filled_same _ _ _ _ _ _ (seeded_more xs ms i) (v.filled (seeded xs ms i) (seeded_not xs ms i) inv.filled);
    }

pub returns : goal.returns
returns g c =
    let xs = c.args.sheet.now.slots.now in
    let ms = c.args.missing.now in
    let inv = c.loop-number.invariant in
    let e : c.loop-number.number ≡ length ms = omega (arith, c.loop-number.auto.number-end, c.loop-number-test.false, ap length c.slots-number-end.ensures, c.requires.long.0) in
    let t : take c.loop-number.number ms ≡ ms = take_all c.loop-number.number ms (omega arith) in
    record {
      same = inv.same;
      ready = record {
        filled = filled_same _ _ _ _ _ _ (λ r. seeded_all xs ms r ∙ ap (λ k. seeded xs ms k r) (sym e)) inv.filled;
        spent = λ r h. absurd (both_ways _ refl h);
      };
      total = omega (arith, inv.total, ap unready t, e, c.requires.long.0);
    }
