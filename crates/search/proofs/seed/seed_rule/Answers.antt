use Rattle.std.proofs.Common.{◌≡◌, ℕ, ◌+◌, Bool, true, false, cond, [], refl, ap, ◌∙◌, arith}
use Rattle.std.proofs.lemmas.Bool.{both_ways}
use Rattle.queue.specs.declared.entry.Entry.{Entry}
use Rattle.search.specs.Entries.{rule_entry}
use Rattle.search.specs.Waiting.{waiting}
use Rattle.search.proofs.Filling.{bit, was_added}
use Rattle.search.proofs.Waiting.{waiting_here, waiting_not}
use Rattle.search.proofs.Seeding.{filled_kept, filled_new}
use Rattle.search.proofs.seed.seed_rule.Goals as goal

kept_count : (n : ℕ) (b : Bool) → b ≡ false → n ≡ n + cond b 1 0
kept_count n b e = let z : bit b ≡ 0 = ap bit e in omega (arith, z)

pub returns-then-rule-clause-counts : goal.returns-then-rule-clause-counts
returns-then-rule-clause-counts g c =
    let xs = c.args.sheet.now.slots.now in
    kept_count _ _ (waiting_not xs [] c.args.missing.now c.args.number (λ v. both_ways _ v.stands (rw c.rule_of-rule.ensures.is at c.if-rule.true)))

pub returns-then-rule-clause-filled : goal.returns-then-rule-clause-filled
returns-then-rule-clause-filled g c =
    let xs = c.args.sheet.now.slots.now in
    let w = waiting_not xs [] c.args.missing.now c.args.number (λ v. both_ways _ v.stands (rw c.rule_of-rule.ensures.is at c.if-rule.true)) in
    λ flag absent f. filled_kept _ _ flag _ _ _ _ w f

pub returns-then-missing-number-gt0-clause-counts : goal.returns-then-missing-number-gt0-clause-counts
returns-then-missing-number-gt0-clause-counts g c =
    let xs = c.args.sheet.now.slots.now in
    kept_count _ _ (waiting_not xs [] c.args.missing.now c.args.number (λ v. omega (arith, v.none_open, c.if-missing-number-gt0.true)))

pub returns-then-missing-number-gt0-clause-filled : goal.returns-then-missing-number-gt0-clause-filled
returns-then-missing-number-gt0-clause-filled g c =
    let xs = c.args.sheet.now.slots.now in
    let w = waiting_not xs [] c.args.missing.now c.args.number (λ v. omega (arith, v.none_open, c.if-missing-number-gt0.true)) in
    λ flag absent f. filled_kept _ _ flag _ _ _ _ w f

pub returns : goal.returns
unfolding rule_entry
returns g c =
    let xs = c.args.sheet.now.slots.now in
    let s = rw c.rule_of-rule.ensures.is at c.if-rule.false in
    let w : waiting xs [] c.args.missing.now c.args.number ≡ true = waiting_here xs [] c.args.missing.now c.args.number
    (record { under = omega (arith, c.requires.known, c.requires.long.0); stands = s; none_open = omega (arith, c.if-missing-number-gt0.false); untaken = refl }) in
    let a = was_added g.W.Measure.ops c.args.queue.now.places.now c.put.new.self.places.now c.args.queue.now.count c.put.new.self.count _ _ c.requires.room c.put.ensures.puts in
    let one : bit (waiting xs [] c.args.missing.now c.args.number) ≡ 1 = ap bit w in
    record {
      same = (c.put.ensures.same, a.long);
      counts = omega (arith, a.answer, one);
      filled = λ flag absent f. filled_new _ _ flag _ _ _ _ _ _ _ w
          (ap (λ (e : Entry _). e.rule) c.entry_of-entry.ensures)
          (c.entry_of-entry.ensures ∙ ap (λ x. rule_entry g.W.Measure.ops (g.G.Guide.rest c.args.guide.now) x c.args.number c.args.weights.now) c.rule_of-rule.ensures.is)
          absent a f;
    }
