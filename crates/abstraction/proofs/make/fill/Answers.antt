use Rattle.std.proofs.lemmas.Bool.{leb-true}
use Rattle.std.proofs.Common.{◌≡◌, ℕ, ◌++◌, List, length, take, drop, ap, ◌∙◌, arith}
use lib.ListN.{length-map}
use Rattle.sheet.specs.Slots.{Slot}
use Rattle.derivation.specs.Contexts.{context}
use Rattle.derivation.specs.Search.{weight_of, reason_of}
use Rattle.guide.specs.Weighted.{weighted}
use Rattle.search.specs.Answered.{column}
use Rattle.search.specs.Entries.{held}
use Rattle.search.specs.Surveyed.{explored}
use Rattle.abstraction.specs.Fold.{group_of, fold_slot, folded}
use Rattle.abstraction.proofs.Making.{never_both}
use Rattle.abstraction.proofs.Passing.{written_accepted, written_shown}
use Rattle.abstraction.proofs.make.fill.Goals as goal

pub returns-in_err-pass : goal.returns-in_err-pass
returns-in_err-pass g c =
    let few = c.requires.few in
    let passed = written_accepted (group_of c.args.map.now) c.args.second.now few.0 few.1 (leb-true _ _ c.args.sheet.now.few) c.requires.within c.slots-slots.ensures c.write.ensures in
    absurd (never_both _ _ (c.in_err-pass.ensures.answered ∙ passed))

pub weigh-requires : goal.weigh-requires
weigh-requires g c =
    let few = c.requires.few in
    let xs = c.args.sheet.now.slots.now in
    let shown =
    c.in_ok-pass.ensures.left ∙ written_shown (group_of c.args.map.now) c.args.second.now few.0 few.1 (leb-true _ _ c.args.sheet.now.few) c.requires.within c.slots-slots.ensures c.write.ensures _ in
    let facts : c.pass.new.view.facts ≡ c.args.groups = ap (λ (p : List Slot × ℕ). p.1) shown in
    let rules : length c.pass.new.view.slots.now ≡ length xs = ap (λ (p : List Slot × ℕ). length p.0) shown ∙ length-map xs (fold_slot (group_of c.args.map.now)) in
    let l = c.requires.long in
    record {
      target = omega (arith, few);
      long = (omega (arith, l), omega (arith, l), omega (arith, l), omega (arith, l), omega (arith, l));
    }

pub returns : goal.returns
returns g c =
    let m = g.W.Measure.ops in
    let few = c.requires.few in
    let xs = c.args.sheet.now.slots.now in
    let shown =
    c.in_ok-pass.ensures.left ∙ written_shown (group_of c.args.map.now) c.args.second.now few.0 few.1 (leb-true _ _ c.args.sheet.now.few) c.requires.within c.slots-slots.ensures c.write.ensures _ in
    let facts : c.pass.new.view.facts ≡ c.args.groups = ap (λ (p : List Slot × ℕ). p.1) shown in
    let rules : length c.pass.new.view.slots.now ≡ length xs = ap (λ (p : List Slot × ℕ). length p.0) shown ∙ length-map xs (fold_slot (group_of c.args.map.now)) in
    let v = c.weigh.ensures in
    record {
      answered = v.answered;
      folds = c.write.ensures ∙ ap (λ l. folded (group_of c.args.map.now) l c.args.second.now) c.slots-slots.ensures;
      weighs = v.weighs ∙ ap (λ (p : List Slot × ℕ). column (weight_of m (explored m p.0)) p.1 ++ drop p.1 c.args.floors.now) shown;
      gives = v.gives ∙ ap (λ (p : List Slot × ℕ). column (reason_of (explored m p.0)) p.1 ++ drop p.1 c.args.reasons.now) shown;
      leads = v.leads ∙ ap (λ (p : List Slot × ℕ). column (context m (held m (take p.1 c.weigh.new.floors)) (weighted m p.0) c.args.target) p.1 ++ drop p.1 c.args.rests.now) shown;
      queues = rw rules at v.queues;
      works = rw (rules, facts) at v.works;
    }
