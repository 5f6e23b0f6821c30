use Rattle.std.proofs.Common.{◌≡◌, ℕ, ◌+◌, ◌-◌, ◌<◌, ltb, List, length, get_or, set, refl, ap, ◌∙◌, arith}
use Rattle.std.proofs.lemmas.Bool.{lt-ltb, le-ltb}
use Rattle.search.specs.Waiting.{unready}
use Rattle.search.specs.Entries.{rule_entry}
use Rattle.search.proofs.Filling.{bit, was_added, put_is_ok}
use Rattle.search.proofs.Waiting.{unready_set, unready_some, ready_still, ready_put}
use Rattle.search.proofs.visit.visit.Goals as goal

-- the count of open places goes down by one
total_still : (ms : List ℕ) (i : ℕ) → i < length ms → 0 < get_or ms i 0 - 1 → unready (set ms i (get_or ms i 0 - 1)) ≡ unready ms
total_still ms i u p =
    let e : bit (ltb 0 (get_or ms i 0)) ≡ 1 = ap bit (lt-ltb 0 (get_or ms i 0) (omega arith)) in
    let f : bit (ltb 0 (get_or ms i 0 - 1)) ≡ 1 = ap bit (lt-ltb 0 (get_or ms i 0 - 1) p) in
    omega (arith, unready_set ms i (get_or ms i 0 - 1) u, e, f)

total_last : (ms : List ℕ) (i : ℕ) → i < length ms → 0 < get_or ms i 0 → get_or ms i 0 - 1 ≡ 0 → unready (set ms i (get_or ms i 0 - 1)) + 1 ≡ unready ms
total_last ms i u h p =
    let e : bit (ltb 0 (get_or ms i 0)) ≡ 1 = ap bit (lt-ltb 0 (get_or ms i 0) h) in
    let f : bit (ltb 0 (get_or ms i 0 - 1)) ≡ 0 = ap bit (le-ltb 0 (get_or ms i 0 - 1) (omega arith)) in
    omega (arith, unready_set ms i (get_or ms i 0 - 1) u, e, f)

pub returns-then-left-gt0-clause-total : goal.returns-then-left-gt0-clause-total
returns-then-left-gt0-clause-total g c =
    ap (λ n. c.args.queue.now.count + n) (total_still _ _ (omega (arith, c.requires.known, c.requires.long.0)) c.if-left-gt0.true)

pub returns-then-left-gt0-clause-ready : goal.returns-then-left-gt0-clause-ready
returns-then-left-gt0-clause-ready g c =
    λ taken r. ready_still _ _ _ _ taken _ _ (omega (arith, c.requires.known, c.requires.long.0)) c.requires.stands c.requires.some _ _ r c.if-left-gt0.true

pub unwrap-requires : goal.unwrap-requires
unwrap-requires g c =
    let u : c.args.number < length c.args.missing.now = omega (arith, c.requires.known, c.requires.long.0) in
    put_is_ok g.W.Measure.ops c.args.queue.now.places.now c.put.new.self.places.now c.args.queue.now.count c.put.new.self.count _ _
    (omega (arith, c.requires.room, unready_some c.args.missing.now c.args.number u c.requires.some)) c.put.ensures.puts

pub returns : goal.returns
returns g c =
    let u : c.args.number < length c.args.missing.now = omega (arith, c.requires.known, c.requires.long.0) in
    let z : get_or c.args.missing.now c.args.number 0 - 1 ≡ 0 = omega (arith, c.if-left-gt0.false) in
    let room : c.args.queue.now.count < length c.args.queue.now.places.now = omega (arith, c.requires.room, unready_some c.args.missing.now c.args.number u c.requires.some) in
    let a = was_added g.W.Measure.ops c.args.queue.now.places.now c.put.new.self.places.now c.args.queue.now.count c.put.new.self.count _ _ room c.put.ensures.puts in
    record {
      same = (c.put.ensures.same, a.long);
      left = refl;
      total = omega (arith, a.answer, total_last _ _ u c.requires.some z);
      ready = λ taken r. ready_put _ _ _ _ taken _ _ u c.requires.stands c.requires.some _ _ r z _ _ _ (c.entry_of-entry.ensures ∙ ap (λ x. rule_entry g.W.Measure.ops (g.G.Guide.rest c.args.guide.now) x c.args.number c.args.weights.now) c.rule_of-rule.ensures.is) a;
    }
