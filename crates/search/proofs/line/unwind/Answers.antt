use Rattle.std.specs.List.{AllByRecursion}
use Rattle.std.proofs.Common.{List, subst, ◌≤◌, ◌≡◌, ℕ, ◌-◌, ◌<◌, cond, eqb, length, get_or, set, replicate, reverse, sym, refl, ap, ◌∙◌, inl, inr, arith, length-set, rules}
use Rattle.std.proofs.lemmas.Iterator.Adapters.{YieldsList-from_rev_slice}
use Rattle.std.proofs.lemmas.Iterator.Consumers.{YieldsList-turn}
use Rattle.std.proofs.lemmas.List.{get_or_read, get_or-replicate, get_or-reverse, get_or-set_same, get_or-set_other, length-replicate, length-reverse, length_push}
use Rattle.std.proofs.ByRecursion.{All-get_or}
use Rattle.std.proofs.lemmas.Bool.{cases_eq, eq-eqb, ne_eqb}
use Rattle.sheet.specs.Slots.{rule_at}
use Rattle.search.proofs.Unwinding.{drawing_start, drawing_passed, drawing_more}
use Rattle.search.proofs.line.unwind.Goals as goal

-- a column of zeros with a one at the target
one_mark : (n target f : ℕ) → target < n → f < n → ◌≡◌ {A = ℕ} (get_or (set (replicate n 0) target 1) f 0) (cond (eqb target f) 1 0)
one_mark n target f t h =
    elim (cases_eq f target) [
      | inl e ↦ rw (e, eq-eqb target target refl) (get_or-set_same (replicate n 0) target 1 0 (let e : length (replicate {A = ℕ} n 0) ≡ n = length-replicate {A = ℕ} n 0 in omega (arith, e, t)))
      | inr e ↦ rw (ne_eqb target f (λ q. e (sym q))) (get_or-set_other (replicate n 0) target f 1 0 e ∙ get_or-replicate n f 0 0 h)
    ]

-- what holds of each rule in closing order holds of the one at a turn
at_turn : (order : List ℕ) (P : ℕ → Type 0) (i r : ℕ) → i < length (reverse order) → r ≡ get_or (reverse order) i r → AllByRecursion P order → P r
at_turn order P i r l is all =
    let h : i < length order = omega (arith, l, length-reverse order) in
    let e : r ≡ get_or order (length order - 1 - i) 0 = get_or_read (reverse order) i r l is 0 ∙ get_or-reverse order i 0 h in
    subst P (sym e) (All-get_or P order (length order - 1 - i) 0 (omega (arith, h)) all)

pub loop-number-init : goal.loop-number-init
loop-number-init c =
    let n = length c.args.needed.now in
    let e : c.fill.new.self ≡ replicate n 0 = search rules in
    drawing_start _ _ _ _ _ (λ f h.
    ap (λ l. get_or (set l c.args.target 1) f 0) e
    ∙ one_mark n c.args.target f (omega (arith, c.requires.known.0, c.requires.known.1)) (omega (arith, h, length-set c.fill.new.self c.args.target 1, c.fill.ensures.len)))

pub loop-number-preserved-then-needed-rule-ne1 : goal.loop-number-preserved-then-needed-rule-ne1
loop-number-preserved-then-needed-rule-ne1 c =
    let xs = c.args.sheet.now.slots.now in
    let d = c.loop-number.invariant in
    let r = c.in-Some.number.now in
    let t = YieldsList-turn (YieldsList-from_rev_slice c.args.order.now cc) c.loop-number.yielded _ c.loop-number.yielded_by _ _ c.in-Some.number c.in-Some.is c.next.ensures.steps in
    let s = at_turn c.args.order.now _ _ r t.0 t.1 c.requires.stand in
    let k = c.rule_of-rule.ensures in
    let h : (rule_at xs r).head < length c.loop-number.needed = rw (← k.is) (omega (arith, (k.known (rw k.is s.1)).0, c.loop-number.auto.needed, length-set c.fill.new.self c.args.target 1, c.fill.ensures.len, c.requires.known.1)) in
    let long : length (reverse c.args.order.now) ≤ length c.loop-number.line = omega (arith, length-reverse c.args.order.now, c.requires.known.2, c.loop-number.auto.line) in
    rw (length_push c.loop-number.yielded c.in-Some.number)
    (drawing_passed xs (reverse c.args.order.now) c.args.target _ _ _ _ _ d t.0 long r t.1 h (rw k.is at c.if-needed-rule-ne1.true))

pub loop-number-preserved : goal.loop-number-preserved
loop-number-preserved c =
    let xs = c.args.sheet.now.slots.now in
    let d = c.loop-number.invariant in
    let r = c.in-Some.number.now in
    let t = YieldsList-turn (YieldsList-from_rev_slice c.args.order.now cc) c.loop-number.yielded _ c.loop-number.yielded_by _ _ c.in-Some.number c.in-Some.is c.next.ensures.steps in
    let s = at_turn c.args.order.now _ _ r t.0 t.1 c.requires.stand in
    let k = c.rule_of-rule.ensures in
    let h : (rule_at xs r).head < length c.loop-number.needed = rw (← k.is) (omega (arith, (k.known (rw k.is s.1)).0, c.loop-number.auto.needed, length-set c.fill.new.self c.args.target 1, c.fill.ensures.len, c.requires.known.1)) in
    let long : length (reverse c.args.order.now) ≤ length c.loop-number.line = omega (arith, length-reverse c.args.order.now, c.requires.known.2, c.loop-number.auto.line) in
    rw (length_push c.loop-number.yielded c.in-Some.number)
    (drawing_more xs (reverse c.args.order.now) c.args.target _ _ _ _ _ d t.0 long r t.1 _ h (rw k.is at c.if-needed-rule-ne1.false) c.mark.auto.needed
    (rw (c.body.ensures, k.is) at c.mark.ensures))
