-- Open places: what closing a fact takes from them, and what the chain of the fact counts.
use Rattle.std.proofs.Common.{◌≡◌, ℕ, zero, suc, ◌+◌, ◌*◌, ◌<◌, ◌≤◌, Bool, true, false, cond, not, ◌&&◌, ◌||◌, eqb, ltb, List, [], ◌∷◌, length, get_or, sym, refl, ap, ◌∙◌, inl, inr, arith}
use Rattle.std.proofs.lemmas.List.{get_or_past}
use Rattle.std.proofs.lemmas.Bool.{cases_eq, both_ways, eqb-true, eq-eqb, ne_eqb, cases_lt}
use Rattle.sheet.specs.declared.rule.Rule.{Rule}
use Rattle.sheet.specs.Slots.{Slot}
use Rattle.std.specs.Prelude.{None}
use Rattle.sheet.specs.Rules.{body_of}
use Rattle.sheet.specs.Slots.{rule_at, rule_in}
use Rattle.derivation.specs.Search.{Closed, is_closed, all_closed}
use Rattle.search.specs.Chains.{names, uses}
use Rattle.search.proofs.Chains.{at_place, rule_of_place, body_bound}
use Rattle.search.proofs.Filling.{bit}
use Rattle.search.specs.Shown.{occurs, unclosed, open_places}

eqb_sym : (a b : ℕ) → eqb a b ≡ eqb b a
eqb_sym a b = elim (cases_eq a b) [ inl e ↦ rw e | inr e ↦ ne_eqb a b e ∙ sym (ne_eqb b a (λ q. e (sym q))) ]

module _ {W : Type 0} (cs : List (Closed W)) where
  -- closing h takes away the places that name it
  pub unclosed_less : (c : Closed W) → is_closed cs c.fact ≡ false → (body : List ℕ) → unclosed (c ∷ cs) body + occurs c.fact body ≡ unclosed cs body
  unclosed_less c h [] = refl
  unclosed_less c h (x ∷ xs) = one (unclosed_less c h xs) (is_closed cs x) (eqb c.fact x) (eqb x c.fact) refl refl (eqb_sym x c.fact)
    where
      one : unclosed (c ∷ cs) xs + occurs c.fact xs ≡ unclosed cs xs → (a b b' : Bool) → is_closed cs x ≡ a → eqb c.fact x ≡ b → b' ≡ b
          → (cond (b || a) 0 1 + unclosed (c ∷ cs) xs) + (bit b' + occurs c.fact xs) ≡ cond a 0 1 + unclosed cs xs
      one ih true true b' p q e = absurd (both_ways _ h (ap (is_closed cs) (eqb-true c.fact x q) ∙ p))
      one ih false true b' p q e = rw e (omega (arith, ih))
      one ih true false b' p q e = rw e (omega (arith, ih))
      one ih false false b' p q e = rw e (omega (arith, ih))

  pub none_unclosed : (body : List ℕ) → eqb (unclosed cs body) 0 ≡ all_closed cs body
  none_unclosed [] = refl
  none_unclosed (x ∷ xs) = one (none_unclosed xs) (is_closed cs x)
    where
      one : eqb (unclosed cs xs) 0 ≡ all_closed cs xs → (a : Bool) → eqb (cond a 0 1 + unclosed cs xs) 0 ≡ (a && all_closed cs xs)
      one ih true = ap (λ k. eqb k 0) (let e : 0 + unclosed cs xs ≡ unclosed cs xs = omega arith in e) ∙ ih
      one ih false = ne_eqb (1 + unclosed cs xs) 0 (λ e. omega arith)

-- the places of one rule, index by index
module _ (xs : List Slot) (f r k : ℕ) where
  uses_place : (i : ℕ) → i < 4 → uses xs f r (4 * k + (i + 1)) ≡ uses xs f r (4 * k + i) + bit (names (rule_at xs k) i f && eqb k r)
  uses_place i h =
      let e : 4 * k + (i + 1) ≡ suc (4 * k + i) = omega arith in
      ap (uses xs f r) e ∙ ap (λ b. uses xs f r (4 * k + i) + bit b) (rw (at_place xs f k i h, rule_of_place k i h))

  uses_rule : uses xs f r (4 * k + 4) ≡ uses xs f r (4 * k) + (bit (names (rule_at xs k) 0 f && eqb k r) + bit (names (rule_at xs k) 1 f && eqb k r) + bit (names (rule_at xs k) 2 f && eqb k r) + bit (names (rule_at xs k) 3 f && eqb k r))
  uses_rule =
      let z : uses xs f r (4 * k + 0) ≡ uses xs f r (4 * k) = ap (uses xs f r) (let e : 4 * k + 0 ≡ 4 * k = omega arith in e) in
      omega (arith, uses_place 0 (omega arith), uses_place 1 (omega arith), uses_place 2 (omega arith), uses_place 3 (omega arith), z)

and_false : (b : Bool) → (b && false) ≡ false
and_false true = refl
and_false false = refl

and_true : (b : Bool) → (b && true) ≡ b
and_true true = refl
and_true false = refl

-- all four indices of a rule
abbrev named : Rule → ℕ → ℕ
named a f = bit (names a 0 f) + bit (names a 1 f) + bit (names a 2 f) + bit (names a 3 f)

named_body : (stands : Bool) (body : List ℕ) (f : ℕ) → length body ≤ 4
    → bit (stands && (ltb 0 (length body) && eqb (get_or body 0 0) f)) + bit (stands && (ltb 1 (length body) && eqb (get_or body 1 0) f)) + bit (stands && (ltb 2 (length body) && eqb (get_or body 2 0) f)) + bit (stands && (ltb 3 (length body) && eqb (get_or body 3 0) f))
    ≡ cond (not stands) 0 (occurs f body)
named_body false body f h = refl
named_body true [] f h = refl
named_body true (a ∷ []) f h = omega arith
named_body true (a ∷ b ∷ []) f h = omega arith
named_body true (a ∷ b ∷ c ∷ []) f h = omega arith
named_body true (a ∷ b ∷ c ∷ d ∷ []) f h = omega arith
named_body true (a ∷ b ∷ c ∷ d ∷ e ∷ l) f h = absurd (omega arith)

-- the uses of f in rule a
abbrev pub mentions : Rule → ℕ → ℕ
mentions a f = cond a.struck 0 (occurs f (body_of a))

not_not : (b : Bool) → not (not b) ≡ b
not_not true = refl
not_not false = refl

named_is : (a : Rule) (f : ℕ) → named a f ≡ mentions a f
named_is a f = named_body (not a.struck) (body_of a) f (body_bound a) ∙ ap (λ b. cond b 0 (occurs f (body_of a))) (not_not a.struck)

module _ (xs : List Slot) (f r : ℕ) where
  own_rule : (k : ℕ) → k ≡ r → uses xs f r (4 * k + 4) ≡ uses xs f r (4 * k) + mentions (rule_at xs r) f
  own_rule k e =
      let q = eq-eqb k r e in
      let u = rw (q, and_true (names (rule_at xs k) 0 f), and_true (names (rule_at xs k) 1 f), and_true (names (rule_at xs k) 2 f), and_true (names (rule_at xs k) 3 f)) at (uses_rule xs f r k) in
      omega (arith, u, named_is (rule_at xs k) f, ap (λ z. mentions (rule_at xs z) f) e)

  other_rule : (k : ℕ) → (k ≡ r → ⊥) → uses xs f r (4 * k + 4) ≡ uses xs f r (4 * k)
  other_rule k e =
      let q = ne_eqb k r e in
      let u = rw (q, and_false (names (rule_at xs k) 0 f), and_false (names (rule_at xs k) 1 f), and_false (names (rule_at xs k) 2 f), and_false (names (rule_at xs k) 3 f)) at (uses_rule xs f r k) in
      omega (arith, u)

  next_rule : (n : ℕ) → uses xs f r (4 * suc n) ≡ uses xs f r (4 * n + 4)
  next_rule n = ap (uses xs f r) (let e : 4 * suc n ≡ 4 * n + 4 = omega arith in e)

  uses_before : (n : ℕ) → n ≤ r → uses xs f r (4 * n) ≡ 0
  uses_before zero h = refl
  uses_before (suc n) h = next_rule n ∙ other_rule n (λ e. omega arith) ∙ uses_before n (omega arith)

  uses_after : (n : ℕ) → r < n → uses xs f r (4 * n) ≡ mentions (rule_at xs r) f
  uses_after zero h = absurd (omega arith)
  uses_after (suc n) h =
      elim (cases_eq n r) [
        | inl e ↦ next_rule n ∙ own_rule n e ∙ (let z = uses_before n (omega arith) in omega (arith, z))
        | inr e ↦ next_rule n ∙ other_rule n e ∙ uses_after n (omega arith)
      ]

  -- over the whole sheet a chain meets a rule once for each place that names the fact
  pub uses_whole : uses xs f r (4 * length xs) ≡ mentions (rule_at xs r) f
  uses_whole =
      elim (cases_lt r (length xs)) [
        | inl h ↦ uses_after (length xs) h
        | inr h ↦ uses_before (length xs) h ∙ sym (ap (λ z. mentions (rule_in z) f) (get_or_past xs r None h))
      ]

-- closing a fact, for a whole rule
pub open_less : {W : Type 0} (cs : List (Closed W)) (c : Closed W) → is_closed cs c.fact ≡ false → (a : Rule) → open_places (c ∷ cs) a + mentions a c.fact ≡ open_places cs a
open_less cs c h a = one a.struck
  where
    one : (b : Bool) → cond b 0 (unclosed (c ∷ cs) (body_of a)) + cond b 0 (occurs c.fact (body_of a)) ≡ cond b 0 (unclosed cs (body_of a))
    one true = refl
    one false = unclosed_less cs c h (body_of a)
