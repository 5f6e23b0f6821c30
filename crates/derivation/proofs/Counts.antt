-- The closed count is the number of facts whose reason is a rule.
use Rattle.std.proofs.Common.{◌≡◌, ℕ, zero, suc, ◌+◌, ◌<◌, ◌≤◌, Bool, true, false, cond, ◌||◌, eqb, ltb, List, [], ◌∷◌, length, sym, refl, ap, ◌∙◌, inl, inr, arith}
use Rattle.std.proofs.lemmas.Bool.{cases_eq, eq-eqb, ne_eqb, lt-ltb, le-ltb, cond-false}
use Rattle.measure.specs.Ops.{Ops}
use Rattle.derivation.specs.Rules.{Rule, rule_at, Standing}
use Rattle.derivation.specs.Search.{Closed, no_reason, is_closed, reason_in}
use Rattle.derivation.specs.Theorems.{Once, count_below}
use Rattle.derivation.proofs.Log.{Log}
use Rattle.derivation.proofs.Invariant.{standing_under}

pub count_same : (p q : ℕ → Bool) → ((x : ℕ) → p x ≡ q x) → (n : ℕ) → count_below p n ≡ count_below q n
count_same p q h zero = refl
count_same p q h (suc n) = rw (count_same p q h n, h n)

count_none : (n : ℕ) → count_below (λ x. false) n ≡ 0
count_none zero = refl
count_none (suc n) = rw (count_none n)

count_beyond : (p : ℕ → Bool) (x n : ℕ) → n ≤ x → count_below (λ y. eqb x y || p y) n ≡ count_below p n
count_beyond p x zero h = refl
count_beyond p x (suc n) h =
    let other : eqb x n ≡ false = ne_eqb x n (λ e. omega arith) in
    ap (λ k. k + cond (eqb x n || p n) 1 0) (count_beyond p x n (omega arith)) ∙ ap (λ b. count_below p n + cond (b || p n) 1 0) other

-- one number more
count_more : (p : ℕ → Bool) (x n : ℕ) → x < n → p x ≡ false → count_below (λ y. eqb x y || p y) n ≡ count_below p n + 1
count_more p x zero h new = absurd (omega arith)
count_more p x (suc n) h new = elim (cases_eq x n) [ inl e ↦ last e | inr e ↦ earlier e (count_more p x n (omega arith) new) ]
  where
    last : x ≡ n → count_below (λ y. eqb x y || p y) (suc n) ≡ count_below p (suc n) + 1
    last e =
        let a : ◌≡◌ {A = ℕ} (cond (eqb x n || p n) 1 0) 1 = ap (λ b. cond (b || p n) 1 0) (eq-eqb x n e) in
        let b : ◌≡◌ {A = ℕ} (cond (p n) 1 0) 0 = cond-false (p n) 1 0 (rw (← e) new) in
        let c : count_below (λ y. eqb x y || p y) n ≡ count_below p n = count_beyond p x n (omega arith) in
        omega arith

    earlier : (x ≡ n → ⊥) → count_below (λ y. eqb x y || p y) n ≡ count_below p n + 1
        → count_below (λ y. eqb x y || p y) (suc n) ≡ count_below p (suc n) + 1
    earlier e c =
        let a : ◌≡◌ {A = ℕ} (cond (eqb x n || p n) 1 0) (cond (p n) 1 0) = ap (λ b. cond (b || p n) 1 0) (ne_eqb x n e) in
        omega arith

module _ {W : Type 0} (m : Ops W) (rules : List (Rule W)) where
  pub log_once : (cs : List (Closed W)) → Log m rules cs → Once cs
  log_once [] log = tt
  log_once (c ∷ cs) log = (log.0.fresh, log_once cs log.1)

  reason_more : (c : Closed W) (cs : List (Closed W)) (f : ℕ) → c.rule < length rules → (b : Bool)
      → ltb (reason_in cs f) (length rules) ≡ is_closed cs f
      → ltb (cond b c.rule (reason_in cs f)) (length rules) ≡ (b || is_closed cs f)
  reason_more c cs f h true e = lt-ltb _ _ h
  reason_more c cs f h false e = e

  -- a fact is closed where its reason is a rule
  pub log_reasons : length rules ≤ no_reason → (cs : List (Closed W)) → Log m rules cs → (f : ℕ)
      → ltb (reason_in cs f) (length rules) ≡ is_closed cs f
  log_reasons short [] log f = le-ltb no_reason (length rules) short
  log_reasons short (c ∷ cs) log f =
      reason_more c cs f (standing_under m rules c.rule log.0.stands) (eqb c.fact f) (log_reasons short cs log.1 f)

  pub log_count : (facts : ℕ) → ((r : ℕ) → Standing m rules r → (rule_at m rules r).head < facts)
      → (cs : List (Closed W)) → Log m rules cs → length cs ≡ count_below (is_closed cs) facts
  log_count facts within [] log = sym (count_none facts)
  log_count facts within (c ∷ cs) log =
      let l = log.0 in
      let low : c.fact < facts = rw l.heads at (within c.rule l.stands) in
      omega (arith, log_count facts within cs log.1, count_more (is_closed cs) c.fact facts low l.fresh)
