-- No two rules of a line conclude the same fact.
use Rattle.std.proofs.Common.{◌≡◌, ℕ, Bool, true, false, cond, eqb, List, [], ◌∷◌, ◌++◌, map, reverse, sym, refl, ap, ◌∙◌, subst}
use mathlib.Core.List.{reverse-cons}
use Rattle.std.proofs.lemmas.List.{map-append}
use Rattle.std.proofs.lemmas.Bool.{both_ways, eq-eqb, ne_eqb, or_from, or_parts}
use Rattle.measure.specs.Ops.{Ops}
use Rattle.derivation.specs.Rules.{Rule, rule_at}
use Rattle.derivation.specs.Search.{Closed, is_closed, among}
use Rattle.derivation.specs.Line.{unwound}
use Rattle.derivation.specs.Theorems.{Distinct, heads}
use Rattle.derivation.proofs.Log.{Logged, Log}

-- the last of a list, and a list turned round
not_among_append : (xs ys : List ℕ) (n : ℕ) → among xs n ≡ false → among ys n ≡ false → among (xs ++ ys) n ≡ false
not_among_append [] ys n h k = k
not_among_append (x ∷ xs) ys n h k =
    let p = or_parts (eqb x n) (among xs n) h in
    or_from _ _ p.0 (not_among_append xs ys n p.1 k)

eqb_flip : (x y : ℕ) → eqb x y ≡ false → eqb y x ≡ false
eqb_flip x y h = ne_eqb y x (λ e. both_ways _ h (eq-eqb x y (sym e)))

distinct_push : (xs : List ℕ) (x : ℕ) → Distinct xs → among xs x ≡ false → Distinct (xs ++ (x ∷ []))
distinct_push [] x d h = (refl, tt)
distinct_push (y ∷ xs) x d h =
    let p = or_parts (eqb y x) (among xs x) h in
    (not_among_append xs (x ∷ []) y d.0 (or_from _ _ (eqb_flip y x p.0) refl), distinct_push xs x d.1 p.1)

not_among_reverse : (xs : List ℕ) (n : ℕ) → among xs n ≡ false → among (reverse xs) n ≡ false
not_among_reverse [] n h = refl
not_among_reverse (x ∷ xs) n h =
    let p = or_parts (eqb x n) (among xs n) h in
    rw (reverse-cons x xs) (not_among_append (reverse xs) (x ∷ []) n (not_among_reverse xs n p.1) (or_from _ _ p.0 refl))

distinct_reverse : (xs : List ℕ) → Distinct xs → Distinct (reverse xs)
distinct_reverse [] d = tt
distinct_reverse (x ∷ xs) d = rw (reverse-cons x xs) (distinct_push (reverse xs) x (distinct_reverse xs d.1) (not_among_reverse xs x d.0))

map_reverse : {A B : Type 0} (f : A → B) (xs : List A) → map f (reverse xs) ≡ reverse (map f xs)
map_reverse f [] = refl
map_reverse f (x ∷ xs) =
    ap (map f) (reverse-cons x xs) ∙ map-append f (reverse xs) (x ∷ [])
    ∙ ap (λ ys. ys ++ (f x ∷ [])) (map_reverse f xs) ∙ sym (reverse-cons (f x) (map f xs))

module _ {W : Type 0} (m : Ops W) (rules : List (Rule W)) where
  heads_open_at : (c : Closed W) (cs : List (Closed W)) → Logged m rules c cs → (needed : List ℕ) (f : ℕ) (b : Bool)
      → ((more : List ℕ) → among (heads m rules (unwound m rules cs more)) f ≡ false)
      → eqb c.fact f ≡ false
      → among (heads m rules (cond b (c.rule ∷ unwound m rules cs ((rule_at m rules c.rule).body ++ needed)) (unwound m rules cs needed))) f ≡ false
  heads_open_at c cs l needed f true ih other = or_from _ _ (ap (λ x. eqb x f) l.heads ∙ other) (ih _)
  heads_open_at c cs l needed f false ih other = ih needed

  -- what is not closed is no head of a line
  heads_open : (cs : List (Closed W)) → Log m rules cs → (f : ℕ) → is_closed cs f ≡ false → (needed : List ℕ)
      → among (heads m rules (unwound m rules cs needed)) f ≡ false
  heads_open [] log f h needed = refl
  heads_open (c ∷ cs) log f h needed =
      let p = or_parts (eqb c.fact f) (is_closed cs f) h in
      heads_open_at c cs log.0 needed f (among needed c.fact) (heads_open cs log.1 f p.1) p.0

  distinct_at : (c : Closed W) (cs : List (Closed W)) → Logged m rules c cs → Log m rules cs → (needed : List ℕ) (b : Bool)
      → ((more : List ℕ) → Distinct (heads m rules (unwound m rules cs more)))
      → Distinct (heads m rules (cond b (c.rule ∷ unwound m rules cs ((rule_at m rules c.rule).body ++ needed)) (unwound m rules cs needed)))
  distinct_at c cs l log needed true ih = (heads_open cs log _ (rw l.heads l.fresh) _, ih _)
  distinct_at c cs l log needed false ih = ih needed

  distinct_unwound : (cs : List (Closed W)) → Log m rules cs → (needed : List ℕ) → Distinct (heads m rules (unwound m rules cs needed))
  distinct_unwound [] log needed = tt
  distinct_unwound (c ∷ cs) log needed = distinct_at c cs log.0 log.1 needed (among needed c.fact) (distinct_unwound cs log.1)

  pub distinct_line : (cs : List (Closed W)) → Log m rules cs → (t : ℕ) → Distinct (heads m rules (reverse (unwound m rules cs (t ∷ []))))
  distinct_line cs log t =
      subst Distinct (sym (map_reverse (λ r. (rule_at m rules r).head) (unwound m rules cs (t ∷ []))))
      (distinct_reverse _ (distinct_unwound cs log (t ∷ [])))
