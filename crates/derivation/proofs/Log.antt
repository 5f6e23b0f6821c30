-- The closed facts in order: each has a recorded derivation at its weight.
use Rattle.std.proofs.Common.{◌≡◌, ℕ, Bool, true, false, cond, ◌||◌, eqb, List, [], ◌∷◌, ◌++◌, map, reverse, sym, refl, ap, ◌∙◌, subst, ap₂, inl, inr}
use Rattle.std.proofs.lemmas.List.{reverse-reverse}
use Rattle.std.proofs.lemmas.Bool.{both_ways, eqb-true, eq-eqb, and_parts, cond-true, cond-false, or_left, or_right, or_cases, ne_eqb}
use Rattle.measure.specs.Ops.{Ops}
use Rattle.derivation.specs.Rules.{Rule, rule_at, Standing}
use Rattle.derivation.specs.Joins.{joined}
use Rattle.derivation.specs.Trees.{Tree, node, Trees, Derives, DeriveAll, weight, weights}
use Rattle.derivation.specs.Search.{Closed, is_closed, weight_in, all_closed, among}
use Rattle.derivation.specs.Line.{unwound, subtrees, tree_for, tree_back, line_tree}

pub or_eqb : (x y : ℕ) (b : Bool) → (eqb x y || b) ≡ true → eqb x y ≡ false → b ≡ true
or_eqb x y b h e = rw e at h

among_one : (x n : ℕ) → among (x ∷ []) n ≡ true → x ≡ n
among_one x n h = elim (or_cases (eqb x n) false h) [ inl e ↦ eqb-true x n e | inr e ↦ absurd (both_ways false refl e) ]

or_from_right : (b x y : Bool) → (x ≡ true → y ≡ true) → (b || x) ≡ true → (b || y) ≡ true
or_from_right true x y f h = refl
or_from_right false x y f h = f h

among_append_left : (xs ys : List ℕ) (n : ℕ) → among xs n ≡ true → among (xs ++ ys) n ≡ true
among_append_left [] ys n h = absurd (both_ways false refl h)
among_append_left (x ∷ xs) ys n h = or_from_right (eqb x n) _ _ (among_append_left xs ys n) h

among_append_right : (xs ys : List ℕ) (n : ℕ) → among ys n ≡ true → among (xs ++ ys) n ≡ true
among_append_right [] ys n h = h
among_append_right (x ∷ xs) ys n h = or_right _ _ (among_append_right xs ys n h)

module _ {W : Type 0} (m : Ops W) (rules : List (Rule W)) where
  -- what a rule weighs over closed facts
  abbrev pub weighed : List (Closed W) → ℕ → W
  weighed cs r = m.join (rule_at m rules r).effort (joined m (map (weight_in m cs) (rule_at m rules r).body))

  pub record Logged (c : Closed W) (cs : List (Closed W)) : Type 0 where
    pub stands : Standing m rules c.rule
    pub heads : (rule_at m rules c.rule).head ≡ c.fact
    pub bodies : all_closed cs (rule_at m rules c.rule).body ≡ true
    pub weighs : weighed cs c.rule ≡ c.weight
    pub fresh : is_closed cs c.fact ≡ false

  abbrev pub Log : List (Closed W) → Type 0
  Log [] = Unit {0}
  Log (c ∷ cs) = Logged c cs × Log cs

module _ {W : Type 0} (m : Ops W) (rules : List (Rule W)) where
  -- a tree that derives a fact at its weight in the log
  pub record Recorded (cs : List (Closed W)) (f : ℕ) (t : Tree) : Type 0 where
    pub derives : Derives m rules t f
    pub weighs : weight m rules t ≡ weight_in m cs f

  -- the subtrees of a body, each recorded
  bodies_recorded : (cs : List (Closed W)) (tree : ℕ → Tree) (fs all : List ℕ)
      → ((f : ℕ) → among all f ≡ true → is_closed cs f ≡ true → Recorded cs f (tree f))
      → ((f : ℕ) → among fs f ≡ true → among all f ≡ true)
      → all_closed cs fs ≡ true
      → DeriveAll m rules (subtrees tree fs) fs × (weights m rules (subtrees tree fs) ≡ map (weight_in m cs) fs)
  bodies_recorded cs tree [] all each in_all h = (tt, refl)
  bodies_recorded cs tree (f ∷ fs) all each in_all h =
      let p = and_parts (is_closed cs f) (all_closed cs fs) h in
      let here = each f (in_all f (or_left _ _ (eq-eqb f f refl))) p.0 in
      let more = bodies_recorded cs tree fs all each (λ g k. in_all g (or_right _ _ k)) p.1 in
      ((here.derives, more.0), ap₂ ◌∷◌ here.weighs more.1)

  -- the root of a recorded derivation
  root_recorded : (c : Closed W) (cs : List (Closed W)) (ts : Trees) (f : ℕ) → Logged m rules c cs → eqb c.fact f ≡ true
      → DeriveAll m rules ts (rule_at m rules c.rule).body
      → weights m rules ts ≡ map (weight_in m cs) (rule_at m rules c.rule).body
      → Recorded (c ∷ cs) f (node c.rule ts)
  root_recorded c cs ts f l is_f d w = record {
    derives = (l.stands, l.heads ∙ eqb-true _ _ is_f, d);
    weighs =
        ap (λ ws. m.join (rule_at m rules c.rule).effort (joined m ws)) w
        ∙ l.weighs ∙ sym (cond-true (eqb c.fact f) c.weight (weight_in m cs f) is_f);
  }

  older_recorded : (c : Closed W) (cs : List (Closed W)) (t : Tree) (f : ℕ) → eqb c.fact f ≡ false → Recorded cs f t → Recorded (c ∷ cs) f t
  older_recorded c cs t f other q = record {
    derives = q.derives;
    weighs = q.weighs ∙ sym (cond-false (eqb c.fact f) c.weight (weight_in m cs f) other);
  }

  module _ (c : Closed W) (cs : List (Closed W)) (l : Logged m rules c cs)
      (before : (needed : List ℕ) (f : ℕ) → among needed f ≡ true → is_closed cs f ≡ true
      → Recorded cs f (tree_for m rules (unwound m rules cs needed) f)) where
    abbrev body : List ℕ
    body = (rule_at m rules c.rule).body

    root : (needed : List ℕ) (f : ℕ) → eqb c.fact f ≡ true
        → Recorded (c ∷ cs) f (node c.rule (subtrees (tree_for m rules (unwound m rules cs (body ++ needed))) body))
    root needed f is_f =
        let subs = bodies_recorded cs (tree_for m rules (unwound m rules cs (body ++ needed))) body (body ++ needed)
        (before (body ++ needed)) (among_append_left body needed) l.bodies in
        root_recorded c cs _ f l is_f subs.0 subs.1

    step_back : (needed : List ℕ) (f : ℕ) (b : Bool) → among needed c.fact ≡ b → (d : Bool) → eqb c.fact f ≡ d
        → among needed f ≡ true → is_closed (c ∷ cs) f ≡ true
        → Recorded (c ∷ cs) f (tree_for m rules (cond b (c.rule ∷ unwound m rules cs (body ++ needed)) (unwound m rules cs needed)) f)
    step_back needed f true e true k wanted h =
        subst (Recorded (c ∷ cs) f)
        (sym (cond-true (eqb (rule_at m rules c.rule).head f) _ _ (ap (λ x. eqb x f) l.heads ∙ k)))
        (root needed f k)
    step_back needed f true e false k wanted h =
        subst (Recorded (c ∷ cs) f)
        (sym (cond-false (eqb (rule_at m rules c.rule).head f) _ _ (ap (λ x. eqb x f) l.heads ∙ k)))
        (older_recorded c cs _ f k (before (body ++ needed) f (among_append_right body needed f wanted) (or_eqb _ _ _ h k)))
    step_back needed f false e true k wanted h = absurd (both_ways _ e (rw (eqb-true _ _ k) wanted))
    step_back needed f false e false k wanted h = older_recorded c cs _ f k (before needed f wanted (or_eqb _ _ _ h k))

  -- a closed fact that is needed is derived by the rules unwound from the log
  pub unwound_derives : (cs : List (Closed W)) → Log m rules cs → (needed : List ℕ) (f : ℕ)
      → among needed f ≡ true → is_closed cs f ≡ true
      → Recorded cs f (tree_for m rules (unwound m rules cs needed) f)
  unwound_derives [] log needed f wanted h = absurd (both_ways false refl h)
  unwound_derives (c ∷ cs) log needed f wanted h =
      step_back c cs log.0 (unwound_derives cs log.1) needed f (among needed c.fact) refl (eqb c.fact f) refl wanted h

  itself : (f : ℕ) → among (f ∷ []) f ≡ true
  itself f = or_left _ _ (eq-eqb f f refl)

  -- the last rule of a line concludes its target
  back_is : (cs : List (Closed W)) → Log m rules cs → (t : ℕ) → is_closed cs t ≡ true
      → tree_back m rules (unwound m rules cs (t ∷ [])) ≡ tree_for m rules (unwound m rules cs (t ∷ [])) t
  back_is [] log t h = absurd (both_ways false refl h)
  back_is (c ∷ cs) log t h = go (among (t ∷ []) c.fact) refl (back_is cs log.1 t)
    where
      rs : List ℕ
      rs = unwound m rules cs ((rule_at m rules c.rule).body ++ (t ∷ []))

      go : (b : Bool) → among (t ∷ []) c.fact ≡ b
          → (is_closed cs t ≡ true → tree_back m rules (unwound m rules cs (t ∷ [])) ≡ tree_for m rules (unwound m rules cs (t ∷ [])) t)
          → tree_back m rules (cond b (c.rule ∷ rs) (unwound m rules cs (t ∷ []))) ≡ tree_for m rules (cond b (c.rule ∷ rs) (unwound m rules cs (t ∷ []))) t
      go true e ih =
          sym (cond-true (eqb (rule_at m rules c.rule).head t) _ _ (eq-eqb _ _ (log.0.heads ∙ sym (among_one t c.fact e))))
      go false e ih =
          ih (or_eqb c.fact t _ h (ne_eqb _ _ (λ k. both_ways _ e (rw k (itself t)))))

  -- the line's derivation derives its target at the target's weight
  pub line_recorded : (cs : List (Closed W)) → Log m rules cs → (t : ℕ) → is_closed cs t ≡ true
      → Recorded cs t (line_tree m rules (reverse (unwound m rules cs (t ∷ []))))
  line_recorded cs log t h =
      let e : line_tree m rules (reverse (unwound m rules cs (t ∷ []))) ≡ tree_for m rules (unwound m rules cs (t ∷ [])) t =
      ap (tree_back m rules) (reverse-reverse (unwound m rules cs (t ∷ []))) ∙ back_is cs log t h in
      subst (Recorded cs t) (sym e) (unwound_derives cs log (t ∷ []) t (itself t) h)
