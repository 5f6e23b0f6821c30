-- The frontier: a derivation of a fact that is not closed holds an entry of the queue, no heavier than it.
use Rattle.std.proofs.Common.{◌≡◌, ℕ, suc, ◌<◌, Bool, true, false, ◌⊎◌, List, [], ◌∷◌, map, length, get_or, refl, inl, inr, arith}
use Rattle.std.proofs.lemmas.List.{length-map}
use Rattle.std.proofs.lemmas.Bool.{and_parts, and_from, not_from_false}
use Rattle.measure.specs.Ops.{Ops, Laws}
use Rattle.derivation.specs.Rules.{Rule, rule_at, Standing}
use Rattle.derivation.specs.Joins.{joined, without}
use Rattle.derivation.specs.Trees.{Tree, node, Trees, leaf, branch, Derives, DeriveAll, weight, weights, Least}
use Rattle.derivation.specs.Fit.{Consistent}
use Rattle.derivation.specs.Search.{State, is_closed, weight_in, all_closed, among, queued, entry}
use Rattle.derivation.proofs.Weights.{Below, join_right, joined_below, without_below, place_below, part_right, chain_step, map_without, length_below}
use Rattle.derivation.proofs.Floors.{floors_below}

module _ {W : Type 0} {m : Ops W} (laws : Laws m) (rules : List (Rule W)) (floor rest : ℕ → W) (guided : Consistent m floor rest rules)
    (s : State W)
    (lightest : (f : ℕ) → is_closed s.closed f ≡ true → Least m rules f (weight_in m s.closed f))
    (untaken : (r : ℕ) → Standing m rules r → is_closed s.closed (rule_at m rules r).head ≡ false → among s.taken r ≡ false)
  where
    -- an entry of the queue of at most this weight and this priority
    pub record Front (w p : W) : Type 0 where
      pub rule : ℕ
      pub waits : queued m rules s rule ≡ true
      pub by_weight : m.leb (entry m rules rest s.closed rule).weight w ≡ true
      pub by_priority : m.leb (entry m rules rest s.closed rule).priority p ≡ true

    front_up : (w p v q : W) → m.leb w v ≡ true → m.leb p q ≡ true → Front w p → Front v q
    front_up w p v q h k a = record {
      rule = a.rule;
      waits = a.waits;
      by_weight = laws.trans _ _ _ a.by_weight h;
      by_priority = laws.trans _ _ _ a.by_priority k;
    }

    closed_below : (ts : Trees) (fs : List ℕ) → DeriveAll m rules ts fs → all_closed s.closed fs ≡ true
        → Below m (map (weight_in m s.closed) fs) (weights m rules ts)
    closed_below leaf [] d h = tt
    closed_below leaf (f ∷ fs) d h = absurd d
    closed_below (branch t ts) [] d h = absurd d
    closed_below (branch t ts) (f ∷ fs) d h =
        let p = and_parts (is_closed s.closed f) (all_closed s.closed fs) h in
        (lightest f p.0 t d.0, closed_below ts fs d.1 p.1)

    -- a rule whose body is closed throughout is itself in the queue
    at_root : (r : ℕ) (ts : Trees) (f : ℕ) → Derives m rules (node r ts) f → is_closed s.closed f ≡ false
        → all_closed s.closed (rule_at m rules r).body ≡ true
        → Front (weight m rules (node r ts)) (m.join (weight m rules (node r ts)) (rest f))
    unfolding queued entry
    at_root r ts f d away whole =
        let head : (rule_at m rules r).head ≡ f = d.1 in
        let new : among s.taken r ≡ false = untaken r d.0 (rw head away) in
        let w = m.join (rule_at m rules r).effort (joined m (map (weight_in m s.closed) (rule_at m rules r).body)) in
        let light : m.leb w (weight m rules (node r ts)) ≡ true =
        join_right laws _ _ _ (joined_below laws _ _ (closed_below ts _ d.2 whole)) in
        record {
          rule = r;
          waits = and_from _ _ d.0 (and_from _ _ whole (not_from_false _ new));
          by_weight = light;
          by_priority = rw head (laws.mono _ _ (rest f) light);
        }

    -- a front below one place of a rule is one of the whole
    from_place : (r : ℕ) (ts : Trees) (f i : ℕ) → Derives m rules (node r ts) f → i < length (rule_at m rules r).body
        → Front (get_or (weights m rules ts) i m.nothing) (m.join (get_or (weights m rules ts) i m.nothing) (rest (get_or (rule_at m rules r).body i 0)))
        → Front (weight m rules (node r ts)) (m.join (weight m rules (node r ts)) (rest f))
    from_place r ts f i d within a =
        let body = (rule_at m rules r).body in
        let ws = weights m rules ts in
        let floors : Below m (map floor body) ws = floors_below laws rules floor (λ q h. (guided q h).floors) ts body d.2 in
        let long : length (map floor body) ≡ length ws = length_below laws _ _ floors in
        let inside : i < length ws = omega (arith, length-map body floor) in
        let others : Below m (map floor (without body i)) (without ws i) = rw (map_without floor body i) (without_below laws (map floor body) ws i floors) in
        let light : m.leb (get_or ws i m.nothing) (weight m rules (node r ts)) ≡ true =
        laws.trans _ _ _ (place_below laws ws i m.nothing inside) (part_right laws (joined m ws) _) in
        let up = chain_step laws _ _ _ _ ws i m.nothing inside others ((guided r d.0).rests i within) in
        front_up _ _ _ _ light (rw d.1 at up) a

    -- all closed, or a front below one place
    abbrev Fronts : List ℕ → Trees → Type 0
    Fronts fs ts =
        (all_closed s.closed fs ≡ true)
        ⊎ ((i : ℕ) × (i < length fs) × Front (get_or (weights m rules ts) i m.nothing) (m.join (get_or (weights m rules ts) i m.nothing) (rest (get_or fs i 0))))

    fronts_more : (t : Tree) (ts : Trees) (f : ℕ) (fs : List ℕ) (b : Bool) → is_closed s.closed f ≡ b
        → (is_closed s.closed f ≡ false → Front (weight m rules t) (m.join (weight m rules t) (rest f)))
        → Fronts fs ts → Fronts (f ∷ fs) (branch t ts)
    fronts_more t ts f fs true e here (inl h) = inl (and_from _ _ e h)
    fronts_more t ts f fs true e here (inr p) = inr (suc p.0, omega (arith, p.1), p.2)
    fronts_more t ts f fs false e here more = inr (0, omega arith, here e)

    mutual
      pub frontier : (t : Tree) (f : ℕ) → Derives m rules t f → is_closed s.closed f ≡ false
          → Front (weight m rules t) (m.join (weight m rules t) (rest f))
      frontier (node r ts) f d away =
          elim (fronts ts (rule_at m rules r).body d.2) [
            | inl whole ↦ at_root r ts f d away whole
            | inr p ↦ from_place r ts f p.0 d p.1 p.2
          ]

      fronts : (ts : Trees) (fs : List ℕ) → DeriveAll m rules ts fs → Fronts fs ts
      fronts leaf [] d = inl refl
      fronts leaf (f ∷ fs) d = absurd d
      fronts (branch t ts) [] d = absurd d
      fronts (branch t ts) (f ∷ fs) d = fronts_more t ts f fs (is_closed s.closed f) refl (frontier t f d.0) (fronts ts fs d.1)
