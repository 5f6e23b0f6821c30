-- Chains are the derivations of the rules of contexts.
use Rattle.std.proofs.Common.{◌≡◌, ℕ, zero, suc, true, false, not, List, [], ◌∷◌, sym, refl, ap, ◌∙◌, subst, inl, inr}
use Rattle.std.proofs.lemmas.Bool.{both_ways, cases_Bool}
use Rattle.measure.specs.Ops.{Ops, Laws}
use Rattle.derivation.specs.Rules.{Rule, rule_at}
use Rattle.derivation.specs.Joins.{joined}
use Rattle.derivation.specs.Trees.{Tree, node, Trees, leaf, branch, Derives, DeriveAll, weight, weights}
use Rattle.derivation.specs.Fit.{beside}
use Rattle.derivation.specs.Search.{survey, is_closed}
use Rattle.derivation.specs.Contexts.{Move, Chain, chain_weight, move_rule, move_rules, context_rules, surveyed, context}
use Rattle.derivation.specs.Maps.{LeastChain, ContextsLeast}
use Rattle.derivation.proofs.Answered.{weight_norm, lightest_unique}
use Rattle.derivation.proofs.Surveys.{surveyed_at}
use Rattle.derivation.proofs.Moves.{move_number, move_made}

-- the shape of a root over a rule that is known
root_derives : {W : Type 0} (m : Ops W) (rules : List (Rule W)) (r : ℕ) (a : Rule W) (ts : Trees) (f : ℕ)
    → rule_at m rules r ≡ a → not a.struck ≡ true → a.head ≡ f → DeriveAll m rules ts a.body
    → Derives m rules (node r ts) f
root_derives m rules r a ts f e stands head all =
    (ap (λ x. not x.struck) e ∙ stands, ap (λ x. x.head) e ∙ head, subst (λ x. DeriveAll m rules ts x.body) (sym e) all)

module _ {W : Type 0} {m : Ops W} (laws : Laws m) where
  pub join_nothing : (a : W) → m.join a m.nothing ≡ m.norm a
  join_nothing a = laws.comm a m.nothing ∙ laws.neutral a

  start_weight : m.join m.nothing m.nothing ≡ m.nothing
  start_weight = laws.neutral m.nothing ∙ laws.norm_nothing

module _ {W : Type 0} {m : Ops W} (laws : Laws m) (floor : ℕ → W) (rules : List (Rule W)) (target : ℕ) where
  abbrev moved : List (Rule W)
  moved = record { head = target; body = []; effort = m.nothing; struck = false } ∷ move_rules m floor rules

  chain_tree : (moves : List Move) (f : ℕ) → Chain m rules moves f target
      → (t : Tree) × Derives m moved t f × (weight m moved t ≡ chain_weight m floor rules moves)
  chain_tree [] f c = (node 0 leaf, (refl, sym c, tt), start_weight laws)
  chain_tree (a ∷ moves) f c =
      let more = chain_tree moves (rule_at m rules a.rule).head c.3 in
      let found = move_number m floor rules a.rule a.place c.0 c.1 in
      let t = branch more.0 leaf in
      let one : m.join (weight m moved more.0) m.nothing ≡ chain_weight m floor rules moves =
      join_nothing laws _ ∙ weight_norm laws moved more.0 ∙ more.2 in (
        node (suc found.0) t,
        root_derives m moved (suc found.0) (move_rule m floor (rule_at m rules a.rule) a.place) t f found.1 refl c.2 (more.1, tt),
        ap (λ x. m.join x.effort (joined m (weights m moved t))) found.1
            ∙ ap (m.join (beside m floor (rule_at m rules a.rule) a.place)) one,
      )

  none_weights : (ts : Trees) → DeriveAll m moved ts [] → weights m moved ts ≡ []
  none_weights leaf d = refl
  none_weights (branch t ts) d = absurd d

  -- a chain of at most one weight
  abbrev Of : ℕ → W → Type 0
  Of f w = (moves : List Move) × Chain m rules moves f target × (chain_weight m floor rules moves ≡ w)

  start_chain : (ts : Trees) (f : ℕ) → Derives m moved (node zero ts) f → Of f (weight m moved (node zero ts))
  start_chain ts f d = ([], sym d.1, sym (ap (λ ws. m.join m.nothing (joined m ws)) (none_weights ts d.2) ∙ start_weight laws))

  move_chain : (k : ℕ) (ts : Trees) (f : ℕ) → Derives m moved (node (suc k) ts) f
      → ((g : ℕ) → DeriveAll m moved ts (g ∷ []) → Of g (joined m (weights m moved ts)))
      → Of f (weight m moved (node (suc k) ts))
  move_chain k ts f d below =
      let q = move_made m floor rules k d.0 in
      let a = rule_at m rules q.rule in
      let more = below a.head (subst (λ x. DeriveAll m moved ts x.body) q.is d.2) in (
        record { rule = q.rule; place = q.place } ∷ more.0,
        (q.stands, q.within, sym (ap (λ x. x.head) q.is) ∙ d.1, more.1),
        ap (m.join (beside m floor a q.place)) more.2
            ∙ sym (ap (λ x. m.join x.effort (joined m (weights m moved ts))) q.is),
      )

  root_chain : (r : ℕ) (ts : Trees) (f : ℕ) → Derives m moved (node r ts) f
      → ((g : ℕ) → DeriveAll m moved ts (g ∷ []) → Of g (joined m (weights m moved ts)))
      → Of f (weight m moved (node r ts))
  root_chain zero ts f d below = start_chain ts f d
  root_chain (suc k) ts f d below = move_chain k ts f d below

  mutual
    tree_chain : (t : Tree) (f : ℕ) → Derives m moved t f → Of f (weight m moved t)
    tree_chain (node r ts) f d = root_chain r ts f d (only_chain ts)

    only_chain : (ts : Trees) (g : ℕ) → DeriveAll m moved ts (g ∷ []) → Of g (joined m (weights m moved ts))
    only_chain leaf g d = absurd d
    only_chain (branch t ts) g d =
        let one = tree_chain t g d.0 in (
          one.0,
          one.1,
          one.2 ∙ sym (weight_norm laws moved t) ∙ sym (join_nothing laws _) ∙ ap (λ ws. m.join (weight m moved t) (joined m ws)) (sym (none_weights ts d.1)),
        )

  pub chain_least : (f : ℕ) → LeastChain m floor rules target f (context m floor rules target f)
  unfolding context surveyed context_rules
  chain_least f =
      let q = surveyed_at laws moved f in
      record {
        least = λ moves c.
            let t = chain_tree moves f c in
            let l = q.lightest (t.0, t.1) in
            subst (λ x. m.leb (surveyed m moved f) x ≡ true) t.2 (l.3 t.0 t.1);
        attained = λ moves c.
            let t = chain_tree moves f c in
            let l = q.lightest (t.0, t.1) in
            let best = tree_chain l.0 f l.1 in
            (best.0, best.1, best.2 ∙ l.2);
        absent = λ never. q.absent (λ d. let c = tree_chain d.0 f d.1 in never c.0 c.1);
      }

  -- the least weight of a chain is unique, so that whatever gives it gives the context
  pub least_chain_is : (f : ℕ) (w : W) → LeastChain m floor rules target f w → w ≡ context m floor rules target f
  unfolding context surveyed context_rules
  least_chain_is f w q =
      let p = surveyed_at laws moved f in
      elim (cases_Bool (is_closed (survey m moved).closed f)) [
        | inl h ↦
            let l = p.lightest (p.derivable h) in
            let c = tree_chain l.0 f l.1 in
            let best = q.attained c.0 c.1 in
            let t = chain_tree best.0 f best.1 in
            lightest_unique laws moved f w _ (
              t.0,
              t.1,
              t.2 ∙ best.2,
              λ d k.
                  let e = tree_chain d f k in
                  subst (λ x. m.leb w x ≡ true) e.2 (q.least e.0 e.1),
            ) l
        | inr h ↦
            let never : (moves : List Move) → Chain m rules moves f target → ⊥ =
            λ moves c. let t = chain_tree moves f c in both_ways _ h (p.closed (t.0, t.1)) in
            q.absent never ∙ sym (p.absent (λ d. let c = tree_chain d.0 f d.1 in never c.0 c.1))
      ]

  pub context_target : context m floor rules target target ≡ m.nothing
  unfolding context surveyed context_rules
  context_target =
      let t = chain_tree [] target refl in
      lightest_unique laws moved target _ _ ((surveyed_at laws moved target).lightest (t.0, t.1)) (t.0, t.1, t.2, λ d h. laws.lightest _)

module _ {W : Type 0} {m : Ops W} (laws : Laws m) where
  pub contexts_least : ContextsLeast m
  contexts_least rules floor target = (chain_least laws floor rules target, context_target laws floor rules target)
