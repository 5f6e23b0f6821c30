-- What holds of every state of a search under a consistent guide.
use Rattle.std.proofs.Common.{◌≡◌, ℕ, zero, suc, ◌<◌, Bool, true, false, cond, not, ◌&&◌, eqb, List, [], ◌∷◌, length, Some, Option, sym, refl, ap, ◌∙◌, subst, inl, inr, arith}
use Rattle.std.proofs.lemmas.Bool.{both_ways, and_parts, eqb-true, eq-eqb, ne_eqb, cond-true, cond-false, cases_Bool, or_parts, or_left, or_from, not-true}
use Rattle.measure.specs.Ops.{Ops, Laws}
use Rattle.derivation.specs.Rules.{Rule, rule_at, standing, Standing}
use Rattle.derivation.specs.Trees.{Tree, Derives, weight, Least}
use Rattle.derivation.specs.Fit.{Consistent}
use Rattle.derivation.specs.Search.{Closed, State, Entry, start, is_closed, weight_in, all_closed, among, queued, entry, take_entry, reached}
use Rattle.derivation.proofs.Queue.{First}
use Rattle.derivation.proofs.Log.{Logged, Log, or_eqb}
use Rattle.derivation.proofs.Frontier.{Front, frontier}

module _ {W : Type 0} (m : Ops W) (rules : List (Rule W)) (rest : ℕ → W) (target : Option ℕ) where
  pub record Sound (s : State W) : Type 0 where
    -- each closed fact was closed by a rule over facts closed before it
    pub log : Log m rules s.closed
    -- at its lightest weight
    pub lightest : (f : ℕ) → is_closed s.closed f ≡ true → Least m rules f (weight_in m s.closed f)
    -- a standing rule whose head is not closed was not taken
    pub untaken : (r : ℕ) → Standing m rules r → is_closed s.closed (rule_at m rules r).head ≡ false → among s.taken r ≡ false
    -- no closed fact's priority is above that of a derivation of the target
    pub bounded : (t : ℕ) → target ≡ Some t → (f : ℕ) → is_closed s.closed f ≡ true → (d : Tree) → Derives m rules d t
        → m.leb (m.join (weight_in m s.closed f) (rest f)) (m.join (weight m rules d) (rest t)) ≡ true
    -- once the target is closed, no derivation of a fact that is not closed has a priority below the target's
    pub beyond : (t : ℕ) → target ≡ Some t → is_closed s.closed t ≡ true
        → (f : ℕ) → is_closed s.closed f ≡ false → (d : Tree) → Derives m rules d f
        → m.leb (m.join (weight_in m s.closed t) (rest t)) (m.join (weight m rules d) (rest f)) ≡ true

  pub sound_start : Sound start
  sound_start = record {
    log = tt;
    lightest = λ f h. absurd (both_ways false refl h);
    untaken = λ r h k. refl;
    bounded = λ t e f h. absurd (both_ways false refl h);
    beyond = λ t e h. absurd (both_ways false refl h);
  }

pub standing_under : {W : Type 0} (m : Ops W) (rules : List (Rule W)) (r : ℕ) → Standing m rules r → r < length rules
standing_under m [] r h = absurd (both_ways false refl h)
standing_under m (a ∷ rules) zero h = omega arith
standing_under m (a ∷ rules) (suc r) h = omega (arith, standing_under m rules r h)

-- what it means to be in the queue
pub queued_parts : {W : Type 0} (m : Ops W) (rules : List (Rule W)) (s : State W) (r : ℕ) → queued m rules s r ≡ true
    → Standing m rules r × (all_closed s.closed (rule_at m rules r).body ≡ true) × (among s.taken r ≡ false)
unfolding queued
queued_parts m rules s r h =
    let p = and_parts (standing m rules r) (all_closed s.closed (rule_at m rules r).body && not (among s.taken r)) h in
    let q = and_parts (all_closed s.closed (rule_at m rules r).body) (not (among s.taken r)) p.1 in
    (p.0, q.0, not-true (among s.taken r) q.1)

pub queued_under : {W : Type 0} (m : Ops W) (rules : List (Rule W)) (s : State W) (r : ℕ) → queued m rules s r ≡ true → r < length rules
queued_under m rules s r h = standing_under m rules r (queued_parts m rules s r h).0

module _ {W : Type 0} {m : Ops W} (laws : Laws m) (rules : List (Rule W)) (floor rest : ℕ → W) (target : Option ℕ)
    (guided : Consistent m floor rest rules) (s : State W) (sound : Sound m rules rest target s)
    (open_target : reached target s ≡ false) (e : Entry W) (best : First laws rules rest s (length rules) e) where
  abbrev head : ℕ
  head = (rule_at m rules e.rule).head

  front : (g : ℕ) → is_closed s.closed g ≡ false → (d : Tree) → Derives m rules d g
      → Front laws rules floor rest guided s sound.lightest sound.untaken (weight m rules d) (m.join (weight m rules d) (rest g))
  front g away d derives = frontier laws rules floor rest guided s sound.lightest sound.untaken d g derives away

  priority_is : e.priority ≡ m.join e.weight (rest head)
  unfolding entry
  priority_is = ap (λ x. x.priority) best.is ∙ ap (λ x. m.join x.weight (rest head)) (sym best.is)

  -- the entry taken is no heavier, by priority, than any derivation of a fact that is not closed
  first_priority : (g : ℕ) → is_closed s.closed g ≡ false → (d : Tree) → Derives m rules d g
      → m.leb (m.join e.weight (rest head)) (m.join (weight m rules d) (rest g)) ≡ true
  first_priority g away d derives =
      let a = front g away d derives in
      let p = best.precedes a.rule (queued_under m rules s a.rule a.waits) a.waits in
      rw (← priority_is) (laws.trans _ _ _ p.by_priority a.by_priority)

  -- and, where it closes its head, no heavier than any derivation of that
  first_weight : is_closed s.closed head ≡ false → Least m rules head e.weight
  first_weight away d derives =
      let a = front head away d derives in
      let p = best.precedes a.rule (queued_under m rules s a.rule a.waits) a.waits in
      elim (laws.total e.weight (weight m rules d)) [
        | inl h ↦ h
        | inr h ↦ laws.trans _ _ _
            (p.by_weight (subst (λ x. m.leb (entry m rules rest s.closed a.rule).priority x ≡ true) (sym priority_is)
            (laws.trans _ _ _ a.by_priority (laws.mono _ _ (rest head) h))))
            a.by_weight
      ]

  abbrev took : List (Closed W) → State W
  took cs = record { closed = cs; taken = e.rule ∷ s.taken }

  abbrev new : Closed W
  new = record { fact = head; weight = e.weight; rule = e.rule }

  -- the rule taken has a closed head, so that the others are taken as before
  still_untaken : (cs : List (Closed W)) → is_closed cs head ≡ true
      → ((f : ℕ) → is_closed cs f ≡ false → is_closed s.closed f ≡ false)
      → (r : ℕ) → Standing m rules r → is_closed cs (rule_at m rules r).head ≡ false → among (e.rule ∷ s.taken) r ≡ false
  still_untaken cs shut older r stands away =
      or_from _ _
      (ne_eqb _ _ (λ k. both_ways _ away (subst (λ x. is_closed cs (rule_at m rules x).head ≡ true) k shut)))
      (sound.untaken r stands (older _ away))

  dropped : is_closed s.closed head ≡ true → Sound m rules rest target (took s.closed)
  dropped shut = record {
    log = sound.log;
    lightest = sound.lightest;
    untaken = still_untaken s.closed shut (λ f h. h);
    bounded = sound.bounded;
    beyond = sound.beyond;
  }

  logged : is_closed s.closed head ≡ false → Logged m rules new s.closed
  unfolding entry
  logged away =
      let p = queued_parts m rules s e.rule best.waits in
      record { stands = p.0; heads = refl; bodies = p.1; weighs = sym (ap (λ x. x.weight) best.is); fresh = away }

  weight_new : (f : ℕ) → eqb head f ≡ true → weight_in m (new ∷ s.closed) f ≡ e.weight
  weight_new f h = cond-true (eqb head f) _ _ h

  weight_old : (f : ℕ) → eqb head f ≡ false → weight_in m (new ∷ s.closed) f ≡ weight_in m s.closed f
  weight_old f h = cond-false (eqb head f) _ _ h

  lightest_new : is_closed s.closed head ≡ false → (f : ℕ) → is_closed (new ∷ s.closed) f ≡ true → Least m rules f (weight_in m (new ∷ s.closed) f)
  lightest_new away f h d derives =
      elim (cases_Bool (eqb head f)) [
        | inl k ↦ rw (weight_new f k) (first_weight away d (subst (Derives m rules d) (sym (eqb-true head f k)) derives))
        | inr k ↦ rw (weight_old f k) (sound.lightest f (or_eqb _ _ _ h k) d derives)
      ]

  target_away : (t : ℕ) → target ≡ Some t → is_closed s.closed t ≡ false
  target_away t is_t = subst (λ o. reached o s ≡ false) is_t open_target

  bounded_new : is_closed s.closed head ≡ false
      → (t : ℕ) → target ≡ Some t → (f : ℕ) → is_closed (new ∷ s.closed) f ≡ true → (d : Tree) → Derives m rules d t
      → m.leb (m.join (weight_in m (new ∷ s.closed) f) (rest f)) (m.join (weight m rules d) (rest t)) ≡ true
  bounded_new away t is_t f h d derives =
      elim (cases_Bool (eqb head f)) [
        | inl k ↦ rw (weight_new f k)
            (subst (λ x. m.leb (m.join e.weight (rest x)) (m.join (weight m rules d) (rest t)) ≡ true) (eqb-true head f k)
            (first_priority t (target_away t is_t) d derives))
        | inr k ↦ rw (weight_old f k) (sound.bounded t is_t f (or_eqb _ _ _ h k) d derives)
      ]

  beyond_new : is_closed s.closed head ≡ false
      → (t : ℕ) → target ≡ Some t → is_closed (new ∷ s.closed) t ≡ true
      → (f : ℕ) → is_closed (new ∷ s.closed) f ≡ false → (d : Tree) → Derives m rules d f
      → m.leb (m.join (weight_in m (new ∷ s.closed) t) (rest t)) (m.join (weight m rules d) (rest f)) ≡ true
  beyond_new away t is_t h f out d derives =
      elim (cases_Bool (eqb head t)) [
        | inl k ↦ rw (weight_new t k)
            (subst (λ x. m.leb (m.join e.weight (rest x)) (m.join (weight m rules d) (rest f)) ≡ true) (eqb-true head t k)
            (first_priority f (or_parts _ _ out).1 d derives))
        | inr k ↦ absurd (both_ways _ (target_away t is_t) (or_eqb _ _ _ h k))
      ]

  closed : is_closed s.closed head ≡ false → Sound m rules rest target (took (new ∷ s.closed))
  closed away = record {
    log = (logged away, sound.log);
    lightest = lightest_new away;
    untaken = still_untaken (new ∷ s.closed) (or_left _ _ (eq-eqb head head refl)) (λ f h. (or_parts _ _ h).1);
    bounded = bounded_new away;
    beyond = beyond_new away;
  }

  pub sound_taken : Sound m rules rest target (take_entry m rules s e)
  unfolding take_entry
  sound_taken = go (is_closed s.closed head) refl
    where
      go : (b : Bool) → is_closed s.closed head ≡ b → Sound m rules rest target (took (cond b s.closed (new ∷ s.closed)))
      go true h = dropped h
      go false h = closed h
