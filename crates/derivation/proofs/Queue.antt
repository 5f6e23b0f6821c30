-- The first entry of the queue: what its order gives.
use Rattle.std.proofs.Common.{◌≡◌, ℕ, zero, suc, ◌<◌, Bool, true, false, cond, leb, ◌⊎◌, List, Some, None, Option, refl, inl, inr, arith}
use Rattle.std.proofs.lemmas.Bool.{both_ways, cases_eq}
use Rattle.measure.specs.Ops.{Ops, Laws}
use Rattle.derivation.specs.Rules.{Rule}
use Rattle.derivation.specs.Search.{Entry, State, ahead, before, first, queued, entry, candidate, least}

-- an entry precedes another: no heavier by priority and, where neither is, no heavier by weight
pub record Precedes {W : Type 0} (m : Ops W) (a b : Entry W) : Type 0 where
  pub by_priority : m.leb a.priority b.priority ≡ true
  pub by_weight : m.leb b.priority a.priority ≡ true → m.leb a.weight b.weight ≡ true

ahead_first : (x y z : Bool) → ahead x y z ≡ true → x ≡ true
ahead_first true y z h = refl
ahead_first false y z h = h

ahead_next : (x y z : Bool) → ahead x y z ≡ true → y ≡ true → z ≡ true
ahead_next true true z h e = h
ahead_next true false z h e = absurd (both_ways false refl e)
ahead_next false y z h e = absurd (both_ways false refl h)

-- not ahead: the other is no greater, and where neither is greater the next key failed
ahead_not : (x y z : Bool) → ahead x y z ≡ false → (x ≡ false) ⊎ ((y ≡ true) × (z ≡ false))
ahead_not true true z h = inr (refl, h)
ahead_not true false z h = absurd (both_ways true h refl)
ahead_not false y z h = inl refl

module _ {W : Type 0} {m : Ops W} (laws : Laws m) where
  pub precedes_trans : (a b c : Entry W) → Precedes m a b → Precedes m b c → Precedes m a c
  precedes_trans a b c p q = record {
    by_priority = laws.trans _ _ _ p.by_priority q.by_priority;
    by_weight = λ h. laws.trans _ _ _ (p.by_weight (laws.trans _ _ _ q.by_priority h)) (q.by_weight (laws.trans _ _ _ h p.by_priority));
  }

  other_way : (a b : W) → m.leb a b ≡ false → m.leb b a ≡ true
  other_way a b h = elim (laws.total a b) [ inl k ↦ absurd (both_ways _ h k) | inr k ↦ k ]

  pub precedes_before : (a b : Entry W) → before m a b ≡ true → Precedes m a b
  precedes_before a b h =
      let x = m.leb a.priority b.priority in
      let y = m.leb b.priority a.priority in
      let v = m.leb a.weight b.weight in
      let w = m.leb b.weight a.weight in
      let n = leb a.rule b.rule in
      record { by_priority = ahead_first x y (ahead v w n) h; by_weight = λ k. ahead_first v w n (ahead_next x y (ahead v w n) h k) }

  pub precedes_not_before : (a b : Entry W) → before m a b ≡ false → Precedes m b a
  precedes_not_before a b h =
      let x = m.leb a.priority b.priority in
      let y = m.leb b.priority a.priority in
      let v = m.leb a.weight b.weight in
      let w = m.leb b.weight a.weight in
      let n = leb a.rule b.rule in
      elim (ahead_not x y (ahead v w n) h) [
        | inl k ↦ record { by_priority = other_way _ _ k; by_weight = λ l. absurd (both_ways x k l) }
        | inr p ↦ record {
          by_priority = p.0;
          by_weight = λ _. elim (ahead_not v w n p.1) [ inl k ↦ other_way _ _ k | inr q ↦ q.0 ];
        }
      ]

  pub precedes_itself : (a : Entry W) → Precedes m a a
  precedes_itself a = record { by_priority = itself a.priority; by_weight = λ _. itself a.weight }
    where
      itself : (w : W) → m.leb w w ≡ true
      itself w = elim (laws.total w w) [ inl h ↦ h | inr h ↦ h ]

module _ {W : Type 0} {m : Ops W} (laws : Laws m) (rules : List (Rule W)) (rest : ℕ → W) (s : State W) where
  -- e is an entry of the queue that precedes those of all rules below n
  pub record First (n : ℕ) (e : Entry W) : Type 0 where
    pub is : e ≡ entry m rules rest s.closed e.rule
    pub waits : queued m rules s e.rule ≡ true
    pub under : e.rule < n
    pub precedes : (r : ℕ) → r < n → queued m rules s r ≡ true → Precedes m e (entry m rules rest s.closed r)

  abbrev pub Sought : ℕ → Option (Entry W) → Type 0
  Sought n None = (r : ℕ) → r < n → queued m rules s r ≡ false
  Sought n (Some e) = First n e

  none_more : (n : ℕ) → queued m rules s n ≡ false → Sought n None → Sought (suc n) None
  none_more n no_n none r h = elim (cases_eq r n) [ inl e ↦ rw e no_n | inr e ↦ none r (omega arith) ]

  some_more : (n : ℕ) (e : Entry W)
      → (queued m rules s n ≡ true → Precedes m e (entry m rules rest s.closed n))
      → First n e → First (suc n) e
  some_more n e here f = record {
    is = f.is;
    waits = f.waits;
    under = omega arith;
    precedes = λ r h q. elim (cases_eq r n) [ inl k ↦ rw k (here (rw k at q)) | inr k ↦ f.precedes r (omega arith) q ];
  }

  -- the rule n comes first of all up to it
  new_first : (n : ℕ) → queued m rules s n ≡ true
      → ((r : ℕ) → r < n → queued m rules s r ≡ true → Precedes m (entry m rules rest s.closed n) (entry m rules rest s.closed r))
      → First (suc n) (entry m rules rest s.closed n)
  unfolding entry
  new_first n q earlier = record {
    is = refl;
    waits = q;
    under = omega arith;
    precedes = λ r h k. elim (cases_eq r n) [ inl l ↦ rw l (precedes_itself laws _) | inr l ↦ earlier r (omega arith) k ];
  }

  choice : (n : ℕ) (a : Entry W) (b : Bool) → before m a (entry m rules rest s.closed n) ≡ b
      → queued m rules s n ≡ true → First n a
      → First (suc n) (cond b a (entry m rules rest s.closed n))
  choice n a true e q f = some_more n a (λ _. precedes_before laws a _ e) f
  choice n a false e q f = new_first n q (λ r h k. precedes_trans laws _ a _ (precedes_not_before laws a _ e) (f.precedes r h k))

  sought_more : (n : ℕ) (o : Option (Entry W)) (b : Bool) → queued m rules s n ≡ b → Sought n o
      → Sought (suc n) (first m o (cond b (Some (entry m rules rest s.closed n)) None))
  sought_more n None true q none = new_first n q (λ r h k. absurd (both_ways _ (none r h) k))
  sought_more n None false q none = none_more n q none
  sought_more n (Some a) true q f = choice n a _ refl q f
  sought_more n (Some a) false q f = some_more n a (λ k. absurd (both_ways _ q k)) f

  pub sought : (n : ℕ) → Sought n (least m rules rest s n)
  unfolding candidate
  sought zero = λ r h. absurd (omega arith)
  sought (suc n) = sought_more n (least m rules rest s n) (queued m rules s n) refl (sought n)
