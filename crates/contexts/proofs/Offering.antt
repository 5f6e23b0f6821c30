-- Offers put into the queue: what is offered stays, and each entry has a chain of its weight.
use Rattle.std.proofs.Common.{◌≡◌, ℕ, zero, suc, ◌<◌, ◌⊎◌, List, ◌∷◌, length, get_or, refl, ap, ◌∙◌, subst, inl, inr, arith}
use Rattle.std.specs.List.{ContainsAt as Has, HoldsAt, AllByRecursion}
use Rattle.std.specs.List.Sorted.{IsPermutation}
use Rattle.std.proofs.ByRecursion.{all_shuffled, has_shuffled}
use Rattle.measure.specs.Ops.{Ops, Laws}
use Rattle.queue.specs.declared.entry.Entry.{Entry}
use Rattle.derivation.specs.Rules.{Rule, rule_at, Standing}
use Rattle.derivation.specs.Fit.{beside}
use Rattle.derivation.specs.Contexts.{Chain}
use Rattle.derivation.proofs.Weights.{same}
use Rattle.contexts.specs.Offers.{entry_for, Done, Offered, Settled, Offering, Honest, Follows}

pub has_cases : {X : Type 0} (x : X) (xs : List X) (e : X) → Has (x ∷ xs) e → (x ≡ e) ⊎ Has xs e
has_cases {X} x xs e h = go h.0 h.1 h.2
  where
    go : (k : ℕ) → k < length (x ∷ xs) → HoldsAt (λ y. y ≡ e) (x ∷ xs) k → (x ≡ e) ⊎ Has xs e
    go zero l at = inl (at x)
    go (suc k) l at = inr (k, omega arith, at)

pub has_tail : {X : Type 0} (x : X) (xs : List X) (e : X) → Has xs e → Has (x ∷ xs) e
has_tail x xs e h = (suc h.0, (let l = h.1 in omega arith), h.2)

pub has_front : {X : Type 0} (x : X) (xs : List X) → Has (x ∷ xs) x
has_front x xs = (zero, omega arith, λ d. refl)

-- one weight offered to one group
module _ {W : Type 0} (m : Ops W) (done : List ℕ) (g : ℕ) (w : W) (entries entries' : List (Entry W)) (o : Offering done g w entries entries') where
  pub offering_grows : (b : ℕ) (v : W) → Offered m entries b v → Offered m entries' b v
  offering_grows b v f =
      elim o [
        | inl p ↦ rw p.1 f
        | inr a ↦ (f.0, has_shuffled _ _ f.0 a (has_tail (entry_for g w) entries f.0 f.1), f.2, f.3)
      ]

  pub offering_settles : Laws m → Settled m done entries' g w
  offering_settles laws =
      elim o [
        | inl p ↦ inl p.0
        | inr a ↦ inr (entry_for g w, has_shuffled _ _ (entry_for g w) a (has_front (entry_for g w) entries), refl, same laws w)
      ]

  pub offering_honest : (floor : ℕ → W) (rules : List (Rule W)) (facts target : ℕ) → Honest m floor rules facts target (entry_for g w)
      → AllByRecursion (Honest m floor rules facts target) entries → AllByRecursion (Honest m floor rules facts target) entries'
  offering_honest floor rules facts target new q =
      elim o [
        | inl p ↦ rw p.1 q
        | inr a ↦ all_shuffled _ _ _ a (new, q)
      ]

module _ {W : Type 0} (m : Ops W) (floor : ℕ → W) (rules : List (Rule W)) (facts : ℕ) (done : List ℕ) (g : ℕ) (w : W) where
  -- nothing was offered yet
  pub follows_none : (P : ℕ → ℕ → Type 0) → ((r i : ℕ) → P r i → ⊥) → (entries : List (Entry W))
      → Follows m floor rules facts done g w P entries entries
  follows_none P none entries = record {
    grows = λ b v f. f;
    honest = λ target c q. q;
    places = λ r i p l. absurd (none r i p);
  }

  pub follows_then : (P Q R : ℕ → ℕ → Type 0) (e₀ e₁ e₂ : List (Entry W))
      → Follows m floor rules facts done g w P e₀ e₁ → Follows m floor rules facts done g w Q e₁ e₂
      → ((r i : ℕ) → R r i → P r i ⊎ Q r i)
      → Follows m floor rules facts done g w R e₀ e₂
  follows_then P Q R e₀ e₁ e₂ a b parts = record {
    grows = λ k v f. b.grows k v (a.grows k v f);
    honest = λ target c q. b.honest target c (a.honest target c q);
    places = λ r i p l. elim (parts r i p) [
      | inl h ↦ elim (a.places r i h l) [ inl d ↦ inl d | inr f ↦ inr (b.grows _ _ f) ]
      | inr h ↦ b.places r i h l
    ];
  }

  -- the offer to one place of a rule that concludes g
  pub follows_one : Laws m → (n j : ℕ) → Standing m rules n → (rule_at m rules n).head ≡ g → j < length (rule_at m rules n).body
      → get_or (rule_at m rules n).body j 0 < facts
      → (entries entries' : List (Entry W))
      → Offering done (get_or (rule_at m rules n).body j 0) (m.join (beside m floor (rule_at m rules n) j) w) entries entries'
      → Follows m floor rules facts done g w (λ r i. (r ≡ n) × (i ≡ j)) entries entries'
  follows_one laws n j stands head within under entries entries' o =
      let b = get_or (rule_at m rules n).body j 0 in
      let v = m.join (beside m floor (rule_at m rules n) j) w in
      record {
        grows = offering_grows m done b v entries entries' o;
        honest = λ target c q.
            let chain : Chain m rules c.0 (rule_at m rules n).head target = rw head c.1 in
            let new : Honest m floor rules facts target (entry_for b v) =
            (under, refl, (record { rule = n; place = j } ∷ c.0, (stands, within, refl, chain), ap (m.join (beside m floor (rule_at m rules n) j)) c.2)) in
            offering_honest m done b v entries entries' o floor rules facts target new q;
        places = λ r i p l.
            rw (p.0, p.1) (offering_settles m done b v entries entries' o laws);
      }

-- an entry taken out
module _ {W : Type 0} (m : Ops W) (entries entries' : List (Entry W)) (x : Entry W) (out : IsPermutation entries (x ∷ entries')) where
  pub settled_removed : (done done' : List ℕ) → Done done' x.rule → ((b : ℕ) → Done done b → Done done' b)
      → (b : ℕ) (w : W) → Settled m done entries b w → Settled m done' entries' b w
  settled_removed done done' closed more b w s =
      elim s [
        | inl d ↦ inl (more b d)
        | inr f ↦ elim (has_cases x entries' f.0 (has_shuffled _ _ f.0 out f.1)) [
          | inl e ↦ inl (subst (Done done') (ap (λ (y : Entry W). y.rule) e ∙ f.2) closed)
          | inr h ↦ inr (f.0, h, f.2, f.3)
        ]
      ]

  pub honest_removed : (floor : ℕ → W) (rules : List (Rule W)) (facts target : ℕ) → AllByRecursion (Honest m floor rules facts target) entries
      → Honest m floor rules facts target x × AllByRecursion (Honest m floor rules facts target) entries'
  honest_removed floor rules facts target q =
      let parts : AllByRecursion (Honest m floor rules facts target) (x ∷ entries') = all_shuffled _ _ _ out q in
      (parts.0, parts.1)
