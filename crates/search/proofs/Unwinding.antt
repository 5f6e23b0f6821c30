-- Writing the line, one rule back.
use Rattle.std.proofs.Common.{◌≡◌, ℕ, ◌+◌, ◌<◌, ◌≤◌, Bool, true, false, cond, ◌||◌, eqb, List, [], ◌∷◌, ◌++◌, length, get_or, take, drop, set, sym, refl, ap, ◌∙◌, inl, inr, append_assoc, arith}
use Rattle.std.proofs.lemmas.List.{take_more, take_more_set, drop-set-lt, drop-drop, at_drop_more, get_or-set_same, get_or-set_other}
use Rattle.std.proofs.lemmas.Bool.{cases_eq, eq-eqb, ne_eqb}
use Rattle.sheet.specs.Slots.{Slot}
use Rattle.sheet.specs.Rules.{body_of}
use Rattle.sheet.specs.Slots.{rule_at}
use Rattle.derivation.specs.Search.{among}
use Rattle.search.specs.Unwound.{unwound_rules}

pub among_append : (a b : List ℕ) (f : ℕ) → among (a ++ b) f ≡ (among a f || among b f)
among_append [] b f = refl
among_append (x ∷ a) b f = ap (λ z. eqb x f || z) (among_append a b f) ∙ group (eqb x f) (among a f) (among b f)
  where
    group : (p q r : Bool) → (p || (q || r)) ≡ ((p || q) || r)
    group true q r = refl
    group false q r = refl

or_false : (b : Bool) → (b || false) ≡ b
or_false true = refl
or_false false = refl

-- one fact more is marked
pub marks_more : (body needed needed₀ : List ℕ) (i : ℕ) → i < length body → get_or body i 0 < length needed
    → ((f : ℕ) → get_or needed f 0 ≡ cond (among (take i body) f) 1 (get_or needed₀ f 0))
    → (f : ℕ) → get_or (set needed (get_or body i 0) 1) f 0 ≡ cond (among (take (i + 1) body) f) 1 (get_or needed₀ f 0)
marks_more body needed needed₀ i h l old f =
    let x = get_or body i 0 in
    let a : among (take (i + 1) body) f ≡ (among (take i body) f || eqb x f) =
    ap (λ z. among z f) (take_more body i 0 h) ∙ among_append (take i body) (x ∷ []) f ∙ ap (λ z. among (take i body) f || z) (or_false (eqb x f)) in
    elim (cases_eq f x) [
      | inl e ↦ (
          let y : among (take (i + 1) body) f ≡ true = a ∙ ap (λ z. among (take i body) f || z) (eq-eqb x f (sym e)) ∙ last (among (take i body) f) in
          rw (y, e) (get_or-set_same needed x 1 0 l))
      | inr e ↦ (
          let y : among (take (i + 1) body) f ≡ among (take i body) f = a ∙ ap (λ z. among (take i body) f || z) (ne_eqb x f (λ q. e (sym q))) ∙ or_false (among (take i body) f) in
          rw y (get_or-set_other needed x f 1 0 e ∙ old f))
    ]
  where
    last : (b : Bool) → (b || true) ≡ true
    last true = refl
    last false = refl

-- What holds after i turns of those over the rules rs: `wants` is what is needed so far.
pub record Drawing (xs : List Slot) (rs : List ℕ) (target : ℕ) (needed line line₀ : List ℕ) (len i : ℕ) : Type 0 where
  pub wants : List ℕ
  pub marks : (f : ℕ) → f < length needed → get_or needed f 0 ≡ cond (among wants f) 1 0
  pub drawn : take len line ++ unwound_rules xs (drop i rs) wants ≡ unwound_rules xs rs (target ∷ [])
  pub beyond : drop len line ≡ drop len line₀
  pub fewer : len ≤ i

pub drawing_start : (xs : List Slot) (rs : List ℕ) (target : ℕ) (needed line : List ℕ)
    → ((f : ℕ) → f < length needed → get_or needed f 0 ≡ cond (eqb target f) 1 0)
    → Drawing xs rs target needed line line 0 0
drawing_start xs rs target needed line m = record {
  wants = target ∷ [];
  marks = λ f h. m f h ∙ ap (λ b. cond b 1 0) (sym (or_false (eqb target f)));
  drawn = refl;
  beyond = refl;
  fewer = omega arith;
}

either : (p q : Bool) → ◌≡◌ {A = ℕ} (cond p 1 (cond q 1 0)) (cond (p || q) 1 0)
either true q = refl
either false q = refl

bit_one : (b : Bool) → eqb (cond b 1 0) 1 ≡ b
bit_one true = refl
bit_one false = refl

module _ (xs : List Slot) (rs : List ℕ) (target : ℕ) (needed line line₀ : List ℕ) (len i : ℕ)
    (now : Drawing xs rs target needed line line₀ len i) (some : i < length rs) (long : length rs ≤ length line) (r : ℕ) (is : r ≡ get_or rs i r) where
  abbrev h : ℕ
  h = (rule_at xs r).head

  abbrev hit : Bool
  hit = eqb (get_or needed h 0) 1

  -- the rules still to come, with the next one in front
  to_come : take len line ++ cond (among now.wants h) (r ∷ unwound_rules xs (drop (i + 1) rs) (body_of (rule_at xs r) ++ now.wants)) (unwound_rules xs (drop (i + 1) rs) now.wants)
      ≡ unwound_rules xs rs (target ∷ [])
  to_come = sym (at_drop_more (λ l. take len line ++ unwound_rules xs l now.wants) rs i r some ∙ ap (λ k. take len line ++ unwound_rules xs (k ∷ drop (i + 1) rs) now.wants) (sym is)) ∙ now.drawn

  hit_is : h < length needed → hit ≡ among now.wants h
  hit_is l = ap (λ k. eqb k 1) (now.marks h l) ∙ bit_one (among now.wants h)

  -- the next rule's head is not needed
  pub drawing_passed : h < length needed → (get_or needed h 0 ≡ 1 → ⊥) → Drawing xs rs target needed line line₀ len (i + 1)
  drawing_passed l not_one =
      let w : among now.wants h ≡ false = sym (hit_is l) ∙ ne_eqb _ 1 not_one in
      record { wants = now.wants; marks = now.marks; drawn = rw w at to_come; beyond = now.beyond; fewer = omega (arith, now.fewer) }

  -- it is needed: the rule is written, and its body is needed
  pub drawing_more : (needed' : List ℕ) → h < length needed → get_or needed h 0 ≡ 1 → length needed' ≡ length needed
      → ((f : ℕ) → get_or needed' f 0 ≡ cond (among (body_of (rule_at xs r)) f) 1 (get_or needed f 0))
      → Drawing xs rs target needed' (set line len r) line₀ (len + 1) (i + 1)
  drawing_more needed' l one same c =
      let w : among now.wants h ≡ true = sym (hit_is l) ∙ eq-eqb _ 1 one in
      let t : take (len + 1) (set line len r) ≡ take len line ++ (r ∷ []) = take_more_set line len r (omega (arith, now.fewer, long)) in
      record {
        wants = body_of (rule_at xs r) ++ now.wants;
        marks = λ f k.
            c f
            ∙ ap (λ (z : ℕ). cond (among (body_of (rule_at xs r)) f) 1 z) (now.marks f (rw same at k))
            ∙ either (among (body_of (rule_at xs r)) f) (among now.wants f)
            ∙ ap (λ z. cond z 1 0) (sym (among_append (body_of (rule_at xs r)) now.wants f));
        drawn =
            ap (λ z. z ++ unwound_rules xs (drop (i + 1) rs) (body_of (rule_at xs r) ++ now.wants)) t
            ∙ append_assoc (take len line) (r ∷ []) _
            ∙ (rw w at to_come);
        beyond = drop-set-lt (len + 1) line len r (omega arith) ∙ sym (drop-drop 1 len line) ∙ ap (drop 1) now.beyond ∙ drop-drop 1 len line₀;
        fewer = omega (arith, now.fewer);
      }
