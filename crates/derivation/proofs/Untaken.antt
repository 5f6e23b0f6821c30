-- How many rules are still to be taken: each step makes it one less.
use Rattle.std.proofs.Common.{◌≡◌, ℕ, zero, suc, ◌+◌, ◌<◌, ◌≤◌, false, cond, ◌||◌, eqb, List, [], ◌∷◌, refl, ap, ◌∙◌, inl, inr, arith}
use Rattle.std.proofs.lemmas.Bool.{cases_eq, eq-eqb, ne_eqb, cond-false}
use Rattle.derivation.specs.Search.{among}

-- the numbers below n that are not in the list
abbrev pub untaken : ℕ → List ℕ → ℕ
untaken zero xs = 0
untaken (suc n) xs = untaken n xs + cond (among xs n) 0 1

pub untaken_all : (n : ℕ) → untaken n [] ≡ n
untaken_all zero = refl
untaken_all (suc n) = rw (untaken_all n) (omega arith)

-- a number beyond n does not count
untaken_beyond : (n x : ℕ) (xs : List ℕ) → n ≤ x → untaken n (x ∷ xs) ≡ untaken n xs
untaken_beyond zero x xs h = refl
untaken_beyond (suc n) x xs h =
    let other : eqb x n ≡ false = ne_eqb x n (λ e. omega arith) in
    ap (λ k. k + cond (eqb x n || among xs n) 0 1) (untaken_beyond n x xs (omega arith))
    ∙ ap (λ b. untaken n xs + cond (b || among xs n) 0 1) other

pub untaken_falls : (n x : ℕ) (xs : List ℕ) → x < n → among xs x ≡ false → untaken n (x ∷ xs) + 1 ≡ untaken n xs
untaken_falls zero x xs h new = absurd (omega arith)
untaken_falls (suc n) x xs h new = elim (cases_eq x n) [ inl e ↦ last e | inr e ↦ earlier e (untaken_falls n x xs (omega arith) new) ]
  where
    last : x ≡ n → untaken (suc n) (x ∷ xs) + 1 ≡ untaken (suc n) xs
    last e =
        let a : ◌≡◌ {A = ℕ} (cond (eqb x n || among xs n) 0 1) 0 = ap (λ b. cond (b || among xs n) 0 1) (eq-eqb x n e) in
        let b : ◌≡◌ {A = ℕ} (cond (among xs n) 0 1) 1 = cond-false (among xs n) 0 1 (rw (← e) new) in
        let c : untaken n (x ∷ xs) ≡ untaken n xs = untaken_beyond n x xs (omega arith) in
        omega arith

    earlier : (x ≡ n → ⊥) → untaken n (x ∷ xs) + 1 ≡ untaken n xs → untaken (suc n) (x ∷ xs) + 1 ≡ untaken (suc n) xs
    earlier e c =
        let a : ◌≡◌ {A = ℕ} (cond (eqb x n || among xs n) 0 1) (cond (among xs n) 0 1) = ap (λ b. cond (b || among xs n) 0 1) (ne_eqb x n e) in
        omega arith
