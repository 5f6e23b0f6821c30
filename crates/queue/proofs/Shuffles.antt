-- Lists with the same elements, each as often: under a common front or end.
use Rattle.std.proofs.Common.{◌≡◌, List, [], ◌∷◌, ◌++◌, refl, subst, arith}
use Rattle.std.specs.List.Sorted.{IsPermutation}
use Rattle.std.proofs.lemmas.List.{append-nil}
use Rattle.std.proofs.lemmas.List.Sorted.{IsPermutation-refl, IsPermutation-trans, IsPermutation-cons, IsPermutation-swap}

module _ {X : Type 0} where
  pub shuffled_same : (xs ys : List X) → xs ≡ ys → IsPermutation xs ys
  shuffled_same xs ys e = subst (IsPermutation xs) e (IsPermutation-refl xs)

  pub shuffled_middle : (xs : List X) (y : X) (ys : List X) → IsPermutation (xs ++ y ∷ ys) (y ∷ (xs ++ ys))
  shuffled_middle [] y ys = IsPermutation-refl (y ∷ ys)
  shuffled_middle (x ∷ xs) y ys =
      IsPermutation-trans (x ∷ (xs ++ y ∷ ys)) (x ∷ y ∷ (xs ++ ys)) (y ∷ x ∷ (xs ++ ys))
      (IsPermutation-cons x (xs ++ y ∷ ys) (y ∷ (xs ++ ys)) (shuffled_middle xs y ys))
      (IsPermutation-swap (x ∷ y ∷ (xs ++ ys)) (y ∷ x ∷ (xs ++ ys)) 0 1 (omega arith) (omega arith) refl)

  pub shuffled_turned : (xs ys : List X) → IsPermutation (xs ++ ys) (ys ++ xs)
  shuffled_turned xs [] = shuffled_same (xs ++ []) xs (append-nil xs)
  shuffled_turned xs (y ∷ ys) =
      IsPermutation-trans (xs ++ y ∷ ys) (y ∷ (xs ++ ys)) (y ∷ (ys ++ xs)) (shuffled_middle xs y ys)
      (IsPermutation-cons y (xs ++ ys) (ys ++ xs) (shuffled_turned xs ys))

  pub shuffled_front : (zs xs ys : List X) → IsPermutation xs ys → IsPermutation (zs ++ xs) (zs ++ ys)
  shuffled_front [] xs ys s = s
  shuffled_front (z ∷ zs) xs ys s = IsPermutation-cons z (zs ++ xs) (zs ++ ys) (shuffled_front zs xs ys s)

  pub shuffled_behind : (zs xs ys : List X) → IsPermutation xs ys → IsPermutation (xs ++ zs) (ys ++ zs)
  shuffled_behind zs xs ys s =
      IsPermutation-trans (xs ++ zs) (zs ++ xs) (ys ++ zs) (shuffled_turned xs zs)
      (IsPermutation-trans (zs ++ xs) (zs ++ ys) (ys ++ zs) (shuffled_front zs xs ys s) (shuffled_turned zs ys))
