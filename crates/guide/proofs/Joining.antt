-- Joining weights one by one.
use Rattle.std.proofs.Common.{◌≡◌, ℕ, zero, suc, ◌+◌, ◌<◌, List, [], ◌∷◌, ◌++◌, map, length, get_or, take, drop, sym, ap, ◌∙◌, add-one}
use Rattle.std.proofs.lemmas.List.{take_more, map-append}
use Rattle.measure.specs.Ops.{Ops, Laws}
use Rattle.derivation.specs.Joins.{joined, without}

module _ {W : Type 0} {m : Ops W} (laws : Laws m) where
  norm_joined : (ws : List W) → m.norm (joined m ws) ≡ joined m ws
  norm_joined [] = laws.norm_nothing
  norm_joined (w ∷ ws) = laws.norm_join w (joined m ws)

  joined_push : (ws : List W) (w : W) → joined m (ws ++ (w ∷ [])) ≡ m.join (joined m ws) w
  joined_push [] w = laws.comm w m.nothing
  joined_push (v ∷ ws) w = ap (m.join v) (joined_push ws w) ∙ sym (laws.assoc v (joined m ws) w)

  -- a weight joined with none
  pub alone : (a : W) → m.norm a ≡ a → a ≡ m.join a (joined m [])
  alone a h = sym h ∙ sym (laws.neutral a) ∙ laws.comm m.nothing a

  -- one element more
  pub joined_next : {A : Type 0} (a : W) (g : A → W) (xs : List A) (x : A)
      → m.join (m.join a (joined m (map g xs))) (g x) ≡ m.join a (joined m (map g (xs ++ (x ∷ []))))
  joined_next a g xs x =
      laws.assoc a _ _ ∙ ap (m.join a) (sym (joined_push (map g xs) (g x))) ∙ ap (λ l. m.join a (joined m l)) (sym (map-append g xs (x ∷ [])))

  -- one place of the body more
  pub joined_more : (a : W) (g : ℕ → W) (body : List ℕ) (i : ℕ) → i < length body
      → m.join (m.join a (joined m (map g (take i body)))) (g (get_or body i 0)) ≡ m.join a (joined m (map g (take (i + 1) body)))
  joined_more a g body i h =
      let pushed : map g (take (i + 1) body) ≡ map g (take i body) ++ (g (get_or body i 0) ∷ []) =
      ap (map g) (take_more body i 0 h) ∙ map-append g (take i body) (get_or body i 0 ∷ []) in
      laws.assoc a _ _ ∙ ap (m.join a) (sym (joined_push (map g (take i body)) (g (get_or body i 0)))) ∙ ap (λ l. m.join a (joined m l)) (sym pushed)

  -- what stands before a place joined with what stands after it
  joined_around : (ws : List W) (i : ℕ) → m.join (joined m (take i ws)) (joined m (drop (suc i) ws)) ≡ joined m (without ws i)
  joined_around [] zero = laws.neutral m.nothing ∙ laws.norm_nothing
  joined_around [] (suc i) = laws.neutral m.nothing ∙ laws.norm_nothing
  joined_around (w ∷ ws) zero = laws.neutral (joined m ws) ∙ norm_joined ws
  joined_around (w ∷ ws) (suc i) = laws.assoc w _ _ ∙ ap (m.join w) (joined_around ws i)

  pub joined_without : (a : W) (ws : List W) (i : ℕ)
      → m.join (m.join a (joined m (take i ws))) (joined m (drop (i + 1) ws)) ≡ m.join a (joined m (without ws i))
  joined_without a ws i = laws.assoc a _ _ ∙ ap (m.join a) (rw add-one (joined_around ws i))
