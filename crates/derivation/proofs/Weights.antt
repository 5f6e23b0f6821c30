-- What the laws of a measure give: the order under joins, and joins of lists.
use Rattle.std.proofs.Common.{◌≡◌, ℕ, zero, suc, ◌<◌, true, List, [], ◌∷◌, map, length, get_or, sym, refl, ap, ◌∙◌, inl, inr, arith}
use Rattle.std.specs.List.{AllZip}
use Rattle.measure.specs.Ops.{Ops, Laws}
use Rattle.derivation.specs.Joins.{joined, without}

-- each weight of the first list is no heavier than the one at its place in the second
abbrev pub Below : {W : Type 0} → Ops W → List W → List W → Type 0
Below m vs ws = AllZip (λ v w. m.leb v w ≡ true) vs ws

module _ {W : Type 0} {m : Ops W} (laws : Laws m) where
  pub same : (a : W) → m.leb a a ≡ true
  same a = elim (laws.total a a) [ inl h ↦ h | inr h ↦ h ]

  pub at_most : (a b c : W) → a ≡ b → m.leb b c ≡ true → m.leb a c ≡ true
  at_most a b c e h = rw e h

  pub join_right : (a b c : W) → m.leb a b ≡ true → m.leb (m.join c a) (m.join c b) ≡ true
  join_right a b c h = rw (laws.comm c a, laws.comm c b) (laws.mono a b c h)

  pub join_both : (a b c d : W) → m.leb a b ≡ true → m.leb c d ≡ true → m.leb (m.join a c) (m.join b d) ≡ true
  join_both a b c d h k = laws.trans _ (m.join b c) _ (laws.mono a b c h) (join_right c d b k)

  -- a weight is no heavier than a join that it is part of
  pub part_right : (a b : W) → m.leb a (m.join b a) ≡ true
  part_right a b =
      let h : m.leb (m.norm a) (m.join b a) ≡ true = rw (laws.neutral a) at (laws.mono m.nothing b a (laws.lightest b)) in
      sym (laws.leb_norm a (m.join b a)) ∙ h

  pub part_left : (a b : W) → m.leb a (m.join a b) ≡ true
  part_left a b = rw (laws.comm a b) (part_right a b)

  pub exchange : (a b c : W) → m.join a (m.join b c) ≡ m.join b (m.join a c)
  exchange a b c = sym (laws.assoc a b c) ∙ ap (λ x. m.join x c) (laws.comm a b) ∙ laws.assoc b a c

  pub joined_below : (vs ws : List W) → Below m vs ws → m.leb (joined m vs) (joined m ws) ≡ true
  joined_below [] [] h = same m.nothing
  joined_below [] (w ∷ ws) h = absurd h
  joined_below (v ∷ vs) [] h = absurd h
  joined_below (v ∷ vs) (w ∷ ws) h = join_both _ _ _ _ h.0 (joined_below vs ws h.1)

  pub without_below : (vs ws : List W) (i : ℕ) → Below m vs ws → Below m (without vs i) (without ws i)
  without_below [] [] i h = tt
  without_below [] (w ∷ ws) i h = absurd h
  without_below (v ∷ vs) [] i h = absurd h
  without_below (v ∷ vs) (w ∷ ws) zero h = h.1
  without_below (v ∷ vs) (w ∷ ws) (suc i) h = (h.0, without_below vs ws i h.1)

  -- the weight at a place joined with the others is the join of all
  pub joined_split : (ws : List W) (i : ℕ) (d : W) → i < length ws → m.join (get_or ws i d) (joined m (without ws i)) ≡ joined m ws
  joined_split [] i d h = absurd (omega arith)
  joined_split (w ∷ ws) zero d h = refl
  joined_split (w ∷ ws) (suc i) d h = exchange _ _ _ ∙ ap (m.join w) (joined_split ws i d (omega arith))

  pub place_below : (ws : List W) (i : ℕ) (d : W) → i < length ws → m.leb (get_or ws i d) (joined m ws) ≡ true
  place_below ws i d h = rw (joined_split ws i d h) at (part_left (get_or ws i d) (joined m (without ws i)))

  -- a rest condition carried from the floors at the other places to weights above them
  pub chain_step :
      (e rest_head rest_place : W) (floors ws : List W) (i : ℕ) (d : W)
      → i < length ws
      → Below m floors (without ws i)
      → m.leb rest_place (m.join (m.join e (joined m floors)) rest_head) ≡ true
      → m.leb (m.join (get_or ws i d) rest_place) (m.join (m.join e (joined m ws)) rest_head) ≡ true
  chain_step e rh rp floors ws i d within below kept =
      let w = get_or ws i d in
      let others = joined m (without ws i) in
      let up : m.leb rp (m.join (m.join e others) rh) ≡ true =
      laws.trans _ _ _ kept (laws.mono _ _ rh (join_right _ _ e (joined_below floors (without ws i) below))) in
      let regroup : m.join w (m.join (m.join e others) rh) ≡ m.join (m.join e (joined m ws)) rh =
      sym (laws.assoc w (m.join e others) rh)
      ∙ ap (λ x. m.join x rh) (exchange w e others ∙ ap (m.join e) (joined_split ws i d within)) in
      rw regroup at (join_right _ _ w up)

  pub length_below : (vs ws : List W) → Below m vs ws → length vs ≡ length ws
  length_below [] [] h = refl
  length_below [] (w ∷ ws) h = absurd h
  length_below (v ∷ vs) [] h = absurd h
  length_below (v ∷ vs) (w ∷ ws) h = ap suc (length_below vs ws h.1)

pub map_without : {A B : Type 0} (g : A → B) (xs : List A) (i : ℕ) → map g (without xs i) ≡ without (map g xs) i
map_without g [] i = refl
map_without g (x ∷ xs) zero = refl
map_without g (x ∷ xs) (suc i) = ap (λ ys. g x ∷ ys) (map_without g xs i)
