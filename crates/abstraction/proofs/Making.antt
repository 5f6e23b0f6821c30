-- Making a guide: the tests, the steps, and what it promises.
use Rattle.std.proofs.Common.{◌≡◌, ℕ, zero, suc, ◌+◌, ◌-◌, ◌<◌, ◌≤◌, Bool, true, false, cond, ◌||◌, eqb, ltb, List, [], ◌∷◌, ◌++◌, map, length, get_or, take, drop, sym, refl, ap, ◌∙◌, subst, arith, length-take}
use Rattle.std.proofs.lemmas.List.FromFn.{length-map-range_with_len}
use Rattle.std.proofs.lemmas.List.{length-append, get_or-take, drop-drop}
use Rattle.std.proofs.lemmas.Bool.{and_parts, both_ways, or_parts, ltb-true, ltb-false, eqb-false, not-true}
use Rattle.std.proofs.lemmas.Bool.Decides.{nat_tests}
use Rattle.measure.specs.Ops.{Ops, Laws}
use Rattle.sheet.specs.Slots.{Slot, count, free, passes}
use Rattle.std.specs.Prelude.{None, Some}
use Rattle.sheet.specs.Refusals.{Answer, accepted, refused, Told}
use Rattle.sheet.specs.Rules.{all_below, within}
use Rattle.sheet.proofs.Within.{below_at, within_parts}
use Rattle.derivation.specs.Rules.{rule_at, Standing}
use Rattle.derivation.specs.Contexts.{context}
use Rattle.derivation.specs.Fit.{Fit}
use Rattle.derivation.specs.Maps.{fold_rules, LeastChain}
use Rattle.derivation.specs.Trees.{Derivable, Lightest}
use Rattle.derivation.proofs.Chains.{chain_least}
use Rattle.guide.specs.Map.{by_group}
use Rattle.guide.specs.Weighted.{weighted}
use Rattle.search.specs.Answered.{column, work_length}
use Rattle.search.specs.Entries.{held}
use Rattle.search.specs.Left.{Scratch}
use Rattle.search.specs.Surveyed.{Floors}
use Rattle.search.proofs.Promised.{column_at, floors as floors_by}
use Rattle.contexts.specs.Answered.{queue_length}
use Rattle.abstraction.specs.Fold.{group_of, fold_slot, map_answer}
use Rattle.abstraction.specs.Made.{Made}
use Rattle.abstraction.specs.Make.{make_long, make_answer, floors_left, rests_left}
use Rattle.abstraction.proofs.Fits.{least_same, made_fits}
use Rattle.abstraction.proofs.Folding.{free_bound}
use Rattle.abstraction.proofs.Names.{slots_name}
use Rattle.abstraction.proofs.Promised.{past, map_grouped}
use Rattle.abstraction.proofs.Reading.{weighted_fold}

-- The tests.
pub never_both : (k : ℕ) (vs : List Told) → ◌≡◌ {A = Answer (Unit {0})} (refused k vs) (accepted tt) → ⊥
never_both k vs e = let z : ◌≡◌ {A = ℕ} 0 1 = cc in omega arith

held_test : (b : Bool) (k : ℕ) (x : Answer (Unit {0})) → cond b x (refused k []) ≡ accepted tt → (b ≡ true) × (x ≡ accepted tt)
held_test true k x e = (refl, e)
held_test false k x e = absurd (never_both k [] e)

pub record Ready (xs : List Slot) (facts target : ℕ) (groups : List ℕ) (n : ℕ) (second : List Slot) (long : Bool) : Type 0 where
  pub room : length xs ≤ length second
  pub some : 0 < n
  pub limit : n ≤ 4096
  pub low : target < facts
  pub enough : long ≡ true
  pub mapped : map_answer n 0 (take facts groups) ≡ accepted tt

pub ready : (xs : List Slot) (facts target : ℕ) (groups : List ℕ) (n : ℕ) (second : List Slot) (long : Bool)
    → make_answer xs facts target groups n second long ≡ accepted tt → Ready xs facts target groups n second long
ready xs facts target groups n second long e =
    let rules = length xs in
    let unused = past (ltb 0 (count second)) 4 _ _ (never_both 4 []) e in
    let roomy = past (ltb (free (take rules second)) rules) 7 _ _ (never_both 7 []) unused.1 in
    let counted = past (eqb n 0 || ltb 4096 n) 8 _ _ (never_both 8 []) roomy.1 in
    let aimed = held_test (ltb target facts) 10 _ counted.1 in
    let given = held_test long 11 _ aimed.1 in
    let bounds = or_parts (eqb n 0) (ltb 4096 n) counted.0 in
    let positive = eqb-false n 0 bounds.0 in
    let open_slots = ltb-false (free (take rules second)) rules roomy.0 in
    record {
      room = omega (arith, free_bound (take rules second), length-take rules second, open_slots);
      some = omega (arith, positive);
      limit = ltb-false 4096 n bounds.1;
      low = ltb-true target facts aimed.0;
      enough = given.0;
      mapped = given.1;
    }

-- Lengths that are enough.
pub record Long (facts rules n groups floors rests reasons queue work : ℕ) : Type 0 where
  pub for_map : facts ≤ groups
  pub for_floors : n ≤ floors
  pub for_rests : n ≤ rests
  pub for_reasons : n ≤ reasons
  pub for_queue : queue_length rules ≤ queue
  pub for_work : work_length n rules ≤ work

pub long_parts : (f r n a b c d e w : ℕ) → make_long f r n a b c d e w ≡ true → Long f r n a b c d e w
long_parts f r n a b c d e w h = record {
  for_map = grind (arith, nat_tests);
  for_floors = grind (arith, nat_tests);
  for_rests = grind (arith, nat_tests);
  for_reasons = grind (arith, nat_tests);
  for_queue = grind (arith, nat_tests);
  for_work = grind (arith, nat_tests);
}

drop_more : {X : Type 0} (k n : ℕ) (xs ys : List X) → k ≤ n → drop k ys ≡ drop k xs → drop n ys ≡ drop n xs
drop_more k n xs ys l e =
    let is : n ≡ k + (n - k) = omega arith in
    ap (λ (i : ℕ). drop i ys) is ∙ sym (drop-drop (n - k) k ys) ∙ ap (drop (n - k)) e ∙ drop-drop (n - k) k xs ∙ ap (λ (i : ℕ). drop i xs) (sym is)

-- a column that two calls write, one after the other
pub scratch_then : {X : Type 0} {b c : Bool} {k n : ℕ} {xs ys ys' zs zs' : List X} → k ≤ n → Scratch b k xs ys → ys' ≡ ys → Scratch c n ys' zs → zs' ≡ zs → Scratch true n xs zs'
scratch_then {k = k} {n} {xs} {ys} {ys'} {zs} {zs'} l p e q f = record {
  long = ap length f ∙ q.long ∙ ap length e ∙ p.long;
  beyond = ap (drop n) f ∙ q.beyond ∙ ap (drop n) e ∙ drop_more k n xs ys l p.beyond;
  kept = λ r. absurd (both_ways true r refl);
}

pub column_long : {A : Type 0} (f : ℕ → A) (n : ℕ) (left xs : List A) → left ≡ column f n ++ drop n xs → n ≤ length left
column_long f n left xs e =
    omega (arith, ap length e, length-append (column f n) (drop n xs), length-map-range_with_len f 0 n)

-- The weighted rules of passed slots name only facts below the fact count.
module _ {W : Type 0} (m : Ops W) (n : ℕ) where
  standing_named : (xs : List Slot) → passes n xs ≡ true → (r : ℕ) → Standing m (weighted m xs) r
      → ((rule_at m (weighted m xs) r).head < n) × (all_below n (rule_at m (weighted m xs) r).body ≡ true)
  standing_named [] h r s = absurd (both_ways false refl s)
  standing_named (None ∷ xs) h r s = absurd (both_ways false refl h)
  standing_named (Some a ∷ xs) h zero s = within_parts n a (and_parts (within n a) (passes n xs) h).0 (not-true _ s)
  standing_named (Some a ∷ xs) h (suc r) s = standing_named xs (and_parts (within n a) (passes n xs) h).1 r s

  pub heads_named : (xs : List Slot) → passes n xs ≡ true → (r : ℕ) → Standing m (weighted m xs) r → (rule_at m (weighted m xs) r).head < n
  heads_named xs h r s = (standing_named xs h r s).0

  pub bodies_named : (xs : List Slot) → passes n xs ≡ true → (r i : ℕ) → Standing m (weighted m xs) r
      → i < length (rule_at m (weighted m xs) r).body → get_or (rule_at m (weighted m xs) r).body i 0 < n
  bodies_named xs h r i s l = below_at n (rule_at m (weighted m xs) r).body i (standing_named xs h r s).1 l

-- What is promised.
module _ {W : Type 0} {m : Ops W} (laws : Laws m) (xs : List Slot) (facts target : ℕ) (groups : List ℕ) (n : ℕ) (floors floors₀ rests rests₀ : List W)
    (within : passes facts xs ≡ true) (mapped : facts ≤ length groups) (grouped : (f : ℕ) → f < facts → group_of groups f < n)
    (floors_are : floors ≡ floors_left xs groups true m n floors₀)
    (rests_are : rests ≡ rests_left xs groups true m n target floors rests₀) where
  abbrev group : ℕ → ℕ
  group = group_of groups

  abbrev folded : List Slot
  folded = map (fold_slot group) xs

  weighs_as : weighted m folded ≡ fold_rules group (weighted m xs)
  weighs_as = weighted_fold group m xs

  lightest_floors : Floors m folded n floors
  lightest_floors = floors_by laws folded n floors floors₀ floors_are

  rest_here : (g : ℕ) → g < n → get_or rests g m.heaviest ≡ context m (held m (take n floors)) (weighted m folded) (group target) g
  rest_here g l = ap (λ ws. get_or ws g m.heaviest) rests_are ∙ column_at (context m (held m (take n floors)) (weighted m folded) (group target)) n g m.heaviest (drop n rests₀) l

  least_rest : (g : ℕ) → g < n → LeastChain m (held m floors) (weighted m folded) (group target) g (get_or rests g m.heaviest)
  least_rest g l =
      least_same m (weighted m folded) n (held m (take n floors)) (held m floors)
      (bodies_named m n folded (slots_name group facts n grouped xs within))
      (λ k h. get_or-take n floors k m.heaviest h) (group target) g _
      (subst (LeastChain m (held m (take n floors)) (weighted m folded) (group target) g) (sym (rest_here g l))
      (chain_least laws (held m (take n floors)) (weighted m folded) (group target) g))

  pub made : Made m (weighted m xs) facts target groups n floors rests
  made = record {
    mapped = mapped;
    grouped = grouped;
    floors_long = column_long _ n floors floors₀ floors_are;
    rests_long = column_long _ n rests rests₀ rests_are;
    lightest = λ g l d. subst (λ rs. Lightest m rs g (get_or floors g m.heaviest)) weighs_as (lightest_floors.lightest g l (subst (λ rs. Derivable m rs g) (sym weighs_as) d));
    absent = λ g l never. lightest_floors.absent g l (λ d. never (subst (λ rs. Derivable m rs g) weighs_as d));
    least = λ g l. subst (λ rs. LeastChain m (held m floors) rs (group target) g (get_or rests g m.heaviest)) weighs_as (least_rest g l);
  }

-- What an accepted call promises.
pub promised : {W : Type 0} {m : Ops W} → Laws m → (xs : List Slot) (facts target : ℕ) (groups : List ℕ) (n : ℕ) (second : List Slot) (floors floors₀ rests rests₀ : List W) (i j k : ℕ)
    → passes facts xs ≡ true
    → make_answer xs facts target groups n second (make_long facts (length xs) n (length groups) (length floors₀) (length rests₀) i j k) ≡ accepted tt
    → floors ≡ floors_left xs groups true m n floors₀ → rests ≡ rests_left xs groups true m n target floors rests₀
    → Made m (weighted m xs) facts target groups n floors rests
    × Fit m (by_group m groups floors rests) (by_group m groups rests floors) (weighted m xs) target
promised {m = m} laws xs facts target groups n second floors floors₀ rests rests₀ i j k within answered floors_are rests_are =
    let tested = ready xs facts target groups n second _ answered in
    let long = long_parts facts (length xs) n _ _ _ _ _ _ tested.enough in
    let all = made laws xs facts target groups n floors floors₀ rests rests₀ within long.for_map (map_grouped facts groups n long.for_map tested.mapped) floors_are rests_are in
    (all, made_fits laws (weighted m xs) facts target groups n floors rests (heads_named m facts xs within) (bodies_named m facts xs within) tested.low all)
