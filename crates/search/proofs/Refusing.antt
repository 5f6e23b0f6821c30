-- The answers of a search, test by test, and the columns that a refusal keeps.
use Rattle.std.proofs.Common.{◌≡◌, ℕ, ◌-◌, ◌<◌, ◌≤◌, Bool, true, false, ◌&&◌, eqb, ltb, leb, List, [], ◌++◌, length, take, drop, Some, None, Option, sym, refl, ap, ◌∙◌, arith}
use Rattle.std.proofs.lemmas.List.{length-append, length-drop, length-take-le, drop_at}
use Rattle.std.proofs.lemmas.Bool.{cond-true, cond-false, lt-ltb, le-ltb, ne_eqb, both_ways, and_parts, leb-true, le-leb, lt-leb}
use Rattle.measure.specs.Ops.{Ops}
use Rattle.sheet.specs.Slots.{Slot}
use Rattle.sheet.specs.Refusals.{Answer, accepted, refused, Told}
use Rattle.derivation.specs.Fit.{Verdict, fits, target_fails, rule_fails, check_fit}
use Rattle.derivation.specs.Search.{State, answer}
use Rattle.guide.specs.Fit.{fit_answer}
use Rattle.guide.specs.Weighted.{weighted}
use Rattle.search.specs.declared.columns.Found.{Found}
use Rattle.search.specs.Answered.{told_found, checked, end, end_line, search_answer, work_length, long_enough, ran}
use Rattle.search.specs.Surveyed.{survey_long}
use Rattle.search.specs.Left.{Scratch}

module _ {W : Type 0} (m : Ops W) (floor rest : ℕ → W) (xs : List Slot) (facts target : ℕ) (long : Bool) where
  pub target_answer : facts ≤ target → search_answer m floor rest xs facts target long ≡ refused 10 []
  unfolding search_answer
  target_answer h = cond-false (ltb target facts) _ _ (le-ltb target facts h)

  module _ (h : target < facts) where
    pub short_answer : long ≡ false → search_answer m floor rest xs facts target long ≡ refused 11 []
    unfolding search_answer
    short_answer l = cond-true (ltb target facts) _ _ (lt-ltb target facts h) ∙ cond-false long _ _ l

    checked_answer : long ≡ true → search_answer m floor rest xs facts target long
        ≡ checked (fit_answer (check_fit m floor rest (weighted m xs) target) target) (told_found (end_line m rest xs target) (end m rest xs target) (answer m target (end m rest xs target)))
    unfolding search_answer
    checked_answer l = cond-true (ltb target facts) _ _ (lt-ltb target facts h) ∙ cond-true long _ _ l

    pub unfit_answer : long ≡ true → (n : ℕ) (vs : List Told) → refused n vs ≡ fit_answer (check_fit m floor rest (weighted m xs) target) target
        → search_answer m floor rest xs facts target long ≡ refused n vs
    unfit_answer l n vs e = checked_answer l ∙ sym (ap (λ z. checked z (told_found (end_line m rest xs target) (end m rest xs target) (answer m target (end m rest xs target)))) e)

    pub run_told : long ≡ true → accepted tt ≡ fit_answer (check_fit m floor rest (weighted m xs) target) target
        → search_answer m floor rest xs facts target long ≡ told_found (end_line m rest xs target) (end m rest xs target) (answer m target (end m rest xs target))
    run_told l e = checked_answer l ∙ sym (ap (λ z. checked z (told_found (end_line m rest xs target) (end m rest xs target) (answer m target (end m rest xs target)))) e)

-- an unfit guide is refusal 13
pub unfit_number : (n : ℕ) (vs : List Told) (v : Verdict) (target : ℕ) → refused n vs ≡ fit_answer v target → eqb n 14 ≡ false
unfit_number n vs fits target e = let z : ◌≡◌ {A = ℕ} 0 1 = cc in absurd (omega arith)
unfit_number n vs target_fails target e = let z : n ≡ 13 = cc in ne_eqb n 14 (λ q. omega (arith, z, q))
unfit_number n vs (rule_fails r) target e = let z : n ≡ 13 = cc in ne_eqb n 14 (λ q. omega (arith, z, q))

pub still : {X : Type 0} (b : Bool) (n : ℕ) (xs : List X) → Scratch b n xs xs
still b n xs = record { long = refl; beyond = refl; kept = λ _. refl }

-- The columns where the search ran.
pub told_ran : {W : Type 0} (a : Answer (Found W)) (l : List ℕ) (s : State W) (o : Option W) → a ≡ told_found l s o → ran a ≡ true
told_ran a l s None e = ap ran e
told_ran a l s (Some w) e = ap ran e

-- a part of a column, given back at another value
pub scratch_left : {X : Type 0} (b : Bool) (n k : ℕ) (part xs : List X) → b ≡ true → k ≡ n → n ≤ length xs → length part ≡ length (take (k - 0) xs)
    → Scratch b n xs (part ++ drop (k - 0) xs)
scratch_left b n k part xs r e h l =
    let z : k - 0 ≡ n = omega arith in
    let p : length part ≡ n = l ∙ ap (λ (i : ℕ). length (take i xs)) z ∙ length-take-le n xs h in
    record {
      long = length-append part (drop (k - 0) xs) ∙ omega (arith, p, length-drop (k - 0) xs, z, h);
      beyond = drop_at part (drop (k - 0) xs) n p ∙ ap (λ (i : ℕ). drop i xs) z;
      kept = λ q. absurd (both_ways _ q r);
    }

-- The test of lengths is the survey's, with the line's.
module _ (f r a b c d e : ℕ) where
  long_is : long_enough f r a b c d e ≡ (leb f c && survey_long f r a b d e)
  long_is = shift (leb f a) (leb f b) (leb f c) (leb r d && leb (work_length f r) e)
    where
      and_false : (p : Bool) → false ≡ (p && false)
      and_false true = refl
      and_false false = refl

      shift : (p q l s : Bool) → (p && (q && (l && s))) ≡ (l && (p && (q && s)))
      shift true true l s = refl
      shift true false l s = and_false l
      shift false q l s = and_false l

  pub line_short : c < f → long_enough f r a b c d e ≡ false
  line_short h = long_is ∙ (rw (lt-leb f c h))

  pub rest_short : survey_long f r a b d e ≡ false → long_enough f r a b c d e ≡ false
  rest_short h = long_is ∙ (rw h (and_none (leb f c)))
    where
      and_none : (p : Bool) → (p && false) ≡ false
      and_none true = refl
      and_none false = refl

  pub all_long : f ≤ c → survey_long f r a b d e ≡ true → long_enough f r a b c d e ≡ true
  all_long l h = long_is ∙ (rw (le-leb f c l, h))

-- Columns that are long enough.
pub record Long (f r a b d e : ℕ) : Type 0 where
  pub for_queue : r ≤ d
  pub for_work : work_length f r ≤ e

pub long_parts : (f r a b d e : ℕ) → survey_long f r a b d e ≡ true → Long f r a b d e
long_parts f r a b d e h =
    let p = and_parts (leb f a) (leb f b && (leb r d && leb (work_length f r) e)) h in
    let q = and_parts (leb f b) (leb r d && leb (work_length f r) e) p.1 in
    let s = and_parts (leb r d) (leb (work_length f r) e) q.1 in
    record { for_queue = leb-true r d s.0; for_work = leb-true (work_length f r) e s.1 }
