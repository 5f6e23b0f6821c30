-- Edits of a tidy sheet: which are accepted, and what they leave.
use Rattle.std.proofs.Common.{◌≡◌, ℕ, ◌<◌, ◌≤◌, Bool, true, false, cond, ◌&&◌, ltb, leb, List, [], ◌∷◌, ◌++◌, length, set, sym, refl, ap, ◌∙◌, subst, inl, inr, arith}
use Rattle.std.proofs.Math.Bool.{and-true}
use Rattle.std.proofs.lemmas.Bool.{both_ways, cases_lt, cond-false}
use Rattle.std.proofs.lemmas.Bool.Decides.{nat_tests}
use Rattle.measure.specs.Ops.{Ops}
use Rattle.sheet.specs.Slots.{Slot, count, rule_at}
use Rattle.std.specs.Prelude.{Some}
use Rattle.sheet.specs.Refusals.{Answer, accepted, refused, after}
use Rattle.sheet.specs.Rules.{Inference, made, marked}
use Rattle.sheet.specs.Edits.{cost_answer, enter_answer, standing_answer, reprice_answer, strike_answer, repriced}
use Rattle.replay.specs.declared.call.Call.{Call}
use Rattle.replay.specs.declared.call.Call.TheVariants.{Enter, Reprice, Strike, Search}
use Rattle.replay.specs.declared.call.Done.{Done}
use Rattle.replay.specs.declared.call.Done.TheVariants.{Entered, Changed}
use Rattle.replay.specs.Replies.{giving}
use Rattle.replay.specs.Rules.{inference_at, stands, allowed, priced, stricken, rules_next, rules_from}
use Rattle.replay.specs.Run.{Board, Lengths, is_accepted, slots_next, slots_from, replied, next, board_after, replies_to}
use Rattle.replay.specs.Law.{Judged, edit_gives, is_edit, JudgedAll}
use Rattle.replay.specs.Whole.{Unedited}
use Rattle.replay.proofs.Tidy.{Tidy, tidy_count, tidy_free, tidy_rule, tidy_enter, tidy_change, none_beyond, read_repriced}

module _ (n : ℕ) (few : n ≤ 16000) where
  -- an edit that is accepted exactly where ok says so
  stepped_by : {A B : Type 0} (given : Answer A) (ok : Bool) → is_accepted given ≡ ok → (x : B) (f : A → B) (change : A → List Slot) (rs rs' : List Inference) (xs : List Slot)
      → ((y : A) → accepted y ≡ given → (f y ≡ x) × Tidy n few rs' (change y)) → Tidy n few rs xs
      → Judged ok x (giving f given) × Tidy n few (cond ok rs' rs) (after given change xs)
  stepped_by (accepted y) true e x f change rs rs' xs does t =
      let z = does y refl in (record { accepts = λ _. ap accepted z.0; refuses = λ e. absurd (both_ways _ e refl) }, z.1)
  stepped_by (accepted y) false e x f change rs rs' xs does t = absurd (both_ways _ e refl)
  stepped_by (refused k vs) true e x f change rs rs' xs does t = absurd (both_ways _ refl e)
  stepped_by (refused k vs) false e x f change rs rs' xs does t = (record { accepts = λ e. absurd (both_ways _ refl e); refuses = λ _. (k, vs, refl) }, t)

  module _ (rs : List Inference) (xs : List Slot) (t : Tidy n few rs xs) where
    enter_iff : (b : List ℕ) (c : ℕ) → is_accepted (enter_answer xs b c) ≡ (leb (length b) 4 && (leb c 1000000 && ltb (length rs) n))
    enter_iff b c = let k = tidy_free n few rs xs t in grind (arith, nat_tests)

    enter_does : (h : ℕ) (b : List ℕ) (c y : ℕ) → accepted y ≡ enter_answer xs b c
        → (y ≡ length rs) × Tidy n few (rs ++ record { head = h; body = b; cost = c; struck = false } ∷ []) (set xs y (Some (made h b c)))
    enter_does h b c y e =
        let k = tidy_free n few rs xs t in
        let short : length b ≤ 4 = grind (arith, nat_tests) in
        let cheap : c ≤ 1000000 = grind (arith, nat_tests) in
        let room : length rs < n = grind (arith, nat_tests) in
        let same : y ≡ count xs = grind (arith, nat_tests) in
        (same ∙ tidy_count n few rs xs t, rw same (tidy_enter n few rs xs t h b c short cheap room))

    -- the rule that an edit names
    standing_iff : {A : Type 0} (k : ℕ) (a : Answer A) → is_accepted (standing_answer xs k a) ≡ (stands rs k && is_accepted a)
    standing_iff k a =
        let e = tidy_count n few rs xs t in
        elim (cases_lt k (length rs)) [
          | inl h ↦ let s : (rule_at xs k).struck ≡ (inference_at rs k).struck = ap (λ a. a.struck) (tidy_rule n few rs xs t k h) in grind (arith, nat_tests)
          | inr h ↦ let s = none_beyond rs k h in grind (arith, nat_tests)
        ]

    reprice_iff : (k c : ℕ) → is_accepted (reprice_answer xs k c) ≡ (stands rs k && leb c 1000000)
    reprice_iff k c = standing_iff k (cost_answer c) ∙ ap (λ b. stands rs k && b) (grind (arith, nat_tests))

    reprice_does : (k c : ℕ) → accepted tt ≡ reprice_answer xs k c → Tidy n few (set rs k (priced (inference_at rs k) c)) (set xs k (Some (repriced (rule_at xs k) c)))
    reprice_does k c e =
        let z = tidy_count n few rs xs t in
        let s : k < length rs = grind (arith, nat_tests) in
        let cheap : c ≤ 1000000 = grind (arith, nat_tests) in
        tidy_change n few rs xs t k _ _ s (read_repriced (rule_at xs k) c cheap ∙ ap (λ a. priced a c) (tidy_rule n few rs xs t k s))

    strike_iff : (k : ℕ) → is_accepted (strike_answer xs k) ≡ stands rs k
    strike_iff k = standing_iff k (accepted tt) ∙ and-true (stands rs k)

    strike_does : (k : ℕ) → accepted tt ≡ strike_answer xs k → Tidy n few (set rs k (stricken (inference_at rs k))) (set xs k (Some (marked (rule_at xs k))))
    strike_does k e =
        let z = tidy_count n few rs xs t in
        let s : k < length rs = grind (arith, nat_tests) in
        tidy_change n few rs xs t k _ _ s (ap stricken (tidy_rule n few rs xs t k s))

    -- one edit: it is judged as it should be, and the sheet stays tidy
    module _ {W : Type 0} where
      enter_step : (h : ℕ) (b : List ℕ) (c : ℕ)
          → Judged {A = Done W} (leb (length b) 4 && (leb c 1000000 && ltb (length rs) n)) (Entered (length rs)) (giving Entered (enter_answer xs b c))
          × Tidy n few (cond (leb (length b) 4 && (leb c 1000000 && ltb (length rs) n)) (rs ++ record { head = h; body = b; cost = c; struck = false } ∷ []) rs) (after (enter_answer xs b c) (λ k. set xs k (Some (made h b c))) xs)
      enter_step h b c = stepped_by _ _ (enter_iff b c) _ _ _ _ _ _ (λ y e. let z = enter_does h b c y e in (ap Entered z.0, z.1)) t

      reprice_step : (k c : ℕ)
          → Judged {A = Done W} (stands rs k && leb c 1000000) Changed (giving (λ _. Changed) (reprice_answer xs k c))
          × Tidy n few (cond (stands rs k && leb c 1000000) (set rs k (priced (inference_at rs k) c)) rs) (after (reprice_answer xs k c) (λ _. set xs k (Some (repriced (rule_at xs k) c))) xs)
      reprice_step k c = stepped_by _ _ (reprice_iff k c) _ _ _ _ _ _ (λ y e. (refl, reprice_does k c e)) t

      strike_step : (k : ℕ)
          → Judged {A = Done W} (stands rs k) Changed (giving (λ _. Changed) (strike_answer xs k))
          × Tidy n few (cond (stands rs k) (set rs k (stricken (inference_at rs k))) rs) (after (strike_answer xs k) (λ _. set xs k (Some (marked (rule_at xs k)))) xs)
      strike_step k = stepped_by _ _ (strike_iff k) _ _ _ _ _ _ (λ y e. (refl, strike_does k e)) t

    -- one call
    pub tidy_next : {G : Type 0} (c : Call G) → Tidy n few (rules_next n rs c) (slots_next xs c)
    tidy_next (Enter h body c) = (enter_step {W = Unit {0}} h body.now c).1
    tidy_next (Reprice k c) = (reprice_step {W = Unit {0}} k c).1
    tidy_next (Strike k) = (strike_step {W = Unit {0}} k).1
    tidy_next (Search f g h) = t

    judged_here : {W G : Type 0} (m : Ops W) (long : Lengths) (floor rest : G → ℕ → W) (b : Board W) → b.slots ≡ xs → (c : Call G)
        → is_edit c ≡ true → Judged (allowed n rs c) (edit_gives rs c) (replied m long floor rest b c)
    unfolding replied
    judged_here {W = W} m long floor rest b is (Enter h body c) e =
        subst (λ ys. Judged {A = Done W} (leb (length body.now) 4 && (leb c 1000000 && ltb (length rs) n)) (Entered (length rs)) (giving Entered (enter_answer ys body.now c))) (sym is) (enter_step h body.now c).0
    judged_here {W = W} m long floor rest b is (Reprice k c) e =
        subst (λ ys. Judged {A = Done W} (stands rs k && leb c 1000000) Changed (giving (λ _. Changed) (reprice_answer ys k c))) (sym is) (reprice_step k c).0
    judged_here {W = W} m long floor rest b is (Strike k) e =
        subst (λ ys. Judged {A = Done W} (stands rs k) Changed (giving (λ _. Changed) (strike_answer ys k))) (sym is) (strike_step k).0
    judged_here m long floor rest b is (Search f g h) e = absurd (both_ways _ refl e)

  next_slots : {W G : Type 0} (m : Ops W) (long : Lengths) (floor rest : G → ℕ → W) (b : Board W) (c : Call G) → (next m long floor rest b c).slots ≡ slots_next b.slots c
  unfolding next
  next_slots m long floor rest b (Enter h body c) = refl
  next_slots m long floor rest b (Reprice k c) = refl
  next_slots m long floor rest b (Strike k) = refl
  next_slots m long floor rest b (Search f g h) = refl

  -- a whole list
  pub record Steps {W G : Type 0} (rs : List Inference) (cs : List (Call G)) (answers : List (Answer (Done W))) (xs : List Slot) : Type 0 where
    pub judged : JudgedAll n rs cs answers
    pub tidy : Tidy n few (rules_from n rs cs) xs

  pub steps : {W G : Type 0} (m : Ops W) (long : Lengths) (floor rest : G → ℕ → W) (rs : List Inference) (b : Board W) → Tidy n few rs b.slots → (cs : List (Call G))
      → Steps rs cs (replies_to m long floor rest b cs) (board_after m long floor rest b cs).slots
  steps m long floor rest rs b t [] = record { judged = tt; tidy = t }
  steps m long floor rest rs b t (c ∷ cs) =
      let after_one = subst (Tidy n few (rules_next n rs c)) (sym (next_slots m long floor rest b c)) (tidy_next rs b.slots t c) in
      let more = steps m long floor rest (rules_next n rs c) (next m long floor rest b c) after_one cs in
      record { judged = (judged_here rs b.slots t m long floor rest b refl c, more.judged); tidy = more.tidy }

  -- the same of the slots alone
  pub tidy_from : {G : Type 0} (rs : List Inference) (xs : List Slot) → Tidy n few rs xs → (cs : List (Call G)) → Tidy n few (rules_from n rs cs) (slots_from xs cs)
  tidy_from rs xs t [] = t
  tidy_from rs xs t (c ∷ cs) = tidy_from (rules_next n rs c) (slots_next xs c) (tidy_next rs xs t c) cs

  -- calls that are no accepted edits leave the rules
  pub unedited : {G : Type 0} (rs : List Inference) (cs : List (Call G)) → Unedited n rs cs → rules_from n rs cs ≡ rs
  unedited rs [] u = refl
  unedited rs (c ∷ cs) u =
      ap (λ l. rules_from n l cs) (cond-false (allowed n rs c) _ _ u.0) ∙ unedited rs cs u.1

pub rules_append : {G : Type 0} (n : ℕ) (rs : List Inference) (cs ds : List (Call G)) → rules_from n rs (cs ++ ds) ≡ rules_from n (rules_from n rs cs) ds
rules_append n rs [] ds = refl
rules_append n rs (c ∷ cs) ds = rules_append n (rules_next n rs c) cs ds
