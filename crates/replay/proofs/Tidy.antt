-- Sheets that were opened and only edited: rules fill the first slots, and the others are empty.
use Rattle.std.proofs.Common.{◌≡◌, ℕ, zero, suc, ◌+◌, ◌-◌, ◌<◌, ◌≤◌, min, true, false, List, [], ◌∷◌, ◌++◌, map, length, take, set, replicate, sym, refl, ap, ◌∙◌, arith, length-append}
use lib.ListN.{length-map, length-replicate}
use Rattle.std.proofs.lemmas.List.{take_all, take_at, map-append, map-set, length-set}
use Rattle.measure.specs.Ops.{Ops}
use Rattle.sheet.specs.declared.rule.Rule.{Rule}
use Rattle.sheet.specs.Slots.{Slot, used, fulls, empties, count, free, front, sheet, rule_at}
use Rattle.std.specs.Prelude.{None, Some}
use Rattle.sheet.specs.Rules.{Inference, body_of, read, made}
use Rattle.sheet.specs.Edits.{repriced}
use Rattle.guide.specs.Weighted.{weigh, weighted}
use Rattle.abstraction.proofs.Reading.{made_body}
use Rattle.replay.specs.Rules.{inference_at, priced, weighing}
use Rattle.replay.specs.Run.{shown}

-- rules, and then so many empty slots
abbrev pub laid : List Rule → ℕ → List Slot
laid rs k = map Some rs ++ replicate k None

fulls_laid : (rs : List Rule) (k : ℕ) → fulls (laid rs k) ≡ length rs
fulls_laid [] zero = refl
fulls_laid [] (suc k) = refl
fulls_laid (r ∷ rs) k = let e = fulls_laid rs k in omega arith

empties_laid : (rs : List Rule) (k : ℕ) → empties (laid rs k) ≡ k
empties_laid [] zero = refl
empties_laid [] (suc k) = let e = empties_laid [] k in omega arith
empties_laid (r ∷ rs) k = empties_laid rs k

front_laid : (rs : List Rule) (k : ℕ) → front (laid rs k) ≡ map read rs
front_laid [] zero = refl
front_laid [] (suc k) = refl
front_laid (r ∷ rs) k = ap (λ l. read r ∷ l) (front_laid rs k)

length_laid : (rs : List Rule) (k : ℕ) → length (laid rs k) ≡ length rs + k
length_laid rs k = omega (arith, length-append (map Some rs) (replicate k None), length-map rs Some, length-replicate {A = Slot} k None)

set_next : (rs : List Rule) (k : ℕ) (r : Rule) → set (laid rs (suc k)) (length rs) (Some r) ≡ laid (rs ++ r ∷ []) k
set_next [] k r = refl
set_next (q ∷ rs) k r = ap (λ l. Some q ∷ l) (set_next rs k r)

set_laid : (rs : List Rule) (k i : ℕ) (r : Rule) → i < length rs → set (laid rs k) i (Some r) ≡ laid (set rs i r) k
set_laid [] k i r h = absurd (omega arith)
set_laid (q ∷ rs) k zero r h = refl
set_laid (q ∷ rs) k (suc i) r h = ap (λ l. Some q ∷ l) (set_laid rs k i r (omega arith))

-- the rule of a number, as it is read; beyond the rules there is none
read_laid : (rs : List Rule) (k i : ℕ) → i < length rs → read (rule_at (laid rs k) i) ≡ inference_at (map read rs) i
read_laid [] k i h = absurd (omega arith)
read_laid (q ∷ rs) k zero h = refl
read_laid (q ∷ rs) k (suc i) h = read_laid rs k i (omega arith)

pub none_beyond : (rs : List Inference) (i : ℕ) → length rs ≤ i → (inference_at rs i).struck ≡ true
none_beyond [] i h = refl
none_beyond (r ∷ rs) zero h = absurd (omega arith)
none_beyond (r ∷ rs) (suc i) h = none_beyond rs i (omega arith)

-- how edited records are read
pub read_made : (h : ℕ) (b : List ℕ) (c : ℕ) → length b ≤ 4 → c ≤ 1000000 → read (made h b c) ≡ record { head = h; body = b; cost = c; struck = false }
read_made h b c few cheap =
    let e : min c 1000000 ≡ c = omega arith in
    ap (λ l. record { head = h; body = l; cost = min c 1000000; struck = false }) (made_body b few)
    ∙ ap (λ (n : ℕ). record { head = h; body = b; cost = n; struck = false }) e

pub read_repriced : (r : Rule) (c : ℕ) → c ≤ 1000000 → read (repriced r c) ≡ priced (read r) c
read_repriced r c cheap =
    let e : min c 1000000 ≡ c = omega arith in
    ap (λ (n : ℕ). record { head = r.head; body = body_of r; cost = n; struck = r.struck }) e

module _ (n : ℕ) (few : n ≤ 16000) where
  -- rs are the rules of a tidy column of n slots
  pub record Tidy (rs : List Inference) (xs : List Slot) : Type 0 where
    pub records : List Rule
    pub left : ℕ
    pub are : xs ≡ laid records left
    pub size : length records + left ≡ n
    pub reads : map read records ≡ rs

  module _ (rs : List Inference) (xs : List Slot) (t : Tidy rs xs) where
    pub all_used : used xs ≡ laid t.records t.left
    all_used =
        let e = length_laid t.records t.left in
        ap used t.are ∙ take_all 16000 (laid t.records t.left) (omega (arith, e, t.size))

    pub length_rules : length rs ≡ length t.records
    length_rules = ap length (sym t.reads) ∙ length-map t.records read

    pub tidy_count : count xs ≡ length rs
    unfolding count
    tidy_count = ap fulls all_used ∙ fulls_laid t.records t.left ∙ sym length_rules

    pub tidy_free : free xs + length rs ≡ n
    unfolding free
    tidy_free = let e : empties (used xs) ≡ t.left = ap empties all_used ∙ empties_laid t.records t.left in omega (arith, e, t.size, length_rules)

    pub tidy_sheet : sheet xs ≡ rs
    unfolding sheet
    tidy_sheet = ap front all_used ∙ front_laid t.records t.left ∙ t.reads

    pub tidy_rule : (i : ℕ) → i < length rs → read (rule_at xs i) ≡ inference_at rs i
    tidy_rule i h =
        let k : i < length t.records = omega (arith, length_rules) in
        ap (λ l. read (rule_at l i)) t.are ∙ read_laid t.records t.left i k ∙ ap (λ l. inference_at l i) t.reads

    pub tidy_shown : shown xs ≡ map Some t.records
    tidy_shown =
        let e : count xs ≡ length (map Some t.records) = tidy_count ∙ length_rules ∙ sym (length-map t.records Some) in
        ap (λ l. take (count xs) l) t.are ∙ take_at (map Some t.records) (replicate t.left None) (count xs) (sym e)

    -- the weighted rules that a passed view gives
    pub tidy_weighted : {W : Type 0} (m : Ops W) → weighted m (shown xs) ≡ map (weighing m) rs
    tidy_weighted m = ap (weighted m) tidy_shown ∙ weighed t.records ∙ ap (map (weighing m)) t.reads
      where
        weighed : (qs : List Rule) → weighted m (map Some qs) ≡ map (weighing m) (map read qs)
        weighed [] = refl
        weighed (q ∷ qs) = ap (λ l. weigh m (Some q) ∷ l) (weighed qs)

    -- what edits make of a tidy column
    pub tidy_enter : (h : ℕ) (b : List ℕ) (c : ℕ) → length b ≤ 4 → c ≤ 1000000 → length rs < n
        → Tidy (rs ++ record { head = h; body = b; cost = c; struck = false } ∷ []) (set xs (count xs) (Some (made h b c)))
    tidy_enter h b c short cheap room =
        let k : t.left ≡ suc (t.left - 1) = omega (arith, t.size, length_rules) in
        let e : count xs ≡ length t.records = tidy_count ∙ length_rules in
        record {
          records = t.records ++ made h b c ∷ [];
          left = t.left - 1;
          are =
              ap (λ (i : ℕ). set xs i (Some (made h b c))) e
              ∙ ap (λ l. set l (length t.records) (Some (made h b c))) (t.are ∙ ap (laid t.records) k)
              ∙ set_next t.records (t.left - 1) (made h b c);
          size = let z = length-append t.records (made h b c ∷ []) in omega (arith, z, k, t.size);
          reads =
              map-append read t.records (made h b c ∷ [])
              ∙ ap (λ l. l ++ read (made h b c) ∷ []) t.reads
              ∙ ap (λ a. rs ++ a ∷ []) (read_made h b c short cheap);
        }

    pub tidy_change : (i : ℕ) (r : Rule) (a : Inference) → i < length rs → read r ≡ a → Tidy (set rs i a) (set xs i (Some r))
    tidy_change i r a h e =
        let k : i < length t.records = omega (arith, length_rules) in
        record {
          records = set t.records i r;
          left = t.left;
          are = ap (λ l. set l i (Some r)) t.are ∙ set_laid t.records t.left i r k;
          size = let z = length-set t.records i r in omega (arith, z, t.size);
          reads = map-set read t.records i r ∙ ap (λ l. set l i (read r)) t.reads ∙ ap (set rs i) e;
        }

  pub tidy_new : Tidy [] (replicate n None)
  tidy_new = record { records = []; left = n; are = refl; size = omega arith; reads = refl }
