-- A list of calls goes on, one call at a time.
use Rattle.std.proofs.Common.{◌≡◌, ℕ, ◌+◌, ◌<◌, true, List, [], ◌∷◌, ◌++◌, map, length, get_or, set, take, drop, sym, refl, ap, ◌∙◌, arith}
use Rattle.std.specs.List.{fold, scan}
use Rattle.std.proofs.lemmas.List.{take_all, take_more, take_more_set, map-append, drop-set-lt, drop-drop}
use Rattle.std.proofs.lemmas.List.Sums.{fold_more}
use Rattle.measure.specs.Ops.{Ops}
use Rattle.search.specs.declared.columns.Columns.{Columns}
use Rattle.search.specs.Left.{Scratch}
use Rattle.sheet.specs.Refusals.{answer}
use Rattle.replay.specs.declared.call.Call.{Call}
use Rattle.replay.specs.Replies.{Reply}
use Rattle.replay.specs.Run.{Board, ColumnsLeft, Lengths, replied, next, board_after, replies_to, Written}

scratch_again : {X : Type 0} (n : ℕ) (xs ys zs : List X) → Scratch true n xs ys → Scratch true n ys zs → Scratch true n xs zs
scratch_again n xs ys zs s t = record { long = t.long ∙ s.long; beyond = t.beyond ∙ s.beyond; kept = λ e. grind arith }

pub left_again : {W : Type 0} (n k : ℕ) (a b c : Columns W) → k ≡ n → ColumnsLeft n a b → ColumnsLeft k b c → ColumnsLeft n a c
left_again n k a b c e s t =
    let u : ColumnsLeft n b c = rw (← e) t in record {
      queues = scratch_again _ _ _ _ s.queues u.queues;
      works = scratch_again _ _ _ _ s.works u.works;
      lengths = u.lengths ∙ s.lengths;
      same = record {
        weights = u.same.weights ∙ s.same.weights;
        reasons = u.same.reasons ∙ s.same.reasons;
        line = u.same.line ∙ s.same.line;
        queue = u.same.queue ∙ s.same.queue;
        work = u.same.work ∙ s.same.work;
      };
    }

module _ {S X Y : Type 0} (next : S → X → S) (out : S → X → Y) where
  pub length_scan : (a : S) (xs : List X) → length (scan next out a xs) ≡ length xs
  length_scan a [] = refl
  length_scan a (x ∷ xs) = let e = length_scan (next a x) xs in omega arith

  scan_push : (a : S) (xs : List X) (x : X) → scan next out a (xs ++ x ∷ []) ≡ scan next out a xs ++ out (fold next a xs) x ∷ []
  scan_push a [] x = refl
  scan_push a (y ∷ xs) x = ap (λ l. out a y ∷ l) (scan_push (next a y) xs x)

  pub scan_more : (a : S) (xs : List X) (i : ℕ) (d : X) → i < length xs
      → scan next out a (take (i + 1) xs) ≡ scan next out a (take i xs) ++ out (fold next a (take i xs)) (get_or xs i d) ∷ []
  scan_more a xs i d h = ap (scan next out a) (take_more xs i d h) ∙ scan_push a (take i xs) (get_or xs i d)

module _ {W G : Type 0} (m : Ops W) (long : Lengths) (floor rest : G → ℕ → W) (b₀ : Board W) (calls : List (Call G)) (before : List (Reply W)) where
  -- the first i calls are made
  pub record Going (i : ℕ) (b : Board W) (replies : List (Reply W)) : Type 0 where
    pub board : b ≡ board_after m long floor rest b₀ (take i calls)
    pub told : map answer (take i replies) ≡ replies_to m long floor rest b₀ (take i calls)
    pub beyond : drop i replies ≡ drop i before

  pub goes_on : (long' : Lengths) (i : ℕ) (b b' : Board W) (replies : List (Reply W)) (c : Call G) (r : Reply W) → i < length calls → i < length replies → c ≡ get_or calls i c
      → long' ≡ long → answer r ≡ replied m long' floor rest b c → b' ≡ next m long' floor rest b c → Going i b replies → Going (i + 1) b' (set replies i r)
  goes_on long' i b b' replies c r h k is same tells leaves g =
      let f = fold_more (next m long floor rest) b₀ calls i c h in
      let s = scan_more (next m long floor rest) (replied m long floor rest) b₀ calls i c h in
      let e = g.board in
      let t = g.told in
      record {
        board = cc;
        told = ap (map answer) (take_more_set replies i r k) ∙ map-append answer (take i replies) (r ∷ []) ∙ cc;
        beyond = drop-set-lt (i + 1) replies i r (omega arith) ∙ sym (drop-drop 1 i replies) ∙ ap (drop 1) g.beyond ∙ drop-drop 1 i before;
      }

  -- all are made
  pub written : (i : ℕ) (b : Board W) (replies : List (Reply W)) → i ≡ length calls → length replies ≡ length before → Going i b replies
      → Written before replies (replies_to m long floor rest b₀ calls)
  written i b replies e long_as g =
      let n : length (replies_to m long floor rest b₀ calls) ≡ i = length_scan _ _ b₀ calls ∙ sym e in
      let all : take i calls ≡ calls = take_all i calls (omega (arith, e)) in
      record { told = rw n (g.told ∙ ap (replies_to m long floor rest b₀) all); beyond = rw n g.beyond; long = long_as }
