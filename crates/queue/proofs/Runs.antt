-- A run goes on right, one put or take at a time.
use Rattle.std.proofs.Common.{◌≡◌, ℕ, ◌+◌, ◌-◌, ◌<◌, ◌≤◌, Bool, List, [], ◌∷◌, ◌++◌, length, get_or, take, drop, set, sym, refl, ap, ◌∙◌, subst, arith, below_more}
use Rattle.std.specs.List.Sorted.{IsPermutation}
use Rattle.std.proofs.lemmas.List.{append-nil, append_assoc, length-set, length-take-le, take_more, take_more_set, take_all, take-set-le, take-set, drop-set-lt, drop-drop, get_or_read, get_or-set_same, get_or-set_other}
use Rattle.std.proofs.lemmas.List.Sorted.{IsPermutation-sym, IsPermutation-trans, IsPermutation-to_front}
use Rattle.std.proofs.ByRecursion.{has_shuffled}
use Rattle.queue.specs.declared.run.Op.{Op}
use Rattle.queue.specs.declared.run.Op.TheVariants.{Put, Take}
use Rattle.queue.specs.declared.run.Reply.{Reply}
use Rattle.queue.specs.declared.run.Reply.TheVariants.{Added, Taken, Empty}
use Rattle.queue.specs.Heap as heap
use Rattle.queue.proofs.Shuffles.{shuffled_front, shuffled_behind}
use Rattle.queue.specs.Run.{entered, put_in, left, taken_out, Holds, Right, RightUntil, Made, Ready, Step}

-- The first i of a run are made.
pub record Going {X : Type 0} (leb : X → X → Bool) (ops : List (Op X)) (xs : List X) (before : List (Reply X)) (i : ℕ) (ys : List X) (replies : List (Reply X)) (n : ℕ) : Type 0 where
  pub right : RightUntil leb (length xs) ops replies i
  pub holds : Holds (take i ops) (take i replies) (take n ys)
  pub ready : Ready leb ys n
  pub wide : length ys ≡ length xs
  pub long : length replies ≡ length before
  pub beyond : drop i replies ≡ drop i before

-- One more put or take and its reply.
module _ {X : Type 0} where
  put_in_push : (os : List (Op X)) (rs : List (Reply X)) (o : Op X) (r : Reply X) → length os ≡ length rs → put_in (os ++ o ∷ []) (rs ++ r ∷ []) ≡ put_in os rs ++ entered o r
  put_in_push [] [] o r e = append-nil (entered o r)
  put_in_push [] (s ∷ rs) o r e = absurd (omega arith)
  put_in_push (p ∷ os) [] o r e = absurd (omega arith)
  put_in_push (p ∷ os) (s ∷ rs) o r e =
      ap (λ l. entered p s ++ l) (put_in_push os rs o r (omega arith)) ∙ sym (append_assoc (entered p s) (put_in os rs) (entered o r))

  taken_out_push : (rs : List (Reply X)) (r : Reply X) → taken_out (rs ++ r ∷ []) ≡ taken_out rs ++ left r
  taken_out_push [] r = append-nil (left r)
  taken_out_push (s ∷ rs) r = ap (λ l. left s ++ l) (taken_out_push rs r) ∙ sym (append_assoc (left s) (taken_out rs) (left r))

  holds_more : (os : List (Op X)) (rs : List (Reply X)) (o : Op X) (r : Reply X) (held now : List X) → length os ≡ length rs → Holds os rs held → IsPermutation (held ++ entered o r) (left r ++ now) → Holds (os ++ o ∷ []) (rs ++ r ∷ []) now
  holds_more os rs o r held now e h s =
      let T = taken_out rs in
      rw (put_in_push os rs o r e, taken_out_push rs r, append_assoc T (left r) now)
      (IsPermutation-trans (put_in os rs ++ entered o r) ((T ++ held) ++ entered o r) (T ++ (left r ++ now))
      (shuffled_behind (entered o r) (put_in os rs) (T ++ held) h)
      (rw (append_assoc T held (entered o r)) (shuffled_front T (held ++ entered o r) (left r ++ now) s)))

module _ {X : Type 0} (leb : X → X → Bool) (ops : List (Op X)) (xs : List X) (before : List (Reply X)) where
  -- The replies before i stay right when the one at i is written, and the one at i is right.
  kept_right : (i : ℕ) (replies : List (Reply X)) (r : Reply X) (k : ℕ) → k < i → RightUntil leb (length xs) ops replies i → (held : List X) × Holds (take k ops) (take k (set replies i r)) held × Right leb (length xs) held (get_or ops k Take) (get_or (set replies i r) k Empty)
  kept_right i replies r k h was =
      let w = was k h in
      let e = take-set-le k replies i r (omega arith) in
      let f = get_or-set_other replies i k r Empty (λ q. omega arith) in
      (w.0, rw e w.1, rw f w.2)

  next_right : (i : ℕ) (ys : List X) (replies : List (Reply X)) (n : ℕ) (o : Op X) (r : Reply X) → i < length ops → i < length replies → o ≡ get_or ops i o → length ys ≡ length xs → Holds (take i ops) (take i replies) (take n ys) → Right leb (length ys) (take n ys) o r → (held : List X) × Holds (take i ops) (take i (set replies i r)) held × Right leb (length xs) held (get_or ops i Take) (get_or (set replies i r) i Empty)
  next_right i ys replies n o r l lr read wide holds fits =
      let e = take-set replies i r in
      let f = get_or-set_same replies i r Empty lr in
      let g = sym (get_or_read ops i o l read Take) in
      let h : Right leb (length xs) (take n ys) o r = subst (λ m. Right leb m (take n ys) o r) wide fits in
      (take n ys, rw e holds, rw (f, g) h)

  goes_on : (i : ℕ) (ys zs : List X) (replies : List (Reply X)) (n m : ℕ) (o : Op X) (r : Reply X) → i < length ops → length ops ≤ length before → o ≡ get_or ops i o → Going leb ops xs before i ys replies n → Step leb o ys n zs r m → Going leb ops xs before (i + 1) zs (set replies i r) m
  goes_on i ys zs replies n m o r l enough read going step =
      let lr : i < length replies = omega (arith, going.long) in
      let e : take (i + 1) ops ≡ take i ops ++ o ∷ [] = take_more ops i o l ∙ ap (λ p. take i ops ++ p ∷ []) (sym read) in
      let f : take (i + 1) (set replies i r) ≡ take i replies ++ r ∷ [] = take_more_set replies i r lr in
      let s : length (take i ops) ≡ length (take i replies) = length-take-le i ops (omega arith) ∙ sym (length-take-le i replies (omega arith)) in
      record {
        right =
            below_more
            (λ k. (held : List X) × Holds (take k ops) (take k (set replies i r)) held × Right leb (length xs) held (get_or ops k Take) (get_or (set replies i r) k Empty))
            i (λ k h. kept_right i replies r k h going.right) (next_right i ys replies n o r l lr read going.wide going.holds step.right);
        holds = rw (e, f) (holds_more (take i ops) (take i replies) o r (take n ys) (take m zs) s going.holds step.contents);
        ready = step.ready;
        wide = step.wide ∙ going.wide;
        long = length-set replies i r ∙ going.long;
        beyond =
            drop-set-lt (i + 1) replies i r (omega arith) ∙ sym (drop-drop 1 i replies) ∙ ap (drop 1) going.beyond ∙ drop-drop 1 i before;
      }

  -- The same where the replies after the write are a column of their own.
  pub goes_on_in : (i : ℕ) (ys zs : List X) (replies after : List (Reply X)) (n m : ℕ) (o : Op X) (r : Reply X) → i < length ops → length ops ≤ length before → o ≡ get_or ops i o → after ≡ set replies i r → Going leb ops xs before i ys replies n → Step leb o ys n zs r m → Going leb ops xs before (i + 1) zs after m
  goes_on_in i ys zs replies after n m o r l enough read wrote going step =
      subst (λ rs. Going leb ops xs before (i + 1) zs rs m) (sym wrote) (goes_on i ys zs replies n m o r l enough read going step)

  pub ends : (i : ℕ) (ys : List X) (replies : List (Reply X)) (n : ℕ) → i ≤ length ops → length ops ≤ i → length ops ≤ length before → Going leb ops xs before i ys replies n → Made leb ops xs before ys replies n
  ends i ys replies n a b enough going =
      let e : i ≡ length ops = omega arith in
      record {
        enough = enough;
        right = subst (RightUntil leb (length xs) ops replies) e going.right;
        holds = subst (λ l. Holds l (take (length ops) replies) (take n ys)) (take_all (length ops) ops (omega arith)) (subst (λ k. Holds (take k ops) (take k replies) (take n ys)) e going.holds);
        ordered = going.ready.1;
        within = going.ready.0;
        wide = going.wide;
        long = going.long;
        beyond = subst (λ k. drop k replies ≡ drop k before) e going.beyond;
      }

-- The replies to a put and a take that were made.
module _ {X : Type 0} (leb : X → X → Bool) (xs : List X) (count : ℕ) (ready : Ready leb xs count) where
  pub put_steps : (x : X) (ys : List X) (n : ℕ) → heap.Added leb xs count x ys n → Step leb (Put x) xs count ys Added n
  put_steps x ys n a =
      let size : length (take count xs) ≡ count = length-take-le count xs ready.0 in
      let room = a.room in
      record {
        right = rw size room;
        contents =
            rw a.answer
            (IsPermutation-trans (take count xs ++ x ∷ []) (x ∷ take count xs) (take (count + 1) ys) (IsPermutation-to_front (take count xs) x) a.contents);
        ready = (omega (arith, a.long, a.answer), rw a.answer (a.ordered ready.1));
        wide = a.long;
      }

  pub take_steps : (x : X) (ys : List X) → heap.Removed leb xs count ys x → Step leb Take xs count ys (Taken x) (count - 1)
  take_steps x ys r =
      record {
        right = (has_shuffled (x ∷ take (count - 1) ys) (take count xs) x (IsPermutation-sym (take count xs) (x ∷ take (count - 1) ys) r.contents) (0, omega arith, λ d. refl), r.least ready.1);
        contents = rw (append-nil (take count xs)) r.contents;
        ready = (omega (arith, r.long, r.within), r.ordered ready.1);
        wide = r.long;
      }
