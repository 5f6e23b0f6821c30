use Rattle.std.proofs.Common.{◌≡◌, ℕ, ◌-◌, min, List, length, map, take, drop, sym, ap, ◌∙◌, arith}
use Rattle.std.proofs.lemmas.Bool.{cond-false}
use Rattle.std.proofs.lemmas.List.{take-append-drop, take-map, take_at}
use Rattle.sheet.specs.Rules.{made}
use Rattle.abstraction.specs.Fold.{group_of}
use Rattle.abstraction.proofs.fold.rule.fold_rule.Goals as goal

pub returns : goal.returns
returns c =
    let r = c.args.rule.now in
    let g = group_of c.args.map.now in
    let n = length c.body-arity.result.now - 0 in
    let k = min r.arity 4 in
    let body : take n r.body ≡ take k r.body =
    ap (take n) (sym (take-append-drop k r.body)) ∙ take_at (take k r.body) (drop k r.body) n (omega (arith, ap length c.body-arity.ensures)) in
    let places : take n c.groups-places.result ≡ map g (take k r.body) = ap (take n) c.groups-places.ensures ∙ take-map g n r.body ∙ ap (map g) body in
    c.new.ensures
    ∙ ap (λ (h : ℕ). made h (take n c.groups-places.result) r.cost) c.group.ensures
    ∙ ap (λ (b : List ℕ). made (g r.head) b r.cost) places
    ∙ sym (cond-false r.struck r _ c.if-rule.false)
