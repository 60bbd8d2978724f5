-- What was kept in the vector's place is all of it.
use Rattle.std.proofs.Common.{◌≡◌, ◌++◌, [], ℕ, List, length, take, drop, ap, sym, ◌∙◌, subst, arith}
use Rattle.std.proofs.lemmas.List.{append-nil, length-drop, nil_from_length, take_all}
use Rattle.near.specs.Kept.{AreFirst}
use Rattle.near.specs.Nearest.{pairs_of}
use Rattle.near.proofs.search.fill_nearest.Goals as goal

put_whole : (new old : List (ℕ × ℕ)) (n : ℕ) →
    length new ≡ length old → n ≡ length old → take n (new ++ drop (length new) old) ≡ new
put_whole new old n long many =
    let none : drop (length new) old
    ≡ [] = nil_from_length (drop (length new) old) (omega (arith, length-drop (length new) old)) in
    ap (λ (rest : List (ℕ × ℕ)). take n (new ++ rest)) none
    ∙ ap (take n) (append-nil new) ∙ take_all n new (omega arith)

pub returns-clause-first : goal.returns-clause-first
returns-clause-first c =
    let boxes = c.args.boxes.now in
    let old = c.fill_distances.new.pairs in
    let new = c.keep_nearest_of_all.new.kept in
    subst (AreFirst (pairs_of boxes.dims c.args.centre.now boxes.codes))
    (sym (put_whole new old.items old.len
    (omega (arith, c.keep_nearest_of_all.auto.kept, ap length c.deref_mut.ensures.value))
    (omega (arith, old.ok.0))))
    c.keep_nearest_of_all.ensures.first
