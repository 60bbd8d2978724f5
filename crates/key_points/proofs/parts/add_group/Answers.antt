use Rattle.std.proofs.Common.{◌≡◌, ◌+◌, ◌++◌, ◌∷◌, [], ℕ, List, map, slice_index, sym, ap, ◌∙◌, append_assoc}
use Rattle.window_search.specs.Searches.{lb}
use Rattle.key_points.specs.Groups.{HoldsUpTo}
use Rattle.key_points.proofs.GroupLemmas.{HoldsUpTo-alone, HoldsUpTo-closed}
use Rattle.key_points.proofs.parts.add_group.Goals as goal

-- the same lists
moved : (keys : List ℕ) (end : ℕ) (xs ys xs' ys' : List ℕ) →
    xs' ≡ xs → ys' ≡ ys → HoldsUpTo keys end xs ys → HoldsUpTo keys end xs' ys'
moved keys end xs ys xs' ys' x y holds = record {
  inside = holds.inside;
  xs_are = x ∙ holds.xs_are;
  ys_are = y ∙ holds.ys_are ∙ ap (map (lb keys)) (sym x);
}

pub returns-then-is_closed_group-clause-holds : goal.returns-then-is_closed_group-clause-holds
returns-then-is_closed_group-clause-holds c =
    let keys = c.args.file.now in
    let key = slice_index keys c.args.at in
    let parts = c.args.parts.now in
    moved keys c.args.end _ _ _ _
    (c.push_reserved-then-is_closed_group.ensures.items
    ∙ ap (λ (l : List ℕ). l ++ (key + 1) ∷ []) c.push_reserved.ensures.items
    ∙ append_assoc parts.xs.items (key ∷ []) ((key + 1) ∷ []))
    (c.push_reserved-then-is_closed_group-2.ensures.items
    ∙ ap (λ (l : List ℕ). l ++ c.args.end ∷ []) c.push_reserved-2.ensures.items
    ∙ append_assoc parts.ys.items (c.args.at ∷ []) (c.args.end ∷ []))
    (HoldsUpTo-closed
    keys c.args.at c.args.end c.requires.never_falls c.requires.start c.requires.end parts.xs.items parts.ys.items
    c.requires.so_far (sym c.if-is_closed_group.ensures.closed))

pub returns-else-is_closed_group-clause-holds : goal.returns-else-is_closed_group-clause-holds
returns-else-is_closed_group-clause-holds c =
    let keys = c.args.file.now in
    let parts = c.args.parts.now in
    moved keys c.args.end _ _ _ _ c.push_reserved.ensures.items c.push_reserved-2.ensures.items
    (HoldsUpTo-alone
    keys c.args.at c.args.end c.requires.never_falls c.requires.start c.requires.end parts.xs.items parts.ys.items
    c.requires.so_far (sym c.if-is_closed_group.ensures.closed))
