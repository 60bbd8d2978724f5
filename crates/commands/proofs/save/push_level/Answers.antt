-- One piece more.
use Rattle.std.proofs.Common.{◌∙◌, ◌++◌, ◌∷◌, [], ℕ, List, Vec, Global, map, ap}
use Rattle.std.proofs.lemmas.List.{map-append}
use Rattle.commands.proofs.save.push_level.Goals as goal

pub returns : goal.returns
returns c =
    let items : Vec ℕ Global → List ℕ = λ piece. piece.items in
    ap (map items) c.in_ok-push.ensures.items ∙ map-append items c.args.pieces.now.items (c.in_ok-level.level ∷ [])
    ∙ ap (λ (bytes : List ℕ). map items c.args.pieces.now.items ++ bytes ∷ []) c.in_ok-level.ensures
