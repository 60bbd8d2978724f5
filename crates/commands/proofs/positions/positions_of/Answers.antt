use Rattle.std.proofs.Common.{◌≡◌, ◌∙◌, ◌*◌, ◌≤◌, ◌++◌, ℕ, List, ap, ap₂, drop, sym, subst, length, arith}
use Rattle.std.specs.List.{flat_map}
use Rattle.std.proofs.lemmas.Grind.{div_ceil_times}
use Rattle.std.proofs.lemmas.List.{take_at}
use Rattle.window_search.specs.Searches.{lb}
use Rattle.commands.specs.Finders.{keys_of}
use Rattle.commands.proofs.PieceLemmas.{all_pieces}
use Rattle.commands.proofs.positions.positions_of.Goals as goal

pub returns : goal.returns
returns g c =
    let d = c.in_ok-positions.positions in
    let questions = c.args.questions.now in
    let answer = lb (keys_of c.args.finder.now) in
    let pieces = c.par_for_each_mut.new.s in
    let long : length pieces
    ≡ c.in_ok-pieces.pieces.len = omega (arith, c.par_for_each_mut.auto.s, c.deref_mut.ensures.len) in
    let joined = c.deref.ensures.value
    ∙ take_at pieces (drop (length pieces) c.in_ok-pieces.pieces.items) c.in_ok-pieces.pieces.len long in
    let size = c.piece_size-size.result in
    let enough : length questions ≤ length pieces * size =
    subst (λ (n : ℕ). length questions ≤ n * size) (sym (long ∙ c.in_ok-pieces.ensures.count ∙ c.div_ceil.ensures))
    (div_ceil_times (length questions) size c.piece_size-size.ensures).0 in
    c.in_ok-join_pieces.ensures ∙ ap₂ (λ (a b : List ℕ). a ++ b) c.in_ok-positions.ensures.items
    (ap (flat_map (λ piece. piece.items)) joined
    ∙ all_pieces (λ piece. piece.items) d answer questions size pieces
    (λ k there. let at = (c.par_for_each_mut.ensures k d (omega (arith, there, long, c.deref_mut.ensures.len))).1 in
    ap (λ piece. piece.items) (sym at.left) ∙ at.call) enough)
