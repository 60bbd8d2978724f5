-- Below the first key there is no key, and without a level there is none at all.
use Rattle.std.proofs.Common.{ℕ, List, slice_index, ap, ◌∙◌, arith}
use Rattle.levels.proofs.LookupLemmas.{none_below}
use Rattle.levels.proofs.lookup.position_from.Goals as goal
use Rattle.levels.proofs.lookup.position_from.Goals.{then-level_count-eq0-via-then-level_count-eq0}
use Rattle.levels.proofs.lookup.position_from.Goals.{then-level_count-eq0-via-else-level_count-eq0+then-q-read}

pub returns-then-level_count-eq0 : goal.returns-then-level_count-eq0
returns-then-level_count-eq0 g c =
    let file = c.counted_file-keys.ensures in
    let keys = c.args.index.now.keys in
    elim c.then-level_count-eq0.branch [
      | then-level_count-eq0-via-then-level_count-eq0 w ↦
          none_below keys c.args.q file.never_falls (λ some. absurd (omega arith))
      | then-level_count-eq0-via-else-level_count-eq0+then-q-read w ↦
          let read = w.read.ensures.key ∙ ap (λ (l : List ℕ). slice_index l 0) file.keys in
          none_below keys c.args.q file.never_falls (λ some. omega (arith, w.if-q-read.true, read))
    ]
