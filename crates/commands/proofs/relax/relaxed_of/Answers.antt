use Rattle.std.proofs.Common.{◌≡◌, ◌<◌, ◌∙◌, ℕ, List, ap, subst, length, arith}
use Rattle.exact_cross.specs.Points.{points_of}
use Rattle.exact_cross.specs.Checked.{IsCoverWithin}
use Rattle.exact_cross.specs.Segments.{starts_of}
use Rattle.key_points.specs.KeyPoints.{xs_of, ys_of}
use Rattle.piece_join.specs.Cuttings.{AreCutsAt, even_place}
use Rattle.exact_cross.specs.IndexLevels.{level_at}
use Rattle.levels.specs.Indexes.{PgmIndex, IsRelaxedIndex}
use Rattle.commands.specs.Finders.{IsRelaxedOf}
use Rattle.commands.specs.Tasks.{Bounds, bounds_of}
use Rattle.commands.proofs.relax.relaxed_of.Goals as goal

abbrev IsWithin : (eps : ℕ) (index : PgmIndex) → List ℕ × List ℕ → Type 0
IsWithin eps index t = 0 < length t.0 →
    IsCoverWithin (length t.1)
    (points_of (xs_of t.0) (ys_of t.0)) eps 0 (length (xs_of t.0)) (starts_of (level_at index.levels 0))

-- what was built of lists that equal these was built of these
made : (keys own cuts used : List ℕ) (bounds : Bounds) (pieces m slack : ℕ) (index : PgmIndex) →
    own ≡ keys → used ≡ cuts → m ≡ length (xs_of own) → slack ≡ length cuts →
    index.keys ≡ own →
    index.eps ≡ bounds.eps → index.eps_rec ≡ bounds.eps_rec → AreCutsAt m pieces (even_place m pieces) cuts →
    IsRelaxedIndex own bounds.eps bounds.eps_rec used index.levels →
    IsWithin bounds.eps index (own, used) → IsRelaxedOf keys bounds pieces slack index
made keys own cuts used bounds pieces m slack index same same_cuts points count of_own eps eps_rec even relaxed within =
    record {
      of_keys = of_own ∙ same;
      of_eps = eps;
      of_eps_rec = eps_rec;
      cuts = cuts;
      count = count;
      levels = record {
        even = subst (λ (n : ℕ). AreCutsAt n pieces (even_place n pieces) cuts)
            (points ∙ ap (λ (k : List ℕ). length (xs_of k)) same) even;
        index = subst (λ (t : List ℕ × List ℕ). IsRelaxedIndex t.0 bounds.eps bounds.eps_rec t.1 index.levels)
            (λ i. (same i, same_cuts i)) relaxed;
        within = subst (IsWithin bounds.eps index) (λ i. (same i, same_cuts i)) within;
      };
    }

pub returns : goal.returns
returns g c =
    let built = c.in_ok-index.ensures in
    made c.args.indexing.sorted.keys.items _ c.in_ok-cuts.cuts.items c.deref.result.now
    (bounds_of c.args.indexing.bounds) c.args.pieces.count _ c.len.result c.in_ok-index.index c.of-keys.ensures
    c.deref.ensures.value c.point_count.ensures (omega (arith, c.len.ensures)) built.relaxed.of_keys
    built.relaxed.of_eps built.relaxed.of_eps_rec c.in_ok-cuts.ensures.places built.relaxed.levels built.within
