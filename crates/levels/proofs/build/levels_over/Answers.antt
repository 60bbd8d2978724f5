-- Level 0 by itself, one level more, and all levels once the last one has one run.
use Rattle.std.proofs.Common.{◌≡◌, ◌+◌, ◌<◌, [], ◌∷◌, ◌++◌, length, Vec, refl, sym, ap, ◌∙◌, arith}
use Rattle.std.specs.declared.alloc.Global.{Global}
use Rattle.exact_cross.specs.declared.segment.Segment.{Segment}
use Rattle.std.proofs.lemmas.List.{length-append}
use Rattle.std.proofs.lemmas.Bool.Decides.{nat_tests}
use Rattle.piece_join.proofs.RelaxedLemmas.{IsLaid-from_piece}
use Rattle.exact_cross.specs.IndexLevels.{eps_at}
use Rattle.levels.specs.Indexes.{xs_at, points_at, places_below}
use Rattle.levels.specs.Stored.{segments_of}
use Rattle.levels.proofs.StoredLemmas.{AreLevels-base, AreLevels-push, AreStored-in, fewer_above}
use Rattle.levels.proofs.StoredLemmas.{places_below-base, places_below-push, level_at-pushed, level_at-before}
use Rattle.levels.proofs.build.levels_over.Goals as goal

pub loop-runs-init : goal.loop-runs-init
loop-runs-init g c =
    let keys = c.args.points.now in
    let level = c.in_ok-level_0.field-0 in
    let own : level.segments.items ≡ c.args.segments.items =
    ap (λ (segments : Vec Segment Global). segments.items) c.in_ok-level_0.ensures.segments in
    let some : 0 < length keys =
    grind (arith, nat_tests, c.is_empty.ensures, c.if-is_empty.false, ap length c.keys.ensures.keys) in
    let order = rw c.keys.ensures.keys at c.keys.ensures.never_falls in
    let few = rw c.keys.ensures.keys at c.keys.ensures.few in
    let is : c.push.new.self.items ≡ level ∷ [] = rw c.new-levels.ensures.items at c.in_ok-push.ensures.items in
    let all = AreLevels-base keys c.args.bounds.eps c.args.bounds.eps_rec level order few c.args.bounds.bounded
    c.args.bounds.bounded_above (rw own c.requires.segments) (rw own c.in_ok-level_0.ensures.models) in
    rw is (record {
      levels = all;
      some = some;
      above = omega arith;
      last = λ i at. ap length (level_at-pushed [] level i (omega (arith, at)))
          ∙ omega (arith, ap length own, c.args.segments.ok.0);
      base = level_at-pushed [] level 0 refl ∙ own;
      cost = omega (arith, places_below-base keys level);
    })

pub loop-runs-smaller : goal.loop-runs-smaller
loop-runs-smaller g c =
    let inv = c.loop-runs.invariant in
    let own = rw c.deref.ensures.value at c.in_ok-level.ensures in
    let fewer = fewer_above c.args.points.now c.args.bounds.eps c.args.bounds.eps_rec c.loop-runs.levels.items
    c.loop-runs.runs c.in_ok-level.level.segments.items inv.levels inv.some inv.above inv.last
    (λ one. c.loop-runs-test.true one) own.next.segments in
    omega (arith, fewer, c.in_ok-level.level.segments.ok.0)

pub loop-runs-preserved : goal.loop-runs-preserved
loop-runs-preserved g c =
    let keys = c.args.points.now in
    let levels = c.loop-runs.levels.items in
    let level = c.in_ok-level.level in
    let inv = c.loop-runs.invariant in
    let own = rw c.deref.ensures.value at c.in_ok-level.ensures in
    let to = length (xs_at keys (segments_of levels) (length levels)) in
    let laid = IsLaid-from_piece (points_at keys (segments_of levels) (length levels))
    (eps_at c.args.bounds.eps c.args.bounds.eps_rec (length levels)) 0 to level.segments.items
    (omega arith) own.next.segments in
    let all = AreLevels-push keys c.args.bounds.eps c.args.bounds.eps_rec levels level inv.levels
    (λ i last one. c.loop-runs-test.true (sym (inv.last i last) ∙ one)) laid
    (λ some. own.next.segments) own.next.models
    (λ some. own.next.xs) in
    let count : length (levels ++ level ∷ []) ≡ length levels + 1 = length-append levels (level ∷ []) in
    let places : places_below keys (segments_of (levels ++ level ∷ [])) (length (levels ++ level ∷ []))
    ≡ places_below keys (segments_of levels) (length levels)
    + length (xs_at keys (segments_of levels) (length levels)) =
    ap (places_below keys (segments_of (levels ++ level ∷ []))) count ∙ places_below-push keys levels level in
    rw c.in_ok-push-2.ensures.items (record {
      levels = all;
      some = inv.some;
      above = omega (arith, count);
      last = λ i last. ap length (level_at-pushed levels level i (omega (arith, count, last)))
          ∙ omega (arith, level.segments.ok.0);
      base = level_at-before levels level 0 inv.above ∙ inv.base;
      cost = omega (arith, own.cost, inv.cost, places);
    })

pub returns-clause-stored : goal.returns-clause-stored
returns-clause-stored g c =
    let inv = c.loop-runs.invariant in
    AreStored-in c.args.points.now c.args.bounds.eps c.args.bounds.eps_rec c.loop-runs.levels.items
    inv.levels inv.some inv.above (λ i last. inv.last i last ∙ omega (arith, c.loop-runs-test.false))
