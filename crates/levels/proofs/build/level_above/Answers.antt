-- The level stands on the first x of the runs of the last one.
use Rattle.std.proofs.Common.{◌≡◌, ◌+◌, ◌-◌, ◌∙◌, length, ap, arith}
use Rattle.exact_cross.specs.Points.{places}
use Rattle.levels.proofs.StoredLemmas.{ascends_next, above_xs, above_ys, above_level}
use Rattle.levels.proofs.StoredLemmas.{level_models, eps_at-above, starts_inside, ascends_list}
use Rattle.levels.proofs.build.level_above.Goals as goal

pub first_xs_of-requires : goal.first_xs_of-requires
first_xs_of-requires g c =
    starts_inside c.args.points.now c.args.bounds.eps c.args.bounds.eps_rec c.args.levels.now
    (length c.args.levels.now - 1) c.index-levels-below.result c.list_at.result.now c.deref.result.now
    c.requires.levels (omega (arith, c.requires.some)) c.index-levels-below.is c.deref.ensures.value c.list_at.ensures

pub overflow_cast-len : goal.overflow_cast-len
overflow_cast-len g c =
    let keys = c.args.points.now in
    let levels = c.args.levels.now in
    let last : length levels - 1 + 1 ≡ length levels = omega (arith, c.requires.some) in
    let xs_are = above_xs keys levels
    (length levels - 1) c.index-levels-below.result c.list_at.result.now c.in_ok-xs.xs.items c.deref.result.now last
    c.index-levels-below.is c.deref.ensures.value c.list_at.ensures c.in_ok-xs.ensures in
    let ascends = ascends_next keys c.args.bounds.eps c.args.bounds.eps_rec levels c.requires.levels
    (length levels) (omega arith) in
    omega (arith, c.len.ensures, c.in_ok-xs.xs.ok.0, ap length xs_are, ascends.few, c.requires.levels.few)

pub new-list-requires : goal.new-list-requires
new-list-requires g c =
    let keys = c.args.points.now in
    let levels = c.args.levels.now in
    let last : length levels - 1 + 1 ≡ length levels = omega (arith, c.requires.some) in
    let xs_are = above_xs keys levels
    (length levels - 1) c.index-levels-below.result c.list_at.result.now c.in_ok-xs.xs.items c.deref.result.now last
    c.index-levels-below.is c.deref.ensures.value c.list_at.ensures c.in_ok-xs.ensures in
    let count : c.len.result ≡ length c.in_ok-xs.xs.items = omega (arith, c.len.ensures, c.in_ok-xs.xs.ok.0) in
    let ys_are = above_ys keys levels (length levels - 1) c.in_ok-xs.xs.items c.in_ok-ys.ys.items last xs_are
    (c.in_ok-ys.ensures ∙ ap places count) in
    let ascends = ascends_list keys c.args.bounds.eps
    c.args.bounds.eps_rec levels c.in_ok-xs.xs.items c.in_ok-ys.ys.items c.requires.levels xs_are ys_are in
    rw (c.as_slice.ensures.value, c.as_slice-2.ensures.value)
    (record { same_length = ascends.0; rising = ascends.1; never_falls = ascends.2; few = ascends.3 })

pub returns-clause-next : goal.returns-clause-next
returns-clause-next g c =
    let keys = c.args.points.now in
    let levels = c.args.levels.now in
    let last : length levels - 1 + 1 ≡ length levels = omega (arith, c.requires.some) in
    let xs_are = above_xs keys levels
    (length levels - 1) c.index-levels-below.result c.list_at.result.now c.in_ok-xs.xs.items c.deref.result.now last
    c.index-levels-below.is c.deref.ensures.value c.list_at.ensures c.in_ok-xs.ensures in
    let count : c.len.result ≡ length c.in_ok-xs.xs.items = omega (arith, c.len.ensures, c.in_ok-xs.xs.ok.0) in
    let ys_are = above_ys keys levels (length levels - 1) c.in_ok-xs.xs.items c.in_ok-ys.ys.items last xs_are
    (c.in_ok-ys.ensures ∙ ap places count) in
    let own = rw (c.new-list.ensures.xs, c.new-list.ensures.ys, c.as_slice.ensures.value, c.as_slice-2.ensures.value)
    at c.in_ok-runs.ensures in
    record {
      segments = above_level keys c.args.bounds.eps c.args.bounds.eps_rec levels c.in_ok-xs.xs.items
          c.in_ok-ys.ys.items c.in_ok-runs.runs.segments.items (omega (arith, last)) xs_are ys_are own.segments;
      models = level_models keys c.args.bounds.eps c.args.bounds.eps_rec levels c.in_ok-xs.xs.items
          c.in_ok-ys.ys.items c.args.bounds.eps_rec c.in_ok-runs.runs.segments.items c.in_ok-runs.runs.models.items
          xs_are ys_are
          (eps_at-above c.args.bounds.eps c.args.bounds.eps_rec (length levels) (omega (arith, last))) own.models;
      xs = xs_are;
    }

pub returns-clause-cost : goal.returns-clause-cost
returns-clause-cost g c =
    let keys = c.args.points.now in
    let levels = c.args.levels.now in
    let last : length levels - 1 + 1 ≡ length levels = omega (arith, c.requires.some) in
    let xs_are = above_xs keys levels
    (length levels - 1) c.index-levels-below.result c.list_at.result.now c.in_ok-xs.xs.items c.deref.result.now last
    c.index-levels-below.is c.deref.ensures.value c.list_at.ensures c.in_ok-xs.ensures in
    omega (
      arith,
      c.in_ok-runs.ensures.cost,
      ap length c.new-list.ensures.xs,
      ap length c.as_slice.ensures.value,
      ap length xs_are,
    )
