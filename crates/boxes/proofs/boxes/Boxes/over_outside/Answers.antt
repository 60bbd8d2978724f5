-- Behind a code outside the walk goes on where the jump leads.
use Rattle.std.proofs.Common.{length, ap, arith}
use Rattle.boxes.proofs.LookedLemmas.{of_region, none_inside_over, not_empty, walk_over}
use Rattle.boxes.proofs.boxes.Boxes.over_outside.Goals as goal

pub jump-at-requires-clause-some_inside : goal.jump-at-requires-clause-some_inside
jump-at-requires-clause-some_inside c =
    let codes = c.args.self.now.codes in
    let is = c.codes-codes.ensures.codes in
    let of = of_region
    c.args.corners.now.region
    codes _ _ is c.requires.dims c.codes-codes.ensures.never_falls c.codes-codes.ensures.each in
    not_empty c.args.corners.now.region codes of c.args.walk.at c.args.walk.looked
    (omega (arith, c.if-walk-codes.false, ap length is)) c.requires.walked

pub returns-clause-walked : goal.returns-clause-walked
returns-clause-walked c =
    let codes = c.args.self.now.codes in
    let is = c.codes-codes.ensures.codes in
    let of = of_region
    c.args.corners.now.region
    codes _ _ is c.requires.dims c.codes-codes.ensures.never_falls c.codes-codes.ensures.each in
    let jump = c.jump-at.ensures in
    walk_over c.args.corners.now.region codes of c.args.walk.at
    c.args.walk.looked c.jump-at.result jump.onwards jump.within c.requires.walked jump.skipped jump.due

pub returns-clause-same : goal.returns-clause-same
returns-clause-same c =
    let codes = c.args.self.now.codes in
    let is = c.codes-codes.ensures.codes in
    let of = of_region
    c.args.corners.now.region
    codes _ _ is c.requires.dims c.codes-codes.ensures.never_falls c.codes-codes.ensures.each in
    let jump = c.jump-at.ensures in
    none_inside_over c.args.corners.now.region codes of c.args.walk.at c.jump-at.result jump.onwards jump.within
    (c.requires.outside (omega (arith, c.if-walk-codes.false, ap length is))) jump.skipped
