-- The end of the jump is among the near codes, or all codes are below the one that is looked for.
use Rattle.std.proofs.Common.{◌≡◌, ◌∙◌, ◌+◌, ◌-◌, ◌<◌, ℕ, length, slice_index, ap, subst, arith}
use Rattle.boxes.proofs.LookedLemmas.{bound_among, bound_at_end, part_sorted}
use Rattle.boxes.proofs.boxes.Boxes.lower_bound_past.Goals as goal

pub returns-then-code-codes : goal.returns-then-code-codes
returns-then-code-codes c =
    let shown = c.codes-codes.result.now in
    let inside : c.args.at < length shown = omega (arith, c.requires.here, ap length c.codes-codes.ensures.codes) in
    let sorted =
    part_sorted shown (c.args.at + 1) (c.min-end.result - (c.args.at + 1)) c.codes-codes.ensures.never_falls in
    bound_among shown c.args.self.now.codes c.args.code
    c.args.at c.min-end.result c.front_below.result c.codes-codes.ensures.codes c.codes-codes.ensures.never_falls
    (omega (arith, inside, c.min-end.ensures)) (omega (arith, c.min-end.ensures)) c.requires.above c.if-code-codes.true
    (c.front_below.ensures.below sorted) (c.front_below.ensures.from sorted) c.front_below.ensures.within

pub returns-then-end-codes : goal.returns-then-end-codes
returns-then-end-codes c =
    let shown = c.codes-codes.result.now in
    let last : c.min-end.result ≡ length shown = c.if-end-codes.true in
    last ∙ bound_at_end
    shown c.args.self.now.codes c.args.code c.codes-codes.ensures.codes c.codes-codes.ensures.never_falls
    (subst (λ (k : ℕ). slice_index shown (k - 1) < c.args.code) last c.if-code-codes.false)
