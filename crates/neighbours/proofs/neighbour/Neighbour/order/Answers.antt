use Rattle.std.proofs.Common.{⊎_elim, arith}
use Rattle.std.specs.Cmp.{nat_cmp_is}
use Rattle.std.specs.declared.cmp.Ordering.TheVariants.{Less, Equal, Greater}
use Rattle.std.proofs.lemmas.Bool.{cases_lt, iff_false}
use Rattle.neighbours.specs.Neighbours.{rank_of}
use Rattle.neighbours.proofs.neighbour.Neighbour.order.Goals as goal

pub returns-then-stands_before : goal.returns-then-stands_before
returns-then-stands_before c =
    (nat_cmp_is (rank_of c.args.self) (rank_of c.args.other) Less (c.stands_before.ensures.0 c.if-stands_before.true))

pub returns-then-stands_before-2 : goal.returns-then-stands_before-2
returns-then-stands_before-2 c =
    (nat_cmp_is (rank_of c.args.self) (rank_of c.args.other) Greater
    (c.stands_before-2.ensures.0 c.if-stands_before-2.true))

pub returns : goal.returns
returns c =
    ⊎_elim (λ less. absurd (iff_false c.stands_before.ensures c.if-stands_before.false less))
    (λ from. ⊎_elim (λ more. absurd (iff_false c.stands_before-2.ensures c.if-stands_before-2.false more))
    (λ to. (nat_cmp_is (rank_of c.args.self) (rank_of c.args.other) Equal (omega arith)))
    (cases_lt (rank_of c.args.other) (rank_of c.args.self)))
    (cases_lt (rank_of c.args.self) (rank_of c.args.other))
