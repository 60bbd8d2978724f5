-- A cut that doesn't lie in its run is none that holds.
use Rattle.cut_witness.proofs.is_cut_if_any.Goals as goal

pub returns-else-is_inside : goal.returns-else-is_inside
returns-else-is_inside c = record {
  exact = (
    λ test. absurd (cc (test, c.if-is_inside.false)),
    λ cut. let (witness, inside, place) = cut.shown c.in-Some.w c.in-Some.is in c.is_inside.ensures.1 (inside, place),
  );
}
