use Rattle.std.proofs.Common.{append_assoc}
use Rattle.commands.proofs.explain.fill_run_line.Goals as goal

pub returns : goal.returns
returns c =
    rw (
      c.push_ending.ensures,
      c.push_line.ensures.text,
      c.push_places-2.ensures.text,
      c.push_places.ensures.text,
      c.clear.ensures,
    )
    (simp append_assoc)
