use Rattle.log_levels.proofs.log_map.LogMap.take_greatest.Goals as goal

pub move_back-requires : goal.move_back-requires
move_back-requires c = (
  c.args.end,
  (c.requires, c.in_ok-greatest.ensures.below, λ other above less. c.in_ok-greatest.ensures.absent other less above),
)
