-- The points that a list of them stands for.
use Rattle.exact_cross.specs.declared.points.PointList.{PointList}
use Rattle.exact_cross.specs.Points.{Points, points_of}

-- each x with the y at its place
abbrev pub points_in : PointList → Points
points_in list = points_of list.xs.now list.ys.now
