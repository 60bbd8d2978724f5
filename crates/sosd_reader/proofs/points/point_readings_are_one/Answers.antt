use Rattle.sosd_reader.specs.NumberFiles.Kind.{of_points}
use Rattle.sosd_reader.proofs.Exists.{readings-are-one}
use Rattle.sosd_reader.proofs.points.point_readings_are_one.Goals as goal

pub returns : goal.returns
returns c = λ d. readings-are-one (of_points d)
