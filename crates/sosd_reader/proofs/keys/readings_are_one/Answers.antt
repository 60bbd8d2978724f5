use Rattle.sosd_reader.specs.NumberFiles.Kind.{of_keys}
use Rattle.sosd_reader.proofs.Exists.{readings-are-one}
use Rattle.sosd_reader.proofs.keys.readings_are_one.Goals as goal

pub returns-clause-wide : goal.returns-clause-wide
returns-clause-wide c = readings-are-one (of_keys 8)

pub returns-clause-narrow : goal.returns-clause-narrow
returns-clause-narrow c = readings-are-one (of_keys 4)
