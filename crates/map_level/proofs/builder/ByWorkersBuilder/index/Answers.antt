use Rattle.map_level.proofs.builder.ByWorkersBuilder.index.Goals as goal

pub returns : goal.returns
returns g c = (c.requires.1 c.args.keys).1 c.index.result c.index.ensures
