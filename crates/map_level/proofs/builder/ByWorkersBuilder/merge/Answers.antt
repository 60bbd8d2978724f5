use Rattle.map_level.proofs.builder.ByWorkersBuilder.merge.Goals as goal

pub returns : goal.returns
returns g c =
    (c.requires.ready.0
    c.args.newer c.args.older c.args.deepest c.requires.newer_ascending c.requires.older_ascending).1
    c.merge.result c.merge.ensures
