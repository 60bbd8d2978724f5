use Rattle.std.proofs.Common.{◌≡◌, drop}
use Rattle.edge.specs.Files.{contents_of}
use Rattle.edge.proofs.mem_shelf.find.Given as goal

-- the files so far have other names
abbrev pub invariant-loop-i : goal.invariant-loop-i
invariant-loop-i l = contents_of (drop l.i l.files) l.name ≡ contents_of l.files l.name
