use Rattle.std.proofs.Common.{sym, ◌∙◌}
use Rattle.edge.proofs.FileLemmas.{file_at-get_or}
use Rattle.edge.proofs.mem_shelf.file_of.Goals as goal

pub returns : goal.returns
returns c = c.deref.ensures.value ∙ sym (file_at-get_or c.args.files.now c.args.i c.index-files-i.result c.requires)
