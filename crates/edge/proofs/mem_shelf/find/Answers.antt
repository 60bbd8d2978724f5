use Rattle.std.proofs.Common.{◌≡◌, sym, ◌∙◌, ap, arith, true, get_or}
use Rattle.std.specs.Str.{bytes_eq}
use Rattle.std.specs.String.{string_bytes}
use Rattle.edge.proofs.FileLemmas.{contents_of-drop}
use Rattle.edge.proofs.mem_shelf.find.Goals as goal

pub returns-then-eq-clause-found : goal.returns-then-eq-clause-found
returns-then-eq-clause-found c =
    let named : bytes_eq (string_bytes (get_or c.args.files.now c.loop-i.i c.index-files-i.result).0) c.args.name.now
    ≡ true = cc (ap (λ f. bytes_eq (string_bytes f.0) c.args.name.now) c.index-files-i.is) in
    let step = contents_of-drop c.args.files.now c.args.name.now c.loop-i.i c.index-files-i.result (omega arith) in
    sym c.loop-i.invariant ∙ rw named at step
