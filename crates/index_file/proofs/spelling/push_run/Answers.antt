-- The bytes of a run, one number after the other.
use Rattle.index_file.proofs.Spelled.{run-added}
use Rattle.index_file.proofs.spelling.push_run.Goals as goal

pub returns : goal.returns
returns c =
    run-added c.args.bytes.now.items c.push_number.new.bytes.items
    c.push_number-2.new.bytes.items c.push_number-3.new.bytes.items c.push_cut.new.bytes.items c.args.run
    c.in_ok-push_number.ensures c.in_ok-push_number-2.ensures c.in_ok-push_number-3.ensures c.in_ok-push_cut.ensures
