-- The bytes of the head, one number after the other.
use Rattle.index_file.proofs.Spelled.{head-added}
use Rattle.index_file.proofs.spelling.spell_head.Goals as goal

pub returns : goal.returns
returns c =
    head-added c.new-bytes.result.items c.push_magic.new.bytes.items c.push_number.new.bytes.items
    c.push_number-2.new.bytes.items c.push_number-3.new.bytes.items c.args.eps c.args.eps_rec c.args.levels
    c.new-bytes.ensures.items c.in_ok-push_magic.ensures
    c.in_ok-push_number.ensures c.in_ok-push_number-2.ensures c.in_ok-push_number-3.ensures
