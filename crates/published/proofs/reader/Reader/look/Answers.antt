use Rattle.published.proofs.OnlyGrows.{sees, goes_on_self}
use Rattle.published.proofs.reader.Reader.look.Goals as goal

pub enter_as-requires : goal.enter_as-requires
enter_as-requires c x = sees _ _ x x (goes_on_self x)
