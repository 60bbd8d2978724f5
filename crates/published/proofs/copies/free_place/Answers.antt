use Rattle.published.proofs.OnlyGrows.{admits}
use Rattle.published.proofs.copies.free_place.Goals as goal

pub reader-requires : goal.reader-requires
reader-requires g c = admits
