-- What the crates above cite: what an index is by its levels, that there is one, and the windows along a lookup.
pub use Rattle.levels.proofs.LevelLemmas.{xs_at-base, ys_at-base, xs_at-above, ys_at-above, xs_at-length}
pub use Rattle.levels.proofs.LevelLemmas.{AscendsAt, IsIndex-unique, IsRelaxedIndex-unique}
pub use Rattle.levels.proofs.LevelLemmas.{IsLaidIndex-from_index, IsLaidIndex-from_relaxed}
pub use Rattle.key_points.proofs.CallerLemmas.{xs-rise, xs-few, xs-first, ys-length, ys-at, ys-never_fall}
pub use Rattle.levels.proofs.LookupLemmas.{extent_at-base, extent_at-above}
pub use Rattle.levels.proofs.StoredLemmas.{eps_at-above}
pub use Rattle.levels.proofs.IndexLemmas.{IsIndex-least, IsIndex-checked, laid-shown}
pub use Rattle.levels.proofs.IndexLemmas.{ascends, AreWindows-unique, AreWindows-some}
pub use Rattle.levels.proofs.IndexExists.{IsIndex-some}
pub use Rattle.levels.proofs.HeightLemmas.{long_level, levels_low, levels_low_over_runs}
pub use Rattle.levels.proofs.RunsApart.{HasRun-each, HasRun-within, HasRun-unique}
pub use Rattle.levels.proofs.RunLemmas.{first_x-order}
