-- What the replay leaves is what is left.
use Rattle.std.proofs.Common.{refl}
use Rattle.map_replay.proofs.replaying.replay_on.Goals as goal

pub returns-in-Ok : goal.returns-in-Ok
returns-in-Ok g c =
    let is = c.in-Ok.ensures in
    record {
      history = is.history;
      shown = is.end.shown;
      same = is.end.whole;
      whole = refl;
      published = is.published;
      count = is.end.count;
      each = is.end.each;
    }
