use Rattle.std.proofs.Common.{◌≡◌, ◌+◌, ◌<◌, max, Some, None, IfSome, refl, subst, sym, arith}
use Rattle.map_level.specs.Levels.{last_at}
use Rattle.log_levels.specs.Kept.{AreBehind, IsFirst, IsFirstFrom, IsLeastLeft, IsUpcoming, value_of}
use Rattle.log_levels.proofs.HeadLemmas.{least-head}
use Rattle.log_levels.proofs.WalkLemmas.{absent-before, taken-first, taken-level}
use Rattle.log_levels.proofs.WalkLemmas.{later-than, later-key, none-first, upcoming-max}
use Rattle.log_levels.proofs.log_map.LogMap.take_least.Goals as goal

pub returns-in-Some-clause-least : goal.returns-in-Some-clause-least
returns-in-Some-clause-least c = λ key from less.
    absent-before c.args.self.now (Some c.in-Some.entry) c.args.walk.now.places c.args.low key c.first_head-found.result
    (subst (IsFirstFrom c.args.self.now.buffer c.args.low) c.in-Some.ensures.next.0 c.requires.left.buffer.next)
    (least-head c.args.self.now c.args.walk.now.places c.args.low c.args.walk.now.heads.items c.first_head-found.result
    c.requires.left.next c.requires.left.levels c.first_head-found.ensures.none c.first_head-found.ensures.first)
    from less
    (c.in-Some.ensures.next.1 key less)

pub returns-in-Some-clause-last : goal.returns-in-Some-clause-last
returns-in-Some-clause-last c = λ entries from cut.
    taken-first c.args.self.now entries c.args.low c.in-Some.entry cut
    (subst (IsFirstFrom c.args.self.now.buffer c.args.low) c.in-Some.ensures.next.0 c.requires.left.buffer.next)

pub returns-in_err-first-clause-none : goal.returns-in_err-first-clause-none
returns-in_err-first-clause-none c = λ none key from.
    absent-before c.args.self.now None c.args.walk.now.places c.args.low key None
    (subst (IsFirstFrom c.args.self.now.buffer c.args.low)
    (none-first c.args.walk.now.buffered.next c.first_head-found.result c.in_err-first.was
    (c.in_default.ensures.none refl))
    c.requires.left.buffer.next)
    (subst (IsLeastLeft c.args.self.now c.args.walk.now.places c.args.low) c.in_err-first.was
    (least-head c.args.self.now c.args.walk.now.places c.args.low c.args.walk.now.heads.items c.first_head-found.result
    c.requires.left.next c.requires.left.levels c.first_head-found.ensures.none c.first_head-found.ensures.first))
    from tt tt

pub take_from_level-requires-clause-first : goal.take_from_level-requires-clause-first
take_from_level-requires-clause-first c = subst
    (λ found. IfSome found (IsFirst c.args.walk.now.heads.items)) c.in_ok-first.was c.first_head-found.ensures.first

pub returns-clause-least : goal.returns-clause-least
returns-clause-least c = λ key from less.
    let later = later-than c.args.walk.now.buffered.next c.first_head-found.result c.in_ok-first.first c.in_ok-first.was
    (c.in_default.ensures.none refl) in
    let below : key < c.in_ok-first.first.key = omega (arith, less, c.take_from_level.ensures.key) in
    absent-before c.args.self.now c.args.walk.now.buffered.next c.args.walk.now.places c.args.low key
    (Some c.in_ok-first.first) c.requires.left.buffer.next
    (subst (IsLeastLeft c.args.self.now c.args.walk.now.places c.args.low) c.in_ok-first.was
    (least-head c.args.self.now c.args.walk.now.places c.args.low c.args.walk.now.heads.items c.first_head-found.result
    c.requires.left.next c.requires.left.levels c.first_head-found.ensures.none c.first_head-found.ensures.first))
    from
    (later-key c.in_ok-first.first.key key c.args.walk.now.buffered.next later below) below

pub returns-clause-last : goal.returns-clause-last
returns-clause-last c = λ entries from cut.
    let later = later-than c.args.walk.now.buffered.next c.first_head-found.result c.in_ok-first.first c.in_ok-first.was
    (c.in_default.ensures.none refl) in
    let least : IsLeastLeft c.args.self.now c.args.walk.now.places c.args.low (Some c.in_ok-first.first) =
    subst (IsLeastLeft c.args.self.now c.args.walk.now.places c.args.low) c.in_ok-first.was
    (least-head c.args.self.now c.args.walk.now.places c.args.low c.args.walk.now.heads.items c.first_head-found.result
    c.requires.left.next c.requires.left.levels c.first_head-found.ensures.none c.first_head-found.ensures.first) in
    subst (λ k. value_of (last_at entries k) ≡ c.take_from_level.result.value) (sym c.take_from_level.ensures.key)
    (taken-level c.args.self.now entries c.args.walk.now.buffered.next c.args.low
    c.in_ok-first.first.key c.in_ok-first.first.level c.take_from_level.result cut c.requires.left.buffer.next later
    least.newer (omega (arith, from, c.take_from_level.ensures.key))
    least.at.inside least.at.taken c.take_from_level.ensures.entry)

pub returns-clause-left : goal.returns-clause-left
returns-clause-left c =
    let later = later-than c.args.walk.now.buffered.next c.first_head-found.result c.in_ok-first.first c.in_ok-first.was
    (c.in_default.ensures.none refl) in
    record {
      buffer =
          subst (λ k. IsUpcoming c.args.self.now.buffer (max c.args.low (k + 1)) c.take_from_level.new.walk.buffered)
          (sym c.take_from_level.ensures.key)
          (subst (IsUpcoming c.args.self.now.buffer (max c.args.low (c.in_ok-first.first.key + 1)))
          (sym c.take_from_level.ensures.buffered)
          (upcoming-max c.args.self.now.buffer
          c.args.low c.in_ok-first.first.key c.args.walk.now.buffered c.requires.left.buffer later));
      levels = subst (λ k. AreBehind c.args.self.now c.take_from_level.new.walk.places (max c.args.low (k + 1)))
          (sym c.take_from_level.ensures.key)
          (c.take_from_level.ensures.behind c.args.low c.requires.left.levels);
      next = c.take_from_level.ensures.heads;
    }
